use Rattle.std.proofs.Common.{◌∙◌, refl}
use Rattle.uring_driver.proofs.Means.{by_parts}
use Rattle.driver_core.proofs.Placing.{in-slots-kept}
use Rattle.uring_driver.proofs.Wholes.{whole}
use Rattle.uring_driver.proofs.uring.IoUringDriver.end_turn.Goals as goal

pub returns-clause-meets : goal.returns-clause-meets
returns-clause-meets g c =
    rw (← c.self.view_is) (
    λ old has.
    whole g.R.Ring.view g.B.IoBufMut.buffer g.R.Ring.tells g.R.Ring.steady old
    (by_parts c.self.inside.ring c.self.inside.ops c.self.inside.handles c.self.inside.members)
    (by_parts c.reap_all-bad.new.ring c.reap_all-bad.new.ops c.reap_all-bad.new.handles c.self.inside.members) c.args.begun c.turned.result
    c.reap_all-bad.new.named c.reap_all-bad.result has c.reap_all-bad.ensures.reaps
    c.self.invariant.1.making c.reap_all-bad.ensures.none_due
    c.reap_all-bad.ensures.numbers c.reap_all-bad.ensures.given refl
    (c.turned.ensures.reaped ∙ c.keep_empty-named.ensures.reaped) (c.turned.ensures.closed ∙ c.keep_empty-named.ensures.closed)
    (c.turned.ensures.woken ∙ c.keep_empty-named.ensures.woken)
    (c.turned.ensures.stop ∙ c.stop_of.ensures))

pub invariant_of-self : goal.invariant_of-self
invariant_of-self g c = (
  c.reap_all-bad.ensures.sound,
  c.reap_all-bad.ensures.holding,
  in-slots-kept c.self.inside.members c.self.inside.ops.slots.values c.reap_all-bad.new.ops.slots.values c.reap_all-bad.ensures.numbers
      c.self.invariant.2,
)
