use Rattle.std.proofs.Common.{refl, ap, ◌∙◌}
use Rattle.uring_driver.proofs.Starting.{stands-feeds, refuses-feed}
use Rattle.uring_driver.proofs.uring.memory.IoUringDriver+MemRing+B.feed.Goals as goal
use Rattle.ring_core.specs.Ring.{RingView}
use Rattle.uring_driver.specs.Holding.{places}
use Rattle.uring_driver.specs.State.{State, IsSound}
use Rattle.std.proofs.Common.{IsTrue, sym, subst}
use Rattle.ring_core.specs.Lends.{with_world}
use Rattle.uring_driver.specs.Uring.{ring_in, holds_handle}

pub returns-clause-answers : goal.returns-clause-answers
returns-clause-answers g c =
    let d : State RingView g.row.B.Denot = record {
      ring = c.self.inside.ring;
      slots = c.self.inside.ops.slots;
      given = c.self.inside.ops.given;
      holding = c.self.inside.handles;
      members = c.self.inside.members;
    } in
    let holds = subst (λ x. IsTrue (holds_handle x c.args.h)) (sym c.self.view_is) c.requires.held in
    rw (← c.self.view_is) (
    λ L stands.
    let changed = c.in-Ok.ensures.rest in
    stands-feeds g.B.IoBufMut.buffer d _ L stands refl (ap (λ x. x.due) changed)
    refl refl c.args.h c.args.bytes.now holds c.in-Ok.ensures.feeds.0
    (ap (λ x. x.ring) changed ∙ ap (with_world (ring_in d)) c.in-Ok.ensures.feeds.1) refl (ap (λ x. x.room) changed))

pub returns-in-Err-clause-answers : goal.returns-in-Err-clause-answers
returns-in-Err-clause-answers g c =
    let d : State RingView g.row.B.Denot = record {
      ring = c.self.inside.ring;
      slots = c.self.inside.ops.slots;
      given = c.self.inside.ops.given;
      holding = c.self.inside.handles;
      members = c.self.inside.members;
    } in
    let holds = subst (λ x. IsTrue (holds_handle x c.args.h)) (sym c.self.view_is) c.requires.held in
    rw (← c.self.view_is) (
    λ L stands. refuses-feed g.B.IoBufMut.buffer d L stands c.args.h holds c.args.bytes.now _ c.in-Err.why c.in-Err.ensures.feeds)

pub invariant_of-self-2 : goal.invariant_of-self-2
invariant_of-self-2 g c =
    let changed = c.in-Ok.ensures.rest in (
      subst (λ n. IsSound n c.self.inside.ops.slots.values (places c.self.inside.handles)) (sym (ap (λ x. x.room) changed))
          c.self.invariant.0,
      c.self.invariant.1,
      c.self.invariant.2,
    )
