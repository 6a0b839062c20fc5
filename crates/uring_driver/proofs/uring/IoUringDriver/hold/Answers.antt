use Rattle.std.proofs.Common.{◌≡◌, true, refl, sym, subst}
use Rattle.uring_driver.specs.State.{State}
use Rattle.uring_driver.specs.Uring.{holds_handle}
use Rattle.uring_driver.proofs.Handling.{kept-more, stands-more}
use Rattle.uring_driver.proofs.uring.IoUringDriver.hold.Goals as goal

pub invariant_of-self : goal.invariant_of-self
invariant_of-self g c =
    let held = subst (λ k. holds_handle c.args.self.now k ≡ true) (sym c.number.ensures) c.requires.held in
    let kept = kept-more c.self.inside.ring.room c.self.inside.ops.slots.values c.self.inside.ops.given c.self.inside.handles
    c.hold.new.self c.number.result (c.self.invariant.0, c.self.invariant.1) c.hold.ensures
    (subst (λ x. holds_handle x c.number.result ≡ true) (sym c.self.view_is) held) in
    (kept.0, kept.1, c.self.invariant.2)

pub returns-clause-stands : goal.returns-clause-stands
returns-clause-stands g c =
    let d : State g.row.R.Denot g.row.B.Denot = record {
      ring = c.self.inside.ring;
      slots = c.self.inside.ops.slots;
      given = c.self.inside.ops.given;
      holding = c.self.inside.handles;
      members = c.self.inside.members;
    } in
    let held = subst (λ k. holds_handle c.args.self.now k ≡ true) (sym c.number.ensures) c.requires.held in
    rw (← c.self.view_is) (λ L stands. stands-more g.R.Ring.view g.B.IoBufMut.buffer d
    (record d { holding = c.hold.new.self }) L c.number.result stands
    (subst (λ x. holds_handle x c.number.result ≡ true) (sym c.self.view_is) held) refl refl refl refl c.hold.ensures)
