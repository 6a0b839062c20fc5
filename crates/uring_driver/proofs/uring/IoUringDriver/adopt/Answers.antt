use Rattle.std.proofs.Common.{sym, ◌∙◌, ap, subst}
use Rattle.std.specs.Prelude.{is_some}
use Rattle.std.specs.FinMap.{get, len}
use Rattle.uring_driver.specs.Holding.{Holding, places}
use Rattle.uring_driver.specs.Released.{HasHandleRoom}
use Rattle.uring_driver.specs.State.{IsSound, AreHolding}
use Rattle.uring_driver.proofs.Closings.{unknown}
use Rattle.uring_driver.proofs.Handling.{kept-new, room-new}
use Rattle.uring_driver.proofs.uring.IoUringDriver.adopt.Goals as goal
use Rattle.uring_driver.proofs.uring.IoUringDriver.adopt.Goals.{in-Ok, in-Err}

pub invariant_of-self : goal.invariant_of-self
invariant_of-self g c =
    let holding = c.self.inside.handles in
    let room = c.self.inside.ring.room in
    let slots = c.self.inside.ops.slots.values in
    let given = c.self.inside.ops.given in
    let spare = subst (λ x. HasHandleRoom x) (sym c.self.view_is) c.in_ok-reserve_handle.ensures.ok in
    let fresh = ap (λ x. is_some (get x.holding.table.holders c.args.h)) c.self.view_is
    ∙ ap (λ t. is_some (get t.holders c.args.h)) c.reserve_handle.ensures.table
    ∙ (unknown c.args.self.now.holding c.args.h c.requires.fresh).0 in
    elim c.match-add.branch [
      | in-Ok w ↦ (
          let kept = kept-new room slots given holding c.add.new.self c.args.h (c.self.invariant.0, c.self.invariant.1) w.in-Ok.ensures.ok
          fresh spare.entry in
          (kept.0, kept.1, c.self.invariant.2))
      | in-Err w ↦ (
          let kept =
          subst (λ (x : Holding). IsSound room slots (places x) × AreHolding x slots given) {x = holding} (sym w.in-Err.ensures.err)
          (c.self.invariant.0, c.self.invariant.1) in
          (kept.0, kept.1, c.self.invariant.2))
    ]

pub returns-clause-room : goal.returns-clause-room
returns-clause-room g c =
    let holding = c.self.inside.handles in
    let spare = subst (λ x. HasHandleRoom x) (sym c.self.view_is) c.in_ok-reserve_handle.ensures.ok in
    let fresh = ap (λ x. is_some (get x.holding.table.holders c.args.h)) c.self.view_is
    ∙ ap (λ t. is_some (get t.holders c.args.h)) c.reserve_handle.ensures.table
    ∙ (unknown c.args.self.now.holding c.args.h c.requires.fresh).0 in
    elim c.match-add.branch [
      | in-Ok w ↦ rw w.result-is (room-new c.self.inside.ring.room (len c.self.inside.ops.slots.values) holding c.add.new.self c.args.h
          w.in-Ok.ensures.ok fresh spare.entry)
      | in-Err w ↦ rw w.result-is tt
    ]
