use Rattle.std.proofs.Common.{◌≤◌, length, sym, subst, arith}
use Rattle.std.specs.Vec.{vec_capacity}
use Rattle.ready_driver.specs.Due.{IsMarked}
use Rattle.ready_driver.proofs.Marking.{marked-none}
use Rattle.ready_driver.proofs.due.Due.clear.Goals as goal

pub invariant_of-self : goal.invariant_of-self
invariant_of-self c =
    let marks = c.unmark.new.marks.items in
    let room = vec_capacity c.clear.new.self in
    let len = c.unmark.ensures.len in
    let old = c.self.invariant.fits in
    let same = c.clear.ensures.capacity in
    let fits : length marks ≤ room = omega (arith, len, old, same) in
    subst (λ hs. IsMarked hs marks room) (sym c.clear.ensures.items) (marked-none marks room c.unmark.ensures.none fits)
