use Rattle.std.proofs.Common.{◌+◌, ◌≤◌, length, sym, subst, arith}
use Rattle.std.specs.Vec.{vec_capacity}
use Rattle.ready_driver.specs.Due.{IsMarked}
use Rattle.ready_driver.proofs.Marking.{marked-grown}
use Rattle.ready_driver.proofs.due.Due.grow.Goals as goal

pub invariant_of-self-2 : goal.invariant_of-self-2
invariant_of-self-2 c =
    let marks = c.self.inside.marks.items in
    let room = vec_capacity c.reserve.new.self in
    let more = c.in_ok-reserve.ensures.ok in
    let count = c.len.ensures in
    let ok = c.self.inside.marks.ok in
    let fits : length marks + 1 ≤ room = omega (arith, more, count, ok) in
    subst (λ hs. IsMarked hs c.push.new.self.items room) (sym c.reserve.ensures.items)
    (subst (λ ms. IsMarked c.self.inside.list.items ms room) (sym c.in_ok-push.ensures.items)
    (marked-grown c.self.inside.list.items marks _ room c.self.invariant fits))
