use Rattle.std.proofs.Common.{◌≡◌, ◌<◌, ◌++◌, false, true, [], ◌∷◌, length, get_or, set, sym, subst, arith}
use Rattle.std.specs.Vec.{vec_capacity}
use Rattle.ready_driver.specs.Due.{IsMarked}
use Rattle.ready_driver.proofs.Marking.{room-unmarked, marked-added}
use Rattle.ready_driver.proofs.due.Due.add.Goals as goal

pub push_reserved-requires : goal.push_reserved-requires
push_reserved-requires c =
    let marks = c.self.inside.marks.items in
    let in_range : c.args.h < length marks =
    let count = c.len.ensures in let below = c.if-at-len.true in let ok = c.self.inside.marks.ok in omega (arith, count, below, ok) in
    let unmarked : get_or marks c.args.h false ≡ false =
    sym (subst (λ x. x ≡ get_or marks c.args.h x) c.if-not-index.true c.index.ensures) in
    let room = room-unmarked c.self.inside.list.items marks _ c.args.h c.self.invariant in_range unmarked in
    let ok = c.self.inside.list.ok in
    omega (arith, room, ok)

pub invariant_of-self : goal.invariant_of-self
invariant_of-self c =
    let marks = c.self.inside.marks.items in
    let in_range : c.args.h < length marks =
    let count = c.len.ensures in let below = c.if-at-len.true in let ok = c.self.inside.marks.ok in omega (arith, count, below, ok) in
    let unmarked : get_or marks c.args.h false ≡ false =
    sym (subst (λ x. x ≡ get_or marks c.args.h x) c.if-not-index.true c.index.ensures) in
    let all = marked-added c.self.inside.list.items marks _ c.args.h c.self.invariant in_range unmarked in
    subst (λ hs. IsMarked hs (set marks c.args.h true) (vec_capacity c.push_reserved.new.self)) (sym c.push_reserved.ensures.items)
    (subst (IsMarked (c.self.inside.list.items ++ c.args.h ∷ []) (set marks c.args.h true)) (sym c.push_reserved.ensures.capacity) all)
