use Rattle.std.proofs.Common.{refl, ap, arith}
use Rattle.handle_core.specs.declared.table.Holders.{Holders}
use Rattle.ready_driver.proofs.Kept.{holders-at, not-unheld, not-unplaced, written-held, written-paired}
use Rattle.ready_driver.proofs.records.Records.hold_op.Goals as goal

pub unreachable-requires : goal.unreachable-requires
unreachable-requires c = not-unheld c.self.inside.keys c.self.inside.slab _ c.self.invariant _ c.self.view_is c.args.h c.requires.known
    c.in_default.ensures.value

pub unreachable-requires-in_default-get_mut : goal.unreachable-requires-in_default-get_mut
unreachable-requires-in_default-get_mut c = not-unplaced c.self.inside.keys c.self.inside.slab _ c.self.invariant _ c.self.view_is
    c.args.h _
    c.in-Some.ensures.value c.in_default-get_mut.ensures.value

pub overflow_add-one : goal.overflow_add-one
overflow_add-one c =
    let was = holders-at c.self.inside.keys c.self.inside.slab _ c.self.invariant _ c.self.view_is c.args.h _ _ c.in-Some.ensures.value
    c.in-Some-get_mut.ensures.value in
    omega (arith, c.requires.counter, ap (λ (h : Holders). h.operations) was)

pub invariant_of-self : goal.invariant_of-self
invariant_of-self c = written-paired c.self.inside.keys c.self.inside.slab _ c.self.invariant _ c.self.view_is c.args.h _ _ _
    c.in-Some.ensures.value c.in-Some-get_mut.ensures.value refl refl

pub returns : goal.returns
returns c =
    rw (holders-at c.self.inside.keys c.self.inside.slab _ c.self.invariant _ c.self.view_is c.args.h _ _ c.in-Some.ensures.value
    c.in-Some-get_mut.ensures.value) (written-held c.self.inside.keys c.self.inside.slab _ c.self.invariant _ c.self.view_is c.args.h _ _ _
    c.in-Some.ensures.value c.in-Some-get_mut.ensures.value _ refl)
