use Rattle.std.proofs.Common.{ap, arith}
use Rattle.handle_core.specs.declared.table.Holders.{Holders}
use Rattle.handle_core.proofs.Tables.{found, unfound, written}
use Rattle.handle_core.proofs.Kept.{kept-written}
use Rattle.handle_core.proofs.table.HandleTable.hand_over.Goals as goal

pub overflow_sub-held : goal.overflow_sub-held
overflow_sub-held c =
    let was = found c.self.inside.handles _ _ c.self.view_is _ _ c.in-Some.ensures.value in
    omega (arith, c.requires, ap (λ (h : Holders). h.operations) was)

pub returns : goal.returns
returns c = rw (c.once_at_least.ensures, found c.self.inside.handles _ _ c.self.view_is _ _ c.in-Some.ensures.value)
    (written c.self.inside.handles _ _ c.self.view_is _ _ _ _ c.in-Some.ensures.value (c.get_mut.follows.holds _))

pub invariant_of-self : goal.invariant_of-self
invariant_of-self c =
    kept-written c.self.inside.handles _ c.self.invariant _ _ _ _ c.in-Some.ensures.value (c.get_mut.follows.holds _) (omega arith)

pub unreachable-requires : goal.unreachable-requires
unreachable-requires c =
    let none = unfound c.self.inside.handles _ _ c.self.view_is _ c.in_default.ensures.value in
    omega (arith, c.requires, ap (λ (h : Holders). h.operations) none)
