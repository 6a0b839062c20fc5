use Rattle.std.proofs.Common.{◌-◌, ap, arith}
use Rattle.handle_core.specs.declared.table.Holders.{Holders}
use Rattle.handle_core.proofs.Tables.{found, unfound, written, removed, held-last, last-last}
use Rattle.handle_core.proofs.Kept.{kept-written, kept-removed}
use Rattle.handle_core.proofs.table.HandleTable.release.Goals as goal

pub overflow_sub-held : goal.overflow_sub-held
overflow_sub-held c =
    let was = found c.self.inside.handles _ _ c.self.view_is _ _ c.in-Some.ensures.value in
    omega (arith, c.requires.held, ap (λ (h : Holders). h.user) was)

pub returns-then-is_held-clause-last : goal.returns-then-is_held-clause-last
returns-then-is_held-clause-last c = rw (found c.self.inside.handles _ _ c.self.view_is _ _ c.in-Some.ensures.value)
    (held-last _ (c.is_held.ensures.0 c.if-is_held.true))

pub returns-then-is_held-clause-stays : goal.returns-then-is_held-clause-stays
returns-then-is_held-clause-stays c = λ e. rw (found c.self.inside.handles _ _ c.self.view_is _ _ c.in-Some.ensures.value)
    (written c.self.inside.handles _ _ c.self.view_is _ _ _ _ c.in-Some.ensures.value (c.get_mut.follows.holds _))

pub returns-clause-last : goal.returns-clause-last
returns-clause-last c = rw (found c.self.inside.handles _ _ c.self.view_is _ _ c.in-Some.ensures.value)
    (last-last _ (λ some. let is = c.if-is_held.ensures.1 some in cc))

pub returns-clause-left : goal.returns-clause-left
returns-clause-left c =
    let left : Holders = record { user = c.in-Some.held.now.user - 1; operations = c.in-Some.held.now.operations } in
    λ e. removed c.self.inside.handles _ _ c.self.view_is (c.get_mut.follows.lender left) c.remove.new.self _ _ left
    c.in-Some.ensures.value (c.get_mut.follows.holds left) c.remove.ensures.updates

pub invariant_of-self : goal.invariant_of-self
invariant_of-self c =
    kept-written c.self.inside.handles _ c.self.invariant _ _ _ _ c.in-Some.ensures.value (c.get_mut.follows.holds _)
    (c.is_held.ensures.0 c.if-is_held.true)

pub invariant_of-self-2 : goal.invariant_of-self-2
invariant_of-self-2 c =
    let left : Holders = record { user = c.in-Some.held.now.user - 1; operations = c.in-Some.held.now.operations } in
    kept-removed c.self.inside.handles _ c.self.invariant (c.get_mut.follows.lender left) c.remove.new.self _ _ left
    c.in-Some.ensures.value (c.get_mut.follows.holds left) c.remove.ensures.updates c.remove.ensures.spare

pub unreachable-requires : goal.unreachable-requires
unreachable-requires c =
    let none = unfound c.self.inside.handles _ _ c.self.view_is _ c.in_default.ensures.value in
    omega (arith, c.requires.held, ap (λ (h : Holders). h.user) none)
