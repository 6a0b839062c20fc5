use Rattle.std.proofs.Common.{◌-◌, refl, ap, arith}
use Rattle.handle_core.specs.declared.table.Holders.{Holders}
use Rattle.handle_core.proofs.Tables.{held-last, last-last}
use Rattle.ready_driver.specs.declared.records.One.{One}
use Rattle.ready_driver.proofs.Kept.{holders-at, nobody-at, not-unplaced, removed-one, removed-paired, written-held, written-paired}
use Rattle.ready_driver.proofs.records.Records.release.Goals as goal

pub unreachable-requires : goal.unreachable-requires
unreachable-requires c =
    let none = nobody-at c.self.inside.keys c.self.inside.slab _ c.self.invariant _ c.self.view_is c.args.h c.in_default.ensures.value in
    omega (arith, c.requires.held, ap (λ (h : Holders). h.user) none)

pub unreachable-requires-in_default-get_mut : goal.unreachable-requires-in_default-get_mut
unreachable-requires-in_default-get_mut c = not-unplaced c.self.inside.keys c.self.inside.slab _ c.self.invariant _ c.self.view_is
    c.args.h _
    c.in-Some.ensures.value c.in_default-get_mut.ensures.value

pub overflow_sub-one : goal.overflow_sub-one
overflow_sub-one c =
    let was = holders-at c.self.inside.keys c.self.inside.slab _ c.self.invariant _ c.self.view_is c.args.h _ _
    c.in-Some.ensures.value c.in-Some-get_mut.ensures.value in
    omega (arith, c.requires.held, ap (λ (h : Holders). h.user) was)

pub invariant_of-self : goal.invariant_of-self
invariant_of-self c = written-paired c.self.inside.keys c.self.inside.slab _ c.self.invariant _ c.self.view_is c.args.h _ _ _
    c.in-Some.ensures.value c.in-Some-get_mut.ensures.value refl refl

pub returns-then-is_held-clause-last : goal.returns-then-is_held-clause-last
returns-then-is_held-clause-last c = rw (holders-at c.self.inside.keys c.self.inside.slab _ c.self.invariant _ c.self.view_is c.args.h _ _
    c.in-Some.ensures.value c.in-Some-get_mut.ensures.value)
    (held-last _ (c.is_held.ensures.0 c.if-is_held.true))

pub returns-then-is_held-clause-stays : goal.returns-then-is_held-clause-stays
returns-then-is_held-clause-stays c = λ e. rw (holders-at c.self.inside.keys c.self.inside.slab _ c.self.invariant _ c.self.view_is
    c.args.h _ _
    c.in-Some.ensures.value c.in-Some-get_mut.ensures.value)
    (written-held c.self.inside.keys c.self.inside.slab _ c.self.invariant _ c.self.view_is c.args.h _ _ _
    c.in-Some.ensures.value c.in-Some-get_mut.ensures.value _ refl)

pub invariant_of-self-2 : goal.invariant_of-self-2
invariant_of-self-2 c =
    let left : One = record c.in-Some-get_mut.one.now {
      held = record {
        user = c.in-Some-get_mut.one.now.held.user - 1;
        operations =
            c.in-Some-get_mut.one.now.held.operations;
      };
    } in
    removed-paired c.self.inside.keys c.self.inside.slab _ c.self.invariant _ c.self.view_is c.args.h _ _ left
    c.in-Some.ensures.value c.in-Some-get_mut.ensures.value _ _ c.remove.ensures.updates c.try_remove.ensures.updates
    _ c.try_remove.ensures.value c.try_remove.ensures.len c.try_remove.ensures.capacity c.remove.ensures.spare

pub returns-clause-last : goal.returns-clause-last
returns-clause-last c = rw (holders-at c.self.inside.keys c.self.inside.slab _ c.self.invariant _ c.self.view_is c.args.h _ _
    c.in-Some.ensures.value c.in-Some-get_mut.ensures.value)
    (last-last _ (λ some. let is = c.if-is_held.ensures.1 some in cc))

pub returns-clause-left : goal.returns-clause-left
returns-clause-left c =
    let left : One = record c.in-Some-get_mut.one.now {
      held = record {
        user = c.in-Some-get_mut.one.now.held.user - 1;
        operations =
            c.in-Some-get_mut.one.now.held.operations;
      };
    } in
    λ e. removed-one c.self.inside.keys c.self.inside.slab _ c.self.invariant _ c.self.view_is c.args.h _ _ left
    c.in-Some.ensures.value c.in-Some-get_mut.ensures.value c.remove.new.self c.try_remove.new.self c.remove.ensures.updates
    c.try_remove.ensures.updates
