use Rattle.std.proofs.Common.{◌≡◌, ◌+◌, not, sym, ◌∙◌, ap, arith}
use Rattle.op_slots.proofs.Places.{map-absent}
use Rattle.op_slots.proofs.Kept.{bound-all}
use Rattle.op_slots.proofs.Removing.{found-live, found-none, live-held, count-below, removed, removed-kept, looked}
use Rattle.op_slots.proofs.slab.Slab.remove.Goals as goal

pub returns-then-is_none-clause-new : goal.returns-then-is_none-clause-new
returns-then-is_none-clause-new g c =
    sym (map-absent _ _ (found-none _ _ c.peek.ensures.value (c.is_none.ensures ∙ ap not c.if-is_none.true)))

pub offset_bounds-self-inside-self-inside : goal.offset_bounds-self-inside-self-inside
offset_bounds-self-inside-self-inside g c =
    let live = found-live _ _ c.peek.ensures.value (c.is_none.ensures ∙ ap not c.if-is_none.false) in
    let held = live-held c.self.inside.entries.items c.self.inside.pages c.self.inside.removals c.args.key
    (rw (← c.self.view_is) at live) in
    let few = count-below _ _ _ _ c.move_to.new.first (record { place = 0; count = 0 }) c.self.invariant.1.laid
    c.move_to.ensures held in
    omega (arith, few.0)

pub bounds-self-inside-self-inside : goal.bounds-self-inside-self-inside
bounds-self-inside-self-inside g c =
    let live = found-live _ _ c.peek.ensures.value (c.is_none.ensures ∙ ap not c.if-is_none.false) in
    let held = live-held c.self.inside.entries.items c.self.inside.pages c.self.inside.removals c.args.key
    (rw (← c.self.view_is) at live) in
    (count-below _ _ _ _ c.move_to.new.first (record { place = 0; count = 0 }) c.self.invariant.1.laid
    c.move_to.ensures held).0

pub take_out-value-requires-clause-held : goal.take_out-value-requires-clause-held
take_out-value-requires-clause-held g c =
    let live = found-live _ _ c.peek.ensures.value (c.is_none.ensures ∙ ap not c.if-is_none.false) in
    live-held c.self.inside.entries.items c.self.inside.pages c.self.inside.removals c.args.key (rw (← c.self.view_is) at live)

pub take_out-value-requires-clause-few : goal.take_out-value-requires-clause-few
take_out-value-requires-clause-few g c = bound-all _ _ _ c.self.invariant.1.laid

pub take_out-value-requires-clause-count : goal.take_out-value-requires-clause-count
take_out-value-requires-clause-count g c =
    let live = found-live _ _ c.peek.ensures.value (c.is_none.ensures ∙ ap not c.if-is_none.false) in
    let held = live-held c.self.inside.entries.items c.self.inside.pages c.self.inside.removals c.args.key
    (rw (← c.self.view_is) at live) in
    (count-below _ _ _ _ c.move_to.new.first (record { place = 0; count = 0 }) c.self.invariant.1.laid
    c.move_to.ensures held).1

pub invariant_of-self : goal.invariant_of-self
invariant_of-self g c =
    let r = removed _ _ _ _ c.self.inside.removals _ _ _ _ _ c.self.invariant.1.laid c.move_to.ensures
    c.take_out-value.ensures.takes in (
      rw c.take_out-value.ensures.memory c.self.invariant.0,
      removed-kept _ _ _ _ _ _ _ _ _ _ _ c.self.invariant.1 r c.move_to.ensures (omega arith),
    )

pub returns-then-self-lt-COMPACT_INTERVAL-clause-value : goal.returns-then-self-lt-COMPACT_INTERVAL-clause-value
returns-then-self-lt-COMPACT_INTERVAL-clause-value g c =
    let r = removed _ _ _ _ c.self.inside.removals _ _ _ _ _ c.self.invariant.1.laid c.move_to.ensures
    c.take_out-value.ensures.takes in
    rw (← c.self.view_is) (sym r.value)

pub returns-then-self-lt-COMPACT_INTERVAL-clause-new : goal.returns-then-self-lt-COMPACT_INTERVAL-clause-new
returns-then-self-lt-COMPACT_INTERVAL-clause-new g c =
    let r = removed _ _ _ _ c.self.inside.removals _ _ _ _ _ c.self.invariant.1.laid c.move_to.ensures
    c.take_out-value.ensures.takes in
    rw (← c.self.view_is) r.values

pub overflow_sub-self : goal.overflow_sub-self
overflow_sub-self g c =
    let r = removed _ _ _ _ c.self.inside.removals _ _ _ _ _ c.self.invariant.1.laid c.move_to.ensures
    c.take_out-value.ensures.takes in
    omega (arith, r.counted, c.self.invariant.1.counted)

pub give_back-requires-clause-laid : goal.give_back-requires-clause-laid
give_back-requires-clause-laid g c =
    (removed _ _ _ _ c.self.inside.removals _ _ _ _ _ c.self.invariant.1.laid c.move_to.ensures
    c.take_out-value.ensures.takes).laid

pub invariant_of-self-2 : goal.invariant_of-self-2
invariant_of-self-2 g c =
    let r = removed _ _ _ _ c.self.inside.removals _ _ _ _ _ c.self.invariant.1.laid c.move_to.ensures
    c.take_out-value.ensures.takes in
    let last : c.self.inside.removals + 1 ≡ 2048 = omega (arith, c.self.invariant.1.interval) in
    (c.give_back.ensures.memory, (looked _ _ _ _ _ _ _ _ _ _ _ _ _ c.self.invariant.1 r last c.give_back.ensures.looks).kept)

pub returns-clause-value : goal.returns-clause-value
returns-clause-value g c =
    let r = removed _ _ _ _ c.self.inside.removals _ _ _ _ _ c.self.invariant.1.laid c.move_to.ensures
    c.take_out-value.ensures.takes in
    rw (← c.self.view_is) (sym r.value)

pub returns-clause-new : goal.returns-clause-new
returns-clause-new g c =
    let r = removed _ _ _ _ c.self.inside.removals _ _ _ _ _ c.self.invariant.1.laid c.move_to.ensures
    c.take_out-value.ensures.takes in
    let last : c.self.inside.removals + 1 ≡ 2048 = omega (arith, c.self.invariant.1.interval) in
    rw (← c.self.view_is) (looked _ _ _ _ _ _ _ _ _ _ _ _ _ c.self.invariant.1 r last c.give_back.ensures.looks).values

pub returns-clause-given : goal.returns-clause-given
returns-clause-given g c =
    let r = removed _ _ _ _ c.self.inside.removals _ _ _ _ _ c.self.invariant.1.laid c.move_to.ensures
    c.take_out-value.ensures.takes in
    let last : c.self.inside.removals + 1 ≡ 2048 = omega (arith, c.self.invariant.1.interval) in
    rw (← c.self.view_is) (looked _ _ _ _ _ _ _ _ _ _ _ _ _ c.self.invariant.1 r last c.give_back.ensures.looks).given

pub returns-clause-kept : goal.returns-clause-kept
returns-clause-kept g c =
    let r = removed _ _ _ _ c.self.inside.removals _ _ _ _ _ c.self.invariant.1.laid c.move_to.ensures
    c.take_out-value.ensures.takes in
    let last : c.self.inside.removals + 1 ≡ 2048 = omega (arith, c.self.invariant.1.interval) in
    rw (← c.self.view_is) (looked _ _ _ _ _ _ _ _ _ _ _ _ _ c.self.invariant.1 r last c.give_back.ensures.looks).stays
