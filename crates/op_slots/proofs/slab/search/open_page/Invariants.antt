use Rattle.op_slots.specs.Layout.{HaveNoEmpty}
use Rattle.op_slots.proofs.slab.search.open_page.Given as goal

-- no page before this one has an empty place that was used
abbrev pub invariant-loop-page : goal.invariant-loop-page
invariant-loop-page l = HaveNoEmpty l.lists l.fn.from l.page
