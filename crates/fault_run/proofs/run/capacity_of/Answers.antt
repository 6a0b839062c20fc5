use Rattle.std.proofs.Common.{sym, arith}
use Rattle.fault_run.proofs.Words.{capacity-outside, capacity-unread, capacity-within}
use Rattle.fault_run.proofs.run.capacity_of.Goals as goal

pub returns-in-Some : goal.returns-in-Some
returns-in-Some c = capacity-within _ c.in-Some.capacity (sym c.in-Some.ensures) c.if-capacity-ge1.true c.if-capacity-le-MOST_ENTRIES.true

pub returns-in_default : goal.returns-in_default
returns-in_default c = capacity-outside _ c.in-Some.capacity (sym c.in-Some.ensures)
    (λ low high. omega (arith, c.if-capacity-le-MOST_ENTRIES.false, high))

pub returns-in_default-2 : goal.returns-in_default-2
returns-in_default-2 c = capacity-outside _ c.in-Some.capacity (sym c.in-Some.ensures)
    (λ low high. omega (arith, c.if-capacity-ge1.false, low))

pub returns-in_default-3 : goal.returns-in_default-3
returns-in_default-3 c = capacity-unread _ (sym c.in_default.ensures)
