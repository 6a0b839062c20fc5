use Rattle.std.proofs.Common.{sym, arith}
use Rattle.session_core.proofs.Commands.{capacity-within, capacity-outside, capacity-unread}
use Rattle.session_core.proofs.command.capacity_of.Goals as goal
use Rattle.session_core.proofs.command.capacity_of.Goals.{in_default-via-in-Some+then-capacity-ge1+else-capacity-le-MOST_ENTRIES}
use Rattle.session_core.proofs.command.capacity_of.Goals.{in_default-via-in-Some+else-capacity-ge1, in_default-via-in_default}

pub returns-in-Some : goal.returns-in-Some
returns-in-Some c = capacity-within _ c.in-Some.capacity (sym c.in-Some.ensures) c.if-capacity-ge1.true c.if-capacity-le-MOST_ENTRIES.true

pub returns-in_default : goal.returns-in_default
returns-in_default c = elim c.in_default.branch [
  | in_default-via-in-Some+then-capacity-ge1+else-capacity-le-MOST_ENTRIES w ↦
      capacity-outside _ w.in-Some.capacity (sym w.in-Some.ensures) (λ low high. omega (arith, w.if-capacity-le-MOST_ENTRIES.false, high))
  | in_default-via-in-Some+else-capacity-ge1 w ↦
      capacity-outside _ w.in-Some.capacity (sym w.in-Some.ensures) (λ low high. omega (arith, w.if-capacity-ge1.false, low))
  | in_default-via-in_default w ↦ capacity-unread _ (sym w.in_default.ensures)
]
