use Rattle.std.proofs.Common.{sym, arith}
use Rattle.session_core.proofs.Commands.{capacity-within, capacity-outside, capacity-unread}
use Rattle.live_run.proofs.words.capacity_of.Goals as goal

pub returns-in-Some : goal.returns-in-Some
returns-in-Some c = capacity-within _ c.in-Some.capacity (sym c.in-Some.ensures) (omega arith) (omega arith)

pub returns-in_default : goal.returns-in_default
returns-in_default c = capacity-outside _ c.in-Some.capacity (sym c.in-Some.ensures) (λ low high. omega arith)

pub returns-in_default-2 : goal.returns-in_default-2
returns-in_default-2 c = capacity-outside _ c.in-Some.capacity (sym c.in-Some.ensures) (λ low high. omega arith)

pub returns-in_default-3 : goal.returns-in_default-3
returns-in_default-3 c = capacity-unread _ (sym c.in_default.ensures)
