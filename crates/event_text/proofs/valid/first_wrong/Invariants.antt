use Rattle.std.proofs.Common.{◌+◌, ◌≤◌, length}
use Rattle.std.specs.Prelude.{not, ◌==◌}
use Rattle.event_text.specs.TextEvent.{stands_for}
use Rattle.event_text.proofs.TextValid.{HaveSeen}
use Rattle.event_text.proofs.valid.first_wrong.Given as goal

-- The lines in front of the rest stand for events, and this is their number.
abbrev pub invariant-loop-rest : goal.invariant-loop-rest
invariant-loop-rest g l = record {
  seen : HaveSeen (stands_for (not (g.row.EXTERNAL == 0))) l.text l.rest l.number;
  few : l.number + length l.rest ≤ length l.text;
}

abbrev pub decreases-loop-rest : goal.decreases-loop-rest
decreases-loop-rest g l = length l.rest
