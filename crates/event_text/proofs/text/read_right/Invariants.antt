use Rattle.std.proofs.Common.{length}
use Rattle.std.specs.Prelude.{not, ◌==◌}
use Rattle.event_text.specs.TextEvent.{stands_for}
use Rattle.event_text.specs.TextLines.{AreEventsFor, lines}
use Rattle.event_text.proofs.TextLinesRead.{HaveRead}
use Rattle.event_text.proofs.text.read_right.Given as goal

-- The events so far stand for the lines in front of the rest, and each line of the rest stands for one.
abbrev pub invariant-loop-rest : goal.invariant-loop-rest
invariant-loop-rest g l = record {
  read : HaveRead (stands_for (not (g.row.EXTERNAL == 0))) l.text l.rest l.events.items;
  right : AreEventsFor (stands_for (not (g.row.EXTERNAL == 0))) (lines l.rest);
}

abbrev pub decreases-loop-rest : goal.decreases-loop-rest
decreases-loop-rest g l = length l.rest
