use Rattle.std.proofs.Common.{◌≡◌, ◌≤◌, ◌+◌, List, length, IsTrue, None}
use Rattle.std.specs.List.{AllZip}
use Rattle.machine.specs.declared.ledger.Event.{Event}
use Rattle.event_text.specs.TextLines.{AreEventsFor, lines}
use Rattle.session_core.specs.DriverKind.{StandsOn}
use Rattle.session_core.proofs.Running.{Ran}
use Rattle.session_core.proofs.output.write_replies.Given as goal

-- The events of the lines so far have run, and each line that is left stands for one.
abbrev pub invariant-loop-rest : goal.invariant-loop-rest
invariant-loop-rest g l = record {
  right : AreEventsFor (StandsOn g.M.Stepping.kind) (lines l.rest);
  ran : (events : List Event) → AllZip (StandsOn g.M.Stepping.kind) (lines l.text) events
      → Ran g.M.Stepping.stands g.M.Stepping.kind g.K.ByteSink.tells l.fn.session l.running l.rest l.out.items
      (g.K.ByteSink.taken l.initial.sink) (g.K.ByteSink.taken l.sink) events l.number;
  few : l.number + length l.rest ≤ length l.text;
  faults : g.K.ByteSink.faults l.initial.sink ≤ g.K.ByteSink.faults l.sink;
  calm : IsTrue g.K.ByteSink.tells → g.K.ByteSink.faults l.sink ≡ g.K.ByteSink.faults l.initial.sink;
  unnamed : l.stop ≡ None;
}

abbrev pub decreases-loop-rest : goal.decreases-loop-rest
decreases-loop-rest g l = length l.rest
