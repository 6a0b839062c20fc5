use Rattle.std.proofs.Common.{◌≡◌, ◌≤◌, ◌+◌, length, IsTrue}
use Rattle.fault_run.specs.Running.{AnswersLines}
use Rattle.fault_run.proofs.run.run_lines.Given as goal

-- So many lines were answered that the rest is left.
abbrev pub invariant-loop-at : goal.invariant-loop-at
invariant-loop-at g l = record {
  answered : AnswersLines g.K.ByteSink.tells l.initial.session l.ran l.text (g.K.ByteSink.taken l.initial.sink) l.session l.count l.rest
      (g.K.ByteSink.taken l.sink);
  few : l.count + length l.rest ≤ length l.text;
  order : g.K.ByteSink.faults l.initial.sink ≤ g.K.ByteSink.faults l.sink;
  calm : IsTrue g.K.ByteSink.tells → g.K.ByteSink.faults l.sink ≡ g.K.ByteSink.faults l.initial.sink;
}

abbrev pub decreases-loop-at : goal.decreases-loop-at
decreases-loop-at g l = length l.rest
