use Rattle.std.proofs.Common.{◌≡◌, ◌≤◌, ◌+◌, ◌-◌, IsTrue, None, drop, length}
use Rattle.live_run.specs.Living.{GoesFor}
use Rattle.live_run.proofs.live.run_whole.Given as goal

-- The lines in front of the rest have run, and their replies were written.
abbrev pub invariant-loop-line : goal.invariant-loop-line
invariant-loop-line g l = record {
  part : l.rest ≡ drop (length l.text - length l.rest) l.text;
  fits : length l.rest ≤ length l.text;
  few : l.ran + length l.rest ≤ l.initial.ran + length l.text;
  goes : GoesFor g.K.ByteSink.tells l.text l.rest l.initial.session l.session (g.K.ByteSink.taken l.initial.sink)
      (g.K.ByteSink.taken l.sink) l.initial.ran l.ran;
  unnamed : l.stop ≡ None;
  order : g.K.ByteSink.faults l.initial.sink ≤ g.K.ByteSink.faults l.sink;
  calm : IsTrue g.K.ByteSink.tells → g.K.ByteSink.faults l.sink ≡ g.K.ByteSink.faults l.initial.sink;
}

abbrev pub decreases-loop-line : goal.decreases-loop-line
decreases-loop-line g l = length l.rest
