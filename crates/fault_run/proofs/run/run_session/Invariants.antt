use Rattle.std.proofs.Common.{◌≡◌, ◌≤◌, ◌+◌, ◌++◌, [], IsTrue, vec_len}
use Rattle.rent_io.specs.Call.{Took}
use Rattle.event_text.specs.TextLook.{line_end}
use Rattle.fault_run.specs.declared.input.TheConstants.{MOST_INPUT, PIECE}
use Rattle.fault_run.specs.Running.{Running}
use Rattle.fault_run.proofs.run.run_session.Given as goal

-- Each turn took a byte at least; the lines that were read were answered, and the text is the begin of the next one.
abbrev pub invariant-loop-turn : goal.invariant-loop-turn
invariant-loop-turn g l = record {
  piece : vec_len l.piece ≡ PIECE;
  some : l.turn ≤ l.taken;
  few : l.taken ≤ MOST_INPUT;
  short : l.ran + vec_len l.text ≤ l.taken;
  none : line_end l.text.items ≡ [];
  took : IsTrue g.S.ByteSource.tells → Took (g.S.ByteSource.left l.initial.source) (g.S.ByteSource.left l.source) l.taken;
  read_order : g.S.ByteSource.faults l.initial.source ≤ g.S.ByteSource.faults l.source;
  read_calm : IsTrue g.S.ByteSource.tells → g.S.ByteSource.faults l.source ≡ g.S.ByteSource.faults l.initial.source;
  write_order : g.K.ByteSink.faults l.initial.sink ≤ g.K.ByteSink.faults l.sink;
  write_calm : IsTrue g.K.ByteSink.tells → g.K.ByteSink.faults l.sink ≡ g.K.ByteSink.faults l.initial.sink;
  running : Running g.S.ByteSource.tells g.K.ByteSink.tells l.initial.running (g.S.ByteSource.left l.initial.source)
      (g.K.ByteSink.taken l.initial.sink) l.running l.ran (l.text.items ++ g.S.ByteSource.left l.source) (g.K.ByteSink.taken l.sink);
}
