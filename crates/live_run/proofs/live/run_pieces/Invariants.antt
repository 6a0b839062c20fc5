use Rattle.std.proofs.Common.{◌≡◌, ◌≤◌, ◌+◌, ◌++◌, [], IsTrue, None, vec_len}
use Rattle.machine.specs.Ledger.{Ledger}
use Rattle.rent_io.specs.Call.{Took}
use Rattle.event_text.specs.TextLook.{line_end}
use Rattle.session_core.specs.Session.{SessionStands}
use Rattle.session_core.specs.declared.input.TheConstants.{MOST_INPUT}
use Rattle.live_run.specs.declared.live.TheConstants.{PIECE}
use Rattle.live_run.specs.Living.{LiveAt}
use Rattle.live_run.proofs.live.run_pieces.Given as goal

-- Each turn took a byte at least; the lines that a newline ended have run, and what is left of the text has none.
abbrev pub invariant-loop-turn : goal.invariant-loop-turn
invariant-loop-turn g l = record {
  piece : vec_len l.piece ≡ PIECE;
  some : l.turn ≤ l.taken;
  few : l.taken ≤ MOST_INPUT;
  lines : l.ran + vec_len l.text ≤ l.taken;
  one : line_end l.text.items ≡ [];
  order : g.S.ByteSource.faults l.initial.source ≤ g.S.ByteSource.faults l.source;
  calm : IsTrue g.S.ByteSource.tells → g.S.ByteSource.faults l.source ≡ g.S.ByteSource.faults l.initial.source;
  sink_order : g.K.ByteSink.faults l.initial.sink ≤ g.K.ByteSink.faults l.sink;
  sink_calm : IsTrue g.K.ByteSink.tells → g.K.ByteSink.faults l.sink ≡ g.K.ByteSink.faults l.initial.sink;
  took : IsTrue g.S.ByteSource.tells → Took (g.S.ByteSource.left l.initial.source) (g.S.ByteSource.left l.source) l.taken;
  at : (L : Ledger) → SessionStands l.initial.session L → LiveAt g.S.ByteSource.tells g.K.ByteSink.tells L
      (g.S.ByteSource.left l.initial.source) (l.text.items ++ g.S.ByteSource.left l.source) l.session (g.K.ByteSink.taken l.initial.sink)
      (g.K.ByteSink.taken l.sink) l.ran;
  unnamed : l.stop ≡ None;
}
