use Rattle.std.proofs.Common.{◌≡◌, ◌≤◌, ◌++◌, IsTrue, vec_capacity, vec_len}
use Rattle.session_core.specs.declared.input.TheConstants.{MOST_INPUT, PIECE}
use Rattle.session_core.proofs.input.read_all.Given as goal

-- Each turn took a byte at least, and what was read, then what is left, is all.
abbrev pub invariant-loop-turn : goal.invariant-loop-turn
invariant-loop-turn g l = record {
  piece : vec_len l.piece ≡ PIECE;
  some : l.turn ≤ vec_len l.text;
  few : vec_len l.text ≤ MOST_INPUT;
  room : PIECE ≤ vec_capacity l.text;
  faults : g.S.ByteSource.faults l.initial.source ≤ g.S.ByteSource.faults l.source;
  calm : IsTrue g.S.ByteSource.tells → g.S.ByteSource.faults l.source ≡ g.S.ByteSource.faults l.initial.source;
  all : IsTrue g.S.ByteSource.tells → l.text.items ++ g.S.ByteSource.left l.source ≡ g.S.ByteSource.left l.initial.source;
}
