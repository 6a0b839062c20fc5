use Rattle.std.proofs.Common.{◌≡◌, ◌≤◌, ◌+◌, ◌*◌, ◌++◌, length, vec_len, vec_capacity}
use Rattle.event_text.specs.TextWords.{hex}
use Rattle.frame_run.proofs.hex.put_bytes.Given as goal

-- What was appended, then the digits of the bytes that are left, are the digits of all, and there is room for the others.
abbrev pub invariant-loop-rest : goal.invariant-loop-rest
invariant-loop-rest l = record {
  written : l.out.items ++ hex l.rest ≡ l.initial.out.items ++ hex l.bytes;
  room : vec_len l.out + length l.rest * 2 ≤ vec_capacity l.out;
}

abbrev pub decreases-loop-rest : goal.decreases-loop-rest
decreases-loop-rest l = length l.rest
