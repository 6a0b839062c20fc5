use Rattle.std.proofs.Common.{◌≡◌, ◌≤◌, ◌+◌, ◌*◌, ◌%◌, length, vec_capacity, vec_len}
use Rattle.event_text.specs.TextReads.{pairs_of}
use Rattle.event_text.proofs.TextHex.{onto}
use Rattle.event_text.proofs.word.hex.read_pairs.Given as goal

-- The bytes so far, then those of the digits that are left, are those of all, and there is room for the others.
abbrev pub invariant-loop-rest : goal.invariant-loop-rest
invariant-loop-rest l = record {
  even : length l.rest % 2 ≡ 0;
  read : pairs_of l.word ≡ onto l.bytes.items (pairs_of l.rest);
  room : vec_len l.bytes * 2 + length l.rest ≤ vec_capacity l.bytes * 2;
}

abbrev pub decreases-loop-rest : goal.decreases-loop-rest
decreases-loop-rest l = length l.rest
