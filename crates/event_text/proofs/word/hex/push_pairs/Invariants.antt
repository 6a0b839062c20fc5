use Rattle.std.proofs.Common.{◌≡◌, ◌≤◌, ◌+◌, ◌-◌, ◌*◌, ◌/◌, drop, length, vec_capacity, vec_len}
use Rattle.event_text.specs.TextReads.{pairs_of}
use Rattle.event_text.proofs.TextHex.{onto}
use Rattle.event_text.proofs.word.hex.push_pairs.Given as goal

-- The bytes so far, then those of the digits that are left, are those of all, and there is room for the others.
abbrev pub invariant-loop-at : goal.invariant-loop-at
invariant-loop-at l = record {
  read : onto l.initial.bytes.items (pairs_of l.word) ≡ onto l.bytes.items (pairs_of (drop (2 * l.at) l.word));
  room : vec_len l.bytes + (length l.word / 2 - l.at) ≤ vec_capacity l.bytes;
}
