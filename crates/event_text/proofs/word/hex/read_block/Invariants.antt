use Rattle.std.proofs.Common.{◌≡◌, ◌*◌, drop, length, take}
use Rattle.event_text.specs.TextReads.{pairs_of}
use Rattle.event_text.proofs.TextHex.{onto}
use Rattle.event_text.proofs.word.hex.read_block.Given as goal

-- The bytes so far, then those of the digits that are left, are those of all.
abbrev pub invariant-loop-at : goal.invariant-loop-at
invariant-loop-at l = record {
  long : length l.block ≡ 16;
  read : pairs_of l.word ≡ onto (take l.at l.block) (pairs_of (drop (2 * l.at) l.word));
}
