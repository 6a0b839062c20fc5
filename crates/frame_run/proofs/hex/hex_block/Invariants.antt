use Rattle.std.proofs.Common.{◌≡◌, ◌*◌, length, take}
use Rattle.event_text.specs.TextWords.{hex}
use Rattle.frame_run.proofs.hex.hex_block.Given as goal

-- The digits of the bytes so far were written.
abbrev pub invariant-loop-at : goal.invariant-loop-at
invariant-loop-at l = record { long : length l.block ≡ 32; written : take (2 * l.at) l.block ≡ hex (take l.at l.bytes) }
