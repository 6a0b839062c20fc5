use Rattle.std.proofs.Common.{◌≡◌, take}
use Rattle.rent_buf.proofs.plain_parts.cloned_pairs.Given as goal

-- the copies are those of the pairs so far
abbrev pub invariant-loop-room : goal.invariant-loop-room
invariant-loop-room l = l.copies.items ≡ take l.room-index l.room-items
