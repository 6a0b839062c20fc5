use Rattle.std.proofs.Common.{◌≡◌, take}
use Rattle.rent_buf.specs.Parts.{rooms_of}
use Rattle.rent_buf.proofs.io_vec_buf.VecBufIoVecBufMut.total_room.Given as goal

-- the sum is that of the rooms so far
abbrev pub invariant-loop-part : goal.invariant-loop-part
invariant-loop-part l = l.sum ≡ rooms_of (take l.part-index l.part-items)
