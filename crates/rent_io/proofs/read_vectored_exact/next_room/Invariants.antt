use Rattle.std.proofs.Common.{◌≡◌, ◌≤◌, length}
use Rattle.rent_buf.specs.Parts.{part_at}
use Rattle.rent_io.specs.ReadVectoredExact.{AreFullBefore, read_of}
use Rattle.rent_io.proofs.read_vectored_exact.next_room.Given as goal

abbrev pub invariant-loop-i : goal.invariant-loop-i
invariant-loop-i g l =
    let parts = g.T.IoVecBufMut.held l.buf in
    (read_of parts l.i l.filled ≡ read_of parts l.fn.part l.fn.filled) × AreFullBefore parts l.i
    × (l.filled ≤ length (part_at parts l.i).bytes)
