use Rattle.std.proofs.Common.{◌≡◌, ◌≤◌, [], length}
use Rattle.std.specs.Prelude.{slice_index_or}
use Rattle.rent_io.specs.WriteVectoredAll.{rest_from}
use Rattle.rent_io.proofs.write_vectored_all.next_place.Given as goal

abbrev pub invariant-loop-i : goal.invariant-loop-i
invariant-loop-i g l =
    let parts = g.T.IoVecBuf.parts l.buf in
    (rest_from parts l.i l.sent ≡ rest_from parts l.fn.part l.fn.sent) × (l.sent ≤ length (slice_index_or parts l.i []))
