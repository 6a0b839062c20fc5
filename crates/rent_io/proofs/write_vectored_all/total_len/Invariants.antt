use Rattle.std.proofs.Common.{◌≡◌, length, take}
use Rattle.std.specs.Prelude.{sum_by}
use Rattle.rent_io.proofs.write_vectored_all.total_len.Given as goal

abbrev pub invariant-loop-i : goal.invariant-loop-i
invariant-loop-i g l = l.sum ≡ sum_by length (take l.i (g.T.IoVecBuf.parts l.buf))
