use Rattle.std.proofs.Common.{◌≡◌, ◌<◌, ◌^◌, take, length}
use Rattle.std.specs.Prelude.{sum_by}
use Rattle.rent_buf.proofs.ranges.Ranges.read_fits.Given as goal

-- the sum is that of the lengths so far
abbrev pub invariant-loop-i : goal.invariant-loop-i
invariant-loop-i g l = record {
  sum : l.sum ≡ sum_by length (take l.i (g.T.IoVecBuf.parts l.buf));
  fits : l.sum < 2 ^ 64;
}
