use Rattle.std.proofs.Common.{◌≡◌, length, take}
use Rattle.std.specs.Prelude.{map, sum_by}
use Rattle.rent_buf.specs.Ranges.{places, ranges_of}
use Rattle.rent_buf.proofs.ranges.Ranges.of_read.Given as goal

-- the ranges are those of the parts so far
abbrev pub invariant-loop-i : goal.invariant-loop-i
invariant-loop-i g l = record {
  ranges : l.ranges ≡ record {
    ranges = ranges_of 0 (map length (take l.i (g.T.IoVecBuf.parts l.buf)));
    len = sum_by length
        (take l.i (g.T.IoVecBuf.parts l.buf));
  };
  whole : length (places l.ranges.ranges) ≡ l.ranges.len;
}
