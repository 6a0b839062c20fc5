use Rattle.std.proofs.Common.{◌≡◌, length, take}
use Rattle.std.specs.Prelude.{map}
use Rattle.rent_buf.specs.Parts.{rooms_of}
use Rattle.rent_buf.specs.Ranges.{places, ranges_of}
use Rattle.rent_buf.proofs.ranges.Ranges.of_write.Given as goal

-- the ranges are those of the parts so far
abbrev pub invariant-loop-i : goal.invariant-loop-i
invariant-loop-i g l = record {
  ranges : l.ranges ≡ record {
    ranges = ranges_of 0 (map (λ part. part.total) (take l.i (g.T.IoVecBufMut.held l.buf)));
    len = rooms_of
        (take l.i (g.T.IoVecBufMut.held l.buf));
  };
  whole : length (places l.ranges.ranges) ≡ l.ranges.len;
}
