use Rattle.std.proofs.Common.{rules, ◌<◌, [], ap, length}
use Rattle.rent_buf.proofs.Places.{ranging-more}
use Rattle.rent_buf.proofs.ranges.Ranges.of_read.Goals as goal

pub loop-i-preserved : goal.loop-i-preserved
loop-i-preserved g c =
    let parts = g.T.IoVecBuf.parts c.args.buf.now in
    let there : c.loop-i.i < length parts = search rules in
    record {
      ranges = ranging-more length parts c.loop-i.i [] c.loop-i.ranges c.add.new.self (length c.part-len.result.now) there
          (ap length c.part-len.ensures) c.loop-i.invariant.ranges c.in_ok-add.ensures.ok;
      whole = c.in_ok-add.ensures.whole;
    }
