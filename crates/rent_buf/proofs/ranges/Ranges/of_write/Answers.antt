use Rattle.std.proofs.Common.{arith, ◌∙◌, ◌<◌, [], ap, length}
use Rattle.std.proofs.lemmas.List.{length-map}
use Rattle.rent_buf.specs.Rent.{Rented}
use Rattle.rent_buf.proofs.Places.{ranging-more}
use Rattle.rent_buf.proofs.ranges.Ranges.of_write.Goals as goal

pub loop-i-preserved : goal.loop-i-preserved
loop-i-preserved g c =
    let parts = g.T.IoVecBufMut.held c.args.buf.now in
    let count = c.parts_len-i-end.ensures ∙ ap length c.keeps_bounds.ensures.parts ∙ length-map parts (λ (part : Rented). part.bytes) in
    let there : c.loop-i.i < length parts = omega (arith, count) in
    record {
      ranges = ranging-more (λ (part : Rented). part.total) parts c.loop-i.i (record { bytes = []; total = 0 }) c.loop-i.ranges
          c.add.new.self c.room-len.result there c.room-len.ensures c.loop-i.invariant.ranges c.in_ok-add.ensures.ok;
      whole = c.in_ok-add.ensures.whole;
    }
