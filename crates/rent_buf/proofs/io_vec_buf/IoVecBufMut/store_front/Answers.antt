use Rattle.std.proofs.Common.{rules, arith, ◌∙◌, ◌<◌, sym, ap, length}
use Rattle.std.proofs.lemmas.List.{length-map}
use Rattle.rent_buf.specs.Parts.{part_at}
use Rattle.rent_buf.proofs.Front.{stored-last}
use Rattle.rent_buf.proofs.io_vec_buf.IoVecBufMut.store_front.Goals as goal

pub returns-then-rest-room : goal.returns-then-rest-room
returns-then-rest-room g c =
    let parts = g.Self.IoVecBufMut.held c.loop-i.self in
    let count = c.parts_len-i-end.ensures ∙ ap length c.keeps_bounds.ensures.parts
    ∙ length-map (g.Self.IoVecBufMut.held c.args.self.now) (λ part. part.bytes) ∙ sym c.loop-i.invariant.count in
    let there : c.loop-i.i < length parts = omega (arith, count) in
    let less : length c.loop-i.rest.now < (part_at parts c.loop-i.i).total = omega arith in
    let some : 0 < length c.loop-i.rest.now = search rules in
    c.store_part.ensures.put ∙ sym (stored-last parts c.loop-i.i c.loop-i.rest.now there less some) ∙ c.loop-i.invariant.walk
