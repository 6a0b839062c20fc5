use Rattle.std.proofs.Common.{rules, ◌<◌, ◌^◌}
use Rattle.rent_buf.specs.Parts.{items_of, rooms_of, parts_of_lists}
use Rattle.rent_buf.proofs.Rooms.{parts-lists}
use Rattle.rent_buf.proofs.io_vec_buf.VecBuf.from_parts.Goals as goal

pub invariant_of-result : goal.invariant_of-result
invariant_of-result c =
    let fits : rooms_of (parts_of_lists (items_of c.args.parts.items)) < 2 ^ 64 = search rules in
    parts-lists (items_of c.args.parts.items) c.moved_in.result.items c.moved_in.ensures fits
