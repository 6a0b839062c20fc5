use Rattle.rent_buf.proofs.Rooms.{fit-first, fit-rest, made-more}
use Rattle.rent_buf.specs.Parts.{parts_of_pairs}
use Rattle.rent_buf.proofs.plain_parts.rents_of.Goals as goal

pub rent_of-requires : goal.rent_of-requires
rent_of-requires c = fit-first (c.in-Some.room, c.in-Some.bytes) c.loop-room.room-iterator.rest.items c.next.new.self.rest.items
    c.in-Some.ensures.steps.0 c.loop-room.invariant.fit

pub loop-room-preserved : goal.loop-room-preserved
loop-room-preserved c = record {
  made = made-more c.loop-room.rents.items (c.in-Some.room, c.in-Some.bytes) c.loop-room.room-iterator.rest.items
      c.next.new.self.rest.items c.in_ok-rent.rent (parts_of_pairs c.args.pairs.items) c.push.new.self.items c.in-Some.ensures.steps.0
      c.loop-room.invariant.made c.in_ok-rent.ensures c.in_ok-push.ensures.items;
  fit = fit-rest (c.in-Some.room, c.in-Some.bytes) c.loop-room.room-iterator.rest.items c.next.new.self.rest.items
      c.in-Some.ensures.steps.0 c.loop-room.invariant.fit;
}
