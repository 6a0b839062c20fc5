use Rattle.std.proofs.Common.{arith}
use Rattle.ready_driver.proofs.Spots.{room_next, indexed_next}
use Rattle.ready_driver.proofs.scheduled_io.spots.index_all.Goals as goal

pub index_one-requires : goal.index_one-requires
index_one-requires c =
    room_next c.args.entries.now c.loop-at.at _ _ _ _ c.loop-at-test.true c.loop-at.invariant.index.count c.loop-at.invariant.room
    (let room = c.requires.room in omega (arith, room, c.clear.ensures.capacity))

pub loop-at-preserved : goal.loop-at-preserved
loop-at-preserved c =
    let next = indexed_next c.loop-at.places c.index_one.new.places c.args.entries.now c.loop-at.at _ c.requires.once c.loop-at-test.true
    c.loop-at.invariant.index c.index_one.ensures.gets c.index_one.ensures.len in
    record {
      index = next.0;
      room = (let more = next.1 in omega (arith, more, c.index_one.ensures.spare, c.loop-at.invariant.room));
    }
