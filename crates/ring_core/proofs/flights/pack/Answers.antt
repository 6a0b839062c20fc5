use Rattle.std.proofs.Common.{◌<◌, length, refl, sym, ◌∙◌, arith}
use Rattle.std.proofs.lemmas.Option.{slice_get_read}
use Rattle.ring_core.proofs.Keeping.{tested-kept, tested-gone, pack-kept, pack-gone}
use Rattle.ring_core.proofs.flights.pack.Goals as goal

pub loop-slot-preserved-then-not-holds : goal.loop-slot-preserved-then-not-holds
loop-slot-preserved-then-not-holds c =
    let moved = c.loop-slot.invariant in
    let within : c.loop-slot.slot < length c.loop-slot.items.items = omega arith in
    let gone = tested-gone c.args.ranks.now.flags c.loop-slot.slot (omega arith) (sym c.holds.ensures ∙ c.if-not-holds.true) in
    record {
      moved = moved.moved ∙ pack-gone c.args.ranks.now.flags c.loop-slot.items.items c.loop-slot.count c.loop-slot.slot within gone;
      few = omega arith;
      same_length = moved.same_length;
      same_capacity = moved.same_capacity;
    }

pub loop-slot-preserved : goal.loop-slot-preserved
loop-slot-preserved c =
    let moved = c.loop-slot.invariant in
    let within : c.loop-slot.slot < length c.loop-slot.items.items = omega arith in
    let there = tested-kept c.args.ranks.now.flags c.loop-slot.slot (sym c.holds.ensures ∙ c.if-not-holds.false) in
    let here = slice_get_read c.loop-slot.items.items _ c.loop-slot.slot c.index.result.now refl within c.index.ensures in
    record {
      moved = moved.moved ∙ pack-kept c.args.ranks.now.flags c.loop-slot.items.items c.loop-slot.count c.loop-slot.slot c.index.result.now
          within moved.few there here;
      few = omega arith;
      same_length = moved.same_length;
      same_capacity = moved.same_capacity;
    }
