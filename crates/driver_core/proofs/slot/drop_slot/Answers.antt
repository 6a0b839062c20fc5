use Rattle.std.proofs.Common.{ap}
use Rattle.std.specs.FinMap as map
use Rattle.driver_core.specs.Slot.{with_life}
use Rattle.driver_core.proofs.slot.drop_slot.Goals as goal

pub returns : goal.returns
returns g c = record {
  slot = c.value_mut-slot.result.now;
  there = c.value_mut-slot.ensures.value;
  answers = c.drop_owner.ensures.answer;
  slots = ap (λ l. map.insert c.args.slots.now.values c.args.key (with_life c.value_mut-slot.result.now l)) c.drop_owner.ensures.state;
}
