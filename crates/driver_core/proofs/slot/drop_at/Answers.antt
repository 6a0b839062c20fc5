use Rattle.driver_core.proofs.Polling.{drops-left, drops-freed}
use Rattle.driver_core.proofs.slot.drop_at.Goals as goal

pub returns-in-Free : goal.returns-in-Free
returns-in-Free g c =
    drops-freed c.args.slots.now.values c.args.key c.drop_slot.new.slots.values c.drop_slot.result c.drop_slot.ensures
    c.remove.new.self.values c.in-Free.is c.remove.ensures.new

pub returns-in-Left : goal.returns-in-Left
returns-in-Left g c =
    drops-left c.args.slots.now.values c.args.key c.drop_slot.new.slots.values c.drop_slot.result c.drop_slot.ensures c.in-Left.is
