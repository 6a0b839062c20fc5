use Rattle.std.proofs.Common.{sym, ◌∙◌}
use Rattle.driver_core.proofs.Polling.{taken-ends}
use Rattle.driver_core.proofs.slot.end_at.Goals as goal

pub returns : goal.returns
returns g c =
    taken-ends c.args.slots.now.values c.remove.new.self.values c.args.key c.args.outcome c.in-Some.slot
    (sym c.in-Some.is ∙ c.remove.ensures.value) c.remove.ensures.new
