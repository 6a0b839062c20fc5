use Rattle.driver_core.proofs.Requests.{complete-requests}
use Rattle.driver_core.proofs.operations.Operations.complete.Goals as goal

pub returns-clause-requests : goal.returns-clause-requests
returns-clause-requests g c = rw (← c.self.view_is) (complete-requests c.self.inside.slots.values c.complete_slot.new.slots.values
    c.args.completion.now c.complete_slot.result c.complete_slot.ensures.completes)
