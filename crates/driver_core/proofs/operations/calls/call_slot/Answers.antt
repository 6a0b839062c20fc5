use Rattle.std.proofs.Common.{refl}
use Rattle.machine.specs.Surroundings.{around}
use Rattle.driver_core.specs.Requests.{surroundings_in}
use Rattle.driver_core.proofs.Numbers.{keeps-put}
use Rattle.driver_core.proofs.Requests.{stays-put}
use Rattle.driver_core.proofs.operations.calls.call_slot.Goals as goal

pub returns-clause-numbers : goal.returns-clause-numbers
returns-clause-numbers g c =
    keeps-put c.args.slots.now.values c.args.key c.value_mut-slot.result.now _ c.value_mut-slot.ensures.value refl refl

pub returns-clause-surroundings : goal.returns-clause-surroundings
returns-clause-surroundings g c =
    stays-put (surroundings_in (around g.B.IoBufMut.under g.B.IoBufMut.beside)) c.args.slots.now.values c.args.key
    c.value_mut-slot.result.now _ c.value_mut-slot.ensures.value c.call.ensures.surroundings
