use Rattle.std.proofs.Common.{refl}
use Rattle.machine.specs.Surroundings.{around}
use Rattle.driver_core.specs.Requests.{surroundings_in}
use Rattle.driver_core.proofs.Numbers.{keeps-put}
use Rattle.driver_core.proofs.Requests.{stays-put}
use Rattle.driver_core.proofs.slot.store_in.Goals as goal

pub returns-then-fits_in-clause-numbers : goal.returns-then-fits_in-clause-numbers
returns-then-fits_in-clause-numbers g c =
    keeps-put c.args.slots.now.values c.args.key c.value_mut-slot.result.now _ c.value_mut-slot.ensures.value refl refl

pub returns-then-fits_in-clause-surroundings : goal.returns-then-fits_in-clause-surroundings
returns-then-fits_in-clause-surroundings g c =
    stays-put (surroundings_in (around g.B.IoBufMut.under g.B.IoBufMut.beside)) c.args.slots.now.values c.args.key
    c.value_mut-slot.result.now _ c.value_mut-slot.ensures.value c.store.ensures.surroundings
