use Rattle.std.proofs.Common.{arith}
use Rattle.std.proofs.lemmas.Grind.{common_steps}
use Rattle.op_slots.proofs.Kept.{get-read, bound-all}
use Rattle.op_slots.proofs.slab.Slab.peek.Goals as goal

pub returns-in-Some-Occupied-clause-value : goal.returns-in-Some-Occupied-clause-value
returns-in-Some-Occupied-clause-value g c = rw (← c.self.view_is, get-read) (grind (arith, common_steps))

pub returns-in-Some-Occupied-clause-below : goal.returns-in-Some-Occupied-clause-below
returns-in-Some-Occupied-clause-below g c =
    let bound = bound-all _ _ _ c.self.invariant.1.laid in
    grind (arith, common_steps)

pub returns-in_default-clause-value : goal.returns-in_default-clause-value
returns-in_default-clause-value g c = rw (← c.self.view_is, get-read) (grind (arith, common_steps))
