use Rattle.std.proofs.Common.{refl, arith}
use Rattle.op_slots.proofs.Laid.{laid-new}
use Rattle.op_slots.proofs.slab.Slab.new.Goals as goal

pub invariant_of-result : goal.invariant_of-result
invariant_of-result g c = (
  omega arith,
  rw c.new.ensures.items (record {
    laid = laid-new _ refl;
    counted = refl;
    search = omega arith;
    interval = omega arith;
  }),
)
