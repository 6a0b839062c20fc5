use Rattle.std.proofs.Common.{refl}
use Rattle.op_slots.specs.Ref.{live_with_value}
use Rattle.op_slots.proofs.Lent.{slot_written}
use Rattle.op_slots.proofs.slab.ref_mut.Ref.as_mut.Goals as goal

pub invariant_of-self-lent : goal.invariant_of-self-lent
invariant_of-self-lent g c w = (live_with_value c.args.self.now.slab.now c.args.self.now.key w, tt)

pub returns : goal.returns
returns g c = ((refl, λ w. slot_written c.args.self.now w _), record { writes_back = tt; value = c.value_mut.ensures.value })
