use Rattle.std.proofs.Common.{false, sym, subst, arith}
use Rattle.ring_core.specs.Bound.{AreLed}
use Rattle.ring_core.proofs.Leading.{led-taken}
use Rattle.ring_core.proofs.mem_ring.MemRingRing.enter.Goals as goal

pub invariant_of-self : goal.invariant_of-self
invariant_of-self c =
    let had = c.self.invariant.0 in
    let lengths = c.take_all.ensures.lengths in
    let capacities = c.take_all.ensures.capacities in (
      record { some = had.some; within = omega arith; in_queue = omega arith; in_flight = omega arith; in_done = omega arith },
      subst (AreLed false) (sym c.take_all.ensures.flying)
          (led-taken c.self.inside.flying.flights c.self.inside.queue.items c.self.invariant.1),
    )
