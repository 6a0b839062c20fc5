use Rattle.std.proofs.Common.{sym, subst, arith}
use Rattle.ring_core.specs.Ranks.{AreCounted}
use Rattle.ring_core.proofs.Counting.{counted-none}
use Rattle.ring_core.proofs.ranks.Ranks.clear.Goals as goal

pub invariant_of-self : goal.invariant_of-self
invariant_of-self c = (
  subst (λ flags. AreCounted flags c.set_to_zero.new.counts.items c.set_to_zero-2.new.counts.items c.set_to_zero-3.new.counts.items)
      (sym c.clear.ensures.items)
      (counted-none _ _ _ _ _ _ c.set_to_zero.ensures.items c.set_to_zero-2.ensures.items c.set_to_zero-3.ensures.items),
  record { within = omega arith; memory = omega arith; in_blocks = omega arith; in_groups = omega arith; in_regions = omega arith },
)
