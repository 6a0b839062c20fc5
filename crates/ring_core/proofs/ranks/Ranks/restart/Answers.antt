use Rattle.std.proofs.Common.{◌≡◌, ℕ, length, sym, subst, ap, ◌∙◌, arith}
use Rattle.ring_core.specs.Ranks.{AreCounted, kept_first}
use Rattle.ring_core.proofs.Counting.{counted-empty}
use Rattle.ring_core.proofs.ranks.Ranks.restart.Goals as goal

pub invariant_of-self : goal.invariant_of-self
invariant_of-self c =
    let none = c.clear.ensures.len in
    let memory = c.clear.ensures.capacity in
    let empty : ◌≡◌ {A = ℕ} (kept_first (length c.self.inside.flags.items) c.self.inside.flags.items) 0 =
    ap (λ v. kept_first (length v.flags) v.flags) c.self.view_is
    ∙ c.requires in (
      subst (λ flags. AreCounted flags c.self.inside.blocks.items c.self.inside.groups.items c.self.inside.regions.items)
          (sym c.clear.ensures.items)
          (counted-empty _ _ _ _ (omega arith) empty c.self.invariant.0),
      record { within = omega arith; memory = omega arith; in_blocks = omega arith; in_groups = omega arith; in_regions = omega arith },
    )
