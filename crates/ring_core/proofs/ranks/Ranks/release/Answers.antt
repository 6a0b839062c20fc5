use Rattle.std.proofs.Common.{◌≡◌, ◌/◌, ◌∙◌, Some, true, false, set, slice_get, sym, ap, subst, arith}
use Rattle.ring_core.specs.Ranks.{AreCounted, less_one}
use Rattle.machine.specs.Lists.{amended}
use Rattle.ring_core.proofs.Counting.{block-some, sums-some, counted-left}
use Rattle.ring_core.proofs.ranks.Ranks.release.Goals as goal

pub count_down-requires-clause-some : goal.count_down-requires-clause-some
count_down-requires-clause-some c =
    let there : slice_get c.self.inside.flags.items c.args.slot ≡ Some true = ap (λ v. slice_get v.flags c.args.slot) c.self.view_is
    ∙ c.requires in
    block-some _ _ _ _ _ c.self.invariant.0 there

pub count_down-requires-2-clause-some : goal.count_down-requires-2-clause-some
count_down-requires-2-clause-some c =
    let there : slice_get c.self.inside.flags.items c.args.slot ≡ Some true = ap (λ v. slice_get v.flags c.args.slot) c.self.view_is
    ∙ c.requires in
    sums-some _ _ _ c.self.invariant.0.groups_count (block-some _ _ _ _ _ c.self.invariant.0 there)

pub count_down-requires-3-clause-some : goal.count_down-requires-3-clause-some
count_down-requires-3-clause-some c =
    let there : slice_get c.self.inside.flags.items c.args.slot ≡ Some true = ap (λ v. slice_get v.flags c.args.slot) c.self.view_is
    ∙ c.requires in
    sums-some _ _ _ c.self.invariant.0.regions_count
    (sums-some _ _ _ c.self.invariant.0.groups_count (block-some _ _ _ _ _ c.self.invariant.0 there))

pub invariant_of-self : goal.invariant_of-self
invariant_of-self c =
    let there : slice_get c.self.inside.flags.items c.args.slot ≡ Some true = ap (λ v. slice_get v.flags c.args.slot) c.self.view_is
    ∙ c.requires in
    let flags = set c.self.inside.flags.items c.args.slot false in
    let block = c.args.slot / 32 in (
      subst (λ regions. AreCounted flags c.count_down.new.counts.items c.count_down-2.new.counts.items regions)
          (sym c.count_down-3.ensures.items)
          (subst (λ groups. AreCounted flags c.count_down.new.counts.items groups
          (amended c.self.inside.regions.items (block / 32 / 32) less_one)) (sym c.count_down-2.ensures.items)
          (subst (λ blocks. AreCounted flags blocks (amended c.self.inside.groups.items (block / 32) less_one)
          (amended c.self.inside.regions.items (block / 32 / 32) less_one)) (sym c.count_down.ensures.items)
          (counted-left _ _ _ _ _ there c.self.invariant.0))),
      record { within = omega arith; memory = omega arith; in_blocks = omega arith; in_groups = omega arith; in_regions = omega arith },
    )
