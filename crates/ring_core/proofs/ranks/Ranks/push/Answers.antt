use Rattle.std.proofs.Common.{◌/◌, suc, length, sym, ap, subst, arith}
use Rattle.ring_core.specs.Ranks.{AreCounted}
use Rattle.machine.specs.Lists.{amended}
use Rattle.ring_core.proofs.Counting.{block-few, group-few, region-few, counted-joined}
use Rattle.ring_core.proofs.ranks.Ranks.push.Goals as goal

pub count_up-requires-clause-few : goal.count_up-requires-clause-few
count_up-requires-clause-few c = let few = block-few _ _ _ _ (c.len-block.result / 32) c.self.invariant.0 in omega arith

pub count_up-requires-2-clause-few : goal.count_up-requires-2-clause-few
count_up-requires-2-clause-few c = let few = group-few _ _ _ _ (c.len-block.result / 32 / 32) c.self.invariant.0 in omega arith

pub count_up-requires-3-clause-few : goal.count_up-requires-3-clause-few
count_up-requires-3-clause-few c = let few = region-few _ _ _ _ (c.len-block.result / 32 / 32 / 32) c.self.invariant.0 in omega arith

pub invariant_of-self : goal.invariant_of-self
invariant_of-self c =
    let slots = ap (λ v. length v.flags) c.self.view_is in
    let room = ap (λ v. v.room) c.self.view_is in
    let longer = c.push_reserved.ensures.len in
    let memory = c.push_reserved.ensures.capacity in
    let blocks = c.count_up.ensures.length in
    let groups = c.count_up-2.ensures.length in
    let regions = c.count_up-3.ensures.length in
    let block = c.len-block.result / 32 in (
      subst (λ regions. AreCounted c.push_reserved.new.self.items c.count_up.new.counts.items c.count_up-2.new.counts.items regions)
          (sym c.count_up-3.ensures.items)
          (subst (λ groups. AreCounted c.push_reserved.new.self.items c.count_up.new.counts.items groups
          (amended c.self.inside.regions.items (block / 32 / 32) suc)) (sym c.count_up-2.ensures.items)
          (subst (λ blocks. AreCounted c.push_reserved.new.self.items blocks (amended c.self.inside.groups.items (block / 32) suc)
          (amended c.self.inside.regions.items (block / 32 / 32) suc)) (sym c.count_up.ensures.items)
          (subst (λ flags. AreCounted flags (amended c.self.inside.blocks.items block suc)
          (amended c.self.inside.groups.items (block / 32) suc) (amended c.self.inside.regions.items (block / 32 / 32) suc))
          (sym c.push_reserved.ensures.items)
          (counted-joined c.self.inside.flags.items _ _ _ _ (omega arith) (omega arith) (omega arith) (omega arith) c.self.invariant.0)))),
      record { within = omega arith; memory = omega arith; in_blocks = omega arith; in_groups = omega arith; in_regions = omega arith },
    )
