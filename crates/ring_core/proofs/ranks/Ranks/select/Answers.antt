use Rattle.std.proofs.Common.{◌<◌, length, ap, arith}
use Rattle.ring_core.specs.Ranks.{kept_first}
use Rattle.ring_core.proofs.Counting.{rank-counted, sums-found, block-found}
use Rattle.ring_core.proofs.ranks.Ranks.select.Goals as goal

pub find-region-requires : goal.find-region-requires
find-region-requires c =
    let same = ap (λ v. kept_first (length v.flags) v.flags) c.self.view_is in
    let some : c.args.rank < kept_first (length c.self.inside.flags.items) c.self.inside.flags.items =
    (let s = c.requires in omega arith) in
    let within = rank-counted _ _ _ _ c.args.rank (omega arith) (omega arith) (omega arith) c.self.invariant.0 some in
    let first = within.0 in
    omega arith

pub overflow_mul-region : goal.overflow_mul-region
overflow_mul-region c =
    let same = ap (λ v. kept_first (length v.flags) v.flags) c.self.view_is in
    let some : c.args.rank < kept_first (length c.self.inside.flags.items) c.self.inside.flags.items =
    (let s = c.requires in omega arith) in
    let within = rank-counted _ _ _ _ c.args.rank (omega arith) (omega arith) (omega arith) c.self.invariant.0 some in
    let found = sums-found _ _ c.find-region.result.at c.find-region.result.rest c.self.invariant.0.regions_count
    (let e = c.find-region.ensures in let w = within.1 in omega arith) in
    let first = found.0 in
    omega arith

pub find-group-requires : goal.find-group-requires
find-group-requires c =
    let same = ap (λ v. kept_first (length v.flags) v.flags) c.self.view_is in
    let some : c.args.rank < kept_first (length c.self.inside.flags.items) c.self.inside.flags.items =
    (let s = c.requires in omega arith) in
    let within = rank-counted _ _ _ _ c.args.rank (omega arith) (omega arith) (omega arith) c.self.invariant.0 some in
    (sums-found _ _ c.find-region.result.at c.find-region.result.rest c.self.invariant.0.regions_count
    (let e = c.find-region.ensures in let w = within.1 in omega arith)).1

pub overflow_mul-group : goal.overflow_mul-group
overflow_mul-group c =
    let same = ap (λ v. kept_first (length v.flags) v.flags) c.self.view_is in
    let some : c.args.rank < kept_first (length c.self.inside.flags.items) c.self.inside.flags.items =
    (let s = c.requires in omega arith) in
    let within = rank-counted _ _ _ _ c.args.rank (omega arith) (omega arith) (omega arith) c.self.invariant.0 some in
    let regions = c.self.invariant.0.regions_count c.find-region.result.at in
    let found = sums-found _ _ c.find-group.result.at c.find-group.result.rest c.self.invariant.0.groups_count
    (let e = c.find-region.ensures in let f = c.find-group.ensures in let w = within.2 in omega arith) in
    let first = found.0 in
    omega arith

pub find-block-requires : goal.find-block-requires
find-block-requires c =
    let same = ap (λ v. kept_first (length v.flags) v.flags) c.self.view_is in
    let some : c.args.rank < kept_first (length c.self.inside.flags.items) c.self.inside.flags.items =
    (let s = c.requires in omega arith) in
    let within = rank-counted _ _ _ _ c.args.rank (omega arith) (omega arith) (omega arith) c.self.invariant.0 some in
    let regions = c.self.invariant.0.regions_count c.find-region.result.at in
    (sums-found _ _ c.find-group.result.at c.find-group.result.rest c.self.invariant.0.groups_count
    (let e = c.find-region.ensures in let f = c.find-group.ensures in let w = within.2 in omega arith)).1

pub overflow_mul-block : goal.overflow_mul-block
overflow_mul-block c =
    let same = ap (λ v. kept_first (length v.flags) v.flags) c.self.view_is in
    let some : c.args.rank < kept_first (length c.self.inside.flags.items) c.self.inside.flags.items =
    (let s = c.requires in omega arith) in
    let regions = c.self.invariant.0.regions_count c.find-region.result.at in
    let groups = c.self.invariant.0.groups_count c.find-group.result.at in
    let found = block-found _ _ _ _ c.args.rank c.find-block.result.at c.find-block.result.rest c.self.invariant.0 some
    (let e = c.find-region.ensures in let f = c.find-group.ensures in let b = c.find-block.ensures in omega arith) in
    let first = found.0 in
    omega arith
