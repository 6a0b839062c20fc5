use Rattle.std.proofs.Common.{◌≡◌, ◌<◌, ◌+◌, ◌-◌, length}
use Rattle.ring_core.specs.Ranks.{kept_first}
use Rattle.ring_core.proofs.ranks.find_kept.Given as goal

-- The kept ones before the place and the rest are the rank from the start on.
abbrev pub invariant-search : goal.invariant-search
invariant-search l = record {
  within : l.at < length l.flags.items;
  sum : kept_first l.at l.flags.items + l.rest ≡ kept_first l.fn.start l.flags.items + l.fn.rank;
}

abbrev pub decreases-search : goal.decreases-search
decreases-search l = length l.flags.items - l.at
