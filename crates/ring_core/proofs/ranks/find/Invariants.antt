use Rattle.std.proofs.Common.{◌≡◌, ◌<◌, ◌+◌, ◌-◌, length}
use Rattle.ring_core.specs.Ranks.{sum_first}
use Rattle.ring_core.proofs.ranks.find.Given as goal

-- The counts before the place and the rest are the rank from the start on.
abbrev pub invariant-search : goal.invariant-search
invariant-search l = record {
  within : l.at < length l.counts.items;
  sum : sum_first l.at l.counts.items + l.rest ≡ sum_first l.fn.start l.counts.items + l.fn.rank;
}

abbrev pub decreases-search : goal.decreases-search
decreases-search l = length l.counts.items - l.at
