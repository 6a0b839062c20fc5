use Rattle.std.proofs.Common.{◌≡◌, ◌≤◌, ◌++◌, take, drop}
use Rattle.std.specs.Prelude.{vec_len, vec_capacity}
use Rattle.ring_core.specs.Ranks.{kept}
use Rattle.ring_core.proofs.flights.pack.Given as goal

-- The first items are what was kept on the slots so far, and the items behind are as they were.
abbrev pub invariant-loop-slot : goal.invariant-loop-slot
invariant-loop-slot l = record {
  moved : kept l.ranks.flags l.fn.items.items ≡ take l.count l.items.items ++ kept (drop l.slot l.ranks.flags) (drop l.slot l.items.items);
  few : l.count ≤ l.slot;
  same_length : vec_len l.items ≡ vec_len l.fn.items;
  same_capacity : vec_capacity l.items ≡ vec_capacity l.fn.items;
}
