use Rattle.std.proofs.Common.{◌≤◌, ◌+◌, take}
use Rattle.std.specs.HashMap.{hash_map_len, spare}
use Rattle.ready_driver.specs.WaitList.{IsIndexed}
use Rattle.ready_driver.proofs.scheduled_io.spots.index_all.Given as goal

-- The operations of the entries so far have their places, and the memory is what it was.
abbrev pub invariant-loop-at : goal.invariant-loop-at
invariant-loop-at l = record {
  index : IsIndexed l.places (take l.at l.entries);
  room : hash_map_len l.initial.places + spare l.initial.places ≤ hash_map_len l.places + spare l.places;
}
