use Rattle.std.proofs.Common.{◌≡◌, ◌+◌, ◌++◌, length, take, drop}
use Rattle.std.specs.VecDeque.{deque_len, deque_capacity}
use Rattle.ring_core.specs.Bound.{behind_bound, bound_front, broken}
use Rattle.ring_core.proofs.mem_ring.break_bound.Given as goal

-- What is left, and the completions with those that are still to come, are the same all along.
abbrev pub invariant-loop-entry : goal.invariant-loop-entry
invariant-loop-entry l = record {
  flying : take l.place l.flying.flights ++ behind_bound (drop l.place l.flying.flights)
      ≡ take l.place l.initial.flying.flights ++ behind_bound (drop l.place l.initial.flying.flights);
  done : l.done.items ++ broken (bound_front (drop l.place l.flying.flights))
      ≡ l.initial.done.items ++ broken (bound_front (drop l.place l.initial.flying.flights));
  sum : length l.flying.flights + deque_len l.done ≡ length l.initial.flying.flights + deque_len l.initial.done;
  flying_room : l.flying.room ≡ l.initial.flying.room;
  done_room : deque_capacity l.done ≡ deque_capacity l.initial.done;
}

abbrev pub decreases-loop-entry : goal.decreases-loop-entry
decreases-loop-entry l = length l.flying.flights
