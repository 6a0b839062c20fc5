use Rattle.std.proofs.Common.{◌≡◌, ◌+◌, ◌≤◌, false, length}
use Rattle.std.specs.VecDeque.{deque_len, deque_capacity}
use Rattle.ring_core.specs.Ring.{flying_bound, done_after}
use Rattle.ring_core.proofs.mem_ring.take_all.Given as goal

abbrev pub invariant-loop-entry : goal.invariant-loop-entry
invariant-loop-entry l = record {
  flying_room : deque_len l.queue + length l.flying.flights ≤ l.flying.room;
  done_room : deque_len l.queue + deque_len l.done ≤ deque_capacity l.done;
  taken : flying_bound l.bound l.flying.flights l.queue.items ≡ flying_bound false l.initial.flying.flights l.initial.queue.items;
  done_taken : done_after l.done.items l.queue.items ≡ done_after l.initial.done.items l.initial.queue.items;
  sum : deque_len l.queue + length l.flying.flights + deque_len l.done
      ≡ deque_len l.initial.queue + length l.initial.flying.flights + deque_len l.initial.done;
  flying_longer : length l.initial.flying.flights ≤ length l.flying.flights;
  done_longer : deque_len l.initial.done ≤ deque_len l.done;
  queue_capacity : deque_capacity l.queue ≡ deque_capacity l.initial.queue;
  flying_capacity : l.flying.room ≡ l.initial.flying.room;
  done_capacity : deque_capacity l.done ≡ deque_capacity l.initial.done;
}

abbrev pub decreases-loop-entry : goal.decreases-loop-entry
decreases-loop-entry l = deque_len l.queue
