use Rattle.std.proofs.Common.{◌≡◌, ◌+◌, ◌≤◌, length}
use Rattle.driver_examples.proofs.tests.late.arrive_each.Given as goal

-- Each completion that came was to come, and all else of the ring but what is in flight is the same.
abbrev pub invariant-loop-i : goal.invariant-loop-i
invariant-loop-i l = record {
  queue : l.ring.queue ≡ l.initial.ring.queue;
  capacity : l.ring.capacity ≡ l.initial.ring.capacity;
  spare : l.ring.spare ≡ l.initial.ring.spare;
  counts : (l.ring.faults ≡ l.initial.ring.faults) × (l.ring.busies ≡ l.initial.ring.busies);
  more : length l.initial.ring.done ≤ length l.ring.done;
  few : length l.ring.done + l.late ≤ length l.initial.ring.done + l.initial.late;
}
