use Rattle.std.proofs.Common.{◌≡◌, ◌+◌, ◌≤◌, length}
use Rattle.driver_examples.proofs.tests.rings.fail_each.Given as goal

-- So many completions came at most, and all else of the ring but what is in flight is the same.
abbrev pub invariant-loop-i : goal.invariant-loop-i
invariant-loop-i l = record {
  queue : l.ring.queue ≡ l.initial.ring.queue;
  capacity : l.ring.capacity ≡ l.initial.ring.capacity;
  spare : l.ring.spare ≡ l.initial.ring.spare;
  counts : (l.ring.faults ≡ l.initial.ring.faults) × (l.ring.busies ≡ l.initial.ring.busies);
  to_come : l.ring.to_come ≡ l.initial.ring.to_come;
  more : length l.initial.ring.done ≤ length l.ring.done;
  few : length l.ring.done ≤ length l.initial.ring.done + l.i;
}
