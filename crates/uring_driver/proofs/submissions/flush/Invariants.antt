use Rattle.std.proofs.Common.{◌≡◌, ◌+◌, ◌≤◌, [], length, IsTrue}
use Rattle.uring_driver.specs.Submissions.{Enters, pending_ring, with_spare}
use Rattle.uring_driver.proofs.submissions.flush.Given as goal

-- So many of those that were due went in, and all else is still due.
abbrev pub invariant-loop-i : goal.invariant-loop-i
invariant-loop-i g l = record {
  same : l.initial.out.due ≡ [] → l.out ≡ l.initial.out;
  left : length l.out.due + l.i ≡ length l.initial.out.due;
  enters : Enters g.R.Ring.view g.R.Ring.tells l.initial.out l.out;
  fits : length (g.R.Ring.view l.initial.out.ring).queue + length l.initial.out.due ≤ (g.R.Ring.view l.initial.out.ring).capacity →
      (length (g.R.Ring.view l.out.ring).queue + length l.out.due
      ≡ length (g.R.Ring.view l.initial.out.ring).queue + length l.initial.out.due)
      × (IsTrue g.R.Ring.tells → pending_ring g.R.Ring.view l.out
      ≡ with_spare (pending_ring g.R.Ring.view l.initial.out) (g.R.Ring.view l.out.ring).spare);
}
