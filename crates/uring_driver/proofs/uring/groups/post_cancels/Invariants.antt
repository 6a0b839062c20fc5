use Rattle.std.proofs.Common.{◌≡◌, [], IsTrue, take}
use Rattle.uring_driver.specs.Groups.{cancels_of}
use Rattle.uring_driver.specs.Submissions.{PostsEach}
use Rattle.uring_driver.proofs.uring.groups.post_cancels.Given as goal

-- The cancels of the first of them are posted.
abbrev pub invariant-loop-i : goal.invariant-loop-i
invariant-loop-i g l = record {
  posts : PostsEach g.R.Ring.view g.R.Ring.tells g.R.Ring.steady l.initial.ring l.ring (cancels_of l.members (take l.i l.numbers));
  none_due : IsTrue g.R.Ring.steady → l.initial.ring.due ≡ [] → l.ring.due ≡ [];
}
