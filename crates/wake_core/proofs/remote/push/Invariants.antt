use Rattle.std.proofs.Common.{◌≡◌}
use Rattle.wake_core.proofs.remote.push.Given as goal

-- the end is as at first
abbrev pub invariant-loop : goal.invariant-loop
invariant-loop g l =
    (goal.iterator-loop g).can_next l.iterator'
    × (goal.iterator-loop g).is_finite l.iterator'
    × (l.end ≡ l.initial.end)
