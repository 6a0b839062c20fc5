use Rattle.std.proofs.Common.{◌≡◌, ◌≤◌}
use Rattle.wake_core.specs.Sleeping.{new_sleeper}
use Rattle.wake_core.specs.declared.state.TheConstants.{MAX_SENDERS}
use Rattle.wake_core.proofs.crew.park_beside.Given as goal

-- The sleeper is new but for its senders, one for each turn so far, and no more than a sleeper makes.
abbrev pub invariant-loop : goal.invariant-loop
invariant-loop g l = (l.sleeper ≡ record new_sleeper { made = l.counter }) × (l.counter ≤ MAX_SENDERS)
