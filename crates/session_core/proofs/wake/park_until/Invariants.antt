use Rattle.std.proofs.Common.{◌≡◌}
use Rattle.session_core.proofs.wake.park_until.Given as goal

-- The sleeper made no sender.
abbrev pub invariant-loop-i : goal.invariant-loop-i
invariant-loop-i g l = l.sleeper.made ≡ l.initial.sleeper.made
