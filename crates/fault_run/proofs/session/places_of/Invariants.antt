use Rattle.std.proofs.Common.{◌≡◌}
use Rattle.fault_run.proofs.session.places_of.Given as goal

-- The places so far.
abbrev pub invariant-loop-place : goal.invariant-loop-place
invariant-loop-place l = l.numbers ≡ l.yielded
