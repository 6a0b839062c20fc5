use Rattle.std.proofs.Common.{◌≡◌, ◌<◌, ◌-◌, ◌^◌, ◌++◌}
use Rattle.session_core.specs.Generated.{generated_events, rounds_from}
use Rattle.session_core.proofs.generated.generated.Given as goal

-- The events so far, then those of the rounds that are left, are those of the seed.
abbrev pub invariant-loop-i : goal.invariant-loop-i
invariant-loop-i l = record {
  small : l.x < 2 ^ 32;
  all : l.events.items ++ rounds_from l.x l.i (l.rounds - l.i) ≡ generated_events l.seed l.rounds;
}
