use Rattle.std.proofs.Common.{◌≡◌, ◌+◌, drop}
use Rattle.ready_driver.specs.Turns.{waiting_on}
use Rattle.ready_driver.proofs.registry.turn.count_waiting.Given as goal

-- How many wait for the handles of the reports so far, and of those that are left, are how many wait for all.
abbrev pub invariant-loop-at : goal.invariant-loop-at
invariant-loop-at l = l.count + waiting_on l.records.records (drop l.at l.reports) ≡ waiting_on l.records.records l.reports
