use Rattle.ready_driver.specs.LegacyState.{ops_in}
use Rattle.net_copy.specs.Run.{FitsBoth}
use Rattle.net_copy.proofs.run.copy_rounds.Given as goal

-- The driver has what both connections wait for.
abbrev pub invariant-loop : goal.invariant-loop
invariant-loop g l = FitsBoth (ops_in l.driver) l.both.from l.both.to
