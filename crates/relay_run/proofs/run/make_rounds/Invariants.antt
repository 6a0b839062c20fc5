use Rattle.std.proofs.Common.{◌≤◌, ◌+◌, ◌*◌}
use Rattle.relay_run.specs.Relaying.{MakesRounds}
use Rattle.relay_run.proofs.run.make_rounds.Given as goal

-- The rounds so far.
abbrev pub invariant-loop-made : goal.invariant-loop-made
invariant-loop-made g l = record {
  made : MakesRounds g.I.NonBlock.view g.I.NonBlock.tells g.I.NonBlock.memory l.initial.relay l._made l.closed l.relay;
  given : l.relay.driver.given ≤ l.initial.relay.driver.given + 129 * l._made;
  later : (g.I.NonBlock.view l.initial.relay.driver.handling.io).faults ≤ (g.I.NonBlock.view l.relay.driver.handling.io).faults;
}
