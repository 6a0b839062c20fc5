use Rattle.std.proofs.Common.{subst, sym}
use Rattle.relay_run.specs.Relaying.{RunsOver}
use Rattle.relay_run.proofs.Running.{rounds_run}
use Rattle.relay_run.proofs.run.relay.Goals as goal

pub returns : goal.returns
returns g c = record {
  runs = λ before has.
      subst (RunsOver g.I.NonBlock.memory c.args.plan.limit c.args.plan.rounds before (g.I.NonBlock.view c.into_io-2.result))
      (sym c.ended.ensures)
      (rounds_run g.I.NonBlock.view g.I.NonBlock.tells g.I.NonBlock.memory before (g.I.NonBlock.view c.into_io-2.result) c.args.driver
      c.args.listener c.args.plan.limit c.args.plan.rounds c.in-Ok.relay c.make_rounds-made.new.relay c.make_rounds-made.result
      (g.met.I.NonBlock.memory_tells) c.in-Ok.ensures.ok has c.make_rounds-made.ensures.made c.make_rounds-made.ensures.stops
      c.make_rounds-made.ensures.order c.into_io-2.ensures.later c.into_io-2.ensures.made);
}
