use Rattle.std.proofs.Common.{subst, sym}
use Rattle.relay_net.proofs.Opens.{given_held}
use Rattle.relay_run.specs.Relaying.{RunsOver}
use Rattle.relay_run.proofs.Listening.{opened_listens, unopened_runs}
use Rattle.relay_run.proofs.run.listen.Goals as goal

pub returns-in-Err : goal.returns-in-Err
returns-in-Err g c = record {
  runs = subst
      (λ io. RunsOver g.I.NonBlock.memory c.args.plan.limit c.args.plan.rounds (g.I.NonBlock.view c.args.net) (g.I.NonBlock.view io)
      c.refused.result) (sym c.into_io-in-Err.ensures)
      (subst
      (RunsOver g.I.NonBlock.memory c.args.plan.limit c.args.plan.rounds (g.I.NonBlock.view c.args.net)
      (g.I.NonBlock.view c.listen.new.self.handling.io)) (sym c.refused.ensures)
      (unopened_runs g.I.NonBlock.view g.I.NonBlock.tells g.I.NonBlock.memory c.args.plan.limit c.args.plan.rounds c.args.net
      c.over-driver.result.handling c.listen.new.self.handling c.in-Err.why c.over-driver.ensures.io (c.has_number.ensures.new cc)
      c.in-Err.ensures.opens));
}

pub relay-requires-clause-held : goal.relay-requires-clause-held
relay-requires-clause-held g c =
    given_held c.in-Ok.ensures.opens.mid.table c.listen.new.self.handling.table c.in-Ok.listener c.in-Ok.ensures.opens.user.table

pub relay-requires-in-Some-clause-held : goal.relay-requires-in-Some-clause-held
relay-requires-in-Some-clause-held g c =
    given_held c.in-Ok.ensures.opens.mid.table c.listen.new.self.handling.table c.in-Ok.listener c.in-Ok.ensures.opens.user.table

pub returns-in-None : goal.returns-in-None
returns-in-None g c = record {
  runs = c.relay.ensures.runs (g.I.NonBlock.view c.args.net)
      (opened_listens g.I.NonBlock.view g.I.NonBlock.tells g.I.NonBlock.memory c.args.net c.over-driver.result.handling
      c.listen.new.self.handling c.in-Ok.listener (g.met.I.NonBlock.memory_tells) c.over-driver.ensures.io
      (λ world keys. (c.over-driver.ensures.stands world keys).handles.keyed) c.in-Ok.ensures.opens);
}

pub returns-in-Some : goal.returns-in-Some
returns-in-Some g c = record {
  runs = c.relay-in-Some.ensures.runs (g.I.NonBlock.view c.args.net)
      (opened_listens g.I.NonBlock.view g.I.NonBlock.tells g.I.NonBlock.memory c.args.net c.over-driver.result.handling
      c.listen.new.self.handling c.in-Ok.listener (g.met.I.NonBlock.memory_tells) c.over-driver.ensures.io
      (λ world keys. (c.over-driver.ensures.stands world keys).handles.keyed) c.in-Ok.ensures.opens);
}
