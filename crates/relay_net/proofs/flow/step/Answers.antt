use Rattle.std.proofs.Common.{rules, ◌≡◌, None, subst, sym}
use Rattle.ready_driver.specs.LegacyState.{ops_in}
use Rattle.relay_net.specs.Flow.{held_in}
use Rattle.relay_net.specs.Forwarding.{Forwards}
use Rattle.relay_net.specs.Keeping.{world_of}
use Rattle.net_stream.specs.Told.{IsStream}
use Rattle.relay_net.proofs.Stepping.{begun_forwards}
use Rattle.relay_net.proofs.Seeing.{seen_then}
use Rattle.relay_net.proofs.flow.step.Goals as goal

pub returns-clause-seen : goal.returns-clause-seen
returns-clause-seen g c =
    seen_then g.I.NonBlock.view g.I.NonBlock.tells g.I.NonBlock.memory g.met.I.NonBlock.memory_tells c.args.driver.now
    c.begin-stage.new.driver c.poll-stage.new.driver c.begin-stage.ensures.begins.stays.users
    (λ t h stream. subst (λ w. IsStream w h) (sym (c.begin-stage.ensures.begins.stays.world t)) stream) c.begin-stage.ensures.seen
    c.poll-stage.ensures.seen

pub returns-clause-forwards : goal.returns-clause-forwards
returns-clause-forwards g c = λ memory reads can goes.
    let none : c.begin-stage.result.1 ≡ None = search rules in
    subst (λ s. Forwards c.args.room (world_of g.I.NonBlock.view c.args.driver.now) (world_of g.I.NonBlock.view c.poll-stage.new.driver)
    c.args.flow.now.from c.args.flow.now.to (held_in (ops_in c.args.driver.now) c.args.flow.now.stage)
    (held_in (ops_in c.poll-stage.new.driver) s)) (sym c.put-2.ensures)
    (subst (λ s. Forwards c.args.room (world_of g.I.NonBlock.view c.args.driver.now) (world_of g.I.NonBlock.view c.poll-stage.new.driver)
    c.args.flow.now.from c.args.flow.now.to (held_in (ops_in c.args.driver.now) s)
    (held_in (ops_in c.poll-stage.new.driver) c.poll-stage.result.0)) c.replace-stage.ensures.value
    (begun_forwards g.I.NonBlock.view g.I.NonBlock.tells g.I.NonBlock.memory g.met.I.NonBlock.memory_tells c.args.driver.now
    c.begin-stage.new.driver c.poll-stage.new.driver c.args.room c.args.flow.now.from c.args.flow.now.to _ c.begin-stage.result.0
    c.poll-stage.result.0 c.begin-stage.result.1 c.poll-stage.result.1 c.begin-stage.ensures.begins c.begin-stage.ensures.seen
    c.requires.from c.requires.to c.poll-stage.ensures.forwards memory (c.begin-stage.ensures.awaits reads none) can goes))
