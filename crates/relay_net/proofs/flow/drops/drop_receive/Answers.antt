use Rattle.relay_net.specs.Flow.{IsReceive}
use Rattle.relay_net.proofs.Flows.{receive_apart}
use Rattle.relay_net.proofs.Outcomes.{dropped_abandons}
use Rattle.relay_net.proofs.Keyed.{dropped_keys}
use Rattle.relay_net.proofs.Seeing.{dropped_seen}
use Rattle.relay_net.proofs.flow.drops.drop_receive.Goals as goal

pub returns-clause-drops : goal.returns-clause-drops
returns-clause-drops g c =
    dropped_abandons g.I.NonBlock.view g.I.NonBlock.tells g.I.NonBlock.memory c.args.driver.now c.drop_op.new.self c.args.op c.args.from
    c.args.to (IsReceive c.requires.pending.0 c.args.from) c.drop_op.ensures.drops c.requires.pending.1
    (receive_apart c.requires.pending.0 c.args.from c.args.to)

pub returns-clause-keyed : goal.returns-clause-keyed
returns-clause-keyed g c =
    dropped_keys g.I.NonBlock.view g.I.NonBlock.tells g.I.NonBlock.memory c.args.driver.now c.drop_op.new.self c.args.op
    c.drop_op.ensures.drops

pub returns-clause-seen : goal.returns-clause-seen
returns-clause-seen g c =
    dropped_seen g.I.NonBlock.view g.I.NonBlock.tells g.I.NonBlock.memory g.met.I.NonBlock.memory_tells c.args.driver.now
    c.drop_op.new.self c.args.op
    c.drop_op.ensures.drops
