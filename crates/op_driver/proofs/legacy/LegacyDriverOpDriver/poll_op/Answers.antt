use Rattle.ready_driver.specs.LegacyState.{ops_in}
use Rattle.op_driver.proofs.Returned.{legacy_back, legacy_others}
use Rattle.op_driver.proofs.legacy.LegacyDriverOpDriver.poll_op.Goals as goal

pub returns-clause-request : goal.returns-clause-request
returns-clause-request g c =
    legacy_back g.I.NonBlock.view g.I.NonBlock.tells g.I.NonBlock.memory g.B.IoBufMut.buffer g.I.Calls.called g.met.I.NonBlock.calls
    g.I.NonBlock.files c.args.self.now c.poll_op-answer.new.self c.args.op c.args.task c.poll_op-answer.result c.requires c.poll_op-answer.ensures.ends

pub returns-clause-others : goal.returns-clause-others
returns-clause-others g c =
    legacy_others (ops_in c.args.self.now) (ops_in c.poll_op-answer.new.self) c.args.op c.poll_op-answer.result c.requires c.poll_op-answer.ensures.slots
