use Rattle.pipe_job.proofs.Resting.{dropped_rest}
use Rattle.pipe_job.proofs.Staying.{dropped_stays}
use Rattle.pipe_job.proofs.step.drop_op.Goals as goal

pub returns-clause-stays : goal.returns-clause-stays
returns-clause-stays g c = dropped_stays g.I.NonBlock.files g.I.NonBlock.view g.I.NonBlock.tells g.I.NonBlock.memory c.args.driver.now
    c.drop_op.new.self
    c.args.op c.drop_op.ensures.handles c.drop_op.ensures.slots c.drop_op.ensures.given c.drop_op.ensures.asked c.requires.held
    c.given.ensures.recorded c.given.ensures.held

pub returns-clause-rest : goal.returns-clause-rest
returns-clause-rest g c = dropped_rest g.I.NonBlock.view g.I.NonBlock.tells g.I.NonBlock.memory c.args.driver.now c.drop_op.new.self
    c.args.op c.drop_op.ensures.handles c.drop_op.ensures.tokens c.drop_op.ensures.given
