use Rattle.pipe_job.proofs.Stepping.{whole_moves}
use Rattle.pipe_job.proofs.pipe_job.PipeJobJobLegacyDriverRent.poll.Goals as goal

-- all was sent and received
pub returns-in-Done-Ok-clause-moves : goal.returns-in-Done-Ok-clause-moves
returns-in-Done-Ok-clause-moves g c =
    whole_moves g.I.NonBlock.files g.I.NonBlock.view g.I.NonBlock.tells g.I.NonBlock.memory c.args.self.course c.run.new.course
    c.args.driver.now c.run.new.driver c.into_bytes.result c.in-Done-Ok.field-0 c.in-Done-Ok.field-0-0 c.in-Done-Ok.field-0-is
    c.in-Done-Ok.ensures.steps.moves c.in-Done-Ok.ensures.whole c.into_bytes.ensures
