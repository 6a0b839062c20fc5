use Rattle.pipe_job.proofs.Stepping.{steps_whole}
use Rattle.pipe_job.proofs.step.advance.Goals as goal

-- nothing is left to do
pub returns-then-is_done-clause-steps : goal.returns-then-is_done-clause-steps
returns-then-is_done-clause-steps g c = steps_whole g.I.NonBlock.files g.I.NonBlock.view g.I.NonBlock.tells g.I.NonBlock.memory
    c.args.course.now c.args.cancels c.args.driver.now c.args.wait
