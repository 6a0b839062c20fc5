use Rattle.live_run.proofs.Living.{line-runs}
use Rattle.live_run.proofs.line.run_line.Goals as goal

pub returns-in-Ok-Some-clause-runs : goal.returns-in-Ok-Some-clause-runs
returns-in-Ok-Some-clause-runs g c =
    line-runs g.K.ByteSink.tells _ _ _ _ _ _ _ c.in-Ok-Some.event _ (rw c.in-Ok-Some.field-0-is at c.in-Ok-Some.ensures)
    c.run_event.ensures.runs
