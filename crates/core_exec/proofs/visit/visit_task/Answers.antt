use Rattle.core_exec.specs.Tasks.{task_at}
use Rattle.core_exec.proofs.Visiting.{sound_visited}
use Rattle.core_exec.proofs.Waiting.{waiting_visited}
use Rattle.core_exec.proofs.visit.visit_task.Goals as goal

-- each other job fits still, and is apart from the one that goes on
pub returns-clause-sound : goal.returns-clause-sound
returns-clause-sound g c = sound_visited g.J.Job.fits g.J.Job.apart g.met.J.Job.apart_both c.args.driver.now c.visit_job-answer.new.driver
    c.args.t c.late_at-late.result c.in-Some.taken c.visit_job-answer.result (task_at c.args.table.now) (task_at c.take_marked.new.self)
    (task_at c.settle-visit.new.table) c.in-Some.ensures.some c.settle-visit.ensures.this c.take_marked.ensures.rest
    c.settle-visit.ensures.rest c.visit_job-answer.ensures.fits c.visit_job-answer.ensures.others c.visit_job-answer.ensures.apart
    c.requires.sound

-- and what waits in the driver stays there
pub returns-clause-waits : goal.returns-clause-waits
returns-clause-waits g c = waiting_visited g.J.Job.waits g.J.Job.fits g.J.Job.apart c.args.driver.now c.visit_job-answer.new.driver
    c.args.t c.late_at-late.result c.in-Some.taken c.visit_job-answer.result (task_at c.args.table.now) (task_at c.take_marked.new.self)
    (task_at c.settle-visit.new.table) c.in-Some.ensures.some c.settle-visit.ensures.this c.take_marked.ensures.rest
    c.settle-visit.ensures.rest c.visit_job-answer.ensures.waits c.visit_job-answer.ensures.stays c.requires.sound
