use Rattle.core_exec.specs.Exec.{left_of, outputs_of, spawned_of}
use Rattle.task_run.specs.Tasks.{bytes_at}
use Rattle.task_run.proofs.Results.{taken_results}
use Rattle.task_run.proofs.jobs.take_results.Goals as goal

pub returns-clause-results : goal.returns-clause-results
returns-clause-results c = λ text is aims.
    let taken = c.in_ok-taken.ensures in
    taken_results text (outputs_of c.args.exec.now) c.in_ok-taken.taken.items (left_of c.args.exec.now) (left_of c.take_done.new.self)
    (spawned_of c.args.exec.now) taken.ok taken.ascending taken.once taken.of_spawned (taken.meet (bytes_at text) aims) c.requires.all
    taken.numbers.1 is
