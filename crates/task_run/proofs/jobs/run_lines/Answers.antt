use Rattle.std.proofs.Common.{◌∙◌, ◌++◌, None, ap, subst}
use Rattle.core_exec.specs.Exec.{left_of, spawned_of}
use Rattle.task_run.specs.Lines.{left_line, result_lines}
use Rattle.task_run.specs.Tasks.{IsSpawned, bytes_at}
use Rattle.task_run.proofs.Results.{results_written}
use Rattle.task_run.proofs.jobs.run_lines.Goals as goal

pub returns-in_ok-put_left-in-None-clause-output : goal.returns-in_ok-put_left-in-None-clause-output
returns-in_ok-put_left-in-None-clause-output c =
    let spawned : IsSpawned c.args.text.now (spawned_of c.spawn_lines.new.exec) None =
    subst (IsSpawned c.args.text.now (spawned_of c.spawn_lines.new.exec)) c.in-None.is c.in_ok-number.ensures.spawned in
    results_written c.args.text.now c.args.out.now.items c.put_results.new.out.items c.put_left.new.out.items
    c.in_ok-results-in-None.results.items (left_of c.take_results.new.exec) spawned.0
    (c.in_ok-results-in-None.ensures.results c.args.text.now (c.make_turns.ensures.spawned ∙ spawned.1)
    (c.make_turns.ensures.aims (bytes_at c.args.text.now) c.in_ok-number.ensures.aims)) c.requires.none
    (c.in_ok-put_results-in-None.ensures ∙ ap (λ results. c.args.out.now.items ++ result_lines results) c.as_slice.ensures.value)
    (c.in_ok-put_left-in-None.ensures ∙ ap (λ left. c.put_results.new.out.items ++ left_line left) c.left.ensures)
