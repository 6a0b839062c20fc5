use Rattle.std.proofs.Common.{◌≡◌, ◌++◌, length}
use Rattle.task_run.specs.Lines.{result_lines}
use Rattle.task_run.proofs.output.put_results.Given as goal

-- What was appended, then the lines of the tasks that are left, are the lines of all.
abbrev pub invariant-loop-rest : goal.invariant-loop-rest
invariant-loop-rest l = l.out.items ++ result_lines l.rest ≡ l.initial.out.items ++ result_lines l.results

abbrev pub decreases-loop-rest : goal.decreases-loop-rest
decreases-loop-rest l = length l.rest
