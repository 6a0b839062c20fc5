use Rattle.std.specs.Prelude.{◌≡◌, []}
use Rattle.pipe_job.specs.Course.{IsSameBytes}
use Rattle.pipe_job.specs.Steps.{StepsTo}
use Rattle.pipe_job.specs.Waits.{HasNone, most_steps}
use Rattle.pipe_job.specs.declared.step.Step.TheVariants.{Again}
use Rattle.pipe_job.proofs.pipe_job.run.Given as goal

-- The job has its bytes still, and what it waits for follows what it waited for at first.
abbrev pub invariant-loop-next : goal.invariant-loop-next
invariant-loop-next g l = record {
  same : IsSameBytes l.initial.course l.course;
  steps : StepsTo g.I.NonBlock.files g.I.NonBlock.view g.I.NonBlock.tells g.I.NonBlock.memory l.initial.course l.course l.cancels
      l.initial.driver l.driver l.initial.wait (Again l.wait);
  none : HasNone l.initial.wait → l.initial.course.bytes ≡ [] → HasNone l.wait × (l.course.bytes ≡ []);
}

-- Each step does something.
abbrev pub decreases-loop-next : goal.decreases-loop-next
decreases-loop-next g l = most_steps l.course l.wait
