use Rattle.std.proofs.Common.{refl}
use Rattle.pipe_job.specs.declared.step.Step.TheVariants.{Again, OutOfMemory, Pending}
use Rattle.pipe_job.proofs.Stepping.{same_both, steps_none, steps_on}
use Rattle.pipe_job.proofs.pipe_job.run.Goals as goal

-- no step was made
pub loop-next-init : goal.loop-next-init
loop-next-init g c = record {
  same = record { pipe = refl; bytes = refl };
  steps = steps_none g.I.NonBlock.files g.I.NonBlock.view g.I.NonBlock.tells g.I.NonBlock.memory c.args.course.now c.args.cancels
      c.args.driver.now c.args.wait c.requires.fits;
  none = λ idle none. (idle, none);
}

-- one more
pub loop-next-preserved : goal.loop-next-preserved
loop-next-preserved g c = record {
  same = same_both c.args.course.now c.loop-next.course c.advance.new.course c.loop-next.invariant.same c.in-Again.ensures.same;
  steps = steps_on g.I.NonBlock.files g.I.NonBlock.view g.I.NonBlock.tells g.I.NonBlock.memory c.args.course.now c.loop-next.course
      c.advance.new.course c.args.cancels c.args.driver.now c.loop-next.driver c.advance.new.driver c.args.wait c.loop-next.wait
      (Again c.in-Again.next) c.loop-next.invariant.steps c.in-Again.ensures.steps;
  none = λ idle none.
      let kept = c.loop-next.invariant.none idle none in
      let no = c.in-Again.ensures.empty kept.0 kept.1 in
      absurd cc;
}

-- the last
pub returns-in-Pending-clause-steps : goal.returns-in-Pending-clause-steps
returns-in-Pending-clause-steps g c =
    steps_on g.I.NonBlock.files g.I.NonBlock.view g.I.NonBlock.tells g.I.NonBlock.memory c.args.course.now c.loop-next.course
    c.advance.new.course c.args.cancels c.args.driver.now c.loop-next.driver c.advance.new.driver c.args.wait c.loop-next.wait
    (Pending c.in-Pending.next) c.loop-next.invariant.steps c.in-Pending.ensures.steps

pub returns-in-OutOfMemory-clause-steps : goal.returns-in-OutOfMemory-clause-steps
returns-in-OutOfMemory-clause-steps g c =
    steps_on g.I.NonBlock.files g.I.NonBlock.view g.I.NonBlock.tells g.I.NonBlock.memory c.args.course.now c.loop-next.course
    c.advance.new.course c.args.cancels c.args.driver.now c.loop-next.driver c.advance.new.driver c.args.wait c.loop-next.wait
    (OutOfMemory c.in-OutOfMemory.next) c.loop-next.invariant.steps c.in-OutOfMemory.ensures.steps
