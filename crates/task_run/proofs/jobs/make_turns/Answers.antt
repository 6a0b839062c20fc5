use Rattle.std.proofs.Common.{◌∙◌, arith}
use Rattle.task_run.proofs.jobs.make_turns.Goals as goal

pub returns-then-is_some-clause-aims : goal.returns-then-is_some-clause-aims
returns-then-is_some-clause-aims c = λ aims met. c.turn-turned.ensures.aims aims (c.loop.invariant.aims aims met)

pub returns-in_err-ran-clause-aims : goal.returns-in_err-ran-clause-aims
returns-in_err-ran-clause-aims c = λ aims met. c.turn-turned.ensures.aims aims (c.loop.invariant.aims aims met)

pub returns-then-is_some-2-clause-aims : goal.returns-then-is_some-2-clause-aims
returns-then-is_some-2-clause-aims c = λ aims met. c.turn-turned.ensures.aims aims (c.loop.invariant.aims aims met)

pub loop-preserved : goal.loop-preserved
loop-preserved c = record {
  stands = c.turn-turned.ensures.stands;
  sound = c.turn-turned.ensures.sound;
  turns = (let counted = c.turn-turned.ensures.counted in let before = c.loop.invariant.turns in omega (arith, counted, before));
  moment = c.turn-turned.ensures.moment;
  spawned = c.turn-turned.ensures.spawned ∙ c.loop.invariant.spawned;
  all = c.turn-turned.ensures.places.1 ∙ c.loop.invariant.all;
  aims = λ aims met. c.turn-turned.ensures.aims aims (c.loop.invariant.aims aims met);
}
