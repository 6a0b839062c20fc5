use Rattle.ready_run.proofs.Following.{steps-follow}
use Rattle.ready_run.proofs.Parts.{parts-after}
use Rattle.ready_run.proofs.session.ReadySession.step.Goals as goal

pub invariant_of-self : goal.invariant_of-self
invariant_of-self c = parts-after _ _ c.args.event.now c.answer.result c.self.invariant c.answer.ensures.answers

pub returns-clause-answers : goal.returns-clause-answers
returns-clause-answers c = rw (← c.self.view_is)
    (steps-follow _ _ c.args.event.now c.answer.result c.requires c.answer.ensures.answers)
