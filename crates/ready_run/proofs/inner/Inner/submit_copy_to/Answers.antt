use Rattle.std.proofs.Common.{false, refl, subst}
use Rattle.machine.specs.declared.ledger.Event.TheVariants.{Submit}
use Rattle.ready_run.specs.ReadySession.{StepsFor}
use Rattle.ready_run.proofs.Kept.{tokens-same}
use Rattle.ready_run.proofs.Steps.{answers-refused}
use Rattle.ready_run.proofs.inner.Inner.submit_copy_to.Goals as goal

pub returns-in-Some : goal.returns-in-Some
returns-in-Some c = λ D under stands is.
    answers-refused c.args.self.now _ D _ _ stands (c.in-Some.ensures.named D under stands is) refl (tokens-same _)

pub returns-in-Ok : goal.returns-in-Ok
returns-in-Ok c = λ D under stands is. subst (λ request. StepsFor D (Submit request under false) c.submit_to.new.self c.submit_to.result)
    c.in-Ok.ensures (c.submit_to.ensures D under stands is)

pub returns-in-Err : goal.returns-in-Err
returns-in-Err c = λ D under stands is. record { stands = stands; unrefused = c.in-None.ensures.named D under stands is }
