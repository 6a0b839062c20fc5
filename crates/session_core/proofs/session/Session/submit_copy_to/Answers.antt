use Rattle.std.proofs.Common.{refl, subst}
use Rattle.machine.specs.declared.ledger.Event.TheVariants.{Submit}
use Rattle.session_core.specs.Session.{StepsFor}
use Rattle.ready_run.proofs.Kept.{tokens-same}
use Rattle.session_core.proofs.Steps.{answers-refused}
use Rattle.session_core.proofs.session.Session.submit_copy_to.Goals as goal

pub returns-in-Some : goal.returns-in-Some
returns-in-Some c = λ L under stands is.
    answers-refused c.args.self.now _ L _ _ stands (c.in-Some.ensures.named L under c.args.linked stands is) refl (tokens-same _)

pub returns-in-Ok : goal.returns-in-Ok
returns-in-Ok c = λ L under stands is.
    subst (λ request. StepsFor L (Submit request under c.args.linked) c.submit_to.new.self c.submit_to.result) c.in-Ok.ensures
    (c.submit_to.ensures L under stands is)

pub returns-in-Err : goal.returns-in-Err
returns-in-Err c = λ L under stands is. record { stands = stands; unrefused = c.in-None.ensures.named L under c.args.linked stands is }
