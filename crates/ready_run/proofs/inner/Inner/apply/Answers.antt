use Rattle.std.proofs.Common.{sym, subst}
use Rattle.ready_run.specs.ReadySession.{StepsFor}
use Rattle.ready_run.proofs.Submitting.{unlinked}
use Rattle.ready_run.proofs.inner.Inner.apply.Goals as goal

pub returns-in-Submit-clause-answers : goal.returns-in-Submit-clause-answers
returns-in-Submit-clause-answers c = λ D stands.
    subst (λ event. StepsFor D event c.submit.new.self c.submit.result)
    (sym (unlinked c.args.event _ _ _ c.requires.driven c.in-Submit.is)) (c.submit.ensures D stands)
