use Rattle.std.proofs.Common.{subst, ◌∙◌}
use Rattle.driver_core.specs.Answers.{IsUnder}
use Rattle.session_core.proofs.Submitting.{under-mark, under-none}
use Rattle.session_core.proofs.session.Session.is_canceled.Goals as goal

pub returns-in-Some : goal.returns-in-Some
returns-in-Some c = λ L under stands is.
    c.canceled.ensures.answers L stands.driver ∙ under-mark L _ under (subst (λ g. IsUnder L g under) c.in-Some.is is)

pub returns-in-None : goal.returns-in-None
returns-in-None c = λ L under stands is. under-none L under (subst (λ g. IsUnder L g under) c.in-None.is is)
