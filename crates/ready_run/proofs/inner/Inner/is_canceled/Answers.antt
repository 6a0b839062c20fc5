use Rattle.std.proofs.Common.{subst, ◌∙◌}
use Rattle.driver_core.specs.Answers.{IsUnder}
use Rattle.ready_driver.specs.Legacy.{seen}
use Rattle.ready_run.proofs.Submitting.{under-mark, under-none}
use Rattle.ready_run.proofs.inner.Inner.is_canceled.Goals as goal

pub returns-in-Some : goal.returns-in-Some
returns-in-Some c = λ D under stands is.
    c.canceled.ensures.answers D stands.driver ∙ under-mark D _ under (subst (λ g. IsUnder (seen D) g under) c.in-Some.is is)

pub returns-in-None : goal.returns-in-None
returns-in-None c = λ D under stands is. under-none D under (subst (λ g. IsUnder (seen D) g under) c.in-None.is is)
