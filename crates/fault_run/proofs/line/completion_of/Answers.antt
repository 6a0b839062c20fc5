use Rattle.std.proofs.Common.{◌∙◌, false, subst}
use Rattle.std.specs.Prelude.{MatchOption}
use Rattle.event_text.specs.TextEvent.{stands_for}
use Rattle.event_text.specs.TextLines.{IsWrong}
use Rattle.fault_run.proofs.Reading.{no-completion}
use Rattle.fault_run.proofs.line.completion_of.Goals as goal

pub returns-in-Ok-None : goal.returns-in-Ok-None
returns-in-Ok-None c =
    let seen = c.as_slice.result.now in
    no-completion c.args.text.now c.in-Some.rest.now seen c.in-Some.ensures (c.as_slice.ensures.value ∙ c.in_ok-execution.ensures)
    (subst (λ event. MatchOption event (IsWrong (stands_for false) seen) (stands_for false seen)) c.in-Ok-None.field-0-is
    c.in-Ok-None.ensures)
