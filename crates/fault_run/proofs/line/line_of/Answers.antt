use Rattle.std.proofs.Common.{false, subst}
use Rattle.std.specs.Prelude.{MatchOption}
use Rattle.event_text.specs.TextEvent.{stands_for}
use Rattle.event_text.specs.TextLines.{IsWrong}
use Rattle.fault_run.proofs.Reading.{taken-says}
use Rattle.fault_run.proofs.line.line_of.Goals as goal

pub returns-in-Ok-Some : goal.returns-in-Ok-Some
returns-in-Ok-Some c =
    let text = c.args.text.now in
    taken-says text c.in-Ok-Some.event c.taken.result
    (subst (λ event. MatchOption event (IsWrong (stands_for false) text) (stands_for false text)) c.in-Ok-Some.field-0-is
    c.in-Ok-Some.ensures)
    c.taken.ensures
