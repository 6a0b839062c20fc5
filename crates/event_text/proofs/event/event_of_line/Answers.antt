use Rattle.std.proofs.Common.{◌≡◌, ◌∙◌, ap, subst, sym}
use Rattle.std.specs.Prelude.{IfOk, not}
use Rattle.std.proofs.lemmas.Bool.{eq-eqb}
use Rattle.event_text.specs.TextEventReads.{event_of}
use Rattle.event_text.specs.TextLook.{line_of}
use Rattle.event_text.specs.TextReads.{words}
use Rattle.event_text.proofs.TextFirsts.{external-first}
use Rattle.event_text.proofs.TextHex.{isnt-eqb}
use Rattle.event_text.proofs.TextLinesRead.{ok-read}
use Rattle.event_text.proofs.event.event_of_line.Goals as goal

pub returns-then-this-ne0 : goal.returns-then-this-ne0
returns-then-this-ne0 g c =
    ok-read _ c.args.line.now c.external_event.result c.requires
    (subst (λ o. IfOk c.external_event.result (λ event. event ≡ o))
    (external-first _
    ∙ ap (λ b. event_of (not b) (words (line_of c.args.line.now))) (sym (isnt-eqb g.row.EXTERNAL 0 c.if-this-ne0.true)))
    c.external_event.ensures)

pub returns-else-this-ne0 : goal.returns-else-this-ne0
returns-else-this-ne0 g c =
    ok-read _ c.args.line.now c.any_event.result c.requires
    (subst (λ o. IfOk c.any_event.result (λ event. event ≡ o))
    (ap (λ b. event_of (not b) (words (line_of c.args.line.now))) (sym (eq-eqb g.row.EXTERNAL 0 c.if-this-ne0.false)))
    c.any_event.ensures)
