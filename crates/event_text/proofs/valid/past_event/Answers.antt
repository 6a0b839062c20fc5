use Rattle.std.proofs.Common.{◌∙◌, ap, sym}
use Rattle.std.specs.Prelude.{not}
use Rattle.std.specs.Option.{is_some}
use Rattle.event_text.specs.TextEventReads.{event_of}
use Rattle.event_text.specs.TextLook.{line_of}
use Rattle.event_text.specs.TextReads.{words}
use Rattle.event_text.proofs.TextFirsts.{external-first}
use Rattle.event_text.proofs.TextHex.{isnt-eqb}
use Rattle.event_text.proofs.valid.past_event.Goals as goal

pub returns-then-this-ne0-clause-reads : goal.returns-then-this-ne0-clause-reads
returns-then-this-ne0-clause-reads g c =
    c.past_external.ensures.reads ∙ ap is_some (external-first _)
    ∙ ap (λ b. is_some (event_of (not b) (words (line_of c.args.text.now)))) (sym (isnt-eqb g.row.EXTERNAL 0 c.if-this-ne0.true))
