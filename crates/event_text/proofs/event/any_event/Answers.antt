use Rattle.std.proofs.Common.{◌≡◌, subst, sym}
use Rattle.std.specs.Prelude.{IfOk}
use Rattle.event_text.specs.TextLook.{line_of}
use Rattle.event_text.specs.TextReads.{words}
use Rattle.event_text.proofs.TextFirsts.{other-first}
use Rattle.event_text.proofs.event.any_event.Goals as goal

pub returns : goal.returns
returns c =
    subst (λ o. IfOk c.linked_event.result (λ event. event ≡ o))
    (other-first (words (line_of c.args.line.now)) (sym c.in_default.ensures.reads) (sym c.in_default-behind_word.ensures.reads))
    c.linked_event.ensures
