use Rattle.std.proofs.Common.{◌∙◌, ap, sym}
use Rattle.std.specs.Option.{is_some}
use Rattle.event_text.specs.TextLook.{line_of}
use Rattle.event_text.specs.TextReads.{words}
use Rattle.event_text.proofs.TextFirsts.{other-first}
use Rattle.event_text.proofs.valid.past_any.Goals as goal

pub returns-clause-reads : goal.returns-clause-reads
returns-clause-reads c =
    c.past_linked.ensures.reads
    ∙ ap is_some (other-first (words (line_of c.args.text.now)) (sym c.in_default.ensures.reads)
    (sym c.in_default-behind_word.ensures.reads))
