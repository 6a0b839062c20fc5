use Rattle.std.proofs.Common.{◌∙◌, ap, sym}
use Rattle.std.specs.Prelude.{option_map}
use Rattle.rent_buf.specs.Parts.{parts_of_pairs}
use Rattle.event_text.proofs.TextParts.{counted_of-new}
use Rattle.event_text.proofs.buffer.read_counted.Goals as goal

pub returns-in-Some-2 : goal.returns-in-Some-2
returns-in-Some-2 c =
    counted_of-new _ _ c.new.result c.in-Some.count c.in-Some-2.pairs.items c.in-Some.ensures.reads
    (sym (ap (λ pairs. option_map (λ pairs. parts_of_pairs pairs.items) pairs) c.in-Some-2.is) ∙ c.in_ok-pairs.ensures)
    (sym c.in-Some-2.pairs.ok.0 ∙ sym c.len.ensures ∙ c.if-len-count.true) c.new.ensures.some c.new.ensures.exact
