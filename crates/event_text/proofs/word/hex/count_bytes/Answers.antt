use Rattle.std.proofs.Common.{◌∙◌, List, ℕ, ap, arith, length, sym}
use Rattle.std.specs.Prelude.{Option, option_map}
use Rattle.event_text.proofs.TextDigits.{pairs_of-count}
use Rattle.event_text.proofs.TextHex.{bytes_of-pairs, eqb-isnt}
use Rattle.event_text.proofs.word.hex.count_bytes.Goals as goal

pub returns : goal.returns
returns c =
    let word = c.args.word.now in
    let pairs = c.is_hex.ensures.yes c.if-not-is_hex.false in
    let even = pairs.even in
    let some = eqb-isnt (length word) 0 (sym c.is_empty.ensures ∙ c.if-is_empty.false) in
    pairs_of-count word pairs ∙ sym (ap (λ (o : Option (List ℕ)). option_map length o) (bytes_of-pairs word (omega arith)))
