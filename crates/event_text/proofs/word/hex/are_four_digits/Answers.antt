use Rattle.std.proofs.Common.{bit_or}
use Rattle.std.proofs.lemmas.Bool.{ltb-true}
use Rattle.event_text.proofs.TextDigits.{four_digits}
use Rattle.event_text.proofs.word.hex.are_four_digits.Goals as goal

pub returns : goal.returns
returns c small =
    let a = c.digit_value.result in
    let b = c.digit_value-2.result in
    let d = c.digit_value-3.result in
    let e = c.digit_value-4.result in
    four_digits c.args.text.now c.args.at a b d e (ltb-true (bit_or (bit_or a b) (bit_or d e)) 16 small) c.digit_value.ensures
    c.digit_value-2.ensures c.digit_value-3.ensures c.digit_value-4.ensures
