use Rattle.std.proofs.Common.{◌≡◌, ◌∙◌, ◌<◌, length, get_or, take, arith, ap, sym}
use Rattle.std.specs.Prelude.{Some}
use Rattle.std.proofs.lemmas.Int.Digits.{digits_value_more, digits_more}
use Rattle.std.proofs.lemmas.List.{get_or-take, length-take-le}
use Rattle.event_text.proofs.TextNumbers.{digit_value-digit, number_of-digits}
use Rattle.event_text.proofs.word.number.leading_number.Goals as goal
use Rattle.event_text.proofs.word.number.leading_number.Goals.{else-count-gt1-via-then-count-gt1+else-text-eq48}
use Rattle.event_text.proofs.word.number.leading_number.Goals.{else-count-gt1-via-else-count-gt1}

pub loop-count-preserved : goal.loop-count-preserved
loop-count-preserved c =
    let more = digits_value_more 10 c.args.text.now c.loop-count.count c.loop-count-test.true in
    let range = c.if-is_ascii_digit.ensures.cases in
    let digit = digit_value-digit (get_or c.args.text.now c.loop-count.count 0) range.0 range.1 in
    let value = c.loop-count.invariant.value in
    let below = c.loop-count-test.true in
    record {
      bound = omega (arith, below);
      value = omega (arith, more, digit, value);
      digits = digits_more 10 c.args.text.now c.loop-count.count c.loop-count-test.true c.loop-count.invariant.digits
          (let high = range.1 in let low = range.0 in omega (arith, digit, high, low));
    }

pub returns : goal.returns
returns c =
    let count : length (take c.loop-count.count c.args.text.now) ≡ c.loop-count.count =
    length-take-le c.loop-count.count c.args.text.now c.loop-count.invariant.bound in
    let some : 0 < c.loop-count.count = let isnt = c.if-count-eq0.false in omega arith in
    let value = c.loop-count.invariant.value in
    let fits = c.loop-count.auto.number-fits in
    record {
      bound = c.loop-count.invariant.bound;
      writes = number_of-digits (take c.loop-count.count c.args.text.now) c.loop-count.invariant.digits (omega (arith, count, some))
          (λ zero. elim c.else-count-gt1.branch [
            | else-count-gt1-via-then-count-gt1+else-text-eq48 w ↦ absurd (w.if-text-eq48.false
                (sym (get_or-take c.loop-count.count c.args.text.now 0 0 some) ∙ zero))
            | else-count-gt1-via-else-count-gt1 w ↦ (let short = w.if-count-gt1.false in omega (arith, count, short, some))
          ]) (omega (arith, value))
          ∙ ap (λ n. Some n) (sym value);
    }
