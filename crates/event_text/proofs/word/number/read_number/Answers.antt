use Rattle.std.proofs.Common.{◌≡◌, ◌∙◌, ℕ, ◌+◌, ◌<◌, List, length, get_or, take, arith, ap, sym}
use Rattle.std.specs.Prelude.{Some}
use Rattle.std.proofs.lemmas.Bool.Decides.{nat_tests}
use Rattle.std.proofs.lemmas.Int.Digits.{digits_value_more, digits_more}
use Rattle.std.proofs.lemmas.List.{take_all}
use Rattle.std.specs.Str.Parse.{AllDigits, digits_value}
use Rattle.event_text.proofs.TextNumbers.{number_of-empty, number_of-zero_first, number_of-no_digit, number_of-large, number_of-digits}
use Rattle.event_text.proofs.TextNumbers.{digit_value-digit}
use Rattle.event_text.proofs.word.number.read_number.Goals as goal
use Rattle.event_text.proofs.word.number.read_number.Goals.{then-byte-lt48-via-then-byte-lt48}
use Rattle.event_text.proofs.word.number.read_number.Goals.{then-byte-lt48-via-else-byte-lt48+then-byte-gt57}
use Rattle.event_text.proofs.word.number.read_number.Goals.{else-word-gt1-via-then-word-gt1+else-word-eq48, else-word-gt1-via-else-word-gt1}

pub returns-then-is_empty : goal.returns-then-is_empty
returns-then-is_empty c = sym (number_of-empty c.args.word.now (grind (arith, nat_tests)))

pub returns-then-word-eq48 : goal.returns-then-word-eq48
returns-then-word-eq48 c = sym (number_of-zero_first c.args.word.now c.if-word-gt1.true c.if-word-eq48.true)

pub returns-then-byte-lt48 : goal.returns-then-byte-lt48
returns-then-byte-lt48 c =
    sym (number_of-no_digit c.args.word.now c.loop-byte.byte-index c.loop-byte-test.true
    (λ low high. elim c.then-byte-lt48.branch [
      | then-byte-lt48-via-then-byte-lt48 w ↦ omega arith
      | then-byte-lt48-via-else-byte-lt48+then-byte-gt57 w ↦ omega arith
    ]))

pub returns-then-most_before-number : goal.returns-then-most_before-number
returns-then-most_before-number c =
    let value = digits_value_more 10 c.args.word.now c.loop-byte.byte-index c.loop-byte-test.true in
    let digit = digit_value-digit (get_or c.args.word.now c.loop-byte.byte-index 0) c.if-byte-lt48.false c.if-byte-gt57.false in
    sym (number_of-large c.args.word.now (c.loop-byte.byte-index + 1) (omega (arith, value, digit)))

pub loop-byte-preserved : goal.loop-byte-preserved
loop-byte-preserved c =
    let more = digits_value_more 10 c.args.word.now c.loop-byte.byte-index c.loop-byte-test.true in
    let digit = digit_value-digit (get_or c.args.word.now c.loop-byte.byte-index 0) c.if-byte-lt48.false c.if-byte-gt57.false in
    record {
      value = omega (arith, more, digit);
      digits = digits_more 10 c.args.word.now c.loop-byte.byte-index c.loop-byte-test.true c.loop-byte.invariant.digits
          (omega (arith, digit));
    }

pub returns : goal.returns
returns c =
    let all : take c.loop-byte.byte-index c.args.word.now ≡ c.args.word.now =
    take_all c.loop-byte.byte-index c.args.word.now (omega arith) in
    let value : c.loop-byte.number ≡ digits_value 10 c.args.word.now =
    c.loop-byte.invariant.value ∙ ap (λ (w : List ℕ). digits_value 10 w) all in
    let digits : AllDigits 10 c.args.word.now = rw all at c.loop-byte.invariant.digits in
    ap (λ (n : ℕ). Some n) value ∙ sym (number_of-digits c.args.word.now digits (grind (arith, nat_tests))
    (λ zero. elim c.else-word-gt1.branch [
      | else-word-gt1-via-then-word-gt1+else-word-eq48 w ↦ absurd (w.if-word-eq48.false zero)
      | else-word-gt1-via-else-word-gt1 w ↦ let some : 0 < length c.args.word.now = grind (arith, nat_tests) in omega arith
    ]) (omega arith))
