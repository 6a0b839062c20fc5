-- The numbers that words write.
use Rattle.std.proofs.Common.{◌≡◌, ◌∙◌, ℕ, ◌-◌, ◌^◌, ◌<◌, ◌≤◌, List, length, get_or, take, refl, ap, sym, subst, arith, inl, inr}
use Rattle.std.proofs.Common.{eq-zero-or-pos, bytes_eq, decimal}
use Rattle.std.specs.Prelude.{Bool, true, false, ◌&&◌, ltb, if◌then◌else◌, Option, Some, None}
use Rattle.std.proofs.lemmas.Bool.{ltb-true, lt-ltb}
use Rattle.std.proofs.lemmas.Fmt.{decimal_is_IsNumeral, decimal_nonempty, first_decimal, decimal-digits_value, decimal_digit}
use Rattle.std.proofs.lemmas.Slice.Eq.{bytes_eq-Decides}
use Rattle.std.proofs.lemmas.Str.{digit_value_digit}
use Rattle.std.proofs.lemmas.Str.Parse.{IsNumeralModel, digits_value-take-le, digit_at}
use Rattle.std.specs.Char.{digit_value}
use Rattle.std.specs.Str.Parse.{AllDigits, digits_value}
use Rattle.event_text.specs.TextReads.{number_of}

-- Digits in base 10 are a model of numerals.
own : IsNumeralModel (AllDigits 10) (digits_value 10)
own = record { to = λ ds h. h; from = λ ds h. h; same = λ ds h. refl }

-- A test that was passed.
if-Some : {A : Type 0} (a b : Bool) (v w : A) → (if a && b then Some v else None) ≡ Some w → (a ≡ true) × (b ≡ true) × (v ≡ w)
if-Some true true v w is = (refl, refl, cc)
if-Some true false v w is = absurd (cc)
if-Some false b v w is = absurd (cc)

-- An option that can hold nothing.
pub None-from : {A : Type 0} (o : Option A) → ((x : A) → o ≡ Some x → ⊥) → o ≡ None
None-from None never = refl
None-from (Some x) never = absurd (never x refl)

-- What a number is written as is read as that number.
pub number_of-decimal : (n : ℕ) → n < 2 ^ 64 → number_of (decimal n) ≡ Some n
unfolding number_of
number_of-decimal n small =
    let value : digits_value 10 (decimal n) ≡ n = (decimal_is_IsNumeral n small).1 in
    let same : bytes_eq (decimal n) (decimal n) ≡ true = (bytes_eq-Decides (decimal n) (decimal n)).1 refl in
    rw (value, lt-ltb n (2 ^ 64) small, same) refl

-- A word that is read as a number is what that number is written as.
pub number_of-Some : (word : List ℕ) (n : ℕ) → number_of word ≡ Some n → (word ≡ decimal n) × (n < 2 ^ 64)
unfolding number_of
number_of-Some word n is =
    let tests = if-Some (ltb (digits_value 10 word) (2 ^ 64)) (bytes_eq (decimal (digits_value 10 word)) word)
    (digits_value 10 word) n is in (
      sym ((bytes_eq-Decides (decimal (digits_value 10 word)) word).0 tests.1) ∙ ap decimal tests.2,
      subst (λ (v : ℕ). v < 2 ^ 64) tests.2 (ltb-true (digits_value 10 word) (2 ^ 64) tests.0),
    )

-- A word that no number is written as is read as none.
pub number_of-None : (word : List ℕ) → ((n : ℕ) → n < 2 ^ 64 → word ≡ decimal n → ⊥) → number_of word ≡ None
number_of-None word never =
    None-from (number_of word) (λ n is. let read = number_of-Some word n is in never n read.1 read.0)

-- No number is written as an empty word.
pub number_of-empty : (word : List ℕ) → length word ≡ 0 → number_of word ≡ None
number_of-empty word empty = number_of-None word
    (λ n small is. let some : 0 < length word = subst (λ (w : List ℕ). 0 < length w) (sym is)
    (decimal_nonempty n small) in absurd (omega arith))

-- No number is written with a zero in front of further digits.
pub number_of-zero_first : (word : List ℕ) → 1 < length word → get_or word 0 0 ≡ 48 → number_of word ≡ None
number_of-zero_first word long zero_first =
    number_of-None word (λ n small is. elim (eq-zero-or-pos n) [
      | inl z ↦ let short : length word ≡ 1 = ap length is ∙ ap (λ (m : ℕ). length (decimal m)) z
          ∙ ap length (decimal_digit 0 (omega arith)) in absurd (omega arith)
      | inr more ↦ let first : 48 < get_or word 0 0 =
          subst (λ (w : List ℕ). 48 < get_or w 0 0) (sym is) (first_decimal n more small) in absurd (omega arith)
    ])

-- A number is written in digits.
pub number_of-no_digit : (word : List ℕ) (i : ℕ) → i < length word → (48 ≤ get_or word i 0 → get_or word i 0 ≤ 57 → ⊥)
    → number_of word ≡ None
number_of-no_digit word i below isnt =
    number_of-None word (λ n small is.
    let digits : AllDigits 10 word = subst (λ (w : List ℕ). AllDigits 10 w) (sym is) (decimal_is_IsNumeral n small).0.1 in
    let digit = digit_at word i digits below in
    isnt digit.0 digit.1)

-- A number is at least what its first digits write.
pub number_of-large : (word : List ℕ) (i : ℕ) → 2 ^ 64 ≤ digits_value 10 (take i word) → number_of word ≡ None
number_of-large word i large =
    number_of-None word (λ n small is.
    let value : digits_value 10 word ≡ n = ap (λ (w : List ℕ). digits_value 10 w) is ∙ (decimal_is_IsNumeral n small).1 in
    let most : digits_value 10 (take i word) ≤ digits_value 10 word = digits_value-take-le 10 word i (omega arith) in
    absurd (omega arith))

-- Digits with no zero in front are read as their value.
pub number_of-digits : (word : List ℕ) → AllDigits 10 word → 0 < length word → (get_or word 0 0 ≡ 48 → length word ≡ 1)
    → digits_value 10 word < 2 ^ 64 → number_of word ≡ Some (digits_value 10 word)
unfolding number_of
number_of-digits word digits some no_zero small =
    let same : bytes_eq (decimal (digits_value 10 word)) word ≡ true = (bytes_eq-Decides (decimal (digits_value 10 word)) word).1
    (decimal-digits_value own word digits some no_zero small) in
    rw (lt-ltb (digits_value 10 word) (2 ^ 64) small, same) refl

-- The value of a digit.
pub digit_value-digit : (byte : ℕ) → 48 ≤ byte → byte ≤ 57 → digit_value byte ≡ byte - 48
digit_value-digit byte low high = let e = digit_value_digit byte (low, high) in omega (arith, e)
