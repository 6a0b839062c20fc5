-- The last word of a line is all that is left of it: what no word with a space in it writes isn't written by more than one word.
use Rattle.std.proofs.Common.{◌≡◌, ◌∙◌, ℕ, ◌+◌, ◌-◌, ◌<◌, ◌≤◌, ◌==◌, List, [], ◌∷◌, length, take, drop, refl, ap, sym}
use Rattle.std.proofs.Common.{arith}
use Rattle.std.specs.Prelude.{Bool, true, false, Some, None}
use Rattle.std.proofs.lemmas.Bool.{eqb-true, eqb-false}
use Rattle.std.proofs.lemmas.Fmt.{decimal_digit}
use Rattle.event_text.specs.TextLines.{onto_first}
use Rattle.event_text.specs.TextReads.{words, words_behind, number_of, bytes_of, bytes_end}
use Rattle.event_text.specs.TextWords.{is_solid}
use Rattle.event_text.proofs.TextCuts.{words-space, words-other, take-rest}
use Rattle.event_text.proofs.TextHex.{bytes_of-Some}
use Rattle.event_text.proofs.TextNumbers.{None-from, number_of-decimal}
use Rattle.event_text.proofs.TextSpaces.{solid-cons, solid_bytes, words-one, words-some}

-- Words that are two at least.
record AreMore (all : List (List ℕ)) : Type 0 where
  first : List ℕ
  second : List ℕ
  more : List (List ℕ)
  is : all ≡ first ∷ second ∷ more

-- A byte other than a space in front of two words leaves two.
more-onto : (byte : ℕ) (bytes : List ℕ) → (byte ≡ 32 → ⊥) → AreMore (words bytes) → AreMore (words (byte ∷ bytes))
more-onto byte bytes isnt rest = record {
  first = byte ∷ rest.first;
  second = rest.second;
  more = rest.more;
  is = words-other byte bytes isnt ∙ ap (onto_first byte) rest.is;
}

-- Behind a space there is a second word.
more-space : (byte : ℕ) (bytes : List ℕ) → byte ≡ 32 → AreMore (words (byte ∷ bytes))
more-space byte bytes space =
    let some = words-some bytes in
    record { first = []; second = some.0; more = some.1; is = words-space byte bytes space ∙ ap (λ all. [] ∷ all) some.2 }

-- A space in a text makes two words of it.
words-two : (text : List ℕ) → is_solid text ≡ false → AreMore (words text)
words-two [] is = absurd (cc)
words-two (byte ∷ bytes) is = by (byte == 32) (is_solid bytes) refl refl (λ spaced. words-two bytes spaced)
  where
    by : (b s : Bool) → (byte == 32) ≡ b → is_solid bytes ≡ s → (is_solid bytes ≡ false → AreMore (words bytes)) →
        AreMore (words (byte ∷ bytes))
    by true s space rest behind = more-space byte bytes (eqb-true byte 32 space)
    by false false other rest behind = more-onto byte bytes (eqb-false byte 32 other) (behind rest)
    by false true other rest behind = (
        let solid = solid-cons byte bytes (eqb-false byte 32 other) rest in
        let f : ⊥ = cc in
        absurd f)

-- What is read as bytes has no space in it.
bytes-solid : (text : List ℕ) → is_solid text ≡ false → bytes_of text ≡ None
bytes-solid text is = None-from (bytes_of text) (λ bytes read.
    let f : true ≡ false = sym (solid_bytes bytes) ∙ sym (ap is_solid (bytes_of-Some text bytes read).0) ∙ is in
    let g : ⊥ = cc in
    g)

-- The bytes that the one word of a text writes are those which the text writes.
bytes-alone : (text : List ℕ) → bytes_end (words text) ≡ bytes_of text
bytes-alone text = by (is_solid text) refl
  where
    by : (s : Bool) → is_solid text ≡ s → bytes_end (words text) ≡ bytes_of text
    by true solid = ap bytes_end (words-one text solid)
    by false spaced =
        let all = words-two text spaced in
        ap bytes_end all.is ∙ sym (bytes-solid text spaced)

-- What is left behind a word and its space writes the bytes of the one word behind.
pub last-bytes : (rest : List ℕ) → 1 ≤ length rest
    → bytes_of (take (length rest - 1) (drop 1 rest)) ≡ bytes_end (words_behind rest)
last-bytes [] some = absurd (omega arith)
last-bytes (space ∷ text) some = ap bytes_of (take-rest (space ∷ text) 1) ∙ sym (bytes-alone text)

-- A digit alone is the number of its value.
pub digit-number : (digit : ℕ) → 48 ≤ digit → digit ≤ 57 → number_of (digit ∷ []) ≡ Some (digit - 48)
digit-number digit low high =
    let small : digit - 48 < 10 = omega arith in
    let is : 48 + (digit - 48) ≡ digit = omega arith in
    ap (λ d. number_of (d ∷ [])) (sym is) ∙ ap number_of (sym (decimal_digit (digit - 48) small))
    ∙ number_of-decimal (digit - 48) (omega arith)
