-- Where a newline cuts a text.
use Rattle.std.proofs.Common.{◌≡◌, ◌∙◌, ℕ, zero, suc, ◌+◌, ◌<◌, List, [], ◌∷◌, ◌++◌, length, get_or, take, drop, refl, ap, sym}
use Rattle.std.proofs.Common.{arith, add-one, eq-eqb, eqb-true}
use Rattle.std.specs.Prelude.{None, Some}
use Rattle.std.proofs.lemmas.Bool.Decides.{nat_tests}
use Rattle.std.proofs.lemmas.List.{drop-append-le, get_or_append_left, take-append-le, length-append, take_all}
use Rattle.memchr.specs.Find.{IsFirstByte, is_byte}
use Rattle.event_text.specs.TextLines.{lines}
use Rattle.event_text.specs.TextLook.{line_end}
use Rattle.event_text.proofs.TextCuts.{lines-at, lines-whole}

-- None of the first bytes of a text is a newline.
abbrev HasNone : List ℕ → ℕ → Type 0
HasNone text count = (k : ℕ) → k < count → get_or text k 0 ≡ 10 → ⊥

-- A text that begins with a newline has its line's end there.
end-here : (byte : ℕ) (bytes : List ℕ) → byte ≡ 10 → line_end (byte ∷ bytes) ≡ byte ∷ bytes
end-here byte bytes is = rw is refl

-- Another byte is before the line's end.
end-other : (byte : ℕ) (bytes : List ℕ) → (byte ≡ 10 → ⊥) → line_end (byte ∷ bytes) ≡ line_end bytes
end-other byte bytes isnt = grind (arith, nat_tests)

-- Bytes with no newline in them have no line's end.
none-before : (text : List ℕ) (at : ℕ) → HasNone text at → line_end (take at text) ≡ []
none-before text zero before = refl
none-before [] (suc at) before = refl
none-before (byte ∷ bytes) (suc at) before =
    end-other byte (take at bytes) (before zero (omega arith))
    ∙ none-before bytes at (λ k small. before (suc k) (omega (arith, small)))

-- A text with no line's end doesn't begin with a newline.
none-first : (byte : ℕ) (bytes : List ℕ) → line_end (byte ∷ bytes) ≡ [] → byte ≡ 10 → ⊥
none-first byte bytes none is = (let whole : byte ∷ bytes ≡ [] = sym (end-here byte bytes is) ∙ none in cc)

-- It has no newline in it.
none-within : (text : List ℕ) → line_end text ≡ [] → HasNone text (length text)
none-within [] none k small = absurd (omega (arith, small))
none-within (byte ∷ bytes) none zero small = none-first byte bytes none
none-within (byte ∷ bytes) none (suc k) small =
    none-within bytes (sym (end-other byte bytes (none-first byte bytes none)) ∙ none) k (omega (arith, small))

-- A text with no line's end in it is one line, if it isn't empty.
pub whole-line : (text : List ℕ) → line_end text ≡ [] → 0 < length text → lines text ≡ text ∷ []
whole-line text none some = lines-whole text some (none-within text none)

-- The newline that was found in a text ends its first line, whatever is behind the text.
pub found-line : (text : List ℕ) (at : ℕ) → IsFirstByte (is_byte 10) text (Some at) → (more : List ℕ) →
    lines (text ++ more) ≡ take at text ∷ lines (drop (at + 1) text ++ more)
found-line text at found more =
    let within : at < length text = found.0.high in
    let long = length-append text more in
    let before : HasNone (text ++ more) at = λ k small is. found.0.before k (omega arith) small
    (eq-eqb (get_or text k 0) 10 (sym (get_or_append_left text more 0 k (omega (arith, small, within))) ∙ is)) in
    let here : get_or (text ++ more) at 0 ≡ 10 =
    get_or_append_left text more 0 at within ∙ eqb-true (get_or text at 0) 10 found.1 in
    lines-at (text ++ more) at (omega (arith, within, long)) before here
    ∙ ap (λ xs. xs ∷ lines (drop (suc at) (text ++ more))) (take-append-le at text more (omega (arith, within)))
    ∙ ap (λ xs. take at text ∷ lines xs) (drop-append-le (suc at) text more (omega (arith, within)))
    ∙ ap (λ n. take at text ∷ lines (drop n text ++ more)) (sym (add-one at))

-- That line has no newline in it.
pub found-none_before : (text : List ℕ) (at : ℕ) → IsFirstByte (is_byte 10) text (Some at) → line_end (take at text) ≡ []
found-none_before text at found =
    none-before text at (λ k small is. found.0.before k (omega arith) small (eq-eqb (get_or text k 0) 10 is))

-- It stands within the text.
pub found-within : (text : List ℕ) (at : ℕ) → IsFirstByte (is_byte 10) text (Some at) → at < length text
found-within text at found = found.0.high

-- Where no newline was found the text has no line's end.
pub found-none : (text : List ℕ) → IsFirstByte (is_byte 10) text None → line_end text ≡ []
found-none text none =
    sym (ap line_end (take_all (length text) text (omega arith)))
    ∙ none-before text (length text) (λ k small is. none k (omega arith) small (eq-eqb (get_or text k 0) 10 is))

-- A list of no elements.
pub none-left : (xs : List ℕ) → length xs ≡ 0 → xs ≡ []
none-left [] none = refl
none-left (x ∷ xs) none = absurd (omega (arith, none))
