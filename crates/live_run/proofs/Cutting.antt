-- Where a text is cut into lines.
use Rattle.std.proofs.Common.{◌≡◌, ◌∙◌, ℕ, zero, suc, ◌+◌, ◌<◌, ◌≤◌, List, [], ◌∷◌, ◌++◌, length, get_or, take, drop, refl, ap, sym, subst}
use Rattle.std.proofs.Common.{add-one, append_assoc, arith}
use Rattle.std.specs.Prelude.{Bool, true, false, ◌==◌, if◌then◌else◌}
use Rattle.std.proofs.lemmas.Bool.{eq-eqb, eqb-false, eqb-true}
use Rattle.event_text.specs.TextLines.{lines, onto_first}
use Rattle.event_text.specs.TextLook.{line_end}
use Rattle.event_text.proofs.TextCuts.{lines-newline, lines-other}
use Rattle.live_run.specs.Living.{IsWhole}

-- A text without a newline begins with none, and has none behind that.
unbroken-head : (byte : ℕ) (bytes : List ℕ) → line_end (byte ∷ bytes) ≡ [] → (byte ≡ 10 → ⊥) × (line_end bytes ≡ [])
unbroken-head byte bytes one = by (byte == 10) refl
  where
    by : (b : Bool) → (byte == 10) ≡ b → (byte ≡ 10 → ⊥) × (line_end bytes ≡ [])
    by true is =
        let never : byte ∷ bytes ≡ [] = subst (λ (b : Bool). (if b then byte ∷ bytes else line_end bytes) ≡ []) is one in
        absurd (cc)
    by false is = (
      eqb-false byte 10 is,
      subst (λ (b : Bool). (if b then byte ∷ bytes else line_end bytes) ≡ []) is one,
    )

-- Another byte in front of a text without a newline leaves it so.
unbroken-cons : (byte : ℕ) (bytes : List ℕ) → (byte ≡ 10 → ⊥) → line_end bytes ≡ [] → line_end (byte ∷ bytes) ≡ []
unbroken-cons byte bytes isnt one = by (byte == 10) refl
  where
    by : (b : Bool) → (byte == 10) ≡ b → line_end (byte ∷ bytes) ≡ []
    by true is = absurd (isnt (eqb-true byte 10 is))
    by false is = subst (λ (b : Bool). (if b then byte ∷ bytes else line_end bytes) ≡ []) (sym is) one

-- A line, its newline and more are that line and the lines of what is behind it.
pub lines-ended : (line rest : List ℕ) → line_end line ≡ [] → lines (line ++ 10 ∷ rest) ≡ line ∷ lines rest
lines-ended [] rest one = lines-newline 10 rest refl
lines-ended (byte ∷ line) rest one =
    let parts = unbroken-head byte line one in
    lines-other byte (line ++ 10 ∷ rest) parts.0 ∙ ap (onto_first byte) (lines-ended line rest parts.1)

-- So where a text goes on.
pub lines-whole-more : (text line behind more : List ℕ) → IsWhole text line behind → lines (text ++ more) ≡ line ∷ lines (behind ++ more)
lines-whole-more text line behind more whole =
    ap (λ xs. lines (xs ++ more)) whole.is ∙ ap lines (append_assoc line (10 ∷ behind) more) ∙ lines-ended line (behind ++ more) whole.one

-- A text without a newline is one line.
pub lines-last : (text : List ℕ) → line_end text ≡ [] → 0 < length text → lines text ≡ text ∷ []
lines-last [] one some = absurd (omega arith)
lines-last (byte ∷ []) one some = lines-other byte [] (unbroken-head byte [] one).0
lines-last (byte ∷ next ∷ bytes) one some =
    let parts = unbroken-head byte (next ∷ bytes) one in
    lines-other byte (next ∷ bytes) parts.0 ∙ ap (onto_first byte) (lines-last (next ∷ bytes) parts.1 (omega arith))

-- What is before the first newline has none.
taken-unbroken : (text : List ℕ) (at : ℕ) → at ≤ length text → ((k : ℕ) → k < at → get_or text k 0 ≡ 10 → ⊥) → line_end (take at text) ≡ []
taken-unbroken [] zero within none = refl
taken-unbroken [] (suc at) within none = absurd (omega arith)
taken-unbroken (byte ∷ bytes) zero within none = refl
taken-unbroken (byte ∷ bytes) (suc at) within none =
    unbroken-cons byte (take at bytes) (none zero (omega arith))
    (taken-unbroken bytes at (omega arith) (λ k small. none (suc k) (omega arith)))

-- A text is what is before a newline, that, and what is behind it.
cut-at : (text : List ℕ) (at : ℕ) → at < length text → get_or text at 0 ≡ 10 → text ≡ take at text ++ 10 ∷ drop (suc at) text
cut-at [] at within is = absurd (omega arith)
cut-at (byte ∷ bytes) zero within is = ap (λ b. b ∷ bytes) is
cut-at (byte ∷ bytes) (suc at) within is = ap (λ xs. byte ∷ xs) (cut-at bytes at (omega arith) is)

-- The byte at a place isn't a newline where the test says so.
isnt-newline : (byte : ℕ) → ((byte == 10) ≡ true → ⊥) → byte ≡ 10 → ⊥
isnt-newline byte isnt is = isnt (eq-eqb byte 10 is)

-- A newline that was found ends the first line,
pub whole-at : (text : List ℕ) (at : ℕ) → at < length text → ((k : ℕ) → 0 ≤ k → k < at → (get_or text k 0 == 10) ≡ true → ⊥) →
    (get_or text at 0 == 10) ≡ true → IsWhole text (take at text) (drop (at + 1) text)
whole-at text at within none is = record {
  is = subst (λ n. text ≡ take at text ++ 10 ∷ drop n text) (sym (add-one at)) (cut-at text at within (eqb-true (get_or text at 0) 10 is));
  one = taken-unbroken text at (omega arith) (λ k small. isnt-newline (get_or text k 0) (none k (omega arith) small));
}

-- .. and a text in which none was found has none.
pub none-at : (text : List ℕ) → ((k : ℕ) → 0 ≤ k → k < length text → (get_or text k 0 == 10) ≡ true → ⊥) → line_end text ≡ []
none-at [] none = refl
none-at (byte ∷ bytes) none =
    unbroken-cons byte bytes (isnt-newline byte (none zero (omega arith) (omega arith)))
    (none-at bytes (λ k low small. none (suc k) (omega arith) (omega arith)))
