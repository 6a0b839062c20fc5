-- Where a text is cut into lines, and a line into words.
use Rattle.std.proofs.Common.{◌≡◌, ◌∙◌, ℕ, zero, suc, ◌-◌, ◌<◌, List, [], ◌∷◌, length, get_or, take, drop, refl, ap, arith}
use Rattle.std.proofs.lemmas.Bool.Decides.{nat_tests}
use Rattle.std.proofs.lemmas.Grind.{common_steps}
use Rattle.event_text.specs.TextLines.{lines, onto_first}
use Rattle.event_text.specs.TextReads.{words}

-- The first of the bytes is the one that ends.
pub lines-newline : (byte : ℕ) (bytes : List ℕ) → byte ≡ 10 → lines (byte ∷ bytes) ≡ [] ∷ lines bytes
lines-newline byte bytes is = rw is refl

-- Another byte belongs to the first line.
pub lines-other : (byte : ℕ) (bytes : List ℕ) → (byte ≡ 10 → ⊥) → lines (byte ∷ bytes) ≡ onto_first byte (lines bytes)
lines-other byte bytes isnt = grind (arith, nat_tests)

-- A space ends an empty first word.
pub words-space : (byte : ℕ) (bytes : List ℕ) → byte ≡ 32 → words (byte ∷ bytes) ≡ [] ∷ words bytes
words-space byte bytes is = rw is refl

-- Another byte belongs to the first word.
pub words-other : (byte : ℕ) (bytes : List ℕ) → (byte ≡ 32 → ⊥) → words (byte ∷ bytes) ≡ onto_first byte (words bytes)
words-other byte bytes isnt = grind (arith, nat_tests)

-- The first line ends before the first byte 10.
pub lines-at : (text : List ℕ) (at : ℕ) → at < length text → ((k : ℕ) → k < at → get_or text k 0 ≡ 10 → ⊥) → get_or text at 0 ≡ 10
    → lines text ≡ take at text ∷ lines (drop (suc at) text)
lines-at [] at below before is = absurd (omega arith)
lines-at (byte ∷ bytes) zero below before is = lines-newline byte bytes is
lines-at (byte ∷ bytes) (suc at) below before is =
    let rest : lines bytes ≡ take at bytes ∷ lines (drop (suc at) bytes) =
    lines-at bytes at (omega arith) (λ k small. before (suc k) (omega arith)) is in
    rw (lines-other byte bytes (before zero (omega arith)), rest) refl

-- With no byte 10 there is one line.
pub lines-whole : (text : List ℕ) → 0 < length text → ((k : ℕ) → k < length text → get_or text k 0 ≡ 10 → ⊥) → lines text ≡ text ∷ []
lines-whole [] some none = absurd (omega arith)
lines-whole (byte ∷ []) some none = rw (lines-other byte [] (none zero (omega arith))) refl
lines-whole (byte ∷ next ∷ bytes) some none =
    let rest : lines (next ∷ bytes) ≡ (next ∷ bytes) ∷ [] =
    lines-whole (next ∷ bytes) (omega arith) (λ k small. none (suc k) (omega arith)) in
    lines-other byte (next ∷ bytes) (none zero (omega arith)) ∙ ap (onto_first byte) rest

-- A slice up to the end is what stands behind its start.
pub take-rest : (xs : List ℕ) (n : ℕ) → take (length xs - n) (drop n xs) ≡ drop n xs
take-rest xs n = grind (arith, common_steps)

-- Nothing is left behind a whole list.
pub drop-whole : (xs : List ℕ) → drop (length xs) xs ≡ []
drop-whole xs = grind (arith, common_steps)
