-- The table of digits has each digit's value.
use Rattle.std.proofs.Common.{◌≡◌, ◌∙◌, ℕ, zero, suc, ◌<◌, List, get_or, refl, ap, sym, arith, inl, inr}
use Rattle.std.specs.Prelude.{Bool, true, ◌&&◌, ◌==◌, ◌⊎◌}
use Rattle.std.proofs.lemmas.Bool.{eqb-true}
use Rattle.event_text.specs.declared.word.hex.TheConstants.{VALUES}
use Rattle.event_text.specs.TextReads.{digit_value_of}
use Rattle.event_text.proofs.TextFields.{and-true}

-- The first entries of a table are the values of their places.
abbrev are_values : List ℕ → ℕ → Bool
are_values table zero = true
are_values table (suc n) = (get_or table n 0 == digit_value_of n) && are_values table n

-- All entries are.
all-values : are_values VALUES 256 ≡ true
all-values = refl

-- So is each of the first ones.
value-at : (table : List ℕ) (n k : ℕ) → are_values table n ≡ true → k < n → get_or table k 0 ≡ digit_value_of k
value-at table zero k all below = absurd (omega arith)
value-at table (suc n) k all below = elim (below-or n k below) [
  | inl less ↦ value-at table n k (and-true (get_or table n 0 == digit_value_of n) (are_values table n) all).1 less
  | inr is ↦ ap (λ m. get_or table m 0) is ∙ eqb-true (get_or table n 0) (digit_value_of n)
      (and-true (get_or table n 0 == digit_value_of n) (are_values table n) all).0 ∙ ap digit_value_of (sym is)
]
  where
    below-or : (n k : ℕ) → k < suc n → (k < n) ⊎ (k ≡ n)
    below-or n k below = grind arith

-- The entry of a byte is its value as a digit.
pub table-value : (byte : ℕ) → byte < 256 → get_or VALUES byte 0 ≡ digit_value_of byte
table-value byte small = value-at VALUES 256 byte all-values small
