-- Sets of readiness bits, bit by bit.
use Rattle.std.proofs.Common.{◌≡◌, ◌≢◌, ◌∙◌, ◌⊎◌, inl, inr, ℕ, zero, suc, true, false, not, ◌==◌, sym, ap, arith, true≢false}
use Rattle.std.specs.Prelude.{◌+◌, ◌-◌, ◌^◌, ◌<◌, bit_and, bit_or, min}
use Rattle.std.specs.Int.{bit_at, w8}
use Rattle.std.proofs.lemmas.Bool.{cases_lt}
use Rattle.std.proofs.lemmas.Bool.Decides.{eqb_tells}
use Rattle.std.proofs.lemmas.Nat.{or_lt, and_comm, and_assoc, and-not, le_or_l}
use Rattle.std.proofs.lemmas.Nat.Bits.{bit_at_and, bit_at_not, bit_at_above, bit_at-lt}
use lib.Bits.{and_zero_r}
use native.Mathlib.Nat.{pow-suc}
use Rattle.ready_driver.specs.Ready.{without}

-- The union of two sets is a set.
pub union_is_set : (a b : ℕ) → a < 64 → b < 64 → bit_or a b < 64
union_is_set a b a_set b_set = or_lt 6 a b a_set b_set

-- The union of two interests is one.
pub union_is_interest : (a b : ℕ) → (0 < a) × (a < 4) → (0 < b) × (b < 4) → (0 < bit_or a b) × (bit_or a b < 4)
union_is_interest a b a_some b_some = (let more = le_or_l a b in omega (arith, a_some.0), or_lt 2 a b a_some.1 b_some.1)

-- What the code computes for a difference is the bits of the left side that aren't on the right.
pub masked_is_without : (a b : ℕ) → a < 64 → b < 64 → bit_and a (255 - b) ≡ without a b
masked_is_without a b a_set b_set =
    let parts = and-not 8 b a (omega arith) (omega arith) in
    let swapped = and_comm a (255 - b) in
    let both = and_comm b a in
    omega arith

-- The least of a bit and of another bit's opposite is the first without the other.
min_opposite : (x y : ℕ) → x < 2 → y < 2 → min x (1 - y) ≡ x - y
min_opposite x y x_bit y_bit = omega arith

-- A bit of a difference is there if it is on the left side, and not on the right.
pub bits_without : (a b k : ℕ) → a < 64 → b < 64 → bit_at (without a b) k ≡ bit_at a k - bit_at b k
bits_without a b k a_set b_set = elim (cases_lt k 8) [
  | inl low ↦
      ap (λ n. bit_at n k) (sym (masked_is_without a b a_set b_set)) ∙ bit_at_and a (255 - b) k
      ∙ ap (λ n. min (bit_at a k) n) (bit_at_not w8 b k (omega arith) low)
      ∙ min_opposite (bit_at a k) (bit_at b k) (bit_at-lt a k) (bit_at-lt b k)
  | inr high ↦
      let none = bit_at_above a 6 k a_set (omega arith) in
      let none_left = bit_at_above (without a b) 6 k (omega arith) (omega arith) in
      omega arith
]

-- A number is below the power of two of it.
pub below-power : (n : ℕ) → n < 2 ^ n
below-power zero = omega arith
below-power (suc n) = omega (arith, below-power n, pow-suc 2 n)

-- A set that has no bit of another has none of it either without some of its bits.
pub none-without : (a b c : ℕ) → not (bit_and a c == 0) ≡ false → bit_and (without a b) c ≡ 0
none-without a b c none =
    let w : ℕ = b + a in
    let low : w < 2 ^ w = below-power w in
    let rest : ℕ = 2 ^ w - 1 - b in
    let parts : bit_and rest a + bit_and b a ≡ a = and-not w b a (omega (arith, low)) (omega (arith, low)) in
    let swapped = and_comm b a in
    let is : without a b ≡ bit_and rest a = omega (arith, parts, swapped) in
    ap (λ x. bit_and x c) is ∙ and_assoc c rest a ∙ ap (bit_and rest) (by (eqb_tells (bit_and a c) 0)) ∙ and_zero_r rest
  where
    by : (((bit_and a c == 0) ≡ true) × (bit_and a c ≡ 0)) ⊎ (((bit_and a c == 0) ≡ false) × (bit_and a c ≢ 0)) → bit_and a c ≡ 0
    by (inl e) = e.1
    by (inr e) = absurd (true≢false (sym (ap not e.0) ∙ none))
