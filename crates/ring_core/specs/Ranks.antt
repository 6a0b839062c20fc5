-- Which slots are kept, found by rank. Cited by `Ranks`.
use Rattle.std.specs.Prelude.{ℕ, zero, suc, ◌+◌, ◌*◌, ◌-◌, ◌≡◌, ◌≤◌, Bool, true, false, List, [], ◌∷◌, slice_get}
use Rattle.ring_core.specs.declared.ranks.TheConstants.{WIDTH}
use Rattle.machine.specs.Lists.{passes, one_if}

-- Slots: each that was joined is kept, or isn't any more; and for how many there is memory.
pub record Ranked : Type 0 where
  pub flags : List Bool
  pub room : ℕ

-- How many of the first n slots are kept.
abbrev pub kept_first : ℕ → List Bool → ℕ
kept_first zero flags = 0
kept_first (suc n) [] = 0
kept_first (suc n) (flag ∷ flags) = one_if flag + kept_first n flags

-- The sum of the first n counts.
abbrev pub sum_first : ℕ → List ℕ → ℕ
sum_first zero counts = 0
sum_first (suc n) [] = 0
sum_first (suc n) (count ∷ counts) = count + sum_first n counts

-- A slot is there, and kept.
abbrev pub is_kept : List Bool → ℕ → Bool
is_kept flags slot = passes (λ flag. flag) (slice_get flags slot)

-- What stands on the slots that are kept, in order.
abbrev pub kept : {A : Type 0} → List Bool → List A → List A
kept [] xs = []
kept (flag ∷ flags) [] = []
kept (true ∷ flags) (x ∷ xs) = x ∷ kept flags xs
kept (false ∷ flags) (x ∷ xs) = kept flags xs

-- Each count is the sum of `WIDTH` lower ones.
abbrev pub AreSums : List ℕ → List ℕ → Type 0
AreSums lower upper = (n : ℕ) → sum_first n upper ≡ sum_first (WIDTH * n) lower

-- A block counts the kept ones of `WIDTH` slots, a group those of `WIDTH` blocks, and a region those of `WIDTH` groups.
pub record AreCounted (flags : List Bool) (blocks groups regions : List ℕ) : Type 0 where
  pub blocks_count : (n : ℕ) → sum_first n blocks ≡ kept_first (WIDTH * n) flags
  pub groups_count : AreSums blocks groups
  pub regions_count : AreSums groups regions

-- A number less one, where it isn't 0.
abbrev pub less_one : ℕ → ℕ
less_one n = n - 1

-- By numbers: there is memory for so many slots, and each has a block, each block a group, and each group a region.
pub record HasSlots (slots room capacity blocks groups regions : ℕ) : Type 0 where
  pub within : slots ≤ room
  pub memory : room ≤ capacity
  pub in_blocks : room ≤ WIDTH * blocks
  pub in_groups : blocks ≤ WIDTH * groups
  pub in_regions : groups ≤ WIDTH * regions
