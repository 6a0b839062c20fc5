-- Ranges of the bytes of parts that are left to move, and the places that they are.
use Rattle.std.specs.Prelude.{ℕ, zero, suc, ◌+◌, ◌-◌, ◌≤◌, nat_le, if◌then◌else◌, List, [], ◌∷◌, ◌++◌, All, map}
use Rattle.std.specs.List.{range_with_len}

-- A range is a part's number, and where the range begins and ends in that part.
abbrev pub Range : Type 0
Range = ℕ × ℕ × ℕ

-- Ranges that are left, and how many places they had when they were made.
pub record Ranging : Type 0 where
  pub ranges : List Range
  pub len : ℕ

-- The places of a range: its part's number with each position, in order.
abbrev pub places_in : Range → List (ℕ × ℕ)
places_in range = map (λ position. (range.0, position)) (range_with_len range.1 (range.2 - range.1))

-- The places of ranges, joined.
abbrev pub places : List Range → List (ℕ × ℕ)
places [] = []
places (range ∷ ranges) = places_in range ++ places ranges

-- Each range ends where it begins, or behind that.
abbrev pub AreRanges : List Range → Type 0
AreRanges ranges = All (λ range. range.1 ≤ range.2) ranges

-- The whole ranges of parts of these lengths, the first with this number.
abbrev pub ranges_of : ℕ → List ℕ → List Range
ranges_of i [] = []
ranges_of i (len ∷ lens) = (i, 0, len) ∷ ranges_of (i + 1) lens

-- Ranges without their first n places, by the first range. Where nothing is taken, all stay. A range of at most n bytes goes,
-- and what is left of n is taken behind it. A longer one starts n bytes later.
abbrev pub consumed : List Range → ℕ → List Range
consumed [] n = []
consumed (range ∷ ranges) zero = range ∷ ranges
consumed (range ∷ ranges) (suc n) =
    if nat_le (range.2 - range.1) (suc n)
    then consumed ranges (suc n - (range.2 - range.1))
    else (range.0, range.1 + suc n, range.2) ∷ ranges
