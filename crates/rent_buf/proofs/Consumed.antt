-- Taking the first bytes of ranges away, one range at a time.
use Rattle.std.proofs.Common.{◌≡◌, ◌∙◌, ℕ, zero, suc, ◌+◌, ◌-◌, ◌<◌, ◌≤◌, List, [], ◌∷◌, length, drop, refl, ap, sym, arith}
use Rattle.std.specs.Prelude.{slice_index_or, slice_set}
use Rattle.std.proofs.lemmas.Bool.{lt-leb, le-leb}
use Rattle.rent_buf.specs.Ranges.{Range, consumed}
use Rattle.rent_buf.proofs.Places.{drop-range}

-- where nothing is taken, all ranges stay
pub consumed-none : (ranges : List Range) (n : ℕ) → n ≡ 0 → consumed ranges n ≡ ranges
consumed-none [] n is = refl
consumed-none (range ∷ ranges) zero is = refl
consumed-none (range ∷ ranges) (suc n) is = absurd (omega arith)

-- a range of no more bytes than are taken goes
consumed-behind : (range : Range) (ranges : List Range) (n : ℕ) → 0 < n → range.2 - range.1 ≤ n
    → consumed (range ∷ ranges) n ≡ consumed ranges (n - (range.2 - range.1))
consumed-behind range ranges zero some small = absurd (omega arith)
consumed-behind range ranges (suc n) some small = rw (le-leb (range.2 - range.1) (suc n) small) refl

-- a longer range starts later
consumed-cut : (range : Range) (ranges : List Range) (n : ℕ) → 0 < n → n < range.2 - range.1
    → consumed (range ∷ ranges) n ≡ (range.0, range.1 + n, range.2) ∷ ranges
consumed-cut range ranges zero some long = absurd (omega arith)
consumed-cut range ranges (suc n) some long = rw (lt-leb (range.2 - range.1) (suc n) long) refl

-- the first range that is left goes, where it has no more bytes than are taken
pub consumed-behind-at : (ranges : List Range) (first n : ℕ) (range : Range) → first < length ranges
    → range ≡ slice_index_or ranges first range
    → 0 < n → range.2 - range.1 ≤ n → consumed (drop first ranges) n ≡ consumed (drop (first + 1) ranges) (n - (range.2 - range.1))
consumed-behind-at ranges first n range there is some small =
    ap (λ (l : List Range). consumed l n) (drop-range ranges first range there)
    ∙ ap (λ (q : Range). consumed (q ∷ drop (first + 1) ranges) n) (sym is)
    ∙ consumed-behind range (drop (first + 1) ranges) n some small

-- the first range that is left starts later, where it has more bytes than are taken
pub consumed-cut-at : (ranges : List Range) (first n : ℕ) (range : Range) → first < length ranges
    → range ≡ slice_index_or ranges first range
    → 0 < n → n < range.2 - range.1 → consumed (drop first ranges) n ≡ drop first (slice_set ranges first (range.0, range.1 + n, range.2))
consumed-cut-at [] first n range there is some long = absurd (omega arith)
consumed-cut-at (r ∷ ranges) zero n range there is some long =
    ap (λ (q : Range). consumed (q ∷ ranges) n) (sym is) ∙ consumed-cut range ranges n some long
consumed-cut-at (r ∷ ranges) (suc first) n range there is some long = consumed-cut-at ranges first n range (omega arith) is some long
