-- Lists after a write, a removal and a push, place by place.
use Rattle.std.proofs.Common.{ℕ, zero, suc, ◌≡◌, ◌≢◌, ap, refl, List, [], ◌∷◌, ◌++◌, length}
use Rattle.std.proofs.Common.{Some, inl, inr}
use Rattle.std.specs.Prelude.{◌⊎◌, slice_get, slice_set}
use Rattle.std.specs.List.{remove}

-- A write is at its place, where that is one of the list.
pub get_set : {X : Type 0} (xs : List X) (k : ℕ) (x y : X) → slice_get xs k ≡ Some x → slice_get (slice_set xs k y) k ≡ Some y
get_set [] k x y there = absurd cc
get_set (a ∷ xs) zero x y there = refl
get_set (a ∷ xs) (suc k) x y there = get_set xs k x y there

-- Every other place is as it was.
pub get_set_other : {X : Type 0} (xs : List X) (k j : ℕ) (y : X) → j ≢ k → slice_get (slice_set xs k y) j ≡ slice_get xs j
get_set_other [] k j y other = refl
get_set_other (a ∷ xs) zero zero y other = absurd (other refl)
get_set_other (a ∷ xs) zero (suc j) y other = refl
get_set_other (a ∷ xs) (suc k) zero y other = refl
get_set_other (a ∷ xs) (suc k) (suc j) y other = get_set_other xs k j y (λ same. other (ap suc same))

-- Where a place of the list comes from, once one was removed.
abbrev pub placed : ℕ → ℕ → ℕ
placed zero j = suc j
placed (suc k) zero = zero
placed (suc k) (suc j) = suc (placed k j)

-- What is left stands there.
pub get_removed : {X : Type 0} (xs : List X) (k j : ℕ) → slice_get (remove xs k) j ≡ slice_get xs (placed k j)
get_removed [] zero j = refl
get_removed [] (suc k) zero = refl
get_removed [] (suc k) (suc j) = refl
get_removed (a ∷ xs) zero j = refl
get_removed (a ∷ xs) (suc k) zero = refl
get_removed (a ∷ xs) (suc k) (suc j) = get_removed xs k j

-- None of these places is the one that was taken out.
pub placed_other : (k j : ℕ) → placed k j ≢ k
placed_other zero j same = absurd cc
placed_other (suc k) zero same = absurd cc
placed_other (suc k) (suc j) same = placed_other k j (let e : placed k j ≡ k = cc in e)

-- No two of them are the same.
pub placed_differ : (k i j : ℕ) → i ≢ j → placed k i ≢ placed k j
placed_differ zero i j differ same = differ (let e : i ≡ j = cc in e)
placed_differ (suc k) zero zero differ same = differ refl
placed_differ (suc k) zero (suc j) differ same = absurd cc
placed_differ (suc k) (suc i) zero differ same = absurd cc
placed_differ (suc k) (suc i) (suc j) differ same =
    placed_differ k i j (λ e. differ (ap suc e)) (let e : placed k i ≡ placed k j = cc in e)

-- Each other place of the list is one once one was removed.
pub placed_from : (k j : ℕ) → j ≢ k → (i : ℕ) × (placed k i ≡ j)
placed_from zero zero differ = absurd (differ refl)
placed_from zero (suc j) differ = (j, refl)
placed_from (suc k) zero differ = (zero, refl)
placed_from (suc k) (suc j) differ =
    let from = placed_from k j (λ e. differ (ap suc e)) in (suc from.0, ap suc from.1)

-- What is in a list behind a push was in it, or is what was pushed.
pub get_pushed : {X : Type 0} (xs : List X) (y : X) (k : ℕ) (x : X) → slice_get (xs ++ y ∷ []) k ≡ Some x
    → (slice_get xs k ≡ Some x) ⊎ ((x ≡ y) × (k ≡ length xs))
get_pushed [] y zero x there = inr (let e : x ≡ y = cc in e, refl)
get_pushed [] y (suc k) x there = absurd cc
get_pushed (a ∷ xs) y zero x there = inl there
get_pushed (a ∷ xs) y (suc k) x there = elim (get_pushed xs y k x there) [
  | inl was ↦ inl was
  | inr new ↦ inr (new.0, ap suc new.1)
]
