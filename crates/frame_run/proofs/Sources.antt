-- What a source has given, and what is found behind that.
use Rattle.std.proofs.Common.{◌≡◌, ◌∙◌, ◌≤◌, ◌+◌, ◌-◌, ◌⊎◌, ℕ, zero, suc, List, [], ◌∷◌, length, drop, get_or, refl, ap, arith}
use Rattle.std.proofs.lemmas.List.{length-drop, drop-drop}
use Rattle.rent_io.specs.Call.{Took, TookMore}
use Rattle.rent_io.specs.Source.{Gives}

-- More bytes were taken.
pub took-more : (before left rest room : List ℕ) (given size n : ℕ) → Took before left given → Gives left rest room size n →
    Took before rest (given + n)
took-more before left rest room given size n took gives =
    let long : length left ≡ length before - given = ap length took.taken ∙ length-drop given before in
    record {
      there = omega (arith, took.there, gives.within, long);
      taken = gives.after ∙ ap (drop n) took.taken ∙ drop-drop n given before;
    }

-- No byte was given, since there is no room or since none is left.
pub gives-none : (left room : List ℕ) (size : ℕ) → (size ≡ 0) ⊎ (left ≡ []) → Gives left left room size 0
gives-none left room size why = record { within = omega arith; front = refl; after = refl; at_end = λ zero. why }

-- One byte more than a bound was taken.
pub took-more-than : (before left : List ℕ) (most : ℕ) → Took before left (most + 1) → TookMore most before left
took-more-than before left most took = record { count = most + 1; many = omega arith; there = took.there; taken = took.taken }

-- The first of two lists that begin alike.
pub same-first : (x y : ℕ) (xs ys : List ℕ) → x ∷ xs ≡ y ∷ ys → x ≡ y
same-first x y xs ys same = ap (λ l. get_or l 0 0) same

-- A byte that was found stands before what is left then.
pub found-first : (left rest more : List ℕ) (n : ℕ) → Gives left rest more 1 n → n ≤ 1 → (n ≡ 0 → ⊥) → length more ≡ 1 →
    get_or more 0 0 ∷ rest ≡ left
found-first [] rest more n gives few some long = absurd (some (omega (arith, gives.within)))
found-first (x ∷ xs) rest [] n gives few some long = absurd (omega (arith, long))
found-first (x ∷ xs) rest (m ∷ ms) zero gives few some long = absurd (some refl)
found-first (x ∷ xs) rest (m ∷ ms) (suc zero) gives few some long =
    ap (λ y. y ∷ rest) (same-first m x [] [] gives.front) ∙ ap (λ ys. x ∷ ys) gives.after
found-first (x ∷ xs) rest (m ∷ ms) (suc (suc n)) gives few some long = absurd (omega (arith, few))
