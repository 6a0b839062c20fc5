-- Lists with one more element at their end, by place.
use Rattle.std.proofs.Common.{◌≡◌, ℕ, zero, suc, ◌<◌, List, [], ◌∷◌, ◌++◌, length, drop, Some, None, slice_get, refl, ap, arith}

-- What stood in a list stands where it was after one more is appended.
pub get-append-within : {A : Type 0} (xs : List A) (y : A) (n : ℕ) → n < length xs → slice_get (xs ++ y ∷ []) n ≡ slice_get xs n
get-append-within [] y n h = absurd (omega (arith, h))
get-append-within (x ∷ xs) y zero h = refl
get-append-within (x ∷ xs) y (suc n) h = get-append-within xs y n (omega (arith, h))

-- What was appended stands at the end.
pub get-append-end : {A : Type 0} (xs : List A) (y : A) → slice_get (xs ++ y ∷ []) (length xs) ≡ Some y
get-append-end [] y = refl
get-append-end (x ∷ xs) y = get-append-end xs y

-- Past the end there is nothing.
pub get-append-past : {A : Type 0} (xs : List A) (y : A) (n : ℕ) → length xs < n → slice_get (xs ++ y ∷ []) n ≡ None
get-append-past [] y zero h = absurd (omega (arith, h))
get-append-past [] y (suc n) h = refl
get-append-past (x ∷ xs) y zero h = absurd (omega (arith, h))
get-append-past (x ∷ xs) y (suc n) h = get-append-past xs y n (omega (arith, h))

-- The elements from a place on begin with the one that is there.
pub drop-suc : {A : Type 0} (xs : List A) (i : ℕ) (x : A) → slice_get xs i ≡ Some x → drop i xs ≡ x ∷ drop (suc i) xs
drop-suc [] i x here = cc
drop-suc (y ∷ xs) zero x here = let same : y ≡ x = cc in ap (λ z. z ∷ xs) same
drop-suc (y ∷ xs) (suc i) x here = drop-suc xs i x here
