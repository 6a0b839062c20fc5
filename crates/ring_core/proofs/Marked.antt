-- A list whose front is changed by a function, one element after another.
use Rattle.std.proofs.Common.{◌≡◌, ℕ, zero, suc, ◌+◌, ◌≤◌, ◌<◌, List, [], ◌∷◌, length, map, set, get_or, refl, ◌∙◌, ap, arith}
use Rattle.std.specs.Prelude.{slice_set}

-- The first elements changed.
abbrev pub mapped_front : {A : Type 0} → (A → A) → ℕ → List A → List A
mapped_front f zero xs = xs
mapped_front f (suc i) [] = []
mapped_front f (suc i) (x ∷ xs) = f x ∷ mapped_front f i xs

-- Their number stays.
pub length-mapped_front : {A : Type 0} (f : A → A) (i : ℕ) (xs : List A) → length (mapped_front f i xs) ≡ length xs
length-mapped_front f zero xs = refl
length-mapped_front f (suc i) [] = refl
length-mapped_front f (suc i) (x ∷ xs) = ap suc (length-mapped_front f i xs)

-- A front of all elements is the whole list.
pub mapped_front-all : {A : Type 0} (f : A → A) (i : ℕ) (xs : List A) → length xs ≤ i → mapped_front f i xs ≡ map f xs
mapped_front-all f zero [] h = refl
mapped_front-all f zero (x ∷ xs) h = absurd (omega arith)
mapped_front-all f (suc i) [] h = refl
mapped_front-all f (suc i) (x ∷ xs) h = ap (λ ys. f x ∷ ys) (mapped_front-all f i xs (omega arith))

-- One more element changed.
mapped_front-more : {A : Type 0} (f : A → A) (i : ℕ) (xs : List A) (d : A) → i < length xs →
    set (mapped_front f i xs) i (f (get_or (mapped_front f i xs) i d)) ≡ mapped_front f (suc i) xs
mapped_front-more f zero [] d h = absurd (omega arith)
mapped_front-more f zero (x ∷ xs) d h = refl
mapped_front-more f (suc i) [] d h = absurd (omega arith)
mapped_front-more f (suc i) (x ∷ xs) d h = ap (λ ys. f x ∷ ys) (mapped_front-more f i xs d (omega arith))

-- The element behind a changed front, once it is changed too.
pub mapped_front-set : {A : Type 0} (f : A → A) (xs ys : List A) (i : ℕ) (d z : A) → ys ≡ mapped_front f i xs → i < length xs →
    z ≡ f (get_or ys i d) → slice_set ys i z ≡ mapped_front f (i + 1) xs
mapped_front-set f xs ys i d z h l e =
    ap (slice_set ys i) e
    ∙ ap (λ w. slice_set w i (f (get_or w i d))) h
    ∙ mapped_front-more f i xs d l
    ∙ ap (λ n. mapped_front f n xs) (let q : suc i ≡ i + 1 = omega arith in q)
