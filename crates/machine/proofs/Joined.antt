-- Lists that are joined, one list after the other.
use Rattle.std.proofs.Common.{◌≡◌, ℕ, zero, suc, ◌+◌, ◌-◌, ◌<◌, ◌≤◌, List, [], ◌∷◌, ◌++◌, length, refl, sym, ◌∙◌, ap, arith}
use Rattle.std.specs.Prelude.{slice_index_or, take}
use Rattle.std.specs.List.{concat}
use Rattle.std.proofs.lemmas.List.{append-nil, append_assoc, length-append}

-- The first lists and one more, joined.
pub joined-more : (xs : List (List ℕ)) (i : ℕ) → i < length xs → concat (take (suc i) xs) ≡ concat (take i xs) ++ slice_index_or xs i []
joined-more [] i h = absurd (omega arith)
joined-more (x ∷ xs) zero h = append-nil x
joined-more (x ∷ xs) (suc i) h =
    ap (λ ys. x ++ ys) (joined-more xs i (omega arith)) ∙ sym (append_assoc x (concat (take i xs)) (slice_index_or xs i []))

-- The same, by their lengths.
pub length-joined-more : (xs : List (List ℕ)) (i : ℕ) → i < length xs →
    length (concat (take (suc i) xs)) ≡ length (concat (take i xs)) + length (slice_index_or xs i [])
length-joined-more xs i h = ap length (joined-more xs i h) ∙ length-append (concat (take i xs)) (slice_index_or xs i [])

-- The first n of two lists, joined: those of the first, then of the second as many as are left.
pub take-joined : {A : Type 0} (n : ℕ) (xs ys : List A) → take n (xs ++ ys) ≡ take n xs ++ take (n - length xs) ys
take-joined zero [] ys = refl
take-joined zero (x ∷ xs) ys = (
    let none : 0 ≡ 0 - length (x ∷ xs) = omega arith in
    ap (λ m. take m ys) none)
take-joined (suc n) [] ys =
    let all : suc n ≡ suc n - 0 = omega arith in
    ap (λ m. take m ys) all
take-joined (suc n) (x ∷ xs) ys =
    let less : n - length xs ≡ suc n - suc (length xs) = omega arith in
    ap (λ zs. x ∷ zs) (take-joined n xs ys ∙ ap (λ m. take n xs ++ take m ys) less)

-- The first n of all lists are among the first lists, where these have so many.
pub take-first-joined : (n : ℕ) (xs : List (List ℕ)) (i : ℕ) → n ≤ length (concat (take i xs)) →
    take n (concat (take i xs)) ≡ take n (concat xs)
take-first-joined n [] zero few = refl
take-first-joined n [] (suc i) few = refl
take-first-joined n (x ∷ xs) zero few =
    let none : n ≡ 0 = omega arith in
    ap (λ m. take m []) none ∙ sym (ap (λ m. take m (concat (x ∷ xs))) none)
take-first-joined n (x ∷ xs) (suc i) few =
    let both = length-append x (concat (take i xs)) in
    take-joined n x (concat (take i xs))
    ∙ ap (λ ys. take n x ++ ys) (take-first-joined (n - length x) xs i (omega (arith, both, few)))
    ∙ sym (take-joined n x (concat xs))
