-- Lists by number: two changes, a change of what joined the end, and what is read of changed lists.
use Rattle.std.proofs.Common.{◌≡◌, ℕ, zero, suc, Bool, List, [], ◌∷◌, ◌++◌, length, map, Option, Some, None, option_map, slice_get}
use Rattle.std.proofs.Common.{refl, sym, ◌∙◌, ap, if◌then◌else◌}
use Rattle.machine.specs.Lists.{amended, numbers_where}

-- Two changes are made in either order, where they commute.
pub amended-swap : {A : Type 0} (xs : List A) (n m : ℕ) (f g : A → A) → ((x : A) → g (f x) ≡ f (g x)) →
    amended (amended xs n f) m g ≡ amended (amended xs m g) n f
amended-swap [] n m f g same = refl
amended-swap (x ∷ xs) zero zero f g same = ap (λ y. y ∷ xs) (same x)
amended-swap (x ∷ xs) zero (suc m) f g same = refl
amended-swap (x ∷ xs) (suc n) zero f g same = refl
amended-swap (x ∷ xs) (suc n) (suc m) f g same = ap (λ ys. x ∷ ys) (amended-swap xs n m f g same)

-- A change of the last element.
pub amended-end : {A : Type 0} (xs : List A) (y : A) (f : A → A) → amended (xs ++ y ∷ []) (length xs) f ≡ xs ++ f y ∷ []
amended-end [] y f = refl
amended-end (x ∷ xs) y f = ap (λ ys. x ∷ ys) (amended-end xs y f)

-- What is read of a changed list is changed alike.
pub map-changed : {A B : Type 0} (read : A → B) (xs : List A) (n : ℕ) (f : A → A) (g : B → B) → ((x : A) → read (f x) ≡ g (read x)) →
    map read (amended xs n f) ≡ amended (map read xs) n g
map-changed read [] n f g same = refl
map-changed read (x ∷ xs) zero f g same = ap (λ y. y ∷ map read xs) (same x)
map-changed read (x ∷ xs) (suc n) f g same = ap (λ ys. read x ∷ ys) (map-changed read xs n f g same)

-- The same, where it is so of the element that is there.
pub map-changed-at : {A B : Type 0} (read : A → B) (xs : List A) (n : ℕ) (x : A) (f : A → A) (g : B → B) → slice_get xs n ≡ Some x →
    read (f x) ≡ g (read x) → map read (amended xs n f) ≡ amended (map read xs) n g
map-changed-at read [] n x f g there same = refl
map-changed-at read (y ∷ xs) zero x f g there same =
    let e : y ≡ x = cc in ap (λ z. z ∷ map read xs) (ap (λ z. read (f z)) e ∙ same ∙ sym (ap (λ z. g (read z)) e))
map-changed-at read (y ∷ xs) (suc n) x f g there same = ap (λ ys. read y ∷ ys) (map-changed-at read xs n x f g there same)

-- The numbers of the elements that pass are the same in two lists, where the tests agree by number.
pub numbers-like : {A B : Type 0} (p : A → Bool) (q : B → Bool) (n : ℕ) (xs : List A) (ys : List B) →
    ((k : ℕ) → option_map p (slice_get xs k) ≡ option_map q (slice_get ys k)) → numbers_where p n xs ≡ numbers_where q n ys
numbers-like p q n [] [] h = refl
numbers-like p q n [] (y ∷ ys) h =
    (let e : ◌≡◌ {A = Option Bool} None (Some (q y)) = h 0 in let f : ⊥ = cc in absurd f)
numbers-like p q n (x ∷ xs) [] h =
    (let e : ◌≡◌ {A = Option Bool} (Some (p x)) None = h 0 in let f : ⊥ = cc in absurd f)
numbers-like p q n (x ∷ xs) (y ∷ ys) h =
    let e : ◌≡◌ {A = Option Bool} (Some (p x)) (Some (q y)) = h 0 in
    let f : p x ≡ q y = cc in
    let r = numbers-like p q (suc n) xs ys (λ k. h (suc k)) in
    ap (λ b. if b then n ∷ numbers_where p (suc n) xs else numbers_where p (suc n) xs) f ∙ ap (λ zs. if q y then n ∷ zs else zs) r
