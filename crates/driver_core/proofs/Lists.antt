-- Lists by place.
use Rattle.std.proofs.Common.{◌≡◌, ◌≢◌, ◌⊎◌, inl, inr, ℕ, zero, suc, ◌≤◌, List, [], ◌∷◌, ◌++◌, length, map, Option, Some, None, refl, sym}
use Rattle.std.proofs.Common.{◌∙◌, ap, arith}
use Rattle.std.specs.Prelude.{slice_get, remove, option_to_list}
use Rattle.machine.specs.Lists.{amended}

-- An option holds one value.
pub some : {X : Type 0} (x y : X) (o : Option X) → o ≡ Some x → o ≡ Some y → x ≡ y
some x y o p q = let e = sym p ∙ q in cc

-- An option is one value at most.
pub length-option : {X : Type 0} (o : Option X) → length (option_to_list o) ≤ 1
length-option None = omega arith
length-option (Some x) = omega arith

-- A list of no length is empty.
pub emptied : {A : Type 0} (xs : List A) → length xs ≤ 0 → xs ≡ []
emptied [] h = refl
emptied (x ∷ xs) h = absurd (omega arith)

-- The place that an element had before a removal.
pub skip : ℕ → ℕ → ℕ
skip zero i = suc i
skip (suc p) zero = zero
skip (suc p) (suc i) = suc (skip p i)

-- No element had the place that was removed.
pub skip-not : (p i : ℕ) → skip p i ≢ p
unfolding skip
skip-not zero i e = cc
skip-not (suc p) zero e = cc
skip-not (suc p) (suc i) e = skip-not p i (cc)

-- Places that come from one place are one.
pub skip-one : (p i j : ℕ) → skip p i ≡ skip p j → i ≡ j
unfolding skip
skip-one zero i j e = cc
skip-one (suc p) zero zero e = refl
skip-one (suc p) zero (suc j) e = cc
skip-one (suc p) (suc i) zero e = cc
skip-one (suc p) (suc i) (suc j) e = ap suc (skip-one p i j (cc))

-- What stands at a place after a removal stood at the place that it had before.
pub get-removed : {A : Type 0} (xs : List A) (p i : ℕ) → slice_get (remove xs p) i ≡ slice_get xs (skip p i)
unfolding skip
get-removed [] zero i = refl
get-removed [] (suc p) i = refl
get-removed (x ∷ xs) zero i = refl
get-removed (x ∷ xs) (suc p) zero = refl
get-removed (x ∷ xs) (suc p) (suc i) = get-removed xs p i

-- A removal from a mapped list is that from the list, mapped.
pub map-removed : {A B : Type 0} (f : A → B) (xs : List A) (p : ℕ) → map f (remove xs p) ≡ remove (map f xs) p
map-removed f [] zero = refl
map-removed f [] (suc p) = refl
map-removed f (x ∷ xs) zero = refl
map-removed f (x ∷ xs) (suc p) = ap (λ ys. f x ∷ ys) (map-removed f xs p)

-- A place of a list that is mapped.
pub get-map : {A B : Type 0} (f : A → B) (xs : List A) (i : ℕ) (x : A) → slice_get xs i ≡ Some x → slice_get (map f xs) i ≡ Some (f x)
get-map f [] i x h = cc
get-map f (y ∷ xs) zero x h = let e : y ≡ x = cc in ap (λ z. Some (f z)) e
get-map f (y ∷ xs) (suc i) x h = get-map f xs i x h

-- What stands in a mapped list is the map of what stands there in the list.
pub map-get : {A B : Type 0} (f : A → B) (xs : List A) (i : ℕ) (y : B) → slice_get (map f xs) i ≡ Some y →
    (x : A) × (slice_get xs i ≡ Some x) × (y ≡ f x)
map-get f [] i y h = cc
map-get f (x ∷ xs) zero y h = (x, refl, (let e : f x ≡ y = cc in sym e))
map-get f (x ∷ xs) (suc i) y h = map-get f xs i y h

-- A place of a list with one more element at its end.
pub get-pushed : {A : Type 0} (xs : List A) (y : A) (i : ℕ) (z : A) → slice_get (xs ++ y ∷ []) i ≡ Some z →
    (slice_get xs i ≡ Some z) ⊎ ((i ≡ length xs) × (z ≡ y))
get-pushed [] y zero z h = inr (refl, cc)
get-pushed [] y (suc i) z h = cc
get-pushed (x ∷ xs) y zero z h = inl h
get-pushed (x ∷ xs) y (suc i) z h = elim (get-pushed xs y i z h) [ inl e ↦ inl e | inr e ↦ inr (ap suc e.0, e.1) ]

-- What stands in a list stands where it was after others are appended.
pub get-front : {A : Type 0} (xs ys : List A) (i : ℕ) (z : A) → slice_get xs i ≡ Some z → slice_get (xs ++ ys) i ≡ Some z
get-front [] ys i z h = cc
get-front (x ∷ xs) ys zero z h = h
get-front (x ∷ xs) ys (suc i) z h = get-front xs ys i z h

-- What isn't there isn't changed.
pub amended-absent : {A : Type 0} (xs : List A) (n : ℕ) (f : A → A) → slice_get xs n ≡ None → amended xs n f ≡ xs
amended-absent [] n f h = refl
amended-absent (x ∷ xs) zero f h = cc
amended-absent (x ∷ xs) (suc n) f h = ap (λ zs. x ∷ zs) (amended-absent xs n f h)

-- Two changes that do the same to the element.
pub amended-like : {A : Type 0} (xs : List A) (n : ℕ) (f g : A → A) (x : A) → slice_get xs n ≡ Some x → f x ≡ g x →
    amended xs n f ≡ amended xs n g
amended-like [] n f g x h e = refl
amended-like (y ∷ xs) zero f g x h e = (let s : y ≡ x = cc in ap (λ z. z ∷ xs) (ap f s ∙ e ∙ ap g (sym s)))
amended-like (y ∷ xs) (suc n) f g x h e = ap (λ zs. y ∷ zs) (amended-like xs n f g x h e)

-- Two changes of one element, one after the other.
pub amended-twice : {A : Type 0} (xs : List A) (n : ℕ) (f g : A → A) → amended (amended xs n f) n g ≡ amended xs n (λ x. g (f x))
amended-twice [] n f g = refl
amended-twice (x ∷ xs) zero f g = refl
amended-twice (x ∷ xs) (suc n) f g = ap (λ zs. x ∷ zs) (amended-twice xs n f g)
