-- A list with one element changed by a function.
use Rattle.std.proofs.Common.{◌≡◌, ◌≢◌, ◌⊎◌, inl, inr, ℕ, zero, suc, ◌≤◌, ◌<◌, Bool, List, [], ◌∷◌, ◌++◌, length, get_or, set, map}
use Rattle.std.proofs.Common.{Option, None, Some, option_map, refl, sym, ◌∙◌, ap, arith}
use Rattle.std.specs.Prelude.{slice_get}
use Rattle.std.proofs.lemmas.Option.{slice_get_past}
use Rattle.machine.specs.Lists.{amended, passes}
use Rattle.machine.proofs.Numbers.{same-or-not, below-or-above}
use Rattle.machine.proofs.Appended.{get-append-within, get-append-end, get-append-past}

-- A write of the changed element is a change.
pub amended-at : {A : Type 0} (f : A → A) (xs : List A) (n : ℕ) (x y : A) → n < length xs → x ≡ get_or xs n x → y ≡ f x →
    set xs n y ≡ amended xs n f
amended-at f [] n x y in_range here changed = absurd (omega arith)
amended-at f (z ∷ xs) zero x y in_range here changed = ap (λ w. w ∷ xs) (changed ∙ ap f here)
amended-at f (z ∷ xs) (suc n) x y in_range here changed = ap (λ ys. z ∷ ys) (amended-at f xs n x y (omega arith) here changed)

-- Past the end there is nothing to change.
pub amended-past : {A : Type 0} (f : A → A) (xs : List A) (n : ℕ) → length xs ≤ n → xs ≡ amended xs n f
amended-past f [] n past = refl
amended-past f (z ∷ xs) zero past = absurd (omega arith)
amended-past f (z ∷ xs) (suc n) past = ap (λ ys. z ∷ ys) (amended-past f xs n (omega arith))

-- The changed element.
pub get-amended-same : {A : Type 0} (f : A → A) (xs : List A) (n : ℕ) (x : A) → slice_get xs n ≡ Some x →
    slice_get (amended xs n f) n ≡ Some (f x)
get-amended-same f [] n x there = cc
get-amended-same f (y ∷ xs) zero x there = let same : y ≡ x = cc in ap (λ z. Some (f z)) same
get-amended-same f (y ∷ xs) (suc n) x there = get-amended-same f xs n x there

-- The changed element, where it is there.
pub get-amended : {A : Type 0} (f : A → A) (xs : List A) (n : ℕ) → slice_get (amended xs n f) n ≡ option_map f (slice_get xs n)
get-amended f [] n = refl
get-amended f (x ∷ xs) zero = refl
get-amended f (x ∷ xs) (suc n) = get-amended f xs n

-- Every other element stays.
pub get-amended-other : {A : Type 0} (f : A → A) (xs : List A) (n m : ℕ) → m ≢ n → slice_get (amended xs n f) m ≡ slice_get xs m
get-amended-other f [] n m other = refl
get-amended-other f (y ∷ xs) zero zero other = absurd (other refl)
get-amended-other f (y ∷ xs) zero (suc m) other = refl
get-amended-other f (y ∷ xs) (suc n) zero other = refl
get-amended-other f (y ∷ xs) (suc n) (suc m) other = get-amended-other f xs n m (λ same. other (ap suc same))

-- What isn't there still isn't.
pub get-amended-none : {A : Type 0} (f : A → A) (xs : List A) (n m : ℕ) → slice_get xs m ≡ None → slice_get (amended xs n f) m ≡ None
get-amended-none f [] n m absent = refl
get-amended-none f (y ∷ xs) zero zero absent = cc
get-amended-none f (y ∷ xs) zero (suc m) absent = absent
get-amended-none f (y ∷ xs) (suc n) zero absent = cc
get-amended-none f (y ∷ xs) (suc n) (suc m) absent = get-amended-none f xs n m absent

-- The length stays.
pub length-amended : {A : Type 0} (f : A → A) (xs : List A) (n : ℕ) → length (amended xs n f) ≡ length xs
length-amended f [] n = refl
length-amended f (y ∷ xs) zero = refl
length-amended f (y ∷ xs) (suc n) = ap suc (length-amended f xs n)

-- A change within the list isn't one of what is appended.
pub amended-append : {A : Type 0} (xs ys : List A) (n : ℕ) (f : A → A) → n < length xs → amended (xs ++ ys) n f ≡ amended xs n f ++ ys
amended-append [] ys n f h = absurd (omega (arith, h))
amended-append (x ∷ xs) ys zero f h = refl
amended-append (x ∷ xs) ys (suc n) f h = ap (λ zs. x ∷ zs) (amended-append xs ys n f (omega (arith, h)))

-- A change that leaves what is appended is one of the list before it, whatever its number.
pub amended-append-fixed : {A : Type 0} (xs : List A) (y : A) (n : ℕ) (f : A → A) → f y ≡ y →
    amended (xs ++ y ∷ []) n f ≡ amended xs n f ++ y ∷ []
amended-append-fixed [] y zero f h = ap (λ z. z ∷ []) h
amended-append-fixed [] y (suc n) f h = refl
amended-append-fixed (x ∷ xs) y zero f h = refl
amended-append-fixed (x ∷ xs) y (suc n) f h = ap (λ zs. x ∷ zs) (amended-append-fixed xs y n f h)

-- The test of an element that is there.
pub passes-at : {A : Type 0} (test : A → Bool) (xs : List A) (n : ℕ) (x : A) → n < length xs → x ≡ get_or xs n x →
    passes test (slice_get xs n) ≡ test x
passes-at test [] n x in_range here = absurd (omega arith)
passes-at test (y ∷ xs) zero x in_range here = ap test (sym here)
passes-at test (y ∷ xs) (suc n) x in_range here = passes-at test xs n x (omega arith) here

-- A write of the element that is there changes nothing.
pub set-same : {A : Type 0} (xs : List A) (n : ℕ) (x y : A) → x ≡ get_or xs n x → y ≡ x → set xs n y ≡ xs
set-same [] n x y here same = refl
set-same (z ∷ xs) zero x y here same = ap (λ w. w ∷ xs) (same ∙ here)
set-same (z ∷ xs) (suc n) x y here same = ap (λ ys. z ∷ ys) (set-same xs n x y here same)

-- One element is changed, and the others stay.
pub changed-cases : {A : Type 0} (f : A → A) (xs : List A) (n k : ℕ) →
    ((k ≡ n) × (slice_get (amended xs n f) k ≡ option_map f (slice_get xs n)))
    ⊎ ((k ≢ n) × (slice_get (amended xs n f) k ≡ slice_get xs k))
changed-cases f xs n k = elim (same-or-not k n) [
  | inl e ↦ inl (e, ap (slice_get (amended xs n f)) e ∙ get-amended f xs n)
  | inr e ↦ inr (e, get-amended-other f xs n k e)
]

-- One element joins the end, and the others stay.
pub joined-cases : {A : Type 0} (xs : List A) (x : A) (n : ℕ) →
    ((n ≡ length xs) × (slice_get xs n ≡ None) × (slice_get (xs ++ x ∷ []) n ≡ Some x))
    ⊎ ((n ≢ length xs) × (slice_get (xs ++ x ∷ []) n ≡ slice_get xs n))
joined-cases xs x n = elim (same-or-not n (length xs)) [
  | inl e ↦ inl (e, slice_get_past xs n (omega arith), ap (slice_get (xs ++ x ∷ [])) e ∙ get-append-end xs x)
  | inr e ↦ inr (
    e,
    elim (below-or-above n (length xs) e) [
      | inl lt ↦ get-append-within xs x n lt
      | inr gt ↦ get-append-past xs x n gt ∙ sym (slice_get_past xs n (omega arith))
    ],
  )
]

-- What was looked up after a change was there before it.
pub there-before : {A B : Type 0} (f : A → B) (x : Option A) (y : B) → option_map f x ≡ Some y → (z : A) × (x ≡ Some z) × (y ≡ f z)
there-before f None y h = (let e : ⊥ = cc in absurd e)
there-before f (Some z) y h = (z, refl, (let e : f z ≡ y = cc in sym e))

-- A change that leaves what is read of an element leaves what is read of each.
pub map-amended : {A B : Type 0} (g : A → B) (f : A → A) (xs : List A) (n : ℕ) → ((x : A) → g (f x) ≡ g x) →
    map g (amended xs n f) ≡ map g xs
map-amended g f [] n keeps = refl
map-amended g f (x ∷ xs) zero keeps = ap (λ y. y ∷ map g xs) (keeps x)
map-amended g f (x ∷ xs) (suc n) keeps = ap (λ ys. g x ∷ ys) (map-amended g f xs n keeps)

-- What is read of the element of a number.
pub get-map : {A B : Type 0} (g : A → B) (xs : List A) (n : ℕ) → slice_get (map g xs) n ≡ option_map g (slice_get xs n)
get-map g [] n = refl
get-map g (x ∷ xs) zero = refl
get-map g (x ∷ xs) (suc n) = get-map g xs n
