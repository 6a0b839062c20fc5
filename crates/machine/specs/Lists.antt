-- Lists by number: the first element has the number 0.
use Rattle.std.specs.Prelude.{ℕ, zero, suc, Bool, true, false, ◌||◌, ◌==◌, if◌then◌else◌, List, [], ◌∷◌, ◌++◌, Option, None, Some}

-- The list with the element of a number changed by a function.
abbrev pub amended : {A : Type 0} → List A → ℕ → (A → A) → List A
amended [] n change = []
amended (x ∷ xs) zero change = change x ∷ xs
amended (x ∷ xs) (suc n) change = x ∷ amended xs n change

-- The numbers of the elements that pass a test, ascending; the first element has the number n.
abbrev pub numbers_where : {A : Type 0} → (A → Bool) → ℕ → List A → List ℕ
numbers_where test n [] = []
numbers_where test n (x ∷ xs) = if test x then n ∷ numbers_where test (suc n) xs else numbers_where test (suc n) xs

-- The numbers below a number, ascending.
abbrev pub numbers_below : ℕ → List ℕ
numbers_below zero = []
numbers_below (suc n) = numbers_below n ++ n ∷ []

-- A list has no element.
abbrev pub is_empty : {A : Type 0} → List A → Bool
is_empty [] = true
is_empty (x ∷ xs) = false

-- A number is in a list.
abbrev pub has_number : ℕ → List ℕ → Bool
has_number n [] = false
has_number n (m ∷ numbers) = n == m || has_number n numbers

-- An element that was looked up is there, and passes a test.
abbrev pub passes : {A : Type 0} → (A → Bool) → Option A → Bool
passes test None = false
passes test (Some x) = test x

-- 1 where a test passes, else 0.
abbrev pub one_if : Bool → ℕ
one_if true = 1
one_if false = 0
