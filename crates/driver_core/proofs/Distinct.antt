-- Lists of numbers in which none stands twice.
use Rattle.std.proofs.Common.{◌≡◌, ◌≢◌, ◌∙◌, inl, inr, ℕ, suc, ◌+◌, ◌≤◌, Bool, true, false, List, [], ◌∷◌, ◌++◌, Option, Some, None}
use Rattle.std.proofs.Common.{refl, sym, ap, arith}
use Rattle.std.specs.Prelude.{◌||◌, ◌==◌}
use Rattle.std.proofs.Math.Bool.{or_assoc, or-false}
use Rattle.std.proofs.lemmas.Bool.Decides.{eqb_tells}
use Rattle.machine.specs.Lists.{has_number}
use Rattle.machine.specs.Lists.{one_if}
use Rattle.machine.specs.Ledger.{with_made}
use Rattle.machine.proofs.Numbers.{same-or-not, equal-other}
use Rattle.machine.proofs.Leaving.{Ascends, ascends-not, has-first, has-other}

-- No number stands twice.
abbrev pub Distinct : List ℕ → Type 0
Distinct [] = Unit {0}
Distinct (x ∷ xs) = (has_number x xs ≡ false) × Distinct xs

-- Numbers that rise are distinct.
pub ascends-distinct : (k : ℕ) (xs : List ℕ) → Ascends k xs → Distinct xs
ascends-distinct k [] rise = tt
ascends-distinct k (x ∷ xs) rise = (ascends-not x (suc x) xs (omega arith) rise.1, ascends-distinct (suc x) xs rise.1)

-- A test can't pass and fail.
pub not-both : (b : Bool) → b ≡ true → b ≡ false → ⊥
not-both true is not = cc
not-both false is not = cc

-- A number that is in a list isn't one that isn't.
pub apart-by : (xs : List ℕ) (k h : ℕ) → has_number k xs ≡ true → has_number h xs ≡ false → k ≢ h
apart-by xs k h is not same = not-both (has_number h xs) (ap (λ x. has_number x xs) (sym same) ∙ is) not

-- Of numbers that are distinct the first is none of the rest.
pub first-other : (h : ℕ) (xs : List ℕ) → Distinct (h ∷ xs) → (k : ℕ) → has_number k xs ≡ true → k ≢ h
first-other h xs apart k there = apart-by xs k h there apart.0

-- A number is among those of a list with one more exactly where it is in the list, or is that one.
pub has-one_more : (k h : ℕ) (xs : List ℕ) → has_number k (xs ++ h ∷ []) ≡ (has_number k xs || (k == h))
has-one_more k h [] = or-false (k == h)
has-one_more k h (x ∷ xs) = ap (λ b. (k == x) || b) (has-one_more k h xs) ∙ sym (or_assoc (k == x) (has_number k xs) (k == h))

-- A list that has no number twice, and one that isn't in it.
pub distinct-one_more : (xs : List ℕ) (h : ℕ) → Distinct xs → has_number h xs ≡ false → Distinct (xs ++ h ∷ [])
distinct-one_more [] h apart not = (refl, tt)
distinct-one_more (x ∷ xs) h apart not = elim (same-or-not h x) [
  | inl e ↦ absurd (not-both (has_number h (x ∷ xs)) (ap (λ y. has_number y (x ∷ xs)) e ∙ has-first x xs) not)
  | inr e ↦ (
    has-one_more x h xs ∙ ap (λ b. b || (x == h)) apart.0 ∙ equal-other x h (λ s. e (sym s)),
    distinct-one_more xs h apart.1 (sym (has-other h x xs e) ∙ not),
  )
]

-- The same, where there is one more, or none.
pub distinct-made : (made : Option ℕ) (xs : List ℕ) → Distinct xs → ((h : ℕ) → made ≡ Some h → has_number h xs ≡ false) →
    Distinct (with_made made xs)
distinct-made None xs apart not = apart
distinct-made (Some h) xs apart not = distinct-one_more xs h apart (not h refl)

-- Equal numbers pass the test of it.
pub equal-is : (n m : ℕ) → n ≡ m → (n == m) ≡ true
equal-is n m e = elim (eqb_tells n m) [ inl t ↦ t.0 | inr t ↦ absurd (t.1 e) ]

-- A test counts once at most.
pub one-most : (b : Bool) → one_if b ≤ 1
one-most true = omega arith
one-most false = omega arith

-- How often a number is there, where at most one of two tests passes.
pub one-of_two : (a b : Bool) → (b ≡ true → a ≡ false) → one_if (a || b) ≡ one_if a + one_if b
one-of_two true true h = absurd (not-both true refl (h refl))
one-of_two true false h = refl
one-of_two false b h = (let e : one_if b ≡ 0 + one_if b = omega arith in e)

-- A number is among those of a list with one more, that isn't in it, as often as it is in the list and is that one.
pub one-more : (k h : ℕ) (xs : List ℕ) → has_number h xs ≡ false →
    one_if (has_number k (xs ++ h ∷ [])) ≡ one_if (has_number k xs) + one_if (k == h)
one-more k h xs not = ap one_if (has-one_more k h xs) ∙ one-of_two (has_number k xs) (k == h) (λ is. elim (same-or-not k h) [
  | inl e ↦ ap (λ x. has_number x xs) e ∙ not
  | inr e ↦ absurd (not-both (k == h) is (equal-other k h e))
])
