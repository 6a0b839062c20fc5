-- Numbers, tests and options, by cases.
use Rattle.std.proofs.Common.{◌≡◌, ◌≢◌, ◌⊎◌, inl, inr, ℕ, zero, suc, ◌<◌, ◌≤◌, Bool, true, false, Option, Some, None, refl, arith}
use Rattle.std.specs.Prelude.{◌==◌, ◌&&◌, ◌||◌, not, nat_le, is_some}
use Rattle.std.proofs.lemmas.Bool.Decides.{eqb_tells, nat_tests}

-- A number is equal to itself, by the test.
pub equal-self : (n : ℕ) → (n == n) ≡ true
equal-self n = elim (eqb_tells n n) [ inl e ↦ e.0 | inr e ↦ absurd (e.1 refl) ]

-- Two numbers are the same, or they aren't.
pub same-or-not : (n m : ℕ) → (n ≡ m) ⊎ (n ≢ m)
same-or-not n m = elim (eqb_tells n m) [ inl e ↦ inl e.1 | inr e ↦ inr e.1 ]

-- A number is below another, or it isn't.
pub below-or-not : (n m : ℕ) → (n < m) ⊎ (m ≤ n)
below-or-not n zero = inr (omega arith)
below-or-not zero (suc m) = inl (omega arith)
below-or-not (suc n) (suc m) = elim (below-or-not n m) [ inl lt ↦ inl (omega arith) | inr le ↦ inr (omega arith) ]

-- Of two numbers that aren't the same one is below the other.
pub below-or-above : (n m : ℕ) → n ≢ m → (n < m) ⊎ (m < n)
below-or-above n m other = elim (below-or-not n m) [ inl lt ↦ inl lt | inr le ↦ inr (omega arith) ]

-- Numbers that aren't the same aren't equal by the test.
pub equal-other : (n m : ℕ) → n ≢ m → (n == m) ≡ false
equal-other n m other = elim (eqb_tells n m) [ inl t ↦ absurd (other t.1) | inr t ↦ t.0 ]

-- Where a conjunction holds, its first test does.
pub and-left : (a b : Bool) → (a && b) ≡ true → a ≡ true
and-left true b h = refl
and-left false b h = h

-- Where a conjunction holds, its second test does.
pub and-right : (a b : Bool) → (a && b) ≡ true → b ≡ true
and-right true b h = h
and-right false b h = (let f : ⊥ = cc in absurd f)

-- Where a conjunction holds whose first test is that a number is at most another, it is.
pub at_most-left : (n m : ℕ) (b : Bool) → (nat_le n m && b) ≡ true → n ≤ m
at_most-left n m true h = grind (arith, nat_tests)
at_most-left n m false h = grind (arith, nat_tests)

-- A test whose opposite passes fails.
pub not-passes : (b : Bool) → not b ≡ true → b ≡ false
not-passes true h = (let f : ⊥ = cc in absurd f)
not-passes false h = refl

-- An option that isn't none has a value.
pub some-of : {X : Type 0} (o : Option X) → is_some o ≡ true → (x : X) × (o ≡ Some x)
some-of None h = (let f : ⊥ = cc in absurd f)
some-of (Some x) h = (x, refl)

-- An option that has no value is none.
pub none-of : {X : Type 0} (o : Option X) → is_some o ≡ false → o ≡ None
none-of None h = refl
none-of (Some x) h = (let f : ⊥ = cc in absurd f)

-- A flag stays where nothing is added.
pub or-false : (a b : Bool) → b ≡ false → (a || b) ≡ a
or-false true b e = refl
or-false false b e = e
