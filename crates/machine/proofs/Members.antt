-- The numbers of the elements that pass a test: which they are, and that they rise. So of the members of a group.
use Rattle.std.proofs.Common.{◌≡◌, ◌⊎◌, inl, inr, ℕ, zero, suc, ◌+◌, Bool, true, false, not, List, [], ◌∷◌, Option, None, Some, slice_get}
use Rattle.std.proofs.Common.{refl, sym, ◌∙◌, ap, subst, arith}
use Rattle.std.specs.Prelude.{if◌then◌else◌, ◌==◌, ◌&&◌}
use Rattle.std.proofs.lemmas.Bool.Decides.{eqb_tells}
use Rattle.machine.specs.Lists.{numbers_where, has_number, passes}
use Rattle.machine.specs.Ledger.{Ledger, Operation, is_kept, is_live, is_owned, is_marked, is_under, is_member, members}
use Rattle.machine.proofs.Numbers.{same-or-not, and-left, and-right, not-passes}
use Rattle.machine.proofs.Leaving.{Ascends, ascends-lower, has-first, has-later, has-other}

-- A number that is in a list is in it behind another one, too, where there is one.
has-led : (b : Bool) (m k : ℕ) (xs : List ℕ) → has_number m xs ≡ true → has_number m (if b then k ∷ xs else xs) ≡ true
has-led true m k xs is = has-later m k xs is
has-led false m k xs is = is

-- A number that is in a list with another one before it, or none, is that one, or in the list.
led-cases : (b : Bool) (m k : ℕ) (xs : List ℕ) → has_number m (if b then k ∷ xs else xs) ≡ true →
    ((b ≡ true) × (m ≡ k)) ⊎ (has_number m xs ≡ true)
led-cases true m k xs is = elim (same-or-not m k) [ inl e ↦ inl (refl, e) | inr e ↦ inr (sym (has-other m k xs e) ∙ is) ]
led-cases false m k xs is = inr is

-- Numbers rise behind a lower one, where there is one.
led-ascends : (b : Bool) (k : ℕ) (xs : List ℕ) → Ascends (suc k) xs → Ascends k (if b then k ∷ xs else xs)
led-ascends true k xs a = (omega arith, a)
led-ascends false k xs a = ascends-lower k (suc k) xs (omega arith) a

-- What passes is listed.
pub where-has : {A : Type 0} (test : A → Bool) (xs : List A) (k n : ℕ) (x : A) → slice_get xs n ≡ Some x → test x ≡ true →
    has_number (k + n) (numbers_where test k xs) ≡ true
where-has test [] k n x there is = cc
where-has test (y ∷ xs) k zero x there is =
    let rest : List ℕ = numbers_where test (suc k) xs in
    let e : y ≡ x = cc in
    let same : k ≡ k + 0 = omega arith in
    subst (λ b. has_number (k + 0) (if b then k ∷ rest else rest) ≡ true) (sym (ap test e ∙ is))
    (subst (λ m. has_number m (k ∷ rest) ≡ true) same (has-first k rest))
where-has test (y ∷ xs) k (suc n) x there is =
    let rest : List ℕ = numbers_where test (suc k) xs in
    let same : suc k + n ≡ k + suc n = omega arith in
    has-led (test y) (k + suc n) k rest
    (subst (λ m. has_number m rest ≡ true) same (where-has test xs (suc k) n x there is))

-- What is listed passes.
pub has-where : {A : Type 0} (test : A → Bool) (xs : List A) (k m : ℕ) → has_number m (numbers_where test k xs) ≡ true →
    (n : ℕ) × (x : A) × (m ≡ k + n) × (slice_get xs n ≡ Some x) × (test x ≡ true)
has-where test [] k m is = (let f : ⊥ = cc in absurd f)
has-where test (y ∷ xs) k m is = elim (led-cases (test y) m k (numbers_where test (suc k) xs) is) [
  | inl e ↦ (0, y, (let q = e.1 in omega arith), refl, e.0)
  | inr e ↦ (let r = has-where test xs (suc k) m e in let q = r.2 in (suc r.0, r.1, omega arith, r.3, r.4))
]

-- What is listed rises.
pub where-ascends : {A : Type 0} (test : A → Bool) (xs : List A) (k : ℕ) → Ascends k (numbers_where test k xs)
where-ascends test [] k = tt
where-ascends test (y ∷ xs) k = led-ascends (test y) k (numbers_where test (suc k) xs) (where-ascends test xs (suc k))

-- A group that passes the test is this one.
under-is : (g : ℕ) (x : Option ℕ) → passes (λ group. group == g) x ≡ true → x ≡ Some g
under-is g None is = (let f : ⊥ = cc in absurd f)
under-is g (Some k) is = elim (eqb_tells k g) [
  | inl e ↦ ap Some e.1
  | inr e ↦ absurd (let f : false ≡ true = sym e.0 ∙ is in let h : ⊥ = cc in h)
]

-- This one passes it.
is-under : (g : ℕ) (x : Option ℕ) → x ≡ Some g → passes (λ group. group == g) x ≡ true
is-under g x at = ap (passes (λ group. group == g)) at ∙ elim (eqb_tells g g) [ inl e ↦ e.0 | inr e ↦ absurd (e.1 refl) ]

-- An operation is a member of a group: it was submitted under it, and is neither gone nor dropped.
pub record MemberAt (L : Ledger) (g n : ℕ) : Type 0 where
  pub operation : Operation
  pub there : slice_get L.ops n ≡ Some operation
  pub under : operation.group ≡ Some g
  pub kept : is_kept operation.place ≡ true
  pub undropped : operation.dropped ≡ false

-- Each listed member of a group that isn't marked is one.
pub members-are : (L : Ledger) (g n : ℕ) → is_marked L g ≡ false → has_number n (members L g) ≡ true → MemberAt L g n
members-are L g n unmarked is =
    let all : List ℕ = numbers_where (is_member g) 0 L.ops in
    let listed : has_number n all ≡ true = sym (ap (λ b. has_number n (if b then [] else all)) unmarked) ∙ is in
    let w = has-where (is_member g) L.ops 0 n listed in
    let o : Operation = w.1 in
    let same : w.0 ≡ n = (let q = w.2 in omega arith) in
    let under : is_under g o ≡ true = and-left (is_under g o) (is_owned o) w.4 in
    let owned : is_owned o ≡ true = and-right (is_under g o) (is_owned o) w.4 in
    record {
      operation = o;
      there = sym (ap (slice_get L.ops) same) ∙ w.3;
      under = under-is g o.group under;
      kept = and-left (is_live o) (not o.dropped) owned;
      undropped = not-passes o.dropped (and-right (is_live o) (not o.dropped) owned);
    }

-- Each member of a group that isn't marked is listed.
pub are-members : (L : Ledger) (g n : ℕ) → is_marked L g ≡ false → MemberAt L g n → has_number n (members L g) ≡ true
are-members L g n unmarked m =
    let o : Operation = m.operation in
    let all : List ℕ = numbers_where (is_member g) 0 L.ops in
    let passes_it : is_member g o ≡ true =
    ap (λ b. b && (is_kept o.place && not o.dropped)) (is-under g o.group m.under)
    ∙ ap (λ b. b && not o.dropped) m.kept ∙ ap (λ b. not b) m.undropped in
    let same : 0 + n ≡ n = omega arith in
    ap (λ b. has_number n (if b then [] else all)) unmarked
    ∙ subst (λ k. has_number k all ≡ true) same (where-has (is_member g) L.ops 0 n o m.there passes_it)

-- They rise.
pub members-ascend : (L : Ledger) (g : ℕ) → Ascends 0 (members L g)
members-ascend L g = by (is_marked L g)
  where
    by : (b : Bool) → Ascends 0 (if b then [] else numbers_where (is_member g) 0 L.ops)
    by true = tt
    by false = where-ascends (is_member g) L.ops 0
