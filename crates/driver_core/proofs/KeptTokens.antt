-- Which tokens are kept by number after each call of a driver.
use Rattle.std.proofs.Common.{◌≡◌, ◌≢◌, ◌≤◌, ℕ, zero, suc, List, [], ◌∷◌, ◌++◌, length, Option, None, Some, ◌⊎◌, inl, inr, refl, sym, ◌∙◌}
use Rattle.std.proofs.Common.{ap, subst, arith}
use Rattle.machine.specs.Lists.{amended}
use Rattle.driver_core.specs.declared.op.Op.{Op}
use Rattle.machine.proofs.Numbers.{same-or-not}
use Rattle.driver_core.specs.Op.{Holds, number_of, KeepsTokens, DropsToken, AddsToken}
use Rattle.driver_core.specs.Ops.{Ops}
use Rattle.driver_core.specs.Tokens.{token_at, AreHeld}

-- A token under its number stays where the driver keeps all tokens.
pub are_held-kept : {B : Type 0} (tokens : List (Option Op)) (old new : Ops B) → AreHeld tokens old → KeepsTokens old new
    → AreHeld tokens new
are_held-kept tokens old new held kept n op = (
  λ there. let h = (held n op).0 there in ((kept op).0 h.0, h.1),
  λ h. (held n op).1 ((kept op).1 h.0, h.1),
)

-- The token at a number after the place of another was emptied is what it was.
pub token_at-emptied_other : {A : Type 0} (tokens : List (Option A)) (n m : ℕ) → m ≢ n
    → token_at (amended tokens n (λ token. None)) m ≡ token_at tokens m
token_at-emptied_other [] n m other = refl
token_at-emptied_other (token ∷ tokens) zero zero other = absurd (other refl)
token_at-emptied_other (token ∷ tokens) zero (suc m) other = refl
token_at-emptied_other (token ∷ tokens) (suc n) zero other = refl
token_at-emptied_other (token ∷ tokens) (suc n) (suc m) other = token_at-emptied_other tokens n m (λ same. other (ap suc same))

-- An emptied place has no token.
pub token_at-emptied : {A : Type 0} (tokens : List (Option A)) (n : ℕ) → token_at (amended tokens n (λ token. None)) n ≡ None
token_at-emptied [] n = refl
token_at-emptied (token ∷ tokens) zero = refl
token_at-emptied (token ∷ tokens) (suc n) = token_at-emptied tokens n

-- A token that was taken and put back is where it was.
pub put-taken : {A : Type 0} (tokens : List (Option A)) (n : ℕ) (op : A) → token_at tokens n ≡ Some op
    → amended (amended tokens n (λ token. None)) n (λ token. Some op) ≡ tokens
put-taken [] n op there = refl
put-taken (token ∷ tokens) zero op there = ap (λ x. x ∷ tokens) (sym there)
put-taken (token ∷ tokens) (suc n) op there = ap (λ xs. token ∷ xs) (put-taken tokens n op there)

-- Where there is no token, emptying its place changes nothing.
pub emptied-none : {A : Type 0} (tokens : List (Option A)) (n : ℕ) → token_at tokens n ≡ None → amended tokens n (λ token. None) ≡ tokens
emptied-none [] n none = refl
emptied-none (token ∷ tokens) zero none = ap (λ x. x ∷ tokens) (sym none)
emptied-none (token ∷ tokens) (suc n) none = ap (λ xs. token ∷ xs) (emptied-none tokens n none)

-- A token behind the last stands at the number of the tokens.
pub token_at-added : (tokens : List (Option Op)) (op : Op) → token_at (tokens ++ Some op ∷ []) (length tokens) ≡ Some op
token_at-added [] op = refl
token_at-added (token ∷ tokens) op = token_at-added tokens op

-- A token that was there stays where one is added.
pub token_at-before : (tokens : List (Option Op)) (op other : Op) (n : ℕ) → token_at tokens n ≡ Some other
    → token_at (tokens ++ Some op ∷ []) n ≡ Some other
token_at-before [] op other n there = cc
token_at-before (token ∷ tokens) op other zero there = there
token_at-before (token ∷ tokens) op other (suc n) there = token_at-before tokens op other n there

-- A token after one was added was there, or is the added one at the last place.
pub token_at-cases : (tokens : List (Option Op)) (op other : Op) (n : ℕ) → token_at (tokens ++ Some op ∷ []) n ≡ Some other
    → (token_at tokens n ≡ Some other) ⊎ ((n ≡ length tokens) × (other ≡ op))
token_at-cases [] op other zero there = inr (refl, let same : op ≡ other = cc in sym same)
token_at-cases [] op other (suc n) there = absurd (let none : ◌≡◌ {A = Option Op} None (Some other) = there in cc)
token_at-cases (token ∷ tokens) op other zero there = inl there
token_at-cases (token ∷ tokens) op other (suc n) there =
    elim (token_at-cases tokens op other n there) [ inl before ↦ inl before | inr last ↦ inr (ap suc last.0, last.1) ]

-- The tokens after one was handed over: its place is empty, and the driver holds the others.
pub are_held-taken : {B : Type 0} (tokens : List (Option Op)) (old new : Ops B) (n : ℕ) (op : Op) → token_at tokens n ≡ Some op
    → AreHeld tokens old → DropsToken old new op → AreHeld (amended tokens n (λ token. None)) new
are_held-taken tokens old new n op there held taken m other = elim (same-or-not m n) [
  | inl same ↦ (
    λ found. absurd (let none : ◌≡◌ {A = Option Op} None (Some other) =
        sym (ap (λ k. token_at (amended tokens n (λ token. None)) k) same ∙ token_at-emptied tokens n) ∙ found in cc),
    λ h. let was = (taken other).0 h.0 in
        let found : token_at tokens m ≡ Some other = (held m other).1 (was.0, h.1) in
        absurd (was.1 (let both : Some other ≡ Some op = sym found ∙ ap (token_at tokens) same ∙ there in cc)),
  )
  | inr apart ↦ (
    λ found. let was = (held m other).0 (sym (token_at-emptied_other tokens n m apart) ∙ found) in
        ((taken other).1 (was.0, λ is. apart (sym was.1 ∙ ap (λ o. number_of o) is ∙ ((held n op).0 there).1)), was.1),
    λ h. let was = (taken other).0 h.0 in token_at-emptied_other tokens n m apart ∙ (held m other).1 (was.0, h.1),
  )
]

-- The tokens after a submission: the new one stands at their end.
pub are_held-added : {B : Type 0} (tokens : List (Option Op)) (old new : Ops B) (op : Op) → length tokens ≡ old.given
    → AreHeld tokens old → AddsToken old new op → AreHeld (tokens ++ Some op ∷ []) new
are_held-added tokens old new op count held adds n other = (
  λ found. elim (token_at-cases tokens op other n found) [
    | inl before ↦ (let was = (held n other).0 before in (adds.kept other was.0, was.1))
    | inr last ↦ (subst (λ o. Holds new o) (sym last.1) adds.this, ap (λ o. number_of o) last.1 ∙ adds.number ∙ sym count ∙ sym last.0)
  ],
  λ h. elim (adds.only other h.0) [
    | inl is ↦ (let at : n ≡ length tokens = sym h.1 ∙ ap (λ o. number_of o) is ∙ adds.number ∙ sym count in
        ap (token_at (tokens ++ Some op ∷ [])) at ∙ token_at-added tokens op ∙ ap (λ o. Some o) (sym is))
    | inr was ↦ token_at-before tokens op other n ((held n other).1 (was, h.1))
  ],
)

-- Past the last there is no token.
pub token_at-past : {A : Type 0} (tokens : List (Option A)) (n : ℕ) → length tokens ≤ n → token_at tokens n ≡ None
token_at-past [] n past = refl
token_at-past (token ∷ tokens) zero past = absurd (omega arith)
token_at-past (token ∷ tokens) (suc n) past = token_at-past tokens n (omega arith)
