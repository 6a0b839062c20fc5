-- How often a handle is in a list of handles, as a turn names them.
use Rattle.std.proofs.Common.{◌≡◌, inl, inr, ℕ, zero, suc, ◌+◌, ◌≤◌, List, [], ◌∷◌}
use Rattle.std.proofs.Common.{Some, slice_get, refl, sym, ap, arith}
use Rattle.machine.specs.Ledger.{Item, Op}
use Rattle.machine.specs.Turn.{closes_in}
use Rattle.machine.specs.Closes.{closes_listed}
use Rattle.machine.proofs.Occurring.{same, same-cases}

-- How often a handle is in a list of handles.
abbrev pub times : ℕ → List ℕ → ℕ
times h [] = 0
times h (k ∷ handles) = same h k + times h handles

-- What is in a list is there once at least.
pub times-some : (h : ℕ) (handles : List ℕ) (place : ℕ) → slice_get handles place ≡ Some h → 1 ≤ times h handles
times-some h [] place there = (let f : ⊥ = cc in absurd f)
times-some h (k ∷ handles) zero there = elim (same-cases h k) [
  | inl e ↦ (let one = e.1 in omega arith)
  | inr e ↦ absurd (e.0 (let q : k ≡ h = cc in sym q))
]
times-some h (k ∷ handles) (suc place) there = (let r = times-some h handles place there in omega arith)

-- What is in a list once at least is there at a place.
pub times-there : (h : ℕ) (handles : List ℕ) → 1 ≤ times h handles → (place : ℕ) × (slice_get handles place ≡ Some h)
times-there h [] some = absurd (omega (arith, some))
times-there h (k ∷ handles) some = elim (same-cases h k) [
  | inl e ↦ (0, ap Some (sym e.0))
  | inr e ↦ (let r = times-there h handles (let no = e.1 in omega arith) in (suc r.0, r.1))
]

-- What is in a list once is there at one place.
pub times-once : (h : ℕ) (handles : List ℕ) (place other : ℕ) → times h handles ≤ 1 → slice_get handles place ≡ Some h →
    slice_get handles other ≡ Some h → place ≡ other
times-once h [] place other few there here = cc
times-once h (k ∷ handles) zero zero few there here = refl
times-once h (k ∷ handles) zero (suc other) few there here = (
    let r = times-some h handles other here in
    elim (same-cases h k) [
      | inl e ↦ absurd (let one = e.1 in omega (arith, few, r, one))
      | inr e ↦ absurd (e.0 (let q : k ≡ h = cc in sym q))
    ])
times-once h (k ∷ handles) (suc place) zero few there here = (
    let r = times-some h handles place there in
    elim (same-cases h k) [
      | inl e ↦ absurd (let one = e.1 in omega (arith, few, r, one))
      | inr e ↦ absurd (e.0 (let q : k ≡ h = cc in sym q))
    ])
times-once h (k ∷ handles) (suc place) (suc other) few there here =
    ap suc (times-once h handles place other (omega (arith, few)) there here)

-- The closes among items are as many as the handles that they name.
pub times-closes : (h : ℕ) (items : List Item) → times h (closes_in items) ≡ closes_listed h items
times-closes h [] = refl
times-closes h (Op n ∷ items) = times-closes h items
times-closes h (Item.Close k ∷ items) = ap (λ c. same h k + c) (times-closes h items)
