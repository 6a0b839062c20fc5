-- What each call keeps of what holds of every driver.
use Rattle.std.proofs.Common.{◌≡◌, ◌≢◌, inl, inr, ℕ, ◌+◌, ◌≤◌, ◌<◌, Option, Some, None, refl, sym, ◌∙◌, ap, subst, arith}
use Rattle.std.specs.Prelude.{IsSome, is_some}
use Rattle.std.specs.Ordering.{nat_cmp}
use Rattle.std.specs.FinMap.{FinMap, get, insert, remove, empty, len, get-empty, len-empty}
use Rattle.driver_core.specs.declared.op.Op.{Op}
use Rattle.driver_core.specs.declared.op.PollOp.{PollOp}
use Rattle.driver_core.specs.declared.op.PollOp.TheVariants.{Pending, Ready}
use Rattle.driver_core.specs.declared.slot.Slot.{Slot}
use Rattle.driver_core.specs.Op.{PollsTokens}
use Rattle.driver_core.specs.Ops.{Ops}
use Rattle.driver_core.specs.Slot.{number_at, serial_of, KeepsNumbers}
use Rattle.uring_driver.specs.State.{IsSound}
use Rattle.machine.proofs.Numbers.{same-or-not}
use Rattle.driver_core.proofs.Maps.{gone-other, len-new, len-gone, len-some}
use Rattle.driver_core.proofs.Numbers.{owner}

-- An option without a value has none.
none-some : {X : Type 0} (x : X) (o : Option X) → o ≡ None → o ≡ Some x → ⊥
none-some {X} x o n s = (let z : ◌≡◌ {A = Option X} None (Some x) = sym n ∙ s in cc)

-- Slots with no new number, and no less room beside what the closes of handles need.
pub sound-shrinks : {B : Type 0} (room room' : ℕ) (slots slots' : FinMap nat_cmp (Slot B)) (handles handles' : ℕ) →
    IsSound room slots handles → room + handles' ≤ room' + handles →
    ((key number : ℕ) → number_at slots' key ≡ Some number → number_at slots key ≡ Some number) → IsSound room' slots' handles'
sound-shrinks room room' slots slots' handles handles' s more sub = record {
  owned = s.owned;
  few = (let a = s.few in omega (arith, a, more));
  all = λ key number h. s.all key number (sub key number h);
}

-- Slots that keep their numbers, and no less room beside that.
pub sound-keeps : {B : Type 0} (room room' : ℕ) (slots slots' : FinMap nat_cmp (Slot B)) (handles handles' : ℕ) →
    IsSound room slots handles → room + handles' ≤ room' + handles → KeepsNumbers slots slots' →
    IsSound room' slots' handles'
sound-keeps room room' slots slots' handles handles' s more keeps =
    sound-shrinks room room' slots slots' handles handles' s more (λ key number h. sym (keeps key) ∙ h)

-- No slot, and no handle.
pub sound-empty : {B : Type 0} (room : ℕ) (slots : FinMap nat_cmp (Slot B)) (handles : ℕ) → slots ≡ empty → handles ≡ 0 →
    IsSound room slots handles
sound-empty {B} room slots handles fresh none = record {
  owned = empty;
  few = (let a = len-empty nat_cmp (Slot B) in omega (arith, a, none));
  all =
      λ key number h. absurd
      (none-some number (number_at slots key) (ap (λ m. number_at m key) fresh ∙ ap serial_of (get-empty {X = Slot B} nat_cmp key)) h);
}

-- A slot that has a number is there.
there : {B : Type 0} (slots : FinMap nat_cmp (Slot B)) (key number : ℕ) → number_at slots key ≡ Some number → IsSome (get slots key)
there slots key number h = subst (λ o. IsSome o) (sym (owner slots key number h).there) refl

-- Room for each live slot, and each handle.
pub sound-live : {B : Type 0} (room : ℕ) (slots : FinMap nat_cmp (Slot B)) (handles : ℕ) → len slots + handles ≤ room →
    IsSound room slots handles
sound-live room slots handles more = record {
  owned = slots;
  few = more;
  all = there slots;
}

-- A new slot, with room for each.
pub sound-more : {B : Type 0} (room : ℕ) (slots slots' : FinMap nat_cmp (Slot B)) (handles : ℕ) (key : ℕ) (t : Slot B) →
    get slots key ≡ None → slots' ≡ insert slots key t → len slots + 1 + handles ≤ room → IsSound room slots' handles
sound-more room slots slots' handles key t free is more =
    sound-live room slots' handles (let a = ap len is ∙ len-new slots key t free in omega (arith, a, more))

-- The value of an option that has one.
value-of : {X : Type 0} (o : Option X) → IsSome o → (x : X) × (o ≡ Some x)
value-of None h = (let f : ⊥ = cc in absurd f)
value-of (Some x) h = (x, refl)

-- A map with something at a key has at least one key.
has-key : {B : Type 0} (m : FinMap nat_cmp (Slot B)) (key : ℕ) → IsSome (get m key) → 0 < len m
has-key m key h = len-some m key (ap is_some (value-of (get m key) h).1)

-- A slot of its user's has room for its cancel.
pub sound-room : {B : Type 0} (room : ℕ) (slots : FinMap nat_cmp (Slot B)) (handles : ℕ) (key number : ℕ) → IsSound room slots handles →
    number_at slots key ≡ Some number → 0 < room
sound-room room slots handles key number s h = (let a = s.few in let b = has-key s.owned key (s.all key number h) in omega (arith, a, b))

-- One slot less is its user's.
module _ {B : Type 0} (room : ℕ) (slots slots' : FinMap nat_cmp (Slot B)) (handles : ℕ) (key number : ℕ) (s : IsSound room slots handles)
    (h : number_at slots key ≡ Some number)
    (gone : number_at slots' key ≡ None) (kept : (k : ℕ) → k ≢ key → number_at slots' k ≡ number_at slots k) where
  sub : (k n : ℕ) → number_at slots' k ≡ Some n → (number_at slots k ≡ Some n) × (k ≢ key)
  sub k n g = elim (same-or-not k key) [
    | inl e ↦ absurd (none-some n (number_at slots' k) (ap (number_at slots') e ∙ gone) g)
    | inr e ↦ (sym (kept k e) ∙ g, e)
  ]

  pub sound-gone : (room' : ℕ) (handles' : ℕ) → room + handles' ≤ room' + handles → IsSound room' slots' handles'
  sound-gone room' handles' more = sound-shrinks room room' slots slots' handles handles' s more (λ k n g. (sub k n g).0)

  -- It needs room for one cancel less.
  pub sound-less : (room' : ℕ) → room' + 1 ≡ room → IsSound room' slots' handles
  sound-less room' less = record {
    owned = remove s.owned key;
    few = (
        let v = value-of (get s.owned key) (s.all key number h) in
        let a = len-gone s.owned key v.0 v.1 in
        let b = s.few in
        let c = has-key s.owned key (s.all key number h) in
        omega (arith, a, b, c, less));
    all = λ k n g. subst (λ o. IsSome o) (sym (gone-other s.owned key k (sub k n g).1)) (s.all k n (sub k n g).0);
  }

-- A poll makes no token.
pub sound-polled : {B : Type 0} (room room' : ℕ) (handles handles' : ℕ) (old new : Ops B) (op : Op) (result : PollOp B) →
    IsSound room old.slots.values handles → PollsTokens old new op result → room + handles' ≤ room' + handles →
    IsSound room' new.slots.values handles'
sound-polled room room' handles handles' old new op (Pending back) s tokens more =
    sound-shrinks room room' old.slots.values new.slots.values handles handles' s more
    (λ key number h. (let o : Op = record { number = number; key = key } in (tokens.1 o).1 h))
sound-polled room room' handles handles' old new op (Ready done) s tokens more =
    sound-shrinks room room' old.slots.values new.slots.values handles handles' s more
    (λ key number h. (let o : Op = record { number = number; key = key } in ((tokens o).0 h).0))
