-- Which slot has which number, after a change of one slot.
use Rattle.std.proofs.Common.{◌≡◌, inl, inr, ℕ, Bool, true, false, Option, Some, None, refl, sym, ◌∙◌, ap, subst}
use Rattle.std.specs.Ordering.{nat_cmp}
use Rattle.std.specs.FinMap.{FinMap, get, insert, remove}
use Rattle.op_slots.specs.Lifecycle.{IsIgnored, after_complete}
use Rattle.op_slots.specs.declared.lifecycle.AfterComplete.TheVariants.{Kept, Wake, Free}
use Rattle.op_slots.specs.declared.lifecycle.Lifecycle.{Lifecycle}
use Rattle.op_slots.specs.declared.lifecycle.Lifecycle.TheVariants.{Submitted, Waiting, Ignored, Completed}
use Rattle.machine.specs.declared.request.Outcome.{Outcome}
use Rattle.driver_core.specs.declared.slot.Slot.{Slot}
use Rattle.driver_core.specs.Slot.{number_at, number_if, serial_of, is_owned_life, KeepsNumbers}
use Rattle.machine.proofs.Numbers.{same-or-not}
use Rattle.driver_core.proofs.Maps.{put-same, put-other, gone-same, gone-other, remove-put}

-- Who a slot belongs to, by its life.
pub owned-kept : (l : Lifecycle Outcome) → after_complete l ≡ Kept → is_owned_life l ≡ true
owned-kept Submitted h = refl
owned-kept (Waiting t) h = refl
owned-kept Ignored h = (let f : ⊥ = cc in absurd f)
owned-kept (Completed r) h = refl

-- A slot whose completion wakes a task is its user's.
pub owned-wake : (l : Lifecycle Outcome) (task : ℕ) → after_complete l ≡ Wake task → is_owned_life l ≡ true
owned-wake Submitted task h = refl
owned-wake (Waiting t) task h = refl
owned-wake Ignored task h = (let f : ⊥ = cc in absurd f)
owned-wake (Completed r) task h = refl

-- A slot that completing frees is nobody's.
pub owned-free : (l : Lifecycle Outcome) → after_complete l ≡ Free → is_owned_life l ≡ false
owned-free Submitted h = (let f : ⊥ = cc in absurd f)
owned-free (Waiting t) h = (let f : ⊥ = cc in absurd f)
owned-free Ignored h = refl
owned-free (Completed r) h = (let f : ⊥ = cc in absurd f)

-- A slot that is its user's isn't ignored.
pub owned-life : (l : Lifecycle Outcome) → is_owned_life l ≡ true → IsIgnored l → ⊥
owned-life Submitted h i = i
owned-life (Waiting t) h i = i
owned-life Ignored h i = cc
owned-life (Completed r) h i = i

-- A slot that is written with its number, and belongs to whom it did.
pub keeps-put : {B : Type 0} (m : FinMap nat_cmp (Slot B)) (key : ℕ) (s t : Slot B) → get m key ≡ Some s → t.serial ≡ s.serial →
    is_owned_life t.life ≡ is_owned_life s.life → KeepsNumbers m (insert m key t)
keeps-put m key s t there serial owned k = elim (same-or-not k key) [
  | inl e ↦ ap (number_at (insert m key t)) e ∙ ap serial_of (put-same m key t) ∙ ap (λ b. number_if b t.serial) owned
      ∙ ap (number_if (is_owned_life s.life)) serial ∙ sym (ap serial_of (ap (get m) e ∙ there))
  | inr e ↦ ap serial_of (put-other m key t k e)
]

-- A slot that was nobody's is freed.
pub keeps-gone : {B : Type 0} (m : FinMap nat_cmp (Slot B)) (key : ℕ) (s : Slot B) → get m key ≡ Some s → is_owned_life s.life ≡ false →
    KeepsNumbers m (remove m key)
keeps-gone m key s there owned k = elim (same-or-not k key) [
  | inl e ↦ ap (number_at (remove m key)) e ∙ ap serial_of (gone-same m key)
      ∙ sym (ap serial_of (ap (get m) e ∙ there) ∙ ap (λ b. number_if b s.serial) owned)
  | inr e ↦ ap serial_of (gone-other m key k e)
]

-- A slot is completed, or freed.
module _ {B : Type 0} (m : FinMap nat_cmp (Slot B)) (key : ℕ) (s : Slot B) (life : Lifecycle Outcome) (r : Outcome)
    (there : get m key ≡ Some s) (completed : life ≡ Completed r) where
  pub keeps-completed : is_owned_life s.life ≡ true → KeepsNumbers m (insert m key (record s { life = life }))
  keeps-completed owned = keeps-put m key s (record s { life = life }) there refl (ap is_owned_life completed ∙ sym owned)

  pub keeps-freed : (new : FinMap nat_cmp (Slot B)) → is_owned_life s.life ≡ false →
      new ≡ remove (insert m key (record s { life = life })) key → KeepsNumbers m new
  keeps-freed new owned gone =
      subst (λ x. KeepsNumbers m x) (sym (gone ∙ remove-put m key (record s { life = life }))) (keeps-gone m key s there owned)

-- A slot that has a number is its user's, and was given that number.
pub number-owned : (b : Bool) (serial number : ℕ) → number_if b serial ≡ Some number → (b ≡ true) × (serial ≡ number)
number-owned true serial number h = (refl, cc)
number-owned false serial number h = cc

-- The slot of a number: it is there, has it, and is its user's.
pub record Owner {B : Type 0} (m : FinMap nat_cmp (Slot B)) (key number : ℕ) : Type 0 where
  pub slot : Slot B
  pub there : get m key ≡ Some slot
  pub serial : slot.serial ≡ number
  pub owned : is_owned_life slot.life ≡ true

-- What stands at the key of a number is its slot.
owner-at : {B : Type 0} (m : FinMap nat_cmp (Slot B)) (key number : ℕ) (x : Option (Slot B)) → get m key ≡ x → serial_of x ≡ Some number →
    Owner m key number
owner-at m key number None h n = cc
owner-at m key number (Some s) h n =
    (let b = number-owned (is_owned_life s.life) s.serial number n in record { slot = s; there = h; serial = b.1; owned = b.0 })

-- A number at a key has a slot there.
pub owner : {B : Type 0} (m : FinMap nat_cmp (Slot B)) (key number : ℕ) → number_at m key ≡ Some number → Owner m key number
owner m key number h = owner-at m key number (get m key) refl h

-- The number of a slot that is its user's.
pub slot-number : {B : Type 0} (m : FinMap nat_cmp (Slot B)) (key : ℕ) (s : Slot B) → get m key ≡ Some s → is_owned_life s.life ≡ true →
    number_at m key ≡ Some s.serial
slot-number m key s there owned = ap serial_of there ∙ ap (λ b. number_if b s.serial) owned
