-- A table that counts the operations in slots, after a change of one slot, and what the operation in a slot holds.
use Rattle.std.proofs.Common.{◌≡◌, ◌≢◌, ◌∙◌, inl, inr, ℕ, ◌+◌, ◌<◌, true, false, List, [], ◌∷◌, ◌++◌, Option, Some, None, refl, sym, ap}
use Rattle.std.specs.Ordering.{nat_cmp}
use Rattle.std.specs.FinMap.{FinMap, get, empty}
use Rattle.handle_core.specs.Table.{Table, holders_at}
use Rattle.machine.specs.Lists.{has_number}
use Rattle.machine.specs.Lists.{one_if}
use Rattle.machine.specs.Request.{named}
use Rattle.machine.specs.declared.request.Outcome.{Outcome}
use Rattle.machine.specs.Ledger.{with_made}
use Rattle.machine.proofs.Numbers.{same-or-not}
use Rattle.machine.proofs.Leaving.{named-ascends, has-last}
use Rattle.op_slots.specs.declared.lifecycle.Lifecycle.{Lifecycle}
use Rattle.op_slots.specs.declared.lifecycle.Lifecycle.TheVariants.{Submitted, Waiting, Ignored, Completed}
use Rattle.driver_core.specs.declared.slot.Slot.{Slot}
use Rattle.driver_core.specs.Slot.{is_flying}
use Rattle.driver_core.specs.Holds.{named_in, made_life, made_in, held_in, is_maker, AreCounted, AreMaking, AreApart, CanLeave}
use Rattle.driver_core.proofs.Distinct.{Distinct, ascends-distinct, distinct-made}
use Rattle.driver_core.proofs.Holds.{can-leave}
use Rattle.driver_core.proofs.Passing.{number-none, number-some, number-kept, number-changed}

-- No operation holds a handle.
pub counted-none : {B : Type 0} (table : Table) (slots : FinMap nat_cmp (Slot B)) → ((h : ℕ) → (holders_at table h).operations ≡ 0) →
    slots ≡ empty → AreCounted table slots
counted-none {B} table slots none is =
    λ h. number-none (λ (slot : Option (Slot B)). has_number h (held_in slot)) slots (holders_at table h).operations refl is (none h)

-- Slots whose operations hold what they held are counted as they were.
pub counted-kept : {B : Type 0} (table : Table) (slots slots' : FinMap nat_cmp (Slot B)) → AreCounted table slots →
    ((key : ℕ) → held_in (get slots' key) ≡ held_in (get slots key)) → AreCounted table slots'
counted-kept {B} table slots slots' counted same =
    λ h. number-kept (λ (slot : Option (Slot B)). has_number h (held_in slot)) (counted h) (λ key. ap (has_number h) (same key))

-- A handle that an operation in a slot holds is held by an operation.
pub counted-some : {B : Type 0} (table : Table) (slots : FinMap nat_cmp (Slot B)) (key : ℕ) → AreCounted table slots →
    (h : ℕ) → has_number h (held_in (get slots key)) ≡ true → 0 < (holders_at table h).operations
counted-some {B} table slots key counted h holds =
    number-some (λ (slot : Option (Slot B)). has_number h (held_in slot)) (counted h) key holds

-- One slot changed, and with it how often operations hold each handle.
pub counted-changed : {B : Type 0} (table table' : Table) (slots slots' : FinMap nat_cmp (Slot B)) (key : ℕ) → AreCounted table slots →
    ((k : ℕ) → k ≢ key → get slots' k ≡ get slots k) →
    ((h : ℕ) → (holders_at table' h).operations + one_if (has_number h (held_in (get slots key)))
    ≡ (holders_at table h).operations + one_if (has_number h (held_in (get slots' key)))) → AreCounted table' slots'
counted-changed {B} table table' slots slots' key counted others counts =
    λ h. number-changed (λ (slot : Option (Slot B)). has_number h (held_in slot)) (counted h) key
    (λ k e. ap (λ slot. has_number h (held_in slot)) (others k e)) (holders_at table' h).operations (counts h)

-- No slot makes a handle.
pub making-none : {B : Type 0} (slots : FinMap nat_cmp (Slot B)) (count : ℕ) → slots ≡ empty → count ≡ 0 → AreMaking slots count
making-none {B} slots count is none = number-none (is_maker {B = B}) slots count refl is none

-- A slot that makes a handle is counted.
pub making-some : {B : Type 0} (slots : FinMap nat_cmp (Slot B)) (count key : ℕ) → AreMaking slots count → is_maker (get slots key) ≡ true →
    0 < count
making-some {B} slots count key making maker = number-some (is_maker {B = B}) making key maker

-- One slot changed, and with it how many slots make a handle.
pub making-changed : {B : Type 0} (slots slots' : FinMap nat_cmp (Slot B)) (count now key : ℕ) → AreMaking slots count →
    ((k : ℕ) → k ≢ key → get slots' k ≡ get slots k) →
    now + one_if (is_maker (get slots key)) ≡ count + one_if (is_maker (get slots' key)) → AreMaking slots' now
making-changed {B} slots slots' count now key making others counts =
    number-changed (is_maker {B = B}) making key (λ k e. ap is_maker (others k e)) now counts

-- No slot's operation made a handle that it names.
pub apart-none : {B : Type 0} (slots : FinMap nat_cmp (Slot B)) → ((key : ℕ) → get slots key ≡ None) → AreApart slots
apart-none slots none = λ key h made.
    (let f : None ≡ Some h = ap made_in (sym (none key)) ∙ made in let g : ⊥ = cc in absurd g)

-- One slot changed, and its operation made no handle that it names.
pub apart-changed : {B : Type 0} (slots slots' : FinMap nat_cmp (Slot B)) (key : ℕ) → AreApart slots →
    ((k : ℕ) → k ≢ key → get slots' k ≡ get slots k) →
    ((h : ℕ) → made_in (get slots' key) ≡ Some h → has_number h (named_in (get slots' key)) ≡ false) → AreApart slots'
apart-changed slots slots' key apart others here = λ k h made. elim (same-or-not k key) [
  | inl e ↦ ap (λ x. has_number h (named_in (get slots' x))) e ∙ here h (ap (λ x. made_in (get slots' x)) (sym e) ∙ made)
  | inr e ↦ ap (λ slot. has_number h (named_in slot)) (others k e) ∙ apart k h (ap made_in (sym (others k e)) ∙ made)
]

-- The handles that the request in a slot names are distinct.
pub named-distinct : {B : Type 0} (slot : Option (Slot B)) → Distinct (named_in slot)
named-distinct None = tt
named-distinct (Some slot) = ascends-distinct 0 (named slot.request) (named-ascends slot.request)

-- So are those that the operation in a slot holds.
pub held-distinct : {B : Type 0} (slots : FinMap nat_cmp (Slot B)) (key : ℕ) → AreApart slots → Distinct (held_in (get slots key))
held-distinct slots key apart =
    distinct-made (made_in (get slots key)) (named_in (get slots key)) (named-distinct (get slots key)) (apart key)

-- An operation in a slot may leave.
pub counted-leave : {B : Type 0} (table : Table) (slots : FinMap nat_cmp (Slot B)) (key : ℕ) → AreCounted table slots → AreApart slots →
    CanLeave table (held_in (get slots key))
counted-leave table slots key counted apart =
    can-leave table (held_in (get slots key)) (held-distinct slots key apart) (counted-some table slots key counted)

-- An operation that isn't reaped made nothing that is seen.
pub flying-made : (l : Lifecycle Outcome) → is_flying l ≡ true → made_life l ≡ None
flying-made Submitted flies = refl
flying-made (Waiting task) flies = refl
flying-made Ignored flies = refl
flying-made (Completed outcome) flies = (let f : ⊥ = cc in absurd f)

-- So it holds what its request names.
pub flying-held : {B : Type 0} (slot : Slot B) → is_flying slot.life ≡ true → held_in (Some slot) ≡ named slot.request
flying-held slot flies = ap (λ m. with_made m (named slot.request)) (flying-made slot.life flies)

-- The handle that an operation made is among those that it holds.
pub made-held : (made : Option ℕ) (names : List ℕ) (h : ℕ) → made ≡ Some h → has_number h (with_made made names) ≡ true
made-held None names h is = (let f : ⊥ = cc in absurd f)
made-held (Some k) names h is =
    (let e : k ≡ h = cc in ap (λ x. has_number x (names ++ k ∷ [])) (sym e) ∙ has-last k names)
