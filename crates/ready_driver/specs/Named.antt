-- What calls of operations leave of their slots, and of the handles that they name. Cited by `polling`, and by the calls of a driver.
use Rattle.std.specs.Prelude.{ℕ, ◌≡◌, ◌≢◌, ◌≤◌, ◌↔◌, Bool, true, false, Option, None, Some, Result, Ok, Err}
use Rattle.std.specs.Ordering.{nat_cmp}
use Rattle.std.specs.FinMap as map
use Rattle.rent_buf.specs.declared.fault.OutOfMemory.{OutOfMemory}
use Rattle.handle_core.specs.Table.{Table, holders_at}
use Rattle.op_slots.specs.declared.lifecycle.Lifecycle.{Lifecycle}
use Rattle.op_slots.specs.declared.lifecycle.Lifecycle.TheVariants.{Submitted, Waiting, Ignored, Completed}
use Rattle.machine.specs.declared.request.TheConstants.{CANCELED}
use Rattle.machine.specs.declared.request.Outcome.{Outcome}
use Rattle.machine.specs.declared.request.Outcome.TheVariants.{Fail}
use Rattle.machine.specs.Effect.{made_by}
use Rattle.machine.specs.Lists.{has_number}
use Rattle.machine.specs.Request.{named}
use Rattle.driver_core.specs.declared.op.Done.{Done}
use Rattle.driver_core.specs.declared.op.Op.{Op}
use Rattle.driver_core.specs.declared.op.PollOp.{PollOp}
use Rattle.driver_core.specs.declared.op.PollOp.TheVariants.{Pending, Ready}
use Rattle.driver_core.specs.declared.slot.Slot.{Slot}
use Rattle.driver_core.specs.Holds.{Number, named_in, made_in, is_maker}
use Rattle.driver_core.specs.Ops.{Ops}
use Rattle.driver_core.specs.Slot.{task_in, is_flying, with_life}

-- An operation of this life is in flight, or is completed with the error of a cancel.
abbrev pub IsOnlyCanceledLife : Lifecycle Outcome → Type 0
IsOnlyCanceledLife Submitted = Unit {0}
IsOnlyCanceledLife (Waiting task) = Unit {0}
IsOnlyCanceledLife Ignored = Unit {0}
IsOnlyCanceledLife (Completed outcome) = outcome ≡ Fail CANCELED

-- The same of the slot that was looked up, if there is one.
abbrev pub IsOnlyCanceled : {B : Type 0} → Option (Slot B) → Type 0
IsOnlyCanceled None = Unit {0}
IsOnlyCanceled (Some slot) = IsOnlyCanceledLife slot.life

-- The operation of the slot that was looked up is completed with this outcome.
abbrev pub IsCompleted : {B : Type 0} → Option (Slot B) → Outcome → Type 0
IsCompleted None outcome = ⊥
IsCompleted (Some slot) outcome = slot.life ≡ Completed outcome

-- An operation that is polled names the handles that it named, made none if it had made none, and is completed with an outcome exactly
-- if it was before. All other slots stay.
pub record KeepsSlot {B : Type 0} (old : map.FinMap nat_cmp (Slot B)) (key : ℕ) (new : map.FinMap nat_cmp (Slot B)) : Type 0 where
  pub others : (k : ℕ) → k ≢ key → map.get new k ≡ map.get old k
  pub names : named_in (map.get new key) ≡ named_in (map.get old key)
  pub unmade : made_in (map.get old key) ≡ None → made_in (map.get new key) ≡ None
  pub completed : (outcome : Outcome) → IsCompleted (map.get new key) outcome ↔ IsCompleted (map.get old key) outcome

-- An operation is returned: its slot is free, and its request names the handles that it named. It made a handle only if it was in flight
-- and its request may make one. All other slots stay.
pub record ReturnsSlot {B : Type 0} (old : map.FinMap nat_cmp (Slot B)) (key : ℕ) (new : map.FinMap nat_cmp (Slot B)) (done : Done B)
    : Type 0 where
  pub others : (k : ℕ) → k ≢ key → map.get new k ≡ map.get old k
  pub free : map.get new key ≡ None
  pub names : named done.request ≡ named_in (map.get old key)
  pub made : made_in (map.get old key) ≡ None → (h : ℕ) → made_by done.outcome ≡ Some h → is_maker (map.get old key) ≡ true

-- What a poll does to the slot of its operation.
abbrev pub PollsSlotFor : {B : Type 0} → Ops B → Ops B → Op → Result (PollOp B) (OutOfMemory × Op) → Type 0
PollsSlotFor old new op (Ok (Pending back)) = KeepsSlot old.slots.values op.key new.slots.values
PollsSlotFor old new op (Ok (Ready done)) = ReturnsSlot old.slots.values op.key new.slots.values done
PollsSlotFor old new op (Err error) = KeepsSlot old.slots.values op.key new.slots.values

-- The task that polled the operation of the slot that was looked up last, while it is in flight.
abbrev pub task_of : {B : Type 0} → Option (Slot B) → Option ℕ
task_of None = None
task_of (Some slot) = task_in slot.life

-- The slots once the cancel of the operation of a slot that was looked up is asked for: one in flight ends with the error of a cancel.
abbrev pub canceled_if : {B : Type 0} → Bool → map.FinMap nat_cmp (Slot B) → ℕ → Slot B → map.FinMap nat_cmp (Slot B)
canceled_if true slots key slot = map.insert slots key (with_life slot (Completed (Fail CANCELED)))
canceled_if false slots key slot = slots

abbrev pub canceled_in : {B : Type 0} → map.FinMap nat_cmp (Slot B) → ℕ → Option (Slot B) → map.FinMap nat_cmp (Slot B)
canceled_in slots key None = slots
canceled_in slots key (Some slot) = canceled_if (is_flying slot.life) slots key slot

-- The slots once the cancel of the operation at a key is asked for.
abbrev pub canceled_slots : {B : Type 0} → map.FinMap nat_cmp (Slot B) → ℕ → map.FinMap nat_cmp (Slot B)
canceled_slots slots key = canceled_in slots key (map.get slots key)

-- A table counts the operations: as many hold a handle as slots name it, and no more than were submitted. No operation in a slot made a
-- handle, and one that is completed is so with the error of a cancel.
pub record AreNaming {B : Type 0} (table : Table) (slots : map.FinMap nat_cmp (Slot B)) (given : ℕ) : Type 0 where
  pub counted : (h : ℕ) → Number (λ slot. has_number h (named_in slot)) slots (holders_at table h).operations
  pub few : (h : ℕ) → (holders_at table h).operations ≤ given
  pub unmade : (key : ℕ) → made_in (map.get slots key) ≡ None
  pub canceled : (key : ℕ) → IsOnlyCanceled (map.get slots key)
