-- When slots stand for operations. Cited by `Stands`.
use Rattle.std.specs.Prelude.{ℕ, ◌≡◌, ◌<◌, Bool, true, false, List, Option, Some, None, length, slice_get}
use Rattle.std.specs.Ordering.{nat_cmp}
use Rattle.std.specs.FinMap as map
use Rattle.rent_buf.specs.Buffer.{Buffer}
use Rattle.op_slots.specs.declared.slab.TheConstants.{MAX_LIVE}
use Rattle.op_slots.specs.declared.lifecycle.Lifecycle.{Lifecycle}
use Rattle.op_slots.specs.declared.lifecycle.Lifecycle.TheVariants.{Submitted, Waiting, Ignored, Completed}
use Rattle.machine.specs.declared.request.Outcome.{Outcome}
use Rattle.machine.specs.Lists.{numbers_where}
use Rattle.machine.specs.Request.{plain_request, held_of, IsHolding}
use Rattle.machine.specs.Ledger.{Operation, Place, InQueue, InFlight, InDone, Reaped, Gone, is_live}
use Rattle.driver_core.specs.declared.slot.Slot.{Slot}

-- A slot's life while its operation isn't reaped: it waits with the task that polled last, if one did.
abbrev pub waiting : Option ℕ → Lifecycle Outcome
waiting None = Submitted
waiting (Some task) = Waiting task

-- A slot's life, by the place of its operation and the task that waits for it. One that is gone has no slot.
abbrev pub owned_life : Place → Option ℕ → Lifecycle Outcome
owned_life InQueue task = waiting task
owned_life InFlight task = waiting task
owned_life (InDone outcome) task = waiting task
owned_life (Reaped outcome) task = Completed outcome
owned_life Gone task = Submitted

-- A slot's life, by whether its operation was dropped: it is ignored from the drop on.
abbrev pub life_of : Bool → Place → Option ℕ → Lifecycle Outcome
life_of true place task = Ignored
life_of false place task = owned_life place task

-- The life of an operation's slot.
abbrev pub life_at : Operation → Lifecycle Outcome
life_at operation = life_of operation.dropped operation.place operation.task

-- An operation is queued or in flight: it wasn't executed.
abbrev pub is_early : Place → Bool
is_early InQueue = true
is_early InFlight = true
is_early _ = false

-- A slot holds an operation that isn't finished: its number, its request with what the operation holds now, and its stage of life.
-- Until the operation is executed it holds what was submitted, and while it is queued no cancel of it was taken.
pub record SlotFor {B : Type 0} (buffer : B → Buffer) (ops : List Operation) (slot : Slot B) : Type 0 where
  pub operation : Operation
  pub there : slice_get ops slot.serial ≡ Some operation
  pub live : is_live operation ≡ true
  pub request : IsHolding operation.request operation.buffer (plain_request buffer slot.request)
  pub life : slot.life ≡ life_at operation
  pub fresh : is_early operation.place ≡ true → operation.buffer ≡ held_of operation.request
  pub uncanceled : operation.place ≡ InQueue → operation.canceled ≡ false

-- A live slot has a number.
pub record HasSlot {B : Type 0} (slots : map.FinMap nat_cmp (Slot B)) (number : ℕ) : Type 0 where
  pub key : ℕ
  pub slot : Slot B
  pub there : map.get slots key ≡ Some slot
  pub serial : slot.serial ≡ number

-- Each operation that isn't gone has exactly one live slot, and each live slot is one of these. No key is a reserved word.
pub record SlotsStand {B : Type 0} (buffer : B → Buffer) (slots : map.FinMap nat_cmp (Slot B)) (ops : List Operation) : Type 0 where
  pub holds : (key : ℕ) (slot : Slot B) → map.get slots key ≡ Some slot → SlotFor buffer ops slot
  pub one : (k j : ℕ) (s t : Slot B) → map.get slots k ≡ Some s → map.get slots j ≡ Some t → s.serial ≡ t.serial → k ≡ j
  pub each : (number : ℕ) (operation : Operation) → slice_get ops number ≡ Some operation → is_live operation ≡ true → HasSlot slots number
  pub counted : map.len slots ≡ length (numbers_where is_live 0 ops)
  pub below : (key : ℕ) (slot : Slot B) → map.get slots key ≡ Some slot → key < MAX_LIVE
