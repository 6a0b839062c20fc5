-- When operations in slots are those of a driver as plain data, and what a poll of one does. Cited by `poll`.
use Rattle.std.specs.Prelude.{ℕ, ◌≡◌, Bool, true, false, List, [], ◌∷◌, ◌++◌, length, Option, option_map, Some, Result, Ok, Err}
use Rattle.std.specs.Ordering.{nat_cmp}
use Rattle.std.specs.FinMap as map
use Rattle.rent_buf.specs.Buffer.{Buffer}
use Rattle.rent_buf.specs.Parts.{Parts}
use Rattle.rent_buf.specs.Counts.{Rose}
use Rattle.rent_buf.specs.declared.fault.OutOfMemory.{OutOfMemory}
use Rattle.op_slots.specs.declared.lifecycle.Lifecycle.{Lifecycle}
use Rattle.op_slots.specs.declared.lifecycle.Lifecycle.TheVariants.{Submitted, Waiting, Ignored, Completed}
use Rattle.machine.specs.declared.request.TheConstants.{CANCELED}
use Rattle.machine.specs.declared.request.Outcome.{Outcome}
use Rattle.machine.specs.declared.request.Request.{Request}
use Rattle.machine.specs.declared.request.Outcome.TheVariants.{Fail}
use Rattle.machine.specs.declared.world.HandleState.{HandleState}
use Rattle.machine.specs.declared.ledger.Reply.TheVariants.{Pending as Waits, Handed}
use Rattle.machine.specs.Lists.{amended}
use Rattle.machine.specs.Request.{plain_request, held_of}
use Rattle.driver_core.specs.declared.op.Op.{Op}
use Rattle.driver_core.specs.declared.op.PollOp.{PollOp}
use Rattle.driver_core.specs.declared.op.PollOp.TheVariants.{Pending, Ready}
use Rattle.driver_core.specs.declared.slot.Slot.{Slot}
use Rattle.driver_core.specs.Ops.{Ops}
use Rattle.driver_core.specs.Slots.{HasSlot}
use Rattle.ready_driver.specs.Io.{IoView}
use Rattle.ready_driver.specs.Legacy.{LegacyOp, Legacy, slot_at}
use Rattle.ready_driver.specs.LegacyStep.{poll_slot, with_ask, new_op}

-- The life of a slot whose operation's cancel is asked for: it is completed with the error of a cancel, and is returned at its next poll.
-- Else it waits for its call.
abbrev pub LifeFor : Bool → Lifecycle Outcome → Type 0
LifeFor true life = life ≡ Completed (Fail CANCELED)
LifeFor false Submitted = Unit {0}
LifeFor false (Waiting task) = Unit {0}
LifeFor false Ignored = ⊥
LifeFor false (Completed outcome) = ⊥

-- A slot is that of the driver's operation of its number.
pub record SlotFor {B : Type 0} (buffer : B → Buffer) (D : Legacy) (slot : Slot B) : Type 0 where
  pub op : LegacyOp
  pub there : slot_at D slot.serial ≡ Some op
  pub request : plain_request buffer slot.request ≡ op.request
  pub life : LifeFor op.asked slot.life

-- Slots are those of a driver's operations: each operation has exactly one slot, and each slot is one of these.
pub record SlotsStand {B : Type 0} (buffer : B → Buffer) (slots : map.FinMap nat_cmp (Slot B)) (D : Legacy) : Type 0 where
  pub holds : (key : ℕ) (slot : Slot B) → map.get slots key ≡ Some slot → SlotFor buffer D slot
  pub one : (k j : ℕ) (s t : Slot B) → map.get slots k ≡ Some s → map.get slots j ≡ Some t → s.serial ≡ t.serial → k ≡ j
  pub each : (number : ℕ) (op : LegacyOp) → slot_at D number ≡ Some op → HasSlot slots number

-- Operations are those of a driver: the next one has the next number, and each has its slot.
pub record OpsStand {B : Type 0} (buffer : B → Buffer) (ops : Ops B) (D : Legacy) : Type 0 where
  pub given : ops.given ≡ length D.slots
  pub slots : SlotsStand buffer ops.slots.values D

-- Operations and handles are those of a driver.
pub record PartsStand {B : Type 0} (buffer : B → Buffer) (ops : Ops B) (world : List HandleState) (D : Legacy) : Type 0 where
  pub operations : OpsStand buffer ops D
  pub handles : world ≡ D.world

-- What a poll of an operation answers and leaves, by the poll of the driver: it is Pending where the driver waits, and else returns the
-- outcome and what the request holds. Where memory runs out nothing changes.
abbrev pub PollsFor : {B : Type 0} → (B → Buffer) → Legacy → Op → Ops B → List HandleState → Result (PollOp B) (OutOfMemory × Op) → Type 0
PollsFor buffer D op ops world (Ok (Pending back)) =
    (back ≡ op) × (poll_slot D op.number (slot_at D op.number) ≡ (D, Waits)) × PartsStand buffer ops world D
PollsFor buffer D op ops world (Ok (Ready done)) =
    ((poll_slot D op.number (slot_at D op.number)).1 ≡ Handed done.outcome (held_of (plain_request buffer done.request)))
    × PartsStand buffer ops world (poll_slot D op.number (slot_at D op.number)).0
PollsFor buffer D op ops world (Err error) = (error.1 ≡ op) × PartsStand buffer ops world D

-- A poll is Pending only where the count of calls that would have blocked rose.
abbrev pub BlocksFor : {B : Type 0} → IoView → IoView → Result (PollOp B) (OutOfMemory × Op) → Type 0
BlocksFor old new (Ok (Pending back)) = Rose old.blocks new.blocks
BlocksFor old new (Ok (Ready done)) = Unit {0}
BlocksFor old new (Err error) = Unit {0}

-- A poll is Pending.
abbrev pub IsPending : {B : Type 0} → Result (PollOp B) (OutOfMemory × Op) → Type 0
IsPending (Ok (Pending back)) = Unit {0}
IsPending (Ok (Ready done)) = ⊥
IsPending (Err error) = ⊥

-- The driver once the cancel of an operation is asked for.
abbrev pub asked_at : Legacy → ℕ → Legacy
asked_at D n = record D { slots = amended D.slots n (option_map with_ask) }

-- The driver with a new operation of the next number.
abbrev pub joined_at : Legacy → Request Buffer Parts → Option ℕ → Legacy
joined_at D request group = record D { slots = D.slots ++ Some (new_op request group) ∷ [] }
