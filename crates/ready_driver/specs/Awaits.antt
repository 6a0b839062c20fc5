-- What an operation waits for, and what its poll does where it makes the call only once that is reported. Cited by `waits`.
use Rattle.std.specs.Prelude.{ℕ, ◌≡◌, ◌⊎◌, Bool, true, false, if◌then◌else◌, List, Option, Some, None, Result, Ok, Err}
use Rattle.rent_buf.specs.Buffer.{Buffer}
use Rattle.rent_buf.specs.Counts.{Rose}
use Rattle.rent_buf.specs.declared.fault.OutOfMemory.{OutOfMemory}
use Rattle.machine.specs.declared.request.Request.{Request}
use Rattle.machine.specs.declared.request.Request.TheVariants.{Recv, ReadVec, Send, WriteVec, RecvMsg, SendMsg, Read, Write}
use Rattle.machine.specs.declared.request.Request.TheVariants.{SpliceTo, SpliceFrom, Accept, PollAdd}
use Rattle.machine.specs.declared.world.HandleState.{HandleState}
use Rattle.machine.specs.declared.ledger.Reply.TheVariants.{Pending as Waits}
use Rattle.machine.specs.Attempt.{is_file_at}
use Rattle.machine.specs.Effect.{made_by}
use Rattle.driver_core.specs.declared.op.Op.{Op}
use Rattle.driver_core.specs.declared.op.PollOp.{PollOp}
use Rattle.driver_core.specs.declared.op.PollOp.TheVariants.{Pending, Ready}
use Rattle.driver_core.specs.declared.slot.Slot.{Slot}
use Rattle.driver_core.specs.Slot.{is_flying}
use Rattle.driver_core.specs.Ops.{Ops}
use Rattle.driver_core.specs.Op.{PollsTokens, KeepsTokens}
use Rattle.ready_driver.specs.declared.ready.Direction.{Direction}
use Rattle.ready_driver.specs.declared.ready.Direction.TheVariants as towards
use Rattle.ready_driver.specs.declared.scheduled_io.Waiter.{Waiter}
use Rattle.ready_driver.specs.Ready.{meets, mask_of, without}
use Rattle.ready_driver.specs.ScheduledIo.{Scheduled, entry_of, kept, forgotten}
use Rattle.ready_driver.specs.Records.{Kept, io_at, changed, with_io}
use Rattle.ready_driver.specs.Io.{IoView}
use Rattle.ready_driver.specs.Reports.{with_made_key}
use Rattle.ready_driver.specs.Legacy.{Legacy, slot_at}
use Rattle.ready_driver.specs.LegacyStep.{poll_slot}
use Rattle.ready_driver.specs.Polling.{PartsStand, PollsFor}

-- The handle that a request waits for, and the direction; None for one that waits for none. On a file no request waits.
abbrev pub awaits : {B V : Type 0} → Request B V → Option (ℕ × Direction)
awaits (Recv fd buf) = Some (fd, towards.Read)
awaits (ReadVec fd parts) = Some (fd, towards.Read)
awaits (RecvMsg fd buf) = Some (fd, towards.Read)
awaits (Read fd pos buf) = Some (fd, towards.Read)
awaits (SpliceTo fd pipe len) = Some (fd, towards.Read)
awaits (Accept fd) = Some (fd, towards.Read)
awaits (PollAdd fd true) = Some (fd, towards.Read)
awaits (Send fd buf) = Some (fd, towards.Write)
awaits (WriteVec fd parts) = Some (fd, towards.Write)
awaits (SendMsg fd addr buf) = Some (fd, towards.Write)
awaits (Write fd pos buf) = Some (fd, towards.Write)
awaits (SpliceFrom pipe fd len) = Some (fd, towards.Write)
awaits (PollAdd fd false) = Some (fd, towards.Write)
awaits _ = None

-- What a request waits for, while its operation is in flight.
abbrev pub awaits_if : {B V : Type 0} → Bool → Request B V → Option (ℕ × Direction)
awaits_if true request = awaits request
awaits_if false request = None

-- What the operation of the slot that was looked up waits for.
abbrev pub slot_awaits : {B : Type 0} → Option (Slot B) → Option (ℕ × Direction)
slot_awaits None = None
slot_awaits (Some slot) = awaits_if (is_flying slot.life) slot.request

-- No bit of a handle meets a direction.
abbrev pub IsUnmet : Kept → ℕ → Direction → Type 0
IsUnmet kept h dir = meets (io_at kept h).ready (mask_of dir) ≡ false

-- A poll may call: nothing is awaited, or a bit of the handle meets the direction.
abbrev pub is_met_at : Kept → Option (ℕ × Direction) → Bool
is_met_at kept None = true
is_met_at kept (Some (h, dir)) = meets (io_at kept h).ready (mask_of dir)

-- What is awaited is a direction that no bit of its handle meets.
pub record IsUnmetAt (kept : Kept) (awaited : Option (ℕ × Direction)) : Type 0 where
  pub handle : ℕ
  pub direction : Direction
  pub awaited_is : awaited ≡ Some (handle, direction)
  pub unmet : IsUnmet kept handle direction

-- An operation waits for a direction that no bit of its handle meets.
abbrev pub IsSlotUnmet : {B : Type 0} → Kept → Option (Slot B) → Type 0
IsSlotUnmet kept slot = IsUnmetAt kept (slot_awaits slot)

-- What an operation waits for, where the handle isn't a file.
abbrev pub unless : (ℕ → Bool) → Option (ℕ × Direction) → Option (ℕ × Direction)
unless is_file None = None
unless is_file (Some (h, dir)) = if is_file h then None else Some (h, dir)

-- The same, where the handle isn't a file of a world.
abbrev pub unless_file : List HandleState → Option (ℕ × Direction) → Option (ℕ × Direction)
unless_file world awaited = unless (is_file_at world) awaited

-- The same over a world in memory, where an operation on a file waits for nothing.
abbrev pub IsWorldUnmet : {B : Type 0} → Kept → List HandleState → Option (Slot B) → Type 0
IsWorldUnmet kept world slot = IsUnmetAt kept (unless_file world (slot_awaits slot))

-- What a poll answers and leaves over a world in memory: what the driver as plain data does, but that it may also be Pending where no bit
-- meets the direction.
abbrev pub PollsUnless : {B : Type 0} → Type 0 → (B → Buffer) → Legacy → Op → Ops B → List HandleState →
    Result (PollOp B) (OutOfMemory × Op) → Type 0
PollsUnless unmet buffer D op ops world (Ok (Pending back)) =
    (back ≡ op) × (unmet ⊎ (poll_slot D op.number (slot_at D op.number) ≡ (D, Waits))) × PartsStand buffer ops world D
PollsUnless unmet buffer D op ops world (Ok (Ready done)) = PollsFor buffer D op ops world (Ok (Ready done))
PollsUnless unmet buffer D op ops world (Err error) = PollsFor buffer D op ops world (Err error)

-- A poll is Pending only where no bit meets the direction, or the count of calls that would have blocked rose.
abbrev pub BlocksUnless : {B : Type 0} → Type 0 → IoView → IoView → Result (PollOp B) (OutOfMemory × Op) → Type 0
BlocksUnless unmet old new (Ok (Pending back)) = unmet ⊎ Rose old.blocks new.blocks
BlocksUnless unmet old new (Ok (Ready done)) = Unit {0}
BlocksUnless unmet old new (Err error) = Unit {0}

-- The bits without those of a direction.
abbrev pub without_bits : Direction → Scheduled → Scheduled
without_bits dir io = record io { ready = without io.ready (mask_of dir) }

-- An operation waits with this entry.
abbrev pub with_waiter : Waiter → Scheduled → Scheduled
with_waiter entry io = record io { waiting = kept io.waiting entry }

-- An operation waits no longer.
abbrev pub without_waiter : ℕ → Scheduled → Scheduled
without_waiter serial io = record io { waiting = forgotten io.waiting serial }

-- What a poll by the bits of a handle leaves of these and of what waits, by whether a bit meets the direction of its operation's entry.
-- Where none does the operation waits. Else its call is made: one that would block clears the bits of the direction, and the operation
-- waits; one that ended leaves the bits, and the operation waits no longer. Where memory ran out nothing changes.
abbrev pub LeavesIo : {B : Type 0} → Bool → Scheduled → Waiter → Scheduled → Result (PollOp B) (OutOfMemory × Op) → Type 0
LeavesIo false old entry new (Ok (Pending back)) = new ≡ with_waiter entry old
LeavesIo false old entry new (Ok (Ready done)) = ⊥
LeavesIo false old entry new (Err error) = new ≡ old
LeavesIo true old entry new (Ok (Pending back)) = new ≡ with_waiter entry (without_bits entry.direction old)
LeavesIo true old entry new (Ok (Ready done)) = new ≡ without_waiter entry.serial old
LeavesIo true old entry new (Err error) = new ≡ old

-- The same of the records, where only that of the handle changes.
abbrev pub LeavesIf : {B : Type 0} → Bool → Kept → ℕ → Waiter → Kept → Result (PollOp B) (OutOfMemory × Op) → Type 0
LeavesIf false old h entry new (Ok (Pending back)) = new ≡ changed old h (with_io (with_waiter entry))
LeavesIf false old h entry new (Ok (Ready done)) = ⊥
LeavesIf false old h entry new (Err error) = new ≡ old
LeavesIf true old h entry new (Ok (Pending back)) =
    new ≡ changed old h (with_io (λ io. with_waiter entry (without_bits entry.direction io)))
LeavesIf true old h entry new (Ok (Ready done)) = new ≡ changed old h (with_io (without_waiter entry.serial))
LeavesIf true old h entry new (Err error) = new ≡ old

abbrev pub Leaves : {B : Type 0} → Kept → ℕ → Waiter → Kept → Result (PollOp B) (OutOfMemory × Op) → Type 0
Leaves old h entry new result = LeavesIf (meets (io_at old h).ready (mask_of entry.direction)) old h entry new result

-- What a poll leaves of the records, by what its operation waits for: nothing changes where that is nothing.
abbrev pub LeavesFor : {B : Type 0} → Option (ℕ × Direction) → Kept → ℕ → ℕ → Kept → Result (PollOp B) (OutOfMemory × Op) → Type 0
LeavesFor None old serial task new result = new ≡ old
LeavesFor (Some (h, dir)) old serial task new result = Leaves old h (entry_of serial task dir) new result

-- The keys of a world in memory after a poll: a handle that the poll made isn't registered yet.
abbrev pub KeysFor : {B : Type 0} → List (Option ℕ) → List (Option ℕ) → Result (PollOp B) (OutOfMemory × Op) → Type 0
KeysFor old new (Ok (Pending back)) = new ≡ old
KeysFor old new (Ok (Ready done)) = new ≡ with_made_key (made_by done.outcome) old
KeysFor old new (Err error) = new ≡ old

-- Which tokens a poll keeps: all but that of an operation that it returns.
abbrev pub TokensFor : {B : Type 0} → Ops B → Ops B → Op → Result (PollOp B) (OutOfMemory × Op) → Type 0
TokensFor old new op (Ok answer) = PollsTokens old new op answer
TokensFor old new op (Err error) = (error.1 ≡ op) × KeepsTokens old new
