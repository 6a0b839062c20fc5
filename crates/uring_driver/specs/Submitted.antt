-- What a submission answers.
use Rattle.std.specs.Prelude.{ℕ, ◌≡◌, ◌+◌, ◌<◌, ◌≤◌, Bool, IsTrue, List, [], ◌∷◌, Option, Result, Ok, Err, length}
use Rattle.std.specs.FinMap as map
use Rattle.rent_buf.specs.Buffer.{Buffer}
use Rattle.rent_buf.specs.Parts.{Parts}
use Rattle.op_slots.specs.Slots.{Slots}
use Rattle.op_slots.specs.declared.slab.TheConstants.{MAX_LIVE}
use Rattle.machine.specs.declared.request.Request.{Request}
use Rattle.machine.specs.Counts.{Rose}
use Rattle.ring_core.specs.declared.entry.Entry.{Entry}
use Rattle.machine.specs.Request.{named, makes, call_of, plain_request}
use Rattle.machine.specs.Ledger.{Ledger}
use Rattle.ring_core.specs.Ring.{RingView}
use Rattle.driver_core.specs.declared.op.Op.{Op as Token}
use Rattle.driver_core.specs.declared.op.Submitted.{Submitted}
use Rattle.driver_core.specs.declared.op.Submitted.TheVariants.{Op, Canceled}
use Rattle.driver_core.specs.declared.op.SubmitError.{SubmitError}
use Rattle.driver_core.specs.declared.op.SubmitFault.{SubmitFault}
use Rattle.driver_core.specs.declared.op.SubmitFault.TheVariants.{Full, RingFault, Busy, Os, OutOfMemory}
use Rattle.driver_core.specs.declared.slot.Slot.{Slot}
use Rattle.uring_driver.specs.declared.uring.IoUringDriver.{IoUringDriver}
use Rattle.uring_driver.specs.Uring.{ring_in, due_in, pending}
use Rattle.driver_core.specs.Answers.{SubmitsFor as SubmitsBy}
use Rattle.driver_core.specs.Groups.{joins_if}
use Rattle.uring_driver.specs.Holding.{Holding}
use Rattle.uring_driver.specs.Making.{KeepsHolding, op_joined}
use Rattle.driver_core.specs.Op.{AddsToken as AddsTokenIn}
use Rattle.uring_driver.specs.Op.{ops_in, call_for, HasRequest, KeepsTokens}
use Rattle.uring_driver.specs.Pending.{Pending}
use Rattle.uring_driver.specs.Submissions.{IsSameButRoom, PendingMoves, MustEnter}
use Rattle.uring_driver.specs.Stands.{Stands}

-- A submission, linked or not, got the machine's next number; under a canceled group what its request holds comes back, as the machine's
-- reply has it.
abbrev pub SubmitsFor : {R B : Type 0} → (R → RingView) → (B → Buffer) → Bool → Ledger → Request B Parts → Option ℕ →
    IoUringDriver R B → Submitted B → Type 0
SubmitsFor view buffer linked L request handle new submitted = SubmitsBy (Stands view buffer) buffer linked L request handle new submitted

-- The driver holds the new token beside those that it held, and no other.
abbrev pub AddsTo : {R B : Type 0} → IoUringDriver R B → IoUringDriver R B → Token → Type 0
AddsTo old new op = AddsTokenIn (ops_in old) (ops_in new) op

-- So it does after a submission. Under a canceled group it holds the tokens that it held.
abbrev pub AddsToken : {R B : Type 0} → IoUringDriver R B → IoUringDriver R B → Submitted B → Type 0
AddsToken old new (Op op) = AddsTo old new op
AddsToken old new (Canceled back) = KeepsTokens old new

-- The new token's operation has the request that was submitted, with what it holds. Under a canceled group that request comes back.
abbrev pub GivesRequest : {R B : Type 0} → IoUringDriver R B → Submitted B → Request B Parts → Type 0
GivesRequest new (Op op) request = HasRequest new op request
GivesRequest new (Canceled back) request = back ≡ request

-- Who holds handles after the submission of a request: memory was reserved first, where it may make a handle.
pub record JoinsHandles {B : Type 0} (request : Request B Parts) (old new : Holding) : Type 0 where
  pub mid : Holding
  pub ready : KeepsHolding (makes request) old mid
  pub joined : new ≡ op_joined mid (named request) (makes request)

-- The new operation holds each handle that its request names, and is a member of its group. Under a canceled group nothing changes.
abbrev pub JoinsFor : {R B : Type 0} → IoUringDriver R B → IoUringDriver R B → Request B Parts → Option ℕ → Submitted B → Type 0
JoinsFor old new request under (Op op) =
    JoinsHandles request old.holding new.holding × (new.members ≡ joins_if old.members under op.number op.key)
JoinsFor old new request under (Canceled back) = new ≡ old

-- The new entry, linked or not, joined what is pending, after a prefix of it was entered. A refused submission, and one under a canceled
-- group, joined nothing.
abbrev pub SubmitMoves : {R B : Type 0} → (R → RingView) → (B → Buffer) → Bool → Request B Parts →
    IoUringDriver R B → IoUringDriver R B → Result (Submitted B) (SubmitError B) → Type 0
SubmitMoves view buffer linked request old new (Ok (Op op)) =
    PendingMoves (pending view old) (pending view new) (call_for op linked (call_of (plain_request buffer request)) ∷ [])
SubmitMoves view buffer linked request old new (Ok (Canceled back)) = PendingMoves (pending view old) (pending view new) []
SubmitMoves view buffer linked request old new (Err refused) = PendingMoves (pending view old) (pending view new) []

-- The request came back, since its group is canceled.
abbrev pub IsCanceled : {B : Type 0} → Result (Submitted B) (SubmitError B) → Type 0
IsCanceled (Ok (Op op)) = ⊥
IsCanceled (Ok (Canceled back)) = Unit {0}
IsCanceled (Err refused) = ⊥

-- The submission was refused as Full.
abbrev pub IsFullError : {B : Type 0} → Result (Submitted B) (SubmitError B) → Type 0
IsFullError (Ok submitted) = ⊥
IsFullError (Err refused) = refused.why ≡ Full

-- The operations of a driver and its cancel groups are as before; its ring and its handles may have changed.
pub record SameOps {R B : Type 0} (old new : IoUringDriver R B) : Type 0 where
  pub slots : new.slots ≡ old.slots
  pub given : new.given ≡ old.given
  pub members : new.members ≡ old.members

-- The slots, the count, the handles and the cancel groups of a driver are as before; its ring may have changed.
pub record SameSlots {R B : Type 0} (old new : IoUringDriver R B) : Type 0 where
  pub slots : new.slots.values ≡ old.slots.values
  pub given : new.given ≡ old.given
  pub holding : new.holding ≡ old.holding
  pub members : new.members ≡ old.members

-- The same, but for memory that was reserved for a request that may make a handle.
pub record SameForRequest {R B : Type 0} (request : Request B Parts) (old new : IoUringDriver R B) : Type 0 where
  pub slots : new.slots.values ≡ old.slots.values
  pub given : new.given ≡ old.given
  pub holding : KeepsHolding (makes request) old.holding new.holding
  pub members : new.members ≡ old.members

-- Why a submission was refused, and what it left of the ring. Full: the driver is the same. A fault of the ring: that count rose,
-- since the queue was full or an entry was due, and a prefix of what is pending may have been entered; a steady ring has none.
-- OutOfMemory: the driver stands for what it stood for. Os comes of no ring.
abbrev pub WhyRefused : {R B : Type 0} → (R → RingView) → (B → Buffer) → Bool → IoUringDriver R B → IoUringDriver R B → SubmitFault → Type 0
WhyRefused view buffer steady old new Full = new ≡ old
WhyRefused view buffer steady old new RingFault =
    Rose (view (ring_in old)).faults (view (ring_in new)).faults × (IsTrue steady → ⊥) × MustEnter view old.ring
WhyRefused view buffer steady old new Busy =
    Rose (view (ring_in old)).busies (view (ring_in new)).busies × (IsTrue steady → ⊥) × MustEnter view old.ring
WhyRefused view buffer steady old new (Os code) = ⊥
WhyRefused view buffer steady old new OutOfMemory = (L : Ledger) → Stands view buffer old L → Stands view buffer new L

-- A refused submission hands its request back, and leaves slots and counts.
pub record SubmitRefused {R B : Type 0} (view : R → RingView) (buffer : B → Buffer) (steady : Bool)
    (request : Request B Parts) (old new : IoUringDriver R B) (refused : SubmitError B) : Type 0 where
  pub back : refused.request ≡ request
  pub same : SameForRequest request old new
  pub why : WhyRefused view buffer steady old new refused.why

-- Two drivers have the same ring, but for reserved memory, and the same due entries.
pub record IsSameRing {R B : Type 0} (view : R → RingView) (old new : IoUringDriver R B) : Type 0 where
  pub ring : IsSameButRoom (view (ring_in old)) (view (ring_in new))
  pub due : due_in new ≡ due_in old

-- The memory of a submission is taken, with that of one cancel for each slot and for the new one, and of one close for each handle that is
-- held or may be made, so many in all; nothing is due, and the queue has room.
pub record IsPrepared {B : Type 0} (view : RingView) (due : List Entry) (room : ℕ) (slots : Slots (Slot B)) (handles : ℕ) : Type 0 where
  pub few : map.len slots.values < MAX_LIVE
  pub slot : 0 < slots.room
  pub spare : map.len slots.values + handles + 2 ≤ room
  pub none_due : due ≡ []
  pub queue : length view.queue < view.capacity

-- Memory was reserved at most.
pub record OnlyReserved {R : Type 0} (view : R → RingView) (old new : Pending R) : Type 0 where
  pub ring : IsSameButRoom (view old.ring) (view new.ring)
  pub due : new.due ≡ old.due
  pub room : old.room ≤ new.room

-- Why the memory or the ring's room of a submission isn't there. Nothing changed but reserved memory, and at a fault of the ring what it
-- took. Whether there is a slot is asked before.
abbrev pub Unprepared : {R : Type 0} → (R → RingView) → Bool → Pending R → Pending R → SubmitFault → Type 0
Unprepared view steady old new Full = ⊥
Unprepared view steady old new RingFault = Rose (view old.ring).faults (view new.ring).faults × (IsTrue steady → ⊥) × MustEnter view old
Unprepared view steady old new Busy = Rose (view old.ring).busies (view new.ring).busies × (IsTrue steady → ⊥) × MustEnter view old
Unprepared view steady old new (Os code) = ⊥
Unprepared view steady old new OutOfMemory = OnlyReserved view old new

-- Why a submission can't be made: all slots are live, and nothing changed; or as above.
abbrev pub CannotSubmit : {R : Type 0} {B : Type 0} → (R → RingView) → Bool → Pending R → Pending R → Slots (Slot B) → Slots (Slot B) →
    SubmitFault → Type 0
CannotSubmit view steady old new slots slots' Full = (map.len slots.values ≡ MAX_LIVE) × (new ≡ old) × (slots' ≡ slots)
CannotSubmit view steady old new slots slots' RingFault = (map.len slots.values < MAX_LIVE) × Unprepared view steady old new RingFault
CannotSubmit view steady old new slots slots' Busy = (map.len slots.values < MAX_LIVE) × Unprepared view steady old new Busy
CannotSubmit view steady old new slots slots' (Os code) = ⊥
CannotSubmit view steady old new slots slots' OutOfMemory = (map.len slots.values < MAX_LIVE) × Unprepared view steady old new OutOfMemory
