-- What the calls of a readiness driver do over every object. Cited by `LegacyDriver`.
use Rattle.std.specs.Prelude.{ℕ, ◌≡◌, ◌<◌, ◌++◌, Bool, IsTrue, List, [], ◌∷◌, option_to_list}
use Rattle.std.specs.Prelude.{Option, None, Some, Result, Ok, Err, option_map}
use Rattle.std.specs.Ordering.{nat_cmp}
use Rattle.std.specs.FinMap as map
use Rattle.rent_buf.specs.Counts.{Rose}
use Rattle.rent_buf.specs.Parts.{Parts}
use Rattle.op_slots.specs.declared.slab.TheConstants.{MAX_LIVE}
use Rattle.machine.specs.declared.request.Request.{Request}
use Rattle.machine.specs.Request.{named}
use Rattle.driver_core.specs.declared.op.Op.{Op as Token}
use Rattle.driver_core.specs.declared.op.SubmitError.{SubmitError}
use Rattle.driver_core.specs.declared.op.SubmitFault.{SubmitFault}
use Rattle.driver_core.specs.declared.op.SubmitFault.TheVariants.{Full, RingFault, Busy, Os, OutOfMemory}
use Rattle.driver_core.specs.declared.op.Submitted.{Submitted}
use Rattle.driver_core.specs.declared.op.Submitted.TheVariants.{Op, Canceled}
use Rattle.driver_core.specs.declared.slot.Slot.{Slot}
use Rattle.driver_core.specs.Groups.{joins_if}
use Rattle.driver_core.specs.Holds.{with_ops}
use Rattle.driver_core.specs.Members.{Membership, key_at}
use Rattle.driver_core.specs.Op.{AddsToken as AddsTokenIn}
use Rattle.driver_core.specs.Operations.{new_slot}
use Rattle.ready_driver.specs.declared.ready.Direction.{Direction}
use Rattle.ready_driver.specs.Awaits.{slot_awaits, without_waiter}
use Rattle.ready_driver.specs.Io.{IoView}
use Rattle.ready_driver.specs.LegacyState.{LegacyState, ops_in, live_slots, HasRequest, KeepsTokens, SameOps}
use Rattle.ready_driver.specs.Named.{task_of, canceled_slots}
use Rattle.ready_driver.specs.Records.{Kept, io_at, changed, with_io}
use Rattle.ready_driver.specs.Registry.{Handling, MakesReady}
use Rattle.ready_driver.specs.ScheduledIo.{waiter_of}

-- The driver holds the new token beside those that it held. Under a canceled group it holds those that it held.
abbrev pub AddsToken : {I B : Type 0} → LegacyState I B → LegacyState I B → Submitted B → Type 0
AddsToken old new (Op op) = AddsTokenIn (ops_in old) (ops_in new) op
AddsToken old new (Canceled back) = KeepsTokens old new

-- The new token's operation has the request that was submitted. Under a canceled group that request comes back.
abbrev pub GivesRequest : {I B : Type 0} → LegacyState I B → Submitted B → Request B Parts → Type 0
GivesRequest new (Op op) request = HasRequest new op request
GivesRequest new (Canceled back) request = back ≡ request

-- A new operation: each handle that its request names is registered, and the operation holds it; it has a new slot, and is a member of its
-- group.
pub record JoinsOp {I B : Type 0} (view : I → IoView) (tells memory : Bool) (old new : LegacyState I B) (request : Request B Parts)
    (under : Option ℕ) (op : Token) : Type 0 where
  pub mid : Handling I
  pub ready : MakesReady view tells memory old.handling (named request) mid
  pub handling : new.handling ≡ record mid { table = with_ops mid.table (named request) }
  pub slots : new.slots.values ≡ map.insert old.slots.values op.key (new_slot (ops_in old) request)
  pub members : new.members ≡ joins_if old.members under op.number op.key
  pub asked : new.asked ≡ old.asked
  pub untreated : new.untreated ≡ old.untreated

-- So it is after a submission. Under a canceled group nothing changes.
abbrev pub JoinsFor : {I B : Type 0} → (I → IoView) → Bool → Bool → LegacyState I B → LegacyState I B → Request B Parts → Option ℕ →
    Submitted B → Type 0
JoinsFor view tells memory old new request under (Op op) = JoinsOp view tells memory old new request under op
JoinsFor view tells memory old new request under (Canceled back) = new ≡ old

-- The request came back, since its group is canceled.
abbrev pub IsCanceled : {B : Type 0} → Result (Submitted B) (SubmitError B) → Type 0
IsCanceled (Ok (Op op)) = ⊥
IsCanceled (Ok (Canceled back)) = Unit {0}
IsCanceled (Err refused) = ⊥

-- The submission was refused as Full.
abbrev pub IsFullError : {B : Type 0} → Result (Submitted B) (SubmitError B) → Type 0
IsFullError (Ok submitted) = ⊥
IsFullError (Err refused) = refused.why ≡ Full

-- Why a submission was refused, of which so many slots were live: all. Or a handle wasn't registered and was refused again: the object's
-- count of faults rose, and it shows the number; a world in memory refuses none. Where memory ran out no fault was counted. A readiness
-- driver has no ring.
abbrev pub WhyRefused : {I : Type 0} → (I → IoView) → Bool → Handling I → Handling I → ℕ → SubmitFault → Type 0
WhyRefused view memory old new live Full = (live ≡ MAX_LIVE) × (new ≡ old)
WhyRefused view memory old new live RingFault = ⊥
WhyRefused view memory old new live Busy = ⊥
WhyRefused view memory old new live (Os code) =
    (live < MAX_LIVE) × Rose (view old.io).faults (view new.io).faults × (IsTrue memory → ⊥) × ((view new.io).last_fault ≡ code)
WhyRefused view memory old new live OutOfMemory = (live < MAX_LIVE) × ((view new.io).faults ≡ (view old.io).faults)

-- The handles once a submission that names some was refused: the first ones of these are registered.
pub record Unready {I : Type 0} (view : I → IoView) (tells memory : Bool) (old : Handling I) (handles : List ℕ) (new : Handling I) : Type 0
  where
    pub front : List ℕ
    pub rest : List ℕ
    pub parts : handles ≡ front ++ rest
    pub made : MakesReady view tells memory old front new

-- A refused submission returns its request. But for memory, and for handles that are registered from now on, nothing has changed.
pub record SubmitRefused {I B : Type 0} (view : I → IoView) (tells memory : Bool) (request : Request B Parts) (old new : LegacyState I B)
    (refused : SubmitError B) : Type 0 where
  pub back : refused.request ≡ request
  pub same : SameOps old new
  pub handles : Unready view tells memory old.handling (named request) new.handling
  pub why : WhyRefused view memory old.handling new.handling (live_slots old) refused.why

-- The task of an operation that waits: that of its waiting entry, where it waits for a handle, and else the one that polled it last.
abbrev pub task_for : Kept → ℕ → Option (ℕ × Direction) → Option ℕ → Option ℕ
task_for records number None task = task
task_for records number (Some (h, dir)) task = option_map (λ w. w.task) (waiter_of (io_at records h).waiting number)

abbrev pub waiting_task : {B : Type 0} → Kept → ℕ → Option (Slot B) → Option ℕ
waiting_task records number slot = task_for records number (slot_awaits slot) (task_of slot)

-- The records once an operation waits no longer.
abbrev pub unwaiting : Kept → ℕ → Option (ℕ × Direction) → Kept
unwaiting records number None = records
unwaiting records number (Some (h, dir)) = changed records h (with_io (without_waiter number))

-- The handles once an operation waits no longer.
abbrev pub unwaited : {I B : Type 0} → Handling I → ℕ → Option (Slot B) → Handling I
unwaited handling number slot = record handling { records = unwaiting handling.records number (slot_awaits slot) }

-- What asking for cancels changes: the handles, the slots, and the tasks that the next turn names.
pub record Asking (I B : Type 0) : Type 0 where
  pub handling : Handling I
  pub slots : map.FinMap nat_cmp (Slot B)
  pub asked : List ℕ

-- The cancel of an operation whose slot is at a key is asked for: it waits no longer, and its task, if it waits, is named.
abbrev pub asks_at : {I B : Type 0} → Asking I B → ℕ → ℕ → Asking I B
asks_at a number key = record {
  handling = unwaited a.handling number (map.get a.slots key);
  slots = canceled_slots a.slots key;
  asked = a.asked ++ option_to_list (waiting_task a.handling.records number (map.get a.slots key));
}

-- The same of an operation that is under a group, by the key of its place.
abbrev pub asks_in : {I B : Type 0} → Asking I B → ℕ → Option ℕ → Asking I B
asks_in a number None = a
asks_in a number (Some key) = asks_at a number key

-- The cancels of operations that are under groups are asked for, in order.
abbrev pub asks_each : {I B : Type 0} → Membership → Asking I B → List ℕ → Asking I B
asks_each m a [] = a
asks_each m a (number ∷ numbers) = asks_each m (asks_in a number (key_at m number)) numbers

-- What asking for cancels changes of a driver.
abbrev pub asking_in : {I B : Type 0} → LegacyState I B → Asking I B
asking_in driver = record { handling = driver.handling; slots = driver.slots.values; asked = driver.asked }
