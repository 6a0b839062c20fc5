-- What the calls of `Operations` do, exactly, and when operations stand for those of a ledger.
use Rattle.std.specs.Prelude.{ℕ, ◌≡◌, ◌+◌, ◌<◌, List, Some, None, length}
use Rattle.std.specs.FinMap as map
use Rattle.rent_buf.specs.Buffer.{Buffer}
use Rattle.rent_buf.specs.Parts.{Parts}
use Rattle.op_slots.specs.declared.lifecycle.AfterDrop.{AfterDrop}
use Rattle.op_slots.specs.declared.slab.TheConstants.{MAX_LIVE}
use Rattle.op_slots.specs.declared.lifecycle.Lifecycle.TheVariants.{Submitted}
use Rattle.machine.specs.declared.request.Request.{Request}
use Rattle.machine.specs.Ledger.{Operation}
use Rattle.machine.specs.Surroundings.{Surroundings}
use Rattle.driver_core.specs.declared.op.Op.{Op}
use Rattle.driver_core.specs.declared.op.PollOp.{PollOp}
use Rattle.driver_core.specs.declared.op.PollOp.TheVariants.{Pending, Ready}
use Rattle.driver_core.specs.declared.slot.Slot.{Slot}
use Rattle.driver_core.specs.Slot.{PollsAt, DropsAt, FillsSlot, KeepsNumbers, shown_in}
use Rattle.driver_core.specs.Slots.{SlotsStand}
use Rattle.driver_core.specs.Ops.{Ops}
use Rattle.driver_core.specs.Requests.{KeepsSurroundings}

-- A new slot, for a request that is the next operation's.
abbrev pub new_slot : {B : Type 0} → Ops B → Request B Parts → Slot B
new_slot ops request = record { serial = ops.given; request = request; life = Submitted }

-- A request got a new slot, at a free key, and the next number.
pub record Submits {B : Type 0} (old new : Ops B) (request : Request B Parts) (op : Op) : Type 0 where
  pub free : map.get old.slots.values op.key ≡ None
  pub below : op.key < MAX_LIVE
  pub number : op.number ≡ old.given
  pub slots : new.slots.values ≡ map.insert old.slots.values op.key (new_slot old request)
  pub given : new.given ≡ old.given + 1

-- What a poll does to the slot at its token's key: Pending exactly while it isn't completed; what is ready is that slot's own.
abbrev pub PollsOp : {B : Type 0} → Ops B → Ops B → Op → ℕ → PollOp B → Type 0
PollsOp old new op task (Pending back) = PollsAt old.slots.values op.key task new.slots.values None
PollsOp old new op task (Ready done) = PollsAt old.slots.values op.key task new.slots.values (Some done)

-- What a drop does to the slot at its token's key.
abbrev pub DropsOp : {B : Type 0} → Ops B → Ops B → Op → AfterDrop → Type 0
DropsOp old new op answer = DropsAt old.slots.values op.key new.slots.values answer

-- The bytes that operations offer to a ring, by data word: those that the request in the slot of that key shows.
abbrev pub offered : {B : Type 0} → (B → Buffer) → Ops B → ℕ → List ℕ
offered buffer ops word = shown_in buffer (map.get ops.slots.values word)

-- Bytes that came for a data word are stored in the slot of that key, and no number, token or count changes.
pub record StoresAt {B : Type 0} (buffer : B → Buffer) (old : Ops B) (word : ℕ) (bytes : List ℕ) (new : Ops B) : Type 0 where
  pub fills : FillsSlot buffer old.slots.values word bytes new.slots.values
  pub numbers : KeepsNumbers old.slots.values new.slots.values
  pub given : new.given ≡ old.given

-- What storing bytes that came for a data word does: they are stored in the slot of that key, and the surroundings of buffers stay.
abbrev pub Stores : {B : Type 0} → (B → Buffer) → (B → Surroundings) → Ops B → ℕ → List ℕ → Ops B → Type 0
Stores buffer reader old word bytes new = StoresAt buffer old word bytes new × KeepsSurroundings reader old new

-- Operations stand for those of a ledger: the next one has the next number, and each that isn't finished has exactly one slot.
pub record OperationsStand {B : Type 0} (buffer : B → Buffer) (ops : Ops B) (operations : List Operation) : Type 0 where
  pub numbered : ops.given ≡ length operations
  pub in_slots : SlotsStand buffer ops.slots.values operations
