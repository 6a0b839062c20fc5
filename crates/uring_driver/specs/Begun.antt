-- How a turn begins, and how its end makes it whole. Cited by `begin_turn` and `end_turn` of the driver, and by no public clause.
use Rattle.std.specs.Prelude.{ℕ, ◌≡◌, ◌||◌, Bool, true, false, IsTrue, List, [], length, nat_lt, Option, Some, None, ⊤}
use Rattle.rent_buf.specs.Buffer.{Buffer}
use Rattle.machine.specs.Counts.{Rose}
use Rattle.ring_core.specs.Ring.{RingView}
use Rattle.driver_core.specs.declared.op.Stop.{Stop}
use Rattle.driver_core.specs.declared.op.Stop.TheVariants.{RingFault, Busy, BadCompletion, Os, OutOfMemory}
use Rattle.driver_core.specs.declared.op.Turned.{Turned}
use Rattle.uring_driver.specs.declared.uring.IoUringDriver.{IoUringDriver}
use Rattle.uring_driver.specs.declared.uring.turn.Begun.{Begun}
use Rattle.uring_driver.specs.Uring.{ring_in}
use Rattle.uring_driver.specs.Reap.{HasRoom}
use Rattle.uring_driver.specs.Submissions.{Enters, EnteredFor}
use Rattle.uring_driver.specs.Submitted.{SameSlots}
use Rattle.uring_driver.specs.Turned.{TreatsFor, TurnMeets}

-- A turn was begun: the driver has entered its ring, and nothing is treated yet.
pub record HasBegun {R B : Type 0} (view : R → RingView) (tells steady : Bool) (old new : IoUringDriver R B) (begun : Begun) : Type 0 where
  pub same : SameSlots old new
  pub entered : EnteredFor view tells steady old.ring new.ring begun.busy
  pub none_reaped : begun.named.reaped.items ≡ []
  pub none_closed : begun.named.closed.items ≡ []
  pub none_woken : begun.named.woken.items ≡ []
  pub room : HasRoom begun.named (length (view (ring_in new)).done)

-- Why a turn can't begin: the ring failed, which a steady one never does, or memory ran out and nothing changed.
abbrev pub CannotBegin : {R B : Type 0} → (R → RingView) → Bool → Bool → IoUringDriver R B → IoUringDriver R B → Stop → Type 0
CannotBegin view tells steady old new RingFault = Rose (view (ring_in old)).faults (view (ring_in new)).faults × SameSlots old new ×
    Enters view tells old.ring new.ring × (IsTrue steady → ⊥)
CannotBegin view tells steady old new OutOfMemory = new ≡ old
CannotBegin view tells steady old new Busy = ⊥
CannotBegin view tells steady old new (BadCompletion word) = ⊥
CannotBegin view tells steady old new (Os code) = ⊥

-- A turn needn't wait once it was begun: the ring was busy, or a completion is ready.
abbrev pub is_at_hand : {R B : Type 0} → (R → RingView) → IoUringDriver R B → Begun → Bool
is_at_hand view mid begun = begun.busy || nat_lt 0 (length (view (ring_in mid)).done)

-- What a turn treated, by why it stopped, and whether it needed no wait: without a stop it treated completions exactly if it needed none;
-- at a busy ring and at a bad completion it needed none.
abbrev pub TookReady : {R B : Type 0} → (view : R → RingView) → (tells : Bool) → (old new : IoUringDriver R B) → (turned : Turned) →
    (queued : List ℕ) → (stop : Option Stop) → TreatsFor view tells old new turned queued stop → Bool → Type 0
TookReady view tells old new turned queued None treats ready = nat_lt 0 (length treats.taken) ≡ ready
TookReady view tells old new turned queued (Some RingFault) treats ready = ⊤
TookReady view tells old new turned queued (Some Busy) treats ready = ready ≡ true
TookReady view tells old new turned queued (Some (BadCompletion word)) treats ready = ready ≡ true
TookReady view tells old new turned queued (Some (Os code)) treats ready = ⊤
TookReady view tells old new turned queued (Some OutOfMemory) treats ready = ⊤

-- The end of a turn: with what was begun before it makes a whole turn, which treats what was ready.
abbrev pub EndsTurn : {R B : Type 0} → (R → RingView) → (B → Buffer) → Bool → Bool → IoUringDriver R B → Begun →
    IoUringDriver R B → Turned → Type 0
EndsTurn {R} {B} view buffer tells steady mid begun new turned =
    (old : IoUringDriver R B) → HasBegun view tells steady old mid begun →
    (meets : TurnMeets view buffer tells steady old new turned)
    × TookReady view tells old new turned meets.queued turned.stop meets.treats (is_at_hand view mid begun)

-- Why a turn stopped that treated what was ready: a bad completion, or else that the ring was busy.
abbrev pub why_stopped : Option ℕ → Bool → Option Stop
why_stopped (Some word) busy = Some (BadCompletion word)
why_stopped None true = Some Busy
why_stopped None false = None

-- A turn went on to treat what was ready.
abbrev pub HasTreated : Option Stop → Type 0
HasTreated None = ⊤
HasTreated (Some RingFault) = ⊥
HasTreated (Some Busy) = ⊤
HasTreated (Some (BadCompletion word)) = ⊤
HasTreated (Some (Os code)) = ⊥
HasTreated (Some OutOfMemory) = ⊥
