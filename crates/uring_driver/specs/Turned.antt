-- What a turn answers, and why it stops.
use Rattle.std.specs.Prelude.{ℕ, ◌≡◌, ◌+◌, ◌≤◌, Bool, IsTrue, List, [], ◌++◌, length, Option, Some, None, ⊤, take, drop}
use Rattle.rent_buf.specs.Buffer.{Buffer}
use Rattle.machine.specs.declared.ledger.Event.TheVariants.{Turn}
use Rattle.machine.specs.declared.ledger.Reply.TheVariants.{Turned as TurnReply}
use Rattle.machine.specs.declared.completion.Completion.{Completion}
use Rattle.machine.specs.Counts.{Rose}
use Rattle.machine.specs.Ledger.{Ledger}
use Rattle.machine.specs.Queue.{take_each, take_all}
use Rattle.machine.specs.Turn.{reap_each, ops_in, closes_in, tasks_woken}
use Rattle.ring_core.specs.Ring.{RingView}
use Rattle.driver_core.specs.declared.op.Stop.{Stop}
use Rattle.driver_core.specs.declared.op.Stop.TheVariants.{RingFault, Busy, BadCompletion, Os, OutOfMemory}
use Rattle.driver_core.specs.declared.op.Turned.{Turned}
use Rattle.driver_core.specs.Operations.{OperationsStand}
use Rattle.uring_driver.specs.declared.uring.IoUringDriver.{IoUringDriver}
use Rattle.uring_driver.specs.Holding.{HandlesStand}
use Rattle.uring_driver.specs.Uring.{ring_in, due_in, pending, whole_ring, given_by, holding_in, members_in}
use Rattle.uring_driver.specs.Op.{KeepsTokens, ops_in as operations_in}
use Rattle.uring_driver.specs.Submissions.{TakesFront, Enters, expected_in}
use Rattle.uring_driver.specs.Stands.{RingStands, Stands, Answers}
use Rattle.uring_driver.specs.Reap.{HasStray, treat_each}
use Rattle.uring_driver.specs.Reaps.{waiting_in, closes_of, PendingJoins, EndsWith, KeepsUp}
use Rattle.uring_driver.specs.Submitted.{SameSlots}

-- Nothing was treated, and no close was queued.
pub record TreatsNone {R B : Type 0} (old new : IoUringDriver R B) (turned : Turned) (queued : List ℕ) : Type 0 where
  pub same : SameSlots old new
  pub reaped : turned.reaped ≡ []
  pub closed : turned.closed ≡ []
  pub woken : turned.woken ≡ []
  pub none_queued : queued ≡ []

-- Why a turn stopped, over any ring, where it queued the closes of these handles. None: what is pending or ready now is no more than
-- those closes, so without them all was taken and treated. RingFault: that count rose, and nothing was treated. Busy: that count rose,
-- and no completion is left, unless closes were queued. BadCompletion: a completion of this word is stray.
-- OutOfMemory: nothing changed. Os comes of no ring.
abbrev pub StopsFor : {R B : Type 0} → (R → RingView) → IoUringDriver R B → IoUringDriver R B → Turned → List ℕ → Option Stop → Type 0
StopsFor view old new turned queued None = waiting_in view new.ring ≤ length queued
StopsFor view old new turned queued (Some RingFault) =
    Rose (view (ring_in old)).faults (view (ring_in new)).faults × TreatsNone old new turned queued
StopsFor view old new turned queued (Some Busy) =
    Rose (view (ring_in old)).busies (view (ring_in new)).busies × (queued ≡ [] → (view (ring_in new)).done ≡ [])
StopsFor view old new turned queued (Some (BadCompletion word)) = HasStray new.slots.values new.holding word
StopsFor view old new turned queued (Some (Os code)) = ⊥
StopsFor view old new turned queued (Some OutOfMemory) = (new ≡ old) × TreatsNone old new turned queued

-- Of a ring that shows its lists: a prefix of what was pending was taken, and those that were treated are the first of what was ready
-- then. They are all of it, unless a stray one ended the turn; those behind that one stand in front of what is ready now.
pub record TreatsReady {R B : Type 0} (view : R → RingView) (old new : IoUringDriver R B) (taken : List Completion) (bad : Option ℕ)
    : Type 0 where
  pub mid : RingView
  pub front : TakesFront (whole_ring view old) mid
  pub rest : List Completion
  pub ready : mid.done ≡ taken ++ rest
  pub all : bad ≡ None → rest ≡ []
  pub more : List Completion
  pub left : (view (ring_in new)).done ≡ rest ++ more

-- What a turn treated, over any ring: completions were taken off, and it did and named what they come to, and no more. What is ready,
-- pending and to come grew by no more than the closes that were queued.
pub record TreatsTaken {R B : Type 0} (view : R → RingView) (tells : Bool) (old new : IoUringDriver R B) (turned : Turned)
    (queued : List ℕ) (bad : Option ℕ) : Type 0 where
  pub taken : List Completion
  pub treated : treat_each old.slots.values old.holding taken ≡ record {
    slots = new.slots.values;
    holding = new.holding;
    reaped = turned.reaped;
    closed = turned.closed;
    woken = turned.woken;
    queued = queued;
    bad = bad;
    left = [];
  }
  pub few : expected_in view new.ring + length taken ≤ expected_in view old.ring + length queued
  pub shown : IsTrue tells → TreatsReady view old new taken bad

-- What a turn treated, by why it stopped: at a bad completion as at none. Where the ring failed, it only entered what was pending, and no
-- completion was lost.
abbrev pub TreatsFor : {R B : Type 0} → (R → RingView) → Bool → IoUringDriver R B → IoUringDriver R B → Turned → List ℕ → Option Stop →
    Type 0
TreatsFor view tells old new turned queued None = TreatsTaken view tells old new turned queued None
TreatsFor view tells old new turned queued (Some RingFault) = Enters view tells old.ring new.ring
TreatsFor view tells old new turned queued (Some Busy) = TreatsTaken view tells old new turned queued None
TreatsFor view tells old new turned queued (Some (BadCompletion word)) = TreatsTaken view tells old new turned queued (Some word)
TreatsFor view tells old new turned queued (Some (Os code)) = ⊥
TreatsFor view tells old new turned queued (Some OutOfMemory) = ⊤

-- A ledger once the first entries of its queue are taken.
abbrev pub taken_front : ℕ → Ledger → Ledger
taken_front count L = take_each (record L { queue = drop count L.queue }) (take count L.queue)

-- A ledger once all its completions are reaped.
abbrev pub reaped_out : Ledger → Ledger
reaped_out L = reap_each (record L { done = [] }) L.done

-- What a turn treated that took entries of the queue, which led to this ledger: the machine's operations, closes and tasks are named, and
-- the driver's operations and handles stand for those of the machine's next ledger. So does its ring, where the closes went to it as the
-- machine pushes them.
pub record TurnsTo {R B : Type 0} (view : R → RingView) (buffer : B → Buffer) (steady : Bool) (M : Ledger) (new : IoUringDriver R B)
    (turned : Turned) (queued : List ℕ) : Type 0 where
  pub reaped : turned.reaped ≡ ops_in M.done
  pub closed : turned.closed ≡ closes_in M.done
  pub woken : turned.woken ≡ tasks_woken M.ops (ops_in M.done)
  pub operations : OperationsStand buffer (operations_in new) (reaped_out M).ops
  pub handles : HandlesStand (holding_in new) (reaped_out M)
  pub ring : KeepsUp steady queued → RingStands buffer new.slots.values (whole_ring view new) (reaped_out M)

-- A busy turn took only the first entries of the queue.
pub record TurnsFront {R B : Type 0} (view : R → RingView) (buffer : B → Buffer) (steady : Bool) (L : Ledger) (new : IoUringDriver R B)
    (turned : Turned) (queued : List ℕ) : Type 0 where
  pub count : ℕ
  pub within : count ≤ length L.queue
  pub turns : TurnsTo view buffer steady (taken_front count L) new turned queued

-- A turn of a driver that stands for a ledger, which queued the closes of these handles. It answers what the machine does, and stands for
-- the machine's next ledger, where the closes went to the ring as the machine pushes them; or it ran out of memory and changed nothing.
-- Its completions are never bad. Only a ring that isn't steady makes it stop otherwise; a busy one that took a prefix of the queue.
abbrev pub TurnsFor : {R B : Type 0} → (R → RingView) → (B → Buffer) → Bool → Ledger → IoUringDriver R B → IoUringDriver R B → Turned →
    List ℕ → Option Stop → Type 0
TurnsFor view buffer steady L old new turned queued None = TurnsTo view buffer steady (take_all L) new turned queued
    × (KeepsUp steady queued → Answers view buffer L Turn (TurnReply turned.reaped turned.closed turned.woken) new)
TurnsFor view buffer steady L old new turned queued (Some RingFault) = IsTrue steady → ⊥
TurnsFor view buffer steady L old new turned queued (Some Busy) = (IsTrue steady → ⊥) × TurnsFront view buffer steady L new turned queued
TurnsFor view buffer steady L old new turned queued (Some (BadCompletion word)) = ⊥
TurnsFor view buffer steady L old new turned queued (Some (Os code)) = ⊥
TurnsFor view buffer steady L old new turned queued (Some OutOfMemory) = new ≡ old

-- Neither count of a ring's faults rose.
pub record IsCalm (old new : RingView) : Type 0 where
  pub never_faulty : Rose old.faults new.faults → ⊥
  pub never_busy : Rose old.busies new.busies → ⊥

-- A ring that shows its lists gives no stray completion: whichever prefix of what is pending is taken, none of what is ready then is stray.
abbrev pub GivesNoStray : {R B : Type 0} → (R → RingView) → IoUringDriver R B → Type 0
GivesNoStray view old = (mid : RingView) (first rest : List Completion) → TakesFront (whole_ring view old) mid → mid.done ≡ first ++ rest →
    (treat_each old.slots.values old.holding first).bad ≡ None

-- A turn goes on to its end, unless memory runs out.
abbrev pub GoesOn : Option Stop → Type 0
GoesOn None = ⊤
GoesOn (Some RingFault) = ⊥
GoesOn (Some Busy) = ⊥
GoesOn (Some (BadCompletion word)) = ⊥
GoesOn (Some (Os code)) = ⊥
GoesOn (Some OutOfMemory) = ⊤

-- What every turn of the completion driver does, a park's too.
pub record TurnMeets {R B : Type 0} (view : R → RingView) (buffer : B → Buffer) (tells steady : Bool) (old new : IoUringDriver R B)
    (turned : Turned) : Type 0 where
  -- The handles whose closes were queued, in order.
  pub queued : List ℕ
  -- Over each ring that tells its lists the answer is the machine's, and no completion is bad.
  pub turns : IsTrue tells → (L : Ledger) → Stands view buffer old L → TurnsFor view buffer steady L old new turned queued turned.stop
  pub stops : StopsFor view old new turned queued turned.stop
  pub treats : TreatsFor view tells old new turned queued turned.stop
  -- Only these closes join what is pending, in order, and only its first entries are entered. Over a steady ring nothing becomes due.
  pub moves : IsTrue tells → PendingJoins (pending view old) (closes_of queued) (pending view new)
  -- A turn that doesn't stop entered all that was pending: what is pending now are the last of these closes, or none.
  pub entered : IsTrue tells → turned.stop ≡ None → EndsWith (closes_of queued) (pending view new)
  pub none_due : IsTrue steady → due_in old ≡ [] → due_in new ≡ []
  -- Over a ring that neither fails nor is busy, and gives no stray completion, it doesn't stop unless memory runs out.
  pub complete : IsTrue tells → IsCalm (view (ring_in old)) (view (ring_in new)) → GivesNoStray view old → GoesOn turned.stop
  pub tokens : KeepsTokens old new
  pub given : given_by new ≡ given_by old
  pub members : members_in new ≡ members_in old
