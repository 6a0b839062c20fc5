-- The ring as the driver uses it: what is pending, and what entering it and joining it do. Cited by `Submissions`, and by the
-- driver's calls.
use Rattle.std.specs.Prelude.{ℕ, ◌≡◌, ◌+◌, ◌<◌, ◌≤◌, ◌==◌, ◌⊎◌, if◌then◌else◌, Bool, true, false, IsTrue, List, [], ◌∷◌, ◌++◌, length, take}
use Rattle.std.specs.Prelude.{drop}
use Rattle.machine.specs.Counts.{Rose}
use Rattle.ring_core.specs.declared.entry.Entry.{Entry}
use Rattle.ring_core.specs.declared.ring.EnterError.{EnterError}
use Rattle.ring_core.specs.declared.ring.EnterError.TheVariants.{Fault, Busy}
use Rattle.ring_core.specs.Lends.{with_world}
use Rattle.ring_core.specs.declared.entry.Flight.{Flight}
use Rattle.ring_core.specs.Ring.{RingView, IsLater, entered, pushed, with_done, flying_after, done_after}
use Rattle.uring_driver.specs.Pending.{Pending}

-- Nothing is queued, in flight or standing.
pub record IsIdle (view : RingView) : Type 0 where
  pub queue : view.queue ≡ []
  pub flying : view.flying ≡ []
  pub done : view.done ≡ []

-- A ring with memory for another number of pushes, and all else the same.
abbrev pub with_spare : RingView → ℕ → RingView
with_spare view spare = record view { spare = spare }

-- Two rings are the same, but for how many pushes they have memory for.
abbrev pub IsSameButRoom : RingView → RingView → Type 0
IsSameButRoom old new = new ≡ with_spare old new.spare

-- A ring with room for one more entry: a queue at capacity was taken.
abbrev pub room_made : RingView → RingView
room_made view = if length view.queue == view.capacity then entered view else view

-- A ring with entries behind its queue.
abbrev pub with_due : RingView → List Entry → RingView
with_due view due = record view { queue = view.queue ++ due }

-- The ring of a submission queue with what is due behind its queue.
abbrev pub pending_ring : {R : Type 0} → (R → RingView) → Pending R → RingView
pending_ring view out = with_due (view out.ring) out.due

-- A submission queue over a ring in memory whose handles alone may have changed.
abbrev pub IsSameButWorld : Pending RingView → Pending RingView → Type 0
IsSameButWorld old new = new ≡ record old { ring = with_world old.ring new.ring.world }

-- How many completions are ready, how many may come of what is pending, and how many are still to come by themselves, together.
abbrev pub expected_in : {R : Type 0} → (R → RingView) → Pending R → ℕ
expected_in view out = (length (view out.ring).done + (length (view out.ring).queue + length out.due)) + (view out.ring).to_come

-- What is in flight after enters, one after another, each of which took these entries.
abbrev pub flying_each : List Flight → List (List Entry) → List Flight
flying_each flying [] = flying
flying_each flying (entries ∷ takings) = flying_each (flying_after flying entries) takings

-- The entries that enters took, in order.
abbrev pub taken_by : List (List Entry) → List Entry
taken_by [] = []
taken_by (entries ∷ takings) = entries ++ taken_by takings

-- A prefix of what is pending was taken, of `count` entries, by enters that took these entries, one after another. Where what is pending
-- fits the queue, one enter took them at once.
pub record TookEach (takings : List (List Entry)) (count : ℕ) (old new : RingView) : Type 0 where
  pub within : count ≤ length old.queue
  pub taken : taken_by takings ≡ take count old.queue
  pub queue : new.queue ≡ drop count old.queue
  pub flying : new.flying ≡ flying_each old.flying takings
  pub once : length old.queue ≤ old.capacity → new.flying ≡ flying_after old.flying (take count old.queue)
  pub done : new.done ≡ done_after old.done (take count old.queue)
  pub world : new.world ≡ old.world

-- A prefix of what is pending was taken, of some length, by some enters.
pub record TakesFront (old new : RingView) : Type 0 where
  pub count : ℕ
  pub takings : List (List Entry)
  pub took : TookEach takings count old new

-- What is pending went towards the ring, and a prefix of it was taken, with at most one completion for each of its entries, that came or
-- is to come. No completion was lost.
pub record Enters {R : Type 0} (view : R → RingView) (tells : Bool) (old new : Pending R) : Type 0 where
  pub later : IsLater (view old.ring) (view new.ring)
  pub few_done : length (view new.ring).done + (length (view new.ring).queue + length new.due) ≤
      length (view old.ring).done + (length (view old.ring).queue + length old.due)
  pub few_to_come : expected_in view new ≤ expected_in view old
  pub more_done : length (view old.ring).done ≤ length (view new.ring).done
  pub same_room : new.room ≡ old.room
  pub told : IsTrue tells → TakesFront (pending_ring view old) (pending_ring view new)

-- What is pending went towards the ring, and then the completions that came by themselves became ready. A prefix of what was pending was
-- taken, and each completion that came is of an entry that was taken now, or of those that were to come. None was lost.
pub record Arrives {R : Type 0} (view : R → RingView) (tells : Bool) (old new : Pending R) : Type 0 where
  pub later : IsLater (view old.ring) (view new.ring)
  pub few_to_come : expected_in view new ≤ expected_in view old
  pub more_done : length (view old.ring).done ≤ length (view new.ring).done
  pub same_room : new.room ≡ old.room
  pub told : IsTrue tells → TakesFront (pending_ring view old) (pending_ring view new)

-- What the enter of a turn that goes on did: all that was pending was taken, or the ring was busy, which a steady one never is.
abbrev pub EnteredFor : {R : Type 0} → (R → RingView) → Bool → Bool → Pending R → Pending R → Bool → Type 0
EnteredFor view tells steady old new false = Arrives view tells old new × ((view new.ring).queue ≡ []) × (new.due ≡ [])
EnteredFor view tells steady old new true = Arrives view tells old new × Rose (view old.ring).busies (view new.ring).busies ×
    (IsTrue steady → ⊥)

-- The next entry can't go in before an enter: the queue is full, or an entry is due.
abbrev pub MustEnter : {R : Type 0} → (R → RingView) → Pending R → Type 0
MustEnter view out = (length (view out.ring).queue ≡ (view out.ring).capacity) ⊎ (0 < length out.due)

-- Why an enter took no more: the count of that fault rose. A steady ring has neither fault.
abbrev pub KeptOut : Bool → RingView → RingView → EnterError → Type 0
KeptOut steady old new Fault = Rose old.faults new.faults × (IsTrue steady → ⊥)
KeptOut steady old new Busy = Rose old.busies new.busies × (IsTrue steady → ⊥)

-- An entry joined what is pending, after a prefix of it was taken. It needed room that was reserved before.
pub record Posts {R : Type 0} (view : R → RingView) (tells steady : Bool) (old new : Pending R) (entry : Entry) : Type 0 where
  pub later : IsLater (view old.ring) (view new.ring)
  pub room : 0 < old.room → new.room + 1 ≡ old.room
  pub few_done : length (view new.ring).done + (length (view new.ring).queue + length new.due) ≤
      length (view old.ring).done + (length (view old.ring).queue + length old.due) + 1
  pub few_to_come : expected_in view new ≤ expected_in view old + 1
  pub more_done : length (view old.ring).done ≤ length (view new.ring).done
  pub told : 0 < old.room → IsTrue tells → (mid : RingView) × TakesFront (pending_ring view old) mid ×
      (pending_ring view new ≡ with_spare (pushed mid entry) (view new.ring).spare)
  pub exact : 0 < old.room → IsTrue steady → length (view old.ring).queue + length old.due ≤ (view old.ring).capacity →
      (pending_ring view new ≡ with_spare (pushed (room_made (pending_ring view old)) entry) (view new.ring).spare) ×
      (length (view new.ring).queue + length new.due ≤ (view new.ring).capacity)

-- What is pending changed only so: a prefix of it was entered, of `count` entries, and new entries joined its end.
pub record PendingMoves (old new joined : List Entry) : Type 0 where
  pub count : ℕ
  pub within : count ≤ length old
  pub moved : new ≡ drop count old ++ joined

-- Entries joined what is pending, one after another: each joined its end, after a prefix of it was entered.
abbrev pub PendingMovesEach : List Entry → List Entry → List Entry → Type 0
PendingMovesEach old new [] = new ≡ old
PendingMovesEach old new (entry ∷ entries) =
    (mid : List Entry) × PendingMoves old mid (entry ∷ []) × PendingMovesEach mid new entries

-- What is pending stays, and the room for more. Of a ring that shows its lists only completions are taken off.
pub record KeepsPending {R : Type 0} (view : R → RingView) (tells : Bool) (old new : Pending R) : Type 0 where
  pub due : new.due ≡ old.due
  pub room : new.room ≡ old.room
  pub ring : IsTrue tells → view new.ring ≡ with_done (view old.ring) (view new.ring).done

-- Entries joined what is pending, one after another, each as `Posts` says.
abbrev pub PostsEach : {R : Type 0} → (R → RingView) → Bool → Bool → Pending R → Pending R → List Entry → Type 0
PostsEach view tells steady old new [] = new ≡ old
PostsEach {R} view tells steady old new (entry ∷ entries) =
    (mid : Pending R) × Posts view tells steady old mid entry × PostsEach view tells steady mid new entries
