-- What the reaps of a turn do to a driver, over any ring. Cited by `reap_one` and `reap_all`, and by what every turn does.
use Rattle.std.specs.Prelude.{ℕ, ◌≡◌, ◌+◌, ◌<◌, ◌≤◌, ◌⊎◌, Bool, true, IsTrue, List, [], ◌∷◌, ◌++◌, length, map, Option, Some, None}
use Rattle.std.specs.Ordering.{nat_cmp}
use Rattle.std.specs.FinMap.{FinMap}
use Rattle.machine.specs.declared.world.TheConstants.{MOST_HANDLES}
use Rattle.ring_core.specs.declared.entry.Entry.{Entry}
use Rattle.machine.specs.declared.completion.Completion.{Completion}
use Rattle.ring_core.specs.Entry.{close_entry}
use Rattle.machine.specs.Lists.{has_number}
use Rattle.ring_core.specs.Ring.{RingView, IsLater, pushed, with_done}
use Rattle.op_slots.specs.Slots.{Slots}
use Rattle.driver_core.specs.declared.slot.Slot.{Slot}
use Rattle.driver_core.specs.Ops.{Ops}
use Rattle.uring_driver.specs.declared.uring.turn.Named.{Named}
use Rattle.uring_driver.specs.Holding.{Holding}
use Rattle.uring_driver.specs.Pending.{Pending}
use Rattle.uring_driver.specs.declared.uring.IoUringDriver.{IoUringDriver}
use Rattle.uring_driver.specs.Op.{ops_in}
use Rattle.uring_driver.specs.Submissions.{with_spare, room_made, pending_ring, expected_in, PostsEach}
use Rattle.uring_driver.specs.Reap.{Treated, treat_each}

-- How many completions are ready and how many entries are pending, together.
abbrev pub waiting_in : {R : Type 0} → (R → RingView) → Pending R → ℕ
waiting_in view out = length (view out.ring).done + (length (view out.ring).queue + length out.due)

-- What is pending fits the ring's queue.
abbrev pub FitsQueue : {R : Type 0} → (R → RingView) → Pending R → Type 0
FitsQueue view out = length (view out.ring).queue + length out.due ≤ (view out.ring).capacity

-- The closes of handles.
abbrev pub closes_of : List ℕ → List Entry
closes_of handles = map close_entry handles

-- A ring after pushes of entries, in order: each takes the queue first where that is at capacity.
abbrev pub posted : RingView → List Entry → RingView
posted view [] = view
posted view (entry ∷ entries) = posted (pushed (room_made view) entry) entries

-- What is pending changed only so: its first entries were entered, and others joined its end.
pub record PendingJoins (old joined new : List Entry) : Type 0 where
  pub entered : List Entry
  pub moved : old ++ joined ≡ entered ++ new

-- Entries end with these others.
pub record EndsWith (all last : List Entry) : Type 0 where
  pub front : List Entry
  pub ends : all ≡ front ++ last

-- The closes that were queued went to the ring as the machine pushes them: the ring is steady, or there were none.
abbrev pub KeepsUp : Bool → List ℕ → Type 0
KeepsUp steady queued = IsTrue steady ⊎ (queued ≡ [])

-- As every ring tells it, what is pending stays, and so many completions were taken off.
pub record IsSameBut {R : Type 0} (view : R → RingView) (old new : Pending R) (count : ℕ) : Type 0 where
  pub queue : length (view new.ring).queue ≡ length (view old.ring).queue
  pub due : new.due ≡ old.due
  pub done : length (view new.ring).done + count ≡ length (view old.ring).done

-- Of a ring that shows its lists the first completions were taken off, behind which some may have come; and closes joined what is pending.
pub record ShowsReaps (old new : RingView) (taken : List Completion) (queued : List ℕ) : Type 0 where
  pub more : List Completion
  pub done : old.done ++ more ≡ taken ++ new.done
  pub pending : PendingJoins old.queue (closes_of queued) new.queue

-- With the completions that were taken off in front of it again, a ring is what the pushes of the closes make of it.
abbrev pub IsReaped : RingView → RingView → List Completion → List ℕ → Type 0
IsReaped old new taken queued = with_spare (posted old (closes_of queued)) 0 ≡ with_spare (with_done new (taken ++ new.done)) 0

-- What reaps did to a ring: completions were taken off, and the closes of handles joined what is pending, in room that was reserved.
pub record ReapsRing {R : Type 0} (view : R → RingView) (tells steady : Bool) (old new : Pending R) (taken : List Completion)
    (queued : List ℕ) : Type 0 where
  pub later : IsLater (view old.ring) (view new.ring)
  pub room : new.room + length queued ≡ old.room
  -- No more is ready and pending than was, nor with what is to come, and none that was ready is lost.
  pub few : waiting_in view new + length taken ≤ waiting_in view old + length queued
  pub few_to_come : expected_in view new + length taken ≤ expected_in view old + length queued
  pub kept : length (view old.ring).done ≤ length (view new.ring).done + length taken
  pub same : queued ≡ [] → IsSameBut view old new (length taken)
  pub told : IsTrue tells → ShowsReaps (pending_ring view old) (pending_ring view new) taken queued
  pub exact : IsTrue tells → KeepsUp steady queued → FitsQueue view old →
      IsReaped (pending_ring view old) (pending_ring view new) taken queued × FitsQueue view new

-- Completions were treated that come to this: the slots and the handles are so now, and those that are named joined the lists; a stray
-- one, of which this is the word, was the last.
pub record Treats {B : Type 0} (all : Treated B) (new_slots : FinMap nat_cmp (Slot B)) (new_holding : Holding) (before after : Named)
    (stray : Option ℕ) : Type 0 where
  pub slots : all.slots ≡ new_slots
  pub holding : all.holding ≡ new_holding
  pub reaped : after.reaped.items ≡ before.reaped.items ++ all.reaped
  pub closed : after.closed.items ≡ before.closed.items ++ all.closed
  pub woken : after.woken.items ≡ before.woken.items ++ all.woken
  pub bad : all.bad ≡ stray
  pub left : all.left ≡ []

-- The closes of handles, each below the bound of handles, joined what is pending, one after another, in room that was reserved.
pub record PostsAll {R : Type 0} (view : R → RingView) (tells steady : Bool) (old new : Pending R) (handles : List ℕ) : Type 0 where
  pub below : (h : ℕ) → has_number h handles ≡ true → h < MOST_HANDLES
  pub few : length handles ≤ old.room
  pub posts : PostsEach view tells steady old new (closes_of handles)

-- A driver in the middle of a turn: what a turn may change of it.
pub record Midway (R B : Type 0) : Type 0 where
  pub ring : Pending R
  pub slots : Slots (Slot B)
  pub given : ℕ
  pub holding : Holding

-- It is made of these parts.
abbrev pub midway : {R B : Type 0} → Pending R → Ops B → Holding → Midway R B
midway ring ops holding = record { ring = ring; slots = ops.slots; given = ops.given; holding = holding }

-- What a turn may change of a driver.
abbrev pub midway_of : {R B : Type 0} → IoUringDriver R B → Midway R B
midway_of driver = midway driver.ring (ops_in driver) driver.holding

-- What so many reaps did to a driver: completions were taken off, oldest first, and treated, and those that they named joined the lists.
pub record Reaps {R B : Type 0} (view : R → RingView) (tells steady : Bool) (old new : Midway R B) (before after : Named) (count : ℕ)
    (bad : Option ℕ) : Type 0 where
  pub taken : List Completion
  pub counted : length taken ≡ count
  pub below : (h : ℕ) → has_number h (treat_each old.slots.values old.holding taken).queued ≡ true → h < MOST_HANDLES
  pub ring : ReapsRing view tells steady old.ring new.ring taken (treat_each old.slots.values old.holding taken).queued
  pub treats : Treats (treat_each old.slots.values old.holding taken) new.slots.values new.holding before after bad

-- What the reaps of a turn did: as many as completions were ready, or up to a stray one.
abbrev pub ReapsAll : {R B : Type 0} → (R → RingView) → Bool → Bool → Midway R B → Midway R B → Named → Named → Option ℕ → Type 0
ReapsAll view tells steady old new before after None =
    Reaps view tells steady old new before after (length (view old.ring.ring).done) None
ReapsAll view tells steady old new before after (Some word) =
    (count : ℕ) × (count ≤ length (view old.ring.ring).done) × Reaps view tells steady old new before after count (Some word)
