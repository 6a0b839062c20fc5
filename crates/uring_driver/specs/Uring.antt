-- What the readers of a driver show. Cited by `IoUringDriver` and by whoever holds one.
use Rattle.std.specs.Prelude.{ℕ, Bool, true, ◌&&◌, List, [], ◌∷◌, ◌++◌, length}
use Rattle.std.specs.FinMap as map
use Rattle.ring_core.specs.declared.entry.Entry.{Entry}
use Rattle.ring_core.specs.Ring.{RingView}
use Rattle.driver_core.specs.Members.{Membership}
use Rattle.uring_driver.specs.declared.uring.IoUringDriver.{IoUringDriver}
use Rattle.uring_driver.specs.Holding.{Holding, is_users}
use Rattle.uring_driver.specs.Submissions.{pending_ring}

-- The driver's ring.
abbrev pub ring_in : {R B : Type 0} → IoUringDriver R B → R
ring_in driver = driver.ring.ring

-- The entries that a failed or busy enter kept out of the ring, oldest first.
abbrev pub due_in : {R B : Type 0} → IoUringDriver R B → List Entry
due_in driver = driver.ring.due

-- For how many entries memory is reserved, beyond those that are due.
abbrev pub room_in : {R B : Type 0} → IoUringDriver R B → ℕ
room_in driver = driver.ring.room

-- What is pending: the ring's queue, then what is due.
abbrev pub pending : {R B : Type 0} → (R → RingView) → IoUringDriver R B → List Entry
pending view driver = (view (ring_in driver)).queue ++ due_in driver

-- The driver's ring, with what is due behind its queue.
abbrev pub whole_ring : {R B : Type 0} → (R → RingView) → IoUringDriver R B → RingView
whole_ring view driver = pending_ring view driver.ring

-- How many slots are live.
abbrev pub live_slots : {R B : Type 0} → IoUringDriver R B → ℕ
live_slots driver = map.len driver.slots.values

-- How many operations were given.
abbrev pub given_by : {R B : Type 0} → IoUringDriver R B → ℕ
given_by driver = driver.given

-- Who holds the driver's handles, and which closes aren't reaped.
abbrev pub holding_in : {R B : Type 0} → IoUringDriver R B → Holding
holding_in driver = driver.holding

-- The driver's cancel groups, and where the operations under them are.
abbrev pub members_in : {R B : Type 0} → IoUringDriver R B → Membership
members_in driver = driver.members

-- How many groups were made.
abbrev pub group_count : {R B : Type 0} → IoUringDriver R B → ℕ
group_count driver = length driver.members.groups

-- The user holds a handle.
abbrev pub holds_handle : {R B : Type 0} → IoUringDriver R B → ℕ → Bool
holds_handle driver h = is_users driver.holding h

-- The user holds each of these handles.
abbrev pub holds_all : {R B : Type 0} → IoUringDriver R B → List ℕ → Bool
holds_all driver [] = true
holds_all driver (h ∷ handles) = holds_handle driver h && holds_all driver handles
