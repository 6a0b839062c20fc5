-- What the lists of a ring mean in the ledger. Its entries are read by serials there; the ring itself compares words alone.
-- Cited by `Stands`.
use Rattle.std.specs.Prelude.{ℕ, ◌≡◌, ◌<◌, Bool, true, false, List, [], ◌∷◌, map, flat_map, Some, is_some, slice_get, ⊤}
use Rattle.std.specs.Ordering.{nat_cmp}
use Rattle.std.specs.FinMap as finite
use Rattle.rent_buf.specs.Buffer.{Buffer}
use Rattle.ring_core.specs.declared.entry.Body.{Body}
use Rattle.ring_core.specs.declared.entry.Body.TheVariants.{Call as Calls, Cancel as Cancels, Close as Closes}
use Rattle.ring_core.specs.declared.entry.Entry.{Entry}
use Rattle.ring_core.specs.declared.entry.Flight.{Flight}
use Rattle.machine.specs.declared.completion.Completion.{Completion}
use Rattle.machine.specs.declared.world.TheConstants.{MOST_HANDLES}
use Rattle.ring_core.specs.declared.entry.TheConstants.{CANCEL_WORD, FIRST_CLOSE}
use Rattle.ring_core.specs.declared.entry.Target.{Target}
use Rattle.ring_core.specs.declared.entry.Target.TheVariants.{Slot as Keyed, Handle, Reserved}
use Rattle.ring_core.specs.Entry.{target, close_entry}
use Rattle.machine.specs.Request.{call_of, plain_request}
use Rattle.ring_core.specs.Ring.{RingView}
use Rattle.machine.specs.Ledger.{Ledger, Queued, Req, Cancel, Item, Op, Operation, Place, InQueue, InFlight, InDone}
use Rattle.driver_core.specs.declared.slot.Slot.{Slot}

-- What an entry with a body means in the queue.
abbrev pub queued_in : Entry → Body → Queued
queued_in entry (Calls call) = Req entry.serial
queued_in entry (Cancels key) = Cancel entry.serial
queued_in entry (Closes h) = Queued.Close h

-- What an entry means in the queue.
abbrev pub queued_of : Entry → Queued
queued_of entry = queued_in entry entry.body

-- A body is that of a call.
abbrev pub is_call : Body → Bool
is_call (Calls call) = true
is_call (Cancels key) = false
is_call (Closes h) = false

-- What an entry with a body means in flight: a call is its operation, a close its handle's. A cancel is never in flight (`FlightFor`).
abbrev pub item_in : Entry → Body → Item
item_in entry (Calls call) = Op entry.serial
item_in entry (Cancels key) = Op entry.serial
item_in entry (Closes h) = Item.Close h

-- What an entry in flight means.
abbrev pub item_of : Flight → Item
item_of flight = item_in flight.entry flight.entry.body

-- What a completion means, by what its word names: a slot is its operation, a handle its close, and a reserved word is nothing.
abbrev pub done_items_in : Completion → Target → List Item
done_items_in completion (Keyed key) = Op completion.serial ∷ []
done_items_in completion (Handle h) = Item.Close h ∷ []
done_items_in completion (Reserved word) = []

-- What a completion means.
abbrev pub done_items_of : Completion → List Item
done_items_of completion = done_items_in completion (target completion.word)

-- What a word names is a slot.
abbrev pub names_slot : Target → Bool
names_slot (Keyed key) = true
names_slot (Handle h) = false
names_slot (Reserved word) = false

-- No two elements of a list that pass a test have one number.
abbrev pub Once : {A : Type 0} → (A → Bool) → (A → ℕ) → List A → Type 0
Once {A} passes number xs = (i j : ℕ) (x y : A) → slice_get xs i ≡ Some x → slice_get xs j ≡ Some y → passes x ≡ true → passes y ≡ true →
    number x ≡ number y → i ≡ j

-- The operation of a number is at a place.
pub record IsAt (ops : List Operation) (number : ℕ) (place : Place) : Type 0 where
  pub operation : Operation
  pub there : slice_get ops number ≡ Some operation
  pub stays : operation.place ≡ place

-- An entry in the queue is linked exactly where its operation is, which is queued.
pub record IsQueued (ops : List Operation) (entry : Entry) : Type 0 where
  pub operation : Operation
  pub there : slice_get ops entry.serial ≡ Some operation
  pub stays : operation.place ≡ InQueue
  pub linked : entry.linked ≡ operation.linked

-- An entry in flight is marked exactly where its operation's cancel was taken, and bound exactly where its operation waits for another.
pub record IsFlown (ops : List Operation) (flight : Flight) : Type 0 where
  pub operation : Operation
  pub there : slice_get ops flight.entry.serial ≡ Some operation
  pub stays : operation.place ≡ InFlight
  pub marked : flight.marked ≡ operation.canceled
  pub bound : flight.bound ≡ is_some operation.waits_for

-- An entry's word is the key of the slot that has its serial, and it asks for that slot's request.
pub record EntryFor {B : Type 0} (buffer : B → Buffer) (slots : finite.FinMap nat_cmp (Slot B)) (entry : Entry) : Type 0 where
  pub slot : Slot B
  pub there : finite.get slots entry.word ≡ Some slot
  pub serial : slot.serial ≡ entry.serial
  pub call : entry.body ≡ Calls (call_of (plain_request buffer slot.request))

-- A completion's word is the key of the slot that has its serial.
pub record CompletionFor {B : Type 0} (slots : finite.FinMap nat_cmp (Slot B)) (completion : Completion) : Type 0 where
  pub slot : Slot B
  pub there : finite.get slots completion.word ≡ Some slot
  pub serial : slot.serial ≡ completion.serial

-- What stands in the queue, by its body: a call is that of an operation that is queued, and linked where that is; the word of a cancel is
-- reserved, its key is no close's word, and it isn't linked; a close is that of a handle below the bound of handles.
abbrev pub QueuedFor : {B : Type 0} → (B → Buffer) → finite.FinMap nat_cmp (Slot B) → List Operation → Entry → Body → Type 0
QueuedFor buffer slots ops entry (Calls call) = EntryFor buffer slots entry × IsQueued ops entry
QueuedFor buffer slots ops entry (Cancels key) = (entry.word ≡ CANCEL_WORD) × (key < FIRST_CLOSE) × (entry.linked ≡ false)
QueuedFor buffer slots ops entry (Closes h) = (entry ≡ close_entry h) × (h < MOST_HANDLES)

-- What is in flight, by its body: a call is that of an operation that is in flight, a close is never marked or bound, and a cancel never
-- flies.
abbrev pub FlightFor : {B : Type 0} → (B → Buffer) → finite.FinMap nat_cmp (Slot B) → List Operation → Flight → Body → Type 0
FlightFor buffer slots ops flight (Calls call) = EntryFor buffer slots flight.entry × IsFlown ops flight
FlightFor buffer slots ops flight (Cancels key) = ⊥
FlightFor buffer slots ops flight (Closes h) = (flight.entry ≡ close_entry h) × (h < MOST_HANDLES) × (flight.marked ≡ false)
    × (flight.bound ≡ false)

-- What is done, by what its word names: a slot is that of an operation that is done with this outcome, a handle's close has its number as
-- its serial too, and a reserved word says nothing.
abbrev pub DoneFor : {B : Type 0} → finite.FinMap nat_cmp (Slot B) → List Operation → Completion → Target → Type 0
DoneFor slots ops completion (Keyed key) = CompletionFor slots completion × IsAt ops completion.serial (InDone completion.outcome)
DoneFor slots ops completion (Handle h) = completion.serial ≡ h
DoneFor slots ops completion (Reserved word) = ⊤

-- An entry has a cancel's key exactly where it has the cancel's number.
pub record Meets (entry : Entry) (key number : ℕ) : Type 0 where
  pub by_word : entry.word ≡ key → entry.serial ≡ number
  pub by_serial : entry.serial ≡ number → entry.word ≡ key

-- A cancel in the queue names a key and means a number: these are the same of each call before it in the queue, and of each call
-- in flight. So the ring, which compares keys, marks what the ledger marks, however keys were used again.
pub record CancelsMean (queue : List Entry) (flying : List Flight) : Type 0 where
  pub before : (i j : ℕ) (entry cancel : Entry) (key : ℕ) → slice_get queue i ≡ Some entry → slice_get queue j ≡ Some cancel →
      cancel.body ≡ Cancels key → i < j → is_call entry.body ≡ true → Meets entry key cancel.serial
  pub flown : (i j : ℕ) (flight : Flight) (cancel : Entry) (key : ℕ) → slice_get flying i ≡ Some flight → slice_get queue j ≡ Some cancel →
      cancel.body ≡ Cancels key → is_call flight.entry.body ≡ true → Meets flight.entry key cancel.serial

-- The three lists of a ring, read by serials, are those of the ledger; each word in them is the key of the slot of that serial;
-- a queued entry is linked where its operation is, and one in flight bound where its operation waits; an operation's completion has its
-- outcome; no operation stands twice in a list; and each cancel means its operation.
pub record ListsStand {B : Type 0} (buffer : B → Buffer) (slots : finite.FinMap nat_cmp (Slot B)) (view : RingView)
    (L : Ledger) : Type 0 where
  pub queue : L.queue ≡ map queued_of view.queue
  pub flying : L.flying ≡ map item_of view.flying
  pub done : L.done ≡ flat_map done_items_of view.done
  pub in_queue : (i : ℕ) (entry : Entry) → slice_get view.queue i ≡ Some entry → QueuedFor buffer slots L.ops entry entry.body
  pub in_flight : (i : ℕ) (flight : Flight) → slice_get view.flying i ≡ Some flight → FlightFor buffer slots L.ops flight flight.entry.body
  pub in_done : (i : ℕ) (completion : Completion) → slice_get view.done i ≡ Some completion →
      DoneFor slots L.ops completion (target completion.word)
  pub queue_once : Once (λ entry. is_call entry.body) (λ entry. entry.serial) view.queue
  pub flight_once : Once (λ flight. is_call flight.entry.body) (λ flight. flight.entry.serial) view.flying
  pub done_once : Once (λ completion. names_slot (target completion.word)) (λ completion. completion.serial) view.done
  pub cancels : CancelsMean view.queue view.flying
