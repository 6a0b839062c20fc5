-- What each call does to one slot. Cited by the functions that change a slot.
use Rattle.std.specs.Prelude.{ℕ, ◌≡◌, nat_le, ◌==◌, ◌&&◌, Bool, true, false, List, [], Option, Some, None, length}
use Rattle.std.specs.Ordering.{nat_cmp}
use Rattle.std.specs.FinMap as map
use Rattle.rent_buf.specs.Buffer.{Buffer}
use Rattle.op_slots.specs.Lifecycle.{polled, after_poll, dropped, after_drop}
use Rattle.op_slots.specs.declared.lifecycle.AfterDrop.{AfterDrop}
use Rattle.op_slots.specs.declared.lifecycle.AfterDrop.TheVariants.{Left, Free}
use Rattle.op_slots.specs.declared.lifecycle.AfterPoll.{AfterPoll}
use Rattle.op_slots.specs.declared.lifecycle.Lifecycle.{Lifecycle}
use Rattle.op_slots.specs.declared.lifecycle.Lifecycle.TheVariants.{Submitted, Waiting, Ignored, Completed}
use Rattle.machine.specs.declared.request.Outcome.{Outcome}
use Rattle.machine.specs.declared.completion.Completion.{Completion}
use Rattle.machine.specs.Request.{plain_request, room_of, shown_by, held_after, IsHolding}
use Rattle.driver_core.specs.declared.op.Done.{Done}
use Rattle.driver_core.specs.declared.slot.Slot.{Slot}

-- A slot's operation is its user's: it wasn't dropped.
abbrev pub is_owned_life : Lifecycle Outcome → Bool
is_owned_life Submitted = true
is_owned_life (Waiting task) = true
is_owned_life Ignored = false
is_owned_life (Completed outcome) = true

-- A number, unless it is left out.
abbrev pub number_if : Bool → ℕ → Option ℕ
number_if true number = Some number
number_if false number = None

-- The number of a slot that was looked up, where its operation is its user's.
abbrev pub serial_of : {B : Type 0} → Option (Slot B) → Option ℕ
serial_of None = None
serial_of (Some slot) = number_if (is_owned_life slot.life) slot.serial

-- The number that the slot at a key has; None where the key isn't live, or its operation was dropped.
abbrev pub number_at : {B : Type 0} → map.FinMap nat_cmp (Slot B) → ℕ → Option ℕ
number_at slots key = serial_of (map.get slots key)

-- The slot that was looked up has a number, and its operation is its user's.
abbrev pub has_number : {B : Type 0} → Option (Slot B) → ℕ → Bool
has_number None number = false
has_number (Some slot) number = is_owned_life slot.life && slot.serial == number

-- A slot's operation isn't reaped.
abbrev pub is_flying : Lifecycle Outcome → Bool
is_flying Submitted = true
is_flying (Waiting task) = true
is_flying Ignored = true
is_flying (Completed outcome) = false

-- The slot that was looked up is in flight: live and not completed.
abbrev pub flies_in : {B : Type 0} → Option (Slot B) → Bool
flies_in None = false
flies_in (Some slot) = is_flying slot.life

-- The task that waits.
abbrev pub task_in : Lifecycle Outcome → Option ℕ
task_in Submitted = None
task_in (Waiting task) = Some task
task_in Ignored = None
task_in (Completed outcome) = None

-- A slot with another life.
abbrev pub with_life : {B : Type 0} → Slot B → Lifecycle Outcome → Slot B
with_life slot life = record slot { life = life }

-- A poll of a live slot: where it isn't completed its task is the new one.
pub record PollsSlot {B : Type 0} (old : map.FinMap nat_cmp (Slot B)) (key task : ℕ) (new : map.FinMap nat_cmp (Slot B))
    (answer : AfterPoll) : Type 0 where
  pub slot : Slot B
  pub there : map.get old key ≡ Some slot
  pub answers : answer ≡ after_poll slot.life
  pub slots : new ≡ map.insert old key (with_life slot (polled slot.life task))

-- A drop of a live slot: where it isn't completed it is ignored from then on.
pub record DropsSlot {B : Type 0} (old : map.FinMap nat_cmp (Slot B)) (key : ℕ) (new : map.FinMap nat_cmp (Slot B))
    (answer : AfterDrop) : Type 0 where
  pub slot : Slot B
  pub there : map.get old key ≡ Some slot
  pub answers : answer ≡ after_drop slot.life
  pub slots : new ≡ map.insert old key (with_life slot (dropped slot.life))

-- What a poll does to a slot of its user's. None: it isn't completed, and its task is the one that polled. Else it was completed, its
-- own request comes out with its outcome, and it goes.
abbrev pub PollsThis : {B : Type 0} → map.FinMap nat_cmp (Slot B) → ℕ → ℕ → map.FinMap nat_cmp (Slot B) → Slot B → Option (Done B) → Type 0
PollsThis old key task new slot None = (is_flying slot.life ≡ true) × (new ≡ map.insert old key (with_life slot (polled slot.life task)))
PollsThis old key task new slot (Some done) =
    (slot.life ≡ Completed done.outcome) × (done.request ≡ slot.request) × (new ≡ map.remove old key)

abbrev pub PollsAt : {B : Type 0} → map.FinMap nat_cmp (Slot B) → ℕ → ℕ → map.FinMap nat_cmp (Slot B) → Option (Done B) → Type 0
PollsAt {B} old key task new result = (slot : Slot B) → map.get old key ≡ Some slot → PollsThis old key task new slot result

-- What ending an operation with an outcome does: its request comes out with the outcome, and its slot goes.
abbrev pub EndsSlot : {B : Type 0} → map.FinMap nat_cmp (Slot B) → ℕ → Outcome → map.FinMap nat_cmp (Slot B) → Done B → Type 0
EndsSlot {B} old key outcome new done =
    (slot : Slot B) → map.get old key ≡ Some slot → (done.outcome ≡ outcome) × (done.request ≡ slot.request) × (new ≡ map.remove old key)

-- What a drop does to a slot of its user's: one in flight is left, ignored from then on; one that is completed goes.
abbrev pub DropsThis : {B : Type 0} → map.FinMap nat_cmp (Slot B) → ℕ → map.FinMap nat_cmp (Slot B) → Slot B → AfterDrop → Type 0
DropsThis old key new slot Left = (is_flying slot.life ≡ true) × (new ≡ map.insert old key (with_life slot Ignored))
DropsThis old key new slot Free = (is_flying slot.life ≡ false) × (new ≡ map.remove old key)

abbrev pub DropsAt : {B : Type 0} → map.FinMap nat_cmp (Slot B) → ℕ → map.FinMap nat_cmp (Slot B) → AfterDrop → Type 0
DropsAt {B} old key new answer = (slot : Slot B) → map.get old key ≡ Some slot → DropsThis old key new slot answer

-- The slots once a slot of some life is completed: an ignored one is freed.
abbrev pub slots_completed : {B : Type 0} → Lifecycle Outcome → map.FinMap nat_cmp (Slot B) → ℕ → Slot B → map.FinMap nat_cmp (Slot B)
slots_completed Submitted old key slot = map.insert old key slot
slots_completed (Waiting task) old key slot = map.insert old key slot
slots_completed Ignored old key slot = map.remove (map.insert old key slot) key
slots_completed (Completed outcome) old key slot = map.insert old key slot

-- Who is named by a completion of a slot that was looked up: its number and the task that waits; None where it isn't in flight.
abbrev pub named_if : {B : Type 0} → Bool → Slot B → Option (ℕ × Option ℕ)
named_if true slot = Some (slot.serial, task_in slot.life)
named_if false slot = None

abbrev pub named_by : {B : Type 0} → Option (Slot B) → Option (ℕ × Option ℕ)
named_by None = None
named_by (Some slot) = named_if (is_flying slot.life) slot

-- The slots after a completion of a slot that was looked up: one in flight is completed, or freed, and nothing else changes.
abbrev pub slots_if : {B : Type 0} → Bool → map.FinMap nat_cmp (Slot B) → Completion → Slot B → map.FinMap nat_cmp (Slot B)
slots_if true slots completion slot = slots_completed slot.life slots completion.word (with_life slot (Completed completion.outcome))
slots_if false slots completion slot = slots

abbrev pub slots_after : {B : Type 0} → map.FinMap nat_cmp (Slot B) → Completion → Option (Slot B) → map.FinMap nat_cmp (Slot B)
slots_after slots completion None = slots
slots_after slots completion (Some slot) = slots_if (is_flying slot.life) slots completion slot

-- A completion was treated by the slot that its word names.
pub record CompletesSlot {B : Type 0} (old : map.FinMap nat_cmp (Slot B)) (completion : Completion) (new : map.FinMap nat_cmp (Slot B))
    (result : Option (ℕ × Option ℕ)) : Type 0 where
  pub answer : result ≡ named_by (map.get old completion.word)
  pub slots : new ≡ slots_after old completion (map.get old completion.word)

-- The bytes that the slot that was looked up lends to the ring.
abbrev pub shown_in : {B : Type 0} → (B → Buffer) → Option (Slot B) → List ℕ
shown_in buffer None = []
shown_in buffer (Some slot) = shown_by (plain_request buffer slot.request)

-- A slot has bytes that came stored in what its request holds, and nothing else of it changed.
pub record IsFilled {B : Type 0} (buffer : B → Buffer) (old : map.FinMap nat_cmp (Slot B)) (key : ℕ) (bytes : List ℕ)
    (new : map.FinMap nat_cmp (Slot B)) (slot : Slot B) : Type 0 where
  pub after : Slot B
  pub slots : new ≡ map.insert old key after
  pub serial : after.serial ≡ slot.serial
  pub life : after.life ≡ slot.life
  pub request :
      IsHolding (plain_request buffer slot.request) (held_after (plain_request buffer slot.request) bytes)
      (plain_request buffer after.request)

-- So many bytes fit what the request of the slot that was looked up holds. None do where there is no slot.
abbrev pub fits_in : {B : Type 0} → (B → Buffer) → Option (Slot B) → ℕ → Bool
fits_in buffer None count = false
fits_in buffer (Some slot) count = nat_le count (room_of (plain_request buffer slot.request))

-- What storing bytes that came does to the slot at a key: bytes that fit are stored in it; else nothing changes.
abbrev pub FillsIf : {B : Type 0} → (B → Buffer) → Bool → map.FinMap nat_cmp (Slot B) → ℕ → List ℕ → map.FinMap nat_cmp (Slot B) → Type 0
FillsIf {B} buffer true old key bytes new = (slot : Slot B) → map.get old key ≡ Some slot → IsFilled buffer old key bytes new slot
FillsIf buffer false old key bytes new = new ≡ old

abbrev pub FillsSlot : {B : Type 0} → (B → Buffer) → map.FinMap nat_cmp (Slot B) → ℕ → List ℕ → map.FinMap nat_cmp (Slot B) → Type 0
FillsSlot buffer old key bytes new = FillsIf buffer (fits_in buffer (map.get old key) (length bytes)) old key bytes new

-- At each key the number stays, where the slot's operation is its user's, and no such key comes or goes.
abbrev pub KeepsNumbers : {B : Type 0} → map.FinMap nat_cmp (Slot B) → map.FinMap nat_cmp (Slot B) → Type 0
KeepsNumbers old new = (key : ℕ) → number_at new key ≡ number_at old key
