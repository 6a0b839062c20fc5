-- A waiting list by its entries, with the gaps that operations left. Cited by `WaitList`.
use Rattle.std.specs.Prelude.{ℕ, suc, ◌≡◌, ◌≤◌, ◌<◌, ◌+◌, ◌-◌, ◌==◌, ⊤, Bool, true, false, not, List, [], ◌∷◌, length, Option, Some, None}
use Rattle.std.specs.Prelude.{nat_eq, min, if◌then◌else◌, option_map, slice_index_or, slice_set}
use Rattle.std.specs.HashMap.{HashMap, hash_map_len, get_by}
use Rattle.ready_driver.specs.declared.scheduled_io.Waiter.{Waiter}
use Rattle.ready_driver.specs.declared.scheduled_io.wait_list.Entry.{Entry}
use Rattle.ready_driver.specs.declared.scheduled_io.wait_list.Entry.TheVariants.{Waits, Gap}
use Rattle.ready_driver.specs.ScheduledIo.{waiter_of, kept, forgotten, is_met, IsOnceEach}

-- What waits, and for how many more there is memory.
pub record Line : Type 0 where
  pub waiters : List Waiter
  pub spare : ℕ

-- The number of an entry's operation.
abbrev pub number_of : Entry → ℕ
number_of (Waits w) = w.serial
number_of (Gap serial) = serial

-- The task of an entry's operation; none is numbered 0.
abbrev pub task_of : Entry → ℕ
task_of (Waits w) = w.task
task_of (Gap serial) = 0

-- An entry is no gap.
abbrev pub is_live : Entry → Bool
is_live (Waits w) = true
is_live (Gap serial) = false

-- An operation waits with an entry.
abbrev pub is_of : ℕ → Entry → Bool
is_of serial (Waits w) = w.serial == serial
is_of serial (Gap gone) = false

-- A set of bits takes an entry: its operation waits for a direction that they meet.
abbrev pub is_taken : ℕ → Entry → Bool
is_taken ready (Waits w) = is_met ready w
is_taken ready (Gap serial) = false

-- A set of bits leaves an entry: its operation waits for another direction.
abbrev pub is_left : ℕ → Entry → Bool
is_left ready (Waits w) = not (is_met ready w)
is_left ready (Gap serial) = false

-- What waits: the entries without the gaps.
abbrev pub live : List Entry → List Waiter
live [] = []
live (Waits w ∷ es) = w ∷ live es
live (Gap serial ∷ es) = live es

-- So many of the entries are gaps.
abbrev pub HasGaps : ℕ → List Entry → Type 0
HasGaps gaps entries = gaps + length (live entries) ≡ length entries

-- The entries are in the order of their numbers, which aren't below this one.
abbrev pub IsAscendingFrom : ℕ → List Entry → Type 0
IsAscendingFrom least [] = ⊤
IsAscendingFrom least (e ∷ es) = (least ≤ number_of e) × IsAscendingFrom (suc (number_of e)) es

-- Where a mark says so the entries are in the order of their numbers.
abbrev pub IsInOrder : Bool → List Entry → Type 0
IsInOrder in_order entries = in_order ≡ true → IsAscendingFrom 0 entries

-- The place of an operation's entry, if it waits.
abbrev pub spot_in : ℕ → List Entry → Option ℕ
spot_in serial [] = None
spot_in serial (e ∷ es) = if is_of serial e then Some 0 else option_map suc (spot_in serial es)

-- A table has the place of each operation that waits, by its number, and no other.
pub record IsIndexed {S : Type 0} (places : HashMap ℕ ℕ S) (entries : List Entry) : Type 0 where
  pub at : (n : ℕ) → get_by (nat_eq n) places ≡ spot_in n entries
  pub count : hash_map_len places ≡ length (live entries)

-- For how many more operations there is memory: for their entries, and for their places, but for the first one, which needs none.
abbrev pub spare_of : Bool → List Entry → ℕ → ℕ → ℕ
spare_of true [] entries places = entries
spare_of false [] entries places = min entries places
spare_of in_order (e ∷ es) entries places = min entries (places - length (live (e ∷ es)))

-- An operation has a number above that of the last entry.
abbrev pub IsBehind : List Entry → ℕ → Type 0
IsBehind entries serial = (last : ℕ) (d : Entry) → suc last ≡ length entries → number_of (slice_index_or entries last d) < serial

-- An operation waits with this, at this place: a newer one is put there, and it is forgotten by leaving a gap.
pub record IsPlace (entries : List Entry) (serial at : ℕ) (w : Waiter) : Type 0 where
  pub within : at < length entries
  pub is : (d : Entry) → slice_index_or entries at d ≡ Waits w
  pub own : w.serial ≡ serial
  pub found : waiter_of (live entries) serial ≡ Some w
  pub keeps : (v : Waiter) → v.serial ≡ serial → live (slice_set entries at (Waits v)) ≡ kept (live entries) v
  pub forgets : IsOnceEach (live entries) → live (slice_set entries at (Gap serial)) ≡ forgotten (live entries) serial

-- An operation doesn't wait.
abbrev pub IsAway : List Entry → ℕ → Type 0
IsAway entries serial = waiter_of (live entries) serial ≡ None

-- An operation waits at this place, or not at all where there is a gap.
pub record IsSpot (entries : List Entry) (serial at : ℕ) : Type 0 where
  pub within : at < length entries
  pub waits : (w : Waiter) (d : Entry) → slice_index_or entries at d ≡ Waits w → IsPlace entries serial at w
  pub gone : (n : ℕ) (d : Entry) → slice_index_or entries at d ≡ Gap n → IsAway entries serial
