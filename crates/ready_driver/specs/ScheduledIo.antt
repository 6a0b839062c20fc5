-- What waits on a handle, as contracts see it. Cited by `ScheduledIo`.
use Rattle.std.specs.Prelude.{ℕ, ◌≡◌, ◌≢◌, ◌≤◌, ◌==◌, ⊤, Bool, not, List, [], ◌∷◌, length, Option, Some, None}
use Rattle.std.specs.Prelude.{if◌then◌else◌, filter, find, map, option_map}
use Rattle.ready_driver.specs.declared.ready.Direction.{Direction}
use Rattle.ready_driver.specs.declared.scheduled_io.Waiter.{Waiter}
use Rattle.ready_driver.specs.Ready.{meets, mask_of}
use Rattle.ready_driver.specs.Rooms.{Rooms, room_of}

-- The bits of a handle, and what waits for them, in the order in which it began to wait.
pub record Scheduled : Type 0 where
  pub ready : ℕ
  pub waiting : List Waiter

-- The entry of an operation that waits with a task.
abbrev pub entry_of : ℕ → ℕ → Direction → Waiter
entry_of serial task dir = record { serial = serial; task = task; direction = dir }

-- The waiting entry of an operation, if it waits.
abbrev pub waiter_of : List Waiter → ℕ → Option Waiter
waiter_of waiting serial = find (λ w. w.serial == serial) waiting

-- An operation waits, in this direction.
abbrev pub IsWaitingIn : List Waiter → ℕ → Direction → Type 0
IsWaitingIn waiting serial dir = option_map (λ w. w.direction) (waiter_of waiting serial) ≡ Some dir

-- What waits once an operation does with this entry: it is in the place of its older one, or at the end if it had none.
abbrev pub kept : List Waiter → Waiter → List Waiter
kept [] entry = entry ∷ []
kept (w ∷ ws) entry = if w.serial == entry.serial then entry ∷ ws else w ∷ kept ws entry

-- What waits without an operation. The others stay in order.
abbrev pub forgotten : List Waiter → ℕ → List Waiter
forgotten waiting serial = filter (λ w. not (w.serial == serial)) waiting

-- A set of bits meets the direction of an entry.
abbrev pub is_met : ℕ → Waiter → Bool
is_met ready w = meets ready (mask_of w.direction)

-- The entries that a set of bits takes, in order.
abbrev pub taken : ℕ → List Waiter → List Waiter
taken ready waiting = filter (is_met ready) waiting

-- The entries that a set of bits leaves, in order.
abbrev pub left : ℕ → List Waiter → List Waiter
left ready waiting = filter (λ w. not (is_met ready w)) waiting

-- The tasks of entries.
abbrev pub tasks_of : List Waiter → List ℕ
tasks_of waiting = map (λ w. w.task) waiting

-- What a set of bits leaves of the entry of one operation: nothing if it meets the direction.
abbrev pub unless_met : ℕ → Option Waiter → Option Waiter
unless_met ready None = None
unless_met ready (Some w) = if is_met ready w then None else Some w

-- No operation has two entries: none behind an entry is of the same one.
abbrev pub IsOnceEach : List Waiter → Type 0
IsOnceEach [] = ⊤
IsOnceEach (w ∷ ws) = (waiter_of ws w.serial ≡ None) × IsOnceEach ws

-- The entry of one operation became this, and that of each other stayed.
pub record ChangesOnly (old new : List Waiter) (serial : ℕ) (entry : Option Waiter) : Type 0 where
  pub own : waiter_of new serial ≡ entry
  pub others : (n : ℕ) → n ≢ serial → waiter_of new n ≡ waiter_of old n

-- Memory is reserved for so many tasks, for the direction of each entry.
abbrev pub HasRoom : Rooms → ℕ → List Waiter → Type 0
HasRoom rooms count [] = ⊤
HasRoom rooms count (w ∷ ws) = (count ≤ room_of rooms w.direction) × HasRoom rooms count ws

-- What the body keeps true: no operation waits twice, and a wake finds memory for the tasks of all that wait.
pub record IsSound (waiting : List Waiter) (rooms : Rooms) : Type 0 where
  pub once : IsOnceEach waiting
  pub room : HasRoom rooms (length waiting) waiting
