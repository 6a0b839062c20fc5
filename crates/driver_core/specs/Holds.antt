-- Which handles operations hold, by their slots and in a table of holders. Cited by each driver.
use Rattle.std.specs.Prelude.{ℕ, ◌≡◌, ◌<◌, ◌==◌, ◌&&◌, nat_lt, Bool, true, false, is_some, List, [], ◌∷◌, length, Option, Some, None}
use Rattle.std.specs.Ordering.{nat_cmp}
use Rattle.std.specs.FinMap as map
use Rattle.handle_core.specs.declared.table.TheConstants.{MAX_HOLDS}
use Rattle.handle_core.specs.declared.table.Holders.{Holders}
use Rattle.handle_core.specs.Table.{Table, IsHeld, holders_at, with_holders, without_handle, with_operation, without_operation}
use Rattle.op_slots.specs.declared.lifecycle.Lifecycle.{Lifecycle}
use Rattle.op_slots.specs.declared.lifecycle.Lifecycle.TheVariants.{Submitted, Waiting, Ignored, Completed}
use Rattle.machine.specs.declared.request.Outcome.{Outcome}
use Rattle.machine.specs.Lists.{has_number, numbers_where}
use Rattle.machine.specs.Request.{named, makes}
use Rattle.machine.specs.Effect.{made_by}
use Rattle.machine.specs.Ledger.{Ledger, Operation, is_live, user_holds, with_made}
use Rattle.driver_core.specs.declared.slot.Slot.{Slot}
use Rattle.driver_core.specs.Slot.{is_flying}
use Rattle.driver_core.specs.Slots.{life_at}

-- The handles that the slot that was looked up names; none where there is no slot.
abbrev pub named_in : {B : Type 0} → Option (Slot B) → List ℕ
named_in None = []
named_in (Some slot) = named slot.request

-- The handle that an operation of this life made, once it is reaped: the one that its outcome names, where it names one.
abbrev pub made_life : Lifecycle Outcome → Option ℕ
made_life Submitted = None
made_life (Waiting task) = None
made_life Ignored = None
made_life (Completed outcome) = made_by outcome

-- The handle that the operation of the slot that was looked up made, once it is reaped.
abbrev pub made_in : {B : Type 0} → Option (Slot B) → Option ℕ
made_in None = None
made_in (Some slot) = made_life slot.life

-- The handles that the operation of the slot that was looked up holds: those that its request names, and the one that it made.
abbrev pub held_in : {B : Type 0} → Option (Slot B) → List ℕ
held_in slot = with_made (made_in slot) (named_in slot)

-- The slot that was looked up is in flight, and its request may make a handle.
abbrev pub is_maker : {B : Type 0} → Option (Slot B) → Bool
is_maker None = false
is_maker (Some slot) = is_flying slot.life && makes slot.request

-- An operation of this life was dropped.
abbrev pub is_dropped_life : Lifecycle Outcome → Bool
is_dropped_life Submitted = false
is_dropped_life (Waiting task) = false
is_dropped_life Ignored = true
is_dropped_life (Completed outcome) = false

-- The operation of the slot that was looked up was dropped.
abbrev pub is_dropped : {B : Type 0} → Option (Slot B) → Bool
is_dropped None = false
is_dropped (Some slot) = is_dropped_life slot.life

-- These handles, where an operation was dropped.
abbrev pub if_dropped : Lifecycle Outcome → List ℕ → List ℕ
if_dropped Submitted handles = []
if_dropped (Waiting task) handles = []
if_dropped Ignored handles = handles
if_dropped (Completed outcome) handles = []

-- The handles that the slot that was looked up names, where its operation was dropped: it leaves once it is completed.
abbrev pub dropped_in : {B : Type 0} → Option (Slot B) → List ℕ
dropped_in None = []
dropped_in (Some slot) = if_dropped slot.life (named slot.request)

-- So many slots pass a test: a map of so many keys has the keys of these slots, and no other.
pub record Number {B : Type 0} (passes : Option (Slot B) → Bool) (slots : map.FinMap nat_cmp (Slot B)) (count : ℕ) : Type 0 where
  pub keys : map.FinMap nat_cmp ℕ
  pub few : map.len keys ≡ count
  pub each : (key : ℕ) → is_some (map.get keys key) ≡ passes (map.get slots key)

-- A table counts the operations in slots: as many hold a handle as slots hold it.
abbrev pub AreCounted : {B : Type 0} → Table → map.FinMap nat_cmp (Slot B) → Type 0
AreCounted table slots = (h : ℕ) → Number (λ slot. has_number h (held_in slot)) slots (holders_at table h).operations

-- So many slots are in flight and may make a handle.
abbrev pub AreMaking : {B : Type 0} → map.FinMap nat_cmp (Slot B) → ℕ → Type 0
AreMaking slots count = Number is_maker slots count

-- No operation in a slot made a handle that its request names.
abbrev pub AreApart : {B : Type 0} → map.FinMap nat_cmp (Slot B) → Type 0
AreApart slots = (key h : ℕ) → made_in (map.get slots key) ≡ Some h → has_number h (named_in (map.get slots key)) ≡ false

-- Nobody is among these holders.
abbrev pub is_nobody : Holders → Bool
is_nobody held = held.user == 0 && held.operations == 0

-- The table with these holders of a handle; where that is nobody, the handle leaves it.
abbrev pub settle_if : Bool → Table → ℕ → Holders → Table
settle_if true table h held = without_handle table h
settle_if false table h held = with_holders table h held

abbrev pub settled : Table → ℕ → Holders → Table
settled table h held = settle_if (is_nobody held) table h held

-- The holders of a handle once an operation that named it is gone.
abbrev pub left_holders : Table → ℕ → Holders
left_holders table h = without_operation (holders_at table h)

-- The table once an operation that names these handles was submitted.
abbrev pub with_ops : Table → List ℕ → Table
with_ops table [] = table
with_ops table (h ∷ handles) = with_ops (with_holders table h (with_operation (holders_at table h))) handles

-- The table once an operation that named these handles is gone.
abbrev pub without_ops : Table → List ℕ → Table
without_ops table [] = table
without_ops table (h ∷ handles) = without_ops (settled table h (left_holders table h)) handles

-- A handle in front of others, where nobody holds it.
abbrev pub front_if : Bool → ℕ → List ℕ → List ℕ
front_if true h handles = h ∷ handles
front_if false h handles = handles

-- Of the handles that an operation named which is gone, those that nobody holds any more.
abbrev pub unheld_by : Table → List ℕ → List ℕ
unheld_by table [] = []
unheld_by table (h ∷ handles) =
    front_if (is_nobody (left_holders table h)) h (unheld_by (settled table h (left_holders table h)) handles)

-- An operation may hold each of these handles once more: each is in the table, and operations have fewer than `MAX_HOLDS` holds of it.
abbrev pub CanJoin : Table → List ℕ → Type 0
CanJoin table [] = Unit {0}
CanJoin table (h ∷ handles) = IsHeld table h × ((holders_at table h).operations < MAX_HOLDS)
    × CanJoin (with_holders table h (with_operation (holders_at table h))) handles

-- An operation that holds each of these handles may leave.
abbrev pub CanLeave : Table → List ℕ → Type 0
CanLeave table [] = Unit {0}
CanLeave table (h ∷ handles) = (0 < (holders_at table h).operations) × CanLeave (settled table h (left_holders table h)) handles

-- What a driver sees an operation hold: what its request names, and the handle that it made once it is reaped. Before that a driver knows
-- nothing of the handle.
abbrev pub seen : Operation → List ℕ
seen operation = with_made (made_life (life_at operation)) (named operation.request)

-- A driver sees an operation hold a handle.
abbrev pub is_seen : ℕ → Operation → Bool
is_seen h operation = is_live operation && has_number h (seen operation)

-- The operations that a driver sees hold a handle, ascending.
abbrev pub seen_ops : Ledger → ℕ → List ℕ
seen_ops L h = numbers_where (is_seen h) 0 L.ops

-- A table stands for the holders of a ledger's handles: it counts the operations that are seen to hold each, and its user holds one, once
-- or more, exactly where it does in the ledger.
pub record HoldersStand (table : Table) (L : Ledger) : Type 0 where
  pub users : (h : ℕ) → nat_lt 0 (holders_at table h).user ≡ user_holds L h
  pub operations : (h : ℕ) → (holders_at table h).operations ≡ length (seen_ops L h)
