-- The laws of linked submissions: what an operation waits for, and what becomes of it, at every capacity. `headline` states them.
use Rattle.std.specs.Prelude.{ℕ, zero, suc, ◌≡◌, ◌<◌, ◌≤◌, ◌⊎◌, ◌↔◌, true, List, ◌++◌, length, Some, None, slice_get}
use Rattle.machine.specs.declared.request.Told.{Told}
use Rattle.machine.specs.declared.request.Told.TheVariants.{Count, Fail}
use Rattle.machine.specs.declared.ledger.Event.{Event}
use Rattle.machine.specs.declared.ledger.Event.TheVariants.{Exec}
use Rattle.machine.specs.Lists.{passes}
use Rattle.machine.specs.Ledger.{Ledger, Operation, InFlight, Req, Op}
use Rattle.machine.specs.Refusal.{cause}
use Rattle.machine.specs.Run.{ledger_before, IsExecuted}
use Rattle.run_laws.specs.Transfers.{Transfer, event_moves}
use Rattle.run_laws.specs.Bytes.{transfers_before}

-- An operation waits for another.
pub record IsWaiting (L : Ledger) (n leader : ℕ) : Type 0 where
  pub operation : Operation
  pub there : slice_get L.ops n ≡ Some operation
  pub waits : operation.waits_for ≡ Some leader

-- An operation is in flight, directly behind another.
pub record IsBehind (L : Ledger) (n leader : ℕ) : Type 0 where
  pub place : ℕ
  pub ahead : slice_get L.flying place ≡ Some (Op leader)
  pub next : slice_get L.flying (suc place) ≡ Some (Op n)

-- An operation's request stands in the queue, directly behind that of a linked one.
pub record IsNext (L : Ledger) (n leader : ℕ) : Type 0 where
  pub place : ℕ
  pub ahead : slice_get L.queue place ≡ Some (Req leader)
  pub next : slice_get L.queue (suc place) ≡ Some (Req n)
  pub linked : passes (λ operation. operation.linked) (slice_get L.ops leader) ≡ true

-- So it stands after each event too, until both are taken by one: then it waits for the linked one.
abbrev pub WaitsOnceTaken : ℕ → List Event → Type 0
WaitsOnceTaken capacity events =
    (i n leader : ℕ) → i < length events → IsNext (ledger_before capacity events i) n leader →
    IsNext (ledger_before capacity events (suc i)) n leader ⊎ IsWaiting (ledger_before capacity events (suc i)) n leader

-- Nothing else waits: what waits after an event did so before it, or stood in the queue directly behind that one, which is linked.
abbrev pub WaitsOnlyTaken : ℕ → List Event → Type 0
WaitsOnlyTaken capacity events =
    (i n leader : ℕ) → i < length events → IsWaiting (ledger_before capacity events (suc i)) n leader →
    IsWaiting (ledger_before capacity events i) n leader ⊎ IsNext (ledger_before capacity events i) n leader

-- At each moment of a run an operation that waits for another is in flight, directly behind it.
abbrev pub WaitsBehind : ℕ → List Event → Type 0
WaitsBehind capacity events =
    (i n leader : ℕ) → IsWaiting (ledger_before capacity events i) n leader → IsBehind (ledger_before capacity events i) n leader

-- The event at i is an Exec that isn't refused, of the operation n, with this report.
pub record Runs (capacity : ℕ) (events : List Event) (n i : ℕ) (told : Told) : Type 0 where
  pub place : ℕ
  pub event : slice_get events i ≡ Some (Exec place told)
  pub unrefused : cause (ledger_before capacity events i) (Exec place told) ≡ None
  pub there : slice_get (ledger_before capacity events i).flying place ≡ Some (Op n)

-- An operation that is executed itself waits for none.
abbrev pub StartsFree : ℕ → List Event → Type 0
StartsFree capacity events =
    (n i leader : ℕ) (told : Told) → Runs capacity events n i told → IsWaiting (ledger_before capacity events i) n leader → ⊥

-- Where an operation fails, the one that waits for it ends by the same event.
abbrev pub BreaksWithLeader : ℕ → List Event → Type 0
BreaksWithLeader capacity events =
    (n leader i error : ℕ) → Runs capacity events leader i (Fail error) → IsWaiting (ledger_before capacity events i) n leader →
    IsExecuted capacity events n i (Fail error) (Op leader)

-- An operation is in flight, and waits for none.
pub record IsFree (L : Ledger) (n : ℕ) : Type 0 where
  pub operation : Operation
  pub there : slice_get L.ops n ≡ Some operation
  pub flies : operation.place ≡ InFlight
  pub free : operation.waits_for ≡ None

-- Where an operation ends otherwise, the one that waits for it is in flight still, and waits for none.
abbrev pub StartsBehindLeader : ℕ → List Event → Type 0
StartsBehindLeader capacity events =
    (n leader i count : ℕ) → Runs capacity events leader i (Count count) → IsWaiting (ledger_before capacity events i) n leader →
    IsFree (ledger_before capacity events (suc i)) n

-- At an event from i on, before j, the operation is executed, and doesn't fail.
pub record EndsBetween (capacity : ℕ) (events : List Event) (n i j : ℕ) : Type 0 where
  pub at : ℕ
  pub count : ℕ
  pub behind : i ≤ at
  pub before : at < j
  pub runs : Runs capacity events n at (Count count)

-- An operation that waits for another at a moment is executed itself only once that one was executed after the moment, and didn't fail.
abbrev pub StartsAfterLeader : ℕ → List Event → Type 0
StartsAfterLeader capacity events =
    (n leader i j : ℕ) (told : Told) → IsWaiting (ledger_before capacity events i) n leader → Runs capacity events n j told →
    EndsBetween capacity events leader i j

-- An operation waits for another, by so many others between them.
abbrev pub IsChained : Ledger → ℕ → ℕ → ℕ → Type 0
IsChained L n leader zero = IsWaiting L n leader
IsChained L n leader (suc between) = (m : ℕ) × IsWaiting L n m × IsChained L m leader between

-- What a failed operation takes with it is exactly its chain: what waits for it, for that one, and so on.
abbrev pub BreaksChain : ℕ → List Event → Type 0
BreaksChain capacity events =
    (n leader i error : ℕ) → Runs capacity events leader i (Fail error) → (n ≡ leader → ⊥) →
    IsExecuted capacity events n i (Fail error) (Op leader) ↔ ((between : ℕ) × IsChained (ledger_before capacity events i) n leader between)

-- An operation is done, directly behind another.
pub record IsDoneBehind (L : Ledger) (n m : ℕ) : Type 0 where
  pub place : ℕ
  pub ahead : slice_get L.done place ≡ Some (Op m)
  pub next : slice_get L.done (suc place) ≡ Some (Op n)

-- A chain completes in order: what waits for the operation that fails, or for one that ends with it, completes directly behind that one.
abbrev pub CompletesInOrder : ℕ → List Event → Type 0
CompletesInOrder capacity events =
    (n m leader i error : ℕ) → Runs capacity events leader i (Fail error) → IsExecuted capacity events m i (Fail error) (Op leader) →
    IsWaiting (ledger_before capacity events i) n m → IsDoneBehind (ledger_before capacity events (suc i)) n m

-- What an operation moved at a handle that was executed at an event is among the transfers there before a later one.
pub record MovedBefore (capacity : ℕ) (events : List Event) (h n at j : ℕ) (told : Told)
    (runs : Runs capacity events n at told) : Type 0 where
  pub between : List Transfer
  pub moved : transfers_before capacity events h j
      ≡ transfers_before capacity events h at ++ event_moves h (ledger_before capacity events at) (Exec runs.place told) ++ between

-- So the bytes of a chain move in its order: before one that waited moves any at a handle, its leader has moved its own.
abbrev pub MovesBehindLeader : ℕ → List Event → Type 0
MovesBehindLeader capacity events =
    (n leader i j h : ℕ) (told : Told) → IsWaiting (ledger_before capacity events i) n leader → Runs capacity events n j told →
    (e : EndsBetween capacity events leader i j) × MovedBefore capacity events h leader e.at j (Count e.count) e.runs
