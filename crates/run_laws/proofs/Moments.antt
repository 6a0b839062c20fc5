-- The history of an operation before the event at k: what submitted, executed, reaped, returned or dropped it, by what the ledger
-- keeps of it.
use Rattle.std.proofs.Common.{◌≡◌, ℕ, ◌<◌, Bool, true, false, List, Option, Some, None, slice_get, sym, ◌∙◌, ap, true≢false}
use Rattle.rent_buf.specs.Buffer.{Buffer}
use Rattle.rent_buf.specs.Parts.{Parts}
use Rattle.rent_buf.specs.Held.{HeldBuf}
use Rattle.machine.specs.declared.request.Request.{Request}
use Rattle.machine.specs.declared.request.Told.{Told}
use Rattle.machine.specs.declared.request.Outcome.{Outcome}
use Rattle.machine.specs.declared.ledger.Event.{Event}
use Rattle.machine.specs.declared.ledger.Event.TheVariants.{Submit, Poll, Drop, Turn, Exec}
use Rattle.machine.specs.declared.ledger.Reply.{Reply}
use Rattle.machine.specs.declared.ledger.Reply.TheVariants.{Submitted, Handed, Dropped}
use Rattle.machine.specs.Ledger.{Operation, Place, InQueue, InFlight, InDone, Reaped, Gone, Item, empty, is_kept}
use Rattle.machine.specs.Run.{replies, IsGiven, IsExecuted, IsFirstTurn, IsOwn}
use Rattle.run_laws.specs.Moments.{IsHanded, IsDropped, IsReapedBefore, IsHandedBefore, IsDroppedBefore}

-- Nothing before k is so.
abbrev pub NotBefore : (ℕ → Type 0) → ℕ → Type 0
NotBefore P k = (j : ℕ) → j < k → P j → ⊥

-- The event at j executes n.
abbrev pub Executes : ℕ → List Event → ℕ → ℕ → Type 0
Executes capacity events n j = (told : Told) × (item : Item) × IsExecuted capacity events n j told item

-- The event at j hands n over.
abbrev pub Hands : ℕ → List Event → ℕ → ℕ → Type 0
Hands capacity events n j = IsHanded events (replies (empty capacity) events) n j

-- The event at j drops n.
abbrev pub Drops : ℕ → List Event → ℕ → ℕ → Type 0
Drops capacity events n j = IsDropped events (replies (empty capacity) events) n j

-- n was given before k, with this request.
pub record Given (capacity : ℕ) (events : List Event) (k n : ℕ) (request : Request Buffer Parts) : Type 0 where
  pub at : ℕ
  pub before : at < k
  pub under : Option ℕ
  pub linked : Bool
  pub event : slice_get events at ≡ Some (Submit request under linked)
  pub reply : slice_get (replies (empty capacity) events) at ≡ Some (Submitted n)

-- n was executed before k, and no Turn came since.
pub record Stands (capacity : ℕ) (events : List Event) (k n : ℕ) (outcome : Outcome) (buffer : HeldBuf) : Type 0 where
  pub own : IsOwn capacity events n outcome buffer
  pub given_first : own.given < own.exec
  pub before : own.exec < k
  pub no_turn : (t : ℕ) → own.exec < t → t < k → slice_get events t ≡ Some Turn → ⊥

-- n was executed, and the first Turn after it came before k.
pub record WasReaped (capacity : ℕ) (events : List Event) (k n : ℕ) (outcome : Outcome) (buffer : HeldBuf) : Type 0 where
  pub own : IsOwn capacity events n outcome buffer
  pub given_first : own.given < own.exec
  pub turn : ℕ
  pub first : IsFirstTurn events own.exec turn
  pub before : turn < k

-- That is its reap, before the event at k.
pub reaped-before : (capacity : ℕ) (events : List Event) (k n : ℕ) (outcome : Outcome) (buffer : HeldBuf) →
    WasReaped capacity events k n outcome buffer → IsReapedBefore capacity events n k
reaped-before capacity events k n outcome buffer s =
    record {
      reap = s.turn;
      before = s.before;
      reaped = record {
        exec = s.own.exec;
        told = s.own.told;
        item = s.own.item;
        executed = s.own.is_executed;
        turn = s.first;
      };
    }

-- What happened to an operation that is at a place: its execution, and its reap.
abbrev pub Placed : ℕ → List Event → ℕ → ℕ → HeldBuf → Place → Type 0
Placed capacity events k n buffer InQueue = NotBefore (Executes capacity events n) k
Placed capacity events k n buffer InFlight = NotBefore (Executes capacity events n) k
Placed capacity events k n buffer (InDone outcome) = Stands capacity events k n outcome buffer
Placed capacity events k n buffer (Reaped outcome) = WasReaped capacity events k n outcome buffer
Placed capacity events k n buffer Gone = IsReapedBefore capacity events n k

-- What its user did with an operation that was dropped, or wasn't, and is there, or is gone: where it wasn't dropped and is gone it
-- was returned.
abbrev pub Owned : ℕ → List Event → ℕ → ℕ → Bool → Bool → Type 0
Owned capacity events k n true kept = IsDroppedBefore events (replies (empty capacity) events) n k
Owned capacity events k n false true = NotBefore (Hands capacity events n) k × NotBefore (Drops capacity events n) k
Owned capacity events k n false false = IsHandedBefore events (replies (empty capacity) events) n k

-- The history of an operation, read from what the ledger keeps of it.
pub record Had (capacity : ℕ) (events : List Event) (k n : ℕ) (request : Request Buffer Parts) (buffer : HeldBuf) (dropped : Bool)
    (place : Place) : Type 0 where
  pub given : Given capacity events k n request
  pub placed : Placed capacity events k n buffer place
  pub owned : Owned capacity events k n dropped (is_kept place)

-- A number that wasn't given has no history.
pub record Unknown (capacity : ℕ) (events : List Event) (k n : ℕ) : Type 0 where
  pub ungiven : NotBefore (IsGiven capacity events n) k
  pub unexecuted : NotBefore (Executes capacity events n) k
  pub unhanded : NotBefore (Hands capacity events n) k
  pub undropped : NotBefore (Drops capacity events n) k

-- What happened to what has the number n.
abbrev pub History : ℕ → List Event → ℕ → ℕ → Option Operation → Type 0
History capacity events k n None = Unknown capacity events k n
History capacity events k n (Some o) = Had capacity events k n o.request o.buffer o.dropped o.place

-- An event with this reply neither gives, nor hands over, nor drops n.
pub record IsCalm (e : Event) (r : Reply) (n : ℕ) : Type 0 where
  pub gives_none : r ≡ Submitted n → ⊥
  pub hands_none : (task : ℕ) (outcome : Outcome) (buffer : HeldBuf) → e ≡ Poll n task → r ≡ Handed outcome buffer → ⊥
  pub drops_none : e ≡ Drop n → r ≡ Dropped → ⊥

-- An event is an Exec.
abbrev pub is_exec : Event → Bool
is_exec (Exec place told) = true
is_exec _ = false

-- An event that is no Exec executes nothing.
pub no-exec : (capacity : ℕ) (events : List Event) (k : ℕ) (e : Event) → slice_get events k ≡ Some e → is_exec e ≡ false → (n : ℕ) →
    Executes capacity events n k → ⊥
no-exec capacity events k e here none n x =
    let q : e ≡ Exec x.2.place x.0 = (let w = sym here ∙ x.2.event in cc) in
    true≢false (sym (ap is_exec q) ∙ none)
