-- The ledger after events, the replies, and the moments of an operation.
use Rattle.std.specs.List.{list_any}
use Rattle.std.specs.Prelude.{ℕ, suc, ◌≡◌, ◌<◌, ◌≤◌, ◌==◌, Bool, true, false, if◌then◌else◌, List, [], ◌∷◌, take, Option, Some, None}
use Rattle.std.specs.Prelude.{slice_get}
use Rattle.rent_buf.specs.Buffer.{Buffer}
use Rattle.rent_buf.specs.Parts.{Parts}
use Rattle.rent_buf.specs.Held.{HeldBuf}
use Rattle.machine.specs.declared.request.Request.{Request}
use Rattle.machine.specs.declared.request.Told.{Told}
use Rattle.machine.specs.declared.request.Outcome.{Outcome}
use Rattle.machine.specs.declared.ledger.Event.{Event}
use Rattle.machine.specs.declared.ledger.Event.TheVariants.{Submit, Turn, Exec}
use Rattle.machine.specs.declared.ledger.Reply.{Reply}
use Rattle.machine.specs.declared.ledger.Reply.TheVariants.{Submitted}
use Rattle.machine.specs.declared.request.TheConstants.{CANCELED}
use Rattle.machine.specs.Ledger.{Ledger, Item, Op, empty}
use Rattle.machine.specs.Refusal.{cause}
use Rattle.machine.specs.Turn.{effect_of, is_op}
use Rattle.machine.specs.Request.{held, held_of}
use Rattle.machine.specs.Step.{step}

-- The ledger after events.
abbrev pub after : Ledger → List Event → Ledger
after L [] = L
after L (event ∷ events) = after (step L event).0 events

-- The replies to events.
abbrev pub replies : Ledger → List Event → List Reply
replies L [] = []
replies L (event ∷ events) = (step L event).1 ∷ replies (step L event).0 events

-- The fold of `step` from the empty ledger.
abbrev pub ledger : ℕ → List Event → Ledger
ledger capacity events = after (empty capacity) events

-- The ledger before the event at i.
abbrev pub ledger_before : ℕ → List Event → ℕ → Ledger
ledger_before capacity events i = ledger capacity (take i events)

-- The event at i got the reply Submitted n; it submitted a request, under a cancel handle or none, and linked or not.
pub record IsGiven (capacity : ℕ) (events : List Event) (n i : ℕ) : Type 0 where
  pub request : Request Buffer Parts
  pub under : Option ℕ
  pub linked : Bool
  pub event : slice_get events i ≡ Some (Submit request under linked)
  pub reply : slice_get (replies (empty capacity) events) i ≡ Some (Submitted n)

-- The event at i is the unrefused Exec at which Op n leaves `flying`; it reports this of the item at its place.
pub record IsExecuted (capacity : ℕ) (events : List Event) (n i : ℕ) (told : Told) (item : Item) : Type 0 where
  pub place : ℕ
  pub event : slice_get events i ≡ Some (Exec place told)
  pub unrefused : cause (ledger_before capacity events i) (Exec place told) ≡ None
  pub there : slice_get (ledger_before capacity events i).flying place ≡ Some item
  pub flew : list_any (is_op n) (ledger_before capacity events i).flying ≡ true
  pub left : list_any (is_op n) (ledger_before capacity events (suc i)).flying ≡ false

-- The event at i is the first Turn after the event at j.
pub record IsFirstTurn (events : List Event) (j i : ℕ) : Type 0 where
  pub behind : j < i
  pub event : slice_get events i ≡ Some Turn
  pub first : (k : ℕ) → j < k → slice_get events k ≡ Some Turn → i ≤ k

-- The event at i reaps n: it is the first Turn after the execution of n.
pub record IsReaped (capacity : ℕ) (events : List Event) (n i : ℕ) : Type 0 where
  pub exec : ℕ
  pub told : Told
  pub item : Item
  pub executed : IsExecuted capacity events n exec told item
  pub turn : IsFirstTurn events exec i

-- What an operation of a request ends with, where an item is executed with a report: it is that item, or its leader failed.
abbrev pub own_answer : Ledger → ℕ → Item → Request Buffer Parts → Told → Outcome × HeldBuf
own_answer L n (Op m) request told =
    if n == m
    then ((effect_of L request told).outcome, held request told (effect_of L request told).got)
    else (Outcome.Fail CANCELED, held_of request)
own_answer L n (Item.Close h) request told = (Outcome.Fail CANCELED, held_of request)

-- An operation's own outcome and own buffer, read from the events that submitted and executed it.
pub record IsOwn (capacity : ℕ) (events : List Event) (n : ℕ) (outcome : Outcome) (buffer : HeldBuf) : Type 0 where
  pub given : ℕ
  pub exec : ℕ
  pub told : Told
  pub is_given : IsGiven capacity events n given
  pub item : Item
  pub is_executed : IsExecuted capacity events n exec told item
  pub outcome_is : outcome ≡ (own_answer (ledger_before capacity events exec) n item is_given.request told).0
  pub buffer_is : buffer ≡ (own_answer (ledger_before capacity events exec) n item is_given.request told).1
