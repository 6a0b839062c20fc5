-- The replies of a run, one by one: each is that of the step from the ledger before it.
use Rattle.std.proofs.Common.{◌≡◌, ℕ, zero, suc, Bool, true, false, List, [], ◌∷◌, length, take, Option, Some, None, slice_get}
use Rattle.std.proofs.Common.{refl, sym, ◌∙◌, ap}
use Rattle.rent_buf.specs.Buffer.{Buffer}
use Rattle.rent_buf.specs.Parts.{Parts}
use Rattle.machine.specs.declared.request.Request.{Request}
use Rattle.machine.specs.declared.request.Told.{Told}
use Rattle.machine.specs.declared.ledger.Event.{Event}
use Rattle.machine.specs.declared.ledger.Event.TheVariants.{Give, Feed, FeedMessage, End, Look, Close, Submit, Poll, Drop, Cancel, Turn}
use Rattle.machine.specs.declared.ledger.Event.TheVariants.{Exec}
use Rattle.machine.specs.declared.ledger.Event.TheVariants.{NewCanceller, NewHandle, CancelAll}
use Rattle.machine.specs.declared.ledger.Reply.{Reply}
use Rattle.machine.specs.declared.ledger.Reply.TheVariants.{Dropped, ExecutedOp, Refused}
use Rattle.machine.specs.declared.ledger.Refusal.{Refusal}
use Rattle.machine.specs.Ledger.{Ledger, Operation, Place, InQueue, InFlight, InDone, Reaped, Gone, Item, Op, empty}
use Rattle.machine.specs.Ledger.{is_under_marked, group_under}
use Rattle.machine.specs.Refusal.{cause}
use Rattle.machine.specs.Turn.{exec_step}
use Rattle.machine.specs.Step.{step, row, answered, submit_if, poll_at, poll_step, drop_step}
use Rattle.machine.specs.Run.{after, replies, ledger_before, IsExecuted}
pub use Rattle.machine.proofs.Stepping.{step-refused, step-row}
use Rattle.machine.proofs.Stepping.{OwnedAt, found, executed-there}
use Rattle.run_laws.specs.Headline.{RefusedExactly}
use Rattle.run_laws.proofs.Looks.{looked}

-- There is one reply for each event.
pub length-replies : (L : Ledger) (events : List Event) → length (replies L events) ≡ length events
length-replies L [] = refl
length-replies L (e ∷ events) = ap suc (length-replies (step L e).0 events)

-- The reply at i is that of the step from the ledger before it.
pub reply-at : (L : Ledger) (events : List Event) (i : ℕ) (e : Event) → slice_get events i ≡ Some e →
    slice_get (replies L events) i ≡ Some (step (after L (take i events)) e).1
reply-at L [] i e h = cc
reply-at L (x ∷ events) zero e h = let q : x ≡ e = cc in ap (λ y. Some (step L y).1) q
reply-at L (x ∷ events) (suc i) e h = reply-at (step L x).0 events i e h

-- Where there is a reply there is an event.
pub reply-event : (L : Ledger) (events : List Event) (i : ℕ) (r : Reply) → slice_get (replies L events) i ≡ Some r → (e : Event)
    × (slice_get events i ≡ Some e)
reply-event L [] i r h = cc
reply-event L (x ∷ events) zero r h = (x, refl)
reply-event L (x ∷ events) (suc i) r h = reply-event (step L x).0 events i r h

-- The ledger after one event more.
pub after-next : (L : Ledger) (events : List Event) (k : ℕ) (e : Event) → slice_get events k ≡ Some e →
    after L (take (suc k) events) ≡ (step (after L (take k events)) e).0
after-next L [] k e h = cc
after-next L (x ∷ events) zero e h = let q : x ≡ e = cc in ap (λ y. (step L y).0) q
after-next L (x ∷ events) (suc k) e h = after-next (step L x).0 events k e h

-- The reply to an Exec that isn't refused names the operation.
pub executed-row : (L : Ledger) (place m : ℕ) (told : Told) → slice_get L.flying place ≡ Some (Op m) →
    (row L (Exec place told)).1 ≡ ExecutedOp m
executed-row L place m told h = ap (λ x. (exec_step L place told x).1) h

-- The event that executes an operation is answered so, also where it ends others with it.
pub executed-reply : (capacity : ℕ) (events : List Event) (n m i : ℕ) (told : Told) → IsExecuted capacity events n i told (Op m) →
    slice_get (replies (empty capacity) events) i ≡ Some (ExecutedOp m)
executed-reply capacity events n m i told x =
    let L : Ledger = ledger_before capacity events i in
    reply-at (empty capacity) events i (Exec x.place told) x.event
    ∙ ap (λ s. Some s.1) (step-row L (Exec x.place told) x.unrefused)
    ∙ ap Some (executed-row L x.place m told x.there)

-- A Drop that finds an operation is answered so.
pub dropped-row : (L : Ledger) (n : ℕ) → OwnedAt L n → (row L (Drop n)).1 ≡ Dropped
dropped-row L n f = ap (λ x. (drop_step L n x).1) f.there

-- A Poll that finds an operation isn't refused.
place-answers : (L : Ledger) (n task : ℕ) (o : Operation) (p : Place) (c : Refusal) → (poll_at L n task o p).1 ≡ Refused c → ⊥
place-answers L n task o InQueue c h = cc
place-answers L n task o InFlight c h = cc
place-answers L n task o (InDone outcome) c h = cc
place-answers L n task o (Reaped outcome) c h = cc
place-answers L n task o Gone c h = cc

-- An Exec of what is in flight isn't refused.
item-answers : (L : Ledger) (place : ℕ) (told : Told) (item : Item) (c : Refusal) → (exec_step L place told (Some item)).1 ≡ Refused c → ⊥
item-answers L place told (Op m) c h = cc
item-answers L place told (Item.Close k) c h = cc

-- A Submit of a request that isn't refused isn't answered so, under a marked group or not.
submit-answers : (b : Bool) (L : Ledger) (request : Request Buffer Parts) (group : Option ℕ) (linked : Bool) (c : Refusal) →
    (submit_if b L request group linked).1 ≡ Refused c → ⊥
submit-answers true L request group linked c h = cc
submit-answers false L request group linked c h = cc

-- An event that isn't refused isn't answered so.
row-answers : (L : Ledger) (e : Event) (c : Refusal) → cause L e ≡ None → (row L e).1 ≡ Refused c → ⊥
row-answers L (Give kind) c h r = cc
row-answers L (Feed x bytes) c h r = cc
row-answers L (FeedMessage x addr bytes) c h r = cc
row-answers L (End x) c h r = cc
row-answers L (Look x) c h r = looked (λ reply. reply ≡ Refused c → ⊥) L x (λ b q. cc) (λ m q. cc) r
row-answers L (Close x) c h r = cc
row-answers L (Submit request under linked) c h r = submit-answers (is_under_marked L under) L request (group_under L under) linked c r
row-answers L (Poll n task) c h r =
    (let f = found L n h in let a = ap (λ x. (poll_step L n task x).1) f.there in
    place-answers L n task f.operation f.operation.place c (sym a ∙ r))
row-answers L (Drop n) c h r = (let f = found L n h in let a : (row L (Drop n)).1 ≡ Dropped = dropped-row L n f in cc)
row-answers L (Cancel n) c h r = cc
row-answers L NewCanceller c h r = cc
row-answers L (NewHandle k) c h r = cc
row-answers L (CancelAll k) c h r = cc
row-answers L Turn c h r = cc
row-answers L (Exec place told) c h r =
    (let t = executed-there L place told h in item-answers L place told t.0 c (ap (λ x. (exec_step L place told x).1) (sym t.1) ∙ r))

-- What is answered with a refusal has that cause, whatever was looked up.
by_cause : (L : Ledger) (e : Event) (c : Refusal) (x : Option Refusal) → cause L e ≡ x → (answered x L e).1 ≡ Refused c → cause L e ≡ Some c
by_cause L e c None h r = absurd (row-answers L e c h r)
by_cause L e c (Some d) h r = let q : d ≡ c = cc in h ∙ ap Some q

-- What is refused has that cause.
pub step-caused : (L : Ledger) (e : Event) (c : Refusal) → (step L e).1 ≡ Refused c → cause L e ≡ Some c
unfolding step
step-caused L e c h = by_cause L e c (cause L e) refl h

-- A reply is Refused exactly where the machine names a cause, and has that name.
pub refused-exactly : (capacity : ℕ) (events : List Event) → RefusedExactly capacity events (replies (empty capacity) events)
refused-exactly capacity events = λ i c. (
  λ h. (
      let e = reply-event (empty capacity) events i (Refused c) h in
      let r = reply-at (empty capacity) events i e.0 e.1 in
      let q : (step (ledger_before capacity events i) e.0).1 ≡ Refused c = (let w = sym r ∙ h in cc) in
      record { event = e.0; there = e.1; named = step-caused (ledger_before capacity events i) e.0 c q }),
  λ k. reply-at (empty capacity) events i k.event k.there
      ∙ ap (λ s. Some s.1) (step-refused (ledger_before capacity events i) k.event c k.named),
)
