-- Each handle is created once: by a Give, or by the operation that made it.
use Rattle.std.proofs.Common.{◌≡◌, inl, inr, ℕ, suc, ◌+◌, ◌-◌, ◌<◌, Bool, true, false, List, [], ◌∷◌, length, take, Option, None, Some}
use Rattle.std.proofs.Common.{slice_get, refl, sym, ◌∙◌, ap, subst, arith, length-append}
use Rattle.std.proofs.lemmas.Option.{slice_get_within}
use Rattle.rent_buf.specs.Buffer.{Buffer}
use Rattle.rent_buf.specs.Parts.{Parts}
use Rattle.machine.specs.declared.request.Request.{Request}
use Rattle.machine.specs.declared.request.Told.{Told}
use Rattle.machine.specs.declared.world.HandleKind.{HandleKind}
use Rattle.machine.specs.declared.ledger.Event.{Event}
use Rattle.machine.specs.declared.ledger.Event.TheVariants.{Give, Feed, FeedMessage, End, Look, Close, Submit, Poll, Drop, Cancel, Turn}
use Rattle.machine.specs.declared.ledger.Event.TheVariants.{Exec}
use Rattle.machine.specs.declared.ledger.Event.TheVariants.{NewCanceller, NewHandle, CancelAll}
use Rattle.machine.specs.declared.ledger.Refusal.{Refusal}
use Rattle.machine.specs.declared.ledger.Reply.{Reply}
use Rattle.machine.specs.declared.ledger.Reply.TheVariants.{Handle}
use Rattle.machine.specs.Ledger.{Ledger, Operation, Place, InQueue, InFlight, InDone, Reaped, Gone, Item, Op, empty}
use Rattle.machine.specs.Ledger.{is_under_marked, group_under}
use Rattle.machine.specs.Turn.{exec_step}
use Rattle.machine.specs.Refusal.{cause}
use Rattle.machine.specs.Step.{step, row, answered, new_owner, submit_if, poll_at, poll_step, drop_step}
use Rattle.machine.specs.Run.{replies, ledger_before}
use Rattle.run_laws.specs.Closes.{IsMadeBy, IsCreated, CreatedOnce}
use Rattle.machine.proofs.Lawful.{lawful-ledger}
use Rattle.run_laws.proofs.Replies.{step-row, reply-at, reply-event, after-next}
use Rattle.run_laws.proofs.Looks.{looked}
use Rattle.run_laws.proofs.Polls.{once-by}
use Rattle.run_laws.proofs.Made.{there-later, made-event, made-next, made-within-next}

-- The handle that a reply names as new.
abbrev handle_of : Reply → Option ℕ
handle_of (Handle h) = Some h
handle_of _ = None

-- A poll gives no handle, by the place of its operation.
poll-at-none : (L : Ledger) (n task : ℕ) (o : Operation) (p : Place) → handle_of (poll_at L n task o p).1 ≡ None
poll-at-none L n task o InQueue = refl
poll-at-none L n task o InFlight = refl
poll-at-none L n task o (InDone outcome) = refl
poll-at-none L n task o (Reaped outcome) = refl
poll-at-none L n task o Gone = refl

-- Nor does a poll.
poll-none : (L : Ledger) (n task : ℕ) (x : Option Operation) → handle_of (poll_step L n task x).1 ≡ None
poll-none L n task None = refl
poll-none L n task (Some o) = poll-at-none L n task o o.place

-- Nor a drop.
drop-none : (L : Ledger) (n : ℕ) (x : Option Operation) → handle_of (drop_step L n x).1 ≡ None
drop-none L n None = refl
drop-none L n (Some o) = refl

-- Nor an execution.
exec-none : (L : Ledger) (place : ℕ) (told : Told) (x : Option Item) → handle_of (exec_step L place told x).1 ≡ None
exec-none L place told None = refl
exec-none L place told (Some (Op n)) = refl
exec-none L place told (Some (Item.Close h)) = refl

-- Nor a submission.
submit-none : (b : Bool) (L : Ledger) (request : Request Buffer Parts) (group : Option ℕ) (linked : Bool) →
    handle_of (submit_if b L request group linked).1 ≡ None
submit-none true L request group linked = refl
submit-none false L request group linked = refl

-- A Give gives the next number.
record Gives (L : Ledger) (e : Event) (h : ℕ) : Type 0 where
  kind : HandleKind
  event : e ≡ Give kind
  next : h ≡ length L.world

-- What gives no handle names none.
names-none : (L : Ledger) (e : Event) (h : ℕ) (r : Reply) → handle_of r ≡ None → handle_of r ≡ Some h → Gives L e h
names-none L e h r none names = (let q : None ≡ Some h = sym none ∙ names in let f : ⊥ = cc in absurd f)

-- Only a Give is answered with a new handle.
gives-row : (L : Ledger) (e : Event) (h : ℕ) → handle_of (row L e).1 ≡ Some h → Gives L e h
gives-row L (Give kind) h names = record { kind = kind; event = refl; next = (let q : length L.world ≡ h = cc in sym q) }
gives-row L (Feed k bytes) h names = (let f : ⊥ = cc in absurd f)
gives-row L (FeedMessage k addr bytes) h names = (let f : ⊥ = cc in absurd f)
gives-row L (End k) h names = (let f : ⊥ = cc in absurd f)
gives-row L (Look k) h names =
    names-none L (Look k) h (row L (Look k)).1
    (looked (λ reply. handle_of reply ≡ None) L k (λ b. refl) (λ m. refl)) names
gives-row L (Close k) h names = (let f : ⊥ = cc in absurd f)
gives-row L (Submit request under linked) h names =
    names-none L (Submit request under linked) h (row L (Submit request under linked)).1
    (submit-none (is_under_marked L under) L request (group_under L under) linked) names
gives-row L (Poll n task) h names = names-none L (Poll n task) h (row L (Poll n task)).1 (poll-none L n task (slice_get L.ops n)) names
gives-row L (Drop n) h names = names-none L (Drop n) h (row L (Drop n)).1 (drop-none L n (slice_get L.ops n)) names
gives-row L (Cancel n) h names = (let f : ⊥ = cc in absurd f)
gives-row L NewCanceller h names = (let f : ⊥ = cc in absurd f)
gives-row L (NewHandle c) h names = (let f : ⊥ = cc in absurd f)
gives-row L (CancelAll c) h names = (let f : ⊥ = cc in absurd f)
gives-row L Turn h names = (let f : ⊥ = cc in absurd f)
gives-row L (Exec place told) h names =
    names-none L (Exec place told) h (row L (Exec place told)).1 (exec-none L place told (slice_get L.flying place)) names

-- With whatever cause.
gives-answered : (L : Ledger) (e : Event) (h : ℕ) (c : Option Refusal) → handle_of (answered c L e).1 ≡ Some h → Gives L e h
gives-answered L e h None names = gives-row L e h names
gives-answered L e h (Some refusal) names = (let f : ⊥ = cc in absurd f)

-- The same of a step.
gives-step : (L : Ledger) (e : Event) (h : ℕ) → (step L e).1 ≡ Handle h → Gives L e h
unfolding step
gives-step L e h names = gives-answered L e h (cause L e) (ap handle_of names)

module _ (capacity : ℕ) (events : List Event) where
  -- A handle that an event creates is the next number before it, and is there after it.
  record Creates (h i : ℕ) : Type 0 where
    inside : i < length events
    next : h ≡ length (ledger_before capacity events i).owners
    there : h < length (ledger_before capacity events (suc i)).owners

  -- A Give creates its handle.
  given-creates : (h i : ℕ) → slice_get (replies (empty capacity) events) i ≡ Some (Handle h) → Creates h i
  given-creates h i reply =
      let L : Ledger = ledger_before capacity events i in
      let e = reply-event (empty capacity) events i (Handle h) reply in
      let g : Gives L e.0 h = gives-step L e.0 h (let q = sym (reply-at (empty capacity) events i e.0 e.1) ∙ reply in cc) in
      let here : slice_get events i ≡ Some (Give g.kind) = e.1 ∙ ap Some g.event in
      let count = length-append L.owners (new_owner ∷ []) in
      let together = (lawful-ledger capacity (take i events)).known.together in
      let next = g.next in
      let after : length (ledger_before capacity events (suc i)).owners ≡ length (row L (Give g.kind)).0.owners =
      ap (λ K. length K.owners) (after-next (empty capacity) events i (Give g.kind) here ∙ ap (λ s. s.0) (step-row L (Give g.kind) refl)) in
      record {
        inside = slice_get_within events i e.0 e.1;
        next = omega (arith, next, together);
        there = omega (arith, after, count, next, together);
      }

  -- So does an operation that makes one.
  made-creates : (h n : ℕ) (m : IsMadeBy capacity events n h) → Creates h m.own.exec
  made-creates h n m = record {
    inside = made-event capacity events n h m;
    next = made-next capacity events n h m;
    there = made-within-next capacity events n h m;
  }

  -- An event that creates a handle.
  creates : (h i : ℕ) → IsCreated capacity events (replies (empty capacity) events) h i → Creates h i
  creates h i (inl reply) = given-creates h i reply
  creates h i (inr m) = subst (Creates h) m.2 (made-creates h m.0 m.1)

  -- No later event creates it again.
  created-late : (h i j : ℕ) → i < j → Creates h i → Creates h j → ⊥
  created-late h i j lt x y =
      let at : suc i + (j - suc i) ≡ j = omega (arith, lt) in
      let inside = y.inside in
      let later = subst (λ k. h < length (ledger_before capacity events k).owners) at
      (there-later capacity events h (suc i) (j - suc i) (omega (arith, at, inside)) x.there) in
      let next = y.next in
      omega (arith, later, next)

  -- A handle is created once.
  pub created-once : CreatedOnce capacity events (replies (empty capacity) events)
  created-once h i j x y = once-by (Creates h) (created-late h) i j (creates h i x) (creates h j y)
