-- An operation is handed over once, by the first Poll after its reap; what was handed over or dropped is there no more.
use Rattle.std.proofs.Common.{◌≡◌, ◌⊎◌, inl, inr, ℕ, ◌<◌, ◌≤◌, Bool, true, false, not, ◌&&◌, List, Option, Some, None, slice_get, refl, sym}
use Rattle.std.proofs.Common.{◌∙◌, ap, subst, arith}
use Rattle.machine.specs.declared.request.Told.{Told}
use Rattle.machine.specs.declared.ledger.Event.{Event}
use Rattle.machine.specs.declared.ledger.Event.TheVariants.{Give, Feed, FeedMessage, End, Look, Close, Submit, Poll, Drop, Cancel, Turn}
use Rattle.machine.specs.declared.ledger.Event.TheVariants.{Exec}
use Rattle.machine.specs.declared.ledger.Event.TheVariants.{NewCanceller, NewHandle, CancelAll}
use Rattle.machine.specs.declared.ledger.Refusal.{Refusal}
use Rattle.machine.specs.declared.ledger.Refusal.TheVariants.{NoOp}
use Rattle.machine.specs.declared.ledger.Reply.TheVariants.{Refused}
use Rattle.machine.specs.Ledger.{Ledger, Operation, InFlight, Item, empty, is_kept, is_owned}
use Rattle.machine.specs.Lists.{passes}
use Rattle.machine.specs.Refusal.{cause, lacks_op, refused_if}
use Rattle.machine.specs.Run.{replies, ledger_before, IsExecuted}
use Rattle.run_laws.proofs.Executing.{executed-flew}
use Rattle.run_laws.specs.Moments.{operation_of, IsAbout, IsReapedBefore, IsGivenBefore, IsHandedBefore, IsDroppedBefore}
use Rattle.run_laws.specs.Headline.{HandedOnce, DroppedOnce, RefusedWhereGone, FirstPollHands}
use Rattle.machine.proofs.Stepping.{step-refused}
use Rattle.run_laws.proofs.Replies.{reply-at, step-caused}
use Rattle.run_laws.proofs.Moments.{NotBefore, Given, Hands, Drops, Owned, History}
use Rattle.run_laws.proofs.Trace.{Trace}
use Rattle.run_laws.proofs.Polls.{traced, answer, reaped-once}

-- An event about an operation is refused where that isn't its user's, and by no other test.
cause-about : (L : Ledger) (e : Event) (n : ℕ) → operation_of e ≡ Some n → cause L e ≡ refused_if (lacks_op L n) NoOp None
cause-about L (Give kind) n h = (let f : ⊥ = cc in absurd f)
cause-about L (Feed x bytes) n h = (let f : ⊥ = cc in absurd f)
cause-about L (FeedMessage x addr bytes) n h = (let f : ⊥ = cc in absurd f)
cause-about L (End x) n h = (let f : ⊥ = cc in absurd f)
cause-about L (Look x) n h = (let f : ⊥ = cc in absurd f)
cause-about L (Close x) n h = (let f : ⊥ = cc in absurd f)
cause-about L (Submit request under linked) n h = (let f : ⊥ = cc in absurd f)
cause-about L (Poll m task) n h = ap (λ k. refused_if (lacks_op L k) NoOp None) (let e : m ≡ n = cc in e)
cause-about L (Drop m) n h = ap (λ k. refused_if (lacks_op L k) NoOp None) (let e : m ≡ n = cc in e)
cause-about L (Cancel m) n h = ap (λ k. refused_if (lacks_op L k) NoOp None) (let e : m ≡ n = cc in e)
cause-about L NewCanceller n h = (let f : ⊥ = cc in absurd f)
cause-about L (NewHandle c) n h = (let f : ⊥ = cc in absurd f)
cause-about L (CancelAll c) n h = (let f : ⊥ = cc in absurd f)
cause-about L Turn n h = (let f : ⊥ = cc in absurd f)
cause-about L (Exec place told) n h = (let f : ⊥ = cc in absurd f)

module _ (capacity : ℕ) (events : List Event) where
  -- The giving of an operation, as an event before a later one.
  given-before : (n i j : ℕ) (o : Operation) → i ≤ j → Given capacity events i n o.request → IsGivenBefore capacity events n j
  given-before n i j o le g =
      record {
        given = g.at;
        before = (let b = g.before in omega arith);
        is_given = record { request = o.request; under = g.under; linked = g.linked; event = g.event; reply = g.reply };
      }

  -- Why an operation isn't its user's: it wasn't given before, or was handed over or dropped before.
  abbrev IsLost : ℕ → ℕ → Type 0
  IsLost n i =
      (IsGivenBefore capacity events n i → ⊥) ⊎ IsHandedBefore events (replies (empty capacity) events) n i
      ⊎ IsDroppedBefore events (replies (empty capacity) events) n i

  -- It was given before, and neither handed over nor dropped before.
  record IsTheirs (n i : ℕ) : Type 0 where
    given : IsGivenBefore capacity events n i
    unhanded : NotBefore (Hands capacity events n) i
    undropped : NotBefore (Drops capacity events n) i

  -- The cause of an event about an operation: none, or that it isn't there.
  abbrev CauseAbout : ℕ → ℕ → Option Refusal → Type 0
  CauseAbout n i c = ((c ≡ None) × IsTheirs n i) ⊎ ((c ≡ Some NoOp) × IsLost n i)

  -- The cause by whether the operation was dropped, and whether it is gone.
  owned-about : (n i : ℕ) (dropped kept : Bool) → IsGivenBefore capacity events n i → Owned capacity events i n dropped kept →
      CauseAbout n i (refused_if (not (kept && not dropped)) NoOp None)
  owned-about n i true true g h = inr (refl, inr (inr h))
  owned-about n i true false g h = inr (refl, inr (inr h))
  owned-about n i false true g h = inl (refl, record { given = g; unhanded = h.0; undropped = h.1 })
  owned-about n i false false g h = inr (refl, inr (inl h))

  -- The cause by what was looked up.
  about-at : (n i : ℕ) (x : Option Operation) → History capacity events i n x →
      CauseAbout n i (refused_if (not (passes is_owned x)) NoOp None)
  about-at n i None h = inr (refl, inl (λ g. h.ungiven g.given g.before g.is_given))
  about-at n i (Some o) h = owned-about n i o.dropped (is_kept o.place) (given-before n i i o (omega arith) h.given) h.owned

  module _ (n i : ℕ) (x : IsAbout events n i) where
    -- The cause of each event about an operation.
    about-cause : CauseAbout n i (cause (ledger_before capacity events i) x.event)
    about-cause =
        let L : Ledger = ledger_before capacity events i in
        subst (CauseAbout n i) (sym (cause-about L x.event n x.about))
        (about-at n i (slice_get L.ops n) ((traced capacity events i x.event x.there).history n))

    -- It has the reply NoOp exactly where it has that cause.
    refused-reply : cause (ledger_before capacity events i) x.event ≡ Some NoOp →
        slice_get (replies (empty capacity) events) i ≡ Some (Refused NoOp)
    refused-reply h =
        reply-at (empty capacity) events i x.event x.there
        ∙ ap (λ s. Some s.1) (step-refused (ledger_before capacity events i) x.event NoOp h)

    -- The cause of the event that was refused.
    reply-cause : slice_get (replies (empty capacity) events) i ≡ Some (Refused NoOp) →
        cause (ledger_before capacity events i) x.event ≡ Some NoOp
    reply-cause h =
        step-caused (ledger_before capacity events i) x.event NoOp
        (let w = sym (reply-at (empty capacity) events i x.event x.there) ∙ h in cc)

    -- What isn't lost is its user's.
    kept-not-lost : IsTheirs n i → IsLost n i → ⊥
    kept-not-lost a lost = elim lost [
      | inl ungiven ↦ ungiven a.given
      | inr gone ↦ elim gone [
        | inl z ↦ a.unhanded z.hand z.before z.is_handed
        | inr z ↦ a.undropped z.drop z.before z.is_dropped
      ]
    ]

  -- An event about an operation is refused as NoOp exactly where that wasn't given before, or was handed over or dropped before.
  pub refused-where-gone : RefusedWhereGone capacity events (replies (empty capacity) events)
  refused-where-gone n i x = (
    λ refused. elim (about-cause n i x) [
      | inl a ↦ absurd (let q = sym a.0 ∙ reply-cause n i x refused in let f : ⊥ = cc in f)
      | inr b ↦ b.1
    ],
    λ lost. elim (about-cause n i x) [
      | inl a ↦ absurd (kept-not-lost n i x a.1 lost)
      | inr b ↦ refused-reply n i x b.0
    ],
  )

  -- After an operation was handed over, each event about it is refused.
  pub handed-once : HandedOnce events (replies (empty capacity) events)
  handed-once n i j x lt about = (refused-where-gone n j about).1 (inr (inl (record { hand = i; before = lt; is_handed = x })))

  -- After it was dropped, too.
  pub dropped-once : DroppedOnce events (replies (empty capacity) events)
  dropped-once n i j x lt about = (refused-where-gone n j about).1 (inr (inr (record { drop = i; before = lt; is_dropped = x })))

  -- A Poll is about its operation.
  abbrev poll-about : (n i task : ℕ) → slice_get events i ≡ Some (Poll n task) → IsAbout events n i
  poll-about n i task there = record { event = Poll n task; there = there; about = refl }

  -- What was executed before was given before.
  executed-given : (n i j : ℕ) (told : Told) (item : Item) → i < j → IsExecuted capacity events n i told item →
      IsGivenBefore capacity events n j
  executed-given n i j told item lt x =
      let L : Ledger = ledger_before capacity events i in
      let t : Trace capacity events i L = traced capacity events i (Exec x.place told) x.event in
      let f : (o : Operation) × (slice_get L.ops n ≡ Some o) × (o.place ≡ InFlight) = executed-flew capacity events n i told item x in
      let h : History capacity events i n (Some f.0) = subst (History capacity events i n) f.1 (t.history n) in
      given-before n i j f.0 (omega arith) h.given

  -- The Poll that hands an operation over isn't refused.
  pub handed-unrefused : (n i : ℕ) (x : Hands capacity events n i) → cause (ledger_before capacity events i) (Poll n x.task) ≡ None
  handed-unrefused n i x = elim (about-cause n i (poll-about n i x.task x.event)) [
    | inl a ↦ a.0
    | inr b ↦ absurd (let q = sym x.reply ∙ refused-reply n i (poll-about n i x.task x.event) b.0 in let f : ⊥ = cc in f)
  ]

  -- What was handed over was reaped before.
  pub handed-reaped : (n i : ℕ) → Hands capacity events n i → IsReapedBefore capacity events n i
  handed-reaped n i x =
      elim (answer capacity events n i (record { task = x.task; event = x.event; unrefused = handed-unrefused n i x })) [
        | inl w ↦ absurd (let q = sym x.reply ∙ w.0 in let f : ⊥ = cc in f)
        | inr w ↦ w.1
      ]

  -- The first Poll of an operation after its reap hands it over, where it wasn't dropped.
  pub first-poll-hands : FirstPollHands capacity events (replies (empty capacity) events)
  first-poll-hands n i j task reaped lt event first undropped = elim (about-cause n j (poll-about n j task event)) [
    | inl a ↦ elim (answer capacity events n j (record { task = task; event = event; unrefused = a.0 })) [
      | inl w ↦ absurd (w.1 (record { reap = i; before = lt; reaped = reaped }))
      | inr w ↦ w.0
    ]
    | inr b ↦ absurd (elim b.1 [
      | inl ungiven ↦ ungiven (executed-given n reaped.exec j reaped.told reaped.item
          (let c = reaped.turn.behind in omega arith) reaped.executed)
      | inr gone ↦ elim gone [
        | inl z ↦ (
            let r : IsReapedBefore capacity events n z.hand = handed-reaped n z.hand z.is_handed in
            let same : r.reap ≡ i = reaped-once capacity events n r.reap i r.reaped reaped in
            first z.hand z.is_handed.task (let c = r.before in omega arith) z.before z.is_handed.event)
        | inr z ↦ undropped z
      ]
    ])
  ]
