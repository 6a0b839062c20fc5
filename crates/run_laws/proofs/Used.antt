-- A user holds a handle that an operation made only once that was returned.
use Rattle.std.proofs.Common.{◌≡◌, ◌⊎◌, inl, inr, ℕ, zero, suc, ◌≤◌, ◌<◌, ◌==◌, true, false, ◌||◌, List, [], ◌∷◌, ◌++◌, length, map}
use Rattle.std.proofs.Common.{Option, None, Some, slice_get, refl, sym, ◌∙◌, ap, subst, arith, true≢false}
use Rattle.std.proofs.lemmas.Option.{slice_get_cases, slice_get_within}
use Rattle.machine.specs.declared.request.Told.{Told}
use Rattle.machine.specs.declared.request.Outcome.{Outcome}
use Rattle.machine.specs.declared.ledger.Event.{Event}
use Rattle.machine.specs.declared.ledger.Event.TheVariants.{Give, Feed, FeedMessage, End, Look, Close, Submit, Poll, Drop, Cancel, Turn}
use Rattle.machine.specs.declared.ledger.Event.TheVariants.{Exec}
use Rattle.machine.specs.declared.ledger.Event.TheVariants.{NewCanceller, NewHandle, CancelAll}
use Rattle.machine.specs.declared.ledger.Refusal.{Refusal}
use Rattle.machine.specs.declared.ledger.Refusal.TheVariants.{NoHandle}
use Rattle.machine.specs.Lists.{passes}
use Rattle.machine.specs.Ledger.{Ledger, Operation, Owner, Place, InQueue, InFlight, InDone, Reaped, Gone, Queued, Item, Op, empty}
use Rattle.machine.specs.Ledger.{is_kept, user_holds, is_under_marked, group_under, members}
use Rattle.machine.specs.Queue.{take_all, is_unheld}
use Rattle.machine.specs.Turn.{effect_of, exec_op, exec_step, complete_at}
use Rattle.machine.specs.Effect.{made_by}
use Rattle.machine.specs.Step.{new_owner, step, row, group_of, with_mark, handed_over, poll_at, poll_step, with_user}
use Rattle.machine.specs.Refusal.{cause, lacks_handle}
use Rattle.machine.specs.Closes.{made_at}
use Rattle.machine.specs.Run.{replies, ledger_before, IsOwn}
use Rattle.machine.proofs.Releasing.{released-beside}
use Rattle.run_laws.specs.Moments.{IsHanded, IsHandedBefore}
use Rattle.run_laws.specs.Closes.{IsMadeBy, is_about_handle, UsedWhenReturned}
use Rattle.machine.proofs.Numbers.{same-or-not, below-or-not}
use Rattle.machine.proofs.Appended.{get-append-within}
use Rattle.machine.proofs.Staying.{stays-take_all, stays-push, stays-push_each, stays-leave, stays-reap_each}
use Rattle.machine.proofs.Users.{user-with_user-other}
use Rattle.machine.proofs.Turning.{owner-before}
use Rattle.machine.proofs.Making.{ops_from-left}
use Rattle.machine.proofs.Stepping.{step-refused, step-row, held-there, names-held, refuses-none, submitted-held}
use Rattle.run_laws.proofs.Replies.{reply-at, after-next}
use Rattle.run_laws.proofs.Moments.{Placed, History, WasReaped}
use Rattle.run_laws.proofs.Reached.{reached}
use Rattle.run_laws.proofs.Unused.{owners-drop_step, owners-close_if, owners-submit_if}
use Rattle.run_laws.proofs.Made.{made-outcome, made-only, maker-next, made-before, made-within, made-once}

-- A Poll returns an operation that made a handle.
record Returns (L : Ledger) (e : Event) (h : ℕ) : Type 0 where
  n : ℕ
  task : ℕ
  operation : Operation
  outcome : Outcome
  event : e ≡ Poll n task
  there : slice_get L.ops n ≡ Some operation
  reaped : operation.place ≡ Reaped outcome
  made : operation.made ≡ Some h

-- Whom a handle is the user's: it was so before an event, or is a new one, or the event returns the operation that made it.
abbrev Comes : Ledger → Event → ℕ → Type 0
Comes L e h = (user_holds L h ≡ true) ⊎ (length L.owners ≤ h) ⊎ Returns L e h

-- The same owners.
comes-same : (L M : Ledger) (e : Event) (h : ℕ) → M.owners ≡ L.owners → user_holds M h ≡ true → Comes L e h
comes-same L M e h owners is = inl (ap (λ os. passes (λ owner. owner.is_user) (slice_get os h)) (sym owners) ∙ is)

-- Other owners at the end.
comes-append : (L : Ledger) (more : List Owner) (e : Event) (h : ℕ) →
    ((h < length L.owners) → slice_get (L.owners ++ more) h ≡ slice_get L.owners h) →
    passes (λ owner. owner.is_user) (slice_get (L.owners ++ more) h) ≡ true → Comes L e h
comes-append L more e h same is = elim (below-or-not h (length L.owners)) [
  | inl lt ↦ inl (ap (passes (λ owner. owner.is_user)) (sym (same lt)) ∙ is)
  | inr past ↦ inr (inl past)
]

-- A handle that is handed over, by whether it is this one.
comes-handed : (L : Ledger) (made : Option ℕ) (h : ℕ) → user_holds (handed_over L made) h ≡ true → (user_holds L h ≡ true) ⊎ (made ≡ Some h)
comes-handed L None h is = inl is
comes-handed L (Some k) h is = elim (same-or-not h k) [
  | inl e ↦ inr (ap Some (sym e))
  | inr e ↦ inl (sym (user-with_user-other L k h true e) ∙ is)
]

-- A poll, by the place of its operation.
comes-poll : (L : Ledger) (n task : ℕ) (o : Operation) (h : ℕ) → slice_get L.ops n ≡ Some o → (p : Place) → o.place ≡ p →
    user_holds (poll_at L n task o p).0 h ≡ true → Comes L (Poll n task) h
comes-poll L n task o h there (Reaped outcome) at is =
    let H : Ledger = handed_over L o.made in
    elim (comes-handed L o.made h (ap (λ os. passes (λ owner. owner.is_user) (slice_get os h)) (sym (stays-leave H n).owners) ∙ is)) [
      | inl before ↦ inl before
      | inr made ↦ inr (inr (record {
        n = n;
        task = task;
        operation = o;
        outcome = outcome;
        event = refl;
        there = there;
        reaped = at;
        made = made;
      }))
    ]
comes-poll L n task o h there InQueue at is = inl is
comes-poll L n task o h there InFlight at is = inl is
comes-poll L n task o h there (InDone outcome) at is = inl is
comes-poll L n task o h there Gone at is = inl is

-- The poll of an operation that was looked up.
comes-poll_step : (L : Ledger) (n task : ℕ) (x : Option Operation) (h : ℕ) → slice_get L.ops n ≡ x →
    user_holds (poll_step L n task x).0 h ≡ true → Comes L (Poll n task) h
comes-poll_step L n task None h there is = inl is
comes-poll_step L n task (Some o) h there is = comes-poll L n task o h there o.place refl is

-- Executing an operation that was looked up.
comes-exec_op : (L : Ledger) (e : Event) (n : ℕ) (told : Told) (x : Option Operation) (h : ℕ) →
    user_holds (exec_op L n told x) h ≡ true → (user_holds L h ≡ true) ⊎ (length L.owners ≤ h)
comes-exec_op L e n told None h is = inl is
comes-exec_op L e n told (Some o) h is =
    let made : Option ℕ = made_by (effect_of L o.request told).outcome in
    elim (below-or-not h (length L.owners)) [
      | inl lt ↦ inl (ap (passes (λ owner. owner.is_user)) (sym (owner-before L.owners made h lt)) ∙ is)
      | inr past ↦ inr past
    ]

-- Executing what is in flight.
comes-exec : (L : Ledger) (e : Event) (place : ℕ) (told : Told) (x : Option Item) (h : ℕ) →
    user_holds (exec_step L place told x).0 h ≡ true → Comes L e h
comes-exec L e place told None h is = inl is
comes-exec L e place told (Some (Op n)) h is =
    let E : Ledger = exec_op (complete_at L place (Op n)) n told (slice_get L.ops n) in
    elim (comes-exec_op (complete_at L place (Op n)) e n told (slice_get L.ops n) h
    (ap (λ os. passes (λ owner. owner.is_user) (slice_get os h)) (sym (released-beside told E n).owners) ∙ is)) [
      | inl before ↦ inl before
      | inr past ↦ inr (inl past)
    ]
comes-exec L e place told (Some (Item.Close k)) h is = inl is

-- An event that isn't refused.
comes-row : (L : Ledger) (e : Event) (h : ℕ) → user_holds (row L e).0 h ≡ true → Comes L e h
comes-row L (Give kind) h is =
    comes-append L (new_owner ∷ []) (Give kind) h (λ lt. get-append-within L.owners new_owner h lt) is
comes-row L (Feed k bytes) h is = inl is
comes-row L (FeedMessage k addr bytes) h is = inl is
comes-row L (End k) h is = inl is
comes-row L (Look k) h is = inl is
comes-row L (Close k) h is =
    let U : Ledger = with_user L k false in
    inl ((ops_from-left L k).users h
    (ap (λ os. passes (λ owner. owner.is_user) (slice_get os h)) (sym (owners-close_if (is_unheld U k) U k)) ∙ is))
comes-row L (Submit request under linked) h is =
    comes-same L (row L (Submit request under linked)).0 (Submit request under linked) h
    (owners-submit_if (is_under_marked L under) L request (group_under L under) linked) is
comes-row L (Poll n task) h is = comes-poll_step L n task (slice_get L.ops n) h refl is
comes-row L (Drop n) h is = comes-same L (row L (Drop n)).0 (Drop n) h (owners-drop_step L n (slice_get L.ops n)) is
comes-row L (Cancel n) h is = comes-same L (row L (Cancel n)).0 (Cancel n) h (stays-push L (Queued.Cancel n)).owners is
comes-row L NewCanceller h is = inl is
comes-row L (NewHandle c) h is = inl is
comes-row L (CancelAll c) h is =
    let g : ℕ = group_of L c in
    comes-same L (row L (CancelAll c)).0 (CancelAll c) h (stays-push_each (with_mark L g) (map Queued.Cancel (members L g))).owners is
comes-row L Turn h is =
    comes-same L (row L Turn).0 Turn h
    ((stays-reap_each (record (take_all L) { done = [] }) (take_all L).done).owners ∙ (stays-take_all L).owners) is
comes-row L (Exec place told) h is = comes-exec L (Exec place told) place told (slice_get L.flying place) h is

-- An event, by its cause.
comes-cause : (L : Ledger) (e : Event) (h : ℕ) (c : Option Refusal) → cause L e ≡ c → user_holds (step L e).0 h ≡ true →
    (user_holds L h ≡ true) ⊎ (length L.owners ≤ h) ⊎ ((cause L e ≡ None) × Returns L e h)
comes-cause L e h None u is =
    elim (comes-row L e h (ap (λ s. user_holds s.0 h) (sym (step-row L e u)) ∙ is)) [
      | inl before ↦ inl before
      | inr x ↦ elim x [ inl past ↦ inr (inl past) | inr r ↦ inr (inr (u, r)) ]
    ]
comes-cause L e h (Some refusal) u is = inl (ap (λ s. user_holds s.0 h) (sym (step-refused L e refusal u)) ∙ is)

-- A handle that is among these alone, and they are the user's.
about-held : (L : Ledger) (h k : ℕ) → lacks_handle L (k ∷ []) ≡ false → (h == k) ≡ true → user_holds L h ≡ true
about-held L h k none about = names-held L (k ∷ []) none h (ap (λ b. b || false) about)

-- An event about a handle that isn't refused is one of its user.
pub used-held : (L : Ledger) (e : Event) (h : ℕ) → is_about_handle h e ≡ true → cause L e ≡ None → user_holds L h ≡ true
used-held L (Feed k bytes) h about u = about-held L h k (refuses-none (lacks_handle L (k ∷ [])) NoHandle _ u) about
used-held L (FeedMessage k addr bytes) h about u = about-held L h k (refuses-none (lacks_handle L (k ∷ [])) NoHandle _ u) about
used-held L (End k) h about u = about-held L h k (refuses-none (lacks_handle L (k ∷ [])) NoHandle _ u) about
used-held L (Look k) h about u = about-held L h k (refuses-none (lacks_handle L (k ∷ [])) NoHandle _ u) about
used-held L (Close k) h about u = about-held L h k (refuses-none (lacks_handle L (k ∷ [])) NoHandle _ u) about
used-held L (Submit request under linked) h about u = submitted-held L request under linked u h about
used-held L (Give kind) h about u = (let f : ⊥ = cc in absurd f)
used-held L (Poll n task) h about u = (let f : ⊥ = cc in absurd f)
used-held L (Drop n) h about u = (let f : ⊥ = cc in absurd f)
used-held L (Cancel n) h about u = (let f : ⊥ = cc in absurd f)
used-held L NewCanceller h about u = (let f : ⊥ = cc in absurd f)
used-held L (NewHandle c) h about u = (let f : ⊥ = cc in absurd f)
used-held L (CancelAll c) h about u = (let f : ⊥ = cc in absurd f)
used-held L Turn h about u = (let f : ⊥ = cc in absurd f)
used-held L (Exec place told) h about u = (let f : ⊥ = cc in absurd f)

module _ (capacity : ℕ) (events : List Event) where
  module _ (n h : ℕ) (m : IsMadeBy capacity events n h) where
    -- It was returned before an event, and so before the next one.
    returned-next : (k : ℕ) → IsHandedBefore events (replies (empty capacity) events) n k →
        IsHandedBefore events (replies (empty capacity) events) n (suc k)
    returned-next k x = record { hand = x.hand; before = (let b = x.before in omega (arith, b)); is_handed = x.is_handed }

    -- A Poll that returns an operation that made the handle returns its maker.
    returned-now : (k : ℕ) (e : Event) → slice_get events k ≡ Some e → cause (ledger_before capacity events k) e ≡ None →
        Returns (ledger_before capacity events k) e h → IsHandedBefore events (replies (empty capacity) events) n (suc k)
    returned-now k e here u r =
        let L : Ledger = ledger_before capacity events k in
        let inside = slice_get_within events k e here in
        let had : History capacity events k r.n (Some r.operation) =
        subst (History capacity events k r.n) r.there ((reached capacity events k (omega (arith, inside))).history r.n) in
        let was : WasReaped capacity events k r.n r.outcome r.operation.buffer =
        subst (Placed capacity events k r.n r.operation.buffer) r.reaped had.placed in
        let made : made_by r.outcome ≡ Some h =
        sym ((made-only capacity events k).agrees r.n r.operation r.there (ap is_kept r.reaped) ∙ ap made_at r.reaped) ∙ r.made in
        let maker : IsMadeBy capacity events r.n h = record {
          buffer = r.operation.buffer;
          own = subst (λ outcome. IsOwn capacity events r.n outcome r.operation.buffer) (made-outcome r.outcome h made) was.own;
        } in
        let same : r.n ≡ n = made-once capacity events h r.n n maker m in
        let handed : IsHanded events (replies (empty capacity) events) r.n k = record {
          task = r.task;
          outcome = r.outcome;
          buffer = r.operation.buffer;
          event = here ∙ ap Some r.event;
          reply = reply-at (empty capacity) events k e here ∙ ap (λ s. Some s.1) (step-row L e u) ∙ ap (λ x. Some (row L x).1) r.event
              ∙ ap (λ x. Some (poll_step L r.n r.task x).1) r.there
              ∙ ap (λ p. Some (poll_at L r.n r.task r.operation p).1) r.reaped;
        } in
        record {
          hand = k;
          before = omega arith;
          is_handed = subst (λ i. IsHanded events (replies (empty capacity) events) i k) same handed;
        }

    -- At its making no user holds the handle.
    unheld-then : user_holds (ledger_before capacity events (suc m.own.exec)) h ≡ true → ⊥
    unheld-then is =
        let x = maker-next capacity events n h m in
        true≢false (sym is ∙ (made-only capacity events (suc m.own.exec)).users n h x.0 x.1 x.2 x.3)

    -- The user holds it only where its maker was returned before.
    held-returned : (k : ℕ) → k ≤ length events → user_holds (ledger_before capacity events k) h ≡ true →
        IsHandedBefore events (replies (empty capacity) events) n k
    held-returned zero inside is = (let f : ⊥ = cc in absurd f)
    held-returned (suc k) inside is = elim (slice_get_cases events k).1 [
      | inl e ↦ (
          let L : Ledger = ledger_before capacity events k in
          let holds : user_holds (step L e.0).0 h ≡ true =
          ap (λ K. user_holds K h) (sym (after-next (empty capacity) events k e.0 e.2)) ∙ is in
          let later = made-before capacity events n h m (suc k) (held-there (ledger_before capacity events (suc k)) h is) in
          elim (comes-cause L e.0 h (cause L e.0) refl holds) [
            | inl before ↦ returned-next k (held-returned k (omega (arith, inside)) before)
            | inr x ↦ elim x [
              | inl past ↦ absurd (held-new k inside later past is)
              | inr r ↦ returned-now k e.0 e.2 r.0 r.1
            ]
          ])
      | inr e ↦ absurd (let l = e.0 in omega (arith, inside, l))
    ]
      where
        held-new : (k : ℕ) → suc k ≤ length events → m.own.exec < suc k → length (ledger_before capacity events k).owners ≤ h →
            user_holds (ledger_before capacity events (suc k)) h ≡ true → ⊥
        held-new k inside lt past is = elim (same-or-not m.own.exec k) [
          | inl e ↦ unheld-then (ap (λ j. user_holds (ledger_before capacity events (suc j)) h) e ∙ is)
          | inr e ↦ (
              let within = made-within capacity events n h m k (omega (arith, lt, e)) (omega (arith, inside)) in
              omega (arith, within, past))
        ]

  -- An event about a handle that an operation made is refused until that was returned.
  pub used-when-returned : UsedWhenReturned capacity events (replies (empty capacity) events)
  used-when-returned h n i m x =
      held-returned n h m i (let l = slice_get_within events i x.event x.there in omega (arith, l))
      (used-held (ledger_before capacity events i) x.event h x.about x.unrefused)
