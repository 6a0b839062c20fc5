-- Which submissions come back at once: those under a group that was canceled.
use Rattle.std.proofs.Common.{◌≡◌, inl, inr, ℕ, ◌<◌, Bool, true, false, List, Option, None, Some, slice_get, refl, sym, ◌∙◌, ap, arith}
use Rattle.std.proofs.lemmas.Option.{slice_get_cases}
use Rattle.rent_buf.specs.Buffer.{Buffer}
use Rattle.rent_buf.specs.Parts.{Parts}
use Rattle.rent_buf.specs.Held.{HeldBuf}
use Rattle.machine.specs.declared.request.Request.{Request}
use Rattle.machine.specs.declared.ledger.Event.{Event}
use Rattle.machine.specs.declared.ledger.Event.TheVariants.{Give, Feed, FeedMessage, End, Look, Close, Submit, Poll, Drop, Cancel, Turn}
use Rattle.machine.specs.declared.ledger.Event.TheVariants.{Exec}
use Rattle.machine.specs.declared.ledger.Event.TheVariants.{NewCanceller, NewHandle, CancelAll}
use Rattle.machine.specs.declared.ledger.Refusal.{Refusal}
use Rattle.machine.specs.declared.ledger.Reply.TheVariants.{CanceledAtOnce}
use Rattle.machine.specs.Lists.{passes}
use Rattle.machine.specs.Request.{held_of}
use Rattle.machine.specs.Ledger.{Ledger, empty, is_marked}
use Rattle.machine.specs.Ledger.{is_under_marked, group_under}
use Rattle.machine.specs.Refusal.{cause}
use Rattle.machine.specs.Step.{step, row, answered, submit_if}
use Rattle.machine.specs.Run.{ledger_before}
use Rattle.run_laws.specs.Groups.{IsCanceledHandle, IsUnderCanceled, CanceledAtOnceExactly}
use Rattle.machine.proofs.Staying.{groups_of}
use Rattle.machine.proofs.Stepping.{step-row}
use Rattle.run_laws.proofs.Replies.{reply-at, reply-event}
use Rattle.run_laws.proofs.GroupReplies.{answered-group}
use Rattle.run_laws.proofs.Origins.{answers, Origin, OriginsAt}
use Rattle.run_laws.proofs.Groups.{origins_at, grouped_at, canceled-marked}
use Rattle.run_laws.proofs.Looks.{looked}

-- An event is answered so by a submission under a marked group alone.
record IsAtOnce (L : Ledger) (e : Event) (buffer : HeldBuf) : Type 0 where
  request : Request Buffer Parts
  under : Option ℕ
  linked : Bool
  event : e ≡ Submit request under linked
  marked : is_under_marked L under ≡ true
  holds : buffer ≡ held_of request

-- A submission is, under a marked group, and then with what its request holds.
submit-at_once : (b : Bool) (L : Ledger) (request : Request Buffer Parts) (group : Option ℕ) (linked : Bool) (buffer : HeldBuf) →
    (submit_if b L request group linked).1 ≡ CanceledAtOnce buffer → (b ≡ true) × (buffer ≡ held_of request)
submit-at_once true L request group linked buffer h = (refl, (let q : held_of request ≡ buffer = cc in sym q))
submit-at_once false L request group linked buffer h = (let f : ⊥ = cc in absurd f)

-- By its row.
row-at_once : (L : Ledger) (e : Event) (buffer : HeldBuf) → (row L e).1 ≡ CanceledAtOnce buffer → IsAtOnce L e buffer
row-at_once L (Give kind) buffer h = (let f : ⊥ = cc in absurd f)
row-at_once L (Feed k bytes) buffer h = (let f : ⊥ = cc in absurd f)
row-at_once L (FeedMessage k addr bytes) buffer h = (let f : ⊥ = cc in absurd f)
row-at_once L (End k) buffer h = (let f : ⊥ = cc in absurd f)
row-at_once L (Look k) buffer h = absurd (looked (λ reply. reply ≡ CanceledAtOnce buffer → ⊥) L k (λ b q. cc) (λ m q. cc) h)
row-at_once L (Close k) buffer h = (let f : ⊥ = cc in absurd f)
row-at_once L (Submit request under linked) buffer h =
    let both = submit-at_once (is_under_marked L under) L request (group_under L under) linked buffer h in
    record { request = request; under = under; linked = linked; event = refl; marked = both.0; holds = both.1 }
row-at_once L (Poll n task) buffer h = absurd (answered-group L (Poll n task) (CanceledAtOnce buffer) refl h refl)
row-at_once L (Drop n) buffer h = absurd (answered-group L (Drop n) (CanceledAtOnce buffer) refl h refl)
row-at_once L (Cancel n) buffer h = (let f : ⊥ = cc in absurd f)
row-at_once L NewCanceller buffer h = (let f : ⊥ = cc in absurd f)
row-at_once L (NewHandle c) buffer h = (let f : ⊥ = cc in absurd f)
row-at_once L (CancelAll c) buffer h = (let f : ⊥ = cc in absurd f)
row-at_once L Turn buffer h = (let f : ⊥ = cc in absurd f)
row-at_once L (Exec place told) buffer h = absurd (answered-group L (Exec place told) (CanceledAtOnce buffer) refl h refl)

-- By its cause: it isn't refused.
answered-at_once : (L : Ledger) (e : Event) (c : Option Refusal) (buffer : HeldBuf) → (answered c L e).1 ≡ CanceledAtOnce buffer →
    (c ≡ None) × IsAtOnce L e buffer
answered-at_once L e None buffer h = (refl, row-at_once L e buffer h)
answered-at_once L e (Some refusal) buffer h = (let f : ⊥ = cc in absurd f)

-- The same of a step.
step-at_once : (L : Ledger) (e : Event) (buffer : HeldBuf) → (step L e).1 ≡ CanceledAtOnce buffer →
    (cause L e ≡ None) × IsAtOnce L e buffer
unfolding step
step-at_once L e buffer h = answered-at_once L e (cause L e) buffer h

-- What is submitted under a marked group is under a cancel handle of it.
record MarkedUnder (L : Ledger) (under : Option ℕ) : Type 0 where
  handle : ℕ
  g : ℕ
  is : under ≡ Some handle
  there : slice_get L.cancel_handles handle ≡ Some g
  marked : slice_get L.groups g ≡ Some true

-- A mark that is there is the one that is looked up.
mark-there : (x : Option Bool) → passes (λ mark. mark) x ≡ true → x ≡ Some true
mark-there None h = (let f : ⊥ = cc in absurd f)
mark-there (Some true) h = refl
mark-there (Some false) h = (let f : ⊥ = cc in absurd f)

-- By the group that was looked up.
marked-group : (L : Ledger) (handle : ℕ) (x : Option ℕ) → slice_get L.cancel_handles handle ≡ x → passes (is_marked L) x ≡ true →
    MarkedUnder L (Some handle)
marked-group L handle None there h = (let f : ⊥ = cc in absurd f)
marked-group L handle (Some g) there h =
    record { handle = handle; g = g; is = refl; there = there; marked = mark-there (slice_get L.groups g) h }

-- By the cancel handle.
marked-under : (L : Ledger) (under : Option ℕ) → is_under_marked L under ≡ true → MarkedUnder L under
marked-under L None h = (let f : ⊥ = cc in absurd f)
marked-under L (Some handle) h = marked-group L handle (slice_get L.cancel_handles handle) refl h

module _ (capacity : ℕ) (events : List Event) where
  -- What was answered at once was submitted under a canceled group.
  at_once-canceled : (i : ℕ) (buffer : HeldBuf) → slice_get (answers capacity events) i ≡ Some (CanceledAtOnce buffer) →
      IsUnderCanceled capacity events (answers capacity events) i buffer
  at_once-canceled i buffer reply =
      let L : Ledger = ledger_before capacity events i in
      let e = reply-event (empty capacity) events i (CanceledAtOnce buffer) reply in
      let now : (step L e.0).1 ≡ CanceledAtOnce buffer = (let q = sym (reply-at (empty capacity) events i e.0 e.1) ∙ reply in cc) in
      let s = step-at_once L e.0 buffer now in
      let x : IsAtOnce L e.0 buffer = s.1 in
      let u : MarkedUnder L x.under = marked-under L x.under x.marked in
      let event : e.0 ≡ Submit x.request (Some u.handle) x.linked = x.event ∙ ap (λ under. Submit x.request under x.linked) u.is in
      let o : Origin capacity events i (groups_of L) u.handle u.g = (origins_at capacity events i e.0 e.1).origin u.handle u.g u.there in
      record {
        request = x.request;
        handle = u.handle;
        linked = x.linked;
        event = e.1 ∙ ap Some event;
        unrefused = sym (ap (cause L) event) ∙ s.0;
        canceled = elim o.state [
          | inl z ↦ absurd (let q : Some false ≡ Some true = sym ((grouped_at capacity events i).present o.canceller u.g z.1) ∙ u.marked in
              let f : ⊥ = cc in f)
          | inr z ↦ record { canceller = o.canceller; made = o.made; is_made = o.is_made; canceled = z.0 }
        ];
        holds = x.holds;
      }

  -- What is submitted under a canceled group is answered at once.
  canceled-at_once : (i : ℕ) (buffer : HeldBuf) → IsUnderCanceled capacity events (answers capacity events) i buffer →
      slice_get (answers capacity events) i ≡ Some (CanceledAtOnce buffer)
  canceled-at_once i buffer x =
      let L : Ledger = ledger_before capacity events i in
      let e : Event = Submit x.request (Some x.handle) x.linked in
      let origins : OriginsAt capacity events i L = origins_at capacity events i e x.event in
      let y : IsCanceledHandle events (answers capacity events) x.handle i = x.canceled in
      let before : y.made < i = (let a = y.canceled.after in let b = y.canceled.before in omega (arith, a, b)) in
      let within = origins.made y.canceller x.handle y.made before y.is_made in
      elim (slice_get_cases L.cancel_handles x.handle).1 [
        | inl g ↦ (
            let marked : slice_get L.groups g.0 ≡ Some true =
            canceled-marked capacity events i x.handle y.canceller y.made y.is_made origins g.0 g.2 y.canceled in
            let under : is_under_marked L (Some x.handle) ≡ true = ap (passes (is_marked L)) g.2 ∙ ap (passes (λ mark. mark)) marked in
            reply-at (empty capacity) events i e x.event
            ∙ ap (λ s. Some s.1) (step-row L e x.unrefused)
            ∙ ap (λ b. Some (submit_if b L x.request (group_under L (Some x.handle)) x.linked).1) under
            ∙ ap (λ held. Some (CanceledAtOnce held)) (sym x.holds))
        | inr past ↦ absurd (let p = past.0 in omega (arith, p, within))
      ]

  -- An event is answered so exactly where it submits under a canceled group.
  pub canceled-at-once-exactly : CanceledAtOnceExactly capacity events (answers capacity events)
  canceled-at-once-exactly i buffer = (at_once-canceled i buffer, canceled-at_once i buffer)
