-- The laws of closes, by what holds of the closes before each event of a run.
use Rattle.std.proofs.Common.{◌≡◌, ◌⊎◌, inl, inr, ℕ, zero, suc, ◌≤◌, ◌<◌, Bool, true, false, List, length, take}
use Rattle.std.proofs.Common.{Some, slice_get, refl, sym, ◌∙◌, ap, subst, arith}
use Rattle.std.proofs.lemmas.Option.{slice_get_cases, slice_get_within}
use Rattle.machine.specs.declared.ledger.Event.{Event}
use Rattle.machine.specs.declared.ledger.Reply.{Reply}
use Rattle.machine.specs.declared.ledger.Reply.TheVariants.{Turned}
use Rattle.machine.specs.Ledger.{Ledger, empty}
use Rattle.machine.specs.Queue.{is_unheld}
use Rattle.machine.specs.Step.{step}
use Rattle.machine.specs.Run.{replies, ledger_before}
use Rattle.machine.specs.Closes.{close_count}
use Rattle.run_laws.specs.Closes.{NamesClosed, IsClosedBefore, IsReleasedBefore, ClosedOnce, ClosedWhenReleased}
use Rattle.run_laws.specs.Closes.{UnheldCloses, ClosedOnly}
use Rattle.machine.proofs.Numbers.{same-or-not, below-or-not, below-or-above}
use Rattle.machine.proofs.Holders.{unheld-is}
use Rattle.machine.proofs.Lawful.{Lawful, lawful-ledger}
use Rattle.run_laws.proofs.Times.{times, times-some, times-there, times-once}
use Rattle.run_laws.proofs.Replies.{reply-at, reply-event, after-next}
use Rattle.run_laws.proofs.Closing.{closed_by, Ends, ends-step}
use Rattle.run_laws.proofs.Unused.{Unused, unused-step}
use Rattle.run_laws.proofs.Made.{made-only, Unreturned, unreturned-now, unreturned-next, abandoned}

-- A reply that names a close is that of a Turn.
turned-some : (r : Reply) (h : ℕ) → 1 ≤ times h (closed_by r) →
    (reaped : List ℕ) × (woken : List ℕ) × (r ≡ Turned reaped (closed_by r) woken)
turned-some (Turned reaped closed woken) h some = (reaped, woken, refl)
turned-some r h some = absurd (omega (arith, some))

module _ (capacity : ℕ) (events : List Event) where
  -- The replies of the run.
  abbrev pub answers : List Reply
  answers = replies (empty capacity) events

  -- What holds of the closes before the event at k: a handle that nobody holds has its close in the lists, or it was named; one
  -- whose close was named is there, nobody holds it, and its close is in no list; and one that its user doesn't hold was released, or an
  -- operation made it that wasn't returned.
  record Settled (k : ℕ) (L : Ledger) : Type 0 where
    waiting : (h : ℕ) → h < length L.owners → is_unheld L h ≡ true → (1 ≤ close_count L h) ⊎ IsClosedBefore answers h k
    within : (h : ℕ) → IsClosedBefore answers h k → h < length L.owners
    unheld : (h : ℕ) → IsClosedBefore answers h k → is_unheld L h ≡ true
    none : (h : ℕ) → IsClosedBefore answers h k → close_count L h ≡ 0
    released : (h : ℕ) → Unused L h → IsReleasedBefore events answers h k ⊎ Unreturned capacity events h k

  -- What a reply that names a close says: the closes named are those of the step.
  names-times : (k h place : ℕ) (r : Reply) → slice_get answers k ≡ Some r → NamesClosed answers h k place → 1 ≤ times h (closed_by r)
  names-times k h place r reply x =
      let same : Turned x.reaped x.closed x.woken ≡ r = (let q = sym x.reply ∙ reply in cc) in
      let some : 1 ≤ times h x.closed = times-some h x.closed place x.named in
      subst (λ q. 1 ≤ times h (closed_by q)) same some

  module _ (k : ℕ) (e : Event) (here : slice_get events k ≡ Some e) where
    -- The ledger before the event.
    abbrev pub old : Ledger
    old = ledger_before capacity events k

    -- The ledger after it.
    abbrev pub new : Ledger
    new = (step old e).0

    -- What holds of the ledger before it.
    lawful : Lawful old
    lawful = lawful-ledger capacity (take k events)

    -- What the step makes of the closes.
    pub ends : Ends old new (closed_by (step old e).1)
    ends = ends-step old e lawful (made-only capacity events k)

    -- The reply to it.
    reply : slice_get answers k ≡ Some (step old e).1
    reply = reply-at (empty capacity) events k e here

    -- A handle is there, nobody holds it, and after the event it has no close.
    pub record Named (h : ℕ) : Type 0 where
      pub within : h < length old.owners
      pub unheld : is_unheld old h ≡ true
      pub none : close_count new h ≡ 0

    -- So it is where the reply names its close.
    named-now : (h place : ℕ) → NamesClosed answers h k place → Named h
    named-now h place x =
        let some = names-times k h place (step old e).1 reply x in
        let few = ends.few h in
        let once = lawful.closes.once h in
        let within = lawful.closes.there h (omega (arith, some, few)) in
        let unheld = lawful.closes.unheld h (omega (arith, some, few)) in
        let left = ends.closes h within unheld in
        record { within = within; unheld = unheld; none = omega (arith, some, once, left) }

    -- What was named before the next event was named now, or before.
    now-or-before : (h : ℕ) → IsClosedBefore answers h (suc k) → Named h ⊎ IsClosedBefore answers h k
    now-or-before h x = elim (same-or-not x.turn k) [
      | inl same ↦ inl (named-now h x.place (subst (λ i. NamesClosed answers h i x.place) same x.names))
      | inr other ↦ inr (record { turn = x.turn; place = x.place; before = (let b = x.before in omega (arith, b, other)); names = x.names })
    ]

    -- A close that is named now.
    closes-now : (h : ℕ) → 1 ≤ times h (closed_by (step old e).1) → IsClosedBefore answers h (suc k)
    closes-now h some =
        let t = turned-some (step old e).1 h some in
        let p = times-there h (closed_by (step old e).1) some in
        record {
          turn = k;
          place = p.0;
          before = omega arith;
          names = record {
            reaped = t.0;
            closed = closed_by (step old e).1;
            woken = t.1;
            reply = reply ∙ ap Some t.2;
            named = p.1;
          };
        }

    -- What was named before stays so.
    before-next : (h : ℕ) → IsClosedBefore answers h k → IsClosedBefore answers h (suc k)
    before-next h x = record { turn = x.turn; place = x.place; before = (let b = x.before in omega (arith, b)); names = x.names }

    module _ (settled : Settled k old) where
      -- A handle that nobody holds, by whether somebody held it.
      waiting-next : (h : ℕ) → h < length new.owners → is_unheld new h ≡ true →
          (h < length old.owners) ⊎ (length old.owners ≤ h) → (b : Bool) → is_unheld old h ≡ b →
          (1 ≤ close_count new h) ⊎ IsClosedBefore answers h (suc k)
      waiting-next h within is (inr past) b was = inl (ends.comes h within (λ lt. absurd (omega (arith, lt, past))) is)
      waiting-next h within is (inl lt) false was = inl (ends.comes h within (λ l. was) is)
      waiting-next h within is (inl lt) true was = elim (settled.waiting h lt was) [
        | inl some ↦ elim (below-or-not 0 (times h (closed_by (step old e).1))) [
          | inl now ↦ inr (closes-now h now)
          | inr past ↦ inl (let left = ends.closes h lt was in omega (arith, left, some, past))
        ]
        | inr before ↦ inr (before-next h before)
      ]

      -- A handle that its user doesn't hold was released now, or before, or an operation made it that wasn't returned.
      released-next : (h : ℕ) → Unused new h → IsReleasedBefore events answers h (suc k) ⊎ Unreturned capacity events h (suc k)
      released-next h u = elim (unused-step old e h lawful.known u) [
        | inl v ↦ elim (settled.released h v) [
          | inl r ↦ inl (record {
            release = r.release;
            before = (let b = r.before in omega (arith, b));
            event = r.event;
            reply = r.reply;
          })
          | inr r ↦ inr (unreturned-next capacity events k e here h u r)
        ]
        | inr x ↦ elim x [
          | inl f ↦ inl (record { release = k; before = omega arith; event = here ∙ ap Some f.0; reply = reply ∙ ap Some f.1 })
          | inr m ↦ inr (unreturned-now capacity events k e here h m.0 m.1)
        ]
      ]

      -- One event more.
      settled-next : Settled (suc k) new
      settled-next = record {
        waiting = λ h within is. waiting-next h within is (below-or-not h (length old.owners)) (is_unheld old h) refl;
        within = λ h x. elim (now-or-before h x) [
          | inl n ↦ (let w = n.within in let m = ends.more in omega (arith, w, m))
          | inr b ↦ (let w = settled.within h b in let m = ends.more in omega (arith, w, m))
        ];
        unheld = λ h x. elim (now-or-before h x) [
          | inl n ↦ ends.stays h n.within n.unheld
          | inr b ↦ ends.stays h (settled.within h b) (settled.unheld h b)
        ];
        none = λ h x. elim (now-or-before h x) [
          | inl n ↦ n.none
          | inr b ↦ (
              let left = ends.closes h (settled.within h b) (settled.unheld h b) in
              let no = settled.none h b in
              omega (arith, left, no))
        ];
        released = released-next;
      }

  -- It holds before each event.
  settled : (k : ℕ) → k ≤ length events → Settled k (ledger_before capacity events k)
  settled zero h = record {
    waiting = λ j within is. absurd (omega (arith, within));
    within = λ j x. absurd (let b = x.before in omega (arith, b));
    unheld = λ j x. absurd (let b = x.before in omega (arith, b));
    none = λ j x. absurd (let b = x.before in omega (arith, b));
    released = λ j u. absurd (let w = u.0 in omega (arith, w));
  }
  settled (suc k) h = elim (slice_get_cases events k).1 [
    | inl e ↦ subst (Settled (suc k)) (sym (after-next (empty capacity) events k e.0 e.2))
        (settled-next k e.0 e.2 (settled k (omega arith)))
    | inr e ↦ absurd (let l = e.0 in omega (arith, h))
  ]

  -- At a place that names a close there is an event.
  pub event-of : (h i place : ℕ) → NamesClosed answers h i place → (e : Event) × (slice_get events i ≡ Some e)
  event-of h i place x = reply-event (empty capacity) events i (Turned x.reaped x.closed x.woken) x.reply

  -- What holds before an event that is there.
  settled-at : (i : ℕ) (e : Event) → slice_get events i ≡ Some e → Settled i (ledger_before capacity events i)
  settled-at i e here = settled i (let l = slice_get_within events i e here in omega (arith, l))

  -- What is named at an event had its close in the lists before it, and was named by no event before.
  names-first : (h i j place other : ℕ) → i < j → NamesClosed answers h i place → NamesClosed answers h j other → ⊥
  names-first h i j place other lt x y =
      let e = event-of h j other y in
      let s : Settled j (ledger_before capacity events j) = settled-at j e.0 e.1 in
      let no = s.none h (record { turn = i; place = place; before = lt; names = x }) in
      let some = names-times j h other (step (old j e.0 e.1) e.0).1 (reply j e.0 e.1) y in
      let few = (ends j e.0 e.1).few h in
      omega (arith, no, some, few)

  -- The replies name the close of a handle at most once.
  pub closed-once : ClosedOnce answers
  closed-once h i j place other x y = elim (same-or-not i j) [
    | inl same ↦ (
      same,
      (
          let e = event-of h i place x in
          let closed : x.closed ≡ y.closed = (let q = sym x.reply ∙ ap (slice_get answers) same ∙ y.reply in cc) in
          let r : Turned x.reaped x.closed x.woken ≡ (step (old i e.0 e.1) e.0).1 = (let q = sym x.reply ∙ reply i e.0 e.1 in cc) in
          let few = (ends i e.0 e.1).few h in
          let once = (lawful i e.0 e.1).closes.once h in
          let named : times h x.closed ≡ times h (closed_by (step (old i e.0 e.1) e.0).1) = ap (λ q. times h (closed_by q)) r in
          times-once h x.closed place other (omega (arith, few, once, named)) x.named (ap (λ c. slice_get c other) closed ∙ y.named)),
    )
    | inr apart ↦ absurd (elim (below-or-above i j apart) [
      | inl lt ↦ names-first h i j place other lt x y
      | inr gt ↦ names-first h j i other place gt y x
    ])
  ]

  -- What holds of a handle whose close is named, before that event.
  pub named-at : (h i place : ℕ) (x : NamesClosed answers h i place) (e : Event) (here : slice_get events i ≡ Some e) → Named i e here h
  named-at h i place x e here = named-now i e here h place x

  -- A Turn names the close of a handle only after an unrefused Close of it, or where it was abandoned.
  pub closed-when-released : ClosedWhenReleased capacity events answers
  closed-when-released h i place x =
      let e = event-of h i place x in
      let n = named-at h i place x e.0 e.1 in
      let unheld : is_unheld (ledger_before capacity events i) h ≡ true = n.unheld in
      elim ((settled-at i e.0 e.1).released h (n.within, (unheld-is (ledger_before capacity events i) h unheld).user)) [
        | inl r ↦ inl r
        | inr r ↦ inr (abandoned capacity events h i (let l = slice_get_within events i e.0 e.1 in omega (arith, l)) unheld r)
      ]

  -- The close of a handle is in the lists at most once, and only where nobody holds it.
  pub closed-only : ClosedOnly capacity events
  closed-only i = (lawful-ledger capacity (take i events)).closes

  -- A handle that nobody holds has its close in the lists, or it was named.
  pub unheld-closes : UnheldCloses capacity events answers
  unheld-closes i h inside within is = elim ((settled i inside).waiting h within is) [
    | inl some ↦ inl (let once = (closed-only i).once h in omega (arith, some, once))
    | inr before ↦ inr before
  ]
