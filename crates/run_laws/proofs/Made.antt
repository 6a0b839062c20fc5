-- What holds of a handle that an operation made, before each event of a run.
use Rattle.std.proofs.Common.{◌≡◌, ◌⊎◌, inl, inr, ℕ, zero, suc, ◌+◌, ◌-◌, ◌≤◌, ◌<◌, Bool, true, false, List, length, take, Option}
use Rattle.std.proofs.Common.{None, Some, slice_get, refl, sym, ◌∙◌, ap, subst, arith, true≢false}
use Rattle.std.proofs.lemmas.Option.{slice_get_cases, slice_get_within}
use Rattle.rent_buf.specs.Held.{HeldBuf}
use Rattle.machine.specs.declared.request.Told.{Told}
use Rattle.machine.specs.declared.request.Outcome.{Outcome}
use Rattle.machine.specs.declared.request.Outcome.TheVariants.{Made}
use Rattle.machine.specs.declared.ledger.Event.{Event}
use Rattle.machine.specs.declared.ledger.Event.TheVariants.{Poll, Exec}
use Rattle.machine.specs.declared.ledger.Reply.TheVariants.{Handed}
use Rattle.machine.specs.Lists.{passes}
use Rattle.machine.specs.Request.{call_of, sent_of, held}
use Rattle.machine.specs.Effect.{made_by}
use Rattle.machine.specs.Ledger.{Ledger, Operation, Place, InQueue, InFlight, InDone, Reaped, Gone, Item, Op, empty, is_kept, is_live}
use Rattle.machine.specs.Ledger.{user_holds}
use Rattle.machine.specs.Queue.{is_unheld}
use Rattle.machine.specs.Turn.{effect_of}
use Rattle.machine.specs.Step.{step, handed_over, poll_at, poll_step}
use Rattle.machine.specs.Refusal.{cause}
use Rattle.machine.specs.Closes.{made_at}
use Rattle.machine.specs.Run.{replies, ledger_before, IsExecuted, IsOwn}
use Rattle.run_laws.proofs.Executing.{made-itself, exec-itself, own-itself}
use Rattle.run_laws.specs.Moments.{IsReapedBefore}
use Rattle.run_laws.specs.Closes.{IsMadeBy, IsAbandonedBefore, IsOverBefore, MadeOnce, MadeOnly}
use Rattle.machine.proofs.Numbers.{same-or-not, below-or-not, below-or-above}
use Rattle.machine.proofs.Staying.{stays-leave}
use Rattle.machine.proofs.Holders.{held-by_op}
use Rattle.machine.proofs.Users.{user-with_user}
use Rattle.machine.proofs.Turning.{grows-effect}
use Rattle.machine.proofs.Stepping.{step-row, OwnedAt, found}
use Rattle.machine.proofs.Lawful.{lawful-ledger}
use Rattle.machine.proofs.Alone.{alone-ledger, made-there, made-holding}
use Rattle.run_laws.proofs.Replies.{reply-at, after-next, executed-reply}
use Rattle.run_laws.proofs.Moments.{NotBefore, Hands, Placed, Owned, History}
use Rattle.run_laws.proofs.History.{not-before-next}
use Rattle.run_laws.proofs.Reached.{reached}
use Rattle.run_laws.proofs.Polls.{executed-once, one-own}
use Rattle.run_laws.proofs.Once.{handed-unrefused, handed-reaped}
use Rattle.run_laws.proofs.Closing.{ends-step}
use Rattle.run_laws.proofs.Unused.{Unused, Makes}

-- An outcome that names a handle.
pub made-outcome : (outcome : Outcome) (h : ℕ) → made_by outcome ≡ Some h → outcome ≡ Made h
made-outcome (Made k) h is = ap Made (let e : k ≡ h = cc in e)
made-outcome (Outcome.Count k) h is = (let f : ⊥ = cc in absurd f)
made-outcome (Outcome.From k addr) h is = (let f : ⊥ = cc in absurd f)
made-outcome (Outcome.Fail e) h is = (let f : ⊥ = cc in absurd f)

-- A poll that returns an operation leaves the handle that it made to its user.
poll-hands : (L : Ledger) (n task : ℕ) (o : Operation) (p : Place) (h : ℕ) (outcome : Outcome) (buffer : HeldBuf) → o.made ≡ Some h →
    h < length L.owners → (poll_at L n task o p).1 ≡ Handed outcome buffer → user_holds (poll_at L n task o p).0 h ≡ true
poll-hands L n task o (Reaped told) h outcome buffer made within reply =
    ap (λ owners. passes (λ owner. owner.is_user) (slice_get owners h)) (stays-leave (handed_over L o.made) n).owners
    ∙ ap (λ m. user_holds (handed_over L m) h) made ∙ user-with_user L h true within
poll-hands L n task o InQueue h outcome buffer made within reply = (let f : ⊥ = cc in absurd f)
poll-hands L n task o InFlight h outcome buffer made within reply = (let f : ⊥ = cc in absurd f)
poll-hands L n task o (InDone told) h outcome buffer made within reply = (let f : ⊥ = cc in absurd f)
poll-hands L n task o Gone h outcome buffer made within reply = (let f : ⊥ = cc in absurd f)

-- An operation that is gone is over: it was returned, or it was dropped and reaped.
pub over-by : (capacity : ℕ) (events : List Event) (n i : ℕ) (dropped : Bool) → Owned capacity events i n dropped false →
    IsReapedBefore capacity events n i → IsOverBefore capacity events (replies (empty capacity) events) n i
over-by capacity events n i true owned reaped = inr (owned, reaped)
over-by capacity events n i false owned reaped = inl owned

module _ (capacity : ℕ) (events : List Event) where
  -- At each moment what an operation made is what its outcome says, and nobody else holds it.
  pub made-only : MadeOnly capacity events
  made-only i = alone-ledger capacity (take i events)

  -- A handle that is there is so before each later event.
  pub there-later : (h i count : ℕ) → i + count ≤ length events → h < length (ledger_before capacity events i).owners →
      h < length (ledger_before capacity events (i + count)).owners
  there-later h i zero inside within =
      let same : i ≡ i + 0 = omega arith in subst (λ k. h < length (ledger_before capacity events k).owners) same within
  there-later h i (suc count) inside within =
      let before = there-later h i count (omega (arith, inside)) within in
      let k : ℕ = i + count in
      let next : suc k ≡ i + suc count = omega arith in
      elim (slice_get_cases events k).1 [
        | inl e ↦ (
            let L : Ledger = ledger_before capacity events k in
            let more = (ends-step L e.0 (lawful-ledger capacity (take k events)) (made-only k)).more in
            subst (λ m. h < length (ledger_before capacity events m).owners) next
            (subst (λ K. h < length K.owners) (sym (after-next (empty capacity) events k e.0 e.2)) (omega (arith, more, before))))
        | inr e ↦ absurd (let l = e.0 in omega (arith, l, inside))
      ]

  -- What is returned was executed before.
  handed-late : (n i j : ℕ) (told : Told) (item : Item) → IsExecuted capacity events n j told item → Hands capacity events n i → j < i
  handed-late n i j told item executed x =
      let r : IsReapedBefore capacity events n i = handed-reaped capacity events n i x in
      let same = executed-once capacity events n r.reaped.exec j r.reaped.told told r.reaped.item item r.reaped.executed executed in
      let a = r.reaped.turn.behind in
      let b = r.before in
      omega (arith, same, a, b)

  module _ (n h : ℕ) (m : IsMadeBy capacity events n h) where
    -- The event that made a handle is there.
    pub made-event : m.own.exec < length events
    made-event = slice_get_within events m.own.exec (Exec m.own.is_executed.place m.own.told) m.own.is_executed.event

    -- The handle is the next number then.
    pub made-next : h ≡ length (ledger_before capacity events m.own.exec).owners
    made-next =
        let L : Ledger = ledger_before capacity events m.own.exec in
        let request = m.own.is_given.request in
        let made : made_by (effect_of L request m.own.told).outcome ≡ Some h =
        ap made_by (sym (made-itself capacity events n h m.buffer m.own).1) in
        (grows-effect L.world (call_of request) (sent_of request) m.own.told).last h made
        ∙ sym (lawful-ledger capacity (take m.own.exec events)).known.together

    -- Before a later event its maker either isn't gone, and keeps that it made the handle, or is gone.
    pub record IsMaker (k : ℕ) : Type 0 where
      pub operation : Operation
      pub there : slice_get (ledger_before capacity events k).ops n ≡ Some operation
      pub had : History capacity events k n (Some operation)
      pub state : ((is_live operation ≡ true) × (operation.made ≡ Some h)) ⊎ (operation.place ≡ Gone)

    -- What isn't gone keeps what its own outcome names.
    maker-live : (k : ℕ) (o : Operation) (outcome : Outcome) → slice_get (ledger_before capacity events k).ops n ≡ Some o →
        is_live o ≡ true → made_at o.place ≡ made_by outcome → IsOwn capacity events n outcome o.buffer →
        (is_live o ≡ true) × (o.made ≡ Some h)
    maker-live k o outcome there live at own =
        let same = (one-own capacity events n outcome (Made h) o.buffer m.buffer own m.own).0 in
        (live, (made-only k).agrees n o there live ∙ at ∙ ap made_by same)

    -- The state of the maker, by its place.
    maker-state : (k : ℕ) (o : Operation) → slice_get (ledger_before capacity events k).ops n ≡ Some o → m.own.exec < k → (p : Place) →
        o.place ≡ p → Placed capacity events k n o.buffer p → ((is_live o ≡ true) × (o.made ≡ Some h)) ⊎ (o.place ≡ Gone)
    maker-state k o there lt InQueue at placed = absurd (placed m.own.exec lt (m.own.told, m.own.item, m.own.is_executed))
    maker-state k o there lt InFlight at placed = absurd (placed m.own.exec lt (m.own.told, m.own.item, m.own.is_executed))
    maker-state k o there lt (InDone outcome) at placed =
        inl (maker-live k o outcome there (ap is_kept at) (ap made_at at) placed.own)
    maker-state k o there lt (Reaped outcome) at placed =
        inl (maker-live k o outcome there (ap is_kept at) (ap made_at at) placed.own)
    maker-state k o there lt Gone at placed = inr at

    -- The maker, by what was looked up.
    maker-found : (k : ℕ) → m.own.exec < k → (x : Option Operation) → slice_get (ledger_before capacity events k).ops n ≡ x →
        History capacity events k n x → IsMaker k
    maker-found k lt None there past = absurd (past.unexecuted m.own.exec lt (m.own.told, m.own.item, m.own.is_executed))
    maker-found k lt (Some o) there past =
        record { operation = o; there = there; had = past; state = maker-state k o there lt o.place refl past.placed }

    -- The maker before a later event.
    pub maker-at : (k : ℕ) → m.own.exec < k → k ≤ length events → IsMaker k
    maker-at k lt inside =
        maker-found k lt (slice_get (ledger_before capacity events k).ops n) refl ((reached capacity events k inside).history n)

    -- Before the next event its maker isn't gone.
    pub maker-next : (o : Operation) × (slice_get (ledger_before capacity events (suc m.own.exec)).ops n ≡ Some o) × (is_live o ≡ true)
        × (o.made ≡ Some h)
    maker-next =
        let k : ℕ = suc m.own.exec in
        let x : IsMaker k = maker-at k (omega arith) (let e = made-event in omega (arith, e)) in
        elim x.state [
          | inl s ↦ (x.operation, x.there, s.0, s.1)
          | inr gone ↦ absurd (
              let r : IsReapedBefore capacity events n k = subst (Placed capacity events k n x.operation.buffer) gone x.had.placed in
              let same =
              executed-once capacity events n r.reaped.exec m.own.exec r.reaped.told m.own.told r.reaped.item m.own.item r.reaped.executed
              m.own.is_executed in
              let a = r.reaped.turn.behind in
              let b = r.before in
              omega (arith, same, a, b))
        ]

    -- So the handle is there.
    pub made-within-next : h < length (ledger_before capacity events (suc m.own.exec)).owners
    made-within-next =
        let k : ℕ = suc m.own.exec in
        let x = maker-next in
        made-there (ledger_before capacity events k) n h x.0 (lawful-ledger capacity (take k events)).known x.1 x.3

    -- It is there before each later event.
    pub made-within : (k : ℕ) → m.own.exec < k → k ≤ length events → h < length (ledger_before capacity events k).owners
    made-within k lt inside =
        let at : suc m.own.exec + (k - suc m.own.exec) ≡ k = omega (arith, lt) in
        subst (λ j. h < length (ledger_before capacity events j).owners) at
        (there-later h (suc m.own.exec) (k - suc m.own.exec) (omega (arith, at, inside)) made-within-next)

    -- Where it is there it was made before.
    pub made-before : (k : ℕ) → h < length (ledger_before capacity events k).owners → m.own.exec < k
    made-before k within = elim (below-or-not m.own.exec k) [
      | inl lt ↦ lt
      | inr past ↦ absurd (
          let at : k + (m.own.exec - k) ≡ m.own.exec = omega (arith, past) in
          let e = made-event in
          let later = subst (λ j. h < length (ledger_before capacity events j).owners) at
          (there-later h k (m.own.exec - k) (omega (arith, at, e)) within) in
          let next = made-next in
          omega (arith, later, next))
    ]

    -- Where nobody holds it any more, its maker is over: it was returned, or it was dropped and reaped.
    pub maker-over : (i : ℕ) → m.own.exec < i → i ≤ length events → is_unheld (ledger_before capacity events i) h ≡ true →
        IsOverBefore capacity events (replies (empty capacity) events) n i
    maker-over i lt inside unheld =
        let x : IsMaker i = maker-at i lt inside in
        elim x.state [
          | inl s ↦ absurd (true≢false (sym unheld
              ∙ held-by_op (ledger_before capacity events i) h n x.operation x.there (made-holding h x.operation s.0 s.1)))
          | inr gone ↦ over-by capacity events n i x.operation.dropped
              (subst (λ p. Owned capacity events i n x.operation.dropped (is_kept p)) gone x.had.owned)
              (subst (Placed capacity events i n x.operation.buffer) gone x.had.placed)
        ]

    -- Once its maker is returned the user holds it.
    pub returned-held : (k : ℕ) → m.own.exec < k → Hands capacity events n k → user_holds (ledger_before capacity events (suc k)) h ≡ true
    returned-held k lt x =
        let L : Ledger = ledger_before capacity events k in
        let e : Event = Poll n x.task in
        let inside = slice_get_within events k e x.event in
        let is : cause L e ≡ None = handed-unrefused capacity events n k x in
        let f : OwnedAt L n = found L n is in
        let made : f.operation.made ≡ Some h = maker-owned k (maker-at k lt (omega (arith, inside))) f in
        let polled : (step L e).0 ≡ (poll_at L n x.task f.operation f.operation.place).0 =
        ap (λ s. s.0) (step-row L e is) ∙ ap (λ o. (poll_step L n x.task o).0) f.there in
        let reply : (poll_at L n x.task f.operation f.operation.place).1 ≡ Handed x.outcome x.buffer =
        (let q = sym x.reply ∙ reply-at (empty capacity) events k e x.event ∙ ap (λ s. Some s.1) (step-row L e is)
        ∙ ap (λ o. Some (poll_step L n x.task o).1) f.there in cc) in
        ap (λ K. user_holds K h) (after-next (empty capacity) events k e x.event ∙ polled)
        ∙ poll-hands L n x.task f.operation f.operation.place h x.outcome x.buffer made (made-within k lt (omega (arith, inside))) reply
      where
        maker-owned : (k : ℕ) → IsMaker k → (f : OwnedAt (ledger_before capacity events k) n) → f.operation.made ≡ Some h
        maker-owned k y f =
            let q : y.operation ≡ f.operation = (let w = sym y.there ∙ f.there in cc) in
            elim y.state [
              | inl s ↦ ap (λ o. o.made) (sym q) ∙ s.1
              | inr gone ↦ absurd (true≢false (sym f.kept ∙ ap (λ o. is_kept o.place) (sym q) ∙ ap is_kept gone))
            ]

  -- Two operations make no handle, one after the other.
  made-twice : (h n m : ℕ) (x : IsMadeBy capacity events n h) (y : IsMadeBy capacity events m h) → x.own.exec < y.own.exec → ⊥
  made-twice h n m x y lt =
      let inside = made-event m h y in
      let within = made-within n h x y.own.exec lt (omega (arith, inside)) in
      let next = made-next m h y in
      omega (arith, within, next)

  -- At most one operation makes a handle.
  pub made-once : MadeOnce capacity events
  made-once h n m x y = elim (same-or-not x.own.exec y.own.exec) [
    | inl e ↦ (
        let first : IsExecuted capacity events n x.own.exec x.own.told (Op n) =
        subst (IsExecuted capacity events n x.own.exec x.own.told) (made-itself capacity events n h x.buffer x.own).0 x.own.is_executed in
        let second : IsExecuted capacity events m y.own.exec y.own.told (Op m) =
        subst (IsExecuted capacity events m y.own.exec y.own.told) (made-itself capacity events m h y.buffer y.own).0 y.own.is_executed in
        let q = sym (executed-reply capacity events n n x.own.exec x.own.told first)
        ∙ ap (slice_get (replies (empty capacity) events)) e
        ∙ executed-reply capacity events m m y.own.exec y.own.told second in
        let p : n ≡ m = cc in p)
    | inr apart ↦ absurd (elim (below-or-above x.own.exec y.own.exec apart) [
      | inl lt ↦ made-twice h n m x y lt
      | inr gt ↦ made-twice h m n y x gt
    ])
  ]

  -- An operation made h before the event at k, and wasn't returned before it.
  pub record Unreturned (h k : ℕ) : Type 0 where
    pub maker : ℕ
    pub made : IsMadeBy capacity events maker h
    pub before : made.own.exec < k
    pub kept : NotBefore (Hands capacity events maker) k

  module _ (k : ℕ) (e : Event) (here : slice_get events k ≡ Some e) (h : ℕ) where
    -- What an event makes.
    pub unreturned-now : cause (ledger_before capacity events k) e ≡ None → Makes (ledger_before capacity events k) e h →
        Unreturned h (suc k)
    unreturned-now is m =
        let L : Ledger = ledger_before capacity events k in
        let o : Operation = m.operation in
        let result = effect_of L o.request m.told in
        let inside = slice_get_within events k e here in
        let had : History capacity events k m.n (Some o) =
        subst (History capacity events k m.n) m.there ((reached capacity events k (omega (arith, inside))).history m.n) in
        let g = had.given in
        let executed : IsExecuted capacity events m.n k m.told (Op m.n) =
        exec-itself capacity events m.n k m.place m.told (here ∙ ap Some m.event) (ap (cause L) (sym m.event) ∙ is) m.item in
        let answer = own-itself L m.n o.request m.told in
        record {
          maker = m.n;
          made = record {
            buffer = held o.request m.told result.got;
            own = record {
              given = g.at;
              exec = k;
              told = m.told;
              is_given = record { request = o.request; under = g.under; linked = g.linked; event = g.event; reply = g.reply };
              item = Op m.n;
              is_executed = executed;
              outcome_is = sym (made-outcome result.outcome h m.made) ∙ sym (ap (λ a. a.0) answer);
              buffer_is = sym (ap (λ a. a.1) answer);
            };
          };
          before = omega arith;
          kept = λ j lt x. (let late = handed-late m.n j k m.told (Op m.n) executed x in omega (arith, lt, late));
        }

    -- What wasn't returned before an event isn't at it, where the user doesn't hold the handle after it.
    pub unreturned-next : Unused (step (ledger_before capacity events k) e).0 h → Unreturned h k → Unreturned h (suc k)
    unreturned-next u r = record {
      maker = r.maker;
      made = r.made;
      before = (let b = r.before in omega (arith, b));
      kept = not-before-next (Hands capacity events r.maker) k (λ x. true≢false
          (sym (returned-held r.maker h r.made k r.before x)
          ∙ ap (λ K. user_holds K h) (after-next (empty capacity) events k e here) ∙ u.1))
          r.kept;
    }

  -- What wasn't returned, and whose handle nobody holds, is abandoned.
  pub abandoned : (h i : ℕ) → i ≤ length events → is_unheld (ledger_before capacity events i) h ≡ true → Unreturned h i →
      IsAbandonedBefore capacity events (replies (empty capacity) events) h i
  abandoned h i inside unheld r = elim (maker-over r.maker h r.made i r.before inside unheld) [
    | inl z ↦ absurd (r.kept z.hand z.before z.is_handed)
    | inr z ↦ record { maker = r.maker; made = r.made; dropped = z.0; reaped = z.1 }
  ]
