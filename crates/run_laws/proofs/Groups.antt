-- Before each event of a run the groups of cancel handles and of operations have their origins.
use Rattle.std.proofs.Common.{◌≡◌, ◌<◌, inl, inr, ℕ, zero, suc, ◌≤◌, Bool, true, false, List, [], ◌∷◌, ◌++◌, length, take, Option, None}
use Rattle.std.proofs.Common.{Some, slice_get, refl, sym, ◌∙◌, ap, subst, arith}
use Rattle.std.proofs.lemmas.List.{length-map}
use Rattle.std.proofs.lemmas.Option.{slice_get_cases, slice_get_within}
use Rattle.rent_buf.specs.Buffer.{Buffer}
use Rattle.rent_buf.specs.Parts.{Parts}
use Rattle.machine.specs.declared.request.Request.{Request}
use Rattle.machine.specs.declared.ledger.Event.{Event}
use Rattle.machine.specs.declared.ledger.Event.TheVariants.{Give, Feed, FeedMessage, End, Look, Close, Submit, Poll, Drop, Cancel, Turn}
use Rattle.machine.specs.declared.ledger.Event.TheVariants.{Exec}
use Rattle.machine.specs.declared.ledger.Event.TheVariants.{NewCanceller, NewHandle, CancelAll}
use Rattle.machine.specs.declared.ledger.Refusal.{Refusal}
use Rattle.machine.specs.declared.ledger.Reply.TheVariants.{Submitted, CanceledAtOnce, Canceller, CancelHandle, Refused}
use Rattle.machine.specs.Request.{held_of}
use Rattle.machine.specs.Ledger.{Ledger, empty, is_under_marked, group_under, members}
use Rattle.machine.specs.Refusal.{cause}
use Rattle.machine.specs.Step.{step, row, answered, submit_step, submit_if, group_of, cancel_all_step}
use Rattle.machine.specs.Run.{ledger_before}
use Rattle.run_laws.specs.Groups.{CreatesHandle, IsCanceledBetween}
use Rattle.machine.proofs.Staying.{groups_of}
use Rattle.machine.proofs.Stepping.{step-refused, step-row, submitted-under, handle-canceller, cancel-canceller}
use Rattle.machine.proofs.Grouping.{op_groups, may_group, groups-row, renewed, groups-submit, groups-cancel_all, group-there}
use Rattle.machine.proofs.Grouped.{Grouped, grouped-ledger}
use Rattle.run_laws.proofs.Replies.{reply-at, after-next}
use Rattle.run_laws.proofs.Origins.{answers, IsGroupUnder, OriginsAt, origins-still, origins-given, origins-canceller, origins-handle}
use Rattle.run_laws.proofs.Origins.{origins-renewed, origins-as, Origin}
use Rattle.run_laws.proofs.Polls.{once-by}

-- The group that a request is submitted under, unrefused, is that of its cancel handle.
group-under-is : (L : Ledger) (request : Request Buffer Parts) (under : Option ℕ) (linked : Bool) →
    cause L (Submit request under linked) ≡ None → IsGroupUnder (groups_of L) under (group_under L under)
group-under-is L request None linked u = refl
group-under-is L request (Some handle) linked u = elim (slice_get_cases L.cancel_handles handle).1 [
  | inl e ↦ (e.0, e.2, e.2)
  | inr e ↦ absurd (let past = e.0 in let within = submitted-under L request handle linked u in omega (arith, past, within))
]

-- The number of a cancel handle that is created is the count of those before it.
handle-by_cause : (L : Ledger) (c handle : ℕ) (x : Option Refusal) → (answered x L (NewHandle c)).1 ≡ CancelHandle handle →
    handle ≡ length L.cancel_handles
handle-by_cause L c handle None h = (let q : length L.cancel_handles ≡ handle = cc in sym q)
handle-by_cause L c handle (Some refusal) h = (let f : ⊥ = cc in absurd f)

-- The same of a step.
handle-number : (L : Ledger) (c handle : ℕ) → (step L (NewHandle c)).1 ≡ CancelHandle handle → handle ≡ length L.cancel_handles
unfolding step
handle-number L c handle h = handle-by_cause L c handle (cause L (NewHandle c)) h

module _ (capacity : ℕ) (events : List Event) where
  module _ (k : ℕ) (origins : OriginsAt capacity events k (ledger_before capacity events k)) where
    -- An event that changes no groups.
    quiet-next : (e : Event) → slice_get events k ≡ Some e → may_group e ≡ false →
        slice_get (answers capacity events) k ≡ Some (row (ledger_before capacity events k) e).1 →
        OriginsAt capacity events (suc k) (row (ledger_before capacity events k) e).0
    quiet-next e here quiet reply =
        let L : Ledger = ledger_before capacity events k in
        let s = groups-row L e quiet in
        origins-as capacity events (suc k) (row L e).0 (groups_of L) (op_groups L) s.groups s.ops
        (origins-still capacity events k e (row L e).1 here reply (groups_of L) (op_groups L) (record {
          makes_none = λ c handle p q. (let w : false ≡ true = sym quiet ∙ ap may_group p in let f : ⊥ = cc in f);
          cancels_none = λ c numbers p q. (let w : false ≡ true = sym quiet ∙ ap may_group p in let f : ⊥ = cc in f);
        }) origins)

    -- A submission, under a marked group or not.
    submit-next : (b : Bool) (request : Request Buffer Parts) (under : Option ℕ) (linked : Bool) →
        slice_get events k ≡ Some (Submit request under linked) →
        cause (ledger_before capacity events k) (Submit request under linked) ≡ None →
        let L : Ledger = ledger_before capacity events k in
        slice_get (answers capacity events) k ≡ Some (submit_if b L request (group_under L under) linked).1 →
        OriginsAt capacity events (suc k) (submit_if b L request (group_under L under) linked).0
    submit-next true request under linked here unrefused reply =
        let L : Ledger = ledger_before capacity events k in
        origins-still capacity events k (Submit request under linked) (CanceledAtOnce (held_of request)) here reply (groups_of L)
        (op_groups L)
        (record { makes_none = λ c handle p q. cc; cancels_none = λ c numbers p q. cc }) origins
    submit-next false request under linked here unrefused reply =
        let L : Ledger = ledger_before capacity events k in
        let group : Option ℕ = group_under L under in
        let s = groups-submit L request group linked in
        let same : length (op_groups L) ≡ length L.ops = length-map L.ops (λ o. o.group) in
        origins-as capacity events (suc k) (submit_step L request group linked) (groups_of L) (op_groups L ++ group ∷ []) s.0 s.1
        (origins-given capacity events (suc k) (groups_of L) (op_groups L) group (record {
          at = k;
          before = omega arith;
          is_given =
              record {
                request = request;
                under = under;
                linked = linked;
                event = here;
                reply = reply ∙ ap (λ n. Some (Submitted n)) (sym same);
              };
          under = group-under-is L request under linked unrefused;
        })
        (origins-still capacity events k (Submit request under linked) (Submitted (length L.ops)) here reply (groups_of L) (op_groups L)
        (record { makes_none = λ c handle p q. cc; cancels_none = λ c numbers p q. cc }) origins))

    -- A new canceller.
    canceller-next : slice_get events k ≡ Some NewCanceller →
        slice_get (answers capacity events) k ≡ Some (row (ledger_before capacity events k) NewCanceller).1 →
        OriginsAt capacity events (suc k) (row (ledger_before capacity events k) NewCanceller).0
    canceller-next here reply =
        let L : Ledger = ledger_before capacity events k in
        origins-canceller capacity events (suc k) (groups_of L) (op_groups L)
        (origins-still capacity events k NewCanceller (Canceller (length L.cancellers)) here reply (groups_of L) (op_groups L)
        (record { makes_none = λ c handle p q. cc; cancels_none = λ c numbers p q. cc }) origins)

    -- A new cancel handle.
    handle-next : (c : ℕ) → slice_get events k ≡ Some (NewHandle c) → cause (ledger_before capacity events k) (NewHandle c) ≡ None →
        slice_get (answers capacity events) k ≡ Some (row (ledger_before capacity events k) (NewHandle c)).1 →
        OriginsAt capacity events (suc k) (row (ledger_before capacity events k) (NewHandle c)).0
    handle-next c here unrefused reply =
        let L : Ledger = ledger_before capacity events k in
        origins-handle capacity events k (groups_of L) (op_groups L) c (group_of L c) here reply
        (group-there L c (handle-canceller L c unrefused)) origins

    -- A CancelAll.
    cancel_all-next : (c : ℕ) → slice_get events k ≡ Some (CancelAll c) → cause (ledger_before capacity events k) (CancelAll c) ≡ None →
        slice_get (answers capacity events) k ≡ Some (row (ledger_before capacity events k) (CancelAll c)).1 →
        OriginsAt capacity events (suc k) (row (ledger_before capacity events k) (CancelAll c)).0
    cancel_all-next c here unrefused reply =
        let L : Ledger = ledger_before capacity events k in
        let g : ℕ = group_of L c in
        let s = groups-cancel_all L c g in
        let at : slice_get L.cancellers c ≡ Some g = group-there L c (cancel-canceller L c unrefused) in
        let grouped : Grouped L = grouped-ledger capacity (take k events) in
        origins-as capacity events (suc k) (cancel_all_step L c g) (renewed (groups_of L) c g) (op_groups L) s.0 s.1
        (origins-renewed capacity events k (groups_of L) (op_groups L) c g (members L g) here reply at (grouped.present c g at) origins)

    -- Each row.
    row-next : (e : Event) → slice_get events k ≡ Some e → cause (ledger_before capacity events k) e ≡ None →
        slice_get (answers capacity events) k ≡ Some (row (ledger_before capacity events k) e).1 →
        OriginsAt capacity events (suc k) (row (ledger_before capacity events k) e).0
    row-next (Give kind) here unrefused reply = quiet-next (Give kind) here refl reply
    row-next (Feed h bytes) here unrefused reply = quiet-next (Feed h bytes) here refl reply
    row-next (FeedMessage h addr bytes) here unrefused reply = quiet-next (FeedMessage h addr bytes) here refl reply
    row-next (End h) here unrefused reply = quiet-next (End h) here refl reply
    row-next (Look h) here unrefused reply = quiet-next (Look h) here refl reply
    row-next (Close h) here unrefused reply = quiet-next (Close h) here refl reply
    row-next (Submit request under linked) here unrefused reply =
        submit-next (is_under_marked (ledger_before capacity events k) under) request under linked here unrefused reply
    row-next (Poll n task) here unrefused reply = quiet-next (Poll n task) here refl reply
    row-next (Drop n) here unrefused reply = quiet-next (Drop n) here refl reply
    row-next (Cancel n) here unrefused reply = quiet-next (Cancel n) here refl reply
    row-next NewCanceller here unrefused reply = canceller-next here reply
    row-next (NewHandle c) here unrefused reply = handle-next c here unrefused reply
    row-next (CancelAll c) here unrefused reply = cancel_all-next c here unrefused reply
    row-next Turn here unrefused reply = quiet-next Turn here refl reply
    row-next (Exec place told) here unrefused reply = quiet-next (Exec place told) here refl reply

    -- Each event, by its cause.
    cause-next : (e : Event) (c : Option Refusal) → slice_get events k ≡ Some e → cause (ledger_before capacity events k) e ≡ c →
        OriginsAt capacity events (suc k) (step (ledger_before capacity events k) e).0
    cause-next e None here h =
        let s = step-row (ledger_before capacity events k) e h in
        subst (λ x. OriginsAt capacity events (suc k) x.0) (sym s)
        (row-next e here h (reply-at (empty capacity) events k e here ∙ ap (λ x. Some x.1) s))
    cause-next e (Some refusal) here h =
        let L : Ledger = ledger_before capacity events k in
        let s = step-refused L e refusal h in
        subst (λ x. OriginsAt capacity events (suc k) x.0) (sym s)
        (origins-still capacity events k e (Refused refusal) here (reply-at (empty capacity) events k e here ∙ ap (λ x. Some x.1) s)
        (groups_of L) (op_groups L)
        (record { makes_none = λ d handle p q. cc; cancels_none = λ d numbers p q. cc }) origins)

  -- Before each event of a run the groups have their origins.
  pub origins-reached : (k : ℕ) → k ≤ length events → OriginsAt capacity events k (ledger_before capacity events k)
  origins-reached zero h = record {
    origin = λ handle g there. (let f : ⊥ = cc in absurd f);
    made = λ c handle i lt x. absurd (omega (arith, lt));
    given = λ n group there. (let f : ⊥ = cc in absurd f);
  }
  origins-reached (suc k) h = elim (slice_get_cases events k).1 [
    | inl e ↦ subst (OriginsAt capacity events (suc k)) (sym (after-next (empty capacity) events k e.0 e.2))
        (cause-next k (origins-reached k (omega arith)) e.0 _ e.2 refl)
    | inr e ↦ absurd (let l = e.0 in omega (arith, h))
  ]

  -- The origins before an event that is there.
  pub origins_at : (i : ℕ) (e : Event) → slice_get events i ≡ Some e → OriginsAt capacity events i (ledger_before capacity events i)
  origins_at i e here = origins-reached i (let l = slice_get_within events i e here in omega arith)

  -- What holds of the groups before each event.
  pub grouped_at : (i : ℕ) → Grouped (ledger_before capacity events i)
  grouped_at i = grouped-ledger capacity (take i events)

  -- The event at i creates this cancel handle.
  abbrev Makes : ℕ → ℕ → Type 0
  Makes handle i = (c : ℕ) × CreatesHandle events (answers capacity events) c handle i

  -- A cancel handle isn't created again.
  made-late : (handle i j : ℕ) → i < j → Makes handle i → Makes handle j → ⊥
  made-late handle i j lt x y =
      let L : Ledger = ledger_before capacity events j in
      let within = (origins_at j (NewHandle y.0) y.1.event).made x.0 handle i lt x.1 in
      let number : handle ≡ length L.cancel_handles = handle-number L y.0 handle
      (let q = sym (reply-at (empty capacity) events j (NewHandle y.0) y.1.event) ∙ y.1.reply in cc) in
      omega (arith, within, number)

  -- One event alone creates it, and it has one canceller.
  pub made-once : (b c handle i j : ℕ) → CreatesHandle events (answers capacity events) b handle i →
      CreatesHandle events (answers capacity events) c handle j → (i ≡ j) × (b ≡ c)
  made-once b c handle i j x y =
      let same : i ≡ j = once-by (Makes handle) (made-late handle) i j (b, x) (c, y) in
      (same, (let q = sym x.event ∙ ap (slice_get events) same ∙ y.event in cc))

  -- The origin of a cancel handle of a known canceller.
  module _ (i handle c made : ℕ) (x : CreatesHandle events (answers capacity events) c handle made)
      (origins : OriginsAt capacity events i (ledger_before capacity events i)) where
    -- A canceled one has a marked group.
    pub canceled-marked : (g : ℕ) → slice_get (ledger_before capacity events i).cancel_handles handle ≡ Some g →
        IsCanceledBetween events (answers capacity events) c made i → slice_get (ledger_before capacity events i).groups g ≡ Some true
    canceled-marked g there canceled =
        let o : Origin capacity events i (groups_of (ledger_before capacity events i)) handle g = origins.origin handle g there in
        let same = made-once c o.canceller handle made o.made x o.is_made in
        elim o.state [
          | inl s ↦ absurd (s.0 (subst (λ b. IsCanceledBetween events (answers capacity events) b o.made i) same.1
              (subst (λ m. IsCanceledBetween events (answers capacity events) c m i) same.0 canceled)))
          | inr s ↦ s.1
        ]

    -- One that isn't has its canceller's present group.
    pub present-group : (g : ℕ) → slice_get (ledger_before capacity events i).cancel_handles handle ≡ Some g →
        (IsCanceledBetween events (answers capacity events) c made i → ⊥) →
        slice_get (ledger_before capacity events i).cancellers c ≡ Some g
    present-group g there present =
        let L : Ledger = ledger_before capacity events i in
        let o : Origin capacity events i (groups_of L) handle g = origins.origin handle g there in
        let same = made-once c o.canceller handle made o.made x o.is_made in
        elim o.state [
          | inl s ↦ ap (slice_get L.cancellers) same.1 ∙ s.1
          | inr s ↦ absurd (present (subst (λ m. IsCanceledBetween events (answers capacity events) c m i) (sym same.0)
              (subst (λ b. IsCanceledBetween events (answers capacity events) b o.made i) (sym same.1) s.0)))
        ]
