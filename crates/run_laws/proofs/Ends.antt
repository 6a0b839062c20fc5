-- How operations end: a Turn names exactly those that it reaps, none is gone before, and the error of a cancel comes only where it
-- was asked for.
use Rattle.std.proofs.Common.{◌≡◌, inl, inr, ℕ, zero, suc, ◌≤◌, Bool, true, false, not, List, [], ◌∷◌, length, Option, Some, None}
use Rattle.std.proofs.Common.{slice_get, refl, sym, ◌∙◌, ap, subst, arith}
use Rattle.std.specs.Prelude.{nat_le}
use Rattle.rent_buf.specs.Buffer.{Buffer}
use Rattle.rent_buf.specs.Parts.{Parts}
use Rattle.rent_buf.specs.Held.{HeldBuf}
use Rattle.machine.specs.declared.request.Request.{Request}
use Rattle.machine.specs.declared.request.Told.{Told}
use Rattle.machine.specs.declared.request.Told.TheVariants.{Fail}
use Rattle.machine.specs.declared.ledger.Event.{Event}
use Rattle.machine.specs.declared.ledger.Event.TheVariants.{Give, Feed, FeedMessage, End, Look, Close, Submit, Poll, Drop, Cancel, Turn}
use Rattle.machine.specs.declared.ledger.Event.TheVariants.{Exec}
use Rattle.machine.specs.declared.ledger.Event.TheVariants.{NewCanceller, NewHandle, CancelAll}
use Rattle.machine.specs.declared.ledger.Refusal.{Refusal}
use Rattle.machine.specs.declared.ledger.Refusal.TheVariants.{NotFlying, Waiting, BadOutcome}
use Rattle.machine.specs.declared.ledger.Reply.TheVariants.{Turned}
use Rattle.machine.specs.Lists.{passes}
use Rattle.machine.specs.declared.request.TheConstants.{CANCELED}
use Rattle.machine.specs.Ledger.{Ledger, Operation, Place, InQueue, InFlight, InDone, Reaped, Gone, Item, Op, empty}
use Rattle.machine.specs.Ledger.{is_under_marked, group_under}
use Rattle.machine.specs.Queue.{take_all}
use Rattle.machine.specs.Turn.{ops_in, closes_in, tasks_woken, exec_step}
use Rattle.machine.specs.Refusal.{cause, refused_if, allowed, waits}
use Rattle.machine.specs.Step.{step, row, answered, submit_if, poll_at, poll_step, drop_step}
use Rattle.machine.specs.Run.{replies, ledger_before, IsReaped}
use Rattle.run_laws.specs.Moments.{NamesReaped}
use Rattle.run_laws.specs.Headline.{ReapNames, KeptUntilReaped, CanceledWhereAsked}
use Rattle.machine.proofs.Numbers.{below-or-not}
use Rattle.machine.proofs.Taken.{done-take_each}
use Rattle.machine.proofs.Occurring.{same-cases, listed}
use Rattle.machine.proofs.Taking.{in_done, done_mark}
use Rattle.machine.proofs.Listed.{flying-there}
use Rattle.machine.proofs.Stepping.{step-row}
use Rattle.run_laws.proofs.Replies.{reply-at, reply-event}
use Rattle.run_laws.proofs.Moments.{Placed, History}
use Rattle.run_laws.proofs.Trace.{Trace}
use Rattle.run_laws.proofs.Reached.{reached}
use Rattle.run_laws.proofs.Executing.{lists-at}
use Rattle.run_laws.proofs.Polls.{traced, executed-once}
use Rattle.run_laws.proofs.Looks.{looked}

-- What stands among completions is named at a place.
listed-named : (n : ℕ) (items : List Item) → 1 ≤ listed n items → (place : ℕ) × (slice_get (ops_in items) place ≡ Some n)
listed-named n [] h = absurd (omega (arith, h))
listed-named n (Op m ∷ items) h = elim (same-cases n m) [
  | inl e ↦ (0, ap Some (sym e.0))
  | inr e ↦ (let r = listed-named n items (let z = e.1 in omega arith) in (suc r.0, r.1))
]
listed-named n (Item.Close k ∷ items) h = listed-named n items h

-- What is named at a place stands among them.
named-listed : (n : ℕ) (items : List Item) (place : ℕ) → slice_get (ops_in items) place ≡ Some n → 1 ≤ listed n items
named-listed n [] place h = (let f : ⊥ = cc in absurd f)
named-listed n (Op m ∷ items) zero h = elim (same-cases n m) [
  | inl e ↦ (let z = e.1 in omega arith)
  | inr e ↦ absurd (e.0 (let q : m ≡ n = cc in sym q))
]
named-listed n (Op m ∷ items) (suc place) h = (let r = named-listed n items place h in omega arith)
named-listed n (Item.Close k ∷ items) place h = named-listed n items place h

-- A Poll isn't answered as a Turn.
poll-no-turn : (L : Ledger) (n task : ℕ) (o : Operation) (p : Place) (reaped closed woken : List ℕ) →
    (poll_at L n task o p).1 ≡ Turned reaped closed woken → ⊥
poll-no-turn L n task o InQueue reaped closed woken h = cc
poll-no-turn L n task o InFlight reaped closed woken h = cc
poll-no-turn L n task o (InDone outcome) reaped closed woken h = cc
poll-no-turn L n task o (Reaped outcome) reaped closed woken h = cc
poll-no-turn L n task o Gone reaped closed woken h = cc

-- A poll isn't answered as a turn.
poll-step-no-turn : (L : Ledger) (n task : ℕ) (x : Option Operation) (reaped closed woken : List ℕ) →
    (poll_step L n task x).1 ≡ Turned reaped closed woken → ⊥
poll-step-no-turn L n task None reaped closed woken h = cc
poll-step-no-turn L n task (Some o) reaped closed woken h = poll-no-turn L n task o o.place reaped closed woken h

-- A drop isn't answered as a turn.
drop-no-turn : (L : Ledger) (n : ℕ) (x : Option Operation) (reaped closed woken : List ℕ) →
    (drop_step L n x).1 ≡ Turned reaped closed woken → ⊥
drop-no-turn L n None reaped closed woken h = cc
drop-no-turn L n (Some o) reaped closed woken h = cc

-- An execution isn't answered as a turn.
exec-no-turn : (L : Ledger) (place : ℕ) (told : Told) (x : Option Item) (reaped closed woken : List ℕ) →
    (exec_step L place told x).1 ≡ Turned reaped closed woken → ⊥
exec-no-turn L place told None reaped closed woken h = cc
exec-no-turn L place told (Some (Op n)) reaped closed woken h = cc
exec-no-turn L place told (Some (Item.Close k)) reaped closed woken h = cc

-- A submission isn't answered as a turn.
submit-no-turn : (b : Bool) (L : Ledger) (request : Request Buffer Parts) (group : Option ℕ) (linked : Bool)
    (reaped closed woken : List ℕ) →
    (submit_if b L request group linked).1 ≡ Turned reaped closed woken → ⊥
submit-no-turn true L request group linked reaped closed woken h = cc
submit-no-turn false L request group linked reaped closed woken h = cc

-- Only a Turn is answered so.
turn-row : (L : Ledger) (e : Event) (reaped closed woken : List ℕ) → (row L e).1 ≡ Turned reaped closed woken → e ≡ Turn
turn-row L (Give kind) reaped closed woken h = cc
turn-row L (Feed x bytes) reaped closed woken h = cc
turn-row L (FeedMessage x addr bytes) reaped closed woken h = cc
turn-row L (End x) reaped closed woken h = cc
turn-row L (Look x) reaped closed woken h =
    absurd (looked (λ reply. reply ≡ Turned reaped closed woken → ⊥) L x (λ b q. cc) (λ m q. cc) h)
turn-row L (Close x) reaped closed woken h = cc
turn-row L (Submit request under linked) reaped closed woken h =
    absurd (submit-no-turn (is_under_marked L under) L request (group_under L under) linked reaped closed woken h)
turn-row L (Poll n task) reaped closed woken h = absurd (poll-step-no-turn L n task (slice_get L.ops n) reaped closed woken h)
turn-row L (Drop n) reaped closed woken h = absurd (drop-no-turn L n (slice_get L.ops n) reaped closed woken h)
turn-row L (Cancel n) reaped closed woken h = cc
turn-row L NewCanceller reaped closed woken h = cc
turn-row L (NewHandle c) reaped closed woken h = cc
turn-row L (CancelAll c) reaped closed woken h = cc
turn-row L Turn reaped closed woken h = refl
turn-row L (Exec place told) reaped closed woken h = absurd (exec-no-turn L place told (slice_get L.flying place) reaped closed woken h)

-- With whatever cause, only a turn is answered as a turn.
turn-answered : (L : Ledger) (e : Event) (c : Option Refusal) (reaped closed woken : List ℕ) →
    (answered c L e).1 ≡ Turned reaped closed woken → e ≡ Turn
turn-answered L e None reaped closed woken h = turn-row L e reaped closed woken h
turn-answered L e (Some refusal) reaped closed woken h = cc

-- Only a turn is answered as a turn.
pub turn-step : (L : Ledger) (e : Event) (reaped closed woken : List ℕ) → (step L e).1 ≡ Turned reaped closed woken → e ≡ Turn
unfolding step
turn-step L e reaped closed woken h = turn-answered L e (cause L e) reaped closed woken h

-- What a Turn names was among the completions before it: the operations, and the closes.
pub turn-names : (L : Ledger) (reaped closed woken : List ℕ) → (step L Turn).1 ≡ Turned reaped closed woken →
    (reaped ≡ ops_in L.done) × (closed ≡ closes_in L.done)
turn-names L reaped closed woken h =
    let T : Ledger = take_all L in
    let q : Turned (ops_in T.done) (closes_in T.done) (tasks_woken T.ops (ops_in T.done)) ≡ Turned reaped closed woken = sym
    (ap (λ s. s.1) (step-row L Turn refl)) ∙ h in
    let e : ops_in T.done ≡ reaped = cc in
    let f : closes_in T.done ≡ closed = cc in
    let d = done-take_each (record L { queue = [] }) L.queue in
    (sym e ∙ ap ops_in d, sym f ∙ ap closes_in d)

-- What stands in flight, and isn't refused its outcome, is allowed it.
pub allowed-there : (L : Ledger) (told : Told) (b waiting : Bool) (x : Option Item) →
    refused_if b NotFlying (refused_if waiting Waiting (refused_if (not (passes (λ item. allowed L item told) x)) BadOutcome None)) ≡ None →
    passes (λ item. allowed L item told) x ≡ true
allowed-there L told true waiting x h = (let f : ⊥ = cc in absurd f)
allowed-there L told false true x h = (let f : ⊥ = cc in absurd f)
allowed-there L told false false x h = passed (passes (λ item. allowed L item told) x) h
  where
    passed : (b : Bool) → refused_if (not b) BadOutcome None ≡ None → b ≡ true
    passed true h = refl
    passed false h = (let f : ⊥ = cc in absurd f)

module _ (capacity : ℕ) (events : List Event) where
  -- What was executed before a Turn that is the first since stands among the completions before it.
  stood : (n i : ℕ) (o : Operation) (x : IsReaped capacity events n i) (p : Place) → Placed capacity events i n o.buffer p → in_done p ≡ 1
  stood n i o x InQueue h = absurd (h x.exec x.turn.behind (x.told, x.item, x.executed))
  stood n i o x InFlight h = absurd (h x.exec x.turn.behind (x.told, x.item, x.executed))
  stood n i o x (InDone outcome) h = refl
  stood n i o x (Reaped outcome) h =
      let e : x.exec ≡ h.own.exec =
      executed-once capacity events n x.exec h.own.exec x.told h.own.told x.item h.own.item x.executed h.own.is_executed in
      absurd (let a = x.turn.first h.turn (let b = h.first.behind in omega arith) h.first.event in let c = h.before in omega arith)
  stood n i o x Gone h =
      let e : x.exec ≡ h.reaped.exec =
      executed-once capacity events n x.exec h.reaped.exec x.told h.reaped.told x.item h.reaped.item x.executed h.reaped.executed in
      absurd (
      let a = x.turn.first h.reap (let b = h.reaped.turn.behind in omega arith) h.reaped.turn.event in
      let c = h.before in omega arith)

  -- What an event reaps was done before it.
  done-of_reap : (n i : ℕ) (x : IsReaped capacity events n i) (y : Option Operation) → History capacity events i n y → done_mark y ≡ 1
  done-of_reap n i x None h = absurd (h.unexecuted x.exec x.turn.behind (x.told, x.item, x.executed))
  done-of_reap n i x (Some o) h = stood n i o x o.place h.placed

  -- The Turn that reaps an operation names it.
  reap-named : (n i : ℕ) → IsReaped capacity events n i → NamesReaped (replies (empty capacity) events) n i
  reap-named n i x =
      let L : Ledger = ledger_before capacity events i in
      let T : Ledger = take_all L in
      let t : Trace capacity events i L = traced capacity events i Turn x.turn.event in
      let mark : done_mark (slice_get L.ops n) ≡ 1 = done-of_reap n i x (slice_get L.ops n) (t.history n) in
      let stands : listed n T.done ≡ 1 = ap (listed n) (done-take_each (record L { queue = [] }) L.queue)
      ∙ (lists-at capacity events i).standing n ∙ mark in
      let p = listed-named n T.done (omega (arith, stands)) in
      record {
        reaped = ops_in T.done;
        closed = closes_in T.done;
        woken = tasks_woken T.ops (ops_in T.done);
        place = p.0;
        reply = reply-at (empty capacity) events i Turn x.turn.event ∙ ap (λ s. Some s.1) (step-row L Turn refl);
        named = p.1;
      }

  module _ (n i : ℕ) (event : slice_get events i ≡ Some Turn) where
    -- A Turn reaps what stands among the completions before it.
    reaps : (buffer : HeldBuf) (p : Place) → 1 ≤ in_done p → Placed capacity events i n buffer p → IsReaped capacity events n i
    reaps buffer InQueue h past = absurd (omega (arith, h))
    reaps buffer InFlight h past = absurd (omega (arith, h))
    reaps buffer (InDone outcome) h past = record {
      exec = past.own.exec;
      told = past.own.told;
      item = past.own.item;
      executed = past.own.is_executed;
      turn = record {
        behind = past.before;
        event = event;
        first = λ k after is. elim (below-or-not k i) [ inl lt ↦ absurd (past.no_turn k after lt is) | inr le ↦ le ];
      };
    }
    reaps buffer (Reaped outcome) h past = absurd (omega (arith, h))
    reaps buffer Gone h past = absurd (omega (arith, h))

    -- What was done before a turn is reaped by it.
    reap-of_done : (y : Option Operation) → 1 ≤ done_mark y → History capacity events i n y → IsReaped capacity events n i
    reap-of_done None h past = absurd (omega (arith, h))
    reap-of_done (Some o) h past = reaps o.buffer o.place h past.placed

  -- What a Turn names it reaps.
  named-reaped : (n i : ℕ) → NamesReaped (replies (empty capacity) events) n i → IsReaped capacity events n i
  named-reaped n i x =
      let L : Ledger = ledger_before capacity events i in
      let r = reply-event (empty capacity) events i (Turned x.reaped x.closed x.woken) x.reply in
      let answer : (step L r.0).1 ≡ Turned x.reaped x.closed x.woken =
      (let q = sym (reply-at (empty capacity) events i r.0 r.1) ∙ x.reply in cc) in
      let turn : r.0 ≡ Turn = turn-step L r.0 x.reaped x.closed x.woken answer in
      let event : slice_get events i ≡ Some Turn = r.1 ∙ ap Some turn in
      let t : Trace capacity events i L = traced capacity events i Turn event in
      let names : x.reaped ≡ ops_in L.done = (turn-names L x.reaped x.closed x.woken (sym (ap (λ e. (step L e).1) turn) ∙ answer)).0 in
      let stands : 1 ≤ listed n L.done = named-listed n L.done x.place (sym (ap (λ ns. slice_get ns x.place) names) ∙ x.named) in
      reap-of_done n i event (slice_get L.ops n) (let s = (lists-at capacity events i).standing n in omega arith) (t.history n)

  -- A Turn names exactly the operations that it reaps.
  pub reap-names : ReapNames capacity events (replies (empty capacity) events)
  reap-names n i = (reap-named n i, named-reaped n i)

  -- An operation is gone only where an event before reaps it.
  pub kept-until-reaped : KeptUntilReaped capacity events
  kept-until-reaped n i o within there gone =
      let t : Trace capacity events i (ledger_before capacity events i) = reached capacity events i within in
      let h : History capacity events i n (Some o) = subst (History capacity events i n) there (t.history n) in
      subst (Placed capacity events i n o.buffer) gone h.placed

  -- The error of a cancel comes only where it was asked for.
  pub canceled-where-asked : CanceledWhereAsked capacity events (replies (empty capacity) events)
  canceled-where-asked n i x =
      let L : Ledger = ledger_before capacity events i in
      let told : Told = Fail CANCELED in
      let t : Trace capacity events i L = traced capacity events i (Exec x.place told) x.event in
      let f : (o : Operation) × (slice_get L.ops n ≡ Some o) × (o.place ≡ InFlight) =
      flying-there L x.place n (lists-at capacity events i) x.there in
      let allows : allowed L (Op n) told ≡ true = sym (ap (passes (λ item. allowed L item told)) x.there)
      ∙ allowed-there L told (nat_le (length L.flying) x.place) (passes (waits L) (slice_get L.flying x.place))
      (slice_get L.flying x.place) x.unrefused in
      let canceled : f.0.canceled ≡ true = sym (ap (passes (λ o. o.canceled)) f.1) ∙ allows in
      t.asked.taken n f.0 f.1 canceled
