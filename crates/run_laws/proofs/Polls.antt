-- The moments of an operation, each at most once, and what a Poll is answered, from the trace of the ledger before each event.
use Rattle.std.proofs.Common.{◌≡◌, ◌⊎◌, inl, inr, ℕ, ◌<◌, ◌≤◌, true, List, length, Some, None, slice_get, sym, ◌∙◌, ap, subst, arith}
use Rattle.std.proofs.lemmas.Option.{slice_get_within, slice_get_past}
use Rattle.machine.specs.declared.ledger.Event.{Event}
use Rattle.machine.specs.declared.ledger.Event.TheVariants.{Submit, Poll, Exec}
use Rattle.machine.specs.declared.ledger.Reply.TheVariants.{Pending}
use Rattle.machine.specs.Ledger.{Ledger, Operation, Place, InQueue, InFlight, InDone, Reaped, Gone, empty, is_kept}
use Rattle.machine.specs.Step.{poll_at, poll_step}
use Rattle.machine.specs.Run.{replies, ledger_before, IsGiven, IsReaped, own_answer}
use Rattle.run_laws.proofs.Executing.{executed-flew}
use Rattle.run_laws.specs.Moments.{IsPolled, IsReapedBefore, HandsOwn}
use Rattle.run_laws.specs.Headline.{PendingUntilReaped, ReapedOrNot, HandsBackOwn, GivenOnce, ExecutedOnce, ReapedOnce, OneOwn}
use Rattle.machine.proofs.Numbers.{same-or-not, below-or-above}
use Rattle.machine.proofs.Stepping.{step-row, OwnedAt, found}
use Rattle.run_laws.proofs.Replies.{reply-at}
use Rattle.run_laws.proofs.Moments.{NotBefore, Executes, Placed, History, reaped-before}
use Rattle.run_laws.proofs.Trace.{Trace}
use Rattle.run_laws.proofs.Reached.{reached}
use Rattle.run_laws.proofs.Numbers.{submitted-number}

-- What no later event is again happens once.
pub once-by : (P : ℕ → Type 0) → ((i j : ℕ) → i < j → P i → P j → ⊥) → (i j : ℕ) → P i → P j → i ≡ j
once-by P late i j p q = elim (same-or-not i j) [
  | inl e ↦ e
  | inr e ↦ absurd (elim (below-or-above i j e) [ inl lt ↦ late i j lt p q | inr gt ↦ late j i gt q p ])
]

module _ (capacity : ℕ) (events : List Event) where
  -- The trace of the ledger before an event that is there.
  pub traced : (i : ℕ) (e : Event) → slice_get events i ≡ Some e → Trace capacity events i (ledger_before capacity events i)
  traced i e h = reached capacity events i (let l = slice_get_within events i e h in omega arith)

  -- What was executed isn't in flight again.
  executed-late : (n i j : ℕ) → i < j → Executes capacity events n i → Executes capacity events n j → ⊥
  executed-late n i j lt x y =
      let L : Ledger = ledger_before capacity events j in
      let t : Trace capacity events j L = traced j (Exec y.2.place y.0) y.2.event in
      let f : (o : Operation) × (slice_get L.ops n ≡ Some o) × (o.place ≡ InFlight) = executed-flew capacity events n j y.0 y.1 y.2 in
      let h : History capacity events j n (Some f.0) = subst (History capacity events j n) f.1 (t.history n) in
      let p : Placed capacity events j n f.0.buffer InFlight = subst (Placed capacity events j n f.0.buffer) f.2 h.placed in
      p i lt x

  -- At most one event executes n.
  pub executed-once : ExecutedOnce capacity events
  executed-once n i j told_first told_second first second x y =
      once-by (Executes capacity events n) (executed-late n) i j (told_first, first, x) (told_second, second, y)

  -- What was given isn't given again.
  given-late : (n i j : ℕ) → i < j → IsGiven capacity events n i → IsGiven capacity events n j → ⊥
  given-late n i j lt x y =
      let L : Ledger = ledger_before capacity events j in
      let t : Trace capacity events j L = traced j (Submit y.request y.under y.linked) y.event in
      let number : n ≡ length L.ops = submitted-number L (Submit y.request y.under y.linked) n
      (let q = sym (reply-at (empty capacity) events j (Submit y.request y.under y.linked) y.event) ∙ y.reply in cc) in
      let h : History capacity events j n None = subst (History capacity events j n) (slice_get_past L.ops n (omega arith)) (t.history n) in
      h.ungiven i lt x

  -- At most one event gives n.
  pub given-once : GivenOnce capacity events
  given-once n i j x y = once-by (IsGiven capacity events n) (given-late n) i j x y

  -- The first Turn after an execution is before each other one.
  reaped-first : (n i j : ℕ) → IsReaped capacity events n i → IsReaped capacity events n j → i ≤ j
  reaped-first n i j x y =
      let e : x.exec ≡ y.exec = executed-once n x.exec y.exec x.told y.told x.item y.item x.executed y.executed in
      x.turn.first j (let b = y.turn.behind in omega arith) y.turn.event

  -- At most one event reaps n.
  pub reaped-once : ReapedOnce capacity events
  reaped-once n i j x y = let a = reaped-first n i j x y in let b = reaped-first n j i y x in omega arith

  -- The events that gave and executed n are one each, so its own outcome and own buffer are.
  pub one-own : OneOwn capacity events
  one-own n o p b c x y =
      let e : x.exec ≡ y.exec = executed-once n x.exec y.exec x.told y.told x.item y.item x.is_executed y.is_executed in
      let g : x.given ≡ y.given = given-once n x.given y.given x.is_given y.is_given in
      let event = sym x.is_executed.event ∙ ap (slice_get events) e ∙ y.is_executed.event in
      let told : x.told ≡ y.told = (let q = event in cc) in
      let place : x.is_executed.place ≡ y.is_executed.place = (let q = event in cc) in
      let request : x.is_given.request ≡ y.is_given.request =
      (let q = sym x.is_given.event ∙ ap (slice_get events) g ∙ y.is_given.event in cc) in
      let item : x.item ≡ y.item = (
      let q = sym x.is_executed.there ∙ ap (λ i. slice_get (ledger_before capacity events i).flying x.is_executed.place) e
      ∙ ap (slice_get (ledger_before capacity events y.exec).flying) place ∙ y.is_executed.there in cc) in
      let answer : own_answer (ledger_before capacity events x.exec) n x.item x.is_given.request x.told
      ≡ own_answer (ledger_before capacity events y.exec) n y.item y.is_given.request y.told =
      ap (λ i. own_answer (ledger_before capacity events i) n x.item x.is_given.request x.told) e
      ∙ ap (λ z. own_answer (ledger_before capacity events y.exec) n z x.is_given.request x.told) item
      ∙ ap (λ r. own_answer (ledger_before capacity events y.exec) n y.item r x.told) request
      ∙ ap (own_answer (ledger_before capacity events y.exec) n y.item y.is_given.request) told in
      (x.outcome_is ∙ ap (λ a. a.0) answer ∙ sym y.outcome_is, x.buffer_is ∙ ap (λ a. a.1) answer ∙ sym y.buffer_is)

  -- The two answers of a Poll that isn't refused.
  abbrev pub Answers : ℕ → ℕ → Type 0
  Answers n i =
      ((slice_get (replies (empty capacity) events) i ≡ Some Pending) × (IsReapedBefore capacity events n i → ⊥))
      ⊎ (HandsOwn capacity events (replies (empty capacity) events) n i × IsReapedBefore capacity events n i)

  module _ (n i task : ℕ) (o : Operation) where
    -- What wasn't executed wasn't reaped.
    waits : slice_get (replies (empty capacity) events) i ≡ Some Pending → NotBefore (Executes capacity events n) i → Answers n i
    waits reply never =
        inl (
          reply,
          λ z. never z.reaped.exec (let a = z.reaped.turn.behind in let b = z.before in omega arith)
              (z.reaped.told, z.reaped.item, z.reaped.executed),
        )

    -- The answer by the place of the operation.
    answer-at : (p : Place) → is_kept p ≡ true → Placed capacity events i n o.buffer p →
        slice_get (replies (empty capacity) events) i ≡ Some (poll_at (ledger_before capacity events i) n task o p).1 → Answers n i
    answer-at InQueue live h reply = waits reply h
    answer-at InFlight live h reply = waits reply h
    answer-at (InDone outcome) live h reply = inl (
      reply,
      λ z. (
          let e : z.reaped.exec
          ≡ h.own.exec = executed-once n z.reaped.exec h.own.exec z.reaped.told h.own.told z.reaped.item h.own.item z.reaped.executed
          h.own.is_executed in
          h.no_turn z.reap (let a = z.reaped.turn.behind in omega arith) z.before z.reaped.turn.event),
    )
    answer-at (Reaped outcome) live h reply = inr (
      record {
        outcome = outcome;
        buffer = o.buffer;
        reply = reply;
        own = h.own;
        given_first = h.given_first;
        executed_before = (let a = h.first.behind in let b = h.before in omega arith);
      },
      reaped-before capacity events i n outcome o.buffer h,
    )
    answer-at Gone live h reply = (let f : ⊥ = cc in absurd f)

  -- The answer of each Poll that isn't refused.
  pub answer : (n i : ℕ) → IsPolled capacity events n i → Answers n i
  answer n i x =
      let L : Ledger = ledger_before capacity events i in
      let t : Trace capacity events i L = traced i (Poll n x.task) x.event in
      let f : OwnedAt L n = found L n x.unrefused in
      let o : Operation = f.operation in
      let h : History capacity events i n (Some o) = subst (History capacity events i n) f.there (t.history n) in
      let reply : slice_get (replies (empty capacity) events) i ≡ Some (poll_at L n x.task o o.place).1 =
      reply-at (empty capacity) events i (Poll n x.task) x.event
      ∙ ap (λ s. Some s.1) (step-row L (Poll n x.task) x.unrefused)
      ∙ ap (λ y. Some (poll_step L n x.task y).1) f.there in
      answer-at n i x.task o o.place f.kept h.placed reply

  -- An unrefused Poll is answered Pending exactly where no event before it reaps its operation.
  pub pending-until-reaped : PendingUntilReaped capacity events (replies (empty capacity) events)
  pending-until-reaped n i x = (
    λ pending. elim (answer n i x) [
      | inl a ↦ a.1
      | inr b ↦ absurd (let q = sym pending ∙ b.0.reply in let f : ⊥ = cc in f)
    ],
    λ unreaped. elim (answer n i x) [
      | inl a ↦ a.0
      | inr b ↦ absurd (unreaped b.1)
    ],
  )

  -- At an unrefused Poll its operation was reaped before, or wasn't.
  pub reaped-or-not : ReapedOrNot capacity events
  reaped-or-not n i x = elim (answer n i x) [ inl a ↦ inr a.1 | inr b ↦ inl b.1 ]

  -- An unrefused Poll that isn't answered Pending hands back its operation's own outcome and own buffer.
  pub hands-back-own : HandsBackOwn capacity events (replies (empty capacity) events)
  hands-back-own n i x answered = elim (answer n i x) [ inl a ↦ absurd (answered a.0) | inr b ↦ b.0 ]
