-- Which cancellers and cancel handles there are before each event of a run: those whose numbers the replies gave.
use Rattle.std.proofs.Common.{◌≡◌, ◌⊎◌, inl, inr, ℕ, zero, suc, ◌≤◌, ◌<◌, Bool, true, false, List, length, Option, None}
use Rattle.std.proofs.Common.{Some, slice_get, refl, sym, ◌∙◌, ap, subst, arith}
use Rattle.std.specs.Prelude.{nat_le}
use Rattle.std.proofs.lemmas.Bool.Decides.{leb_tells}
use Rattle.std.proofs.lemmas.Option.{slice_get_cases, slice_get_within}
use Rattle.machine.specs.declared.ledger.Event.{Event}
use Rattle.machine.specs.declared.ledger.Event.TheVariants.{Give, Feed, FeedMessage, End, Look, Close, Submit, Poll, Drop, Cancel, Turn}
use Rattle.machine.specs.declared.ledger.Event.TheVariants.{Exec}
use Rattle.machine.specs.declared.ledger.Event.TheVariants.{NewCanceller, NewHandle, CancelAll}
use Rattle.machine.specs.declared.ledger.Refusal.{Refusal}
use Rattle.machine.specs.declared.ledger.Refusal.TheVariants.{NoOp, NoCanceller, NoHandle, Full, NotFlying, Waiting}
use Rattle.machine.specs.declared.ledger.Refusal.TheVariants.{BadOutcome, BadHandleEvent}
use Rattle.machine.specs.declared.ledger.Reply.{Reply}
use Rattle.machine.specs.declared.ledger.Reply.TheVariants.{Canceller, CancelHandle, Refused}
use Rattle.machine.specs.Ledger.{Ledger, empty}
use Rattle.machine.specs.Refusal.{cause, refused_if, has_no_op, has_no_canceller, has_no_handle, is_full, is_not_flying, has_bad_outcome}
use Rattle.machine.specs.Refusal.{is_waiting, has_bad_handle_event}
use Rattle.machine.specs.Step.{step}
use Rattle.machine.specs.Run.{replies, ledger_before}
use Rattle.run_laws.specs.Groups.{IsCancellerBefore, IsHandleBefore}
use Rattle.run_laws.specs.Groups.{NamesNoCanceller, NoCancellerExactly}
use Rattle.machine.proofs.Numbers.{same-or-not}
use Rattle.run_laws.proofs.Replies.{reply-at, after-next, step-refused, step-caused}
use Rattle.run_laws.proofs.Counting.{canceller_in, handle_in, Counts, canceller-is, handle-is, CountsBoth, counts-step}

-- What is refused as NoCanceller fails the first test, and passes the second.
no_canceller-tests : (a b c d e w f g : Bool) →
    refused_if a NoOp (refused_if b NoCanceller (refused_if c NoHandle (refused_if d Full (refused_if e NotFlying (
    refused_if w Waiting (refused_if f BadOutcome (refused_if g BadHandleEvent None))))))) ≡ Some NoCanceller → b ≡ true
no_canceller-tests a true c d e w f g h = refl
no_canceller-tests true false c d e w f g h = (let z : ⊥ = cc in absurd z)
no_canceller-tests false false true d e w f g h = (let z : ⊥ = cc in absurd z)
no_canceller-tests false false false true e w f g h = (let z : ⊥ = cc in absurd z)
no_canceller-tests false false false false true w f g h = (let z : ⊥ = cc in absurd z)
no_canceller-tests false false false false false true f g h = (let z : ⊥ = cc in absurd z)
no_canceller-tests false false false false false false true g h = (let z : ⊥ = cc in absurd z)
no_canceller-tests false false false false false false false true h = (let z : ⊥ = cc in absurd z)
no_canceller-tests false false false false false false false false h = (let z : ⊥ = cc in absurd z)

-- So it is with the tests of an event.
refused-test : (L : Ledger) (e : Event) → cause L e ≡ Some NoCanceller → has_no_canceller L e ≡ true
refused-test L e h =
    no_canceller-tests (has_no_op L e) (has_no_canceller L e) (has_no_handle L e) (is_full L e) (is_not_flying L e) (is_waiting L e)
    (has_bad_outcome L e) (has_bad_handle_event L e) h

-- What passes the second test first is refused so.
test-refused : (b : Bool) (next : Option Refusal) → b ≡ true → refused_if b NoCanceller next ≡ Some NoCanceller
test-refused b next h = ap (λ x. refused_if x NoCanceller next) h

-- A number isn't below a count exactly where the test says so.
past-test : (count n : ℕ) → (n < count → ⊥) → nat_le count n ≡ true
past-test count n past = elim (leb_tells count n) [ inl e ↦ e.0 | inr e ↦ absurd (past e.1) ]

-- The test passes only there.
test-past : (count n : ℕ) → nat_le count n ≡ true → n < count → ⊥
test-past count n test within = elim (leb_tells count n) [
  | inl e ↦ (let le = e.1 in omega (arith, le, within))
  | inr e ↦ (let f : true ≡ false = sym test ∙ e.0 in let g : ⊥ = cc in g)
]

module _ (capacity : ℕ) (events : List Event) where
  -- The replies of the run.
  abbrev given : List Reply
  given = replies (empty capacity) events

  -- A reply to an event before the event at k gave this number.
  record GaveBefore (number : Reply → Option ℕ) (n k : ℕ) : Type 0 where
    made : ℕ
    before : made < k
    answer : Reply
    reply : slice_get given made ≡ Some answer
    gives : number answer ≡ Some n

  -- A number is below what is counted before the event at k exactly where a reply gave it.
  abbrev IsCounted : (Reply → Option ℕ) → ℕ → ℕ → Type 0
  IsCounted number count k = ((n : ℕ) → n < count → GaveBefore number n k) × ((n : ℕ) → GaveBefore number n k → n < count)

  -- What was given before the event at k was before the next one.
  gave-next : (number : Reply → Option ℕ) (n k : ℕ) → GaveBefore number n k → GaveBefore number n (suc k)
  gave-next number n k x =
      record { made = x.made; before = (let b = x.before in omega arith); answer = x.answer; reply = x.reply; gives = x.gives }

  -- What was given before the next event was before the event at k, or by it.
  gave-before : (number : Reply → Option ℕ) (n k : ℕ) (r : Reply) → slice_get given k ≡ Some r → GaveBefore number n (suc k) →
      GaveBefore number n k ⊎ (number r ≡ Some n)
  gave-before number n k r reply x = elim (same-or-not x.made k) [
    | inl e ↦ inr (
        let q : x.answer ≡ r = (let w = sym x.reply ∙ ap (slice_get given) e ∙ reply in cc) in
        sym (ap number q) ∙ x.gives)
    | inr e ↦ inl (record {
      made = x.made;
      before = (let b = x.before in omega arith);
      answer = x.answer;
      reply = x.reply;
      gives = x.gives;
    })
  ]

  -- An event counts on.
  counted-next : (number : Reply → Option ℕ) (k old new : ℕ) (r : Reply) → slice_get given k ≡ Some r → Counts number old new r →
      IsCounted number old k → IsCounted number new (suc k)
  counted-next number k old new r reply (inl s) c = (
    λ n within. gave-next number n k (c.0 n (let q = s.1 in omega (arith, q, within))),
    λ n x. elim (gave-before number n k r reply x) [
      | inl before ↦ (let q = s.1 in let w = c.1 n before in omega (arith, q, w))
      | inr now ↦ absurd (let q : None ≡ Some n = sym s.0 ∙ now in let f : ⊥ = cc in f)
    ],
  )
  counted-next number k old new r reply (inr s) c = (
    λ n within. elim (same-or-not n old) [
      | inl e ↦ record { made = k; before = omega arith; answer = r; reply = reply; gives = s.0 ∙ ap Some (sym e) }
      | inr e ↦ gave-next number n k (c.0 n (let q = s.1 in omega (arith, q, within, e)))
    ],
    λ n x. elim (gave-before number n k r reply x) [
      | inl before ↦ (let q = s.1 in let w = c.1 n before in omega (arith, q, w))
      | inr now ↦ (let same : old ≡ n = (let w = sym s.0 ∙ now in cc) in let q = s.1 in omega (arith, same, q))
    ],
  )

  -- Both are counted before the event at k.
  record AreGiven (k : ℕ) (L : Ledger) : Type 0 where
    cancellers : IsCounted canceller_in (length L.cancellers) k
    handles : IsCounted handle_in (length L.cancel_handles) k

  -- Before each event.
  counted-reached : (k : ℕ) → k ≤ length events → AreGiven k (ledger_before capacity events k)
  counted-reached zero h =
      let none : (number : Reply → Option ℕ) → IsCounted number 0 0 = λ number.
      (λ n within. absurd (omega (arith, within)), λ n x. absurd (let b = x.before in omega (arith, b))) in
      record { cancellers = none canceller_in; handles = none handle_in }
  counted-reached (suc k) h = elim (slice_get_cases events k).1 [
    | inl e ↦ (
        let L : Ledger = ledger_before capacity events k in
        let c : AreGiven k L = counted-reached k (omega arith) in
        let s : CountsBoth L (step L e.0) = counts-step L e.0 in
        let reply = reply-at (empty capacity) events k e.0 e.2 in
        subst (AreGiven (suc k)) (sym (after-next (empty capacity) events k e.0 e.2)) (record {
          cancellers = counted-next canceller_in k (length L.cancellers) (length (step L e.0).0.cancellers) (step L e.0).1 reply
              s.cancellers c.cancellers;
          handles = counted-next handle_in k (length L.cancel_handles) (length (step L e.0).0.cancel_handles) (step L e.0).1 reply
              s.handles c.handles;
        }))
    | inr e ↦ absurd (let l = e.0 in omega (arith, h))
  ]

  -- A canceller is there exactly where a reply gave its number.
  canceller-there : (k c : ℕ) (L : Ledger) → AreGiven k L → IsCancellerBefore given c k → c < length L.cancellers
  canceller-there k c L a x =
      a.cancellers.1 c (record { made = x.made; before = x.before; answer = Canceller c; reply = x.reply; gives = refl })

  -- A reply gave the number of each.
  canceller-before : (k c : ℕ) (L : Ledger) → AreGiven k L → c < length L.cancellers → IsCancellerBefore given c k
  canceller-before k c L a within =
      let x : GaveBefore canceller_in c k = a.cancellers.0 c within in
      record { made = x.made; before = x.before; reply = x.reply ∙ ap Some (canceller-is x.answer c x.gives) }

  -- A cancel handle is there exactly where a reply gave its number.
  handle-there : (k handle : ℕ) (L : Ledger) → AreGiven k L → IsHandleBefore given handle k → handle < length L.cancel_handles
  handle-there k handle L a x =
      a.handles.1 handle (record { made = x.made; before = x.before; answer = CancelHandle handle; reply = x.reply; gives = refl })

  -- A reply gave the number of each.
  handle-before : (k handle : ℕ) (L : Ledger) → AreGiven k L → handle < length L.cancel_handles → IsHandleBefore given handle k
  handle-before k handle L a within =
      let x : GaveBefore handle_in handle k = a.handles.0 handle within in
      record { made = x.made; before = x.before; reply = x.reply ∙ ap Some (handle-is x.answer handle x.gives) }

  -- An event that passes the test names what was never created.
  test-names : (k : ℕ) (L : Ledger) (e : Event) → AreGiven k L → has_no_canceller L e ≡ true → NamesNoCanceller given k e
  test-names k L (NewHandle c) a h = λ x. test-past (length L.cancellers) c h (canceller-there k c L a x)
  test-names k L (CancelAll c) a h = λ x. test-past (length L.cancellers) c h (canceller-there k c L a x)
  test-names k L (Submit request (Some handle) linked) a h = λ x. test-past (length L.cancel_handles) handle h (handle-there k handle L a x)
  test-names k L (Submit request None linked) a h = cc
  test-names k L (Give kind) a h = cc
  test-names k L (Feed x bytes) a h = cc
  test-names k L (FeedMessage x addr bytes) a h = cc
  test-names k L (End x) a h = cc
  test-names k L (Look x) a h = cc
  test-names k L (Close x) a h = cc
  test-names k L (Poll n task) a h = cc
  test-names k L (Drop n) a h = cc
  test-names k L (Cancel n) a h = cc
  test-names k L NewCanceller a h = cc
  test-names k L Turn a h = cc
  test-names k L (Exec place told) a h = cc

  -- An event that names what was never created is refused so.
  names-refused : (k : ℕ) (L : Ledger) (e : Event) → AreGiven k L → NamesNoCanceller given k e → cause L e ≡ Some NoCanceller
  names-refused k L (NewHandle c) a h =
      test-refused (nat_le (length L.cancellers) c) None (past-test (length L.cancellers) c (λ w. h (canceller-before k c L a w)))
  names-refused k L (CancelAll c) a h =
      test-refused (nat_le (length L.cancellers) c) None (past-test (length L.cancellers) c (λ w. h (canceller-before k c L a w)))
  names-refused k L (Submit request (Some handle) linked) a h =
      test-refused (nat_le (length L.cancel_handles) handle) _
      (past-test (length L.cancel_handles) handle (λ w. h (handle-before k handle L a w)))
  names-refused k L (Submit request None linked) a h = absurd h
  names-refused k L (Give kind) a h = absurd h
  names-refused k L (Feed x bytes) a h = absurd h
  names-refused k L (FeedMessage x addr bytes) a h = absurd h
  names-refused k L (End x) a h = absurd h
  names-refused k L (Look x) a h = absurd h
  names-refused k L (Close x) a h = absurd h
  names-refused k L (Poll n task) a h = absurd h
  names-refused k L (Drop n) a h = absurd h
  names-refused k L (Cancel n) a h = absurd h
  names-refused k L NewCanceller a h = absurd h
  names-refused k L Turn a h = absurd h
  names-refused k L (Exec place told) a h = absurd h

  -- An event is refused as NoCanceller exactly where it names what was never created.
  pub no-canceller-exactly : NoCancellerExactly events given
  no-canceller-exactly i e here =
      let L : Ledger = ledger_before capacity events i in
      let a : AreGiven i L = counted-reached i (let l = slice_get_within events i e here in omega arith) in
      let reply = reply-at (empty capacity) events i e here in (
        λ is. (
            let refused : (step L e).1 ≡ Refused NoCanceller = (let q = sym reply ∙ is in cc) in
            test-names i L e a (refused-test L e (step-caused L e NoCanceller refused))),
        λ names. reply ∙ ap (λ s. Some s.1) (step-refused L e NoCanceller (names-refused i L e a names)),
      )
