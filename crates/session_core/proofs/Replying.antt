-- The reply to the next of some events.
use Rattle.std.proofs.Common.{◌≡◌, ◌<◌, ◌≤◌, ℕ, suc, ◌+◌, List, [], ◌∷◌, zero, length, get_or, take, Option, Some, None, refl, sym, ◌∙◌, ap}
use Rattle.std.proofs.Common.{subst}
use Rattle.std.proofs.Common.{add-one, arith}
use Rattle.rent_buf.specs.declared.fault.OutOfMemory.{OutOfMemory}
use Rattle.std.specs.Prelude.{Result, Ok, Err, IfOk, Bool, true, false, if◌then◌else◌, slice_get}
use Rattle.std.specs.List.{count_by}
use Rattle.std.proofs.lemmas.List.Sums.{count_by_more_yes, count_by_more_no, count_by-le-length}
use Rattle.machine.specs.declared.ledger.Event.{Event}
use Rattle.machine.specs.declared.ledger.Reply.{Reply}
use Rattle.machine.specs.Ledger.{Ledger}
use Rattle.run_laws.proofs.Replies.{length-replies, reply-at}
use Rattle.ready_driver.specs.Spelled.{spelled_replies, spelled_after, ledger_behind}
use Rattle.ready_run.specs.declared.inner.Inner.{Inner as ReadySession}
use Rattle.ready_run.specs.ReadySession.{ReadyStands, ReadySteps}
use Rattle.session_core.specs.declared.session.Session.{Session}
use Rattle.session_core.specs.DriverKind.{AnswersOn, DriverKind, completion, readiness}
use Rattle.session_core.specs.DriverKind.{after_on, next_on, replies_on, reply_on}
use Rattle.session_core.specs.Session.{SessionStands, SessionAnswers}
use Rattle.ready_run.proofs.Runs.{after-next, get-there, one-reply-each}
use Rattle.session_core.proofs.Runs.{after-one_more}

-- What was found at a place is the element there.
found-there : (rs : List Reply) (k : ℕ) (r : Reply) → slice_get rs k ≡ Some r → (k < length rs) × (r ≡ get_or rs k r)
found-there [] k r is = absurd (cc)
found-there (x ∷ rs) zero r is = (omega arith, (let same : x ≡ r = cc in sym same))
found-there (x ∷ rs) (suc k) r is = let more = found-there rs k r is in (omega (arith, more.0), more.1)

-- The reply to a spelled event is that from the ledger before it.
spelled-at : (L : Ledger) (events : List Event) (k : ℕ) (event : Event) → slice_get events k ≡ Some event →
    slice_get (spelled_replies L events) k ≡ Some (reply_on readiness (spelled_after L (take k events)) event)
spelled-at L [] k event there = absurd (let never : ◌≡◌ {A = Option Event} None (Some event) = there in cc)
spelled-at L (x ∷ events) zero event there = (let same : x ≡ event = cc in ap (λ e. Some (reply_on readiness L e)) same)
spelled-at L (x ∷ events) (suc k) event there = spelled-at (ledger_behind L x) events k event there

-- The ledger behind one event more, on each driver.
after-on_next : (driver : DriverKind) (L : Ledger) (events : List Event) (k : ℕ) (event : Event) → slice_get events k ≡ Some event →
    after_on driver L (take (suc k) events) ≡ next_on driver (after_on driver L (take k events)) event
after-on_next completion L events k event there = after-one_more L events k (suc k) event refl there
after-on_next readiness L events k event there = after-next L events k event there

-- The reply to an event is that from the ledger before it, on each driver.
reply-on_at : (driver : DriverKind) (L : Ledger) (events : List Event) (k : ℕ) (event : Event) → slice_get events k ≡ Some event →
    slice_get (replies_on driver L events) k ≡ Some (reply_on driver (after_on driver L (take k events)) event)
reply-on_at completion L events k event there = reply-at L events k event there
reply-on_at readiness L events k event there = spelled-at L events k event there

-- The answer to the event at k is the reply at k, and the session stands for the ledger after it.
pub record Answered {S : Type 0} (standing : S → Ledger → Type 0) (driver : DriverKind) (L : Ledger) (events : List Event) (k : ℕ)
    (reply : Reply) (new : S) : Type 0 where
  pub within : k < length (replies_on driver L events)
  pub reply_is : reply ≡ get_or (replies_on driver L events) k reply
  pub stands : standing new (after_on driver L (take (k + 1) events))

-- A step of the event at k answers it.
pub answered-next : {S : Type 0} (standing : S → Ledger → Type 0) (driver : DriverKind) (L : Ledger) (events : List Event) (k : ℕ)
    (event : Event) (reply : Reply) (new : S) → k < length events → event ≡ get_or events k event →
    AnswersOn standing driver (after_on driver L (take k events)) event reply new → Answered standing driver L events k reply new
answered-next standing driver L events k event reply new within is answers =
    let there = get-there events k event within is in
    let found = found-there (replies_on driver L events) k reply (reply-on_at driver L events k event there ∙ ap Some answers.reply_is) in
    record {
      within = found.0;
      reply_is = found.1;
      stands = subst (λ M. standing new M)
          (sym (ap (λ m. after_on driver L (take m events)) (add-one k) ∙ after-on_next driver L events k event there)) answers.stands;
    }

-- A step of a session over the completion driver is one on that driver.
pub steps-on : (L : Ledger) (event : Event) (reply : Reply) (new : Session) → SessionAnswers L event reply new →
    AnswersOn SessionStands completion L event reply new
steps-on L event reply new answers = record { reply_is = answers.reply_is; stands = answers.stands }

-- So is one of a session over the readiness driver.
pub ready-stepped : (old new : ReadySession) (event : Event) (result : Result Reply OutOfMemory) →
    ((L : Ledger) → ReadyStands old L → ReadySteps L event new result) →
    IfOk result (λ reply. (L : Ledger) → ReadyStands old L → AnswersOn ReadyStands readiness L event reply new)
ready-stepped old new event (Ok reply) steps =
    λ L stands. record { reply_is = (steps L stands).reply_is; stands = (steps L stands).stands }
ready-stepped old new event (Err refused) steps = tt

-- All elements of a list.
pub take-all : {A : Type 0} (xs : List A) (k : ℕ) → k ≡ length xs → take k xs ≡ xs
take-all [] zero is = refl
take-all [] (suc k) is = absurd (omega arith)
take-all (x ∷ xs) zero is = absurd (omega arith)
take-all (x ∷ xs) (suc k) is = ap (λ ys. x ∷ ys) (take-all xs k (omega arith))

-- There are as many replies as events.
pub all-replied : (driver : DriverKind) (L : Ledger) (events : List Event) (k : ℕ) → k ≡ length events →
    k ≡ length (replies_on driver L events)
all-replied completion L events k is = is ∙ sym (length-replies L events)
all-replied readiness L events k is = is ∙ sym (one-reply-each L events)

-- One reply more is counted where it passes the test.
pub count-next : (test : Reply → Bool) (rs : List Reply) (k old new : ℕ) (r : Reply) → k < length rs → r ≡ get_or rs k r →
    old ≡ count_by test (take k rs) →
    new ≡ old + (if test r then 1 else 0) → new ≡ count_by test (take (k + 1) rs)
count-next test rs k old new r within is before one_more = by_test (test r) refl
  where
    by_test : (b : Bool) → test r ≡ b → new ≡ count_by test (take (k + 1) rs)
    by_test true passes =
        one_more ∙ ap (λ (b : Bool). old + (if b then 1 else 0)) passes ∙ ap (λ n. n + 1) before
        ∙ sym (count_by_more_yes test rs k r within (ap test (sym is) ∙ passes))
    by_test false fails =
        one_more ∙ ap (λ (b : Bool). old + (if b then 1 else 0)) fails ∙ (let same : old + 0 ≡ old = omega arith in same) ∙ before
        ∙ sym (count_by_more_no test rs k r within (ap test (sym is) ∙ fails))

-- There are no more of them than replies.
pub count-few : (test : Reply → Bool) (rs : List Reply) (k count : ℕ) → k ≤ length rs → count ≡ count_by test (take k rs) → count ≤ k
count-few test rs k count within is =
    let few = count_by-le-length test (take k rs) in
    let size : length (take k rs) ≡ k = length-take k rs within in
    omega arith
  where
    length-take : (k : ℕ) (rs : List Reply) → k ≤ length rs → length (take k rs) ≡ k
    length-take zero rs within = refl
    length-take (suc k) [] within = absurd (omega arith)
    length-take (suc k) (x ∷ rs) within = ap suc (length-take k rs (omega arith))
