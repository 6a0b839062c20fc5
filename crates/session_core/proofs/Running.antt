-- Events that run as their lines are read.
use Rattle.std.proofs.Common.{◌≡◌, ℕ, zero, suc, ◌<◌, ◌≤◌, Bool, IsTrue, List, [], ◌∷◌, length, get_or, take, drop, refl, sym, subst}
use Rattle.std.proofs.Common.{◌+◌, ◌-◌, ◌++◌, ◌∙◌, add-one, ap, append-nil, arith}
use Rattle.std.specs.Prelude.{MatchOption, Option, Some, None}
use Rattle.std.specs.List.{AllZip}
use Rattle.machine.specs.declared.ledger.Event.{Event}
use Rattle.machine.specs.declared.ledger.Reply.{Reply}
use Rattle.machine.specs.Ledger.{Ledger}
use Rattle.event_text.specs.TextLines.{AreEventsFor, IsWrong, lines}
use Rattle.event_text.proofs.TextEvents.{stands_once}
use Rattle.event_text.proofs.TextLinesRead.{IsFirstEvent, right-first}
use Rattle.event_text.specs.TextReply.{reply_text}
use Rattle.rent_io.proofs.Runs.{rose_later}
use Rattle.session_core.specs.declared.output.Unwritten.{Unwritten}
use Rattle.session_core.specs.declared.top.Stop.{Stop}
use Rattle.session_core.specs.DriverKind.{AnswersOn, DriverKind, StandsOn, Takes, after_on, completion, readiness, replies_on}
use Rattle.session_core.specs.Stops.{CutsFor, CutStops}
use Rattle.session_core.specs.Top.{WrotePrefix, ended, reply_lines}
use Rattle.session_core.specs.Writes.{Sent, WhyUnwritten}
use Rattle.session_core.proofs.Driven.{is_driven}
use Rattle.session_core.proofs.Replying.{all-replied, answered-next, take-all}
use Rattle.session_core.proofs.Writing.{prefix-whole, reply-unwritten, reply-written, sent-all, sent-some, starts-lines}

-- The first k of some events have run on a session, and the lines that are left stand for the others; the texts of their replies were
-- written, or wait to be. When a session stands for a ledger is given.
pub record Ran {S : Type 0} (standing : S → Ledger → Type 0) (driver : DriverKind) (tells : Bool) (old new : S)
    (rest out taken now : List ℕ) (events : List Event) (k : ℕ) : Type 0 where
  pub within : k ≤ length events
  pub ahead : AllZip (StandsOn driver) (lines rest) (drop k events)
  pub stands : (L : Ledger) → standing old L → standing new (after_on driver L (take k events))
  pub sent : (L : Ledger) → standing old L → IsTrue tells → Sent (reply_lines (take k (replies_on driver L events))) out taken now

-- At first none has run.
pub ran-none : {S : Type 0} (standing : S → Ledger → Type 0) (driver : DriverKind) (tells : Bool) (session : S)
    (text out taken : List ℕ) (events : List Event) → out ≡ [] → AllZip (StandsOn driver) (lines text) events →
    Ran standing driver tells session session text out taken taken events 0
ran-none standing driver tells session text out taken events empty stand = record {
  within = omega arith;
  ahead = stand;
  stands = λ L begun. subst (λ M. standing session M) (same driver L) begun;
  sent = λ L begun told. record { prefix = []; now_is = sym (append-nil taken); text_is = sym empty };
}
  where
    same : (driver : DriverKind) (L : Ledger) → L ≡ after_on driver L []
    same completion L = refl
    same readiness L = refl

-- A line stands for one event, on each driver.
stands-once : (driver : DriverKind) (line : List ℕ) (a b : Event) → StandsOn driver line a → StandsOn driver line b → a ≡ b
stands-once completion line a b one other = stands_once line a b one other
stands-once readiness line a b one other = stands_once line a b one.stands other.stands

-- The event that was read of the first line stands for that line.
pub first-read : (driver : DriverKind) (all behind : List (List ℕ)) (line : List ℕ) (read : Option Event) (event : Event) →
    all ≡ line ∷ behind → MatchOption read (IsWrong (StandsOn driver) line) (StandsOn driver line) → read ≡ Some event →
    IsFirstEvent (StandsOn driver) all event behind
first-read driver all behind line read event split stands is = record {
  line = line;
  split = split;
  stands = subst (λ o. MatchOption o (IsWrong (StandsOn driver) line) (StandsOn driver line)) is stands;
}

-- The first of lines that each stand for an event is read.
pub first-right : (driver : DriverKind) (all behind : List (List ℕ)) (line : List ℕ) (read : Option Event) →
    AreEventsFor (StandsOn driver) all → all ≡ line ∷ behind → MatchOption read (IsWrong (StandsOn driver) line) (StandsOn driver line) →
    read ≡ None → ⊥
first-right driver all behind line read right split wrong is =
    right-first (StandsOn driver) all behind line right split
    (subst (λ o. MatchOption o (IsWrong (StandsOn driver) line) (StandsOn driver line)) is wrong)

-- A line that is left is one of the lines.
some-ahead : (driver : DriverKind) (all behind : List (List ℕ)) (line : List ℕ) (events : List Event) (k : ℕ) → all ≡ line ∷ behind →
    AllZip (StandsOn driver) all (drop k events) → k < length events
some-ahead driver all behind line events k split stand =
    by events k (subst (λ ls. AllZip (StandsOn driver) ls (drop k events)) split stand)
  where
    by : (events : List Event) (k : ℕ) → AllZip (StandsOn driver) (line ∷ behind) (drop k events) → k < length events
    by [] zero none = absurd none
    by [] (suc k) none = absurd none
    by (x ∷ events) zero stand = omega arith
    by (x ∷ events) (suc k) stand = let within = by events k stand in omega arith

-- The next event is that of the next line.
pub record IsNext (driver : DriverKind) (behind : List (List ℕ)) (events : List Event) (k : ℕ) (event : Event) : Type 0 where
  pub within : k < length events
  pub is : event ≡ get_or events k event
  pub ahead : AllZip (StandsOn driver) behind (drop (suc k) events)

-- The event of the first of the lines that are left is the next one.
pub next-is : (driver : DriverKind) (all behind : List (List ℕ)) (events : List Event) (k : ℕ) (event : Event) →
    AllZip (StandsOn driver) all (drop k events) → IsFirstEvent (StandsOn driver) all event behind → IsNext driver behind events k event
next-is driver all behind events k event stand first =
    by events k (subst (λ ls. AllZip (StandsOn driver) ls (drop k events)) first.split stand)
  where
    by : (events : List Event) (k : ℕ) → AllZip (StandsOn driver) (first.line ∷ behind) (drop k events) →
        IsNext driver behind events k event
    by [] zero none = absurd none
    by [] (suc k) none = absurd none
    by (x ∷ events) zero stand = record {
      within = omega arith;
      is = stands-once driver first.line event x first.stands stand.0;
      ahead = stand.1;
    }
    by (x ∷ events) (suc k) stand =
        let next = by events k stand in
        record { within = (let within = next.within in omega arith); is = next.is; ahead = next.ahead }

-- Where no line is left, all have run.
pub ran-all : (driver : DriverKind) (rest : List ℕ) (events : List Event) (k : ℕ) → length rest ≡ 0 → k ≤ length events →
    AllZip (StandsOn driver) (lines rest) (drop k events) → k ≡ length events
ran-all driver [] events k end within stand = by events k within stand
  where
    by : (events : List Event) (k : ℕ) → k ≤ length events → AllZip (StandsOn driver) [] (drop k events) → k ≡ length events
    by [] k within stand = omega arith
    by (x ∷ events) zero within stand = absurd stand
    by (x ∷ events) (suc k) within stand = let more = by events k (omega arith) stand in omega arith
ran-all driver (byte ∷ rest) events k end within stand = absurd (omega arith)

-- A driver takes the event that a line of it stands for.
pub stands-taken : (driver : DriverKind) (line : List ℕ) (event : Event) → StandsOn driver line event → Takes driver event
stands-taken completion line event stands = tt
stands-taken readiness line event stands = is_driven event stands.external

-- The next event ran, and the text of its reply was written, or waits to be.
pub ran-next : {S : Type 0} (standing : S → Ledger → Type 0) (driver : DriverKind) (tells : Bool) (old session new : S)
    (rest behind out left taken now later : List ℕ) (events : List Event) (k : ℕ) (event : Event) (reply : Reply) →
    Ran standing driver tells old session rest out taken now events k → IsFirstEvent (StandsOn driver) (lines rest) event (lines behind) →
    ((L : Ledger) → standing session L → AnswersOn standing driver L event reply new) →
    (IsTrue tells → Sent (out ++ ended (reply_text reply)) left now later) →
    Ran standing driver tells old new behind left taken later events (k + 1)
ran-next standing driver tells old session new rest behind out left taken now later events k event reply ran first answers sent =
    let next = next-is driver (lines rest) (lines behind) events k event ran.ahead first in
    let answered = λ (L : Ledger) (begun : standing old L).
    answered-next standing driver L events k event reply new next.within next.is (answers _ (ran.stands L begun)) in
    record {
      within = (let within = next.within in omega arith);
      ahead = subst (λ n. AllZip (StandsOn driver) (lines behind) (drop n events)) (sym (add-one k)) next.ahead;
      stands = λ L begun. (answered L begun).stands;
      sent = λ L begun told.
          reply-written (replies_on driver L events) k reply out left taken now later (answered L begun).within
          (answered L begun).reply_is (ran.sent L begun told) (sent told);
    }

-- The same of a sink that hasn't changed.
pub cuts-same : {K : Type 0} (takes : K → List ℕ) (failed : K → ℕ) (tells : Bool) (seen later : List ℕ) (h number : ℕ) (stop : Option Stop)
    (why : Unwritten) (new old : K) → new ≡ old → CutsFor tells seen (takes new) later (failed new) h number stop why →
    CutsFor tells seen (takes old) later (failed old) h number stop why
cuts-same takes failed tells seen later h number stop why new old same cuts =
    subst (λ sink. CutsFor tells seen (takes sink) later (failed sink) h number stop why) same cuts

-- What waited was written, or a prefix of it, once memory ran out: it is a prefix of all,
pub ran-cut : {S : Type 0} (standing : S → Ledger → Type 0) (driver : DriverKind) (tells : Bool) (old session : S)
    (rest out seen taken now later : List ℕ) (events : List Event) (k number f g h : ℕ) (stop : Option Stop) (why : Unwritten) →
    Ran standing driver tells old session rest out taken now events k → seen ≡ out → f ≤ g → (IsTrue tells → g ≡ f) →
    CutsFor tells seen now later g h number stop why → (L : Ledger) → standing old L →
    WhyUnwritten tells (reply_lines (replies_on driver L events)) taken later f h why
ran-cut standing driver tells old session rest out seen taken now later events k number f g h stop Unwritten.Fault ran same order calm cuts
    L begun =
    let rs = replies_on driver L events in (
      rose_later f g h order cuts.0,
      λ told.
          prefix-whole (reply_lines (take k rs)) (reply_lines rs) taken later (starts-lines k rs)
          (sent-some (reply_lines (take k rs)) out taken now later (ran.sent L begun told)
          (subst (λ xs. WrotePrefix xs now later) same (cuts.1 told))),
    )
ran-cut standing driver tells old session rest out seen taken now later events k number f g h stop Unwritten.OutOfMemory ran same order
    calm cuts L begun = λ told.
    let rs = replies_on driver L events in
    record {
      prefix = record {
        prefix = reply_lines (take k rs);
        starts = starts-lines k rs;
        written = sent-all (reply_lines (take k rs)) out taken now later (ran.sent L begun told)
            (cuts.1.all told ∙ ap (λ xs. now ++ xs) same);
      };
      calm = cuts.1.calm told ∙ calm told;
    }

-- .. and that line is named, which is one of the lines, and the replies to those before it were written.
pub ran-stops : {S : Type 0} (standing : S → Ledger → Type 0) (driver : DriverKind) (tells : Bool) (old session : S)
    (rest out seen taken now later : List ℕ) (events : List Event) (k number g h : ℕ) (stop : Option Stop) (why : Unwritten)
    (line : List ℕ) (behind : List (List ℕ)) →
    Ran standing driver tells old session rest out taken now events k → seen ≡ out → number ≡ k + 1 → lines rest ≡ line ∷ behind →
    CutsFor tells seen now later g h number stop why → (L : Ledger) → standing old L →
    CutStops driver tells L events taken later stop why
ran-stops standing driver tells old session rest out seen taken now later events k number g h stop Unwritten.Fault line behind ran same is
    split cuts L begun = cuts.2
ran-stops standing driver tells old session rest out seen taken now later events k number g h stop Unwritten.OutOfMemory line behind ran
    same is split cuts L begun =
    let rs = replies_on driver L events in
    let some = some-ahead driver (lines rest) behind line events k split ran.ahead in
    let before : k ≡ number - 1 = omega (arith, is) in
    record {
      number = number;
      stop_is = cuts.0;
      first = omega (arith, is);
      last = omega (arith, is, some);
      written = λ told.
          sent-all (reply_lines (take k rs)) out taken now later (ran.sent L begun told) (cuts.1.all told ∙ ap (λ xs. now ++ xs) same)
          ∙ ap (λ m. taken ++ reply_lines (take m rs)) before;
    }

-- Why the reply to the next event wasn't written is why not all are.
pub ran-unwritten : {S : Type 0} (standing : S → Ledger → Type 0) (driver : DriverKind) (tells : Bool) (old session new : S)
    (rest behind out taken now later : List ℕ) (events : List Event) (k : ℕ) (event : Event) (reply : Reply) (f g h : ℕ)
    (why : Unwritten) → Ran standing driver tells old session rest out taken now events k →
    IsFirstEvent (StandsOn driver) (lines rest) event (lines behind) →
    ((L : Ledger) → standing session L → AnswersOn standing driver L event reply new) → f ≤ g → (IsTrue tells → g ≡ f) →
    WhyUnwritten tells (out ++ ended (reply_text reply)) now later g h why → (L : Ledger) → standing old L →
    WhyUnwritten tells (reply_lines (replies_on driver L events)) taken later f h why
ran-unwritten standing driver tells old session new rest behind out taken now later events k event reply f g h why ran first answers
    order calm next L begun =
    let is = next-is driver (lines rest) (lines behind) events k event ran.ahead first in
    let answered = answered-next standing driver L events k event reply new is.within is.is (answers _ (ran.stands L begun)) in
    reply-unwritten tells (replies_on driver L events) k reply out taken now later f g h why answered.within answered.reply_is
    (ran.sent L begun) order calm next

-- Once no line is left, the session stands for the ledger behind all events,
pub all-stand : {S : Type 0} (standing : S → Ledger → Type 0) (driver : DriverKind) (tells : Bool) (old session : S)
    (rest out taken now : List ℕ) (events : List Event) (k : ℕ) → Ran standing driver tells old session rest out taken now events k →
    length rest ≡ 0 → (L : Ledger) → standing old L → standing session (after_on driver L events)
all-stand standing driver tells old session rest out taken now events k ran end L begun =
    subst (λ xs. standing session (after_on driver L xs))
    (take-all events k (ran-all driver rest events k end ran.within ran.ahead)) (ran.stands L begun)

-- .. and the texts of all replies were written, or wait to be.
pub all-sent : {S : Type 0} (standing : S → Ledger → Type 0) (driver : DriverKind) (tells : Bool) (old session : S)
    (rest out taken now : List ℕ) (events : List Event) (k : ℕ) → Ran standing driver tells old session rest out taken now events k →
    length rest ≡ 0 → (L : Ledger) → standing old L → IsTrue tells → Sent (reply_lines (replies_on driver L events)) out taken now
all-sent standing driver tells old session rest out taken now events k ran end L begun told =
    let rs = replies_on driver L events in
    subst (λ xs. Sent (reply_lines xs) out taken now)
    (take-all rs k (all-replied driver L events k (ran-all driver rest events k end ran.within ran.ahead)))
    (ran.sent L begun told)
