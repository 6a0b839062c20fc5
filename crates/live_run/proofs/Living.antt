-- A run whose replies come line by line goes on, or ends.
use Rattle.std.proofs.Common.{◌≡◌, ◌∙◌, ◌⊎◌, inr, ℕ, ◌+◌, Bool, List, [], ◌∷◌, ◌++◌, length, Option, Some, None, refl, ap, sym, subst}
use Rattle.std.proofs.Common.{append-nil, append_assoc, length-append, arith}
use Rattle.std.specs.Prelude.{Result, Ok, Err}
use Rattle.std.specs.List.{AllZip}
use Rattle.machine.specs.declared.ledger.Event.{Event}
use Rattle.machine.specs.declared.ledger.Reply.{Reply}
use Rattle.machine.specs.Ledger.{Ledger}
use Rattle.machine.specs.Run.{after, replies}
use Rattle.machine.specs.Step.{step}
use Rattle.event_text.specs.TextEvent.{StandsFor}
use Rattle.event_text.specs.TextLines.{lines}
use Rattle.event_text.specs.TextReply.{reply_text}
use Rattle.event_text.proofs.TextLinesRead.{have_read-more}
use Rattle.session_core.specs.declared.session.Session.{Session}
use Rattle.session_core.specs.declared.top.Status.{Status}
use Rattle.session_core.specs.declared.top.Status.TheVariants.{Done, BadWords, BadLine, TooLong}
use Rattle.session_core.specs.declared.top.Status.TheVariants.{ReadFault, WriteFault, OutOfMemory, NetFault, BadFrame}
use Rattle.session_core.specs.declared.top.Stop.{Stop}
use Rattle.session_core.specs.declared.top.Stop.TheVariants.{Line, Short}
use Rattle.session_core.specs.Session.{SessionStands}
use Rattle.session_core.specs.Top.{WrotePrefix, bad_line_text, ended, reply_lines}
use Rattle.session_core.proofs.Writing.{prefix-behind}
use Rattle.live_run.specs.Live.{AreBefore, AreFirst, IsLiveText, RanShort, of_lines, of_wrong as wrong_text}
use Rattle.live_run.specs.Living.{AllRan, AreBehind, EventRan, LiveAt, LineEnds, LineRan}
use Rattle.live_run.specs.Living.{LineRuns, LineShort, RefusesLine, RunsEvent, StoppedAtLine}
use Rattle.live_run.specs.Living.{of_event, of_short, of_wrong}

-- The ledger behind events and one more.
after-push : (L : Ledger) (events : List Event) (event : Event) → after L (events ++ event ∷ []) ≡ (step (after L events) event).0
after-push L [] event = refl
after-push L (x ∷ events) event = after-push (step L x).0 events event

-- The replies to events and one more.
replies-push : (L : Ledger) (events : List Event) (event : Event) →
    replies L (events ++ event ∷ []) ≡ replies L events ++ (step (after L events) event).1 ∷ []
replies-push L [] event = refl
replies-push L (x ∷ events) event = ap (λ rs. (step L x).1 ∷ rs) (replies-push (step L x).0 events event)

-- The texts of replies and one more.
texts-push : (rs : List Reply) (r : Reply) → reply_lines (rs ++ r ∷ []) ≡ reply_lines rs ++ ended (reply_text r)
texts-push [] r = append-nil (ended (reply_text r))
texts-push (x ∷ rs) r =
    ap (λ t. ended (reply_text x) ++ t) (texts-push rs r)
    ∙ sym (append_assoc (ended (reply_text x)) (reply_lines rs) (ended (reply_text r)))

-- The texts of the replies to events and one more.
lines-push : (L : Ledger) (events : List Event) (event : Event) →
    reply_lines (replies L (events ++ event ∷ [])) ≡ reply_lines (replies L events) ++ ended (reply_text (step (after L events) event).1)
lines-push L events event = ap reply_lines (replies-push L events event) ∙ texts-push (replies L events) (step (after L events) event).1

-- One event more stands for one line more.
behind-more : (all rest line behind : List ℕ) (events : List Event) (event : Event) → AreBehind all rest events →
    lines rest ≡ line ∷ lines behind → StandsFor line event → AreBehind all behind (events ++ event ∷ [])
behind-more all rest line behind events event read first stands =
    let more = have_read-more StandsFor all rest line behind events (events ++ event ∷ []) event
    (record { read = read.before; split = read.split; stand = read.stand }) first stands refl in
    record { before = more.read; split = more.split; stand = more.stand }

-- What is behind some events is first.
pub first-lines : (all rest : List ℕ) (events : List Event) → AreBehind all rest events → AreFirst all events
first-lines all rest events read = record { before = read.before; behind = lines rest; split = read.split; stand = read.stand }

-- The next line is behind those that ran.
before-line : (all rest line behind : List ℕ) (events : List Event) → AreBehind all rest events → lines rest ≡ line ∷ lines behind →
    AreBefore all events line
before-line all rest line behind events read first = record {
  before = read.before;
  behind = lines behind;
  split = read.split ∙ ap (λ (ls : List (List ℕ)). read.before ++ ls) first;
  stand = read.stand;
}

-- A run that was at a line whose event ran is behind it.
pub event-ran : (ts tk : Bool) (L : Ledger) (all rest line behind : List ℕ) (old new : Session) (taken now later : List ℕ) (ran next : ℕ)
    (event : Event) → LiveAt ts tk L all rest old taken now ran → lines rest ≡ line ∷ lines behind → StandsFor line event →
    EventRan tk event old new now later → next ≡ ran + 1 → LiveAt ts tk L all behind new taken later next
event-ran ts tk L all rest line behind old new taken now later ran next event at first stands one is = record {
  events = at.events ++ event ∷ [];
  count = (let lengths = length-append at.events (event ∷ []) in let count = at.count in omega arith);
  read = λ told. behind-more all rest line behind at.events event (at.read told) first stands;
  stands = subst (λ M. SessionStands new M) (sym (after-push L at.events event)) (one.stands (after L at.events) at.stands);
  written = λ told.
      one.written (after L at.events) at.stands told
      ∙ ap (λ xs. xs ++ ended (reply_text (step (after L at.events) event).1)) (at.written told)
      ∙ append_assoc taken (reply_lines (replies L at.events)) (ended (reply_text (step (after L at.events) event).1))
      ∙ ap (λ xs. taken ++ xs) (sym (lines-push L at.events event));
}

-- Memory ran out at the next line.
short-stops : (ts tk : Bool) (L : Ledger) (all rest : List ℕ) (session : Session) (taken now later : List ℕ) (ran number : ℕ)
    (stop : Option Stop) → LiveAt ts tk L all rest session taken now ran → LineShort tk number now later stop → number ≡ ran + 1 →
    RanShort ts tk L all taken later stop
short-stops ts tk L all rest session taken now later ran number stop at short is = record {
  events = at.events;
  ran = record {
    ran = λ told. first-lines all rest at.events (at.read told);
    written = λ told. short.nothing told ∙ at.written told;
  };
  named = inr (short.named ∙ ap (λ n. Some (Short n)) (let count = at.count in omega arith));
}

-- The next line's event failed to run or to be replied to.
event-stops : (ts tk : Bool) (L : Ledger) (all rest line behind : List ℕ) (old new : Session) (taken now later : List ℕ) (ran number : ℕ)
    (stop : Option Stop) (event : Event) (status : Status) → LiveAt ts tk L all rest old taken now ran →
    lines rest ≡ line ∷ lines behind → StandsFor line event → number ≡ ran + 1 →
    RunsEvent tk event number old new now later stop (Err status) → StoppedAtLine ts tk L all taken later stop status
event-stops ts tk L all rest line behind old new taken now later ran number stop event Done at first stands is runs = absurd runs
event-stops ts tk L all rest line behind old new taken now later ran number stop event BadWords at first stands is runs = absurd runs
event-stops ts tk L all rest line behind old new taken now later ran number stop event BadLine at first stands is runs = absurd runs
event-stops ts tk L all rest line behind old new taken now later ran number stop event TooLong at first stands is runs = absurd runs
event-stops ts tk L all rest line behind old new taken now later ran number stop event ReadFault at first stands is runs = absurd runs
event-stops ts tk L all rest line behind old new taken now later ran number stop event WriteFault at first stands is runs = record {
  text = reply_lines (replies L at.events) ++ ended (reply_text (step (after L at.events) event).1);
  may = subst (λ t. IsLiveText ts L all t) (lines-push L at.events event)
      (of_lines (at.events ++ event ∷ [])
      (λ told. first-lines all behind (at.events ++ event ∷ [])
      (behind-more all rest line behind at.events event (at.read told) first stands)));
  prefix = λ told.
      prefix-behind (reply_lines (replies L at.events)) (ended (reply_text (step (after L at.events) event).1)) taken now later
      (at.written told) (runs (after L at.events) at.stands told);
}
event-stops ts tk L all rest line behind old new taken now later ran number stop event OutOfMemory at first stands is runs =
    short-stops ts tk L all rest old taken now later ran number stop at runs is
event-stops ts tk L all rest line behind old new taken now later ran number stop event NetFault at first stands is runs = absurd runs
event-stops ts tk L all rest line behind old new taken now later ran number stop event BadFrame at first stands is runs = absurd runs

-- The next line is wrong.
wrong-stops : (ts tk : Bool) (L : Ledger) (all rest line behind : List ℕ) (session : Session) (taken now later : List ℕ) (ran number : ℕ)
    (stop : Option Stop) (status : Status) → LiveAt ts tk L all rest session taken now ran → lines rest ≡ line ∷ lines behind →
    ((event : Event) → StandsFor line event → ⊥) → number ≡ ran + 1 → RefusesLine tk line number now later stop status →
    StoppedAtLine ts tk L all taken later stop status
wrong-stops ts tk L all rest line behind session taken now later ran number stop Done at first wrong is refuses = absurd refuses
wrong-stops ts tk L all rest line behind session taken now later ran number stop BadWords at first wrong is refuses = absurd refuses
wrong-stops ts tk L all rest line behind session taken now later ran number stop BadLine at first wrong is refuses =
    let place : number ≡ length at.events + 1 = (let count = at.count in omega arith) in
    record {
      events = at.events;
      line = line;
      ran = λ told. before-line all rest line behind at.events (at.read told) first;
      wrong = wrong;
      written = λ told.
          refuses.0 told ∙ ap (λ xs. xs ++ bad_line_text number) (at.written told)
          ∙ append_assoc taken (reply_lines (replies L at.events)) (bad_line_text number)
          ∙ ap (λ n. taken ++ (reply_lines (replies L at.events) ++ bad_line_text n)) place;
      named = subst (λ n. (stop ≡ None) ⊎ (stop ≡ Some (Line n line))) place refuses.1;
    }
wrong-stops ts tk L all rest line behind session taken now later ran number stop TooLong at first wrong is refuses = absurd refuses
wrong-stops ts tk L all rest line behind session taken now later ran number stop ReadFault at first wrong is refuses = absurd refuses
wrong-stops ts tk L all rest line behind session taken now later ran number stop WriteFault at first wrong is refuses =
    let place : number ≡ length at.events + 1 = (let count = at.count in omega arith) in
    record {
      text = reply_lines (replies L at.events) ++ bad_line_text (length at.events + 1);
      may = wrong_text at.events line wrong (λ told. before-line all rest line behind at.events (at.read told) first);
      prefix = λ told.
          prefix-behind (reply_lines (replies L at.events)) (bad_line_text (length at.events + 1)) taken now later (at.written told)
          (subst (λ n. WrotePrefix (bad_line_text n) now later) place (refuses told));
    }
wrong-stops ts tk L all rest line behind session taken now later ran number stop OutOfMemory at first wrong is refuses = absurd refuses
wrong-stops ts tk L all rest line behind session taken now later ran number stop NetFault at first wrong is refuses = absurd refuses
wrong-stops ts tk L all rest line behind session taken now later ran number stop BadFrame at first wrong is refuses = absurd refuses

-- What the run of its event did, a line did.
pub line-runs : (tk : Bool) (line : List ℕ) (number : ℕ) (old new : Session) (taken now : List ℕ) (stop : Option Stop) (event : Event)
    (result : Result (Unit {0}) Status) → StandsFor line event → RunsEvent tk event number old new taken now stop result →
    LineRuns tk line number old new taken now stop result
line-runs tk line number old new taken now stop event (Ok done) stands runs = record { event = event; is = stands; ran = runs }
line-runs tk line number old new taken now stop event (Err status) stands runs = of_event event stands runs

-- A run that was at a line goes on behind it,
pub line-goes : (ts tk : Bool) (L : Ledger) (all rest line behind : List ℕ) (old new : Session) (taken now later : List ℕ)
    (ran number : ℕ) → LiveAt ts tk L all rest old taken now ran → lines rest ≡ line ∷ lines behind → number ≡ ran + 1 →
    LineRan tk line old new now later → LiveAt ts tk L all behind new taken later number
line-goes ts tk L all rest line behind old new taken now later ran number at first is one =
    event-ran ts tk L all rest line behind old new taken now later ran number one.event at first one.is one.ran is

-- .. or ends there.
pub line-stops : (ts tk : Bool) (L : Ledger) (all rest line behind : List ℕ) (old new : Session) (taken now later : List ℕ)
    (ran number : ℕ) (stop : Option Stop) (status : Status) → LiveAt ts tk L all rest old taken now ran →
    lines rest ≡ line ∷ lines behind → number ≡ ran + 1 → LineEnds tk line number old new now later stop status →
    StoppedAtLine ts tk L all taken later stop status
line-stops ts tk L all rest line behind old new taken now later ran number stop status at first is (of_event event stands runs) =
    event-stops ts tk L all rest line behind old new taken now later ran number stop event status at first stands is runs
line-stops ts tk L all rest line behind old new taken now later ran number stop status at first is (of_wrong wrong refuses) =
    wrong-stops ts tk L all rest line behind old taken now later ran number stop status at first wrong is refuses
line-stops ts tk L all rest line behind old new taken now later ran number stop status at first is (of_short ended short) =
    subst (λ s. StoppedAtLine ts tk L all taken later stop s) (sym ended)
    (short-stops ts tk L all rest old taken now later ran number stop at short is)

-- A run that is at the end of its input has run all lines.
pub all-ran : (ts tk : Bool) (L : Ledger) (all rest : List ℕ) (session : Session) (taken now : List ℕ) (ran : ℕ) →
    LiveAt ts tk L all rest session taken now ran → rest ≡ [] → AllRan ts tk L all session taken now
all-ran ts tk L all rest session taken now ran at end = record {
  events = at.events;
  stand = λ told.
      let read = at.read told in
      subst (λ (ls : List (List ℕ)). AllZip StandsFor ls at.events)
      (sym (read.split ∙ ap (λ (ls : List (List ℕ)). read.before ++ ls) (ap lines end) ∙ append-nil read.before)) read.stand;
  stands = at.stands;
  written = at.written;
}
