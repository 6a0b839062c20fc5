-- How far a run is whose replies come line by line. Cited by the functions that `run_live` calls.
use Rattle.std.specs.Prelude.{ℕ, ◌≡◌, ◌<◌, ◌+◌, ◌⊎◌, Bool, IsTrue, List, [], ◌∷◌, ◌++◌, length, Option, Some, None, Result, Ok, Err}
use Rattle.std.specs.List.{AllZip}
use Rattle.machine.specs.declared.ledger.Event.{Event}
use Rattle.machine.specs.Counts.{Rose}
use Rattle.machine.specs.Ledger.{Ledger}
use Rattle.machine.specs.Run.{after, replies}
use Rattle.machine.specs.Step.{step}
use Rattle.rent_io.specs.Call.{Took}
use Rattle.event_text.specs.TextEvent.{StandsFor}
use Rattle.event_text.specs.TextLines.{lines, IsWrong}
use Rattle.event_text.specs.TextLook.{line_end}
use Rattle.event_text.specs.TextReply.{reply_text}
use Rattle.session_core.specs.declared.input.TheConstants.{MOST_INPUT}
use Rattle.session_core.specs.declared.session.Session.{Session}
use Rattle.session_core.specs.declared.top.Status.{Status}
use Rattle.session_core.specs.declared.top.Status.TheVariants.{BadLine, TooLong, ReadFault, WriteFault, OutOfMemory}
use Rattle.session_core.specs.declared.top.Stop.{Stop}
use Rattle.session_core.specs.declared.top.Stop.TheVariants.{Line, Short}
use Rattle.session_core.specs.Ends.{Reading, Writing}
use Rattle.session_core.specs.Session.{SessionStands}
use Rattle.session_core.specs.Top.{WrotePrefix, bad_line_text, ended, reply_lines}
use Rattle.live_run.specs.Live.{RanShort, RanToWrong, RanUnwritten}

-- A text is a line, the newline that ends it, and what is behind that.
pub record IsWhole (text line behind : List ℕ) : Type 0 where
  pub is : text ≡ line ++ 10 ∷ behind
  pub one : line_end line ≡ []

-- The lines of an input are those before a rest, which stand for these events, and those of the rest.
pub record AreBehind (all rest : List ℕ) (events : List Event) : Type 0 where
  pub before : List (List ℕ)
  pub split : lines all ≡ before ++ lines rest
  pub stand : AllZip StandsFor before events

-- The lines before a rest of an input have run, so many: the session stands for the ledger behind them, and the text of each reply was
-- written, and nothing else.
pub record LiveAt (ts tk : Bool) (L : Ledger) (all rest : List ℕ) (session : Session) (taken now : List ℕ) (ran : ℕ) : Type 0 where
  pub events : List Event
  pub count : ran ≡ length events
  pub read : IsTrue ts → AreBehind all rest events
  pub stands : SessionStands session (after L events)
  pub written : IsTrue tk → now ≡ taken ++ reply_lines (replies L events)

-- A text is the reply to an event and a newline, and the session stands for the next ledger.
pub record Replied (L : Ledger) (event : Event) (new : Session) (text : List ℕ) : Type 0 where
  pub stands : SessionStands new (step L event).0
  pub text_is : text ≡ ended (reply_text (step L event).1)

-- Memory ran out at the line of this number, which is named, and nothing was written.
pub record LineShort (tk : Bool) (number : ℕ) (taken now : List ℕ) (stop : Option Stop) : Type 0 where
  pub nothing : IsTrue tk → now ≡ taken
  pub named : stop ≡ Some (Short number)

-- An event ran, and its reply was written.
pub record EventRan (tk : Bool) (event : Event) (old new : Session) (taken now : List ℕ) : Type 0 where
  pub stands : (L : Ledger) → SessionStands old L → SessionStands new (step L event).0
  pub written : (L : Ledger) → SessionStands old L → IsTrue tk → now ≡ taken ++ ended (reply_text (step L event).1)

-- What the run of an event did.
abbrev pub RunsEvent : Bool → Event → ℕ → Session → Session → List ℕ → List ℕ → Option Stop → Result (Unit {0}) Status → Type 0
RunsEvent tk event number old new taken now stop (Ok done) = EventRan tk event old new taken now
RunsEvent tk event number old new taken now stop (Err WriteFault) =
    (L : Ledger) → SessionStands old L → IsTrue tk → WrotePrefix (ended (reply_text (step L event).1)) taken now
RunsEvent tk event number old new taken now stop (Err OutOfMemory) = LineShort tk number taken now stop
RunsEvent tk event number old new taken now stop (Err _) = ⊥

-- What the writing of a wrong line's number did.
abbrev pub RefusesLine : Bool → List ℕ → ℕ → List ℕ → List ℕ → Option Stop → Status → Type 0
RefusesLine tk line number taken now stop BadLine =
    (IsTrue tk → now ≡ taken ++ bad_line_text number) × ((stop ≡ None) ⊎ (stop ≡ Some (Line number line)))
RefusesLine tk line number taken now stop WriteFault = IsTrue tk → WrotePrefix (bad_line_text number) taken now
RefusesLine tk line number taken now stop _ = ⊥

-- A line ran: it stands for an event, which ran.
pub record LineRan (tk : Bool) (line : List ℕ) (old new : Session) (taken now : List ℕ) : Type 0 where
  pub event : Event
  pub is : StandsFor line event
  pub ran : EventRan tk event old new taken now

-- A run ended at a line: its event didn't run or wasn't replied to, or it is wrong and was refused, or memory ran out for its event.
pub data LineEnds (tk : Bool) (line : List ℕ) (number : ℕ) (old new : Session) (taken now : List ℕ) (stop : Option Stop) (status : Status)
    : Type 0 where
  of_event : (event : Event) → StandsFor line event → RunsEvent tk event number old new taken now stop (Err status)
      → LineEnds tk line number old new taken now stop status
  of_wrong : IsWrong StandsFor line → RefusesLine tk line number taken now stop status
      → LineEnds tk line number old new taken now stop status
  of_short : status ≡ OutOfMemory → LineShort tk number taken now stop → LineEnds tk line number old new taken now stop status

-- What the run of a line did.
abbrev pub LineRuns : Bool → List ℕ → ℕ → Session → Session → List ℕ → List ℕ → Option Stop → Result (Unit {0}) Status → Type 0
LineRuns tk line number old new taken now stop (Ok done) = LineRan tk line old new taken now
LineRuns tk line number old new taken now stop (Err status) = LineEnds tk line number old new taken now stop status

-- How a call left the count of faults of a sink, by why it ended the run.
abbrev pub SinkStops : Bool → Writing → Status → Type 0
SinkStops tk sink BadLine = IsTrue sink.flushed
SinkStops tk sink WriteFault = Rose sink.faults sink.later
SinkStops tk sink OutOfMemory = IsTrue tk → sink.later ≡ sink.faults
SinkStops tk sink _ = ⊥

-- What has run and was written where a run ended at a line.
abbrev pub StoppedAtLine : Bool → Bool → Ledger → List ℕ → List ℕ → List ℕ → Option Stop → Status → Type 0
StoppedAtLine ts tk L all taken now stop BadLine = RanToWrong ts tk L all taken now stop
StoppedAtLine ts tk L all taken now stop WriteFault = RanUnwritten ts tk L all taken now
StoppedAtLine ts tk L all taken now stop OutOfMemory = RanShort ts tk L all taken now stop
StoppedAtLine ts tk L all taken now stop _ = ⊥

-- Lines at the start of a text have run, up to a rest of it: a run that was at the text is at the rest.
abbrev pub GoesFor : Bool → List ℕ → List ℕ → Session → Session → List ℕ → List ℕ → ℕ → ℕ → Type 0
GoesFor tk text rest old new now later ran next = (ts : Bool) (L : Ledger) (all more taken : List ℕ) →
    LiveAt ts tk L all (text ++ more) old taken now ran → LiveAt ts tk L all (rest ++ more) new taken later next

-- A run that was at a text ended at one of its lines.
abbrev pub EndsAtLine : Bool → List ℕ → Session → List ℕ → List ℕ → ℕ → Option Stop → Status → Type 0
EndsAtLine tk text old now later ran stop status = (ts : Bool) (L : Ledger) (all more taken : List ℕ) →
    LiveAt ts tk L all (text ++ more) old taken now ran → StoppedAtLine ts tk L all taken later stop status

-- All lines of an input have run.
pub record AllRan (ts tk : Bool) (L : Ledger) (all : List ℕ) (session : Session) (taken now : List ℕ) : Type 0 where
  pub events : List Event
  pub stand : IsTrue ts → AllZip StandsFor (lines all) events
  pub stands : SessionStands session (after L events)
  pub written : IsTrue tk → now ≡ taken ++ reply_lines (replies L events)

-- What the run of the last line gives, to a run that was at it.
abbrev pub FinishGives : Bool → List ℕ → Session → List ℕ → List ℕ → ℕ → Option Stop → Result Session Status → Type 0
FinishGives tk text old now later ran stop (Ok new) = (ts : Bool) (L : Ledger) (all taken : List ℕ) →
    LiveAt ts tk L all text old taken now ran → AllRan ts tk L all new taken later
FinishGives tk text old now later ran stop (Err status) = (ts : Bool) (L : Ledger) (all taken : List ℕ) →
    LiveAt ts tk L all text old taken now ran → StoppedAtLine ts tk L all taken later stop status

-- Why a read behind so many bytes gave none: too many came, a fault, or no memory.
abbrev pub WhyNoMore : Bool → ℕ → Reading → Status → Type 0
WhyNoMore ts before source TooLong =
    IsTrue ts → (n : ℕ) × (MOST_INPUT < before + n) × Took source.left source.rest n
WhyNoMore ts before source ReadFault = Rose source.faults source.later
WhyNoMore ts before source OutOfMemory = IsTrue ts → source.later ≡ source.faults
WhyNoMore ts before source _ = ⊥
