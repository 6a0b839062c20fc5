-- What a run has done whose replies come line by line. Cited by `run_live`.
use Rattle.std.specs.Prelude.{ℕ, ◌≡◌, ◌+◌, ◌⊎◌, Bool, IsTrue, List, ◌∷◌, ◌++◌, length, Option, Some, None, Result, Ok, Err}
use Rattle.std.specs.List.{AllZip}
use Rattle.machine.specs.declared.ledger.Event.{Event}
use Rattle.machine.specs.Counts.{Rose}
use Rattle.machine.specs.Ledger.{Ledger}
use Rattle.machine.specs.Run.{replies}
use Rattle.event_text.specs.TextEvent.{StandsFor}
use Rattle.event_text.specs.TextLines.{lines, IsWrong}
use Rattle.session_core.specs.declared.session.Session.{Session}
use Rattle.session_core.specs.declared.top.Status.{Status}
use Rattle.session_core.specs.declared.top.Status.TheVariants.{BadLine, TooLong, ReadFault, WriteFault, OutOfMemory}
use Rattle.session_core.specs.declared.top.Stop.{Stop}
use Rattle.session_core.specs.declared.top.Stop.TheVariants.{Line, Short}
use Rattle.session_core.specs.DriverKind.{completion}
use Rattle.session_core.specs.Ends.{NoFaults, Reading, Writing}
use Rattle.session_core.specs.Session.{SessionStands}
use Rattle.session_core.specs.Top.{EventsDone, TookTooMany, WrotePrefix, bad_line_text, reply_lines}

-- The first lines of an input stand for these events,
pub record AreFirst (left : List ℕ) (events : List Event) : Type 0 where
  pub before : List (List ℕ)
  pub behind : List (List ℕ)
  pub split : lines left ≡ before ++ behind
  pub stand : AllZip StandsFor before events

-- .. and this is the line behind them.
pub record AreBefore (left : List ℕ) (events : List Event) (line : List ℕ) : Type 0 where
  pub before : List (List ℕ)
  pub behind : List (List ℕ)
  pub split : lines left ≡ before ++ line ∷ behind
  pub stand : AllZip StandsFor before events

-- The first lines of the input ran, and the text of each reply to them was written, and nothing else.
pub record RanFirst (tells_source tells_sink : Bool) (L : Ledger) (left taken now : List ℕ) (events : List Event) : Type 0 where
  pub ran : IsTrue tells_source → AreFirst left events
  pub written : IsTrue tells_sink → now ≡ taken ++ reply_lines (replies L events)

-- So of some number of lines.
pub record RanSome (tells_source tells_sink : Bool) (L : Ledger) (left taken now : List ℕ) : Type 0 where
  pub events : List Event
  pub ran : RanFirst tells_source tells_sink L left taken now events

-- Memory ran out at the line behind the first ones, which is named, or before a line was begun.
pub record RanShort (tells_source tells_sink : Bool) (L : Ledger) (left taken now : List ℕ) (stop : Option Stop) : Type 0 where
  pub events : List Event
  pub ran : RanFirst tells_source tells_sink L left taken now events
  pub named : (stop ≡ None) ⊎ (stop ≡ Some (Short (length events + 1)))

-- The line behind the first ones is wrong: its number was written behind the replies to those, and nothing else. It is named, if there was
-- memory for its text.
pub record RanToWrong (tells_source tells_sink : Bool) (L : Ledger) (left taken now : List ℕ) (stop : Option Stop) : Type 0 where
  pub events : List Event
  pub line : List ℕ
  pub ran : IsTrue tells_source → AreBefore left events line
  pub wrong : IsWrong StandsFor line
  pub written : IsTrue tells_sink → now ≡ taken ++ (reply_lines (replies L events) ++ bad_line_text (length events + 1))
  pub named : (stop ≡ None) ⊎ (stop ≡ Some (Line (length events + 1) line))

-- A text that such a run may write: the replies to the first lines, or these and the number of a wrong line.
pub data IsLiveText (tells_source : Bool) (L : Ledger) (left : List ℕ) : List ℕ → Type 0 where
  of_lines : (events : List Event) → (IsTrue tells_source → AreFirst left events)
      → IsLiveText tells_source L left (reply_lines (replies L events))
  of_wrong : (events : List Event) (line : List ℕ) → IsWrong StandsFor line → (IsTrue tells_source → AreBefore left events line)
      → IsLiveText tells_source L left (reply_lines (replies L events) ++ bad_line_text (length events + 1))

-- A prefix of such a text was written.
pub record RanUnwritten (tells_source tells_sink : Bool) (L : Ledger) (left taken now : List ℕ) : Type 0 where
  pub text : List ℕ
  pub may : IsLiveText tells_source L left text
  pub prefix : IsTrue tells_sink → WrotePrefix text taken now

-- What such a run has done, by what it gives, and which line it names.
abbrev pub LiveGives : Bool → Bool → Ledger → Reading → Writing → Option Stop → Result Session Status → Type 0
LiveGives tells_source tells_sink L source sink stop (Ok session) =
    EventsDone completion tells_source tells_sink L source.left source.rest sink.taken sink.now (SessionStands session)
    × IsTrue sink.flushed × (stop ≡ None)
LiveGives tells_source tells_sink L source sink stop (Err BadLine) =
    RanToWrong tells_source tells_sink L source.left sink.taken sink.now stop × IsTrue sink.flushed
LiveGives tells_source tells_sink L source sink stop (Err TooLong) =
    (IsTrue tells_source → TookTooMany source.left source.rest)
    × RanSome tells_source tells_sink L source.left sink.taken sink.now × (stop ≡ None)
LiveGives tells_source tells_sink L source sink stop (Err ReadFault) =
    Rose source.faults source.later × RanSome tells_source tells_sink L source.left sink.taken sink.now × (stop ≡ None)
LiveGives tells_source tells_sink L source sink stop (Err WriteFault) =
    Rose sink.faults sink.later × RanUnwritten tells_source tells_sink L source.left sink.taken sink.now
LiveGives tells_source tells_sink L source sink stop (Err OutOfMemory) =
    NoFaults tells_source tells_sink source sink × RanShort tells_source tells_sink L source.left sink.taken sink.now stop
LiveGives tells_source tells_sink L source sink stop (Err _) = ⊥
