-- What the top call has done, by its status. `top` cites these, and so do the functions that it calls. A prefix of a text is what
-- it begins with.
use Rattle.std.specs.Prelude.{ℕ, ◌≡◌, ◌≤◌, Bool, true, false, IsTrue, List, [], ◌∷◌, ◌++◌, length, drop, Option, Some, codes, decimal}
use Rattle.std.specs.List.{AllZip, count_by}
use Rattle.machine.specs.declared.ledger.Event.{Event}
use Rattle.machine.specs.declared.ledger.Reply.{Reply}
use Rattle.machine.specs.declared.ledger.Reply.TheVariants.{Handed, Refused}
use Rattle.machine.specs.Ledger.{Ledger, empty}
use Rattle.machine.specs.Run.{ledger, replies}
pub use Rattle.rent_io.specs.Call.{TookMore}
use Rattle.session_core.specs.declared.session.Session.{Session}
use Rattle.session_core.specs.declared.top.Kept.{Kept}
use Rattle.session_core.specs.declared.top.Kept.TheVariants.{Run}
use Rattle.session_core.specs.declared.top.Status.{Status}
use Rattle.session_core.specs.declared.top.Status.TheVariants.{Done, BadWords, BadLine, TooLong}
use Rattle.session_core.specs.declared.top.Status.TheVariants.{ReadFault, WriteFault, OutOfMemory, NetFault, BadFrame}
use Rattle.session_core.specs.declared.generated.TheConstants.{ENTRIES}
use Rattle.session_core.specs.declared.input.TheConstants.{MOST_INPUT, PIECE}
use Rattle.session_core.specs.Session.{SessionStands}
use Rattle.session_core.specs.DriverKind.{DriverKind, StandsOn, replies_on, after_on}
use Rattle.event_text.specs.TextReply.{reply_text}
use Rattle.event_text.specs.TextLines.{lines, IsFirstWrongFor}
use Rattle.event_text.specs.TextWrites.{Starts}

-- The number with which the program ends.
abbrev pub exit_number : Status → ℕ
exit_number Done = 0
exit_number BadWords = 1
exit_number BadLine = 2
exit_number TooLong = 3
exit_number ReadFault = 4
exit_number WriteFault = 5
exit_number OutOfMemory = 6
exit_number NetFault = 7
exit_number BadFrame = 8

-- A text and its newline.
abbrev pub ended : List ℕ → List ℕ
ended text = text ++ 10 ∷ []

-- The text of each reply and its newline, in order.
abbrev pub reply_lines : List Reply → List ℕ
reply_lines [] = []
reply_lines (reply ∷ more) = ended (reply_text reply) ++ reply_lines more

-- What is written of a wrong line: its number and a newline.
abbrev pub bad_line_text : ℕ → List ℕ
bad_line_text n = ended (codes "line " ++ decimal n)

-- What is written of so many drained wakers: `drained`, their number and a newline.
abbrev pub drained_text : ℕ → List ℕ
drained_text n = ended (codes "drained " ++ decimal n)

-- A reply refuses its event.
abbrev pub is_refused : Reply → Bool
is_refused (Refused refusal) = true
is_refused _ = false

-- A reply returns an operation's buffer and outcome.
abbrev pub is_ready : Reply → Bool
is_ready (Handed outcome held) = true
is_ready _ = false

-- What is written of so many events, and how many replies are refusals and how many return an operation.
abbrev pub generated_text : ℕ → ℕ → ℕ → List ℕ
generated_text events refused ready =
    ended (codes "events " ++ decimal events ++ codes " refused " ++ decimal refused ++ codes " ready " ++ decimal ready)

-- What is written of these events, run over a queue of `ENTRIES` entries.
abbrev pub summary_text : List Event → List ℕ
summary_text events =
    generated_text (length events) (count_by is_refused (replies (empty ENTRIES) events))
    (count_by is_ready (replies (empty ENTRIES) events))

-- The input, of at most so many bytes, was read to its end, and its lines stand for these events, one each, of those that a driver takes.
pub record WasRead (driver : DriverKind) (left rest : List ℕ) (events : List Event) : Type 0 where
  pub within : length left ≤ MOST_INPUT
  pub to_its_end : rest ≡ []
  pub stand : AllZip (StandsOn driver) (lines left) events

-- Events are done, from a ledger on. Where the source tells its bytes they were read to their end, and are the texts of the events; where
-- the sink tells its bytes the text of each of the replies was written, and nothing else. What is kept is for the ledger that the events
-- lead to.
pub record EventsDone (driver : DriverKind) (tells_source tells_sink : Bool) (L : Ledger) (left rest taken now : List ℕ)
    (keeps : Ledger → Type 0) : Type 0 where
  pub events : List Event
  pub read : IsTrue tells_source → WasRead driver left rest events
  pub written : IsTrue tells_sink → now ≡ taken ++ reply_lines (replies_on driver L events)
  pub kept : keeps (after_on driver L events)

-- The input, of at most so many bytes, was read to its end, and this is the number of its first line that stands for no event that
-- a driver takes.
pub record IsBadLine (driver : DriverKind) (left rest : List ℕ) (n : ℕ) : Type 0 where
  pub within : length left ≤ MOST_INPUT
  pub to_its_end : rest ≡ []
  pub first : IsFirstWrongFor (StandsOn driver) (lines left) n

-- A line is wrong: its number was written, and nothing else.
pub record LineRefused (driver : DriverKind) (tells_source tells_sink : Bool) (left rest taken now : List ℕ) : Type 0 where
  pub n : ℕ
  pub bad : IsTrue tells_source → IsBadLine driver left rest n
  pub written : IsTrue tells_sink → now ≡ taken ++ bad_line_text n

-- More bytes were taken than the input may have.
abbrev pub TookTooMany : List ℕ → List ℕ → Type 0
TookTooMany left rest = TookMore MOST_INPUT left rest

-- No more bytes were taken than the input may have.
pub record TookFew (left rest : List ℕ) : Type 0 where
  pub count : ℕ
  pub few : count ≤ MOST_INPUT
  pub taken : rest ≡ drop count left

-- Memory ran out, and no line that could be looked at is wrong: nothing was taken; or more bytes than memory was taken for before
-- the first read; or all was read, and each line stands for an event.
pub data NoLineWrong (driver : DriverKind) (left rest : List ℕ) : Type 0 where
  unread : rest ≡ left → NoLineWrong driver left rest
  half_read : TookMore PIECE left rest → NoLineWrong driver left rest
  all_right : (events : List Event) → WasRead driver left rest events → NoLineWrong driver left rest

-- A prefix of a text was written.
pub record WrotePrefix (text taken now : List ℕ) : Type 0 where
  pub prefix : List ℕ
  pub starts : Starts prefix text
  pub written : now ≡ taken ++ prefix

-- A text that the program may write: the replies to the events that the lines of the input stand for, or the number of a wrong line.
pub data IsText (driver : DriverKind) (tells_source : Bool) (L : Ledger) (left rest : List ℕ) : List ℕ → Type 0 where
  of_replies : (events : List Event) → (IsTrue tells_source → WasRead driver left rest events)
      → IsText driver tells_source L left rest (reply_lines (replies_on driver L events))
  of_bad_line : (n : ℕ) → (IsTrue tells_source → IsBadLine driver left rest n) → IsText driver tells_source L left rest (bad_line_text n)

-- A prefix of a text that the program may write was written.
pub record WroteSome (driver : DriverKind) (tells_source tells_sink : Bool) (L : Ledger) (left rest taken now : List ℕ) : Type 0 where
  pub text : List ℕ
  pub may : IsText driver tells_source L left rest text
  pub prefix : IsTrue tells_sink → WrotePrefix text taken now

-- What `wake` wrote of so many wakers, by the status. It has no other status than these three.
abbrev pub WakesFor : Bool → ℕ → List ℕ → List ℕ → Status → Type 0
WakesFor tells total taken now Done = IsTrue tells → now ≡ taken ++ drained_text total
WakesFor tells total taken now WriteFault = IsTrue tells → WrotePrefix (drained_text total) taken now
WakesFor tells total taken now OutOfMemory = IsTrue tells → now ≡ taken
WakesFor tells total taken now _ = ⊥

-- Events were run over a queue of `ENTRIES` entries, and their summary written: a session is kept that stands for the ledger they lead to.
pub record Summed (tells : Bool) (events : List Event) (taken now : List ℕ) (kept : Option Kept) : Type 0 where
  pub written : IsTrue tells → now ≡ taken ++ summary_text events
  pub session : Session
  pub kept_is : kept ≡ Some (Run session)
  pub stands : SessionStands session (ledger ENTRIES events)

-- What `gen` wrote and kept of generated events, by the status. It has no other status than these three.
abbrev pub SumsFor : Bool → List Event → List ℕ → List ℕ → Option Kept → Status → Type 0
SumsFor tells events taken now kept Done = Summed tells events taken now kept
SumsFor tells events taken now kept WriteFault = IsTrue tells → WrotePrefix (summary_text events) taken now
SumsFor tells events taken now kept OutOfMemory = IsTrue tells → now ≡ taken
SumsFor tells events taken now kept _ = ⊥
