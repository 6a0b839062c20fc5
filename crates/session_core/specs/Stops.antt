-- At which line a command stopped that reads lines. Cited by `top` and by the functions that it calls.
use Rattle.std.specs.Prelude.{ℕ, ◌≡◌, ◌≤◌, ◌-◌, ◌⊎◌, Bool, IsTrue, List, ◌++◌, length, take, Option, Some, None, Result, Ok, Err}
use Rattle.machine.specs.declared.ledger.Event.{Event}
use Rattle.machine.specs.Counts.{Rose}
use Rattle.machine.specs.Ledger.{Ledger, empty}
use Rattle.rent_io.specs.Call.{Reading, Writing}
use Rattle.event_text.specs.TextLines.{lines, IsFirstWrongFor}
use Rattle.session_core.specs.declared.command.Command.{Command}
use Rattle.session_core.specs.declared.command.Command.TheVariants.{Run as RunOf, Ready as ReadyOf, Tasks}
use Rattle.session_core.specs.declared.input.NoEvents.{NoEvents}
use Rattle.session_core.specs.declared.output.Unwritten.{Unwritten}
use Rattle.session_core.specs.declared.top.Status.{Status}
use Rattle.session_core.specs.declared.top.Status.TheVariants.{BadLine, WriteFault, OutOfMemory}
use Rattle.session_core.specs.declared.top.Stop.{Stop}
use Rattle.session_core.specs.declared.top.Stop.TheVariants.{Wrong, Short}
use Rattle.session_core.specs.DriverKind.{DriverKind, StandsOn, completion, readiness, replies_on}
use Rattle.session_core.specs.Tasking.{TasksStop}
use Rattle.session_core.specs.Top.{WasRead, WrotePrefix, reply_lines}
use Rattle.session_core.specs.Writes.{Wrote}

-- The first line of a text that stands for no event of a driver is named, with that text: the input, where the source tells it.
pub record NamesLine (driver : DriverKind) (tells : Bool) (left : List ℕ) (stop : Option Stop) : Type 0 where
  pub number : ℕ
  pub text : List ℕ
  pub stop_is : stop ≡ Some (Wrong number text)
  pub first : IsFirstWrongFor (StandsOn driver) (lines text) number
  pub read : IsTrue tells → text ≡ left

-- Memory ran out at the line of a number, which is named: it is one of the lines, and the replies to those before it were written, and
-- nothing else.
pub record NamesShort (driver : DriverKind) (tells : Bool) (L : Ledger) (events : List Event) (taken now : List ℕ) (stop : Option Stop)
    : Type 0 where
  pub number : ℕ
  pub stop_is : stop ≡ Some (Short number)
  pub first : 1 ≤ number
  pub last : number ≤ length events
  pub written : IsTrue tells → now ≡ taken ++ reply_lines (take (number - 1) (replies_on driver L events))

-- Memory ran out at a line: all was read, and each line stands for an event.
pub record StopsAt (driver : DriverKind) (tells_source tells_sink : Bool) (L : Ledger) (source : Reading) (sink : Writing)
    (stop : Option Stop) : Type 0 where
  pub events : List Event
  pub read : IsTrue tells_source → WasRead driver source.left source.rest events
  pub named : NamesShort driver tells_sink L events sink.taken sink.now stop

-- Memory ran out before a line was run: none is named, and nothing was written.
pub record StopsBefore (tells : Bool) (sink : Writing) (stop : Option Stop) : Type 0 where
  pub none : stop ≡ None
  pub nothing : IsTrue tells → sink.now ≡ sink.taken

-- Which line is named by a command that reads events and runs them from a ledger on, by the status: the wrong one, and that at which
-- memory ran out, if it ran out at one.
abbrev pub EventsStop : DriverKind → Bool → Bool → Ledger → Reading → Writing → Option Stop → Status → Type 0
EventsStop driver tells_source tells_sink L source sink stop BadLine = NamesLine driver tells_source source.left stop
EventsStop driver tells_source tells_sink L source sink stop WriteFault = (stop ≡ None) ⊎ NamesLine driver tells_source source.left stop
EventsStop driver tells_source tells_sink L source sink stop OutOfMemory =
    StopsBefore tells_sink sink stop ⊎ StopsAt driver tells_source tells_sink L source sink stop
EventsStop driver tells_source tells_sink L source sink stop _ = stop ≡ None

-- The same of what such a command gives.
abbrev pub ResultStops : {S : Type 0} → DriverKind → Bool → Bool → Ledger → Reading → Writing → Option Stop → Result S Status → Type 0
ResultStops driver tells_source tells_sink L source sink stop (Ok session) = stop ≡ None
ResultStops driver tells_source tells_sink L source sink stop (Err status) =
    EventsStop driver tells_source tells_sink L source sink stop status

-- The same of any command: one that runs no lines names none.
abbrev pub CommandStops : Bool → Bool → Command → Reading → Writing → Option Stop → Status → Type 0
CommandStops tells_source tells_sink (RunOf capacity) source sink stop status =
    EventsStop completion tells_source tells_sink (empty capacity) source sink stop status
CommandStops tells_source tells_sink ReadyOf source sink stop status =
    (capacity : ℕ) → EventsStop readiness tells_source tells_sink (empty capacity) source sink stop status
CommandStops tells_source tells_sink Tasks source sink stop status = TasksStop tells_source source stop status
CommandStops tells_source tells_sink _ source sink stop status = stop ≡ None

-- Which line is named where a source gave no events.
abbrev pub ReadStops : DriverKind → Bool → List ℕ → Option Stop → NoEvents → Type 0
ReadStops driver tells left stop (NoEvents.BadLine n) = NamesLine driver tells left stop
ReadStops driver tells left stop _ = stop ≡ None

-- Which line is named where not all replies to events were written.
abbrev pub CutStops : DriverKind → Bool → Ledger → List Event → List ℕ → List ℕ → Option Stop → Unwritten → Type 0
CutStops driver tells L events taken now stop Unwritten.Fault = stop ≡ None
CutStops driver tells L events taken now stop Unwritten.OutOfMemory = NamesShort driver tells L events taken now stop

-- The same of a run of events.
abbrev pub RunStops : {S : Type 0} → DriverKind → Bool → Ledger → List Event → Writing → Option Stop → Result S Status → Type 0
RunStops driver tells L events sink stop (Ok session) = stop ≡ None
RunStops driver tells L events sink stop (Err WriteFault) = stop ≡ None
RunStops driver tells L events sink stop (Err OutOfMemory) = NamesShort driver tells L events sink.taken sink.now stop
RunStops driver tells L events sink stop (Err _) = ⊥

-- Memory ran out at the line of this number, and what waited was written; or a prefix of it, at a fault.
abbrev pub CutsFor : Bool → List ℕ → List ℕ → List ℕ → ℕ → ℕ → ℕ → Option Stop → Unwritten → Type 0
CutsFor tells out taken now faults later number stop Unwritten.OutOfMemory =
    (stop ≡ Some (Short number)) × Wrote tells out taken now faults later
CutsFor tells out taken now faults later number stop Unwritten.Fault =
    Rose faults later × (IsTrue tells → WrotePrefix out taken now) × (stop ≡ None)
