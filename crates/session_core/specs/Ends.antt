-- How commands end: what each has read, written and kept, by its status. `top` cites `RunEnds` and `ReadyEnds`; the rest is for the
-- functions that it calls.
use Rattle.std.specs.Prelude.{ℕ, ◌≡◌, ◌*◌, ◌⊎◌, Bool, IsTrue, List, ◌++◌}
use Rattle.std.specs.Prelude.{Option, Some, Result, Ok, Err, ⊤}
use Rattle.machine.specs.declared.ledger.Event.{Event}
use Rattle.machine.specs.Counts.{Rose}
use Rattle.machine.specs.Ledger.{Ledger, empty}
pub use Rattle.rent_io.specs.Call.{Reading, Writing, reading, writing}
use Rattle.copy_run.specs.Ending.{CopyEnds}
use Rattle.copy_run.specs.declared.copying.Ending.{Ending}
use Rattle.frame_run.specs.declared.unframing.Unframed.{Unframed}
use Rattle.frame_run.specs.Unframing.{UnframeEnds}
use Rattle.session_core.specs.declared.top.Status.{Status}
use Rattle.session_core.specs.declared.top.Status.TheVariants.{Done, BadWords, BadLine, TooLong}
use Rattle.session_core.specs.declared.top.Status.TheVariants.{ReadFault, WriteFault, OutOfMemory, NetFault, BadFrame}
use Rattle.session_core.specs.declared.input.TheConstants.{MOST_INPUT}
use Rattle.session_core.specs.declared.top.Kept.{Kept}
use Rattle.session_core.specs.declared.command.Command.{Command}
use Rattle.session_core.specs.declared.command.Command.TheVariants.{Run as RunOf, Ready as ReadyOf, Generate, Trace, Wake, Copy}
use Rattle.session_core.specs.declared.command.Command.TheVariants.{Unframe, Relay, Tasks}
use Rattle.session_core.specs.Command.{RunsOn}
use Rattle.session_core.specs.DriverKind.{DriverKind, completion, readiness, replies_on, after_on, KeepsRun, KeepsReady}
use Rattle.session_core.specs.Generated.{generated_events}
use Rattle.event_text.specs.TextReads.{bytes_of}
use Rattle.session_core.specs.Top.{EventsDone, LineRefused, NoLineWrong, TookTooMany, WrotePrefix, WroteSome, SumsFor}
use Rattle.session_core.specs.Top.{TookFew, WakesFor, reply_lines}
use Rattle.session_core.specs.Relays.{RelaysFor}
use Rattle.session_core.specs.Trace.{TracesFor}
use Rattle.session_core.specs.Tasking.{TasksFor}
pub use Rattle.session_core.specs.Low.{NoFaults, RanLow}
use Rattle.session_core.specs.Writes.{WroteShort}

-- Memory ran out, and nothing gives another status: no more was taken than the input may have, no line that could be looked at is
-- wrong, and no count of faults rose.
pub record RanShort (driver : DriverKind) (tells_source tells_sink : Bool) (source : Reading) (sink : Writing) : Type 0 where
  pub few : IsTrue tells_source → TookFew source.left source.rest
  pub lines : IsTrue tells_source → NoLineWrong driver source.left source.rest
  pub calm : NoFaults tells_source tells_sink source sink

-- What running events from a ledger on has done, by the status: what is kept is for the ledger that they lead to.
abbrev pub RunsEvents : DriverKind → Bool → Ledger → List Event → Writing → (Ledger → Type 0) → Status → Type 0
RunsEvents driver tells L events sink keeps Done =
    (IsTrue tells → sink.now ≡ sink.taken ++ reply_lines (replies_on driver L events)) × IsTrue sink.flushed
    × keeps (after_on driver L events)
RunsEvents driver tells L events sink keeps WriteFault =
    Rose sink.faults sink.later × (IsTrue tells → WrotePrefix (reply_lines (replies_on driver L events)) sink.taken sink.now)
RunsEvents driver tells L events sink keeps OutOfMemory =
    IsTrue tells → WroteShort (reply_lines (replies_on driver L events)) sink.taken sink.now sink.faults sink.later
RunsEvents driver tells L events sink keeps _ = ⊥

-- What a command that reads events and runs them from a ledger on has done, by the status.
abbrev pub EventsEnd : DriverKind → Bool → Bool → Ledger → Reading → Writing → (Ledger → Type 0) → Status → Type 0
EventsEnd driver tells_source tells_sink L source sink keeps Done =
    EventsDone driver tells_source tells_sink L source.left source.rest sink.taken sink.now keeps × IsTrue sink.flushed
EventsEnd driver tells_source tells_sink L source sink keeps BadWords = ⊥
EventsEnd driver tells_source tells_sink L source sink keeps BadLine =
    LineRefused driver tells_source tells_sink source.left source.rest sink.taken sink.now
EventsEnd driver tells_source tells_sink L source sink keeps TooLong =
    (IsTrue tells_source → TookTooMany source.left source.rest) × (IsTrue tells_sink → sink.now ≡ sink.taken)
EventsEnd driver tells_source tells_sink L source sink keeps ReadFault =
    Rose source.faults source.later × (IsTrue tells_sink → sink.now ≡ sink.taken)
EventsEnd driver tells_source tells_sink L source sink keeps WriteFault =
    Rose sink.faults sink.later × WroteSome driver tells_source tells_sink L source.left source.rest sink.taken sink.now
EventsEnd driver tells_source tells_sink L source sink keeps OutOfMemory = RanShort driver tells_source tells_sink source sink
    × ((IsTrue tells_sink → sink.now ≡ sink.taken)
    ⊎ WroteSome driver tells_source tells_sink L source.left source.rest sink.taken sink.now)
EventsEnd driver tells_source tells_sink L source sink keeps NetFault = ⊥
EventsEnd driver tells_source tells_sink L source sink keeps BadFrame = ⊥

-- What a run of events gives: the session behind them, which stands for the ledger that they lead to; or a status other than Done.
abbrev pub RunsGive : {S : Type 0} → DriverKind → Bool → Ledger → List Event → Writing → (S → Ledger → Type 0) → Result S Status →
    Type 0
RunsGive driver tells L events sink standing (Ok session) = RunsEvents driver tells L events sink (standing session) Done
RunsGive driver tells L events sink standing (Err status) = RunsEvents driver tells L events sink (λ M. ⊥) status

-- So of a command that reads them.
abbrev pub EventsGive : {S : Type 0} → DriverKind → Bool → Bool → Ledger → Reading → Writing → (S → Ledger → Type 0) →
    Result S Status → Type 0
EventsGive driver tells_source tells_sink L source sink standing (Ok session) =
    EventsEnd driver tells_source tells_sink L source sink (standing session) Done
EventsGive driver tells_source tells_sink L source sink standing (Err status) =
    EventsEnd driver tells_source tells_sink L source sink (λ M. ⊥) status

-- What `run CAP` has done, by the status: where it is Done, a session over the completion driver is kept.
abbrev pub RunEnds : Bool → Bool → ℕ → Reading → Writing → Option Kept → Status → Type 0
RunEnds tells_source tells_sink capacity source sink kept status =
    EventsEnd completion tells_source tells_sink (empty capacity) source sink (KeepsRun kept) status

-- What `ready` has done, at a capacity of the machine: where the status is Done, a session over the readiness driver is kept.
abbrev pub ReadyEnds : Bool → Bool → ℕ → Reading → Writing → Option Kept → Status → Type 0
ReadyEnds tells_source tells_sink capacity source sink kept status =
    EventsEnd readiness tells_source tells_sink (empty capacity) source sink (KeepsReady kept) status

-- What `copy` has done, by the status: what a copy has done that ends so.
abbrev pub CopiesFor : Bool → Bool → List ℕ → Reading → Writing → Status → Type 0
CopiesFor tells_source tells_sink prefix source sink Done =
    CopyEnds tells_source tells_sink MOST_INPUT prefix source sink Ending.Done
CopiesFor tells_source tells_sink prefix source sink BadWords = ⊥
CopiesFor tells_source tells_sink prefix source sink BadLine = ⊥
CopiesFor tells_source tells_sink prefix source sink TooLong =
    CopyEnds tells_source tells_sink MOST_INPUT prefix source sink Ending.TooLong
CopiesFor tells_source tells_sink prefix source sink ReadFault =
    CopyEnds tells_source tells_sink MOST_INPUT prefix source sink Ending.ReadFault
CopiesFor tells_source tells_sink prefix source sink WriteFault =
    CopyEnds tells_source tells_sink MOST_INPUT prefix source sink Ending.WriteFault
CopiesFor tells_source tells_sink prefix source sink OutOfMemory =
    CopyEnds tells_source tells_sink MOST_INPUT prefix source sink Ending.OutOfMemory
CopiesFor tells_source tells_sink prefix source sink NetFault = ⊥
CopiesFor tells_source tells_sink prefix source sink BadFrame = ⊥

-- What `unframe` has done, by the status: what was done with the messages of the input that ends so.
abbrev pub UnframesFor : Bool → Bool → Reading → Writing → Status → Type 0
UnframesFor tells_source tells_sink source sink Done = UnframeEnds tells_source tells_sink MOST_INPUT source sink Unframed.Done
UnframesFor tells_source tells_sink source sink BadWords = ⊥
UnframesFor tells_source tells_sink source sink BadLine = ⊥
UnframesFor tells_source tells_sink source sink TooLong = UnframeEnds tells_source tells_sink MOST_INPUT source sink Unframed.TooLong
UnframesFor tells_source tells_sink source sink ReadFault = UnframeEnds tells_source tells_sink MOST_INPUT source sink Unframed.ReadFault
UnframesFor tells_source tells_sink source sink WriteFault = UnframeEnds tells_source tells_sink MOST_INPUT source sink Unframed.WriteFault
UnframesFor tells_source tells_sink source sink OutOfMemory =
    UnframeEnds tells_source tells_sink MOST_INPUT source sink Unframed.OutOfMemory
UnframesFor tells_source tells_sink source sink NetFault = ⊥
UnframesFor tells_source tells_sink source sink BadFrame = UnframeEnds tells_source tells_sink MOST_INPUT source sink Unframed.BadFrame

-- What a command that reads nothing has done to a sink, by the status.
abbrev pub SinkEnds : Bool → Writing → Status → Type 0
SinkEnds tells sink Done = IsTrue sink.flushed
SinkEnds tells sink WriteFault = Rose sink.faults sink.later
SinkEnds tells sink OutOfMemory = IsTrue tells → sink.later ≡ sink.faults
SinkEnds tells sink _ = ⊥

-- What a command has done, by the status.
abbrev pub CommandEnds : Bool → Bool → Command → Reading → Writing → Option Kept → Status → Type 0
CommandEnds tells_source tells_sink (RunOf capacity) source sink kept status =
    RunEnds tells_source tells_sink capacity source sink kept status
CommandEnds tells_source tells_sink ReadyOf source sink kept status =
    (capacity : ℕ) → ReadyEnds tells_source tells_sink capacity source sink kept status
CommandEnds tells_source tells_sink (Generate seed rounds) source sink kept status =
    SumsFor tells_sink (generated_events seed rounds) sink.taken sink.now kept status
CommandEnds tells_source tells_sink (Trace seed rounds) source sink kept status =
    TracesFor tells_sink (generated_events seed rounds) sink.taken sink.now status
CommandEnds tells_source tells_sink (Wake senders count) source sink kept status =
    WakesFor tells_sink (senders * count) sink.taken sink.now status
CommandEnds tells_source tells_sink (Copy capacity word) source sink kept status =
    (prefix : List ℕ) → bytes_of word.now ≡ Some prefix → CopiesFor tells_source tells_sink prefix source sink status
CommandEnds tells_source tells_sink Unframe source sink kept status = UnframesFor tells_source tells_sink source sink status
CommandEnds tells_source tells_sink (Relay plan) source sink kept status = RelaysFor tells_sink plan.rounds sink status
CommandEnds tells_source tells_sink Tasks source sink kept status = TasksFor tells_source tells_sink source sink status

-- What every command has done, by the status, but for its lines: which of them is wrong depends on the command.
abbrev pub StatusFor : Bool → Bool → Reading → Writing → Status → Type 0
StatusFor tells_source tells_sink source sink Done = IsTrue sink.flushed
StatusFor tells_source tells_sink source sink BadWords = ⊥
StatusFor tells_source tells_sink source sink BadLine = ⊤
StatusFor tells_source tells_sink source sink TooLong = IsTrue tells_source → TookTooMany source.left source.rest
StatusFor tells_source tells_sink source sink ReadFault = Rose source.faults source.later
StatusFor tells_source tells_sink source sink WriteFault = Rose sink.faults sink.later
StatusFor tells_source tells_sink source sink OutOfMemory = RanLow tells_source tells_sink source sink
StatusFor tells_source tells_sink source sink NetFault = ⊤
StatusFor tells_source tells_sink source sink BadFrame = ⊤

-- A line is wrong for the command of these words, which reads events: its number was written, and nothing else.
pub record CommandRefused (words : List (List ℕ)) (tells_source tells_sink : Bool) (left rest taken now : List ℕ) : Type 0 where
  pub driver : DriverKind
  pub runs : RunsOn driver words
  pub refused : LineRefused driver tells_source tells_sink left rest taken now
