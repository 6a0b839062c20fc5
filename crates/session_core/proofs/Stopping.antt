-- Which line a command names.
use Rattle.std.proofs.Common.{◌≡◌, inl, inr, ℕ, Bool, IsTrue, List, Option, Some, None, sym, subst, arith}
use Rattle.std.specs.Prelude.{Result, Ok, Err}
use Rattle.machine.specs.declared.ledger.Event.{Event}
use Rattle.machine.specs.Ledger.{Ledger, empty}
use Rattle.rent_io.specs.Call.{Reading, Writing}
use Rattle.session_core.specs.declared.command.Command.{Command}
use Rattle.session_core.specs.declared.command.Command.TheVariants.{Run, Ready, Generate, Trace, Wake, Copy, Unframe, Relay, Tasks}
use Rattle.session_core.specs.declared.input.NoEvents.{NoEvents}
use Rattle.session_core.specs.declared.top.Status.{Status}
use Rattle.session_core.specs.declared.top.Status.TheVariants.{Done, BadWords, BadLine, TooLong}
use Rattle.session_core.specs.declared.top.Status.TheVariants.{ReadFault, WriteFault, OutOfMemory, NetFault, BadFrame}
use Rattle.session_core.specs.declared.top.Stop.{Stop}
use Rattle.session_core.specs.Command.{IsRun, IsReady, ReadsCommand, IsTasks}
use Rattle.session_core.specs.DriverKind.{DriverKind, completion, readiness}
use Rattle.session_core.specs.Reads.{WhyUnread}
use Rattle.session_core.specs.Tasking.{TasksStop}
use Rattle.session_core.specs.Stops.{CommandStops, EventsStop, ReadStops, ResultStops, RunStops}
use Rattle.session_core.specs.Top.{WasRead}
use Rattle.session_core.specs.Writes.{RefusesFor}
use Rattle.session_core.proofs.Commands.{same-capacity, not-both, not-run-generate, not-run-copy, not-run-ready, not-generate-ready}
use Rattle.session_core.proofs.Commands.{not-wake-ready, not-copy-ready, not-run-unframe, not-ready-unframe, trace-alone}
use Rattle.session_core.proofs.RelayWords.{few-no-relay}
use Rattle.session_core.proofs.TaskWords.{tasks-alone, tasks-are}

-- Where no bytes were given, no line was looked at.
pub unread-stops : (driver : DriverKind) (tells : Bool) (left rest : List ℕ) (faults later : ℕ) (stop : Option Stop) (why : NoEvents) →
    WhyUnread driver tells left rest faults later why → stop ≡ None → ReadStops driver tells left stop why
unread-stops driver tells left rest faults later stop (NoEvents.BadLine n) why none = absurd why
unread-stops driver tells left rest faults later stop NoEvents.TooLong why none = none
unread-stops driver tells left rest faults later stop NoEvents.Fault why none = none
unread-stops driver tells left rest faults later stop NoEvents.OutOfMemory why none = none

-- A wrong line was named as it was found, and else none.
pub refused-stops : (driver : DriverKind) (ts tk : Bool) (L : Ledger) (source : Reading) (sink : Writing) (stop : Option Stop)
    (why : NoEvents) (status : Status) → ReadStops driver ts source.left stop why →
    RefusesFor tk sink.taken sink.now sink.faults sink.later status why → EventsStop driver ts tk L source sink stop status
refused-stops driver ts tk L source sink stop (NoEvents.BadLine n) Done names refuses = absurd refuses
refused-stops driver ts tk L source sink stop (NoEvents.BadLine n) BadWords names refuses = absurd refuses
refused-stops driver ts tk L source sink stop (NoEvents.BadLine n) BadLine names refuses = names
refused-stops driver ts tk L source sink stop (NoEvents.BadLine n) TooLong names refuses = absurd refuses
refused-stops driver ts tk L source sink stop (NoEvents.BadLine n) ReadFault names refuses = absurd refuses
refused-stops driver ts tk L source sink stop (NoEvents.BadLine n) WriteFault names refuses = inr names
refused-stops driver ts tk L source sink stop (NoEvents.BadLine n) OutOfMemory names refuses = absurd refuses
refused-stops driver ts tk L source sink stop (NoEvents.BadLine n) NetFault names refuses = absurd refuses
refused-stops driver ts tk L source sink stop (NoEvents.BadLine n) BadFrame names refuses = absurd refuses
refused-stops driver ts tk L source sink stop NoEvents.TooLong status names refuses =
    subst (λ s. EventsStop driver ts tk L source sink stop s) (sym refuses.0) names
refused-stops driver ts tk L source sink stop NoEvents.Fault status names refuses =
    subst (λ s. EventsStop driver ts tk L source sink stop s) (sym refuses.0) names
refused-stops driver ts tk L source sink stop NoEvents.OutOfMemory status names refuses =
    subst (λ s. EventsStop driver ts tk L source sink stop s) (sym refuses.0)
    (inl (record { none = names; nothing = refuses.1.nothing }))

-- Memory that ran out at a line of a run did so at a line of what was read.
pub given-stops : {S : Type 0} (driver : DriverKind) (ts tk : Bool) (L : Ledger) (source : Reading) (sink : Writing) (stop : Option Stop)
    (events : List Event) (result : Result S Status) → (IsTrue ts → WasRead driver source.left source.rest events) →
    RunStops driver tk L events sink stop result → ResultStops driver ts tk L source sink stop result
given-stops driver ts tk L source sink stop events (Ok session) read stops = stops
given-stops driver ts tk L source sink stop events (Err Done) read stops = absurd stops
given-stops driver ts tk L source sink stop events (Err BadWords) read stops = absurd stops
given-stops driver ts tk L source sink stop events (Err BadLine) read stops = absurd stops
given-stops driver ts tk L source sink stop events (Err TooLong) read stops = absurd stops
given-stops driver ts tk L source sink stop events (Err ReadFault) read stops = absurd stops
given-stops driver ts tk L source sink stop events (Err WriteFault) read stops = inl stops
given-stops driver ts tk L source sink stop events (Err OutOfMemory) read stops =
    inr (record { events = events; read = read; named = stops })
given-stops driver ts tk L source sink stop events (Err NetFault) read stops = absurd stops
given-stops driver ts tk L source sink stop events (Err BadFrame) read stops = absurd stops

-- What a command names where its words are those of `run`.
pub run-stops : (ts tk : Bool) (words : List (List ℕ)) (command : Command) (capacity : ℕ) (source : Reading) (sink : Writing)
    (stop : Option Stop) (status : Status) → ReadsCommand words (Some command) → IsRun words capacity →
    CommandStops ts tk command source sink stop status → EventsStop completion ts tk (empty capacity) source sink stop status
run-stops ts tk words (Run c) capacity source sink stop status reads run stops =
    subst (λ k. EventsStop completion ts tk (empty k) source sink stop status) (same-capacity words c capacity reads run) stops
run-stops ts tk words Ready capacity source sink stop status reads run stops = absurd (not-run-ready words capacity run reads)
run-stops ts tk words (Generate s r) capacity source sink stop status reads run stops =
    absurd (not-run-generate words capacity s r run reads)
run-stops ts tk words (Trace s r) capacity source sink stop status reads run stops = absurd (trace-alone words s r (Run capacity) reads run)
run-stops ts tk words (Wake s c) capacity source sink stop status reads run stops = absurd (not-both words capacity s c run reads)
run-stops ts tk words (Copy c word) capacity source sink stop status reads run stops =
    absurd (not-run-copy words capacity c reads.prefix run reads.is_copy)
run-stops ts tk words Unframe capacity source sink stop status reads run stops = absurd (not-run-unframe words capacity run reads)
run-stops ts tk words (Relay plan) capacity source sink stop status reads run stops =
    absurd (few-no-relay plan run.words_are (omega arith) reads)
run-stops ts tk words Tasks capacity source sink stop status reads run stops = absurd (tasks-alone words (Run capacity) reads run)

-- The same of `ready`.
pub ready-stops : (ts tk : Bool) (words : List (List ℕ)) (command : Command) (capacity : ℕ) (source : Reading) (sink : Writing)
    (stop : Option Stop) (status : Status) → ReadsCommand words (Some command) → IsReady words →
    CommandStops ts tk command source sink stop status → EventsStop readiness ts tk (empty capacity) source sink stop status
ready-stops ts tk words (Run c) capacity source sink stop status reads ready stops = absurd (not-run-ready words c reads ready)
ready-stops ts tk words Ready capacity source sink stop status reads ready stops = stops capacity
ready-stops ts tk words (Generate s r) capacity source sink stop status reads ready stops =
    absurd (not-generate-ready words s r reads ready)
ready-stops ts tk words (Trace s r) capacity source sink stop status reads ready stops = absurd (trace-alone words s r Ready reads ready)
ready-stops ts tk words (Wake s c) capacity source sink stop status reads ready stops = absurd (not-wake-ready words s c reads ready)
ready-stops ts tk words (Copy c word) capacity source sink stop status reads ready stops =
    absurd (not-copy-ready words c reads.prefix reads.is_copy ready)
ready-stops ts tk words Unframe capacity source sink stop status reads ready stops = absurd (not-ready-unframe words ready reads)
ready-stops ts tk words (Relay plan) capacity source sink stop status reads ready stops =
    absurd (few-no-relay plan ready (omega arith) reads)
ready-stops ts tk words Tasks capacity source sink stop status reads ready stops = absurd (tasks-alone words Ready reads ready)

-- The same of `tasks`.
pub tasks-stops : (ts tk : Bool) (words : List (List ℕ)) (command : Command) (source : Reading) (sink : Writing)
    (stop : Option Stop) (status : Status) → ReadsCommand words (Some command) → IsTasks words →
    CommandStops ts tk command source sink stop status → TasksStop ts source stop status
tasks-stops ts tk words command source sink stop status reads tasks stops =
    subst (λ c. CommandStops ts tk c source sink stop status) (tasks-are words command reads tasks) stops

-- A command of other words names no line.
pub none-stops : (ts tk : Bool) (words : List (List ℕ)) (command : Command) (source : Reading) (sink : Writing) (stop : Option Stop)
    (status : Status) → ReadsCommand words (Some command) → ((capacity : ℕ) → IsRun words capacity → ⊥) → (IsReady words → ⊥) →
    (IsTasks words → ⊥) →
    CommandStops ts tk command source sink stop status → stop ≡ None
none-stops ts tk words (Run c) source sink stop status reads no_run no_ready no_tasks stops = absurd (no_run c reads)
none-stops ts tk words Ready source sink stop status reads no_run no_ready no_tasks stops = absurd (no_ready reads)
none-stops ts tk words (Generate s r) source sink stop status reads no_run no_ready no_tasks stops = stops
none-stops ts tk words (Trace s r) source sink stop status reads no_run no_ready no_tasks stops = stops
none-stops ts tk words (Wake s c) source sink stop status reads no_run no_ready no_tasks stops = stops
none-stops ts tk words (Copy c word) source sink stop status reads no_run no_ready no_tasks stops = stops
none-stops ts tk words Unframe source sink stop status reads no_run no_ready no_tasks stops = stops
none-stops ts tk words (Relay plan) source sink stop status reads no_run no_ready no_tasks stops = stops
none-stops ts tk words Tasks source sink stop status reads no_run no_ready no_tasks stops = absurd (no_tasks reads)
