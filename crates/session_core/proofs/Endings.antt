-- What a command has done, by its words and its status.
use Rattle.std.proofs.Common.{◌≡◌, ◌*◌, ◌⊎◌, inl, inr, Bool, IsTrue, ℕ, List, Option, Some, sym, subst, arith}
use Rattle.std.specs.Prelude.{Result, Ok, Err}
use Rattle.machine.specs.declared.ledger.Event.{Event}
use Rattle.machine.specs.Ledger.{Ledger}
use Rattle.session_core.specs.declared.command.Command.{Command}
use Rattle.session_core.specs.declared.command.Command.TheVariants.{Run, Ready, Generate, Trace, Wake, Copy, Unframe, Relay, Tasks}
use Rattle.session_core.specs.declared.input.NoEvents.{NoEvents}
use Rattle.session_core.specs.declared.top.Kept.{Kept}
use Rattle.session_core.specs.declared.top.Status.{Status}
use Rattle.session_core.specs.declared.top.Status.TheVariants.{Done, BadWords, BadLine, TooLong}
use Rattle.session_core.specs.declared.top.Status.TheVariants.{ReadFault, WriteFault, OutOfMemory, NetFault, BadFrame}
use Rattle.session_core.specs.Command.{IsRun, IsReady, IsGenerate, IsTrace, IsWake, IsCopy, IsTasks, IsUnframe, ReadsCommand}
use Rattle.session_core.specs.DriverKind.{DriverKind, completion, readiness, after_on, replies_on}
use Rattle.session_core.specs.Generated.{generated_events}
use Rattle.session_core.specs.Top.{SumsFor, WakesFor, WasRead, IsBadLine, all_right, of_replies, of_bad_line, bad_line_text}
use Rattle.session_core.specs.Top.{reply_lines}
use Rattle.session_core.specs.Reads.{WhyNoEvents}
use Rattle.session_core.specs.Relays.{RelaysFor}
use Rattle.session_core.specs.Tasking.{TasksFor}
use Rattle.session_core.specs.Trace.{TracesFor}
use Rattle.session_core.specs.Writes.{RefusesFor, WritesLine}
use Rattle.session_core.specs.Ends.{Reading, Writing, RunEnds, ReadyEnds, EventsEnd, EventsGive, RunsEvents, RunsGive, CommandEnds}
use Rattle.session_core.specs.Ends.{CommandRefused, CopiesFor, StatusFor}
use Rattle.session_core.proofs.Commands.{same-capacity, same-rounds, same-counts, not-both, not-run-generate, not-wake-generate}
use Rattle.session_core.proofs.Commands.{not-run-copy, not-wake-copy, not-generate-copy, same-prefix}
use Rattle.session_core.proofs.Commands.{not-copy-trace, trace-alone}
use Rattle.session_core.proofs.Commands.{not-run-ready, not-generate-ready, not-wake-ready, not-copy-ready}
use Rattle.session_core.proofs.Commands.{not-run-unframe, not-ready-unframe, not-generate-unframe, not-wake-unframe, not-copy-unframe}
use Rattle.session_core.proofs.Reading.{few-read}
use Rattle.session_core.proofs.RelayWords.{few-no-relay}
use Rattle.session_core.proofs.TaskWords.{not-copy-tasks, tasks-alone}

-- What running the events of an input has done is what the command has done.
pub ends-run : (driver : DriverKind) (ts tk : Bool) (L : Ledger) (source : Reading) (sink : Writing) (keeps : Ledger → Type 0)
    (events : List Event) (status : Status) →
    (IsTrue ts → WasRead driver source.left source.rest events) → (IsTrue ts → source.later ≡ source.faults) →
    RunsEvents driver tk L events sink keeps status → EventsEnd driver ts tk L source sink keeps status
ends-run driver ts tk L source sink keeps events Done read calm runs =
    (record { events = events; read = read; written = runs.0; kept = runs.2 }, runs.1)
ends-run driver ts tk L source sink keeps events BadWords read calm runs = runs
ends-run driver ts tk L source sink keeps events BadLine read calm runs = absurd runs
ends-run driver ts tk L source sink keeps events TooLong read calm runs = absurd runs
ends-run driver ts tk L source sink keeps events ReadFault read calm runs = absurd runs
ends-run driver ts tk L source sink keeps events WriteFault read calm runs =
    (runs.0, record { text = reply_lines (replies_on driver L events); may = of_replies events read; prefix = runs.1 })
ends-run driver ts tk L source sink keeps events OutOfMemory read calm runs = (
  record {
    few = λ told. few-read driver source.left source.rest events (read told);
    lines = λ told. all_right events (read told);
    calm = record { read = calm; wrote = λ told. (runs told).calm };
  },
  inr (record { text = reply_lines (replies_on driver L events); may = of_replies events read; prefix = λ told. (runs told).prefix }),
)
ends-run driver ts tk L source sink keeps events NetFault read calm runs = absurd runs
ends-run driver ts tk L source sink keeps events BadFrame read calm runs = absurd runs

-- So is what writing the number of a wrong line has done.
ends-line : (driver : DriverKind) (ts tk : Bool) (L : Ledger) (source : Reading) (sink : Writing) (keeps : Ledger → Type 0) (line : ℕ)
    (status : Status) → (IsTrue ts → IsBadLine driver source.left source.rest line) →
    WritesLine tk line sink.taken sink.now sink.faults sink.later status → EventsEnd driver ts tk L source sink keeps status
ends-line driver ts tk L source sink keeps line Done bad writes = absurd writes
ends-line driver ts tk L source sink keeps line BadWords bad writes = writes
ends-line driver ts tk L source sink keeps line BadLine bad writes = record { n = line; bad = bad; written = writes }
ends-line driver ts tk L source sink keeps line TooLong bad writes = absurd writes
ends-line driver ts tk L source sink keeps line ReadFault bad writes = absurd writes
ends-line driver ts tk L source sink keeps line WriteFault bad writes =
    (writes.0, record { text = bad_line_text line; may = of_bad_line line bad; prefix = writes.1 })
ends-line driver ts tk L source sink keeps line OutOfMemory bad writes = absurd writes
ends-line driver ts tk L source sink keeps line NetFault bad writes = absurd writes
ends-line driver ts tk L source sink keeps line BadFrame bad writes = absurd writes

-- So is what refusing it has done.
pub ends-refused : (driver : DriverKind) (ts tk : Bool) (L : Ledger) (source : Reading) (sink : Writing) (keeps : Ledger → Type 0)
    (why : NoEvents) (status : Status) → WhyNoEvents driver ts source.left source.rest source.faults source.later why →
    RefusesFor tk sink.taken sink.now sink.faults sink.later status why → EventsEnd driver ts tk L source sink keeps status
ends-refused driver ts tk L source sink keeps (NoEvents.BadLine n) status why refuses =
    ends-line driver ts tk L source sink keeps n status why refuses
ends-refused driver ts tk L source sink keeps NoEvents.TooLong status why refuses =
    subst (λ s. EventsEnd driver ts tk L source sink keeps s) (sym refuses.0) (why, refuses.1.nothing)
ends-refused driver ts tk L source sink keeps NoEvents.Fault status why refuses =
    subst (λ s. EventsEnd driver ts tk L source sink keeps s) (sym refuses.0) (why, refuses.1.nothing)
ends-refused driver ts tk L source sink keeps NoEvents.OutOfMemory status why refuses =
    subst (λ s. EventsEnd driver ts tk L source sink keeps s) (sym refuses.0) (
      record {
        few = λ told. (why told).few;
        lines = λ told. (why told).lines;
        calm = record { read = λ told. (why told).calm; wrote = refuses.1.calm };
      },
      inl refuses.1.nothing,
    )

-- What a run of the events of an input gives is what the command gives.
pub ends-given : {S : Type 0} (standing : S → Ledger → Type 0) (driver : DriverKind) (ts tk : Bool) (L : Ledger) (source : Reading)
    (sink : Writing) (events : List Event) (result : Result S Status) →
    (IsTrue ts → WasRead driver source.left source.rest events) → (IsTrue ts → source.later ≡ source.faults) →
    RunsGive driver tk L events sink standing result → EventsGive driver ts tk L source sink standing result
ends-given standing driver ts tk L source sink events (Ok session) read calm runs =
    ends-run driver ts tk L source sink (standing session) events Done read calm runs
ends-given standing driver ts tk L source sink events (Err status) read calm runs =
    ends-run driver ts tk L source sink (λ M. ⊥) events status read calm runs

-- What is kept may be said otherwise.
pub ends-kept : (driver : DriverKind) (ts tk : Bool) (L : Ledger) (source : Reading) (sink : Writing) (keeps then : Ledger → Type 0)
    (status : Status) → ((M : Ledger) → keeps M → then M) → EventsEnd driver ts tk L source sink keeps status →
    EventsEnd driver ts tk L source sink then status
ends-kept driver ts tk L source sink keeps then Done more ends = (
  record {
    events = ends.0.events;
    read = ends.0.read;
    written = ends.0.written;
    kept = more (after_on driver L ends.0.events) ends.0.kept;
  },
  ends.1,
)
ends-kept driver ts tk L source sink keeps then BadWords more ends = ends
ends-kept driver ts tk L source sink keeps then BadLine more ends = ends
ends-kept driver ts tk L source sink keeps then TooLong more ends = ends
ends-kept driver ts tk L source sink keeps then ReadFault more ends = ends
ends-kept driver ts tk L source sink keeps then WriteFault more ends = ends
ends-kept driver ts tk L source sink keeps then OutOfMemory more ends = ends
ends-kept driver ts tk L source sink keeps then NetFault more ends = ends
ends-kept driver ts tk L source sink keeps then BadFrame more ends = ends

-- What a command that runs events has done is what every command has done.
pub ends-status : (driver : DriverKind) (ts tk : Bool) (L : Ledger) (source : Reading) (sink : Writing) (keeps : Ledger → Type 0)
    (status : Status) → EventsEnd driver ts tk L source sink keeps status → StatusFor ts tk source sink status
ends-status driver ts tk L source sink keeps Done ends = ends.1
ends-status driver ts tk L source sink keeps BadWords ends = ends
ends-status driver ts tk L source sink keeps BadLine ends = tt
ends-status driver ts tk L source sink keeps TooLong ends = ends.0
ends-status driver ts tk L source sink keeps ReadFault ends = ends.0
ends-status driver ts tk L source sink keeps WriteFault ends = ends.0
ends-status driver ts tk L source sink keeps OutOfMemory ends = record { few = ends.0.few; calm = ends.0.calm }
ends-status driver ts tk L source sink keeps NetFault ends = absurd ends
ends-status driver ts tk L source sink keeps BadFrame ends = absurd ends

-- What a command has done where its words are those of `run`.
pub run-ends : (ts tk : Bool) (words : List (List ℕ)) (command : Command) (capacity : ℕ) (source : Reading) (sink : Writing)
    (kept : Option Kept) (status : Status) →
    ReadsCommand words (Some command) → IsRun words capacity → CommandEnds ts tk command source sink kept status →
    RunEnds ts tk capacity source sink kept status
run-ends ts tk words (Run c) capacity source sink kept status reads run ends =
    subst (λ k. RunEnds ts tk k source sink kept status) (same-capacity words c capacity reads run) ends
run-ends ts tk words Ready capacity source sink kept status reads run ends = absurd (not-run-ready words capacity run reads)
run-ends ts tk words (Generate s r) capacity source sink kept status reads run ends = absurd (not-run-generate words capacity s r run reads)
run-ends ts tk words (Trace s r) capacity source sink kept status reads run ends =
    absurd (trace-alone words s r (Run capacity) reads run)
run-ends ts tk words (Wake s c) capacity source sink kept status reads run ends = absurd (not-both words capacity s c run reads)
run-ends ts tk words (Copy c word) capacity source sink kept status reads run ends =
    absurd (not-run-copy words capacity c reads.prefix run reads.is_copy)
run-ends ts tk words Unframe capacity source sink kept status reads run ends = absurd (not-run-unframe words capacity run reads)
run-ends ts tk words (Relay plan) capacity source sink kept status reads run ends =
    absurd (few-no-relay plan run.words_are (omega arith) reads)
run-ends ts tk words Tasks capacity source sink kept status reads run ends = absurd (tasks-alone words (Run capacity) reads run)

-- The same of `ready`.
pub ready-ends : (ts tk : Bool) (words : List (List ℕ)) (command : Command) (capacity : ℕ) (source : Reading) (sink : Writing)
    (kept : Option Kept) (status : Status) →
    ReadsCommand words (Some command) → IsReady words → CommandEnds ts tk command source sink kept status →
    ReadyEnds ts tk capacity source sink kept status
ready-ends ts tk words (Run c) capacity source sink kept status reads ready ends = absurd (not-run-ready words c reads ready)
ready-ends ts tk words Ready capacity source sink kept status reads ready ends = ends capacity
ready-ends ts tk words (Generate s r) capacity source sink kept status reads ready ends =
    absurd (not-generate-ready words s r reads ready)
ready-ends ts tk words (Trace s r) capacity source sink kept status reads ready ends = absurd (trace-alone words s r Ready reads ready)
ready-ends ts tk words (Wake s c) capacity source sink kept status reads ready ends = absurd (not-wake-ready words s c reads ready)
ready-ends ts tk words (Copy c word) capacity source sink kept status reads ready ends =
    absurd (not-copy-ready words c reads.prefix reads.is_copy ready)
ready-ends ts tk words Unframe capacity source sink kept status reads ready ends = absurd (not-ready-unframe words ready reads)
ready-ends ts tk words (Relay plan) capacity source sink kept status reads ready ends = absurd (few-no-relay plan ready (omega arith) reads)
ready-ends ts tk words Tasks capacity source sink kept status reads ready ends = absurd (tasks-alone words Ready reads ready)

-- The same of `gen`.
pub sum-ends : (ts tk : Bool) (words : List (List ℕ)) (command : Command) (seed rounds : ℕ) (source : Reading) (sink : Writing)
    (kept : Option Kept) (status : Status) →
    ReadsCommand words (Some command) → IsGenerate words seed rounds → CommandEnds ts tk command source sink kept status →
    SumsFor tk (generated_events seed rounds) sink.taken sink.now kept status
sum-ends ts tk words (Run c) seed rounds source sink kept status reads gen ends = absurd (not-run-generate words c seed rounds reads gen)
sum-ends ts tk words Ready seed rounds source sink kept status reads gen ends = absurd (not-generate-ready words seed rounds gen reads)
sum-ends ts tk words (Generate s r) seed rounds source sink kept status reads gen ends =
    let same = same-rounds words s seed r rounds reads gen in
    subst (λ k. SumsFor tk (generated_events k rounds) sink.taken sink.now kept status) same.0
    (subst (λ k. SumsFor tk (generated_events s k) sink.taken sink.now kept status) same.1 ends)
sum-ends ts tk words (Trace s r) seed rounds source sink kept status reads gen ends =
    absurd (trace-alone words s r (Generate seed rounds) reads gen)
sum-ends ts tk words (Wake s c) seed rounds source sink kept status reads gen ends =
    absurd (not-wake-generate words s c seed rounds reads gen)
sum-ends ts tk words (Copy c word) seed rounds source sink kept status reads gen ends =
    absurd (not-generate-copy words seed rounds c reads.prefix gen reads.is_copy)
sum-ends ts tk words Unframe seed rounds source sink kept status reads gen ends =
    absurd (not-generate-unframe words seed rounds gen reads)
sum-ends ts tk words (Relay plan) seed rounds source sink kept status reads gen ends =
    absurd (few-no-relay plan gen.words_are (omega arith) reads)
sum-ends ts tk words Tasks seed rounds source sink kept status reads gen ends =
    absurd (tasks-alone words (Generate seed rounds) reads gen)

-- The same of `wake`.
pub wake-ends : (ts tk : Bool) (words : List (List ℕ)) (command : Command) (senders count : ℕ) (source : Reading) (sink : Writing)
    (kept : Option Kept) (status : Status) →
    ReadsCommand words (Some command) → IsWake words senders count → CommandEnds ts tk command source sink kept status →
    WakesFor tk (senders * count) sink.taken sink.now status
wake-ends ts tk words (Run c) senders count source sink kept status reads wake ends = absurd (not-both words c senders count reads wake)
wake-ends ts tk words Ready senders count source sink kept status reads wake ends = absurd (not-wake-ready words senders count wake reads)
wake-ends ts tk words (Generate s r) senders count source sink kept status reads wake ends =
    absurd (not-wake-generate words senders count s r wake reads)
wake-ends ts tk words (Trace s r) senders count source sink kept status reads wake ends =
    absurd (trace-alone words s r (Wake senders count) reads wake)
wake-ends ts tk words (Wake s c) senders count source sink kept status reads wake ends =
    let same = same-counts words s senders c count reads wake in
    subst (λ k. WakesFor tk (k * count) sink.taken sink.now status) same.0
    (subst (λ k. WakesFor tk (s * k) sink.taken sink.now status) same.1 ends)
wake-ends ts tk words (Copy c word) senders count source sink kept status reads wake ends =
    absurd (not-wake-copy words senders count c reads.prefix wake reads.is_copy)
wake-ends ts tk words Unframe senders count source sink kept status reads wake ends =
    absurd (not-wake-unframe words senders count wake reads)
wake-ends ts tk words (Relay plan) senders count source sink kept status reads wake ends =
    absurd (few-no-relay plan wake.words_are (omega arith) reads)
wake-ends ts tk words Tasks senders count source sink kept status reads wake ends =
    absurd (tasks-alone words (Wake senders count) reads wake)

-- The same of `copy`.
pub copy-ends : (ts tk : Bool) (words : List (List ℕ)) (command : Command) (capacity : ℕ) (prefix : List ℕ) (source : Reading)
    (sink : Writing) (kept : Option Kept) (status : Status) →
    ReadsCommand words (Some command) → IsCopy words capacity prefix → CommandEnds ts tk command source sink kept status →
    CopiesFor ts tk prefix source sink status
copy-ends ts tk words (Run c) capacity prefix source sink kept status reads copy ends =
    absurd (not-run-copy words c capacity prefix reads copy)
copy-ends ts tk words Ready capacity prefix source sink kept status reads copy ends =
    absurd (not-copy-ready words capacity prefix copy reads)
copy-ends ts tk words (Generate s r) capacity prefix source sink kept status reads copy ends =
    absurd (not-generate-copy words s r capacity prefix reads copy)
copy-ends ts tk words (Trace s r) capacity prefix source sink kept status reads copy ends =
    absurd (not-copy-trace words s r capacity prefix reads copy)
copy-ends ts tk words (Wake s c) capacity prefix source sink kept status reads copy ends =
    absurd (not-wake-copy words s c capacity prefix reads copy)
copy-ends ts tk words (Copy c word) capacity prefix source sink kept status reads copy ends =
    ends prefix (same-prefix words c capacity word.now prefix reads copy)
copy-ends ts tk words Unframe capacity prefix source sink kept status reads copy ends =
    absurd (not-copy-unframe words capacity prefix copy reads)
copy-ends ts tk words (Relay plan) capacity prefix source sink kept status reads copy ends =
    absurd (few-no-relay plan copy.words_are (omega arith) reads)
copy-ends ts tk words Tasks capacity prefix source sink kept status reads copy ends =
    absurd (not-copy-tasks words capacity prefix copy reads)

-- The same of `gen SEED COUNT --events`.
pub trace-ends : (ts tk : Bool) (words : List (List ℕ)) (command : Command) (seed rounds : ℕ) (source : Reading) (sink : Writing)
    (kept : Option Kept) (status : Status) →
    ReadsCommand words (Some command) → IsTrace words seed rounds → CommandEnds ts tk command source sink kept status →
    TracesFor tk (generated_events seed rounds) sink.taken sink.now status
trace-ends ts tk words (Run c) seed rounds source sink kept status reads is ends = absurd (trace-alone words seed rounds (Run c) is reads)
trace-ends ts tk words Ready seed rounds source sink kept status reads is ends = absurd (trace-alone words seed rounds Ready is reads)
trace-ends ts tk words (Generate s r) seed rounds source sink kept status reads is ends =
    absurd (trace-alone words seed rounds (Generate s r) is reads)
trace-ends ts tk words (Trace s r) seed rounds source sink kept status reads is ends =
    let same = trace-alone words seed rounds (Trace s r) is reads in
    subst (λ k. TracesFor tk (generated_events k rounds) sink.taken sink.now status) same.0
    (subst (λ k. TracesFor tk (generated_events s k) sink.taken sink.now status) same.1 ends)
trace-ends ts tk words (Wake s c) seed rounds source sink kept status reads is ends =
    absurd (trace-alone words seed rounds (Wake s c) is reads)
trace-ends ts tk words (Copy c word) seed rounds source sink kept status reads is ends =
    absurd (trace-alone words seed rounds (Copy c word) is reads)
trace-ends ts tk words Unframe seed rounds source sink kept status reads is ends = absurd (trace-alone words seed rounds Unframe is reads)
trace-ends ts tk words (Relay plan) seed rounds source sink kept status reads is ends =
    absurd (trace-alone words seed rounds (Relay plan) is reads)
trace-ends ts tk words Tasks seed rounds source sink kept status reads is ends = absurd (trace-alone words seed rounds Tasks is reads)

-- A command other than `copy` and `unframe` has written nothing, where too many bytes were read or a read failed.
pub written-late : (ts tk : Bool) (words : List (List ℕ)) (command : Command) (source : Reading) (sink : Writing) (kept : Option Kept)
    (status : Status) →
    ReadsCommand words (Some command) → CommandEnds ts tk command source sink kept status →
    ((capacity : ℕ) (prefix : List ℕ) → IsCopy words capacity prefix → ⊥) → (IsUnframe words → ⊥) →
    (status ≡ TooLong) ⊎ (status ≡ ReadFault) → IsTrue tk → sink.now ≡ sink.taken
written-late ts tk words (Run c) source sink kept status reads ends other last (inl is) =
    (subst (λ s. RunEnds ts tk c source sink kept s) is ends).1
written-late ts tk words (Run c) source sink kept status reads ends other last (inr is) =
    (subst (λ s. RunEnds ts tk c source sink kept s) is ends).1
written-late ts tk words Ready source sink kept status reads ends other last (inl is) =
    (subst (λ s. ReadyEnds ts tk 0 source sink kept s) is (ends 0)).1
written-late ts tk words Ready source sink kept status reads ends other last (inr is) =
    (subst (λ s. ReadyEnds ts tk 0 source sink kept s) is (ends 0)).1
written-late ts tk words (Generate s r) source sink kept status reads ends other last (inl is) =
    absurd (subst (λ x. SumsFor tk (generated_events s r) sink.taken sink.now kept x) is ends)
written-late ts tk words (Generate s r) source sink kept status reads ends other last (inr is) =
    absurd (subst (λ x. SumsFor tk (generated_events s r) sink.taken sink.now kept x) is ends)
written-late ts tk words (Trace s r) source sink kept status reads ends other last (inl is) =
    absurd (subst (λ x. TracesFor tk (generated_events s r) sink.taken sink.now x) is ends)
written-late ts tk words (Trace s r) source sink kept status reads ends other last (inr is) =
    absurd (subst (λ x. TracesFor tk (generated_events s r) sink.taken sink.now x) is ends)
written-late ts tk words (Wake s c) source sink kept status reads ends other last (inl is) =
    absurd (subst (λ x. WakesFor tk (s * c) sink.taken sink.now x) is ends)
written-late ts tk words (Wake s c) source sink kept status reads ends other last (inr is) =
    absurd (subst (λ x. WakesFor tk (s * c) sink.taken sink.now x) is ends)
written-late ts tk words (Copy c word) source sink kept status reads ends other last why = absurd (other c reads.prefix reads.is_copy)
written-late ts tk words Unframe source sink kept status reads ends other last why = absurd (last reads)
written-late ts tk words (Relay plan) source sink kept status reads ends other last (inl is) =
    absurd (subst (λ x. RelaysFor tk plan.rounds sink x) is ends)
written-late ts tk words (Relay plan) source sink kept status reads ends other last (inr is) =
    absurd (subst (λ x. RelaysFor tk plan.rounds sink x) is ends)
written-late ts tk words Tasks source sink kept status reads ends other last (inl is) =
    (subst (λ x. TasksFor ts tk source sink x) is ends).1
written-late ts tk words Tasks source sink kept status reads ends other last (inr is) =
    (subst (λ x. TasksFor ts tk source sink x) is ends).1

-- A line is wrong only for a command that runs events, or for `tasks`.
line-ends : (ts tk : Bool) (words : List (List ℕ)) (command : Command) (source : Reading) (sink : Writing) (kept : Option Kept) →
    ReadsCommand words (Some command) → CommandEnds ts tk command source sink kept BadLine → (IsTasks words → ⊥) →
    CommandRefused words ts tk source.left source.rest sink.taken sink.now
line-ends ts tk words (Run c) source sink kept reads ends other = record { driver = completion; runs = (c, reads); refused = ends }
line-ends ts tk words Ready source sink kept reads ends other = record { driver = readiness; runs = reads; refused = ends 0 }
line-ends ts tk words (Generate s r) source sink kept reads ends other = absurd ends
line-ends ts tk words (Trace s r) source sink kept reads ends other = absurd ends
line-ends ts tk words (Wake s c) source sink kept reads ends other = absurd ends
line-ends ts tk words (Copy c word) source sink kept reads ends other = absurd (ends reads.prefix reads.writes)
line-ends ts tk words Unframe source sink kept reads ends other = absurd ends
line-ends ts tk words (Relay plan) source sink kept reads ends other = absurd ends
line-ends ts tk words Tasks source sink kept reads ends other = absurd (other reads)

-- So it is where the status says so.
pub line-refused : (ts tk : Bool) (words : List (List ℕ)) (command : Command) (source : Reading) (sink : Writing) (kept : Option Kept)
    (status : Status) → ReadsCommand words (Some command) → CommandEnds ts tk command source sink kept status → status ≡ BadLine →
    (IsTasks words → ⊥) →
    CommandRefused words ts tk source.left source.rest sink.taken sink.now
line-refused ts tk words command source sink kept status reads ends is other =
    line-ends ts tk words command source sink kept reads (subst (λ s. CommandEnds ts tk command source sink kept s) is ends) other
