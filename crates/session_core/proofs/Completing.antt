-- A command whose input is right, and whose source and sink don't fail, is done, or runs out of memory.
use Rattle.std.proofs.Common.{◌≤◌, ◌*◌, inl, inr, refl, ℕ, List, [], ◌∷◌, ◌++◌, length, Bool, IsTrue, Option, Some}
use Rattle.std.proofs.Common.{◌≡◌, None, arith, subst, sym}
use Rattle.std.specs.Prelude.{IsSome}
use Rattle.std.specs.List.{AllZip}
use Rattle.machine.specs.declared.ledger.Event.{Event}
use Rattle.machine.specs.Ledger.{Ledger, empty}
use Rattle.session_core.specs.declared.command.Command.{Command}
use Rattle.session_core.specs.declared.input.TheConstants.{MOST_INPUT}
use Rattle.session_core.specs.declared.top.Kept.{Kept}
use Rattle.session_core.specs.declared.top.Status.{Status}
use Rattle.session_core.specs.declared.top.Status.TheVariants.{Done, BadWords, BadLine, TooLong}
use Rattle.session_core.specs.declared.top.Status.TheVariants.{ReadFault, WriteFault, OutOfMemory, NetFault, BadFrame}
use Rattle.event_text.specs.TextLines.{lines, AreEventsFor, IsFirstWrongFor}
use Rattle.session_core.specs.Command.{IsNoCommand, ReadsCommand}
use Rattle.session_core.specs.Generated.{generated_events}
use Rattle.session_core.specs.Top.{SumsFor, TookTooMany, WakesFor}
use Rattle.session_core.specs.Complete.{HoldsEvents, HoldsTasks, IsDoneOrShort, NoneRose, TakesInput, of_events, of_copy, of_tasks}
use Rattle.session_core.specs.Complete.{of_generate, of_trace, of_wake}
use Rattle.session_core.specs.Ends.{Reading, Writing, CommandEnds, CopiesFor, EventsEnd, StatusFor}
use Rattle.session_core.specs.DriverKind.{DriverKind, StandsOn, completion, readiness, KeepsRun, KeepsReady}
use Rattle.session_core.specs.Tasking.{TasksFor}
use Rattle.session_core.specs.Trace.{TracesFor}
use Rattle.task_run.specs.Tasks.{AreRight, IsWrongLine, line_bytes}
use Rattle.session_core.proofs.Tasking.{tasks-ends}
use Rattle.session_core.proofs.Endings.{run-ends, ready-ends, sum-ends, trace-ends, wake-ends, copy-ends}

-- Where each line stands for an event, so does the one behind any others.
right-behind : (driver : DriverKind) (before behind : List (List ℕ)) (line : List ℕ) (events : List Event) →
    AllZip (StandsOn driver) (before ++ line ∷ behind) events → (event : Event) × StandsOn driver line event
right-behind driver [] behind line [] all = absurd all
right-behind driver [] behind line (event ∷ events) all = (event, all.0)
right-behind driver (x ∷ before) behind line [] all = absurd all
right-behind driver (x ∷ before) behind line (event ∷ events) all = right-behind driver before behind line events all.1

-- Then none is the first wrong one.
none-wrong : (driver : DriverKind) (all : List (List ℕ)) (n : ℕ) → AreEventsFor (StandsOn driver) all →
    IsFirstWrongFor (StandsOn driver) all n → ⊥
none-wrong driver all n right wrong =
    let found = right-behind driver wrong.before wrong.behind wrong.line right.events
    (subst (λ xs. AllZip (StandsOn driver) xs right.events) wrong.split right.stand) in
    wrong.wrong found.0 found.1

-- No more bytes are taken than there are.
pub few-taken : (left rest : List ℕ) → length left ≤ MOST_INPUT → TookTooMany left rest → ⊥
few-taken left rest within took = (let many = took.many in let there = took.there in omega arith)

-- A run of lines of events, where nothing fails.
run-complete : (driver : DriverKind) (ts tk : Bool) (L : Ledger) (source : Reading) (sink : Writing) (keeps : Ledger → Type 0)
    (status : Status) → IsTrue ts → HoldsEvents driver source.left → NoneRose source sink →
    EventsEnd driver ts tk L source sink keeps status → IsDoneOrShort status
run-complete driver ts tk L source sink keeps Done told right calm ends = inl refl
run-complete driver ts tk L source sink keeps BadWords told right calm ends = absurd ends
run-complete driver ts tk L source sink keeps BadLine told right calm ends =
    absurd (none-wrong driver (lines source.left) ends.n right.right (ends.bad told).first)
run-complete driver ts tk L source sink keeps TooLong told right calm ends =
    absurd (few-taken source.left source.rest right.within (ends.0 told))
run-complete driver ts tk L source sink keeps ReadFault told right calm ends = absurd (calm.read ends.0)
run-complete driver ts tk L source sink keeps WriteFault told right calm ends = absurd (calm.wrote ends.0)
run-complete driver ts tk L source sink keeps OutOfMemory told right calm ends = inr refl
run-complete driver ts tk L source sink keeps NetFault told right calm ends = absurd ends
run-complete driver ts tk L source sink keeps BadFrame told right calm ends = absurd ends

-- A generated run, where nothing fails.
sum-complete : (ts tk : Bool) (events : List Event) (source : Reading) (sink : Writing) (kept : Option Kept) (status : Status) →
    NoneRose source sink → SumsFor tk events sink.taken sink.now kept status → StatusFor ts tk source sink status → IsDoneOrShort status
sum-complete ts tk events source sink kept Done calm ends caused = inl refl
sum-complete ts tk events source sink kept BadWords calm ends caused = absurd ends
sum-complete ts tk events source sink kept BadLine calm ends caused = absurd ends
sum-complete ts tk events source sink kept TooLong calm ends caused = absurd ends
sum-complete ts tk events source sink kept ReadFault calm ends caused = absurd ends
sum-complete ts tk events source sink kept WriteFault calm ends caused = absurd (calm.wrote caused)
sum-complete ts tk events source sink kept OutOfMemory calm ends caused = inr refl
sum-complete ts tk events source sink kept NetFault calm ends caused = absurd ends
sum-complete ts tk events source sink kept BadFrame calm ends caused = absurd ends

-- Generated events that are written, where nothing fails.
trace-complete : (ts tk : Bool) (events : List Event) (source : Reading) (sink : Writing) (status : Status) →
    NoneRose source sink → TracesFor tk events sink.taken sink.now status → StatusFor ts tk source sink status → IsDoneOrShort status
trace-complete ts tk events source sink Done calm ends caused = inl refl
trace-complete ts tk events source sink BadWords calm ends caused = absurd ends
trace-complete ts tk events source sink BadLine calm ends caused = absurd ends
trace-complete ts tk events source sink TooLong calm ends caused = absurd ends
trace-complete ts tk events source sink ReadFault calm ends caused = absurd ends
trace-complete ts tk events source sink WriteFault calm ends caused = absurd (calm.wrote caused)
trace-complete ts tk events source sink OutOfMemory calm ends caused = inr refl
trace-complete ts tk events source sink NetFault calm ends caused = absurd ends
trace-complete ts tk events source sink BadFrame calm ends caused = absurd ends

-- Wakers that are sent, where nothing fails.
wake-complete : (ts tk : Bool) (total : ℕ) (source : Reading) (sink : Writing) (status : Status) →
    NoneRose source sink → WakesFor tk total sink.taken sink.now status → StatusFor ts tk source sink status → IsDoneOrShort status
wake-complete ts tk total source sink Done calm ends caused = inl refl
wake-complete ts tk total source sink BadWords calm ends caused = absurd ends
wake-complete ts tk total source sink BadLine calm ends caused = absurd ends
wake-complete ts tk total source sink TooLong calm ends caused = absurd ends
wake-complete ts tk total source sink ReadFault calm ends caused = absurd ends
wake-complete ts tk total source sink WriteFault calm ends caused = absurd (calm.wrote caused)
wake-complete ts tk total source sink OutOfMemory calm ends caused = inr refl
wake-complete ts tk total source sink NetFault calm ends caused = absurd ends
wake-complete ts tk total source sink BadFrame calm ends caused = absurd ends

-- A copy of bytes that aren't too many, where nothing fails.
copy-complete : (ts tk : Bool) (prefix : List ℕ) (source : Reading) (sink : Writing) (status : Status) → IsTrue ts →
    length source.left ≤ MOST_INPUT → NoneRose source sink → CopiesFor ts tk prefix source sink status → IsDoneOrShort status
copy-complete ts tk prefix source sink Done told few calm ends = inl refl
copy-complete ts tk prefix source sink BadWords told few calm ends = absurd ends
copy-complete ts tk prefix source sink BadLine told few calm ends = absurd ends
copy-complete ts tk prefix source sink TooLong told few calm ends = absurd (few-taken source.left source.rest few (ends.0 told))
copy-complete ts tk prefix source sink ReadFault told few calm ends = absurd (calm.read ends.0)
copy-complete ts tk prefix source sink WriteFault told few calm ends = absurd (calm.wrote ends.0)
copy-complete ts tk prefix source sink OutOfMemory told few calm ends = inr refl
copy-complete ts tk prefix source sink NetFault told few calm ends = absurd ends
copy-complete ts tk prefix source sink BadFrame told few calm ends = absurd ends

-- Where each line of an input writes bytes, none is the first wrong one.
right-line : (text left : List ℕ) (number : ℕ) → text ≡ left → AreRight left (length (lines left)) → IsWrongLine text number → ⊥
right-line text left number same right wrong =
    let there = wrong.there in
    let is = wrong.number_is in
    let some : IsSome (line_bytes text wrong.before) =
    subst (λ x. AreRight x (length (lines x))) (sym same) right wrong.before (omega (arith, there, is)) in
    none-some (line_bytes text wrong.before) wrong.wrong some
  where
    none-some : (found : Option (List ℕ)) → found ≡ None → IsSome found → ⊥
    none-some None is some = absurd cc
    none-some (Some bytes) is some = absurd cc

-- Tasks of lines that write bytes, where nothing fails.
tasks-complete : (ts tk : Bool) (source : Reading) (sink : Writing) (status : Status) → IsTrue ts → HoldsTasks source.left →
    NoneRose source sink → TasksFor ts tk source sink status → IsDoneOrShort status
tasks-complete ts tk source sink Done told right calm ends = inl refl
tasks-complete ts tk source sink BadWords told right calm ends = absurd ends
tasks-complete ts tk source sink BadLine told right calm ends = absurd (right-line ends.1.is.input source.left ends.0
    ((ends.1.is.read told).all) right.right ends.1.is.output.0)
tasks-complete ts tk source sink TooLong told right calm ends =
    absurd (few-taken source.left source.rest right.within (ends.0 told))
tasks-complete ts tk source sink ReadFault told right calm ends = absurd (calm.read ends.0)
tasks-complete ts tk source sink WriteFault told right calm ends = absurd (calm.wrote ends.0)
tasks-complete ts tk source sink OutOfMemory told right calm ends = inr refl
tasks-complete ts tk source sink NetFault told right calm ends = absurd ends
tasks-complete ts tk source sink BadFrame told right calm ends = absurd ends

-- Any command, whose input is one that it takes.
pub command-complete : (ts tk : Bool) (words : List (List ℕ)) (command : Command) (source : Reading) (sink : Writing) (kept : Option Kept)
    (status : Status) →
    ReadsCommand words (Some command) → CommandEnds ts tk command source sink kept status → StatusFor ts tk source sink status →
    TakesInput ts words source.left → NoneRose source sink → IsDoneOrShort status
command-complete ts tk words command source sink kept status reads ends caused (of_events completion is told right) calm =
    run-complete completion ts tk (empty is.0) source sink (KeepsRun kept) status told right calm
    (run-ends ts tk words command is.0 source sink kept status reads is.1 ends)
command-complete ts tk words command source sink kept status reads ends caused (of_events readiness is told right) calm =
    run-complete readiness ts tk (empty 0) source sink (KeepsReady kept) status told right calm
    (ready-ends ts tk words command 0 source sink kept status reads is ends)
command-complete ts tk words command source sink kept status reads ends caused (of_generate seed rounds is) calm =
    sum-complete ts tk (generated_events seed rounds) source sink kept status calm
    (sum-ends ts tk words command seed rounds source sink kept status reads is ends) caused
command-complete ts tk words command source sink kept status reads ends caused (of_trace seed rounds is) calm =
    trace-complete ts tk (generated_events seed rounds) source sink status calm
    (trace-ends ts tk words command seed rounds source sink kept status reads is ends) caused
command-complete ts tk words command source sink kept status reads ends caused (of_wake senders count is) calm =
    wake-complete ts tk (senders * count) source sink status calm
    (wake-ends ts tk words command senders count source sink kept status reads is ends) caused
command-complete ts tk words command source sink kept status reads ends caused (of_copy capacity prefix is told few) calm =
    copy-complete ts tk prefix source sink status told few calm
    (copy-ends ts tk words command capacity prefix source sink kept status reads is ends)
command-complete ts tk words command source sink kept status reads ends caused (of_tasks is told right) calm =
    tasks-complete ts tk source sink status told right calm (tasks-ends ts tk words command source sink kept status reads is ends)

-- Words of a command aren't those of none.
pub input-taken : (ts : Bool) (words : List (List ℕ)) (left : List ℕ) → TakesInput ts words left → IsNoCommand words → ⊥
input-taken ts words left (of_events completion is told right) none = none.no_run is.0 is.1
input-taken ts words left (of_events readiness is told right) none = none.no_ready is
input-taken ts words left (of_generate seed rounds is) none = none.no_generate seed rounds is
input-taken ts words left (of_trace seed rounds is) none = none.no_trace seed rounds is
input-taken ts words left (of_wake senders count is) none = none.no_wake senders count is
input-taken ts words left (of_copy capacity prefix is told few) none = none.no_copy capacity prefix is
input-taken ts words left (of_tasks is told right) none = none.no_tasks is
