-- What `tasks` has done, by its words and its status.
use Rattle.std.proofs.Common.{◌≡◌, ◌≤◌, ◌∙◌, refl, sym, subst, ℕ, List, length, Bool, IsTrue, Option, Some, None}
use Rattle.std.proofs.Math.Seq.{drop-length}
use Rattle.session_core.specs.declared.command.Command.{Command}
use Rattle.session_core.specs.declared.input.NoEvents.{NoEvents}
use Rattle.session_core.specs.declared.input.TheConstants.{MOST_INPUT}
use Rattle.session_core.specs.declared.top.Kept.{Kept}
use Rattle.session_core.specs.declared.top.Status.{Status}
use Rattle.session_core.specs.declared.top.Status.TheVariants.{Done, BadWords, BadLine, TooLong}
use Rattle.session_core.specs.declared.top.Status.TheVariants.{ReadFault, WriteFault, OutOfMemory, NetFault, BadFrame}
use Rattle.session_core.specs.Command.{IsTasks, ReadsCommand}
use Rattle.session_core.specs.DriverKind.{DriverKind}
use Rattle.session_core.specs.Ends.{CommandEnds, Reading, StatusFor, Writing}
use Rattle.session_core.specs.Reads.{IsAll, WhyUnread}
use Rattle.session_core.specs.Tasking.{NamesTask, TasksFor, TasksStop}
use Rattle.session_core.specs.Top.{WrotePrefix}
use Rattle.session_core.specs.declared.top.Stop.{Stop}
use Rattle.session_core.specs.declared.top.Stop.TheVariants.{Wrong}
use Rattle.task_run.specs.Tasks.{OutputFor}
use Rattle.machine.specs.Counts.{Rose}
use Rattle.session_core.specs.Writes.{RefusesFor, Wrote}
use Rattle.session_core.proofs.TaskWords.{tasks-are}

-- What a command has done where its words are those of `tasks`.
pub tasks-ends : (ts tk : Bool) (words : List (List ℕ)) (command : Command) (source : Reading) (sink : Writing) (kept : Option Kept)
    (status : Status) →
    ReadsCommand words (Some command) → IsTasks words → CommandEnds ts tk command source sink kept status →
    TasksFor ts tk source sink status
tasks-ends ts tk words command source sink kept status reads tasks ends =
    subst (λ c. CommandEnds ts tk c source sink kept status) (tasks-are words command reads tasks) ends

-- What `tasks` has done is what every command has done.
pub tasks-status : (ts tk : Bool) (source : Reading) (sink : Writing) (status : Status) → TasksFor ts tk source sink status →
    StatusFor ts tk source sink status
tasks-status ts tk source sink Done ends = ends.flushed
tasks-status ts tk source sink BadWords ends = ends
tasks-status ts tk source sink BadLine ends = tt
tasks-status ts tk source sink TooLong ends = ends.0
tasks-status ts tk source sink ReadFault ends = ends.0
tasks-status ts tk source sink WriteFault ends = ends.0
tasks-status ts tk source sink OutOfMemory ends = ends.0
tasks-status ts tk source sink NetFault ends = absurd ends
tasks-status ts tk source sink BadFrame ends = absurd ends

-- A source that gave no text: nothing was written.
pub tasks_unread : (driver : DriverKind) (ts tk : Bool) (source : Reading) (sink : Writing) (why : NoEvents) (status : Status)
    → WhyUnread driver ts source.left source.rest source.faults source.later why
    → RefusesFor tk sink.taken sink.now sink.faults sink.later status why → TasksFor ts tk source sink status
tasks_unread driver ts tk source sink (NoEvents.BadLine n) status unread refuses = absurd unread
tasks_unread driver ts tk source sink NoEvents.TooLong status unread refuses =
    subst (λ s. TasksFor ts tk source sink s) (sym refuses.0) (unread, refuses.1.nothing)
tasks_unread driver ts tk source sink NoEvents.Fault status unread refuses =
    subst (λ s. TasksFor ts tk source sink s) (sym refuses.0) (unread, refuses.1.nothing)
tasks_unread driver ts tk source sink NoEvents.OutOfMemory status unread refuses =
    subst (λ s. TasksFor ts tk source sink s) (sym refuses.0) (
      record {
        few = λ told. (unread told).few;
        calm = record { read = λ told. (unread told).calm; wrote = refuses.1.calm };
      },
      refuses.1.nothing,
    )

-- No line is named then.
pub tasks_unnamed : (driver : DriverKind) (ts tk : Bool) (source : Reading) (sink : Writing) (why : NoEvents) (status : Status)
    → WhyUnread driver ts source.left source.rest source.faults source.later why
    → RefusesFor tk sink.taken sink.now sink.faults sink.later status why → TasksStop ts source None status
tasks_unnamed driver ts tk source sink (NoEvents.BadLine n) status unread refuses = absurd unread
tasks_unnamed driver ts tk source sink NoEvents.TooLong status unread refuses =
    subst (λ s. TasksStop ts source None s) (sym refuses.0) refl
tasks_unnamed driver ts tk source sink NoEvents.Fault status unread refuses =
    subst (λ s. TasksStop ts source None s) (sym refuses.0) refl
tasks_unnamed driver ts tk source sink NoEvents.OutOfMemory status unread refuses =
    subst (λ s. TasksStop ts source None s) (sym refuses.0) refl

-- Memory ran out once all was read.
pub tasks_short : (ts tk : Bool) (source : Reading) (sink : Writing) (text : List ℕ)
    → (IsTrue ts → IsAll source.left source.rest text) → (IsTrue ts → source.later ≡ source.faults)
    → sink.now ≡ sink.taken → sink.later ≡ sink.faults → TasksFor ts tk source sink OutOfMemory
tasks_short ts tk source sink text all calm same still = (
  record {
    few = λ told. let read = all told in record {
      count = length source.left;
      few = subst (λ x. length x ≤ MOST_INPUT) read.all read.within;
      taken = read.to_its_end ∙ sym (drop-length source.left);
    };
    calm = record { read = calm; wrote = λ told. still };
  },
  λ told. same,
)

-- All of it was written.
pub tasks_done : (ts tk : Bool) (source : Reading) (sink : Writing) (text out : List ℕ) → (IsTrue ts → IsAll source.left source.rest text)
    → OutputFor text None out → Wrote tk out sink.taken sink.now sink.faults sink.later → IsTrue sink.flushed
    → TasksFor ts tk source sink Done
tasks_done ts tk source sink text out all output wrote flushed = record {
  text = out;
  is = record { input = text; read = all; output = output };
  written = wrote.all;
  flushed = flushed;
}

-- A text with a bad line is answered by that line's number.
pub tasks_bad : (ts tk : Bool) (source : Reading) (sink : Writing) (text out : List ℕ) (number : ℕ)
    → (IsTrue ts → IsAll source.left source.rest text) → OutputFor text (Some number) out
    → Wrote tk out sink.taken sink.now sink.faults sink.later → IsTrue sink.flushed → TasksFor ts tk source sink BadLine
tasks_bad ts tk source sink text out number all output wrote flushed = (
  number,
  record {
    text = out;
    is = record { input = text; read = all; output = output };
    written = wrote.all;
    flushed = flushed;
  },
)

-- The sink failed.
pub tasks_cut : (ts tk : Bool) (source : Reading) (sink : Writing) (wrong : Option ℕ) (text out : List ℕ)
    → (IsTrue ts → IsAll source.left source.rest text) → OutputFor text wrong out
    → Rose sink.faults sink.later → (IsTrue tk → WrotePrefix out sink.taken sink.now) → TasksFor ts tk source sink WriteFault
tasks_cut ts tk source sink wrong text out all output rose written = (
  rose,
  record { wrong = wrong; text = out; is = record { input = text; read = all; output = output }; written = written },
)

-- The wrong line is named.
pub tasks_named : (ts : Bool) (source : Reading) (text out : List ℕ) (number : ℕ) (stop : Option Stop)
    → (IsTrue ts → IsAll source.left source.rest text) → OutputFor text (Some number) out → stop ≡ Some (Wrong number text)
    → NamesTask ts source.left stop
tasks_named ts source text out number stop all output is = record {
  number = number;
  text = text;
  stop_is = is;
  first = output.0;
  read = λ told. (all told).all;
}
