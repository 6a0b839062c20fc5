-- What `tasks` has done, by its status. Cited by `top` and `run_tasks`.
use Rattle.std.specs.Prelude.{ℕ, ◌≡◌, ◌⊎◌, Bool, IsTrue, List, ◌++◌, Option, Some, None}
use Rattle.rent_io.specs.Call.{Reading, Writing}
use Rattle.machine.specs.Counts.{Rose}
use Rattle.task_run.specs.Tasks.{IsWrongLine, OutputFor}
use Rattle.session_core.specs.declared.top.Status.{Status}
use Rattle.session_core.specs.declared.top.Status.TheVariants.{Done, BadWords, BadLine, TooLong}
use Rattle.session_core.specs.declared.top.Status.TheVariants.{ReadFault, WriteFault, OutOfMemory, NetFault, BadFrame}
use Rattle.session_core.specs.declared.top.Stop.{Stop}
use Rattle.session_core.specs.declared.top.Stop.TheVariants.{Wrong}
use Rattle.session_core.specs.Low.{RanLow}
use Rattle.session_core.specs.Reads.{IsAll}
use Rattle.session_core.specs.Top.{TookTooMany, WrotePrefix}

-- The input, of at most so many bytes, was read to its end, and this is what is written of it: of a wrong line, its number.
pub record TasksText (tells : Bool) (source : Reading) (wrong : Option ℕ) (text : List ℕ) : Type 0 where
  pub input : List ℕ
  pub read : IsTrue tells → IsAll source.left source.rest input
  pub output : OutputFor input wrong text

-- That was written, and nothing else.
pub record TasksWrote (ts tk : Bool) (source : Reading) (sink : Writing) (wrong : Option ℕ) : Type 0 where
  pub text : List ℕ
  pub is : TasksText ts source wrong text
  pub written : IsTrue tk → sink.now ≡ sink.taken ++ text
  pub flushed : IsTrue sink.flushed

-- A prefix of it was written.
pub record TasksCut (ts tk : Bool) (source : Reading) (sink : Writing) : Type 0 where
  pub wrong : Option ℕ
  pub text : List ℕ
  pub is : TasksText ts source wrong text
  pub written : IsTrue tk → WrotePrefix text sink.taken sink.now

-- What `tasks` has done, by the status.
abbrev pub TasksFor : Bool → Bool → Reading → Writing → Status → Type 0
TasksFor ts tk source sink Done = TasksWrote ts tk source sink None
TasksFor ts tk source sink BadWords = ⊥
TasksFor ts tk source sink BadLine = (number : ℕ) × TasksWrote ts tk source sink (Some number)
TasksFor ts tk source sink TooLong = (IsTrue ts → TookTooMany source.left source.rest) × (IsTrue tk → sink.now ≡ sink.taken)
TasksFor ts tk source sink ReadFault = Rose source.faults source.later × (IsTrue tk → sink.now ≡ sink.taken)
TasksFor ts tk source sink WriteFault = Rose sink.faults sink.later × TasksCut ts tk source sink
TasksFor ts tk source sink OutOfMemory = RanLow ts tk source sink × (IsTrue tk → sink.now ≡ sink.taken)
TasksFor ts tk source sink NetFault = ⊥
TasksFor ts tk source sink BadFrame = ⊥

-- The first line that writes no bytes is named, with the text that it stands in: the input, where the source tells it.
pub record NamesTask (tells : Bool) (left : List ℕ) (stop : Option Stop) : Type 0 where
  pub number : ℕ
  pub text : List ℕ
  pub stop_is : stop ≡ Some (Wrong number text)
  pub first : IsWrongLine text number
  pub read : IsTrue tells → text ≡ left

-- Which line is named, by the status.
abbrev pub TasksStop : Bool → Reading → Option Stop → Status → Type 0
TasksStop tells source stop BadLine = NamesTask tells source.left stop
TasksStop tells source stop WriteFault = (stop ≡ None) ⊎ NamesTask tells source.left stop
TasksStop tells source stop _ = stop ≡ None
