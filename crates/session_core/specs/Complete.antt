-- When a command can only be done, or run out of memory. Cited by `top`.
use Rattle.std.specs.Prelude.{ℕ, ◌≡◌, ◌≤◌, ◌⊎◌, Bool, IsTrue, List, length}
use Rattle.machine.specs.Counts.{Rose}
use Rattle.rent_io.specs.Call.{Reading, Writing}
use Rattle.event_text.specs.TextLines.{lines, AreEventsFor}
use Rattle.session_core.specs.declared.input.TheConstants.{MOST_INPUT}
use Rattle.session_core.specs.declared.top.Status.{Status}
use Rattle.session_core.specs.declared.top.Status.TheVariants.{Done, OutOfMemory, BadFrame}
use Rattle.session_core.specs.Command.{RunsOn, IsGenerate, IsTasks, IsTrace, IsWake, IsCopy}
use Rattle.task_run.specs.Tasks.{AreRight}
use Rattle.session_core.specs.DriverKind.{DriverKind, StandsOn}

-- An input of no more bytes than it may have, each of whose lines stands for an event that a driver takes.
pub record HoldsEvents (driver : DriverKind) (left : List ℕ) : Type 0 where
  pub within : length left ≤ MOST_INPUT
  pub right : AreEventsFor (StandsOn driver) (lines left)

-- An input of no more bytes than it may have, each of whose lines writes bytes.
pub record HoldsTasks (left : List ℕ) : Type 0 where
  pub within : length left ≤ MOST_INPUT
  pub right : AreRight left (length (lines left))

-- The words are a command, and the source tells an input that the command takes: `run` and `ready` the lines of events, `tasks`
-- lines of bytes, `copy` any bytes that aren't too many. `gen` and `wake` read nothing, so that they take any.
pub data TakesInput (tells : Bool) (words : List (List ℕ)) (left : List ℕ) : Type 0 where
  of_events : (driver : DriverKind) → RunsOn driver words → IsTrue tells → HoldsEvents driver left → TakesInput tells words left
  of_generate : (seed rounds : ℕ) → IsGenerate words seed rounds → TakesInput tells words left
  of_trace : (seed rounds : ℕ) → IsTrace words seed rounds → TakesInput tells words left
  of_wake : (senders count : ℕ) → IsWake words senders count → TakesInput tells words left
  of_tasks : IsTasks words → IsTrue tells → HoldsTasks left → TakesInput tells words left
  of_copy : (capacity : ℕ) (prefix : List ℕ) → IsCopy words capacity prefix → IsTrue tells → length left ≤ MOST_INPUT
      → TakesInput tells words left

-- Neither count of faults rose.
pub record NoneRose (source : Reading) (sink : Writing) : Type 0 where
  pub read : Rose source.faults source.later → ⊥
  pub wrote : Rose sink.faults sink.later → ⊥

-- All was done, or memory ran out.
abbrev pub IsDoneOrShort : Status → Type 0
IsDoneOrShort status = (status ≡ Done) ⊎ (status ≡ OutOfMemory)

-- All was done, or the input has a wrong piece, or memory ran out.
abbrev pub IsReadOrShort : Status → Type 0
IsReadOrShort status = (status ≡ Done) ⊎ (status ≡ BadFrame) ⊎ (status ≡ OutOfMemory)
