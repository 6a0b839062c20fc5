-- The lines of a text, a task for each of them, and what is written of the tasks. Cited by `run_text`.
use Rattle.std.specs.Prelude.{ℕ, ◌≡◌, ◌+◌, ◌≤◌, ◌<◌, List, [], ◌∷◌, ◌++◌, length, drop, Option, Some, None, IsSome, Result, unwrap_or}
use Rattle.std.specs.List.{All}
use Rattle.std.specs.List.Sorted.{IsNonDecreasingBy}
use Rattle.core_exec.specs.Places.{outputs_at}
use Rattle.event_text.specs.TextLines.{lines}
use Rattle.event_text.specs.TextReads.{bytes_of}
use Rattle.pipe_job.specs.PipeJob.{IsAim}
use Rattle.rent_buf.specs.declared.fault.IoFault.{IoFault}
use Rattle.task_run.specs.Lines.{left_line, result_lines, wrong_line}

-- The bytes that the first of some lines writes, if there is one and it writes some.
abbrev pub first_bytes : List (List ℕ) → Option (List ℕ)
first_bytes [] = None
first_bytes (line ∷ behind) = bytes_of line

-- The bytes that the line of a number writes, counted from 0, if it does.
abbrev pub line_bytes : List ℕ → ℕ → Option (List ℕ)
line_bytes text t = first_bytes (drop t (lines text))

-- The bytes of a task: those that the line of its number writes.
abbrev pub bytes_at : List ℕ → ℕ → List ℕ
bytes_at text t = unwrap_or (line_bytes text t) []

-- Each of the first lines writes bytes.
abbrev pub AreRight : List ℕ → ℕ → Type 0
AreRight text count = (t : ℕ) → t < count → IsSome (line_bytes text t)

-- The line of this number, counted from 1, is the first that writes no bytes.
pub record IsWrongLine (text : List ℕ) (number : ℕ) : Type 0 where
  pub before : ℕ
  pub number_is : number ≡ before + 1
  pub there : number ≤ length (lines text)
  pub right : AreRight text before
  pub wrong : line_bytes text before ≡ None

-- The tasks that are done, each once, ascending, with the bytes of its line or a fault; and how many are left: together they are as many as
-- the lines.
pub record AreResults (text : List ℕ) (results : List (ℕ × Result (List ℕ) IoFault)) (left : ℕ) : Type 0 where
  pub ascending : IsNonDecreasingBy (λ r. r.0) results
  pub once : (t : ℕ) → outputs_at results t ≤ 1
  pub of_lines : (t : ℕ) → length (lines text) ≤ t → outputs_at results t ≡ 0
  pub meet : All (λ r. IsAim (bytes_at text r.0) r.1) results
  pub all : length results + left ≡ length (lines text)

-- The lines that are written of a text each of whose lines writes bytes.
pub record WritesResults (text written : List ℕ) : Type 0 where
  pub right : AreRight text (length (lines text))
  pub results : List (ℕ × Result (List ℕ) IoFault)
  pub left : ℕ
  pub tasks : AreResults text results left
  pub written_is : written ≡ result_lines results ++ left_line left

-- What is written of a text: of a wrong line its number alone.
abbrev pub OutputFor : List ℕ → Option ℕ → List ℕ → Type 0
OutputFor text None written = WritesResults text written
OutputFor text (Some number) written = IsWrongLine text number × (written ≡ wrong_line number)

-- So many jobs were spawned: one for each line, or there is a wrong line.
abbrev pub IsSpawned : List ℕ → ℕ → Option ℕ → Type 0
IsSpawned text spawned None = AreRight text (length (lines text)) × (spawned ≡ length (lines text))
IsSpawned text spawned (Some number) = IsWrongLine text number
