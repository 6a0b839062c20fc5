-- An executor, by its unfinished tasks and its outputs. Cited by `Exec`.
use Rattle.std.specs.Prelude.{ℕ, ◌≡◌, ◌≢◌, ◌≤◌, ◌<◌, ◌+◌, true, false, List, length, Option, Some, None, IsSome}
use Rattle.std.specs.List.{All}
use Rattle.std.specs.Vec.{vec_len, vec_capacity}
use Rattle.std.specs.HashMap.{hash_map_len}
use Rattle.core_exec.specs.declared.table.Task.{Task}
use Rattle.core_exec.specs.declared.exec.Exec.{Exec}
use Rattle.core_exec.specs.declared.turn.Ran.{Ran}
use Rattle.core_exec.specs.Tasks.{AreSound, AreWaiting, HaveJobs, task_at, job_at, job_in, aim_in}
use Rattle.core_exec.specs.Marks.{AreListed, HasDeadlines, ready_tasks}
use Rattle.core_exec.specs.Numbers.{AreNumbers}
use Rattle.core_exec.specs.Places.{ArePlaced, StayPlaced}
use Rattle.core_exec.specs.Turns.{AddsOutputs, AreCounted, Turns}

-- The unfinished task of a number; its job; how many are unfinished.
abbrev pub tasks_of : {D J O : Type 0} → Exec D J O → ℕ → Option (Task J)
tasks_of exec = task_at exec.ready.table

abbrev pub jobs_of : {D J O : Type 0} → Exec D J O → ℕ → Option J
jobs_of exec = job_at exec.ready.table

abbrev pub left_of : {D J O : Type 0} → Exec D J O → ℕ
left_of exec = hash_map_len exec.ready.table.map

-- The outputs that weren't taken, each with its task.
abbrev pub outputs_of : {D J O : Type 0} → Exec D J O → List (ℕ × O)
outputs_of exec = exec.outputs.items

-- How many tasks were spawned, and how many turns were made.
abbrev pub spawned_of : {D J O : Type 0} → Exec D J O → ℕ
spawned_of exec = exec.spawned

abbrev pub turns_of : {D J O : Type 0} → Exec D J O → ℕ
turns_of exec = exec.turns

-- The moment of the last turn.
abbrev pub moment_of : {D J O : Type 0} → Exec D J O → ℕ
moment_of exec = exec.ready.moment

-- What each call but a turn leaves: the driver, how many turns were made, and the moment of the last.
pub record KeepsDriver {D J O : Type 0} (old new : Exec D J O) : Type 0 where
  pub same_driver : new.driver ≡ old.driver
  pub same_turns : turns_of new ≡ turns_of old
  pub same_moment : moment_of new ≡ moment_of old

-- Each unfinished job fits the driver as its task, and no two have an operation in common.
abbrev pub IsSound : {D J O : Type 0} → (D → ℕ → J → Type 0) → (J → J → Type 0) → Exec D J O → Type 0
IsSound fits apart exec = AreSound fits apart exec.driver (jobs_of exec)

-- Each unfinished task is marked, or waits in the driver.
abbrev pub NoneForgotten : {D J O : Type 0} → (D → ℕ → J → Type 0) → Exec D J O → Type 0
NoneForgotten waits exec = AreWaiting waits exec.driver (tasks_of exec)

-- The tasks of a turn, of which the ready ones are marked.
abbrev pub ready_of : {D J O : Type 0} → ℕ → List ℕ → Exec D J O → ℕ → Option (Task J)
ready_of now named exec = ready_tasks now named (tasks_of exec)

-- What a turn makes of all tasks, as its answer says.
abbrev pub TurnsTo : {D J O : Type 0} → (J → ℕ) → (J → ℕ) → (J → List ℕ) → ℕ → List ℕ → Exec D J O → Exec D J O → Ran → Type 0
TurnsTo polls cancels aim now named old new ran =
    Turns polls cancels aim now (ready_of now named old) (tasks_of new) ran.polled.items ran.canceled.items ran.done.items ran.stopped

-- The outputs of those that are done join the others.
abbrev pub OutputsOf : {D J O : Type 0} → (J → List ℕ) → (List ℕ → O → Type 0) → (ℕ → Option (Task J)) → Exec D J O → Exec D J O → Ran
    → Type 0
OutputsOf aim meets was old new ran = AddsOutputs aim meets was ran.done.items (outputs_of old) (outputs_of new)

-- Each task is in as many places as before, and there are as many unfinished tasks and outputs in all: none is lost, and none comes twice.
abbrev pub KeepsPlaces : {D J O : Type 0} → Exec D J O → Exec D J O → Type 0
KeepsPlaces old new = StayPlaced (tasks_of old) (outputs_of old) (tasks_of new) (outputs_of new)
    × (length (outputs_of new) + left_of new ≡ length (outputs_of old) + left_of old)

-- What each call keeps: the marked tasks are found, the deadlines that are to come, and all tasks in order; each task has its job, which
-- was polled once a turn at most, and its cancel was asked for once where the task was canceled, and else never; its number was given; its
-- output has room; and it is unfinished, or has one output that wasn't taken, or none.
pub record Stands {D J O : Type 0} (polls cancels : J → ℕ) (exec : Exec D J O) : Type 0 where
  pub listed : AreListed exec.ready
  pub deadlines : HasDeadlines exec.ready
  pub known : AreNumbers (task_at exec.ready.table) exec.ready.numbers
  pub jobs : HaveJobs (task_at exec.ready.table)
  pub counted : AreCounted polls cancels exec.turns (task_at exec.ready.table)
  pub numbers : (t : ℕ) → IsSome (task_at exec.ready.table t) → t < exec.spawned
  pub room : vec_len exec.outputs + hash_map_len exec.ready.table.map ≤ vec_capacity exec.outputs
  pub placed : ArePlaced exec.spawned (task_at exec.ready.table) exec.outputs.items

-- Each unfinished job has the aim of its number, and each output meets that of its task.
pub record HasAims {J O : Type 0} (aim : J → List ℕ) (meets : List ℕ → O → Type 0) (aims : ℕ → List ℕ)
    (tasks : ℕ → Option (Task J)) (outputs : List (ℕ × O)) : Type 0 where
  pub of_jobs : (t : ℕ) → IsSome (tasks t) → aim_in aim (job_in (tasks t)) ≡ aims t
  pub of_outputs : All (λ o. meets (aims o.0) o.1) outputs

abbrev pub MeetAims : {D J O : Type 0} → (J → List ℕ) → (List ℕ → O → Type 0) → (ℕ → List ℕ) → Exec D J O → Type 0
MeetAims aim meets aims exec = HasAims aim meets aims (tasks_of exec) (outputs_of exec)

-- A fresh task: the next turn polls it.
abbrev pub fresh : {J : Type 0} → J → Option ℕ → Task J
fresh job deadline = record { job = Some job; marked = true; deadline = deadline; canceled = false }

-- A spawn adds a fresh task of the next number, and leaves all else.
pub record Spawns {D J O : Type 0} (job : J) (deadline : Option ℕ) (old new : Exec D J O) (t : ℕ) : Type 0 where
  pub next : t ≡ spawned_of old
  pub this : tasks_of new t ≡ Some (fresh job deadline)
  pub one_more : (spawned_of new ≡ spawned_of old + 1) × (left_of new ≡ left_of old + 1)

-- An unfinished task is taken out: the one of the lowest number, with its job. Each other stays.
pub record TakesOut {D J O : Type 0} (old new : Exec D J O) (t : ℕ) (job : J) : Type 0 where
  pub own : jobs_of old t ≡ Some job
  pub lowest : (s : ℕ) → IsSome (tasks_of old s) → t ≤ s
  pub gone : tasks_of new t ≡ None
  pub rest : (s : ℕ) → s ≢ t → tasks_of new s ≡ tasks_of old s
  pub one_fewer : left_of new + 1 ≡ left_of old
