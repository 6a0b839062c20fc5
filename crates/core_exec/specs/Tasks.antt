-- The unfinished tasks of an executor, by number. Cited by `Table`.
use Rattle.std.specs.Prelude.{ℕ, nat_eq, ◌≡◌, ◌≢◌, ◌+◌, Bool, true, false, not, cond, List, [], ◌∷◌, Option, Some, None, IsSome}
use Rattle.std.specs.HashMap as map
use Rattle.core_exec.specs.declared.table.Task.{Task}
use Rattle.core_exec.specs.declared.table.Flags.{Flags}
use Rattle.core_exec.specs.declared.table.Table.{Table}
use Rattle.core_exec.specs.declared.table.Taken.{Taken}

-- The unfinished task of a number.
abbrev pub task_at : {J : Type 0} → Table J → ℕ → Option (Task J)
task_at table t = map.get nat_eq table.map t

-- The job of a task that was looked up.
abbrev pub job_in : {J : Type 0} → Option (Task J) → Option J
job_in (Some task) = task.job
job_in None = None

abbrev pub job_at : {J : Type 0} → Table J → ℕ → Option J
job_at table t = job_in (task_at table t)

-- Whether a task that was looked up is marked, its deadline, and whether it was canceled.
abbrev pub mark_of : {J : Type 0} → Option (Task J) → Bool
mark_of (Some task) = task.marked
mark_of None = false

abbrev pub deadline_of : {J : Type 0} → Option (Task J) → Option ℕ
deadline_of (Some task) = task.deadline
deadline_of None = None

abbrev pub canceled_of : {J : Type 0} → Option (Task J) → Bool
canceled_of (Some task) = task.canceled
canceled_of None = false

-- A count of a job that was looked up, and its aim.
abbrev pub count_in : {J : Type 0} → (J → ℕ) → Option J → ℕ
count_in count (Some job) = count job
count_in count None = 0

abbrev pub aim_in : {J : Type 0} → (J → List ℕ) → Option J → List ℕ
aim_in aim (Some job) = aim job
aim_in aim None = []

-- Each of some jobs, by number, fits the driver as the task of its number, and no two have an operation in common.
pub record AreSound {D J : Type 0} (fits : D → ℕ → J → Type 0) (apart : J → J → Type 0) (driver : D) (jobs : ℕ → Option J) : Type 0 where
  pub all_fit : (t : ℕ) (job : J) → jobs t ≡ Some job → fits driver t job
  pub all_apart : (s t : ℕ) (one other : J) → s ≢ t → jobs s ≡ Some one → jobs t ≡ Some other → apart one other

-- Each task without a mark waits in the driver, which names it when it can go on: so none is forgotten.
abbrev pub AreWaiting : {D J : Type 0} → (D → ℕ → J → Type 0) → D → (ℕ → Option (Task J)) → Type 0
AreWaiting {J = J} waits driver tasks = (t : ℕ) (job : J) → mark_of (tasks t) ≡ false → job_in (tasks t) ≡ Some job → waits driver t job

-- A job fits the driver as the task of a number, and has no operation with one of some jobs.
pub record IsApart {D J : Type 0} (fits : D → ℕ → J → Type 0) (apart : J → J → Type 0) (driver : D) (jobs : ℕ → Option J)
    (t : ℕ) (job : J) : Type 0 where
  pub fit : fits driver t job
  pub from : (s : ℕ) (other : J) → jobs s ≡ Some other → apart job other

-- Each task has its job.
pub record HaveJobs {J : Type 0} (tasks : ℕ → Option (Task J)) : Type 0 where
  pub has_job : (t : ℕ) → IsSome (tasks t) → IsSome (job_in (tasks t))

-- A task without a mark counts one.
abbrev pub cost : {J : Type 0} → Option (Task J) → ℕ
cost (Some task) = cond task.marked 0 1
cost None = 0

-- There is a task that was looked up, and it has no mark.
abbrev pub is_unmarked : {J : Type 0} → Option (Task J) → Bool
is_unmarked (Some task) = not task.marked
is_unmarked None = false

-- How many of some entries are tasks without a mark.
abbrev pub unmarked : {J : Type 0} → List (ℕ × Task J) → ℕ
unmarked [] = 0
unmarked (e ∷ es) = cost (Some e.1) + unmarked es

-- How many unfinished tasks have no mark.
abbrev pub unmarked_in : {J : Type 0} → Table J → ℕ
unmarked_in table = unmarked table.map.entries

-- A task with a mark; without its job; with a job again.
abbrev pub marked : {J : Type 0} → Task J → Task J
marked task = record task { marked = true }

abbrev pub without_job : {J : Type 0} → Task J → Task J
without_job task = record task { job = None }

abbrev pub with_job : {J : Type 0} → J → Bool → Bool → Task J → Task J
with_job job marked canceled task = record task { job = Some job; marked = marked; canceled = canceled }

-- A marked task, with its job or while that is taken out.
abbrev pub marked_task : {J : Type 0} → Option J → Option ℕ → Bool → Task J
marked_task job deadline canceled = record { job = job; marked = true; deadline = deadline; canceled = canceled }

-- The job of a marked task was taken out.
pub record TakesMarked {J : Type 0} (was is : Option (Task J)) (taken : Taken J) : Type 0 where
  pub with_it : was ≡ Some (marked_task (Some taken.job) taken.deadline taken.canceled)
  pub without : is ≡ Some (marked_task None taken.deadline taken.canceled)

-- What is asked of a task that was looked up.
abbrev pub FlagsOf : {J : Type 0} → Option (Task J) → Option Flags → Type 0
FlagsOf (Some task) (Some flags) = (flags.marked ≡ task.marked) × (flags.deadline ≡ task.deadline) × (flags.canceled ≡ task.canceled)
FlagsOf (Some task) None = ⊥
FlagsOf None (Some flags) = ⊥
FlagsOf None None = Unit {0}
