-- How a ready job's part of a turn ended, and what its task is then. Cited by `visit`.
use Rattle.std.specs.Prelude.{ℕ, suc, ◌≡◌, ◌+◌, ◌++◌, ◌||◌, Bool, true, false, cond, List, [], ◌∷◌, Option, None, option_map}
use Rattle.core_exec.specs.declared.table.Task.{Task}
use Rattle.core_exec.specs.declared.visit.Answer.{Answer}
use Rattle.core_exec.specs.declared.visit.Answer.TheVariants.{Done, Pending, Short, Refused}
use Rattle.core_exec.specs.declared.visit.Visit.{Visit}
use Rattle.core_exec.specs.declared.visit.Visit.TheVariants as visit
use Rattle.core_exec.specs.Tasks.{with_job}

-- The cancel of a job was asked for once: its counts say so, and what it is for is as before.
pub record IsAsked {J : Type 0} (polls cancels : J → ℕ) (aim : J → List ℕ) (job next : J) : Type 0 where
  pub polled : polls next ≡ polls job
  pub asks : cancels next ≡ cancels job + 1
  pub same_aim : aim next ≡ aim job

-- So it is if the job is late, and else it is as it was.
abbrev pub AsksJob : {J : Type 0} → (J → ℕ) → (J → ℕ) → (J → List ℕ) → Bool → J → J → Type 0
AsksJob polls cancels aim true job next = IsAsked polls cancels aim job next
AsksJob polls cancels aim false job next = next ≡ job

-- A job was polled once, and its cancel was asked for once or not: its counts say so, and what it is for is as before.
pub record IsVisited {J : Type 0} (polls cancels : J → ℕ) (aim : J → List ℕ) (asked : Bool) (job next : J) : Type 0 where
  pub polled : polls next ≡ suc (polls job)
  pub asks : cancels next ≡ cancels job + cond asked 1 0
  pub same_aim : aim next ≡ aim job

-- A job is done with an output that meets what it is for, or was polled; where memory ran out at its cancel, it is as it was.
abbrev pub AnswersJob : {J O : Type 0} → (J → ℕ) → (J → ℕ) → (J → List ℕ) → (List ℕ → O → Type 0) → Bool → J → Answer J O → Type 0
AnswersJob polls cancels aim meets late job (Done out) = meets (aim job) out
AnswersJob polls cancels aim meets late job (Pending next) = IsVisited polls cancels aim late job next
AnswersJob polls cancels aim meets late job (Short next) = IsVisited polls cancels aim late job next
AnswersJob polls cancels aim meets late job (Refused next) = (next ≡ job) × (late ≡ true)

-- A fact of the job that goes on, if it isn't done.
abbrev pub IfKept : {J O : Type 0} → Answer J O → (J → Type 0) → Type 0
IfKept (Done out) P = Unit {0}
IfKept (Pending next) P = P next
IfKept (Short next) P = P next
IfKept (Refused next) P = P next

-- A fact of the job that is pending, if it is.
abbrev pub IfPends : {J O : Type 0} → Answer J O → (J → Type 0) → Type 0
IfPends (Done out) P = Unit {0}
IfPends (Pending next) P = P next
IfPends (Short next) P = Unit {0}
IfPends (Refused next) P = Unit {0}

-- How the task's part ended.
abbrev pub visit_of : {J O : Type 0} → Answer J O → Visit
visit_of (Done out) = visit.Done
visit_of (Pending next) = visit.Pending
visit_of (Short next) = visit.Short
visit_of (Refused next) = visit.Refused

-- The task, of which its job was taken out, once it was settled: it is gone where the job is done; and where memory ran out it is marked.
abbrev pub settled_by : {J O : Type 0} → Answer J O → Bool → Bool → Option (Task J) → Option (Task J)
settled_by (Done out) canceled late task = None
settled_by (Pending next) canceled late task = option_map (with_job next false (canceled || late)) task
settled_by (Short next) canceled late task = option_map (with_job next true (canceled || late)) task
settled_by (Refused next) canceled late task = option_map (with_job next true canceled) task

-- The output of a job that is done joins the others, with its task's number.
abbrev pub OutputFor : {J O : Type 0} → Answer J O → ℕ → List (ℕ × O) → List (ℕ × O) → Type 0
OutputFor (Done out) t before now = now ≡ before ++ (t, out) ∷ []
OutputFor (Pending next) t before now = now ≡ before
OutputFor (Short next) t before now = now ≡ before
OutputFor (Refused next) t before now = now ≡ before
