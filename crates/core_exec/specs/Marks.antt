-- Which tasks are marked, and which deadlines are set. Cited by `Ready`.
use Rattle.std.specs.Prelude.{ℕ, ◌≡◌, ◌≤◌, ◌+◌, ◌⊎◌, ◌==◌, ◌||◌, ◌&&◌, not, nat_le, Bool, true, false, List, [], ◌∷◌, Option, Some}
use Rattle.std.specs.Prelude.{None, is_some, option_map}
use Rattle.std.specs.List.{Contains}
use Rattle.std.specs.Vec.{vec_len, vec_capacity}
use Rattle.core_exec.specs.declared.table.Task.{Task}
use Rattle.core_exec.specs.declared.deadlines.Deadlines.{Deadlines}
use Rattle.core_exec.specs.declared.ready.Ready.{Ready}
use Rattle.core_exec.specs.Tasks.{task_at, job_in, mark_of, deadline_of, canceled_of, unmarked_in}
use Rattle.core_exec.specs.Deadlines.{is_set}

-- A number is in a list.
abbrev pub has_number : ℕ → List ℕ → Bool
has_number n [] = false
has_number n (m ∷ numbers) = n == m || has_number n numbers

-- A task with a mark too, or as it is.
abbrev pub with_mark : {J : Type 0} → Bool → Task J → Task J
with_mark mark task = record task { marked = task.marked || mark }

-- A task with another deadline or none, or as it is.
abbrev pub dated : {J : Type 0} → Bool → Option ℕ → Task J → Task J
dated true deadline task = record task { deadline = deadline }
dated false deadline task = task

-- What another deadline leaves of a task that was looked up.
pub record KeepsButDeadline {J : Type 0} (was is : Option (Task J)) : Type 0 where
  pub there : is_some is ≡ is_some was
  pub job : job_in is ≡ job_in was
  pub mark : mark_of is ≡ mark_of was
  pub canceled : canceled_of is ≡ canceled_of was

-- A deadline has come.
abbrev pub has_come : ℕ → Option ℕ → Bool
has_come now (Some at) = nat_le at now
has_come now None = false

-- A task is late: its deadline has come, and it wasn't canceled.
abbrev pub is_late : {J : Type 0} → ℕ → Option (Task J) → Bool
is_late now task = not (canceled_of task) && has_come now (deadline_of task)

-- The list has each task that is marked.
abbrev pub Covers : {J : Type 0} → (ℕ → Option (Task J)) → List ℕ → Type 0
Covers tasks marks = (s : ℕ) → mark_of (tasks s) ≡ true → Contains marks s

-- The deadline of each task that wasn't canceled is set, or it came by a moment, and the task is marked.
abbrev pub AreSet : {J : Type 0} → ℕ → (ℕ → Option (Task J)) → Deadlines → Type 0
AreSet now tasks deadlines = (s d : ℕ) → canceled_of (tasks s) ≡ false → deadline_of (tasks s) ≡ Some d
    → (is_set deadlines d s ≡ true) ⊎ ((mark_of (tasks s) ≡ true) × (d ≤ now))

-- Each marked task is in the list, and the list has room for those that aren't marked.
pub record AreListed {J : Type 0} (ready : Ready J) : Type 0 where
  pub covers : Covers (task_at ready.table) ready.marks.items
  pub room : vec_len ready.marks + unmarked_in ready.table ≤ vec_capacity ready.marks

-- The deadline of each task that wasn't canceled is set, or it has come, and the task is marked.
abbrev pub HasDeadlines : {J : Type 0} → Ready J → Type 0
HasDeadlines ready = AreSet ready.moment (task_at ready.table) ready.deadlines

-- A task is as it was, or it is late, and marked now.
abbrev pub MarkedLate : {J : Type 0} → ℕ → Option (Task J) → Option (Task J) → Type 0
MarkedLate now was is = (is ≡ was) ⊎ ((is_late now was ≡ true) × (is ≡ option_map (with_mark true) was))

-- The tasks of a turn, of which the ready ones are marked: those that were marked, those of some numbers, and those that are late.
abbrev pub ready_tasks : {J : Type 0} → ℕ → List ℕ → (ℕ → Option (Task J)) → ℕ → Option (Task J)
ready_tasks now named tasks s = option_map (with_mark (has_number s named || is_late now (tasks s))) (tasks s)
