-- One step of a turn, to the task of one number. Cited by `poll_at`.
use Rattle.std.specs.Prelude.{ℕ, ◌≡◌, ◌++◌, Bool, true, false, cond, List, [], ◌∷◌, Option, Some, None}
use Rattle.core_exec.specs.declared.table.Task.{Task}
use Rattle.core_exec.specs.declared.visit.Visit.{Visit}
use Rattle.core_exec.specs.declared.visit.Visited.{Visited}
use Rattle.core_exec.specs.declared.visit.Visit.TheVariants.{Done, Pending, Short, Refused}
use Rattle.core_exec.specs.Tasks.{mark_of}
use Rattle.core_exec.specs.Marks.{is_late}
use Rattle.core_exec.specs.Visits.{VisitsTask, GivesOutput, MarksAfter}

-- The list, with a number behind it or as it is.
abbrev pub with_number : Bool → ℕ → List ℕ → List ℕ
with_number more t numbers = cond more (numbers ++ t ∷ []) numbers

-- A ready task was polled; it is done; memory ran out at it.
abbrev pub polls_at : Visit → Bool
polls_at Done = true
polls_at Pending = true
polls_at Short = true
polls_at Refused = false

abbrev pub ends_at : Visit → Bool
ends_at Done = true
ends_at Pending = false
ends_at Short = false
ends_at Refused = false

abbrev pub stops_at : Visit → Bool
stops_at Done = false
stops_at Pending = false
stops_at Short = true
stops_at Refused = true

-- The same of a task that may not have been ready.
abbrev pub is_polled : Option Visit → Bool
is_polled (Some visit) = polls_at visit
is_polled None = false

abbrev pub is_done : Option Visit → Bool
is_done (Some visit) = ends_at visit
is_done None = false

abbrev pub is_stopped : Option Visit → Bool
is_stopped (Some visit) = stops_at visit
is_stopped None = false

-- How the part of a task ended that may not have been ready.
abbrev pub visit_in : Option Visited → Option Visit
visit_in (Some visited) = Some visited.visit
visit_in None = None

-- A task without a mark stays as it is, and a marked one has its part of the turn.
abbrev pub StepsTask : {J : Type 0} → (J → ℕ) → (J → ℕ) → (J → List ℕ) → ℕ → Option (Task J) → Option (Task J) → Option Visit → Type 0
StepsTask polls cancels aim now was is (Some visit) = (mark_of was ≡ true) × VisitsTask polls cancels aim (is_late now was) was is visit
StepsTask polls cancels aim now was is None = (mark_of was ≡ false) × (is ≡ was)

abbrev pub StepsOutput : {J O : Type 0} → (J → List ℕ) → (List ℕ → O → Type 0) → ℕ → Option J → List (ℕ × O) → List (ℕ × O)
    → Option Visit → Type 0
StepsOutput aim meets t was before now (Some visit) = GivesOutput aim meets t was before now visit
StepsOutput aim meets t was before now None = now ≡ before

abbrev pub MarksStep : Option Visit → ℕ → ℕ → Type 0
MarksStep (Some visit) were are = MarksAfter visit were are
MarksStep None were are = are ≡ were
