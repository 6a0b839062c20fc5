-- What a turn makes of one ready task. Cited by `visit_task`.
use Rattle.std.specs.Prelude.{ℕ, ◌≡◌, ◌+◌, ◌++◌, Bool, true, false, List, [], ◌∷◌, Option, None}
use Rattle.core_exec.specs.declared.table.Task.{Task}
use Rattle.core_exec.specs.declared.visit.Visit.{Visit}
use Rattle.core_exec.specs.declared.visit.Visit.TheVariants.{Done, Pending, Short, Refused}
use Rattle.core_exec.specs.Tasks.{mark_of, aim_in}
use Rattle.core_exec.specs.Polls.{IsPolled}

-- It is canceled if it is late, and polled once: it is done, or its mark goes. Where memory ran out it keeps its mark; where that was at
-- its cancel, it is as it was.
abbrev pub VisitsTask : {J : Type 0} → (J → ℕ) → (J → ℕ) → (J → List ℕ) → Bool → Option (Task J) → Option (Task J) → Visit → Type 0
VisitsTask polls cancels aim late was now Done = now ≡ None
VisitsTask polls cancels aim late was now Pending = IsPolled polls cancels aim late was now × (mark_of now ≡ false)
VisitsTask polls cancels aim late was now Short = IsPolled polls cancels aim late was now × (mark_of now ≡ true)
VisitsTask polls cancels aim late was now Refused = (now ≡ was) × (late ≡ true)

-- A task's output joins the others, with its number, and meets its aim.
pub record OneOutput {J O : Type 0} (aim : J → List ℕ) (meets : List ℕ → O → Type 0) (t : ℕ) (was : Option J) (before now : List (ℕ
    × O)) : Type 0 where
  pub out : O
  pub added : now ≡ before ++ (t, out) ∷ []
  pub meet : meets (aim_in aim was) out

abbrev pub GivesOutput : {J O : Type 0} → (J → List ℕ) → (List ℕ → O → Type 0) → ℕ → Option J → List (ℕ × O) → List (ℕ × O) → Visit → Type 0
GivesOutput aim meets t was before now Done = OneOutput aim meets t was before now
GivesOutput aim meets t was before now Pending = now ≡ before
GivesOutput aim meets t was before now Short = now ≡ before
GivesOutput aim meets t was before now Refused = now ≡ before

-- One more task has no mark where its mark went.
abbrev pub MarksAfter : Visit → ℕ → ℕ → Type 0
MarksAfter Done were are = are ≡ were
MarksAfter Pending were are = are ≡ were + 1
MarksAfter Short were are = are ≡ were
MarksAfter Refused were are = are ≡ were
