-- Where a task is: unfinished, or behind it an output that wasn't taken. Cited by `Exec`.
use Rattle.std.specs.Prelude.{ℕ, ◌≡◌, ◌≤◌, ◌+◌, ◌==◌, cond, is_some, List, Option}
use Rattle.std.specs.List.{count_by}
use Rattle.core_exec.specs.declared.table.Task.{Task}

-- How many of some outputs are those of a task.
abbrev pub outputs_at : {O : Type 0} → List (ℕ × O) → ℕ → ℕ
outputs_at outputs t = count_by (λ o. o.0 == t) outputs

-- In how many places a task is: with the unfinished ones, and with its outputs.
abbrev pub places : {J O : Type 0} → (ℕ → Option (Task J)) → List (ℕ × O) → ℕ → ℕ
places tasks outputs t = outputs_at outputs t + cond (is_some (tasks t)) 1 0

-- Each task is in one place at most, and outputs are those of tasks that were spawned.
pub record ArePlaced {J O : Type 0} (spawned : ℕ) (tasks : ℕ → Option (Task J)) (outputs : List (ℕ × O)) : Type 0 where
  pub once : (t : ℕ) → places tasks outputs t ≤ 1
  pub of_spawned : (t : ℕ) → spawned ≤ t → outputs_at outputs t ≡ 0

-- Each task is in as many places as before.
abbrev pub StayPlaced : {J O : Type 0} → (ℕ → Option (Task J)) → List (ℕ × O) → (ℕ → Option (Task J)) → List (ℕ × O) → Type 0
StayPlaced was before is now = (t : ℕ) → places is now t ≡ places was before t
