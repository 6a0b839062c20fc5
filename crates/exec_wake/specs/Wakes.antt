-- Whom wakers wake. Cited by `wake_all`, `wake_parked` and `turn_parked`.
use Rattle.std.specs.Prelude.{ℕ, ◌≡◌, List, [], ◌∷◌, ◌++◌, Option, option_map}
use Rattle.core_exec.specs.declared.table.Task.{Task}
use Rattle.core_exec.specs.Marks.{has_number, with_mark}
use Rattle.driver_core.specs.declared.driver.Parked.{Parked}
use Rattle.wake_core.specs.declared.waker.Waker.{Waker}

-- The tasks of wakers, in order.
abbrev pub tasks_in : List Waker → List ℕ
tasks_in [] = []
tasks_in (waker ∷ wakers) = waker.task ∷ tasks_in wakers

-- The tasks of the wakers that a park drained, in the order of its two lists.
abbrev pub drained_in : Parked → List ℕ
drained_in parked = tasks_in parked.remote.first ++ tasks_in parked.remote.again

-- The tasks that a park names: those of the wakers that it drained, and then those of the driver's turn.
abbrev pub named_by : Parked → List ℕ
named_by parked = drained_in parked ++ parked.turned.woken

-- The unfinished tasks of some numbers are marked, and each other task is as it was.
abbrev pub MarksTasks : {J : Type 0} → List ℕ → (ℕ → Option (Task J)) → (ℕ → Option (Task J)) → Type 0
MarksTasks numbers was is = (s : ℕ) → is s ≡ option_map (with_mark (has_number s numbers)) (was s)
