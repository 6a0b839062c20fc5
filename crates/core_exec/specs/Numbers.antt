-- The numbers of the unfinished tasks. Cited by `Numbers` and `Ready`.
use Rattle.std.specs.Prelude.{ℕ, ◌≡◌, Bool, is_some, Option}
use Rattle.std.specs.Ordering.{nat_cmp}
use Rattle.std.specs.BTreeSet as set
use Rattle.core_exec.specs.declared.numbers.Numbers.{Numbers}
use Rattle.core_exec.specs.declared.table.Task.{Task}

-- A number is among them.
abbrev pub is_in : Numbers → ℕ → Bool
is_in numbers t = set.contains nat_cmp numbers.set t

-- They are those of some tasks.
abbrev pub AreNumbers : {J : Type 0} → (ℕ → Option (Task J)) → Numbers → Type 0
AreNumbers tasks numbers = (s : ℕ) → is_in numbers s ≡ is_some (tasks s)
