-- The deadlines that are to come. Cited by `Deadlines`.
use Rattle.std.specs.Prelude.{ℕ, ◌≡◌, ◌≤◌, ◌⊎◌, Bool, true, Option, Some, None}
use Rattle.std.specs.Ordering.{nat_cmp, ordering_then}
use Rattle.std.specs.declared.cmp.Ordering.{Ordering}
use Rattle.std.specs.BTreeSet as set
use Rattle.core_exec.specs.declared.deadlines.Deadlines.{Deadlines}

-- Deadlines are in order, and those of one moment in the order of their tasks.
abbrev pub pair_cmp : (ℕ × ℕ) → (ℕ × ℕ) → Ordering
pair_cmp x y = ordering_then (nat_cmp x.0 y.0) (nat_cmp x.1 y.1)

-- A task's deadline is set.
abbrev pub is_set : Deadlines → ℕ → ℕ → Bool
is_set deadlines at t = set.contains pair_cmp deadlines.set (at, t)

-- A task's deadline is set, if it has one.
abbrev pub IsSetAt : Deadlines → ℕ → Option ℕ → Type 0
IsSetAt deadlines t (Some at) = is_set deadlines at t ≡ true
IsSetAt deadlines t None = Unit {0}

-- Each deadline that was set is set still.
abbrev pub KeepsSet : Deadlines → Deadlines → Type 0
KeepsSet old new = (d s : ℕ) → is_set old d s ≡ true → is_set new d s ≡ true

-- Each deadline that was set is set still, but for those of a task that have come.
abbrev pub LeavesSet : ℕ → ℕ → Deadlines → Deadlines → Type 0
LeavesSet now t old new = (d s : ℕ) → is_set old d s ≡ true → (is_set new d s ≡ true) ⊎ ((d ≤ now) × (s ≡ t))
