-- Handles whose report is due. Cited by `Due`.
use Rattle.std.specs.Prelude.{ℕ, suc, ◌≡◌, ◌≤◌, Bool, true, false, not, ◌&&◌, nat_lt, if◌then◌else◌}
use Rattle.std.specs.Prelude.{List, [], ◌∷◌, ◌++◌, length, get_or}
use Rattle.machine.specs.Lists.{has_number}

-- The handles that are due, in the order in which they became so, and of how many handles each can be.
pub record Duty : Type 0 where
  pub handles : List ℕ
  pub count : ℕ

-- What is due once a handle is: nothing changes where it was already, or can't be.
abbrev pub with_due : Duty → ℕ → Duty
with_due duty h =
    if nat_lt h duty.count && not (has_number h duty.handles) then record duty { handles = duty.handles ++ h ∷ [] } else duty

-- What is due once each of these handles is.
abbrev pub with_each_due : Duty → List ℕ → Duty
with_each_due duty [] = duty
with_each_due duty (h ∷ handles) = with_each_due (with_due duty h) handles

-- How many of these are true.
abbrev pub trues : List Bool → ℕ
trues [] = 0
trues (true ∷ marks) = suc (trues marks)
trues (false ∷ marks) = trues marks

-- What the body keeps true: just the handles that are due are marked, each is in the list once, and there is room for all.
pub record IsMarked (handles : List ℕ) (marks : List Bool) (room : ℕ) : Type 0 where
  pub marked : (h : ℕ) → get_or marks h false ≡ has_number h handles
  pub once : length handles ≡ trues marks
  pub fits : length marks ≤ room
