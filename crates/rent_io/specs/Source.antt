-- What a read does.
use Rattle.std.specs.Prelude.{ℕ, ◌≡◌, ◌≤◌, ◌⊎◌, Bool, IsTrue, List, [], length, take, drop, Result, Ok, Err}
use Rattle.rent_io.specs.Counts.{Rose}
use Rattle.rent_io.specs.declared.source.Failed.{Failed}

-- The first n bytes that were left are at the start of the room, and what is left is the rest; n is 0 only where the room is empty or
-- nothing was left.
pub record Gives (left rest room : List ℕ) (size n : ℕ) : Type 0 where
  pub within : n ≤ length left
  pub front : take n room ≡ take n left
  pub after : rest ≡ drop n left
  pub at_end : n ≡ 0 → (size ≡ 0) ⊎ (left ≡ [])

-- A read: Ok n has n at most the size of the room, and where the source tells it is as above and the count of faults is the same;
-- a failure leaves what is left, and the count of faults rose.
abbrev pub ReadsFor : Bool → List ℕ → List ℕ → ℕ → ℕ → List ℕ → List ℕ → Result ℕ Failed → Type 0
ReadsFor tells left rest faults later old new (Ok n) =
    (n ≤ length old) × (faults ≤ later) × (IsTrue tells → Gives left rest new (length old) n) × (IsTrue tells → later ≡ faults)
ReadsFor tells left rest faults later old new (Err failed) = Rose faults later × (faults ≤ later) × (IsTrue tells → rest ≡ left)
