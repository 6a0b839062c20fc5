-- Where the sink of a call is while it is lent.
use Rattle.std.specs.Prelude.{ℕ, ◌≡◌, ◌≤◌, ◌<◌, Bool, IsTrue, List, ◌++◌, length, drop}
use Rattle.rent_io.specs.Counts.{Rose}

-- Where a sink is: it is the one that was lent, and what it took is behind what it had. A failure of a write or a flush is counted.
pub record SinkAt (tells : Bool) (before : List ℕ) (faults place : ℕ) (taken : List ℕ) (later name failures : ℕ) : Type 0 where
  pub same : name ≡ place
  pub order : faults ≤ later
  pub rose : 0 < failures → Rose faults later
  pub calm : failures ≡ 0 → IsTrue tells → later ≡ faults
  pub grew : IsTrue tells → taken ≡ before ++ drop (length before) taken
