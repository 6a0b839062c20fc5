-- A range of a buffer that can only be read. Each clause on a `Slice` cites it.
use Rattle.std.specs.Prelude.{ℕ, ◌≤◌, List, length}

-- A slice is the buffer inside, and where its range begins and ends.
pub record Cut (Inside : Type 0) : Type 0 where
  pub inner : Inside
  pub begin : ℕ
  pub end : ℕ

-- Two numbers are a range of some bytes: in order, and ending among them.
pub record IsWithin (bytes : List ℕ) (from upto : ℕ) : Type 0 where
  pub ordered : from ≤ upto
  pub ends : upto ≤ length bytes
