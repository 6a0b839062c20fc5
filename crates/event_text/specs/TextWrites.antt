-- What a write that failed leaves.
use Rattle.std.specs.Prelude.{◌≡◌, ℕ, List, ◌++◌}

-- A list begins with another.
pub record Starts (front all : List ℕ) : Type 0 where
  pub more : List ℕ
  pub is : all ≡ front ++ more
