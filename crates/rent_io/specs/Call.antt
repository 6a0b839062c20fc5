-- What a call does to a source and a sink that it is lent: how they were before it, and how they are after it.
use Rattle.std.specs.Prelude.{ℕ, ◌≡◌, ◌≤◌, ◌<◌, Bool, List, length, drop}

-- What a source had left and has left, and its count of faults before and after.
pub record Reading : Type 0 where
  pub left : List ℕ
  pub rest : List ℕ
  pub faults : ℕ
  pub later : ℕ

-- What a sink had taken and has taken, its count of faults before and after, and whether it is flushed.
pub record Writing : Type 0 where
  pub taken : List ℕ
  pub now : List ℕ
  pub faults : ℕ
  pub later : ℕ
  pub flushed : Bool

-- What a call did to a source.
abbrev pub reading : {S : Type 0} → (S → List ℕ) → (S → ℕ) → S → S → Reading
reading left faults old new = record { left = left old; rest = left new; faults = faults old; later = faults new }

-- What a call did to a sink.
abbrev pub writing : {K : Type 0} → (K → List ℕ) → (K → ℕ) → (K → Bool) → K → K → Writing
writing taken faults flushed old new =
    record { taken = taken old; now = taken new; faults = faults old; later = faults new; flushed = flushed new }

-- So many bytes were taken of what was left.
pub record Took (left rest : List ℕ) (n : ℕ) : Type 0 where
  pub there : n ≤ length left
  pub taken : rest ≡ drop n left

-- More bytes were taken than this many.
pub record TookMore (bound : ℕ) (left rest : List ℕ) : Type 0 where
  pub count : ℕ
  pub many : bound < count
  pub there : count ≤ length left
  pub taken : rest ≡ drop count left
