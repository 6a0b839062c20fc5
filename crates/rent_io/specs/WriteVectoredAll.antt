-- The bytes of a vector of buffers that are still to be written.
use Rattle.std.specs.Prelude.{ℕ, ◌≡◌, ◌<◌, List, [], length, drop, slice_index_or, Option, None, Some}
use Rattle.std.specs.List.{concat}

-- The bytes of parts from a place of one of them on.
abbrev pub rest_from : List (List ℕ) → ℕ → ℕ → List ℕ
rest_from parts part sent = drop sent (concat (drop part parts))

-- A place with a byte, from which on the same bytes are to be written as from another.
pub record IsPlace (parts : List (List ℕ)) (part sent k at : ℕ) : Type 0 where
  pub there : k < length parts
  pub less : at < length (slice_index_or parts k [])
  pub same : rest_from parts k at ≡ rest_from parts part sent

-- The next such place, if any.
abbrev pub NextPlace : List (List ℕ) → ℕ → ℕ → Option (ℕ × ℕ) → Type 0
NextPlace parts part sent None = rest_from parts part sent ≡ []
NextPlace parts part sent (Some place) = IsPlace parts part sent place.0 place.1

-- A part from a place on is the vector, the part's number and the place.
pub record PartCut (T : Type 0) : Type 0 where
  pub inner : T
  pub part : ℕ
  pub begin : ℕ
