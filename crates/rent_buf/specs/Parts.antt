-- Parts as a value, and what storing bytes in them makes of them. Each clause on a vector of buffers cites it.
use Rattle.std.specs.Prelude.{ℕ, ◌^◌, ◌<◌, ◌≤◌, nat_le, if◌then◌else◌, List, [], ◌∷◌, ◌++◌, All, length, take, drop, map, sum_by}
use Rattle.std.specs.Prelude.{slice_index_or, slice_set}
use Rattle.std.specs.declared.vec.Vec.{Vec}
use Rattle.rent_buf.specs.Rent.{Rented, with_bytes_of_rent}

-- Parts are vectors with stated totals, in order. A part's total is its room.
abbrev pub Parts : Type 0
Parts = List Rented

-- The bytes of each part.
abbrev pub bytes_of : Parts → List (List ℕ)
bytes_of parts = map (λ part. part.bytes) parts

-- The sum of the rooms.
abbrev pub rooms_of : Parts → ℕ
rooms_of parts = sum_by (λ part. part.total) parts

-- The bounds that parts keep: each part's bytes fit its room, and the rooms' sum fits a `usize`.
pub record IsParts (parts : Parts) : Type 0 where
  pub fit : All (λ part. length part.bytes ≤ part.total) parts
  pub bounded : rooms_of parts < 2 ^ 64

-- The part of a number, or an empty one with no room.
abbrev pub part_at : Parts → ℕ → Rented
part_at parts i = slice_index_or parts i (record { bytes = []; total = 0 })

-- Parts with s in one of them from a place on: what was before it stays, and s is the last.
abbrev pub part_put : Parts → ℕ → ℕ → List ℕ → Parts
part_put parts i at s = slice_set parts i (record (part_at parts i) { bytes = take at (part_at parts i).bytes ++ s })

-- Parts with w in one of them in place of as many bytes, from a place on.
abbrev pub part_overwritten : Parts → ℕ → ℕ → List ℕ → Parts
part_overwritten parts i at w = slice_set parts i (with_bytes_of_rent (part_at parts i) at w)

-- Where a part's room is greater than what is left of s: the part gets that, or all stays where nothing is left.
abbrev pub last_stored : Rented → Parts → List ℕ → Parts
last_stored part parts [] = part ∷ parts
last_stored part parts (byte ∷ s) = record part { bytes = byte ∷ s } ∷ parts

-- Parts with s stored in them: a part whose room is at most the length of s is filled, and the walk goes on with the rest of s.
abbrev pub parts_stored : Parts → List ℕ → Parts
parts_stored [] s = []
parts_stored (part ∷ parts) s =
    if nat_le part.total (length s)
    then record part { bytes = take part.total s } ∷ parts_stored parts (drop part.total s)
    else last_stored part parts s

-- The bytes of each vector.
abbrev pub items_of : {Z : Type 0} → List (Vec ℕ Z) → List (List ℕ)
items_of vectors = map (λ v. v.items) vectors

-- The parts that pairs of room and bytes are.
abbrev pub parts_of_pairs : List (ℕ × List ℕ) → Parts
parts_of_pairs pairs = map (λ pair. record { bytes = pair.1; total = pair.0 }) pairs

-- The parts that lists of bytes are: each has its length for its room.
abbrev pub parts_of_lists : List (List ℕ) → Parts
parts_of_lists lists = map (λ bytes. record { bytes = bytes; total = length bytes }) lists
