-- The first of parts, as a buffer.
use Rattle.std.specs.Prelude.{ℕ, ◌≡◌, ◌+◌, List, [], ◌∷◌, drop, refl}
use Rattle.std.proofs.Common.{ap, sym, zero-add}
use Rattle.rent_buf.specs.Buffer.{Buffer, overwritten}
use Rattle.rent_buf.specs.Rent.{buffer_of_rent}
use Rattle.rent_buf.specs.Parts.{Parts, part_at, part_overwritten}

-- The first part is a Vector, whose total is that part's room and whose range is all of it.
abbrev pub buffer_of_parts : Parts → Buffer
buffer_of_parts parts = buffer_of_rent (part_at parts 0)

-- Other bytes in place of as many of the first part are written over that buffer. The ghost law `with_bytes_buffer` cites it.
pub first_overwritten : (parts : Parts) (at : ℕ) (w : List ℕ)
    → buffer_of_parts (part_overwritten parts 0 at w) ≡ overwritten (buffer_of_parts parts) (0 + at) w
first_overwritten [] at w = refl
first_overwritten (part ∷ parts) at w = ap (λ n. overwritten (buffer_of_rent part) n w) (sym (zero-add at))

-- The parts behind the first one. They lie beside the bytes of that buffer.
abbrev pub behind_first : Parts → Parts
behind_first parts = drop 1 parts

-- The parts that a first part as a buffer, and those beside it, were.
abbrev pub parts_of_first : Buffer → Parts → Parts
parts_of_first b beside = record { bytes = b.bytes; total = b.total } ∷ beside

-- Other bytes in the first part leave the parts behind it. The ghost law `with_bytes_beside` cites it.
pub behind_overwritten : (parts : Parts) (at : ℕ) (w : List ℕ) → behind_first (part_overwritten parts 0 at w) ≡ behind_first parts
behind_overwritten [] at w = refl
behind_overwritten (part ∷ parts) at w = refl
