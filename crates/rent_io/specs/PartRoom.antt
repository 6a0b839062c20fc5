-- One part of a vector of buffers, as a buffer that can be filled.
use Rattle.std.specs.Prelude.{ℕ, ◌≡◌, ◌≤◌, ◌+◌, Bool, IsTrue, List, [], length, slice_set, Ok, Err}
use Rattle.rent_buf.specs.Buffer.{Buffer}
use Rattle.rent_buf.specs.Rent.{Rented, buffer_of_rent}
use Rattle.rent_buf.specs.Parts.{Parts, part_at, part_put}
use Rattle.rent_io.specs.declared.poll.PollBuf.{PollBuf}
use Rattle.rent_io.specs.declared.poll.PollBuf.TheVariants.{Ready, Pending, Again}
use Rattle.rent_io.specs.Reader.{WasFront}

-- It is the vector, and the part's number.
pub record PartRoom (T : Type 0) : Type 0 where
  pub inner : T
  pub part : ℕ

-- The part of a number as a buffer.
abbrev pub buffer_at : Parts → ℕ → Buffer
buffer_at parts k = buffer_of_rent (part_at parts k)

-- A part with no bytes and no room.
abbrev pub blank : Rented
blank = record { bytes = []; total = 0 }

-- The parts beside one: all, with a blank in place of that one.
abbrev pub others : Parts → ℕ → Parts
others parts k = slice_set parts k blank

-- A read of n bytes into a part: they are stored in it from a place on, and are its last.
pub record PartTaken (tells : Bool) (left rest : List ℕ) (parts back : Parts) (k at n : ℕ) : Type 0 where
  pub got : List ℕ
  pub count : length got ≡ n
  pub fits : at + n ≤ (part_at parts k).total
  pub is_put : back ≡ part_put parts k at got
  pub front : WasFront tells left got rest
  pub at_end : IsTrue tells → n ≡ 0 → left ≡ []

-- A poll of a read into a part: n bytes are read, or nothing moves and the vector comes back with the same parts.
abbrev pub ReadsPart : {T : Type 0} → Bool → List ℕ → List ℕ → (T → Parts) → T → ℕ → ℕ → PollBuf T → Type 0
ReadsPart tells left rest held buf k at (Ready (Ok n) back) = PartTaken tells left rest (held buf) (held back) k at n
ReadsPart tells left rest held buf k at (Ready (Err fault) back) = (held back ≡ held buf) × (IsTrue tells → left ≡ rest)
ReadsPart tells left rest held buf k at (Pending back) = (held back ≡ held buf) × (IsTrue tells → left ≡ rest)
ReadsPart tells left rest held buf k at (Again back) = (held back ≡ held buf) × (IsTrue tells → left ≡ rest)
