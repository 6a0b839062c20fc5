-- A range of a buffer that is kept with the buffer, and the way back to it.
use Rattle.std.specs.Prelude.{ℕ, ◌+◌, List, [], ◌∷◌}
use Rattle.rent_buf.specs.Buffer.{Buffer, sub, overwritten}
use Rattle.rent_buf.specs.Parts.{Parts}

-- A slice is a buffer, the ranges of the buffers that it was cut from, the outermost first, and the parts that lie beside its bytes.
pub record Sliced : Type 0 where
  pub buffer : Buffer
  pub under : List (ℕ × ℕ)
  pub beside : Parts

-- A range of a buffer, with the buffer's own range on top of those under it, and the same parts beside it.
abbrev pub sliced : Buffer → List (ℕ × ℕ) → Parts → ℕ → ℕ → Sliced
sliced b under beside from upto = record { buffer = sub b from upto; under = (b.begin, b.end) ∷ under; beside = beside }

-- The buffer that a slice was cut from: the same bytes and total, and the range on top of those under it.
abbrev pub whole : Buffer → List (ℕ × ℕ) → Buffer
whole b [] = b
whole b (range ∷ ranges) = record b { begin = range.0; end = range.1 }

-- A slice with w in place of as many of its bytes, from a place of its range on.
abbrev pub with_range : Sliced → ℕ → List ℕ → Sliced
with_range s at w = record s { buffer = overwritten s.buffer (s.buffer.begin + at) w }

-- A slice with w in place of as many bytes of the buffer that it was cut from, from the start of that buffer's range on.
abbrev pub with_whole : Sliced → List ℕ → Sliced
with_whole s w = record s { buffer = overwritten s.buffer (whole s.buffer s.under).begin w }
