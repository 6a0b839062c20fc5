-- A buffer of any kind, as a value. Each clause on a `Buf` cites it.
use Rattle.std.specs.Prelude.{ℕ, List}
use Rattle.rent_buf.specs.Buffer.{Buffer, shown}
use Rattle.rent_buf.specs.Parts.{Parts}
use Rattle.rent_buf.specs.SliceMut.{with_range}
use Rattle.rent_buf.specs.declared.plain.Buf.{Buf}
use Rattle.rent_buf.specs.declared.plain.Buf.TheVariants.{Vector, Grown, Fixed}

-- The buffer that was built, of whatever kind.
abbrev pub built : Buf → Buffer
built (Vector slice) = slice.buffer
built (Grown slice) = slice.buffer
built (Fixed slice) = slice.buffer

-- The bytes that it shows.
abbrev pub content_of : Buf → List ℕ
content_of buf = shown (built buf)

-- The ranges of the buffers that it was cut from, the outermost first.
abbrev pub under_of : Buf → List (ℕ × ℕ)
under_of (Vector slice) = slice.under
under_of (Grown slice) = slice.under
under_of (Fixed slice) = slice.under

-- The parts that lie beside its bytes: there are none.
abbrev pub beside_of : Buf → Parts
beside_of (Vector slice) = slice.beside
beside_of (Grown slice) = slice.beside
beside_of (Fixed slice) = slice.beside

-- The buffer with w in place of as many of its bytes, from a place of its range on.
abbrev pub with_bytes_of : Buf → ℕ → List ℕ → Buf
with_bytes_of (Vector slice) at w = Vector (with_range slice at w)
with_bytes_of (Grown slice) at w = Grown (with_range slice at w)
with_bytes_of (Fixed slice) at w = Fixed (with_range slice at w)
