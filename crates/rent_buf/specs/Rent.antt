-- A vector with a stated total, as a value and as a buffer.
use Rattle.std.specs.Prelude.{ℕ, List}
use Rattle.rent_buf.specs.Buffer.{Buffer, whole_of, overwritten}
use Rattle.rent_buf.specs.declared.kind.Kind.TheVariants.{Vector}

-- A vector with a stated total is its bytes and its total.
pub record Rented : Type 0 where
  pub bytes : List ℕ
  pub total : ℕ

-- A rent is a Vector whose range is the whole total.
abbrev pub buffer_of_rent : Rented → Buffer
buffer_of_rent r = whole_of Vector r.bytes r.total

-- A rent with w in place of as many of its bytes from a place on.
abbrev pub with_bytes_of_rent : Rented → ℕ → List ℕ → Rented
with_bytes_of_rent r at w = record r { bytes = (overwritten (buffer_of_rent r) at w).bytes }
