-- A vector with a stated total that keeps its longer tail, as a buffer.
use Rattle.std.specs.Prelude.{ℕ, List}
use Rattle.rent_buf.specs.Buffer.{Buffer, whole_of, overwritten}
use Rattle.rent_buf.specs.Rent.{Rented}
use Rattle.rent_buf.specs.declared.kind.Kind.TheVariants.{Grown}

-- Such a vector is a Grown buffer whose range is the whole total.
abbrev pub buffer_of_grow : Rented → Buffer
buffer_of_grow g = whole_of Grown g.bytes g.total

-- The vector with w in place of as many of its bytes from a place on.
abbrev pub with_bytes_of_grow : Rented → ℕ → List ℕ → Rented
with_bytes_of_grow g at w = record g { bytes = (overwritten (buffer_of_grow g) at w).bytes }
