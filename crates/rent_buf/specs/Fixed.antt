-- Bytes whose number stays, as a buffer.
use Rattle.std.specs.Prelude.{ℕ, ◌≡◌, ◌+◌, List, ◌++◌, length, take, drop}
use Rattle.std.proofs.Common.{ap, sym, ◌∙◌, zero-add, arith, length-take, length-append, length-drop}
use Rattle.rent_buf.specs.Buffer.{Buffer, whole_of, overwritten}
use Rattle.rent_buf.specs.declared.kind.Kind.TheVariants.{Fixed}

-- Such bytes are a Fixed buffer: its total is their number, and its range is the whole of it.
abbrev pub buffer_of_fixed : List ℕ → Buffer
buffer_of_fixed bytes = whole_of Fixed bytes (length bytes)

-- The bytes with w in place of as many from a place on.
abbrev pub with_bytes_of_fixed : List ℕ → ℕ → List ℕ → List ℕ
with_bytes_of_fixed bytes at w = (overwritten (buffer_of_fixed bytes) at w).bytes

-- As many bytes stand afterwards.
pub length-overwritten : (b : Buffer) (at : ℕ) (w : List ℕ) → length (overwritten b at w).bytes ≡ length b.bytes
length-overwritten b at w =
    let all = length-take (length b.bytes) (take at b.bytes ++ (w ++ drop (length w) (drop at b.bytes))) in
    let joined = length-append (take at b.bytes) (w ++ drop (length w) (drop at b.bytes)) in
    let behind = length-append w (drop (length w) (drop at b.bytes)) in
    let front = length-take at b.bytes in
    let rest = length-drop (length w) (drop at b.bytes) in
    let dropped = length-drop at b.bytes in
    omega arith

-- Other bytes in place of as many are written over the buffer.
pub overwritten_of_fixed : (bytes : List ℕ) (at : ℕ) (w : List ℕ)
    → buffer_of_fixed (with_bytes_of_fixed bytes at w) ≡ overwritten (buffer_of_fixed bytes) (0 + at) w
overwritten_of_fixed bytes at w =
    ap (λ n. whole_of Fixed (with_bytes_of_fixed bytes at w) n) (length-overwritten (buffer_of_fixed bytes) at w)
    ∙ ap (λ n. overwritten (buffer_of_fixed bytes) n w) (sym (zero-add at))
