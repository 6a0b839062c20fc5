-- Reads of a source by way of a piece of memory.
use Rattle.std.proofs.Common.{◌≡◌, ◌∙◌, ℕ, ◌+◌, ◌≤◌, ◌⊎◌, inl, inr, List, [], ◌++◌, Bool, length, take, drop, sym, ap, arith, add-zero, min}
use Rattle.std.specs.Prelude.{IsTrue}
use Rattle.std.proofs.lemmas.List.{length-take, take-append-drop}
use Rattle.rent_buf.specs.Buffer.{Buffer, room, put}
use Rattle.rent_buf.specs.Parts.{Parts, parts_stored}
use Rattle.rent_io.specs.Reader.{FrontRead, Taken, Scattered, first_room, WasFront}
use Rattle.rent_io.specs.Source.{Gives}
use Rattle.rent_io.specs.declared.source_stream.TheConstants.{PIECE}

-- The first bytes of the piece were the first that were left.
piece-front : (tells : Bool) (left rest piece : List ℕ) (size n : ℕ) → (IsTrue tells → Gives left rest piece size n)
    → WasFront tells left (take n piece) rest
piece-front tells left rest piece size n gives = λ t. sym (take-append-drop n left) ∙ ap (λ l. l ++ drop n left) (sym (gives t).front)
    ∙ ap (λ l. take n piece ++ l) (sym (gives t).after)

-- No byte came only where there was no room, or at the end.
piece-end : (tells : Bool) (left rest piece : List ℕ) (space size n : ℕ) → size ≡ min space PIECE
    → (IsTrue tells → Gives left rest piece size n) → IsTrue tells → n ≡ 0 → (space ≡ 0) ⊎ (left ≡ [])
piece-end tells left rest piece space size n is gives t zero = elim ((gives t).at_end zero)
    [ inl none ↦ inl (omega arith) | inr end ↦ inr end ]

-- A read into a piece that is as large as the room, or of `PIECE` bytes, and then into the buffer.
pub taken_piece : (tells : Bool) (left rest piece : List ℕ) (b back : Buffer) (size n : ℕ) → size ≡ min (room b) PIECE
    → length piece ≡ size → n ≤ size
    → back ≡ put b (b.begin + 0) (take n piece) → (IsTrue tells → Gives left rest piece size n) → Taken tells left rest b back n
taken_piece tells left rest piece b back size n is long within put_is gives = record {
  got = take n piece;
  count = omega (arith, length-take n piece, long, within);
  fits = omega arith;
  is_stored = put_is ∙ ap (λ at. put b at (take n piece)) (add-zero b.begin);
  front = piece-front tells left rest piece size n gives;
  at_end = piece-end tells left rest piece (room b) size n is gives;
}

-- The same into parts.
pub scattered_piece : (tells : Bool) (left rest piece : List ℕ) (parts back : Parts) (size n : ℕ) → size ≡ min (first_room parts) PIECE
    → length piece ≡ size → n ≤ size
    → back ≡ parts_stored parts (take n piece) → (IsTrue tells → Gives left rest piece size n) → Scattered tells left rest parts back n
scattered_piece tells left rest piece parts back size n is long within stored_is gives = record {
  got = take n piece;
  count = omega (arith, length-take n piece, long, within);
  fits = omega arith;
  is_stored = stored_is;
  front = piece-front tells left rest piece size n gives;
  at_end = piece-end tells left rest piece (first_room parts) size n is gives;
}

-- A read straight into a buffer of fixed length.
pub front_read : (tells : Bool) (left rest buf back : List ℕ) (n : ℕ) → n ≤ length buf → length back ≡ length buf
    → (IsTrue tells → Gives left rest back (length buf) n) → FrontRead tells left rest buf back n
front_read tells left rest buf back n within long gives = record {
  fits = within;
  same_length = long;
  front = piece-front tells left rest back (length buf) n gives;
  at_end = λ t. (gives t).at_end;
}
