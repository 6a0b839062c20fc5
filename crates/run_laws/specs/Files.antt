-- The bytes of a file, by what was put into it. `Bytes` says the law over them.
use Rattle.std.specs.Prelude.{ℕ, ◌≡◌, ◌<◌, ◌+◌, ◌-◌, max, nat_le, if◌then◌else◌, List, [], ◌∷◌, length, Option, None, Some, unwrap_or}
use Rattle.std.specs.Prelude.{slice_get}
use Rattle.run_laws.specs.Transfers.{Transfer, Fed, Written}

-- Bytes that were put into a file from a place on.
pub record Piece : Type 0 where
  pub begin : ℕ
  pub bytes : List ℕ

-- Where bytes end that begin at a place; no bytes reach no place.
abbrev pub end_of : ℕ → List ℕ → ℕ
end_of begin [] = 0
end_of begin (byte ∷ bytes) = begin + length (byte ∷ bytes)

-- Where a file ends: behind the piece that reaches farthest.
abbrev pub file_end : List Piece → ℕ
file_end [] = 0
file_end (piece ∷ older) = max (end_of piece.begin piece.bytes) (file_end older)

-- The byte that a piece puts at a position, where it covers it.
abbrev pub byte_of : Piece → ℕ → Option ℕ
byte_of piece p = if nat_le piece.begin p then slice_get piece.bytes (p - piece.begin) else None

-- The byte of a file at a position: that of the last piece that covers it, the newest being the first of the list; a zero where none does.
abbrev pub last_byte : List Piece → ℕ → ℕ
last_byte [] p = 0
last_byte (piece ∷ older) p = unwrap_or (byte_of piece p) (last_byte older p)

-- The pieces that transfers put into a file on top of older ones: what is fed is put behind all that is there.
abbrev pub pieces : List Piece → List Transfer → List Piece
pieces older [] = older
pieces older (Fed bytes ∷ rest) = pieces (record { begin = file_end older; bytes = bytes } ∷ older) rest
pieces older (Written pos bytes ∷ rest) = pieces (record { begin = pos; bytes = bytes } ∷ older) rest
pieces older (_ ∷ rest) = pieces older rest

-- These are the bytes of a file by the pieces that were put into it.
pub record HoldsLast (put : List Piece) (bytes : List ℕ) : Type 0 where
  pub ends : length bytes ≡ file_end put
  pub each : (p : ℕ) → p < length bytes → slice_get bytes p ≡ Some (last_byte put p)
