-- Pieces of messages: a channel, a length, a flag and that many bytes; and what stands at the front of bytes.
use Rattle.std.specs.Prelude.{ℕ, zero, suc, ◌+◌, ◌<◌, ◌≤◌, Bool, true, false, nat_eq, nat_lt, nat_le, if◌then◌else◌}
use Rattle.std.specs.Prelude.{List, [], ◌∷◌, ◌++◌, length, take, drop}
use Rattle.frame_io.specs.declared.fault.BadFrame.TheVariants.{Number, Large, Flag}
use Rattle.frame_io.specs.declared.header.Header.{Header}
use Rattle.frame_io.specs.declared.header.Header.TheVariants.{Whole, Cut, Bad}
use Rattle.frame_io.specs.declared.number.Field.{Field}
use Rattle.frame_io.specs.declared.number.Field.TheVariants.{Whole as FieldWhole, Cut as FieldCut, Wrong as FieldWrong}
use Rattle.frame_io.specs.Number.{vnum, number_at}

-- The flag of a piece: 1 for the last one of its message.
abbrev pub flag_of : Bool → ℕ
flag_of last = if last then 1 else 0

-- A piece of a message: at most 65536 bytes of it.
abbrev pub piece : ℕ → List ℕ → Bool → List ℕ
piece channel bytes last = vnum channel ++ (vnum (length bytes) ++ (flag_of last ∷ bytes))

-- The pieces of a message, so many at most: each has 65536 bytes but the last, which alone is marked.
abbrev pub pieces_in : ℕ → ℕ → List ℕ → List ℕ
pieces_in zero channel bytes = piece channel bytes true
pieces_in (suc more) channel bytes = if nat_le (length bytes) 65536 then piece channel bytes true
    else piece channel (take 65536 bytes) false ++ pieces_in more channel (drop 65536 bytes)

-- The pieces of a message.
unfoldable pub pieces_of : ℕ → List ℕ → List ℕ
pieces_of channel bytes = pieces_in (length bytes) channel bytes

-- The flag, behind a channel and a length that took so many bytes.
abbrev pub flag_then : ℕ → ℕ → ℕ → List ℕ → Header
flag_then channel size count [] = Cut
flag_then channel size count (flag ∷ rest) = if nat_lt 1 flag then Bad Flag
    else Whole (record { channel = channel; size = size; last = nat_eq flag 1 }) (count + 1)

-- The length, behind a channel that took so many bytes: at most 65536.
abbrev pub size_then : ℕ → ℕ → List ℕ → Field → Header
size_then channel count bytes (FieldWhole size more) = if nat_lt 65536 size then Bad Large
    else flag_then channel size (count + more) (drop more bytes)
size_then channel count bytes FieldCut = Cut
size_then channel count bytes FieldWrong = Bad Number

-- The channel.
abbrev pub channel_then : List ℕ → Field → Header
channel_then bytes (FieldWhole channel count) = size_then channel count (drop count bytes) (number_at (drop count bytes))
channel_then bytes FieldCut = Cut
channel_then bytes FieldWrong = Bad Number

-- What stands at the front of bytes: a piece's channel, length and flag, and how many bytes these take; less than all of these; or the
-- first fault of these.
unfoldable pub header_at : List ℕ → Header
header_at bytes = channel_then bytes (number_at bytes)

-- A header that was found takes some of the bytes, eleven at most, and its piece has 65536 bytes at most.
abbrev pub IsHeader : ℕ → Header → Type 0
IsHeader most (Whole head count) = (0 < count) × (count ≤ most) × (count ≤ 11) × (head.size ≤ 65536)
IsHeader most Cut = Unit {0}
IsHeader most (Bad fault) = Unit {0}
