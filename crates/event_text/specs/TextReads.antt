-- What the readers of a line's words answer: numbers, bytes, buffers and parts. Public contracts cite only `number_of` and `bytes_of`,
-- the others are of private functions: `event_of-stands` and `stands-event_of` (proofs/TextEvents.antt) prove that a line is read as an
-- event exactly when it stands for it.
use Rattle.std.specs.Prelude.{◌≡◌, ℕ, ◌≤◌, Bool, true, false, ◌+◌, ◌-◌, ◌*◌, ◌^◌, ◌==◌, ◌&&◌, ◌||◌, nat_lt, nat_le, if◌then◌else◌}
use Rattle.std.specs.Prelude.{List, [], ◌∷◌, length, take, codes, bytes_eq, decimal, Option, Some, None, option_and_then, option_map}
use Rattle.std.specs.Str.Parse.{digits_value}
use Rattle.rent_buf.specs.Buffer.{Buffer}
use Rattle.rent_buf.specs.Parts.{Parts, rooms_of}
use Rattle.rent_buf.specs.declared.kind.Kind.{Kind}
use Rattle.rent_buf.specs.declared.kind.Kind.TheVariants.{Vector, Grown, Fixed}
use Rattle.machine.specs.declared.world.HandleKind.{HandleKind}
use Rattle.machine.specs.declared.world.HandleKind.TheVariants.{Stream, Datagram, File, Pipe, Listener}
use Rattle.event_text.specs.TextEvent.{handle_kind_word}
use Rattle.event_text.specs.TextLines.{onto_first}
use Rattle.event_text.specs.TextReaders.{value_of, field}
use Rattle.event_text.specs.TextRequest.{buffer_kind_word}

-- The words of a line, which a space ends.
abbrev pub words : List ℕ → List (List ℕ)
words [] = [] ∷ []
words (byte ∷ bytes) = if byte == 32 then [] ∷ words bytes else onto_first byte (words bytes)

-- The words behind a word: those past the space that ended it.
abbrev pub words_behind : List ℕ → List (List ℕ)
words_behind [] = []
words_behind (space ∷ bytes) = words bytes

-- The number that a word writes.
unfoldable pub number_of : List ℕ → Option ℕ
number_of word =
    if nat_lt (digits_value 10 word) (2 ^ 64) && bytes_eq (decimal (digits_value 10 word)) word then Some (digits_value 10 word) else None

-- So many bytes in front of a text write this number.
pub record BeginsWithNumber (text : List ℕ) (number count : ℕ) : Type 0 where
  pub bound : count ≤ length text
  pub writes : number_of (take count text) ≡ Some number

-- The number below a bound that a word writes.
abbrev pub number_below : ℕ → List ℕ → Option ℕ
number_below bound word = option_and_then (λ number. if nat_lt number bound then Some number else None) (number_of word)

-- The value of a lower-case hexadecimal digit, or 16.
abbrev pub digit_value_of : ℕ → ℕ
digit_value_of byte =
    if nat_le 48 byte && nat_le byte 57 then byte - 48
    else if nat_le 97 byte && nat_le byte 102 then byte - 87
    else 16

-- A byte in front of bytes that were read.
abbrev pub pair_onto : ℕ → ℕ → Option (List ℕ) → Option (List ℕ)
pair_onto high low None = None
pair_onto high low (Some bytes) = if high == 16 || low == 16 then None else Some ((high * 16 + low) ∷ bytes)

-- The bytes that pairs of digits write.
unfoldable pub pairs_of : List ℕ → Option (List ℕ)
pairs_of [] = Some []
pairs_of (digit ∷ []) = None
pairs_of (high ∷ low ∷ digits) = pair_onto (digit_value_of high) (digit_value_of low) (pairs_of digits)

-- The bytes that a word writes.
abbrev pub bytes_of : List ℕ → Option (List ℕ)
bytes_of word = if bytes_eq word (codes "-") then Some [] else if length word == 0 then None else pairs_of word

-- The address that a word writes, or that there is none.
abbrev pub address_of : List ℕ → Option (Option ℕ)
address_of word = if bytes_eq word (codes "-") then Some None else option_map Some (number_of word)

-- Whether a word is the first of two, or the second.
abbrev pub flag_of : List ℕ → List ℕ → List ℕ → Option Bool
flag_of set unset word = if bytes_eq word set then Some true else if bytes_eq word unset then Some false else None

-- The kind of a handle that a word writes.
abbrev pub handle_kind_of : List ℕ → Option HandleKind
handle_kind_of word = value_of handle_kind_word (Stream ∷ Datagram ∷ File ∷ Pipe ∷ Listener ∷ []) word

-- The kind of a buffer that a word writes.
abbrev pub buffer_kind_of : List ℕ → Option Kind
buffer_kind_of word = value_of buffer_kind_word (Vector ∷ Grown ∷ Fixed ∷ []) word

-- The bytes that the one word writes.
abbrev pub bytes_end : List (List ℕ) → Option (List ℕ)
bytes_end [] = None
bytes_end (word ∷ []) = bytes_of word
bytes_end (word ∷ _) = None

-- A buffer of the kind may have so many bytes.
abbrev pub is_full : Kind → ℕ → ℕ → Bool
is_full Vector count total = true
is_full Grown count total = true
is_full Fixed count total = count == total

-- The buffer, where its bounds hold.
abbrev pub bounded : Buffer → Option Buffer
bounded b =
    if nat_le (length b.bytes) b.total && nat_le b.begin b.end && nat_le b.begin (length b.bytes) && nat_le b.end b.total
    && is_full b.kind (length b.bytes) b.total
    then Some b else None

-- The buffer that words write.
abbrev pub buffer_of : List (List ℕ) → Option Buffer
buffer_of words =
    option_and_then (λ kind. option_and_then (λ total. option_and_then (λ begin. option_and_then (λ end. option_and_then (λ bytes.
    bounded (record { kind = kind.0; bytes = bytes; total = total.0; begin = begin.0; end = end.0 }))
    (bytes_end end.1)) (field number_of begin.1)) (field number_of total.1)) (field number_of kind.1)) (field buffer_kind_of words)

-- A part in front of parts that were read.
abbrev pub part_onto : Option ℕ → Option (List ℕ) → Option Parts → Option Parts
part_onto room bytes more =
    option_and_then (λ total. option_and_then (λ bytes.
    option_map (λ parts. record { bytes = bytes; total = total } ∷ parts) more) bytes) room

-- The parts that all the words write, two for each part: its room and its bytes.
unfoldable pub parts_end : List (List ℕ) → Option Parts
parts_end [] = Some []
parts_end (room ∷ []) = None
parts_end (room ∷ bytes ∷ words) = part_onto (number_of room) (bytes_of bytes) (parts_end words)

-- Each part has room for its bytes.
abbrev pub all_fit : Parts → Bool
all_fit [] = true
all_fit (part ∷ parts) = nat_le (length part.bytes) part.total && all_fit parts

-- The parts, where there are so many and their bounds hold.
abbrev pub counted : ℕ → Parts → Option Parts
counted count parts = if count == length parts && all_fit parts && nat_lt (rooms_of parts) (2 ^ 64) then Some parts else None

-- The parts that the words behind `p` write: their number, then their rooms and bytes.
abbrev pub counted_of : List (List ℕ) → Option Parts
counted_of words = option_and_then (λ count. option_and_then (counted count.0) (parts_end count.1)) (field number_of words)

-- The parts that words write.
abbrev pub parts_of : List (List ℕ) → Option Parts
parts_of [] = None
parts_of (word ∷ words) = if bytes_eq word (codes "p") then counted_of words else None
