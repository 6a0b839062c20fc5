-- How words, numbers and bytes are written. The texts of events and of replies cite these.
use Rattle.std.specs.Prelude.{ℕ, ◌+◌, ◌/◌, ◌%◌, ◌<◌, ◌==◌, Bool, true, ◌&&◌, not, List, [], ◌∷◌, ◌++◌, All, map, codes, decimal, nat_lt}
use Rattle.std.specs.Prelude.{if◌then◌else◌}

-- A word has no space in it.
abbrev pub is_solid : List ℕ → Bool
is_solid [] = true
is_solid (byte ∷ bytes) = not (byte == 32) && is_solid bytes

-- Pieces with one byte between them.
abbrev pub joined : ℕ → List (List ℕ) → List ℕ
joined between [] = []
joined between (piece ∷ []) = piece
joined between (piece ∷ more) = piece ++ between ∷ joined between more

-- Words with one space between them.
abbrev pub spaced : List (List ℕ) → List ℕ
spaced words = joined 32 words

-- Bytes of the program: each is below 256.
abbrev pub AreBytes : List ℕ → Type 0
AreBytes bytes = All (λ byte. byte < 256) bytes

-- The lower-case hexadecimal digit of a value below 16.
abbrev pub hex_digit : ℕ → ℕ
hex_digit value = if nat_lt value 10 then 48 + value else 87 + value

-- Two hexadecimal digits for each byte, the higher first.
abbrev pub hex : List ℕ → List ℕ
hex [] = []
hex (byte ∷ bytes) = hex_digit (byte / 16) ∷ hex_digit (byte % 16) ∷ hex bytes

-- The word of bytes: `-` where there is none.
abbrev pub bytes_word : List ℕ → List ℕ
bytes_word [] = codes "-"
bytes_word bytes = hex bytes

-- The word of a list of numbers: joined by commas, or `-` where there is none.
abbrev pub numbers_word : List ℕ → List ℕ
numbers_word [] = codes "-"
numbers_word numbers = joined 44 (map decimal numbers)
