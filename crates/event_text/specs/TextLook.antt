-- The first line of a text that isn't cut into lines, and how it goes on. Public contracts cite only `line_end`: a line has no newline in
-- it exactly if its `line_end` is empty.
use Rattle.std.specs.Prelude.{◌≡◌, ℕ, ◌≤◌, ◌==◌, Bool, true, false, ◌&&◌, ◌||◌, not, List, [], ◌∷◌, length, take, drop, if◌then◌else◌}
use Rattle.std.specs.Prelude.{Option, option_map}
use Rattle.event_text.specs.TextReads.{words_behind, bytes_of}

-- The first line: what is before the first byte 10.
abbrev pub line_of : List ℕ → List ℕ
line_of [] = []
line_of (byte ∷ bytes) = if byte == 10 then [] else byte ∷ line_of bytes

-- The text from the end of its first line on: nothing, or a byte 10 and what is behind it.
abbrev pub line_end : List ℕ → List ℕ
line_end [] = []
line_end (byte ∷ bytes) = if byte == 10 then byte ∷ bytes else line_end bytes

-- The words of the first line that are left, where the text goes on behind one of them.
abbrev pub words_left : List ℕ → List (List ℕ)
words_left rest = words_behind (line_of rest)

-- No word is left.
abbrev pub no_more : List (List ℕ) → Bool
no_more [] = true
no_more (word ∷ words) = false

-- Neither a space nor a newline is in a word.
abbrev pub is_unbroken : List ℕ → Bool
is_unbroken [] = true
is_unbroken (byte ∷ bytes) = not (byte == 32) && not (byte == 10) && is_unbroken bytes

-- A word in front of the rest ends there: at the end, or at a space or a newline.
abbrev pub ends_word : List ℕ → Bool
ends_word [] = true
ends_word (byte ∷ bytes) = byte == 32 || byte == 10

-- The first word of a text ends at this place.
pub record IsWordEnd (text : List ℕ) (at : ℕ) : Type 0 where
  pub bound : at ≤ length text
  pub unbroken : is_unbroken (take at text) ≡ true
  pub ends : ends_word (drop at text) ≡ true

-- How many bytes a word writes.
abbrev pub count_of : List ℕ → Option ℕ
count_of word = option_map length (bytes_of word)
