-- The hexadecimal digits that a text begins with. `leading_digits` cites `HaveDigits`; private functions that read digits cite the others.
use Rattle.std.specs.Prelude.{◌≡◌, ◌≢◌, ℕ, ◌%◌, ◌<◌, ◌≤◌, List, length, slice_index}
use Rattle.event_text.specs.TextReads.{digit_value_of}

-- So many bytes that a text begins with are digits.
abbrev pub AreDigits : List ℕ → ℕ → Type 0
AreDigits text count = (k : ℕ) → k < count → digit_value_of (slice_index text k) ≢ 16

-- One of so many bytes that a text begins with is no digit.
pub record HasOther (text : List ℕ) (count : ℕ) : Type 0 where
  pub place : ℕ
  pub below : place < count
  pub other : digit_value_of (slice_index text place) ≡ 16

-- A text begins with so many digits and no more: the byte behind them, if there is one, is no digit.
pub record HaveDigits (text : List ℕ) (at : ℕ) : Type 0 where
  pub bound : at ≤ length text
  pub before : AreDigits text at
  pub there : at < length text → digit_value_of (slice_index text at) ≡ 16

-- All bytes of a word are digits, in pairs.
pub record IsHex (word : List ℕ) : Type 0 where
  pub even : length word % 2 ≡ 0
  pub digits : AreDigits word (length word)
