-- What is known of a part whose bytes aren't kept. Only contracts of private functions cite these.
use Rattle.std.specs.Prelude.{ℕ, ◌≡◌, ◌+◌, ◌^◌, ◌<◌, ◌≤◌, List, length, Some}
use Rattle.event_text.specs.TextReads.{number_of, bytes_of}

-- Two words are a room and bytes that fit it, and with it the rooms have this sum, which fits its type.
pub record AddsPart (rooms : ℕ) (first second : List ℕ) (sum : ℕ) : Type 0 where
  pub room : ℕ
  pub bytes : List ℕ
  pub number : number_of first ≡ Some room
  pub read : bytes_of second ≡ Some bytes
  pub fits : length bytes ≤ room
  pub sum_is : sum ≡ rooms + room
  pub small : sum < 2 ^ 64

-- These two words make no such sum.
abbrev pub NoPart : ℕ → List ℕ → List ℕ → Type 0
NoPart rooms first second = (sum : ℕ) → AddsPart rooms first second sum → ⊥
