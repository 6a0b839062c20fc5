-- What is in flight, in order, and how it is kept. Cited by `Flights`.
use Rattle.std.specs.Prelude.{ℕ, ◌≡◌, ◌≤◌, Bool, true, List, length, map, slice_get, Some}
use Rattle.ring_core.specs.declared.entry.Flight.{Flight}
use Rattle.ring_core.specs.Ranks.{Ranked, kept_first}

-- What is in flight, and for how many entries in flight there is memory.
pub record InFlight : Type 0 where
  pub flights : List Flight
  pub room : ℕ

-- The data words on the slots.
abbrev pub words_of : List Flight → List ℕ
words_of flights = map (λ flight. flight.entry.word) flights

-- By numbers: each slot has what stands on it, so many are kept, and there is memory for all.
pub record AreStored (slots live room capacity : ℕ) (ranks : Ranked) : Type 0 where
  pub together : slots ≡ length ranks.flags
  pub count : live ≡ kept_first (length ranks.flags) ranks.flags
  pub memory : ranks.room ≤ capacity
  pub enough : room ≤ ranks.room

-- A slot is kept, and is that of a place: so many kept ones are before it.
pub record IsSpot (flags : List Bool) (place slot : ℕ) : Type 0 where
  pub is_kept : slice_get flags slot ≡ Some true
  pub rank : kept_first slot flags ≡ place
