-- The lines of a text, and the first of them that stands for no event, or for none of a smaller set of events.
use Rattle.std.specs.Prelude.{◌≡◌, ◌≢◌, ℕ, ◌+◌, ◌<◌, ◌≤◌, ◌==◌, List, [], ◌∷◌, ◌++◌, length, slice_index, if◌then◌else◌}
use Rattle.std.specs.List.{AllZip}
use Rattle.machine.specs.declared.ledger.Event.{Event}
use Rattle.event_text.specs.TextEvent.{StandsFor}
use Rattle.event_text.specs.declared.text.LinesError.{LinesError}
use Rattle.event_text.specs.declared.text.LinesError.TheVariants.{BadLine, OutOfMemory}

-- The place of the first such byte of a text, or the text's length if there is none.
pub record IsPlaceOf (byte : ℕ) (text : List ℕ) (at : ℕ) : Type 0 where
  pub bound : at ≤ length text
  pub before : (k : ℕ) → k < at → slice_index text k ≢ byte
  pub there : at < length text → slice_index text at ≡ byte

-- A byte in front of the first line.
abbrev pub onto_first : ℕ → List (List ℕ) → List (List ℕ)
onto_first byte [] = (byte ∷ []) ∷ []
onto_first byte (line ∷ lines) = (byte ∷ line) ∷ lines

-- The lines: the pieces that end with the byte 10, without it, then the rest where it isn't empty.
abbrev pub lines : List ℕ → List (List ℕ)
lines [] = []
lines (byte ∷ bytes) = if byte == 10 then [] ∷ lines bytes else onto_first byte (lines bytes)

-- What lines may stand for: any events, or those of a smaller set.
abbrev pub Standing : Type 1
Standing = List ℕ → Event → Type 0

-- A line stands for no such event.
abbrev pub IsWrong : Standing → List ℕ → Type 0
IsWrong Stands line = (event : Event) → Stands line event → ⊥

-- The line of this number, counted from 1, stands for no such event, and each line before it stands for one.
pub record IsFirstWrongFor (Stands : Standing) (all : List (List ℕ)) (n : ℕ) : Type 0 where
  pub before : List (List ℕ)
  pub events : List Event
  pub line : List ℕ
  pub behind : List (List ℕ)
  pub split : all ≡ before ++ line ∷ behind
  pub number : n ≡ length before + 1
  pub right : AllZip Stands before events
  pub wrong : IsWrong Stands line

-- Each line stands for such an event.
pub record AreEventsFor (Stands : Standing) (all : List (List ℕ)) : Type 0 where
  pub events : List Event
  pub stand : AllZip Stands all events

-- The same where lines may stand for any event: the first of them that stands for none,
abbrev pub IsFirstWrong : List (List ℕ) → ℕ → Type 0
IsFirstWrong = IsFirstWrongFor StandsFor

-- .. and each stands for one.
abbrev pub AreEvents : List (List ℕ) → Type 0
AreEvents = AreEventsFor StandsFor

-- A fact of the number of a bad line.
abbrev pub IfBadLine : (ℕ → Type 0) → LinesError → Type 0
IfBadLine P (BadLine number) = P number
IfBadLine P OutOfMemory = Unit {0}

-- A fact that holds if memory ran out.
abbrev pub IfShort : Type 0 → LinesError → Type 0
IfShort P (BadLine number) = Unit {0}
IfShort P OutOfMemory = P
