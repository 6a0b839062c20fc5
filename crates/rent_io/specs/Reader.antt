-- A stream that is read, and what a poll of a read does. Each clause on readers cites it.
use Rattle.std.specs.Prelude.{ℕ, ◌≡◌, ◌≤◌, ◌⊎◌, nat_eq, min, if◌then◌else◌, Bool, IsTrue, List, [], ◌∷◌, ◌++◌, length, take, Some, Ok}
use Rattle.std.specs.Prelude.{Err}
use Rattle.rent_buf.specs.Buffer.{Buffer, room, stored}
use Rattle.rent_buf.specs.Parts.{Parts, parts_stored}
use Rattle.rent_buf.specs.declared.fault.IoFault.TheVariants.{ReadFault}
use Rattle.rent_io.specs.declared.poll.PollBuf.{PollBuf}
use Rattle.rent_io.specs.declared.poll.PollBuf.TheVariants.{Ready, Pending, Again}
use Rattle.rent_io.specs.Counts.{Counts, Rose, slice_counts}

-- A reader is the bytes still to come, and its counts.
pub record Reader : Type 0 where
  pub left : List ℕ
  pub counts : Counts

-- Bytes that were read: they were the first of those left, where the reader tells what is left.
abbrev pub WasFront : Bool → List ℕ → List ℕ → List ℕ → Type 0
WasFront tells left got rest = IsTrue tells → left ≡ got ++ rest

-- A read of no bytes: there was no room, or nothing was left, where the reader tells that.
abbrev pub NoneOnlyAtEnd : Bool → List ℕ → ℕ → ℕ → Type 0
NoneOnlyAtEnd tells left space n = IsTrue tells → n ≡ 0 → (space ≡ 0) ⊎ (left ≡ [])

-- A read of n bytes into a buffer: they are stored at the start of its range.
pub record Taken (tells : Bool) (left rest : List ℕ) (b back : Buffer) (n : ℕ) : Type 0 where
  pub got : List ℕ
  pub count : length got ≡ n
  pub fits : n ≤ room b
  pub is_stored : back ≡ stored b got
  pub front : WasFront tells left got rest
  pub at_end : NoneOnlyAtEnd tells left (room b) n

-- A poll of a read: n bytes are read, the ranges under the buffer and the parts beside it stay, or nothing moves and the buffer comes
-- back as it was.
abbrev pub Reads : {T : Type 0} → Bool → List ℕ → List ℕ → (T → Buffer) → (T → List (ℕ × ℕ)) → (T → Parts) → T → PollBuf T → Type 0
Reads tells left rest buffer under beside buf (Ready (Ok n) back) =
    Taken tells left rest (buffer buf) (buffer back) n × (under back ≡ under buf) × (beside back ≡ beside buf)
Reads tells left rest buffer under beside buf (Ready (Err fault) back) = (back ≡ buf) × (IsTrue tells → left ≡ rest)
Reads tells left rest buffer under beside buf (Pending back) = (back ≡ buf) × (IsTrue tells → left ≡ rest)
Reads tells left rest buffer under beside buf (Again back) = (back ≡ buf) × (IsTrue tells → left ≡ rest)

-- A read of n bytes into a buffer of fixed length: they are its first bytes now, and its length stays. Those behind them may be others.
pub record FrontRead (tells : Bool) (left rest buf back : List ℕ) (n : ℕ) : Type 0 where
  pub fits : n ≤ length buf
  pub same_length : length back ≡ length buf
  pub front : WasFront tells left (take n back) rest
  pub at_end : NoneOnlyAtEnd tells left (length buf) n

-- A poll of such a read: n bytes are read, or nothing leaves the stream and the length of the buffer stays.
abbrev pub ReadsFixed : Bool → List ℕ → List ℕ → List ℕ → PollBuf (List ℕ) → Type 0
ReadsFixed tells left rest buf (Ready (Ok n) back) = FrontRead tells left rest buf back n
ReadsFixed tells left rest buf (Ready (Err fault) back) = (length back ≡ length buf) × (IsTrue tells → left ≡ rest)
ReadsFixed tells left rest buf (Pending back) = (length back ≡ length buf) × (IsTrue tells → left ≡ rest)
ReadsFixed tells left rest buf (Again back) = (length back ≡ length buf) × (IsTrue tells → left ≡ rest)

-- The room of the first part that has any, or 0.
abbrev pub first_room : Parts → ℕ
first_room [] = 0
first_room (part ∷ parts) = if nat_eq part.total 0 then first_room parts else part.total

-- A read of n bytes into parts: they are stored in the first part that has room.
pub record Scattered (tells : Bool) (left rest : List ℕ) (parts back : Parts) (n : ℕ) : Type 0 where
  pub got : List ℕ
  pub count : length got ≡ n
  pub fits : n ≤ first_room parts
  pub is_stored : back ≡ parts_stored parts got
  pub front : WasFront tells left got rest
  pub at_end : NoneOnlyAtEnd tells left (first_room parts) n

-- A poll of a read into parts: n bytes are read, or nothing moves and the parts come back as they were.
abbrev pub ReadsParts : {T : Type 0} → Bool → List ℕ → List ℕ → (T → Parts) → T → PollBuf T → Type 0
ReadsParts tells left rest held buf (Ready (Ok n) back) = Scattered tells left rest (held buf) (held back) n
ReadsParts tells left rest held buf (Ready (Err fault) back) = (back ≡ buf) × (IsTrue tells → left ≡ rest)
ReadsParts tells left rest held buf (Pending back) = (back ≡ buf) × (IsTrue tells → left ≡ rest)
ReadsParts tells left rest held buf (Again back) = (back ≡ buf) × (IsTrue tells → left ≡ rest)

-- A poll of a read gave the lesser of what there is and what there is room for.
abbrev pub GivesUpTo : {T : Type 0} → ℕ → ℕ → PollBuf T → Type 0
GivesUpTo there space (Ready (Ok n) back) = n ≡ min there space
GivesUpTo there space (Ready (Err fault) back) = ⊥
GivesUpTo there space (Pending back) = ⊥
GivesUpTo there space (Again back) = ⊥

-- A fact of a poll of a read that gave so many bytes.
abbrev pub IfGiven : {T : Type 0} → PollBuf T → (ℕ → Type 0) → Type 0
IfGiven (Ready (Ok n) back) P = P n
IfGiven (Ready (Err fault) back) P = Unit {0}
IfGiven (Pending back) P = Unit {0}
IfGiven (Again back) P = Unit {0}

-- A source as a reader: it never pauses, its faults are `ReadFault`, and it counts no calls, nor those that gave nothing.
abbrev pub source_reader : List ℕ → ℕ → Reader
source_reader left faults = record { left = left; counts = record slice_counts { faults = faults; fault = Some ReadFault } }

-- A read gave none of some room: nothing was left, where the reader tells that, and it is counted.
abbrev pub AtEnd : Bool → Reader → Reader → Type 0
AtEnd tells before now = (IsTrue tells → before.left ≡ []) × Rose before.counts.zeros now.counts.zeros
