-- A buffer as a value, and what storing bytes in it makes of it. Each crate that moves bytes cites it.
use Rattle.std.specs.Prelude.{ℕ, ◌≡◌, ◌+◌, ◌-◌, ◌≤◌, List, ◌++◌, length, take, drop}
use Rattle.rent_buf.specs.declared.kind.Kind.{Kind}
use Rattle.rent_buf.specs.declared.kind.Kind.TheVariants.{Vector, Grown, Fixed}

-- A buffer is its kind, its bytes, a total and a range.
pub record Buffer : Type 0 where
  pub kind : Kind
  pub bytes : List ℕ
  pub total : ℕ
  pub begin : ℕ
  pub end : ℕ

-- How many bytes a kind always has: a Fixed one is as long as its total, the others are bound to no number.
abbrev pub IsFull : Kind → List ℕ → ℕ → Type 0
IsFull Vector bytes total = Unit {0}
IsFull Grown bytes total = Unit {0}
IsFull Fixed bytes total = length bytes ≡ total

-- The bounds that every buffer keeps.
pub record BufferBounds (b : Buffer) : Type 0 where
  pub fits : length b.bytes ≤ b.total
  pub ordered : b.begin ≤ b.end
  pub within : b.begin ≤ length b.bytes
  pub inside : b.end ≤ b.total
  pub full : IsFull b.kind b.bytes b.total

-- A buffer of a kind whose range is its whole total.
abbrev pub whole_of : Kind → List ℕ → ℕ → Buffer
whole_of kind bytes total = record { kind = kind; bytes = bytes; total = total; begin = 0; end = total }

-- How many bytes the range has room for.
abbrev pub room : Buffer → ℕ
room b = b.end - b.begin

-- The initialised bytes of the range: from `begin` to the lesser of `end` and the bytes' number.
abbrev pub shown : Buffer → List ℕ
shown b = drop b.begin (take b.end b.bytes)

-- The bytes of a buffer of a kind after s was stored at an offset: each keeps what was before, then has s. A Vector ends there. The
-- others keep what was behind.
abbrev pub written : Kind → List ℕ → ℕ → List ℕ → List ℕ
written Vector bytes at s = take at bytes ++ s
written Grown bytes at s = take at bytes ++ s ++ drop (at + length s) bytes
written Fixed bytes at s = take at bytes ++ s ++ drop (at + length s) bytes

-- A buffer with s standing from a place on. Its total and its range stay.
abbrev pub put : Buffer → ℕ → List ℕ → Buffer
put b at s = record b { bytes = written b.kind b.bytes at s }

-- A buffer with s stored at the start of its range.
abbrev pub stored : Buffer → List ℕ → Buffer
stored b s = put b b.begin s

-- A range of a buffer is a buffer: the same bytes and total, and the range counted from the old `begin`.
abbrev pub sub : Buffer → ℕ → ℕ → Buffer
sub b begin end = record b { begin = b.begin + begin; end = b.begin + end }

-- Two numbers are a range of a buffer: in order, beginning among the shown bytes, ending within the room.
pub record IsRange (b : Buffer) (from upto : ℕ) : Type 0 where
  pub ordered : from ≤ upto
  pub starts : from ≤ length (shown b)
  pub ends : upto ≤ room b

-- A buffer with w in place of as many of its bytes from a place on. The number of its bytes stays, and so do its total and its range.
abbrev pub overwritten : Buffer → ℕ → List ℕ → Buffer
overwritten b at w = record b { bytes = take (length b.bytes) (take at b.bytes ++ (w ++ drop (length w) (drop at b.bytes))) }
