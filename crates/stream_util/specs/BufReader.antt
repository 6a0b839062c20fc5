-- A reader with a buffer: what a read and a fill of it do.
use Rattle.std.specs.Prelude.{ℕ, ◌≡◌, ◌<◌, ◌≤◌, min, Bool, List, [], ◌++◌, length, drop, Ok, Err}
use Rattle.rent_io.specs.declared.poll.PollBuf.{PollBuf}
use Rattle.rent_io.specs.declared.poll.PollCount.{PollCount}
use Rattle.rent_io.specs.declared.poll.PollCount.TheVariants.{Ready as CountReady, Pending as CountPending, Again as CountAgain}
use Rattle.rent_io.specs.Reader.{Reader, WasFront, GivesUpTo, IfGiven}

-- Such a reader is the one inside, the bytes that are buffered, and how many it buffers at most.
pub record Reading (R : Type 0) : Type 0 where
  pub inner : R
  pub held : List ℕ
  pub capacity : ℕ

-- A new one over a reader.
abbrev pub fresh_reader : {R : Type 0} → R → ℕ → Reading R
fresh_reader inner capacity = record { inner = inner; held = []; capacity = capacity }

-- It as a reader: the bytes that are left are those that are buffered, and then those that are left of the one inside.
abbrev pub reader_over : {R : Type 0} → Reader → Reading R → Reader
reader_over inner r = record { left = r.held ++ inner.left; counts = inner.counts }

-- A read that filled the empty buffer first: of what came, at most as much as the buffer takes, it gave the first bytes.
pub record FillsFirst {R : Type 0} (inner : R → Reader) (tells : Bool) (before now : Reading R) (space n : ℕ) : Type 0 where
  pub filled : List ℕ
  pub within : length filled ≤ before.capacity
  pub front : WasFront tells (inner before.inner).left filled (inner now.inner).left
  pub given : n ≡ min (length filled) space
  pub rest : now.held ≡ drop n filled

-- The rule for a read. If bytes are buffered, it gives the first of them and leaves the reader inside alone. If none are, and there is
-- room for as many as the buffer takes, it is passed on, and the buffer stays empty; and if there is less room, it fills first.
pub record ReadRule {R T : Type 0} (inner : R → Reader) (tells : Bool) (before now : Reading R) (space : ℕ) (result : PollBuf T) : Type 0
  where
    pub buffered : 0 < length before.held → (now.inner ≡ before.inner) × GivesUpTo (length before.held) space result
        × (now.held ≡ drop (min (length before.held) space) before.held)
    pub passes : before.held ≡ [] → before.capacity ≤ space → now.held ≡ []
    pub fills : before.held ≡ [] → space < before.capacity → IfGiven result (FillsFirst inner tells before now space)

-- A fact of a fill that isn't done.
abbrev pub IfNotDone : PollCount → Type 0 → Type 0
IfNotDone (CountReady (Ok n)) P = Unit {0}
IfNotDone (CountReady (Err fault)) P = P
IfNotDone CountPending P = P
IfNotDone CountAgain P = P
