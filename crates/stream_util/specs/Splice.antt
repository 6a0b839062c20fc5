-- Splices by way of a pipe in memory: what each poll of a splice moves, and what each poll of a copy by splices does.
use Rattle.std.specs.Prelude.{ℕ, ◌≡◌, ◌≤◌, ◌⊎◌, Bool, IsTrue, List, [], ◌++◌, length, Ok, Err}
use Rattle.rent_buf.specs.declared.fault.IoFault.TheVariants.{OutOfMemory}
use Rattle.rent_io.specs.declared.poll.PollCount.{PollCount}
use Rattle.rent_io.specs.declared.poll.PollCount.TheVariants.{Ready, Pending, Again}
use Rattle.rent_io.specs.Counts.{Counts, Rose}
use Rattle.rent_io.specs.Polls.{Fails, Pauses}
use Rattle.rent_io.specs.Reader.{WasFront}

-- A splice of n bytes into a pipe: they were the first of those left, and join the pipe's end. None only where none is asked for, or
-- nothing is left.
pub record SplicedIn (tells : Bool) (left rest pipe later : List ℕ) (len n : ℕ) : Type 0 where
  pub got : List ℕ
  pub count : length got ≡ n
  pub within : n ≤ len
  pub joined : later ≡ pipe ++ got
  pub front : WasFront tells left got rest
  pub at_end : IsTrue tells → n ≡ 0 → (len ≡ 0) ⊎ (left ≡ [])

-- A poll of a splice into a pipe: n bytes move, or none does.
abbrev pub SplicesIn : Bool → List ℕ → List ℕ → List ℕ → List ℕ → ℕ → PollCount → Type 0
SplicesIn tells left rest pipe later len (Ready (Ok n)) = SplicedIn tells left rest pipe later len n
SplicesIn tells left rest pipe later len (Ready (Err fault)) = (later ≡ pipe) × (IsTrue tells → rest ≡ left)
SplicesIn tells left rest pipe later len Pending = (later ≡ pipe) × (IsTrue tells → rest ≡ left)
SplicesIn tells left rest pipe later len Again = (later ≡ pipe) × (IsTrue tells → rest ≡ left)

-- A splice of n bytes out of a pipe: they were the first of the pipe's, leave it, and are delivered.
pub record SplicedOut (tells : Bool) (before now pipe later : List ℕ) (len n : ℕ) : Type 0 where
  pub sent : List ℕ
  pub count : length sent ≡ n
  pub within : n ≤ len
  pub cut : pipe ≡ sent ++ later
  pub delivered : IsTrue tells → now ≡ before ++ sent

-- A poll of a splice out of a pipe: n bytes move, or none does.
abbrev pub SplicesOut : Bool → List ℕ → List ℕ → List ℕ → List ℕ → ℕ → PollCount → Type 0
SplicesOut tells before now pipe later len (Ready (Ok n)) = SplicedOut tells before now pipe later len n
SplicesOut tells before now pipe later len (Ready (Err fault)) = (later ≡ pipe) × (IsTrue tells → now ≡ before)
SplicesOut tells before now pipe later len Pending = (later ≡ pipe) × (IsTrue tells → now ≡ before)
SplicesOut tells before now pipe later len Again = (later ≡ pipe) × (IsTrue tells → now ≡ before)

-- The cause of what a splice into a pipe answers: as of a read, but that the pipe's growth may be refused too.
abbrev pub IsSpliceCaused : ℕ → Counts → Counts → PollCount → Type 0
IsSpliceCaused task before now (Ready (Ok n)) = Unit {0}
IsSpliceCaused task before now (Ready (Err fault)) = Fails before now fault ⊎ (fault ≡ OutOfMemory)
IsSpliceCaused task before now Pending = Pauses task before now
IsSpliceCaused task before now Again = Rose before.interrupts now.interrupts

-- A splice that moves none of so many bytes is counted as that.
abbrev pub SplicesNoneOf : ℕ → Counts → Counts → PollCount → Type 0
SplicesNoneOf size before now (Ready (Ok n)) = n ≡ 0 → (size ≡ 0) ⊎ Rose before.zeros now.zeros
SplicesNoneOf size before now (Ready (Err fault)) = Unit {0}
SplicesNoneOf size before now Pending = Unit {0}
SplicesNoneOf size before now Again = Unit {0}
