-- What reading an input has done, and why it stopped. Cited by the functions of `input`.
use Rattle.std.specs.Prelude.{ℕ, ◌≡◌, ◌<◌, ◌≤◌, ◌+◌, Bool, IsTrue, List, [], length}
use Rattle.machine.specs.Counts.{Rose}
use Rattle.rent_io.specs.Call.{Took}
use Rattle.session_core.specs.declared.input.NoEvents.{NoEvents}
use Rattle.session_core.specs.declared.input.TheConstants.{MOST_INPUT, PIECE}
use Rattle.session_core.specs.DriverKind.{DriverKind}
use Rattle.session_core.specs.Top.{NoLineWrong, TookFew, TookTooMany, IsBadLine}

-- All that was left was read.
pub record IsAll (left rest text : List ℕ) : Type 0 where
  pub within : length text ≤ MOST_INPUT
  pub all : text ≡ left
  pub to_its_end : rest ≡ []

-- Memory ran out for what was read of a source that tells its bytes: no more than it may have, no line that could be looked at is
-- wrong, and no fault was counted.
pub record ReadShort (driver : DriverKind) (left rest : List ℕ) (faults later : ℕ) : Type 0 where
  pub few : TookFew left rest
  pub lines : NoLineWrong driver left rest
  pub calm : later ≡ faults

-- Why a source gave no bytes: too many, a fault, or no memory. No line was looked at.
abbrev pub WhyUnread : DriverKind → Bool → List ℕ → List ℕ → ℕ → ℕ → NoEvents → Type 0
WhyUnread driver tells left rest faults later (NoEvents.BadLine n) = ⊥
WhyUnread driver tells left rest faults later NoEvents.TooLong = IsTrue tells → TookTooMany left rest
WhyUnread driver tells left rest faults later NoEvents.Fault = Rose faults later
WhyUnread driver tells left rest faults later NoEvents.OutOfMemory = IsTrue tells → ReadShort driver left rest faults later

-- Why a source gave no events: a wrong line, or no bytes.
abbrev pub WhyNoEvents : DriverKind → Bool → List ℕ → List ℕ → ℕ → ℕ → NoEvents → Type 0
WhyNoEvents driver tells left rest faults later (NoEvents.BadLine n) = IsTrue tells → IsBadLine driver left rest n
WhyNoEvents driver tells left rest faults later why = WhyUnread driver tells left rest faults later why

-- Why one read behind so many bytes stopped: too many came, a fault, or no memory.
abbrev pub WhyStopped : Bool → ℕ → List ℕ → List ℕ → ℕ → ℕ → NoEvents → Type 0
WhyStopped tells before left rest faults later (NoEvents.BadLine n) = ⊥
WhyStopped tells before left rest faults later NoEvents.TooLong = IsTrue tells → (n : ℕ) × (MOST_INPUT < before + n) × Took left rest n
WhyStopped tells before left rest faults later NoEvents.Fault = Rose faults later
WhyStopped tells before left rest faults later NoEvents.OutOfMemory =
    IsTrue tells → (n : ℕ) × (before + n ≤ MOST_INPUT) × (PIECE < before + n) × Took left rest n × (later ≡ faults)
