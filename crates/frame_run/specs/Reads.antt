-- What reading all of a source has done, and why it stopped. Cited by the functions of `text`.
use Rattle.std.specs.Prelude.{ℕ, ◌≡◌, ◌<◌, ◌≤◌, ◌+◌, Bool, IsTrue, List, []}
use Rattle.rent_io.specs.Call.{Took}
use Rattle.rent_io.specs.Counts.{Rose}
use Rattle.frame_run.specs.declared.framing.Framed.{Framed}
use Rattle.frame_run.specs.declared.framing.Framed.TheVariants.{Done, BadLine, TooLong, ReadFault, WriteFault, OutOfMemory}

-- All that was left was read.
pub record IsAll (left rest text : List ℕ) : Type 0 where
  pub all : text ≡ left
  pub to_its_end : rest ≡ []

-- Memory ran out behind so many bytes: no more were taken than may be, and no fault was counted.
pub record ReadFew (most before : ℕ) (left rest : List ℕ) (faults later : ℕ) : Type 0 where
  pub count : ℕ
  pub few : before + count ≤ most
  pub took : Took left rest count
  pub calm : later ≡ faults

-- More bytes were taken, with those before, than may be.
pub record ReadMore (most before : ℕ) (left rest : List ℕ) : Type 0 where
  pub count : ℕ
  pub many : most < before + count
  pub took : Took left rest count

-- Why a read behind so many bytes stopped: too many came, a fault, or no memory.
abbrev pub WhyStopped : Bool → ℕ → ℕ → List ℕ → List ℕ → ℕ → ℕ → Framed → Type 0
WhyStopped tells most before left rest faults later Done = ⊥
WhyStopped tells most before left rest faults later (BadLine number) = ⊥
WhyStopped tells most before left rest faults later TooLong = IsTrue tells → ReadMore most before left rest
WhyStopped tells most before left rest faults later ReadFault = Rose faults later
WhyStopped tells most before left rest faults later WriteFault = ⊥
WhyStopped tells most before left rest faults later OutOfMemory = IsTrue tells → ReadFew most before left rest faults later
