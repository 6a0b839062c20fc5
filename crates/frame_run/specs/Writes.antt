-- What writing a text has done, and why it stopped. Cited by the functions of `output`.
use Rattle.std.specs.Prelude.{ℕ, ◌≡◌, ◌≤◌, Bool, IsTrue, List, [], ◌++◌, Result, Ok, Err}
use Rattle.rent_io.specs.Counts.{Rose}
use Rattle.rent_io.specs.declared.source.Failed.{Failed}
use Rattle.frame_run.specs.declared.output.Unwritten.{Unwritten}
use Rattle.frame_run.specs.Unframing.{WroteFirst}

-- So much of a text was written that this is left of it.
pub record Sent (text rest taken now : List ℕ) : Type 0 where
  pub prefix : List ℕ
  pub now_is : now ≡ taken ++ prefix
  pub text_is : text ≡ prefix ++ rest

-- All bytes were written, with no fault counted where the sink tells its bytes.
pub record Wrote (tells : Bool) (bytes taken now : List ℕ) (faults later : ℕ) : Type 0 where
  pub order : faults ≤ later
  pub all : IsTrue tells → now ≡ taken ++ bytes
  pub calm : IsTrue tells → later ≡ faults

-- All bytes were written; at a fault the first of them.
abbrev pub WritesAll : Bool → List ℕ → List ℕ → List ℕ → ℕ → ℕ → Result (Unit {0}) Failed → Type 0
WritesAll tells bytes taken now faults later (Ok done) = Wrote tells bytes taken now faults later
WritesAll tells bytes taken now faults later (Err failed) = Rose faults later × (IsTrue tells → WroteFirst bytes taken now)

-- A text waits and nothing was written, or all of it was written and nothing waits.
pub data Collects (tells : Bool) (text taken now waits : List ℕ) : Type 0 where
  kept : waits ≡ text → (IsTrue tells → now ≡ taken) → Collects tells text taken now waits
  sent : waits ≡ [] → (IsTrue tells → now ≡ taken ++ text) → Collects tells text taken now waits

-- Why a text was neither kept nor written: a fault, behind the first of its bytes, or no memory, and then nothing was written.
abbrev pub WhyUnwritten : Bool → List ℕ → List ℕ → List ℕ → ℕ → ℕ → Unwritten → Type 0
WhyUnwritten tells text taken now faults later Unwritten.Fault = Rose faults later × (IsTrue tells → WroteFirst text taken now)
WhyUnwritten tells text taken now faults later Unwritten.OutOfMemory =
    (faults ≤ later) × (IsTrue tells → now ≡ taken) × (IsTrue tells → later ≡ faults)
