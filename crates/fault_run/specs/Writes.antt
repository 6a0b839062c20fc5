-- What writing a text has done, and why it stopped. Cited by the functions of `output`.
use Rattle.std.specs.Prelude.{ℕ, ◌≡◌, ◌≤◌, Bool, IsTrue, List, ◌++◌, Result, Ok, Err}
use Rattle.machine.specs.Counts.{Rose}
use Rattle.rent_io.specs.declared.source.Failed.{Failed}
use Rattle.fault_run.specs.declared.output.Unwritten.{Unwritten}

-- The first bytes of a text were written, behind those that had been taken.
pub record WroteFirst (text taken now : List ℕ) : Type 0 where
  pub written : List ℕ
  pub rest : List ℕ
  pub text_is : text ≡ written ++ rest
  pub now_is : now ≡ taken ++ written

-- So much of a text was written that this is left of it.
pub record Sent (text rest taken now : List ℕ) : Type 0 where
  pub prefix : List ℕ
  pub now_is : now ≡ taken ++ prefix
  pub text_is : text ≡ prefix ++ rest

-- All bytes were written, with no fault counted where the sink tells its bytes.
pub record Wrote (tells : Bool) (bytes taken now : List ℕ) (faults later : ℕ) : Type 0 where
  pub order : faults ≤ later
  pub all : IsTrue tells → now ≡ taken ++ bytes
  pub calm : IsTrue tells → later ≡ faults

-- All bytes were written; at a fault the first of them.
abbrev pub WritesAll : Bool → List ℕ → List ℕ → List ℕ → ℕ → ℕ → Result (Unit {0}) Failed → Type 0
WritesAll tells bytes taken now faults later (Ok done) = Wrote tells bytes taken now faults later
WritesAll tells bytes taken now faults later (Err failed) = Rose faults later × (IsTrue tells → WroteFirst bytes taken now)

-- Nothing was written, and no fault was counted.
pub record Untouched (tells : Bool) (taken now : List ℕ) (faults later : ℕ) : Type 0 where
  pub order : faults ≤ later
  pub nothing : IsTrue tells → now ≡ taken
  pub calm : IsTrue tells → later ≡ faults

-- A text was written; at a fault the first of its bytes, and if memory ran out nothing.
abbrev pub WritesText : Bool → List ℕ → List ℕ → List ℕ → ℕ → ℕ → Result (Unit {0}) Unwritten → Type 0
WritesText tells text taken now faults later (Ok done) = Wrote tells text taken now faults later
WritesText tells text taken now faults later (Err Unwritten.Fault) = Rose faults later × (IsTrue tells → WroteFirst text taken now)
WritesText tells text taken now faults later (Err Unwritten.OutOfMemory) = Untouched tells taken now faults later
