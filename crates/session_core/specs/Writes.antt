-- What writing a text has done, and why it stopped. Cited by the functions of `output`, and by those of `top` that call them.
use Rattle.std.specs.Prelude.{ℕ, ◌≡◌, ◌≤◌, Bool, IsTrue, List, ◌++◌, Result, Ok, Err}
use Rattle.machine.specs.Counts.{Rose}
use Rattle.rent_io.specs.declared.source.Failed.{Failed}
use Rattle.session_core.specs.declared.input.NoEvents.{NoEvents}
use Rattle.session_core.specs.declared.output.Unwritten.{Unwritten}
use Rattle.session_core.specs.declared.top.Status.{Status}
use Rattle.session_core.specs.declared.top.Status.TheVariants.{BadLine, TooLong, ReadFault, WriteFault, OutOfMemory}
use Rattle.session_core.specs.Top.{WrotePrefix, bad_line_text}

-- All bytes were written, with no fault counted where the sink tells its bytes.
pub record Wrote (tells : Bool) (bytes taken now : List ℕ) (faults later : ℕ) : Type 0 where
  pub order : faults ≤ later
  pub all : IsTrue tells → now ≡ taken ++ bytes
  pub calm : IsTrue tells → later ≡ faults

-- All bytes were written; at a fault a prefix of them.
abbrev pub WritesAll : Bool → List ℕ → List ℕ → List ℕ → ℕ → ℕ → Result (Unit {0}) Failed → Type 0
WritesAll tells bytes taken now faults later (Ok done) = Wrote tells bytes taken now faults later
WritesAll tells bytes taken now faults later (Err failed) = Rose faults later × (IsTrue tells → WrotePrefix bytes taken now)

-- The text of a wrong line was written, or a prefix of it.
abbrev pub WritesLine : Bool → ℕ → List ℕ → List ℕ → ℕ → ℕ → Status → Type 0
WritesLine tells line taken now faults later BadLine = IsTrue tells → now ≡ taken ++ bad_line_text line
WritesLine tells line taken now faults later WriteFault = Rose faults later × (IsTrue tells → WrotePrefix (bad_line_text line) taken now)
WritesLine tells line taken now faults later _ = ⊥

-- Nothing was written, and no fault was counted.
pub record Untouched (tells : Bool) (taken now : List ℕ) (faults later : ℕ) : Type 0 where
  pub nothing : IsTrue tells → now ≡ taken
  pub calm : IsTrue tells → later ≡ faults

-- A command with no events to run ended with this status; only the number of a wrong line was written.
abbrev pub RefusesFor : Bool → List ℕ → List ℕ → ℕ → ℕ → Status → NoEvents → Type 0
RefusesFor tells taken now faults later status (NoEvents.BadLine n) = WritesLine tells n taken now faults later status
RefusesFor tells taken now faults later status NoEvents.TooLong = (status ≡ TooLong) × Untouched tells taken now faults later
RefusesFor tells taken now faults later status NoEvents.Fault = (status ≡ ReadFault) × Untouched tells taken now faults later
RefusesFor tells taken now faults later status NoEvents.OutOfMemory = (status ≡ OutOfMemory) × Untouched tells taken now faults later

-- Memory ran out once a prefix of a text was written, and no fault was counted.
pub record WroteShort (text taken now : List ℕ) (faults later : ℕ) : Type 0 where
  pub prefix : WrotePrefix text taken now
  pub calm : later ≡ faults

-- Why not all of a text was written; a prefix of it was.
abbrev pub WhyUnwritten : Bool → List ℕ → List ℕ → List ℕ → ℕ → ℕ → Unwritten → Type 0
WhyUnwritten tells text taken now faults later Unwritten.Fault = Rose faults later × (IsTrue tells → WrotePrefix text taken now)
WhyUnwritten tells text taken now faults later Unwritten.OutOfMemory = IsTrue tells → WroteShort text taken now faults later

-- So much of a text was written that this is left of it.
pub record Sent (text rest taken now : List ℕ) : Type 0 where
  pub prefix : List ℕ
  pub now_is : now ≡ taken ++ prefix
  pub text_is : text ≡ prefix ++ rest
