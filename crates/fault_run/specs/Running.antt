-- How far a run is. Cited by the functions of `run`, and by no public clause.
use Rattle.std.specs.Prelude.{ℕ, ◌≡◌, ◌≤◌, ◌<◌, ◌+◌, Bool, IsTrue, List, ◌∷◌, ◌++◌, length}
use Rattle.machine.specs.Counts.{Rose}
use Rattle.rent_io.specs.Call.{Took}
use Rattle.event_text.specs.TextLines.{lines}
use Rattle.fault_run.specs.declared.answer.Answer.{Answer}
use Rattle.fault_run.specs.declared.input.TheConstants.{MOST_INPUT}
use Rattle.fault_run.specs.declared.input.Unread.{Unread}
use Rattle.fault_run.specs.declared.line.Line.{Line}
use Rattle.fault_run.specs.declared.run.Ending.{Ending}
use Rattle.fault_run.specs.declared.run.Ending.TheVariants.{Done, BadLine, TooLong, ReadFault, WriteFault, OutOfMemory}
use Rattle.fault_run.specs.declared.session.FaultSession.{FaultSession}
use Rattle.fault_run.specs.Runs.{AreFirst, RanAll, RanSome, RanToWrong, RanUnwritten}
use Rattle.fault_run.specs.Steps.{StepsEach}
use Rattle.fault_run.specs.Texts.{answer_lines}

-- Since a run began with a session, an input and what a sink had taken, so many lines were answered: this session and this rest of the
-- input are left, and the sink has taken this.
pub record Running (ts tk : Bool) (first : FaultSession) (left before : List ℕ) (session : FaultSession) (ran : ℕ) (rest now : List ℕ)
    : Type 0 where
  pub said : List Line
  pub answers : List Answer
  pub steps : StepsEach first said answers session
  pub counted : ran ≡ length said
  pub read : IsTrue ts → AreFirst left said (lines rest)
  pub written : IsTrue tk → now ≡ before ++ answer_lines answers

-- The first line of what is left was answered.
abbrev pub AnswersLine : Bool → FaultSession → ℕ → List ℕ → List ℕ → FaultSession → List ℕ → Type 0
AnswersLine tk old ran text taken new now =
    (ts : Bool) (first : FaultSession) (left before rest behind : List ℕ) → lines rest ≡ text ∷ lines behind →
    Running ts tk first left before old ran rest taken → Running ts tk first left before new (ran + 1) behind now

-- Some lines of a text were answered: this rest of it is left, whatever is behind it.
abbrev pub AnswersLines : Bool → FaultSession → ℕ → List ℕ → List ℕ → FaultSession → ℕ → List ℕ → List ℕ → Type 0
AnswersLines tk old ran text taken new count rest now =
    (ts : Bool) (first : FaultSession) (left before more : List ℕ) →
    Running ts tk first left before old ran (text ++ more) taken → Running ts tk first left before new (ran + count) (rest ++ more) now

-- What a run has done that ended at a line, or at the writing of its answer.
abbrev pub EndsAtLine : Bool → Bool → FaultSession → List ℕ → List ℕ → List ℕ → ℕ → ℕ → Bool → Ending → Type 0
EndsAtLine ts tk first left before now faults later flushed Done = ⊥
EndsAtLine ts tk first left before now faults later flushed (BadLine number text) =
    IsTrue flushed × RanToWrong ts tk first left before now number text
EndsAtLine ts tk first left before now faults later flushed TooLong = ⊥
EndsAtLine ts tk first left before now faults later flushed ReadFault = ⊥
EndsAtLine ts tk first left before now faults later flushed WriteFault = Rose faults later × RanUnwritten ts tk first left before now
EndsAtLine ts tk first left before now faults later flushed (OutOfMemory count) =
    (IsTrue tk → later ≡ faults) × RanSome ts tk first left before now count

-- So it is where the run had come so far, the first line of what is left being this one.
abbrev pub StopsAtLine : Bool → FaultSession → ℕ → List ℕ → List ℕ → List ℕ → ℕ → ℕ → Bool → Ending → Type 0
StopsAtLine tk old ran text taken now faults later flushed ending =
    (ts : Bool) (first : FaultSession) (left before rest behind : List ℕ) → lines rest ≡ text ∷ lines behind →
    Running ts tk first left before old ran rest taken → EndsAtLine ts tk first left before now faults later flushed ending

-- So it is where the run had come so far, with this text in front of what is left.
abbrev pub StopsInLines : Bool → FaultSession → ℕ → List ℕ → List ℕ → List ℕ → ℕ → ℕ → Bool → Ending → Type 0
StopsInLines tk old ran text taken now faults later flushed ending =
    (ts : Bool) (first : FaultSession) (left before more : List ℕ) →
    Running ts tk first left before old ran (text ++ more) taken → EndsAtLine ts tk first left before now faults later flushed ending

-- What a flush behind the last line has done.
abbrev pub FlushEnds : Bool → List ℕ → List ℕ → ℕ → ℕ → Bool → Ending → Type 0
FlushEnds tk taken now faults later flushed Done = IsTrue flushed × (IsTrue tk → now ≡ taken)
FlushEnds tk taken now faults later flushed (BadLine number text) = ⊥
FlushEnds tk taken now faults later flushed TooLong = ⊥
FlushEnds tk taken now faults later flushed ReadFault = ⊥
FlushEnds tk taken now faults later flushed WriteFault = Rose faults later × (IsTrue tk → now ≡ taken)
FlushEnds tk taken now faults later flushed (OutOfMemory count) = ⊥

-- What a run has done that ended behind its last line.
abbrev pub EndsLast : Bool → Bool → FaultSession → List ℕ → List ℕ → List ℕ → ℕ → ℕ → Bool → Ending → Type 0
EndsLast ts tk first left before now faults later flushed Done = IsTrue flushed × RanAll ts tk first left before now
EndsLast ts tk first left before now faults later flushed ending = EndsAtLine ts tk first left before now faults later flushed ending

-- So it is where the run had come so far, and this text is all that is left.
abbrev pub StopsLast : Bool → FaultSession → ℕ → List ℕ → List ℕ → List ℕ → ℕ → ℕ → Bool → Ending → Type 0
StopsLast tk old ran text taken now faults later flushed ending =
    (ts : Bool) (first : FaultSession) (left before : List ℕ) →
    Running ts tk first left before old ran text taken → EndsLast ts tk first left before now faults later flushed ending

-- Why a read behind so many bytes brought none: too many came, a fault, or no memory.
abbrev pub WhyUnread : Bool → ℕ → List ℕ → List ℕ → ℕ → ℕ → Unread → Type 0
WhyUnread tells taken left rest faults later Unread.TooLong = IsTrue tells → (n : ℕ) × (MOST_INPUT < taken + n) × Took left rest n
WhyUnread tells taken left rest faults later Unread.Fault = Rose faults later
WhyUnread tells taken left rest faults later Unread.OutOfMemory =
    (faults ≤ later) × (IsTrue tells → later ≡ faults) × (IsTrue tells → (n : ℕ) × (taken + n ≤ MOST_INPUT) × Took left rest n)
