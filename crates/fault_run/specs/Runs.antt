-- How a run over a faulty ring ends: what it has then read, answered and written. `run_faults` cites `FaultsEnd`.
use Rattle.std.specs.Prelude.{ℕ, ◌≡◌, ◌≤◌, ◌+◌, ◌⊎◌, Bool, IsTrue, List, [], ◌∷◌, ◌++◌, length}
use Rattle.std.specs.List.{AllZip}
use Rattle.machine.specs.Counts.{Rose}
use Rattle.rent_io.specs.Call.{Reading, Writing, Took, TookMore}
use Rattle.event_text.specs.TextLines.{lines}
use Rattle.fault_run.specs.declared.answer.Answer.{Answer}
use Rattle.fault_run.specs.declared.input.TheConstants.{MOST_INPUT}
use Rattle.fault_run.specs.declared.line.Line.{Line}
use Rattle.fault_run.specs.declared.run.Ending.{Ending}
use Rattle.fault_run.specs.declared.run.Ending.TheVariants.{Done, BadLine, TooLong, ReadFault, WriteFault, OutOfMemory}
use Rattle.fault_run.specs.declared.session.FaultSession.{FaultSession}
use Rattle.fault_run.specs.Lines.{Says, SaysNothing}
use Rattle.fault_run.specs.Script.{IsFresh}
use Rattle.fault_run.specs.Steps.{StepsEach}
use Rattle.fault_run.specs.Texts.{answer_lines, bad_line_text}
use Rattle.fault_run.specs.Writes.{WroteFirst}

-- From a session on, lines were answered.
pub record Answered (session : FaultSession) (said : List Line) (answers : List Answer) : Type 0 where
  pub last : FaultSession
  pub steps : StepsEach session said answers last

-- The first lines of an input, what they say, and the lines behind them.
pub record AreFirst (left : List ℕ) (said : List Line) (behind : List (List ℕ)) : Type 0 where
  pub before : List (List ℕ)
  pub split : lines left ≡ before ++ behind
  pub says : AllZip Says before said

-- All lines of an input were answered, and all answers were written, and nothing else.
pub record RanAll (tells_source tells_sink : Bool) (session : FaultSession) (left taken now : List ℕ) : Type 0 where
  pub said : List Line
  pub answers : List Answer
  pub answered : Answered session said answers
  pub read : IsTrue tells_source → AreFirst left said []
  pub written : IsTrue tells_sink → now ≡ taken ++ answer_lines answers

-- The first lines of an input were answered, so many, and the answers to them were written, and nothing else.
pub record RanSome (tells_source tells_sink : Bool) (session : FaultSession) (left taken now : List ℕ) (count : ℕ) : Type 0 where
  pub said : List Line
  pub answers : List Answer
  pub answered : Answered session said answers
  pub counted : count ≡ length said
  pub read : IsTrue tells_source → (behind : List (List ℕ)) × AreFirst left said behind
  pub written : IsTrue tells_sink → now ≡ taken ++ answer_lines answers

-- The line behind those that stand for these is this one, which stands for nothing.
pub record IsWrongBehind (left : List ℕ) (said : List Line) (text : List ℕ) : Type 0 where
  pub behind : List (List ℕ)
  pub first : AreFirst left said (text ∷ behind)
  pub wrong : SaysNothing text

-- The lines before the wrong one were answered; the answers to them were written, then its number, and nothing else.
pub record RanToWrong (tells_source tells_sink : Bool) (session : FaultSession) (left taken now : List ℕ) (number : ℕ) (text : List ℕ)
    : Type 0 where
  pub said : List Line
  pub answers : List Answer
  pub answered : Answered session said answers
  pub counted : number ≡ length said + 1
  pub read : IsTrue tells_source → IsWrongBehind left said text
  pub written : IsTrue tells_sink → now ≡ taken ++ (answer_lines answers ++ bad_line_text number)

-- What may stand behind the answers to the first lines: nothing, or the number of the next line, which is wrong.
pub data MayEnd (tells : Bool) (left : List ℕ) (said : List Line) : List ℕ → Type 0 where
  of_answers : (IsTrue tells → (behind : List (List ℕ)) × AreFirst left said behind) → MayEnd tells left said []
  of_wrong : (number : ℕ) (text : List ℕ) → number ≡ length said + 1 → (IsTrue tells → IsWrongBehind left said text)
      → MayEnd tells left said (bad_line_text number)

-- The first bytes were written of the answers to the first lines, and of the number of a wrong one behind them.
pub record RanUnwritten (tells_source tells_sink : Bool) (session : FaultSession) (left taken now : List ℕ) : Type 0 where
  pub said : List Line
  pub answers : List Answer
  pub answered : Answered session said answers
  pub more : List ℕ
  pub ends : MayEnd tells_source left said more
  pub written : IsTrue tells_sink → WroteFirst (answer_lines answers ++ more) taken now

-- No more bytes were taken than the input may have, and no count of faults rose, as far as the source and the sink tell it.
pub record WasCalm (tells_source tells_sink : Bool) (source : Reading) (sink : Writing) : Type 0 where
  pub few : IsTrue tells_source → (count : ℕ) × (count ≤ MOST_INPUT) × Took source.left source.rest count
  pub read : IsTrue tells_source → source.later ≡ source.faults
  pub wrote : IsTrue tells_sink → sink.later ≡ sink.faults

-- What a run from a session on has done, by how it ended.
abbrev pub SessionEnds : Bool → Bool → FaultSession → Reading → Writing → Ending → Type 0
SessionEnds ts tk session source sink Done =
    (IsTrue ts → length source.left ≤ MOST_INPUT) × (IsTrue ts → source.rest ≡ []) × IsTrue sink.flushed
    × RanAll ts tk session source.left sink.taken sink.now
SessionEnds ts tk session source sink (BadLine number text) =
    IsTrue sink.flushed × RanToWrong ts tk session source.left sink.taken sink.now number text
SessionEnds ts tk session source sink TooLong =
    (IsTrue ts → TookMore MOST_INPUT source.left source.rest)
    × ((count : ℕ) × RanSome ts tk session source.left sink.taken sink.now count)
SessionEnds ts tk session source sink ReadFault =
    Rose source.faults source.later × ((count : ℕ) × RanSome ts tk session source.left sink.taken sink.now count)
SessionEnds ts tk session source sink WriteFault =
    Rose sink.faults sink.later × RanUnwritten ts tk session source.left sink.taken sink.now
SessionEnds ts tk session source sink (OutOfMemory count) =
    WasCalm ts tk source sink × RanSome ts tk session source.left sink.taken sink.now count

-- A run had no memory for its session: nothing was read or written.
pub record NotBegun (source : Reading) (sink : Writing) (ending : Ending) : Type 0 where
  pub ends : ending ≡ OutOfMemory 0
  pub unread : source.rest ≡ source.left
  pub unwritten : sink.now ≡ sink.taken
  pub no_read_fault : source.later ≡ source.faults
  pub no_write_fault : sink.later ≡ sink.faults

-- A run started with a fresh session.
pub record Began (ts tk : Bool) (capacity : ℕ) (enters : List ℕ) (source : Reading) (sink : Writing) (ending : Ending) : Type 0 where
  pub session : FaultSession
  pub fresh : IsFresh capacity enters session
  pub ends : SessionEnds ts tk session source sink ending

-- What a run over a queue of so many entries and a ring of this script has done.
abbrev pub FaultsEnd : Bool → Bool → ℕ → List ℕ → Reading → Writing → Ending → Type 0
FaultsEnd ts tk capacity enters source sink ending =
    NotBegun source sink ending ⊎ Began ts tk capacity enters source sink ending
