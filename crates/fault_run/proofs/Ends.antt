-- How a run of a session ends, by how its last step did.
use Rattle.std.proofs.Common.{◌≡◌, ◌∙◌, ℕ, ◌+◌, ◌≤◌, Bool, IsTrue, List, [], length, drop, ap, sym, subst, arith}
use Rattle.std.proofs.lemmas.List.{drop-drop, length-drop}
use Rattle.rent_io.specs.Call.{Reading, Writing, Took}
use Rattle.rent_io.proofs.Runs.{rose_later}
use Rattle.event_text.specs.TextLines.{lines}
use Rattle.fault_run.specs.declared.input.TheConstants.{MOST_INPUT}
use Rattle.fault_run.specs.declared.run.Ending.{Ending}
use Rattle.fault_run.specs.declared.run.Ending.TheVariants.{Done, BadLine, TooLong, ReadFault, WriteFault, OutOfMemory}
use Rattle.fault_run.specs.declared.session.FaultSession.{FaultSession}
use Rattle.fault_run.specs.Runs.{AreFirst, SessionEnds}
use Rattle.fault_run.specs.Running.{EndsAtLine, EndsLast, Running}

-- How far a run is, where what is left is read otherwise.
pub running-read : (ts tk : Bool) (first : FaultSession) (left before : List ℕ) (session : FaultSession) (ran : ℕ)
    (rest other now : List ℕ) → Running ts tk first left before session ran rest now → (IsTrue ts → other ≡ rest) →
    Running ts tk first left before session ran other now
running-read ts tk first left before session ran rest other now running same = record {
  said = running.said;
  answers = running.answers;
  steps = running.steps;
  counted = running.counted;
  read = λ told. subst (λ xs. AreFirst left running.said (lines xs)) (sym (same told)) (running.read told);
  written = running.written;
}

-- Bytes that were taken, and then more.
pub took-on : (left mid rest : List ℕ) (n m : ℕ) → Took left mid n → Took mid rest m → Took left rest (n + m)
took-on left mid rest n m one two =
    let there = one.there in
    let more = two.there in
    let long = ap length one.taken in
    let size = length-drop n left in
    record {
      there = omega arith;
      taken = two.taken ∙ ap (drop m) one.taken ∙ drop-drop m n left;
    }

-- Of an input that was taken to its end no more bytes were left than were taken.
all-taken : (left rest : List ℕ) (n : ℕ) → Took left rest n → rest ≡ [] → length left ≤ n
all-taken left rest n took end =
    let none = ap length (sym took.taken ∙ end) in
    let size = length-drop n left in
    omega arith

-- How a run ended at a line, told by what was read of its source.
pub session-stops : (ts tk : Bool) (first : FaultSession) (source : Reading) (sink : Writing) (half taken : ℕ) (ending : Ending) →
    EndsAtLine ts tk first source.left sink.taken sink.now half sink.later sink.flushed ending →
    sink.faults ≤ half → (IsTrue tk → half ≡ sink.faults) → taken ≤ MOST_INPUT →
    (IsTrue ts → Took source.left source.rest taken) → (IsTrue ts → source.later ≡ source.faults) →
    SessionEnds ts tk first source sink ending
session-stops ts tk first source sink half taken Done ends order calm few took read = absurd ends
session-stops ts tk first source sink half taken (BadLine number text) ends order calm few took read = ends
session-stops ts tk first source sink half taken TooLong ends order calm few took read = absurd ends
session-stops ts tk first source sink half taken ReadFault ends order calm few took read = absurd ends
session-stops ts tk first source sink half taken WriteFault ends order calm few took read =
    (rose_later sink.faults half sink.later order ends.0, ends.1)
session-stops ts tk first source sink half taken (OutOfMemory count) ends order calm few took read = (
  record {
    few = λ told. (taken, few, took told);
    read = read;
    wrote = λ told. ends.0 told ∙ calm told;
  },
  ends.1,
)

-- So it is behind its last line, where the source was read to its end.
pub session-ends : (ts tk : Bool) (first : FaultSession) (source : Reading) (sink : Writing) (half taken : ℕ) (ending : Ending) →
    EndsLast ts tk first source.left sink.taken sink.now half sink.later sink.flushed ending →
    sink.faults ≤ half → (IsTrue tk → half ≡ sink.faults) → taken ≤ MOST_INPUT →
    (IsTrue ts → Took source.left source.rest taken) → (IsTrue ts → source.later ≡ source.faults) → (IsTrue ts → source.rest ≡ []) →
    SessionEnds ts tk first source sink ending
session-ends ts tk first source sink half taken Done ends order calm few took read end = (
  λ told. (let within = all-taken source.left source.rest taken (took told) (end told) in omega arith),
  end,
  ends.0,
  ends.1,
)
session-ends ts tk first source sink half taken (BadLine number text) ends order calm few took read end = ends
session-ends ts tk first source sink half taken TooLong ends order calm few took read end = absurd ends
session-ends ts tk first source sink half taken ReadFault ends order calm few took read end = absurd ends
session-ends ts tk first source sink half taken WriteFault ends order calm few took read end =
    session-stops ts tk first source sink half taken WriteFault ends order calm few took read
session-ends ts tk first source sink half taken (OutOfMemory count) ends order calm few took read end =
    session-stops ts tk first source sink half taken (OutOfMemory count) ends order calm few took read
