-- The streams between which a copy goes, and what one run of it over the bytes that are buffered does.
use Rattle.std.specs.Prelude.{ℕ, ◌≡◌, ◌≤◌, ◌<◌, ◌+◌, ◌*◌, ◌-◌, ◌^◌, List, [], ◌++◌, length}
use Rattle.std.specs.Prelude.{Bool, IsTrue, take, Result, Ok, Err}
use Rattle.rent_buf.specs.Counts.{Rose}
use Rattle.rent_buf.specs.declared.fault.IoFault.{IoFault}
use Rattle.rent_io.specs.Counts.{no_counts}
use Rattle.rent_io.specs.Reader.{Reader}
use Rattle.rent_io.specs.Writer.{Writer, SinkWriting, sink_writer}
use Rattle.rent_io.specs.declared.poll.Step.{Step}
use Rattle.rent_io.specs.declared.poll.Step.TheVariants.{Ready, Pending, Again}
use Rattle.stream_util.specs.BufWriter.{Writing}
use Rattle.stream_util.specs.Copy.{Copying}
use Rattle.stream_util.specs.declared.copy.Copied.{Copied}

-- A piece has a task that waits only where none of its bytes is left.
abbrev pub PausesAtEnd : List ℕ → ℕ → Type 0
PausesAtEnd bytes waiter = 0 < waiter → bytes ≡ []

-- A piece as a reader. It never fails and never ends, and keeps no count of its pauses.
abbrev pub piece_reader : List ℕ → ℕ → Reader
piece_reader bytes waiter = record { left = bytes; counts = record no_counts { pauses = 2 ^ 64 - 1; waiter = waiter } }

-- What was delivered to a sink behind a buffer: what it took, and what is buffered.
abbrev pub delivered_by : {W : Type 0} → List ℕ → Writing W → List ℕ
delivered_by taken w = taken ++ w.held

-- A sink behind a buffer as a writer: it never pauses and is never interrupted.
abbrev pub outlet_writer : {K : Type 0} → List ℕ → ℕ → Writing (SinkWriting K) → Writer
outlet_writer taken faults w = sink_writer (delivered_by taken w) faults w.inner

-- Some bytes are the first of others.
abbrev pub IsFirst : List ℕ → List ℕ → Type 0
IsFirst some all = (rest : List ℕ) × (all ≡ some ++ rest)

-- A run read the first so many of the bytes that were buffered: what was delivered and is held, joined, grew by them.
pub record PieceMoved (reads writes : Bool) (buffered left rest delivered later held kept : List ℕ) (used : ℕ) : Type 0 where
  pub behind : IsTrue reads → left ≡ take used buffered ++ rest
  pub joined : IsTrue writes → later ++ kept ≡ delivered ++ (held ++ take used buffered)

-- How a run ends over a piece: by a fault of the sink.
abbrev pub IsSinkFault : ℕ → ℕ → Result ℕ IoFault → Type 0
IsSinkFault faults later (Ok n) = ⊥
IsSinkFault faults later (Err fault) = Rose faults later

-- What a run over a piece of so many bytes answers, of which so many were copied: the sink failed; or it waits since all of the piece was
-- copied; or all its turns are used, and then a byte moved.
abbrev pub PieceRuns : ℕ → ℕ → ℕ → ℕ → Copying → Step Copying Copied → Type 0
PieceRuns size used faults later copy (Ready copied) = IsSinkFault faults later copied.result
PieceRuns size used faults later copy (Pending next) = (used ≡ size) × (length next.held ≤ length copy.held + used)
PieceRuns size used faults later copy (Again next) = length next.held < length copy.held + 2 * used
