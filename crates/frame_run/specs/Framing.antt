-- How the writing of the pieces of messages ends: what was then read and written. `frame_all` cites `FrameEnds`.
use Rattle.std.specs.Prelude.{ℕ, ◌≡◌, ◌+◌, ◌≤◌, Bool, IsTrue, List, [], ◌++◌, length}
use Rattle.rent_io.specs.Call.{Reading, Writing, TookMore}
use Rattle.rent_io.specs.Counts.{Rose}
use Rattle.event_text.specs.TextLines.{lines}
use Rattle.frame_io.specs.Written.{pieces_of_all}
use Rattle.frame_run.specs.declared.framing.Framed.{Framed}
use Rattle.frame_run.specs.declared.framing.Framed.TheVariants.{Done, BadLine, TooLong, ReadFault, WriteFault, OutOfMemory}
use Rattle.frame_run.specs.MessageLine.{messages_of}
use Rattle.frame_run.specs.Unframing.{UnframedShort, WroteFirst}

-- The pieces of the messages that the lines of a text write, up to the first line that writes none.
abbrev pub pieces_in : List ℕ → List ℕ
pieces_in text = pieces_of_all (messages_of (lines text))

-- Each line of a text writes a message.
abbrev pub AreMessages : List ℕ → Type 0
AreMessages text = length (messages_of (lines text)) ≡ length (lines text)

-- The line of this number, counted from 1, is the first of a text that writes no message.
pub record IsBadLine (text : List ℕ) (number : ℕ) : Type 0 where
  pub first : number ≡ length (messages_of (lines text)) + 1
  pub there : number ≤ length (lines text)

-- The pieces of a text were written, all of them and nothing else.
abbrev pub WrotePieces : Bool → List ℕ → Writing → Type 0
WrotePieces tk text sink = IsTrue tk → sink.now ≡ sink.taken ++ pieces_in text

-- The first bytes of the pieces of a text were written, and nothing else.
abbrev pub WroteSome : Bool → List ℕ → Writing → Type 0
WroteSome tk text sink = IsTrue tk → WroteFirst (pieces_in text) sink.taken sink.now

-- Nothing was written.
pub record WroteNone (tk : Bool) (sink : Writing) : Type 0 where
  pub order : sink.faults ≤ sink.later
  pub same : IsTrue tk → sink.now ≡ sink.taken
  pub calm : IsTrue tk → sink.later ≡ sink.faults

-- A text is written whole, or up to its first bad line.
abbrev pub EndsText : List ℕ → Framed → Type 0
EndsText text Done = AreMessages text
EndsText text (BadLine number) = IsBadLine text number
EndsText text TooLong = ⊥
EndsText text ReadFault = ⊥
EndsText text WriteFault = ⊥
EndsText text OutOfMemory = ⊥

-- What was done with a text, by how it ended.
abbrev pub FramesText : Bool → List ℕ → Writing → Framed → Type 0
FramesText tk text sink Done = AreMessages text × WrotePieces tk text sink × IsTrue sink.flushed
FramesText tk text sink (BadLine number) = IsBadLine text number × WrotePieces tk text sink × IsTrue sink.flushed
FramesText tk text sink TooLong = ⊥
FramesText tk text sink ReadFault = ⊥
FramesText tk text sink WriteFault = Rose sink.faults sink.later × WroteSome tk text sink
FramesText tk text sink OutOfMemory = (IsTrue tk → sink.later ≡ sink.faults) × WroteSome tk text sink

-- The input had no more bytes than may be, and was read to its end.
pub record ReadWhole (most : ℕ) (source : Reading) : Type 0 where
  pub within : length source.left ≤ most
  pub to_its_end : source.rest ≡ []

-- What was done with at most so many bytes of a source, by how it ended.
abbrev pub FrameEnds : Bool → Bool → ℕ → Reading → Writing → Framed → Type 0
FrameEnds ts tk most source sink Done =
    (IsTrue ts → ReadWhole most source × AreMessages source.left × WrotePieces tk source.left sink) × IsTrue sink.flushed
FrameEnds ts tk most source sink (BadLine number) =
    (IsTrue ts → ReadWhole most source × IsBadLine source.left number × WrotePieces tk source.left sink) × IsTrue sink.flushed
FrameEnds ts tk most source sink TooLong = (IsTrue ts → TookMore most source.left source.rest) × WroteNone tk sink
FrameEnds ts tk most source sink ReadFault = Rose source.faults source.later × WroteNone tk sink
FrameEnds ts tk most source sink WriteFault = Rose sink.faults sink.later × (IsTrue ts → WroteSome tk source.left sink)
FrameEnds ts tk most source sink OutOfMemory = UnframedShort ts tk most source sink × (IsTrue ts → WroteSome tk source.left sink)
