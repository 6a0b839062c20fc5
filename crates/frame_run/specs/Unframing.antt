-- How the writing of a source's messages ends: what was then read and written. `unframe_all` cites `UnframeEnds`.
use Rattle.std.specs.Prelude.{ℕ, ◌≡◌, ◌≤◌, Bool, IsTrue, List, [], ◌++◌, length}
use Rattle.rent_io.specs.Call.{Reading, Writing, Took, TookMore}
use Rattle.rent_io.specs.Counts.{Rose}
use Rattle.frame_io.specs.declared.fault.BadFrame.{BadFrame as Wrong}
use Rattle.frame_io.specs.declared.fault.Ending.{Ending}
use Rattle.frame_io.specs.declared.fault.Ending.TheVariants.{End, Fault}
use Rattle.frame_io.specs.declared.message.Message.{Message}
use Rattle.frame_io.specs.FrameReader.{standard}
use Rattle.frame_io.specs.Frames.{Outcome, behind, read_frames}
use Rattle.frame_run.specs.declared.unframing.Unframed.{Unframed}
use Rattle.frame_run.specs.declared.unframing.Unframed.TheVariants.{Done, BadFrame, TooLong, ReadFault, WriteFault, OutOfMemory}
use Rattle.frame_run.specs.Lines.{bad_line, message_lines, outcome_lines}

-- The first bytes of a text were written, behind those that had been taken.
pub record WroteFirst (text taken now : List ℕ) : Type 0 where
  pub written : List ℕ
  pub rest : List ℕ
  pub text_is : text ≡ written ++ rest
  pub now_is : now ≡ taken ++ written

-- The lines of the first ones of some messages were written, and nothing else.
pub record WroteLines (messages : List Message) (taken now : List ℕ) : Type 0 where
  pub written : List Message
  pub rest : List Message
  pub messages_are : messages ≡ written ++ rest
  pub now_is : now ≡ taken ++ message_lines written

-- All was read and written: the input is messages and an end, and their lines were written.
pub record UnframedAll (ts tk : Bool) (most : ℕ) (source : Reading) (sink : Writing) : Type 0 where
  pub within : IsTrue ts → length source.left ≤ most
  pub to_its_end : IsTrue ts → source.rest ≡ []
  pub ending : IsTrue ts → (read_frames standard source.left).ending ≡ End
  pub written : IsTrue ts → IsTrue tk → sink.now ≡ sink.taken ++ message_lines (read_frames standard source.left).messages
  pub flushed : IsTrue sink.flushed

-- The lines of all messages before a fault were written, and then the fault's offset and name.
pub record WroteBad (outcome : Outcome) (tk : Bool) (taken now : List ℕ) : Type 0 where
  pub fault : Wrong
  pub ending : outcome.ending ≡ Fault fault
  pub written : IsTrue tk → now ≡ taken ++ (message_lines outcome.messages ++ bad_line outcome.offset fault)

-- The input has a wrong piece.
pub record UnframedBad (ts tk : Bool) (source : Reading) (sink : Writing) : Type 0 where
  pub bad : IsTrue ts → WroteBad (read_frames standard source.left) tk sink.taken sink.now
  pub flushed : IsTrue sink.flushed

-- The lines of the first messages of the input were written.
abbrev pub UnframedFirst : Bool → Bool → Reading → Writing → Type 0
UnframedFirst ts tk source sink = IsTrue ts → IsTrue tk → WroteLines (read_frames standard source.left).messages sink.taken sink.now

-- Memory ran out: no more was taken than may be, and no fault was counted, as far as the source and the sink tell it.
pub record UnframedShort (ts tk : Bool) (most : ℕ) (source : Reading) (sink : Writing) : Type 0 where
  pub few : IsTrue ts → (count : ℕ) × (count ≤ most) × Took source.left source.rest count
  pub read : IsTrue ts → source.later ≡ source.faults
  pub wrote : IsTrue tk → sink.later ≡ sink.faults

-- What was done with at most so many bytes of a source, by how it ended.
abbrev pub UnframeEnds : Bool → Bool → ℕ → Reading → Writing → Unframed → Type 0
UnframeEnds ts tk most source sink Done = UnframedAll ts tk most source sink
UnframeEnds ts tk most source sink BadFrame = UnframedBad ts tk source sink
UnframeEnds ts tk most source sink TooLong =
    (IsTrue ts → TookMore most source.left source.rest) × UnframedFirst ts tk source sink
UnframeEnds ts tk most source sink ReadFault = Rose source.faults source.later × UnframedFirst ts tk source sink
UnframeEnds ts tk most source sink WriteFault = Rose sink.faults sink.later
    × (IsTrue ts → IsTrue tk → WroteFirst (outcome_lines (read_frames standard source.left)) sink.taken sink.now)
UnframeEnds ts tk most source sink OutOfMemory = UnframedShort ts tk most source sink × UnframedFirst ts tk source sink

-- How far the writing of an outcome's messages is, where the sink tells its bytes: the lines of the first ones were written, those of the
-- next ones wait, and the rest is still to be read.
pub record Unframing (tk : Bool) (outcome rest : Outcome) (taken now waits : List ℕ) : Type 0 where
  pub written : List Message
  pub waiting : List Message
  pub messages_are : outcome ≡ behind (written ++ waiting) rest
  pub waits_is : waits ≡ message_lines waiting
  pub now_is : IsTrue tk → now ≡ taken ++ message_lines written

-- All its messages were read, and its end was reached.
pub record Reached (tk : Bool) (outcome : Outcome) (ending : Ending) (taken now waits : List ℕ) : Type 0 where
  pub written : List Message
  pub waiting : List Message
  pub messages_are : outcome.messages ≡ written ++ waiting
  pub ending_is : outcome.ending ≡ ending
  pub waits_is : waits ≡ message_lines waiting
  pub now_is : IsTrue tk → now ≡ taken ++ message_lines written
