-- What a writer of messages delivered, a reader gives back. The laws of the format cite it, and the clause on a reader's whole run.
use Rattle.std.specs.Prelude.{ℕ, ◌≡◌, ◌<◌, List, [], ◌∷◌, ◌++◌, length}
use Rattle.frame_io.specs.declared.fault.Ending.TheVariants.{End}
use Rattle.frame_io.specs.declared.fault.FrameFault.{FrameFault}
use Rattle.frame_io.specs.declared.fault.FrameFault.TheVariants.{Number, Large, Flag, Channels, Long, Cut, Io, OutOfMemory}
use Rattle.frame_io.specs.declared.limits.Limits.{Limits}
use Rattle.frame_io.specs.declared.message.Message.{Message}
use Rattle.frame_io.specs.declared.message.MessagePoll.{MessagePoll}
use Rattle.frame_io.specs.declared.message.MessagePoll.TheVariants.{Message as Given, End as AtEnd, Pending, Again, Fault as AtFault}
use Rattle.frame_io.specs.Decoder.{Polled}
use Rattle.frame_io.specs.Frames.{Outcome, behind, read_frames}
use Rattle.frame_io.specs.Piece.{pieces_of}
use Rattle.frame_io.specs.Written.{AreWithin, sent_with}

-- The first messages of a list.
pub record Begins (first messages : List Message) : Type 0 where
  pub rest : List Message
  pub joined : messages ≡ first ++ rest

-- The first bytes of a stream are read as the first messages of it.
abbrev pub FirstIsRead : Type 0
FirstIsRead = (limits : Limits) (front back : List ℕ)
    → Begins (read_frames limits front).messages (read_frames limits (front ++ back)).messages

-- A send buffers the pieces of the first message that isn't sent yet: what was delivered, is buffered and isn't sent stays the same,
-- joined.
abbrev pub SendKeeps : Type 0
SendKeeps = (message : Message) (unsent : List Message) (delivered held : List ℕ)
    → sent_with delivered (held ++ pieces_of message.channel message.bytes) unsent ≡ sent_with delivered held (message ∷ unsent)

-- A write delivers the first bytes that are buffered: they stay the same too.
abbrev pub WriteKeeps : Type 0
WriteKeeps = (unsent : List Message) (delivered held sent later : List ℕ) → held ≡ sent ++ later
    → sent_with (delivered ++ sent) later unsent ≡ sent_with delivered held unsent

-- A writer that had nothing buffered was given messages. Whatever became of its calls, what its stream delivered since is read as the first
-- of these; the bytes that are buffered and the pieces of the messages that aren't sent yet are what lacks.
abbrev pub SentIsReceived : Type 0
SentIsReceived = (limits : Limits) (messages unsent : List Message) (before delivered held since : List ℕ)
    → 0 < limits.channels → AreWithin limits messages
    → sent_with delivered held unsent ≡ sent_with before [] messages → delivered ≡ before ++ since
    → Begins (read_frames limits since).messages messages

-- When nothing is buffered and all messages are sent, it is read as just these messages, with an end between messages.
abbrev pub AllIsReceived : Type 0
AllIsReceived = (limits : Limits) (messages : List Message) (before delivered since : List ℕ)
    → 0 < limits.channels → AreWithin limits messages
    → sent_with delivered [] [] ≡ sent_with before [] messages → delivered ≡ before ++ since
    → read_frames limits since ≡ record { messages = messages; ending = End; offset = length since }

-- These messages are to be read, and then an end between messages.
abbrev pub Reads : List Message → Outcome → Type 0
Reads messages outcome = (outcome.messages ≡ messages) × (outcome.ending ≡ End)

-- A fault that is no end: of the stream inside, or out of memory.
abbrev pub IsNoEnd : FrameFault → Type 0
IsNoEnd Number = ⊥
IsNoEnd Large = ⊥
IsNoEnd Flag = ⊥
IsNoEnd Channels = ⊥
IsNoEnd Long = ⊥
IsNoEnd Cut = ⊥
IsNoEnd (Io fault) = Unit {0}
IsNoEnd OutOfMemory = Unit {0}

-- What a run of a reader ends with, when these messages were to be read: at the end it has added all of them to its list, and a fault is
-- none of a piece.
abbrev pub Receives : List Message → List Message → List Message → MessagePoll → Type 0
Receives messages before now (Given message) = ⊥
Receives messages before now AtEnd = now ≡ before ++ messages
Receives messages before now Pending = Unit {0}
Receives messages before now Again = Unit {0}
Receives messages before now (AtFault fault) = IsNoEnd fault

-- A run of a reader: the messages of its list, and then those that are to be read, stayed the same, and it answers as a poll does that
-- leaves what is to be read.
abbrev pub RunReceives : Type 0
RunReceives = (messages before now : List Message) (was rest : Outcome) (result : MessagePoll) → Reads messages was
    → behind now rest ≡ behind before was → Polled rest rest result → Receives messages before now result
