-- A writer of messages: what a send, a flush and a close of it do.
use Rattle.std.specs.Prelude.{ℕ, ◌≡◌, ◌+◌, ◌<◌, ◌≤◌, ◌⊎◌, Bool, IsTrue, List, [], ◌∷◌, ◌++◌, length, Ok, Err}
use Rattle.rent_buf.specs.declared.fault.IoFault.{IoFault}
use Rattle.rent_io.specs.Counts.{Counts, Rose}
use Rattle.rent_io.specs.ItemSink.{ItemSink}
use Rattle.rent_io.specs.Polls.{Pauses, WriteFails}
use Rattle.rent_io.specs.Writer.{Writer}
use Rattle.rent_io.specs.declared.poll.PollCount.{PollCount}
use Rattle.rent_io.specs.declared.poll.PollCount.TheVariants.{Ready as CountReady, Pending as CountPending, Again as CountAgain}
use Rattle.rent_io.specs.declared.sink.SinkDone.{SinkDone}
use Rattle.rent_io.specs.declared.sink.SinkDone.TheVariants.{Ready as DoneReady, Pending as DonePending}
use Rattle.rent_io.specs.declared.sink.SinkPoll.{SinkPoll}
use Rattle.rent_io.specs.declared.sink.SinkPoll.TheVariants.{Ready, Pending}
use Rattle.frame_io.specs.declared.fault.FrameFault.{FrameFault}
use Rattle.frame_io.specs.declared.fault.FrameFault.TheVariants.{Number, Large, Flag, Channels, Long, Cut, Io, OutOfMemory}
use Rattle.frame_io.specs.declared.limits.TheConstants.{MOST_IN_MESSAGE}
use Rattle.frame_io.specs.declared.message.Message.{Message}
use Rattle.frame_io.specs.Piece.{pieces_of}

-- Such a writer is the stream inside, and the bytes of pieces that are buffered. It counts the messages that it refused, which are faults,
-- the writes that took bytes, which are pauses, and the messages that it took.
pub record Writing (W : Type 0) : Type 0 where
  pub inner : W
  pub held : List ℕ
  pub refused : ℕ
  pub moved : ℕ
  pub sends : ℕ

-- A new one over a stream.
abbrev pub fresh_writer : {W : Type 0} → W → Writing W
fresh_writer inner = record { inner = inner; held = []; refused = 0; moved = 0; sends = 0 }

-- Its counts, by those of the stream inside. A sink knows neither a write that took none nor an interrupt: the one is a fault of it, and
-- the other a pause.
abbrev pub counts_over : {W : Type 0} → Counts → Writing W → Counts
counts_over counts w = record counts
    { faults = counts.faults + counts.zeros + w.refused; pauses = counts.pauses + counts.interrupts + w.moved }

-- It as a sink of messages.
abbrev pub sink_over : {W : Type 0} → Writer → Writing W → ItemSink
sink_over inner w = record { counts = counts_over inner.counts w; sends = w.sends; flushes = inner.flushes }

-- Why a message is refused: it is too long, or memory ran out.
abbrev pub IsRefusal : ℕ → FrameFault → Type 0
IsRefusal size Number = ⊥
IsRefusal size Large = ⊥
IsRefusal size Flag = ⊥
IsRefusal size Channels = ⊥
IsRefusal size Long = MOST_IN_MESSAGE < size
IsRefusal size Cut = ⊥
IsRefusal size (Io fault) = ⊥
IsRefusal size OutOfMemory = size ≤ MOST_IN_MESSAGE

-- A send: the message's pieces are buffered, or it is refused, and what is buffered stays. It never waits.
abbrev pub Sends : {W : Type 0} → Writing W → Writing W → Message → SinkPoll Message FrameFault → Type 0
Sends was now message (Ready (Ok done)) = (now.held ≡ was.held ++ pieces_of message.channel message.bytes)
    × (length message.bytes ≤ MOST_IN_MESSAGE)
Sends was now message (Ready (Err fault)) = (now.held ≡ was.held) × IsRefusal (length message.bytes) fault
Sends was now message (Pending back) = ⊥

-- A fault of the stream inside.
abbrev pub IsIo : FrameFault → Type 0
IsIo Number = ⊥
IsIo Large = ⊥
IsIo Flag = ⊥
IsIo Channels = ⊥
IsIo Long = ⊥
IsIo Cut = ⊥
IsIo (Io fault) = Unit {0}
IsIo OutOfMemory = ⊥

-- The stream inside failed, this was its last fault, or `WriteZero`, where a write took none of some bytes; and it was delivered nothing.
abbrev pub IsStreamFailure : Bool → Writer → Writer → IoFault → Type 0
IsStreamFailure tells before now fault = WriteFails before.counts now.counts fault × (IsTrue tells → now.delivered ≡ before.delivered)

-- What a poll that passes on what is buffered answers. When it is done nothing is buffered. At a fault nothing was written. At Pending the
-- stream inside paused, and will wake this task, and nothing was written; at Again it was interrupted, or less is buffered.
abbrev pub PassesOn : Bool → ℕ → Writer → Writer → List ℕ → List ℕ → PollCount → Type 0
PassesOn tells task before now held later (CountReady (Ok n)) = later ≡ []
PassesOn tells task before now held later (CountReady (Err fault)) = IsStreamFailure tells before now fault
PassesOn tells task before now held later CountPending = Pauses task before.counts now.counts × (later ≡ held)
PassesOn tells task before now held later CountAgain =
    Rose before.counts.interrupts now.counts.interrupts ⊎ (length later < length held)

-- What such a poll makes of the writer's own counts: a fault is counted, and what isn't done is a pause.
abbrev pub IsCounted : Counts → Counts → PollCount → Type 0
IsCounted before now (CountReady (Ok n)) = Unit {0}
IsCounted before now (CountReady (Err fault)) = Rose before.faults now.faults
IsCounted before now CountPending = Rose before.pauses now.pauses
IsCounted before now CountAgain = Rose before.pauses now.pauses

-- The same of a write of what is buffered, which is never the end.
abbrev pub IsPushCounted : Counts → Counts → PollCount → Type 0
IsPushCounted before now (CountReady (Ok n)) = ⊥
IsPushCounted before now (CountReady (Err fault)) = Rose before.faults now.faults
IsPushCounted before now CountPending = Rose before.pauses now.pauses
IsPushCounted before now CountAgain = Rose before.pauses now.pauses

-- Why a flush or a close fails: the stream inside does.
abbrev pub IsFailure : Bool → Writer → Writer → FrameFault → Type 0
IsFailure tells before now Number = ⊥
IsFailure tells before now Large = ⊥
IsFailure tells before now Flag = ⊥
IsFailure tells before now Channels = ⊥
IsFailure tells before now Long = ⊥
IsFailure tells before now Cut = ⊥
IsFailure tells before now (Io fault) = IsStreamFailure tells before now fault
IsFailure tells before now OutOfMemory = ⊥

-- A poll of a flush or a close that fails does so for one of these.
abbrev pub FailsBy : Bool → Writer → Writer → SinkDone FrameFault → Type 0
FailsBy tells before now (DoneReady (Ok done)) = Unit {0}
FailsBy tells before now (DoneReady (Err fault)) = IsFailure tells before now fault
FailsBy tells before now DonePending = Unit {0}

-- A flush or a close that is done leaves nothing buffered; one that fails has the stream's fault.
abbrev pub Ends : List ℕ → SinkDone FrameFault → Type 0
Ends held (DoneReady (Ok done)) = held ≡ []
Ends held (DoneReady (Err fault)) = IsIo fault
Ends held DonePending = Unit {0}

-- A close that is done shut the stream inside down.
abbrev pub IfShut : ℕ → ℕ → SinkDone FrameFault → Type 0
IfShut before now (DoneReady (Ok done)) = Rose before now
IfShut before now (DoneReady (Err fault)) = now ≡ before
IfShut before now DonePending = now ≡ before

-- Why a list of messages isn't sent whole: its first one is refused, or all are buffered, and the stream inside has a fault.
abbrev pub IsStuck : List Message → FrameFault → Type 0
IsStuck [] fault = IsIo fault
IsStuck (message ∷ messages) fault = IsRefusal (length message.bytes) fault

-- The sending of a list of messages, by those that are left of it. When it is done none is left, nothing is buffered, and the stream inside
-- was flushed.
abbrev pub Drives : ItemSink → ItemSink → List ℕ → List Message → SinkDone FrameFault → Type 0
Drives before now held messages (DoneReady (Ok done)) = (messages ≡ []) × (held ≡ []) × Rose before.flushes now.flushes
Drives before now held messages (DoneReady (Err fault)) = IsStuck messages fault × Rose before.counts.faults now.counts.faults
Drives before now held messages DonePending = messages ≡ []
