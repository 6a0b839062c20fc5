-- A reader of messages: what each poll of it does.
use Rattle.std.specs.Prelude.{ℕ, ◌<◌, ◌⊎◌, Bool, IsTrue, length}
use Rattle.rent_io.specs.Counts.{Rose}
use Rattle.rent_io.specs.Polls.{Fails, Pauses}
use Rattle.rent_io.specs.Reader.{Reader}
use Rattle.frame_io.specs.declared.fault.FrameFault.{FrameFault}
use Rattle.frame_io.specs.declared.fault.FrameFault.TheVariants.{Number, Large, Flag, Channels, Long, Cut, Io, OutOfMemory}
use Rattle.frame_io.specs.declared.limits.Limits.{Limits}
use Rattle.frame_io.specs.declared.limits.TheConstants.{MOST_CHANNELS, MOST_IN_MESSAGE}
use Rattle.frame_io.specs.declared.message.MessagePoll.{MessagePoll}
use Rattle.frame_io.specs.declared.message.MessagePoll.TheVariants.{Message as Given, End, Pending, Again, Fault}
use Rattle.frame_io.specs.Decoder.{Decoding, fresh}

-- Such a reader is the stream inside, and what it keeps.
pub record Reading (R : Type 0) : Type 0 where
  pub inner : R
  pub kept : Decoding

-- A new one over a stream.
abbrev pub fresh_reader : {R : Type 0} → R → Limits → Reading R
fresh_reader inner limits = record { inner = inner; kept = fresh limits }

-- The limits, if its maker doesn't say.
abbrev pub standard : Limits
standard = record { channels = MOST_CHANNELS; bytes = MOST_IN_MESSAGE }

-- The cause of a fault: the stream's own is the last one that it gave.
abbrev pub IsFaultCaused : Reader → Reader → FrameFault → Type 0
IsFaultCaused before now Number = Unit {0}
IsFaultCaused before now Large = Unit {0}
IsFaultCaused before now Flag = Unit {0}
IsFaultCaused before now Channels = Unit {0}
IsFaultCaused before now Long = Unit {0}
IsFaultCaused before now Cut = Unit {0}
IsFaultCaused before now (Io fault) = Fails before.counts now.counts fault
IsFaultCaused before now OutOfMemory = Unit {0}

-- The cause of what a poll answers: Pending comes only by a pause, for this task, and Again only by an interrupt, or where bytes were
-- taken.
abbrev pub IsMessageCaused : Bool → ℕ → Reader → Reader → MessagePoll → Type 0
IsMessageCaused tells task before now (Given message) = Unit {0}
IsMessageCaused tells task before now End = Unit {0}
IsMessageCaused tells task before now Pending = Pauses task before.counts now.counts
IsMessageCaused tells task before now Again =
    Rose before.counts.interrupts now.counts.interrupts ⊎ (IsTrue tells → length now.left < length before.left)
IsMessageCaused tells task before now (Fault fault) = IsFaultCaused before now fault
