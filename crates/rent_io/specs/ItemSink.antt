-- What takes items, and what the polls of a send and a flush do.
use Rattle.std.specs.Prelude.{ℕ, ◌≡◌, ◌⊎◌, Option, None, Some, IsSome, Result, Ok, Err}
use Rattle.rent_io.specs.declared.sink.SinkPoll.{SinkPoll}
use Rattle.rent_io.specs.declared.sink.SinkPoll.TheVariants.{Ready as SendReady, Pending as SendPending}
use Rattle.rent_io.specs.declared.sink.SinkDone.{SinkDone}
use Rattle.rent_io.specs.declared.sink.SinkDone.TheVariants.{Ready as DoneReady, Pending as DonePending}
use Rattle.rent_io.specs.declared.poll.Step.{Step}
use Rattle.rent_io.specs.declared.poll.Step.TheVariants.{Ready, Pending, Again}
use Rattle.rent_io.specs.Counts.{Counts, Rose}

-- A sink of items is its counts, and how many sends and flushes succeeded.
pub record ItemSink : Type 0 where
  pub counts : Counts
  pub sends : ℕ
  pub flushes : ℕ

-- A poll of a send: the item was taken and counted, or it is gone with an error, or it comes back.
abbrev pub IsSent : {I E : Type 0} → I → ItemSink → ItemSink → SinkPoll I E → Type 0
IsSent item before now (SendReady (Ok done)) = Rose before.sends now.sends
IsSent item before now (SendReady (Err error)) = (now.sends ≡ before.sends) × Rose before.counts.faults now.counts.faults
IsSent item before now (SendPending back) = (now.sends ≡ before.sends) × Rose before.counts.pauses now.counts.pauses × (back ≡ item)

-- The cause of what a poll of a flush or a close answers.
abbrev pub CausesDone : {E : Type 0} → Counts → Counts → SinkDone E → Type 0
CausesDone before now (DoneReady (Ok done)) = Unit {0}
CausesDone before now (DoneReady (Err error)) = Rose before.faults now.faults
CausesDone before now DonePending = Rose before.pauses now.pauses

-- A poll of a flush: it was done and counted, or it has its cause.
abbrev pub IsDone : {E : Type 0} → ItemSink → ItemSink → SinkDone E → Type 0
IsDone before now (DoneReady (Ok done)) = Rose before.flushes now.flushes
IsDone before now (DoneReady (Err error)) = (now.flushes ≡ before.flushes) × Rose before.counts.faults now.counts.faults
IsDone before now DonePending = (now.flushes ≡ before.flushes) × Rose before.counts.pauses now.counts.pauses

-- No send and no flush succeeded.
abbrev pub NothingDone : ItemSink → ItemSink → Type 0
NothingDone before now = (now.sends ≡ before.sends) × (now.flushes ≡ before.flushes)

-- A poll of a send and a flush: the item is taken in one poll, and a later one flushes.
abbrev pub SendsAndFlushes : {I E : Type 0} → ItemSink → ItemSink → Option I → Step (Option I) (Result (Unit {0}) E) → Type 0
SendsAndFlushes before now item (Ready (Ok done)) = (item ≡ None) × (now.sends ≡ before.sends) × Rose before.flushes now.flushes
SendsAndFlushes before now item (Ready (Err error)) = NothingDone before now × Rose before.counts.faults now.counts.faults
SendsAndFlushes before now item (Pending next) = (next ≡ item) × NothingDone before now × Rose before.counts.pauses now.counts.pauses
SendsAndFlushes before now item (Again next) = IsSome item × (next ≡ None) × (now.flushes ≡ before.flushes) × Rose before.sends now.sends

-- How many items are to be sent.
abbrev pub unsent : {I : Type 0} → Option I → ℕ
unsent None = 0
unsent (Some item) = 1

-- The item was taken, and nothing was flushed since.
abbrev pub IsTaken : {I : Type 0} → ItemSink → ItemSink → Option I → Type 0
IsTaken before now item = IsSome item × (now.flushes ≡ before.flushes) × Rose before.sends now.sends

-- Polls of a send and a flush that isn't done: it is as it was, or its item was taken, and only then a flush comes.
abbrev pub HasSend : {I : Type 0} → ItemSink → ItemSink → Option I → Option I → Type 0
HasSend before now item next = ((next ≡ item) × NothingDone before now) ⊎ ((next ≡ None) × IsTaken before now item)

-- How polls of a send and a flush end: one law for every schedule of pauses and errors. The clause `run` of `drive` cites it.
abbrev pub SendEnd : {I E : Type 0} → ItemSink → ItemSink → Option I → Result (Unit {0}) E → Type 0
SendEnd before now item (Ok done) = Rose before.flushes now.flushes
    × (((item ≡ None) × (now.sends ≡ before.sends)) ⊎ (IsSome item × Rose before.sends now.sends))
SendEnd before now item (Err error) = Rose before.counts.faults now.counts.faults
    × (NothingDone before now ⊎ IsTaken before now item)
