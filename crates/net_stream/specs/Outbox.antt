-- What is to go at a connection, as its stream sees it.
use Rattle.std.specs.Prelude.{ℕ, ◌≡◌, ◌≢◌, ◌-◌, ◌≤◌, ◌⊎◌, Bool, true, false, List, [], ◌++◌, Option, None, Some, Ok, Err, min, length, drop}
use Rattle.rent_buf.specs.declared.fault.IoFault.{IoFault}
use Rattle.rent_io.specs.declared.poll.PollBuf.{PollBuf}
use Rattle.rent_io.specs.declared.poll.PollBuf.TheVariants.{Ready, Pending, Again}
use Rattle.rent_io.specs.declared.poll.PollCount.{PollCount}
use Rattle.rent_io.specs.declared.poll.PollCount.TheVariants.{Ready as CountReady, Pending as CountPending, Again as CountAgain}
use Rattle.rent_io.specs.Counts.{Counts, no_counts}
use Rattle.rent_io.specs.Polls.{Fails as FailsBy, Pauses}
use Rattle.rent_io.specs.Writer.{Writer}
use Rattle.net_stream.specs.declared.tally.Turn.{Turn}
use Rattle.net_stream.specs.declared.tally.Turn.TheVariants.{Gives, Waits, Fails}

-- An outbox is the bytes that were written and that no send has taken, how many it has room for, whether a send has bytes that aren't sent,
-- a fault that no call answered yet, the counts of its stream, and how many flushes and shutdowns succeeded.
pub record Outboxed : Type 0 where
  pub unsent : List ℕ
  pub free : ℕ
  pub sending : Bool
  pub fault : Option IoFault
  pub counts : Counts
  pub flushes : ℕ
  pub shutdowns : ℕ

-- One with so much room, to which nothing was written.
abbrev pub fresh_outbox : ℕ → Outboxed
fresh_outbox room =
    record { unsent = []; free = room; sending = false; fault = None; counts = no_counts; flushes = 0; shutdowns = 0 }

-- It as a writer: what was delivered is what no send has yet.
abbrev pub outbox_writer : Outboxed → Writer
outbox_writer outbox = record {
  delivered = outbox.unsent;
  counts = outbox.counts;
  flushes = outbox.flushes;
  shutdowns = outbox.shutdowns;
}

-- A write of so many bytes takes the lesser of them and of what may be written, and none of some never.
abbrev pub TakesOutbox : Outboxed → ℕ → ℕ → Type 0
TakesOutbox outbox size n = (n ≡ min size outbox.free) × (n ≡ 0 → size ≡ 0)

-- A write that waits: no fault came, and none may be written.
abbrev pub FullOutbox : Outboxed → Type 0
FullOutbox outbox = (outbox.fault ≡ None) × (outbox.free ≡ 0)

-- What a write of so many bytes answers.
abbrev pub WritesOutbox : {T : Type 0} → Outboxed → ℕ → PollBuf T → Type 0
WritesOutbox outbox size (Ready (Ok n) back) = TakesOutbox outbox size n
WritesOutbox outbox size (Ready (Err fault) back) = outbox.fault ≡ Some fault
WritesOutbox outbox size (Pending back) = FullOutbox outbox
WritesOutbox outbox size (Again back) = ⊥

-- What a write is to answer, and what was counted for it. Nothing is taken yet.
abbrev pub TurnsWrite : ℕ → ℕ → Outboxed → Outboxed → Turn → Type 0
TurnsWrite size task old new (Gives n) = TakesOutbox old size n × (new.fault ≡ old.fault)
TurnsWrite size task old new Waits = FullOutbox old × (new.fault ≡ old.fault) × Pauses task old.counts new.counts
TurnsWrite size task old new (Fails fault) = (old.fault ≡ Some fault) × (new.fault ≡ None) × FailsBy old.counts new.counts fault

-- All that was written is sent, and no fault came.
abbrev pub IsSent : Outboxed → Type 0
IsSent outbox = (outbox.unsent ≡ []) × (outbox.sending ≡ false) × (outbox.fault ≡ None)

-- A flush that waits: no fault came, and something is unsent.
abbrev pub IsUnsent : Outboxed → Type 0
IsUnsent outbox = (outbox.fault ≡ None) × ((outbox.unsent ≢ []) ⊎ (outbox.sending ≡ true))

-- What a flush or a shutdown answers: it is done once all is sent.
abbrev pub FlushesOutbox : Outboxed → PollCount → Type 0
FlushesOutbox outbox (CountReady (Ok n)) = IsSent outbox
FlushesOutbox outbox (CountReady (Err fault)) = outbox.fault ≡ Some fault
FlushesOutbox outbox CountPending = IsUnsent outbox
FlushesOutbox outbox CountAgain = ⊥

-- What a flush is to answer, and what was counted for it.
abbrev pub TurnsFlush : ℕ → Outboxed → Outboxed → Turn → Type 0
TurnsFlush task old new (Gives n) = IsSent old × (new.fault ≡ old.fault)
TurnsFlush task old new Waits = IsUnsent old × (new.fault ≡ old.fault) × Pauses task old.counts new.counts
TurnsFlush task old new (Fails fault) = (old.fault ≡ Some fault) × (new.fault ≡ None) × FailsBy old.counts new.counts fault

-- No byte was written or sent, and no flush or shutdown succeeded.
pub record SameBytes (old new : Outboxed) : Type 0 where
  pub unsent : new.unsent ≡ old.unsent
  pub free : new.free ≡ old.free
  pub flushes : new.flushes ≡ old.flushes
  pub shutdowns : new.shutdowns ≡ old.shutdowns

-- Bytes were written: their room isn't free any more.
abbrev pub PutIn : List ℕ → Outboxed → Outboxed → Type 0
PutIn bytes old new = new ≡ record old { unsent = old.unsent ++ bytes; free = old.free - length bytes }

-- Bytes are to be sent, and no fault came.
abbrev pub WantsSent : Outboxed → Type 0
WantsSent outbox = (outbox.unsent ≢ []) × (outbox.fault ≡ None)

-- A fault came that no call answered yet.
abbrev pub has_failed : Option IoFault → Bool
has_failed None = false
has_failed (Some fault) = true

-- The fault to answer after a send: its own, and else the one that no call answered yet.
abbrev pub later_fault : Option IoFault → Option IoFault → Option IoFault
later_fault None before = before
later_fault (Some fault) before = Some fault

-- A send has taken the first bytes. No room got lost.
pub record TakenOut (count : ℕ) (old new : Outboxed) : Type 0 where
  pub unsent : new.unsent ≡ drop count old.unsent
  pub same : new ≡ record old { unsent = new.unsent; free = new.free; sending = true }
  pub free : old.free ≤ new.free
