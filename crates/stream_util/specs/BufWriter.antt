-- A writer with a buffer: what a write, a flush and a shutdown of it do.
use Rattle.std.specs.Prelude.{ℕ, ◌≡◌, ◌+◌, ◌<◌, ◌≤◌, ◌⊎◌, Bool, IsTrue, List, [], ◌++◌, length, Ok, Err, IfErr}
use Rattle.rent_buf.specs.declared.fault.IoFault.{IoFault}
use Rattle.rent_io.specs.Completeness.{IsQuiet, CountGetsOn}
use Rattle.rent_io.specs.Counts.{Counts, Rose}
use Rattle.rent_io.specs.Polls.{Pauses, TookNone, WriteFails}
use Rattle.rent_io.specs.Writer.{Writer}
use Rattle.rent_io.specs.declared.poll.PollBuf.{PollBuf}
use Rattle.rent_io.specs.declared.poll.PollBuf.TheVariants.{Ready, Pending as BufPending, Again as BufAgain}
use Rattle.rent_io.specs.declared.poll.PollCount.{PollCount}
use Rattle.rent_io.specs.declared.poll.PollCount.TheVariants.{Ready as CountReady, Pending as CountPending, Again as CountAgain}
use Rattle.stream_util.specs.declared.buf_writer.Offered.{Offered}
use Rattle.stream_util.specs.declared.buf_writer.Offered.TheVariants.{Taken, PassOn, Pending, Again, Fault}

-- Such a writer is the one inside, the bytes that are buffered, and how many it buffers at most. It counts the writes of its buffer that
-- took some bytes, which are interrupts.
pub record Writing (W : Type 0) : Type 0 where
  pub inner : W
  pub held : List ℕ
  pub capacity : ℕ
  pub moved : ℕ

-- A new one over a writer.
abbrev pub fresh_writer : {W : Type 0} → W → ℕ → Writing W
fresh_writer inner capacity = record { inner = inner; held = []; capacity = capacity; moved = 0 }

-- Its counts, by those of the writer inside.
abbrev pub counts_over : {W : Type 0} → Counts → Writing W → Counts
counts_over counts w = record counts { interrupts = counts.interrupts + w.moved }

-- It as a writer: what the one inside delivered and what is buffered, joined, is what was delivered to it.
abbrev pub writer_over : {W : Type 0} → Writer → Writing W → Writer
writer_over inner w = record
    { delivered = inner.delivered ++ w.held; counts = counts_over inner.counts w; flushes = inner.flushes; shutdowns = inner.shutdowns }

-- The first bytes that were buffered were delivered, and left the buffer at once. The others stay.
pub record Pushes (tells : Bool) (before now : Writer) (held later : List ℕ) : Type 0 where
  pub sent : List ℕ
  pub cut : held ≡ sent ++ later
  pub delivered : IsTrue tells → now.delivered ≡ before.delivered ++ sent

-- The cause of what a write of the buffer answers: a fault, or a pause of the stream inside, or an interrupt or that bytes moved. It is
-- never done.
abbrev pub IsPushCaused : ℕ → Counts → Counts → PollCount → Type 0
IsPushCaused task before now (CountReady (Ok n)) = ⊥
IsPushCaused task before now (CountReady (Err fault)) = WriteFails before now fault
IsPushCaused task before now CountPending = Pauses task before now
IsPushCaused task before now CountAgain = Rose before.interrupts now.interrupts

-- A write took none of some bytes, and the stream inside was delivered nothing.
abbrev pub TakesNothing : Bool → Writer → Writer → IoFault → Type 0
TakesNothing tells before now fault = TookNone before.counts now.counts fault × (IsTrue tells → now.delivered ≡ before.delivered)

-- A poll of a flush or a shutdown in which no count of the stream inside rose got on: it is done, or less is buffered, or it ended since a
-- write took none of what is buffered.
abbrev pub FlushCompletes : Bool → Writer → Writer → List ℕ → List ℕ → PollCount → Type 0
FlushCompletes tells before now held later result = IsQuiet before.counts now.counts
    → CountGetsOn result (TakesNothing tells before now) (length later < length held)

-- A poll of a write got on: it took bytes, or ended with one of these faults; or it answers Again, and this is so.
abbrev pub WriteGetsOn : {T : Type 0} → PollBuf T → (IoFault → Type 0) → Type 0 → Type 0
WriteGetsOn (Ready end back) faults further = IfErr end faults
WriteGetsOn (BufPending back) faults further = ⊥
WriteGetsOn (BufAgain back) faults further = further

-- A poll of a write in which no count of the stream inside rose got on: it took bytes, or less is buffered, or it ended since a write took
-- none of what is buffered.
abbrev pub WriteCompletes : {T : Type 0} → Bool → Writer → Writer → List ℕ → List ℕ → PollBuf T → Type 0
WriteCompletes tells before now held later result = IsQuiet before.counts now.counts
    → WriteGetsOn result (TakesNothing tells before now) (length later < length held)

-- A poll got further: less is buffered, or the stream inside was interrupted.
abbrev pub GetsFurther : Counts → Counts → List ℕ → List ℕ → Type 0
GetsFurther before now held later = (length later < length held) ⊎ Rose before.interrupts now.interrupts

-- A fact of a poll that answers Again: of a write, and of a flush or a shutdown.
abbrev pub IfAgain : {T : Type 0} → PollBuf T → Type 0 → Type 0
IfAgain (Ready end back) P = Unit {0}
IfAgain (BufPending back) P = Unit {0}
IfAgain (BufAgain back) P = P

abbrev pub IfCountAgain : PollCount → Type 0 → Type 0
IfCountAgain (CountReady end) P = Unit {0}
IfCountAgain CountPending P = Unit {0}
IfCountAgain CountAgain P = P

-- Bytes don't fit behind some that are buffered.
abbrev pub IsFull : {W : Type 0} → Writing W → List ℕ → Type 0
IsFull w bytes = (w.capacity < length w.held + length bytes) × (0 < length w.held)

-- What becomes of bytes that are offered to the buffer. They are taken exactly if they fit behind those that are buffered; they are to
-- be passed on if nothing is buffered and they are more than the buffer takes; and else a write of the buffer was made first.
abbrev pub Offers : {W : Type 0} → ℕ → Counts → Counts → Writing W → Writing W → List ℕ → Offered → Type 0
Offers task counts later before now bytes Taken =
    (length before.held + length bytes ≤ before.capacity) × (now ≡ record before { held = before.held ++ bytes })
Offers task counts later before now bytes PassOn = (before.held ≡ []) × (before.capacity < length bytes) × (now ≡ before)
Offers task counts later before now bytes Pending = IsFull before bytes × Pauses task (counts_over counts before) (counts_over later now)
Offers task counts later before now bytes Again =
    IsFull before bytes × Rose (counts_over counts before).interrupts (counts_over later now).interrupts
Offers task counts later before now bytes (Fault fault) =
    IsFull before bytes × WriteFails (counts_over counts before) (counts_over later now) fault

-- A fact of an offer at which the buffer was written.
abbrev pub IfPushed : Offered → Type 0 → Type 0
IfPushed Taken P = Unit {0}
IfPushed PassOn P = Unit {0}
IfPushed Pending P = P
IfPushed Again P = P
IfPushed (Fault fault) P = P

-- An offer at which no count of the stream inside rose: it was taken or is to be passed on, or less is buffered, or a write took none of
-- what is buffered.
abbrev pub OfferCompletes : Bool → Writer → Writer → List ℕ → List ℕ → Offered → Type 0
OfferCompletes tells before now held later Taken = Unit {0}
OfferCompletes tells before now held later PassOn = Unit {0}
OfferCompletes tells before now held later Pending = IsQuiet before.counts now.counts → ⊥
OfferCompletes tells before now held later Again = IsQuiet before.counts now.counts → length later < length held
OfferCompletes tells before now held later (Fault fault) =
    IsQuiet before.counts now.counts → TakesNothing tells before now fault

-- A fact of an offer at which the buffer was written, and another write may be made at once.
abbrev pub IfOfferAgain : Offered → Type 0 → Type 0
IfOfferAgain Taken P = Unit {0}
IfOfferAgain PassOn P = Unit {0}
IfOfferAgain Pending P = Unit {0}
IfOfferAgain Again P = P
IfOfferAgain (Fault fault) P = Unit {0}

-- A poll of a write took the bytes of a buffer whole.
abbrev pub TakesWhole : {T : Type 0} → List ℕ → PollBuf T → Type 0
TakesWhole bytes (Ready (Ok n) back) = n ≡ length bytes
TakesWhole bytes (Ready (Err fault) back) = ⊥
TakesWhole bytes (BufPending back) = ⊥
TakesWhole bytes (BufAgain back) = ⊥

-- A poll of a write took nothing.
abbrev pub TakesNone : {T : Type 0} → PollBuf T → Type 0
TakesNone (Ready (Ok n) back) = ⊥
TakesNone (Ready (Err fault) back) = Unit {0}
TakesNone (BufPending back) = Unit {0}
TakesNone (BufAgain back) = Unit {0}

-- The rule for a write. Bytes that fit are buffered, all of them, and nothing else changes. If some are buffered and more don't fit, the
-- buffer is written and none is taken. Bytes that alone are more than an empty buffer takes are not buffered.
pub record WriteRule {W T : Type 0} (inner : W → Writer) (tells : Bool) (before now : Writing W) (bytes : List ℕ) (result : PollBuf T)
    : Type 0 where
  pub buffers : length before.held + length bytes ≤ before.capacity
      → (now ≡ record before { held = before.held ++ bytes }) × TakesWhole bytes result
  pub writes : before.capacity < length before.held + length bytes → 0 < length before.held
      → TakesNone result × Pushes tells (inner before.inner) (inner now.inner) before.held now.held
  pub passes : before.held ≡ [] → before.capacity < length bytes → now.held ≡ []
