-- A stream that is written, and what a poll of a write does. Each clause on writers cites it.
use Rattle.std.specs.Prelude.{ℕ, ◌≡◌, ◌≤◌, Bool, IsTrue, List, [], ◌∷◌, ◌++◌, length, take, Some, Ok, Err}
use Rattle.rent_io.specs.declared.poll.PollBuf.{PollBuf}
use Rattle.rent_io.specs.declared.poll.PollBuf.TheVariants.{Ready, Pending, Again}
use Rattle.rent_io.specs.declared.poll.PollCount.{PollCount}
use Rattle.rent_io.specs.declared.poll.PollCount.TheVariants.{Ready as CountReady, Pending as CountPending, Again as CountAgain}
use Rattle.rent_buf.specs.declared.fault.IoFault.TheVariants.{WriteFault}
use Rattle.rent_io.specs.Counts.{Counts, Rose, no_counts}

-- A writer is the bytes that were delivered, its counts, and how many flushes and shutdowns succeeded.
pub record Writer : Type 0 where
  pub delivered : List ℕ
  pub counts : Counts
  pub flushes : ℕ
  pub shutdowns : ℕ

-- A writer flushed and shut down as often as another.
abbrev pub EndsStay : Writer → Writer → Type 0
EndsStay before now = (now.flushes ≡ before.flushes) × (now.shutdowns ≡ before.shutdowns)

-- A poll of a write of these bytes: the first n are delivered, or nothing is. The buffer comes back in each answer.
abbrev pub Writes : {T : Type 0} → Bool → List ℕ → List ℕ → List ℕ → T → PollBuf T → Type 0
Writes tells delivered now bytes buf (Ready (Ok n) back) = (back ≡ buf) × (n ≤ length bytes)
    × (IsTrue tells → now ≡ delivered ++ take n bytes)
Writes tells delivered now bytes buf (Ready (Err fault) back) = (back ≡ buf) × (IsTrue tells → now ≡ delivered)
Writes tells delivered now bytes buf (Pending back) = (back ≡ buf) × (IsTrue tells → now ≡ delivered)
Writes tells delivered now bytes buf (Again back) = (back ≡ buf) × (IsTrue tells → now ≡ delivered)

-- What a poll of a flush or a shutdown makes of the count of those that succeeded.
abbrev pub CountsDone : ℕ → ℕ → PollCount → Type 0
CountsDone before now (CountReady (Ok n)) = Rose before now
CountsDone before now (CountReady (Err fault)) = now ≡ before
CountsDone before now CountPending = now ≡ before
CountsDone before now CountAgain = now ≡ before

-- The bytes of the first part that has any, or none.
abbrev pub first_part : List (List ℕ) → List ℕ
first_part [] = []
first_part ([] ∷ parts) = first_part parts
first_part ((byte ∷ bytes) ∷ parts) = byte ∷ bytes

-- A sink as a writer, flushed and shut down so often: it never pauses, its faults are `WriteFault`, each write takes a byte of some, and it
-- counts no calls.
pub record SinkWriting (K : Type 0) : Type 0 where
  pub sink : K
  pub flushes : ℕ
  pub shutdowns : ℕ

abbrev pub sink_writer : {K : Type 0} → List ℕ → ℕ → SinkWriting K → Writer
sink_writer taken faults s = record {
  delivered = taken;
  counts = record no_counts { faults = faults; fault = Some WriteFault };
  flushes = s.flushes;
  shutdowns = s.shutdowns;
}

-- A fact of a poll that is done.
abbrev pub IfDone : PollCount → Type 0 → Type 0
IfDone (CountReady (Ok n)) P = P
IfDone (CountReady (Err fault)) P = Unit {0}
IfDone CountPending P = Unit {0}
IfDone CountAgain P = Unit {0}
