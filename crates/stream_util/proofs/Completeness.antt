-- Polls in which the counts of the streams don't rise get on.
use Rattle.std.proofs.Common.{◌≡◌, ℕ, inl, inr, List, Bool}
use Rattle.std.specs.Prelude.{IsTrue, Result, Ok, Err, IfErr}
use Rattle.rent_buf.specs.declared.fault.IoFault.{IoFault}
use Rattle.rent_io.specs.declared.poll.Step.{Step}
use Rattle.rent_io.specs.declared.poll.Step.TheVariants.{Ready, Pending, Again}
use Rattle.rent_io.specs.declared.poll.PollCount.{PollCount}
use Rattle.rent_io.specs.declared.poll.PollCount.TheVariants.{Ready as CountReady, Pending as CountPending, Again as CountAgain}
use Rattle.rent_io.specs.declared.poll.PollBuf.{PollBuf}
use Rattle.rent_io.specs.declared.poll.PollBuf.TheVariants.{Ready as BufReady, Pending as BufPending, Again as BufAgain}
use Rattle.rent_io.specs.Completeness.{IsQuiet, CountGetsOn, Completes, GetsOn}
use Rattle.rent_io.specs.Polls.{IsFlushCaused, IsWriteCaused, TookNone}
use Rattle.rent_io.specs.Writer.{Writer, Writes}
use Rattle.stream_util.specs.BufWriter.{TakesNothing, WriteGetsOn}
use Rattle.stream_util.specs.Copy.{CopyFails, CopyPoll, Copying, Ends, IsCopyEnd, Copies, CopyCompletes, MovesSome}
use Rattle.stream_util.specs.Split.{IsShutdownEnd, ShutsDown, part_in}
use Rattle.stream_util.specs.ZeroCopy.{IsZeroCopyEnd, ZeroCopies, SplicesNone}
use Rattle.stream_util.specs.declared.copy.Copied.{Copied}

module _ (before now : Ends) (reader : IsQuiet before.reader.counts now.reader.counts)
    (writer : IsQuiet before.writer.counts now.writer.counts) where
  -- A copy fails so.
  copy_fails : (held : List ℕ) (fault : IoFault) → CopyFails before now held fault → TookNone before.writer.counts now.writer.counts fault
  copy_fails held fault (inl failed) = absurd (reader.0 failed.0)
  copy_fails held fault (inr (inl failed)) = absurd (writer.0 failed.0)
  copy_fails held fault (inr (inr none)) = none.1

  -- A copy ends so.
  copy_end : (reads : Bool) (copy : Copying) (end : Result ℕ IoFault) → IsCopyEnd reads before now copy end
      → IfErr end (TookNone before.writer.counts now.writer.counts)
  copy_end reads copy (Ok n) is = tt
  copy_end reads copy (Err fault) is = copy_fails copy.held fault is

  -- A copy by splices ends so.
  zero_copy_end : (reads : Bool) (copy : Copying) (end : Result ℕ IoFault) → IsZeroCopyEnd reads before now copy end
      → IfErr end (SplicesNone before now copy)
  zero_copy_end reads copy (Ok n) is = tt
  zero_copy_end reads copy (Err fault) (inl failed) = inl (copy_fails copy.held fault failed)
  zero_copy_end reads copy (Err fault) (inr none) = inr none

  -- A copy that ends so gets on.
  copy_gets_on : (reads writes : Bool) (task : ℕ) (copy : Copying) (ends : Result ℕ IoFault → Type 0) (faults : IoFault → Type 0)
      (step : Step Copying Copied) → ((end : Result ℕ IoFault) → ends end → IfErr end faults)
      → CopyPoll reads writes task before now copy ends step
      → GetsOn step (λ copied. IfErr copied.result faults) (λ next. MovesSome reads writes before now copy next)
  copy_gets_on reads writes task copy ends faults (Ready copied) is_end is = is_end copied.result is.2
  copy_gets_on reads writes task copy ends faults (Pending next) is_end (same, nothing, inl paused) = reader.1 paused.0
  copy_gets_on reads writes task copy ends faults (Pending next) is_end (same, nothing, inr paused) = writer.1 paused.0
  copy_gets_on reads writes task copy ends faults (Again next) is_end (inl (same, nothing, inl rose)) = absurd (reader.2 rose)
  copy_gets_on reads writes task copy ends faults (Again next) is_end (inl (same, nothing, inr rose)) = absurd (writer.2 rose)
  copy_gets_on reads writes task copy ends faults (Again next) is_end (inr moves) = moves

-- A copy gets on.
pub copy_completes : (reads writes : Bool) (task : ℕ) (before now : Ends) (copy : Copying) (step : Step Copying Copied)
    → Copies reads writes task before now copy step
    → CopyCompletes reads writes before now copy step (TookNone before.writer.counts now.writer.counts)
copy_completes reads writes task before now copy step is reader writer =
    copy_gets_on before now reader writer reads writes task copy (IsCopyEnd reads before now copy)
    (TookNone before.writer.counts now.writer.counts) step (copy_end before now reader writer reads copy) is

-- A copy by splices gets on.
pub zero_copy_completes : (reads writes : Bool) (task : ℕ) (before now : Ends) (copy : Copying) (step : Step Copying Copied)
    → ZeroCopies reads writes task before now copy step
    → CopyCompletes reads writes before now copy step (SplicesNone before now copy)
zero_copy_completes reads writes task before now copy step is reader writer =
    copy_gets_on before now reader writer reads writes task copy (IsZeroCopyEnd reads before now copy) (SplicesNone before now copy) step
    (zero_copy_end before now reader writer reads copy) is

-- A shutdown ends so.
shutdown-end : (before now : Writer) (end : Result ℕ IoFault) → IsQuiet before.counts now.counts → IsShutdownEnd before now end
    → IfErr end (TookNone before.counts now.counts)
shutdown-end before now (Ok n) quiet is = tt
shutdown-end before now (Err fault) quiet (inl failed, same) = absurd (quiet.0 failed.0)
shutdown-end before now (Err fault) quiet (inr none, same) = none

-- A shutdown gets on.
pub shutdown_completes : {W : Type 0} (writer : W → Writer) (tells : Bool) (task : ℕ) (part : W) (step : Step W (Result ℕ IoFault × W))
    → ShutsDown writer tells task part step
    → Completes (writer part).counts (writer (part_in step)).counts step
    (λ end. IfErr end.0 (TookNone (writer part).counts (writer (part_in step)).counts)) (λ next. ⊥)
shutdown_completes writer tells task part (Ready end) is quiet = shutdown-end (writer part) (writer end.1) end.0 quiet is.1
shutdown_completes writer tells task part (Pending next) is quiet = quiet.1 is.1.0
shutdown_completes writer tells task part (Again next) is quiet = quiet.2 is.1

-- A poll that has its cause in the counts, and delivers nothing, gets on.
pub count_gets_on : (tells : Bool) (task : ℕ) (before now : Writer) (result : PollCount) (further : Type 0)
    → IsFlushCaused task before.counts now.counts result → (IsTrue tells → now.delivered ≡ before.delivered)
    → IsQuiet before.counts now.counts → CountGetsOn result (TakesNothing tells before now) further
count_gets_on tells task before now (CountReady (Ok n)) further cause same quiet = tt
count_gets_on tells task before now (CountReady (Err fault)) further (inl failed) same quiet = absurd (quiet.0 failed.0)
count_gets_on tells task before now (CountReady (Err fault)) further (inr none) same quiet = (none, same)
count_gets_on tells task before now CountPending further cause same quiet = quiet.1 cause.0
count_gets_on tells task before now CountAgain further cause same quiet = absurd (quiet.2 cause)

-- The same of a write.
pub write_gets_on : {T : Type 0} (tells : Bool) (task : ℕ) (before now : Writer) (bytes : List ℕ) (buf : T) (result : PollBuf T)
    (further : Type 0) → IsWriteCaused task before.counts now.counts result
    → Writes tells before.delivered now.delivered bytes buf result → IsQuiet before.counts now.counts
    → WriteGetsOn result (TakesNothing tells before now) further
write_gets_on tells task before now bytes buf (BufReady (Ok n) back) further cause writes quiet = tt
write_gets_on tells task before now bytes buf (BufReady (Err fault) back) further (inl failed) writes quiet =
    absurd (quiet.0 failed.0)
write_gets_on tells task before now bytes buf (BufReady (Err fault) back) further (inr none) writes quiet = (none, writes.1)
write_gets_on tells task before now bytes buf (BufPending back) further cause writes quiet = quiet.1 cause.0
write_gets_on tells task before now bytes buf (BufAgain back) further cause writes quiet = absurd (quiet.2 cause)
