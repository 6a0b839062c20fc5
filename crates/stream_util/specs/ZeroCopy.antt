-- A copy by splices: what each poll of it does.
use Rattle.std.specs.Prelude.{ℕ, ◌≡◌, ◌⊎◌, Bool, [], Result, Ok, Err}
use Rattle.rent_buf.specs.declared.fault.IoFault.{IoFault}
use Rattle.rent_buf.specs.declared.fault.IoFault.TheVariants.{OutOfMemory}
use Rattle.rent_io.specs.declared.poll.Step.{Step}
use Rattle.rent_io.specs.Polls.{TookNone}
use Rattle.rent_io.specs.Reader.{AtEnd}
use Rattle.stream_util.specs.Copy.{CopyFails, Copying, CopyPoll, Ends}
use Rattle.stream_util.specs.declared.copy.Copied.{Copied}

-- How it ends: as a copy does, but that the pipe's growth may be refused too.
abbrev pub IsZeroCopyEnd : Bool → Ends → Ends → Copying → Result ℕ IoFault → Type 0
IsZeroCopyEnd reads before now copy (Ok n) = (n ≡ copy.count) × (copy.held ≡ []) × AtEnd reads before.reader now.reader
IsZeroCopyEnd reads before now copy (Err fault) = CopyFails before now copy.held fault ⊎ (fault ≡ OutOfMemory) × (copy.held ≡ [])

-- The faults that such a copy may end with while nothing fails or pauses: a write took none of what it holds, or there was no memory for
-- the pipe, which is empty.
abbrev pub SplicesNone : Ends → Ends → Copying → IoFault → Type 0
SplicesNone before now copy fault = TookNone before.writer.counts now.writer.counts fault
    ⊎ (fault ≡ OutOfMemory) × (copy.held ≡ [])

-- A poll of it.
abbrev pub ZeroCopies : Bool → Bool → ℕ → Ends → Ends → Copying → Step Copying Copied → Type 0
ZeroCopies reads writes task before now copy step =
    CopyPoll reads writes task before now copy (IsZeroCopyEnd reads before now copy) step
