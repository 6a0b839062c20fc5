-- The causes of what a poll answers.
use Rattle.std.specs.Prelude.{ℕ, ◌≡◌, ◌⊎◌, Some, Ok, Err}
use Rattle.rent_buf.specs.declared.fault.IoFault.{IoFault}
use Rattle.rent_buf.specs.declared.fault.IoFault.TheVariants.{WriteZero}
use Rattle.rent_io.specs.declared.poll.PollBuf.{PollBuf}
use Rattle.rent_io.specs.declared.poll.PollBuf.TheVariants.{Ready, Pending, Again}
use Rattle.rent_io.specs.declared.poll.PollCount.{PollCount}
use Rattle.rent_io.specs.declared.poll.PollCount.TheVariants.{Ready as CountReady, Pending as CountPending, Again as CountAgain}
use Rattle.rent_io.specs.Counts.{Counts, Rose}

-- The stream failed, and this was its last fault.
abbrev pub Fails : Counts → Counts → IoFault → Type 0
Fails before now fault = Rose before.faults now.faults × (now.fault ≡ Some fault)

-- A write took none of some bytes.
abbrev pub TookNone : Counts → Counts → IoFault → Type 0
TookNone before now fault = (fault ≡ WriteZero) × Rose before.zeros now.zeros

-- The cause of a fault of a stream that is written: it failed so, or a write took none of some bytes.
abbrev pub WriteFails : Counts → Counts → IoFault → Type 0
WriteFails before now fault = Fails before now fault ⊎ TookNone before now fault

-- The stream paused, and will wake this task.
abbrev pub Pauses : ℕ → Counts → Counts → Type 0
Pauses task before now = Rose before.pauses now.pauses × (now.waiter ≡ task)

-- A poll of a read: a fault is the stream's last, Pending comes only by a pause, for this task, and Again only by an interrupt.
abbrev pub IsCaused : {T : Type 0} → ℕ → Counts → Counts → PollBuf T → Type 0
IsCaused task before now (Ready (Ok n) back) = Unit {0}
IsCaused task before now (Ready (Err fault) back) = Fails before now fault
IsCaused task before now (Pending back) = Pauses task before now
IsCaused task before now (Again back) = Rose before.interrupts now.interrupts

-- The same of a poll of a write.
abbrev pub IsWriteCaused : {T : Type 0} → ℕ → Counts → Counts → PollBuf T → Type 0
IsWriteCaused task before now (Ready (Ok n) back) = Unit {0}
IsWriteCaused task before now (Ready (Err fault) back) = WriteFails before now fault
IsWriteCaused task before now (Pending back) = Pauses task before now
IsWriteCaused task before now (Again back) = Rose before.interrupts now.interrupts

-- The same of a poll of a fill.
abbrev pub IsCountCaused : ℕ → Counts → Counts → PollCount → Type 0
IsCountCaused task before now (CountReady (Ok n)) = Unit {0}
IsCountCaused task before now (CountReady (Err fault)) = Fails before now fault
IsCountCaused task before now CountPending = Pauses task before now
IsCountCaused task before now CountAgain = Rose before.interrupts now.interrupts

-- The same of a poll of a flush or a shutdown.
abbrev pub IsFlushCaused : ℕ → Counts → Counts → PollCount → Type 0
IsFlushCaused task before now (CountReady (Ok n)) = Unit {0}
IsFlushCaused task before now (CountReady (Err fault)) = WriteFails before now fault
IsFlushCaused task before now CountPending = Pauses task before now
IsFlushCaused task before now CountAgain = Rose before.interrupts now.interrupts

-- A poll that moves none of so many bytes is counted as that.
abbrev pub CountsNone : {T : Type 0} → ℕ → Counts → Counts → PollBuf T → Type 0
CountsNone size before now (Ready (Ok n) back) = n ≡ 0 → (size ≡ 0) ⊎ Rose before.zeros now.zeros
CountsNone size before now (Ready (Err fault) back) = Unit {0}
CountsNone size before now (Pending back) = Unit {0}
CountsNone size before now (Again back) = Unit {0}

-- A fill that buffers none is counted as that.
abbrev pub CountsEnd : Counts → Counts → PollCount → Type 0
CountsEnd before now (CountReady (Ok n)) = n ≡ 0 → Rose before.zeros now.zeros
CountsEnd before now (CountReady (Err fault)) = Unit {0}
CountsEnd before now CountPending = Unit {0}
CountsEnd before now CountAgain = Unit {0}
