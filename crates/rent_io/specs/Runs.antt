-- What an exact read and a write of all bytes have done after many polls: one law for every schedule of pauses, short calls, interrupts
-- and faults. The clause `run` of `drive` cites it.
use Rattle.std.specs.Prelude.{ℕ, ◌≡◌, ◌+◌, ◌-◌, ◌^◌, ◌<◌, ◌≤◌, ◌⊎◌, min, Bool, IsTrue, List, ◌++◌, length, Option, Result, Ok, Err}
use Rattle.rent_buf.specs.declared.fault.IoFault.{IoFault}
use Rattle.rent_buf.specs.declared.fault.IoFault.TheVariants.{WriteZero}
use Rattle.rent_io.specs.Counts.{Counts, Rose}
use Rattle.rent_io.specs.Polls.{Fails}
use Rattle.rent_io.specs.Writer.{EndsStay, Writer}
use Rattle.rent_io.specs.WriteAll.{Sending}

-- What so many calls at most, plain or under this cancel group, make of the counts: none falls, and each call counts once.
pub record AfterCalls (group : Option ℕ) (most : ℕ) (before now : Counts) : Type 0 where
  pub faults_stay : before.faults ≤ now.faults
  pub pauses_stay : before.pauses ≤ now.pauses
  pub interrupts_stay : before.interrupts ≤ now.interrupts
  pub zeros_stay : before.zeros ≤ now.zeros
  pub most_calls : now.calls ≤ before.calls + most
  pub under : (now.group ≡ before.group) ⊎ (now.group ≡ group)

-- So many polls, none of which was the end: each made a measure grow, from one number to another, or the pauses or the interrupts rise, as
-- far as a `u64` counts.
pub record AreUsed (polls from upto : ℕ) (before now : Counts) : Type 0 where
  pub paused : ℕ
  pub interrupted : ℕ
  pub each : polls + from ≤ upto + paused + interrupted
  pub pauses : min (before.pauses + paused) (2 ^ 64 - 1) ≤ now.pauses
  pub interrupts : min (before.interrupts + interrupted) (2 ^ 64 - 1) ≤ now.interrupts

-- A write of all bytes that isn't done: those that were delivered are the first ones, each once and in order, and nothing was flushed or
-- shut down.
pub record HasSent {T : Type 0} (tells : Bool) (before now : Writer) (s next : Sending T) : Type 0 where
  pub sent : List ℕ
  pub cut : s.rest ≡ sent ++ next.rest
  pub same_buf : next.buf ≡ s.buf
  pub same_total : next.total ≡ s.total
  pub joined : IsTrue tells → now.delivered ≡ before.delivered ++ sent
  pub ends : EndsStay before now

-- A write of all bytes that ended at a fault: the first ones were delivered, and the stream's faults rose, or it took none of the rest.
pub record StopsSending {T : Type 0} (tells : Bool) (before now : Writer) (s : Sending T) (fault : IoFault) : Type 0 where
  pub sent : List ℕ
  pub unsent : List ℕ
  pub cut : s.rest ≡ sent ++ unsent
  pub joined : IsTrue tells → now.delivered ≡ before.delivered ++ sent
  pub cause : Fails before.counts now.counts fault
      ⊎ ((fault ≡ WriteZero) × (0 < length unsent) × Rose before.counts.zeros now.counts.zeros)

-- How polls of a write of all bytes end: with all delivered, or at a fault.
abbrev pub AllRunEnd : {T : Type 0} → Bool → Writer → Writer → Sending T → Result ℕ IoFault → Type 0
AllRunEnd tells before now s (Ok n) = (n ≡ s.total) × (IsTrue tells → now.delivered ≡ before.delivered ++ s.rest)
AllRunEnd tells before now s (Err fault) = StopsSending tells before now s fault

-- The same with the buffer, which comes back as it was; nothing was flushed or shut down.
abbrev pub EndsAll : {T : Type 0} → Bool → Writer → Writer → Sending T → Result ℕ IoFault × T → Type 0
EndsAll tells before now s end = AllRunEnd tells before now s end.0 × (end.1 ≡ s.buf) × EndsStay before now
