-- Counts that a stream, a source or a sink keeps. Each clause that gives an answer its cause cites it.
use Rattle.std.specs.Prelude.{ℕ, ◌≡◌, ◌+◌, ◌-◌, ◌^◌, ◌≤◌, ◌⊎◌, min, Option, None}
use Rattle.rent_buf.specs.declared.fault.IoFault.{IoFault}
pub use Rattle.rent_buf.specs.Counts.{Rose}

-- The counts of a stream: its faults, and the last one; its pauses, and the task that it wakes after the last one; its interrupts, after
-- which it wakes nobody; the calls that moved none of some bytes, as a read that gave none of some room and a write that took none of some
-- bytes; and the calls that were made of it, and the cancel group of the last one.
pub record Counts : Type 0 where
  pub faults : ℕ
  pub fault : Option IoFault
  pub pauses : ℕ
  pub waiter : ℕ
  pub interrupts : ℕ
  pub zeros : ℕ
  pub calls : ℕ
  pub group : Option ℕ

-- What one call, plain or under this cancel group, makes of the counts: none falls, it counts as one call at most, and where a call
-- was made the group is that one.
pub record AfterCall (group : Option ℕ) (before now : Counts) : Type 0 where
  pub faults_stay : before.faults ≤ now.faults
  pub pauses_stay : before.pauses ≤ now.pauses
  pub interrupts_stay : before.interrupts ≤ now.interrupts
  pub zeros_stay : before.zeros ≤ now.zeros
  pub one_call : now.calls ≤ before.calls + 1
  pub under : (now.group ≡ before.group) ⊎ (now.group ≡ group)

-- Counts of what was never called.
abbrev pub no_counts : Counts
no_counts = record
    { faults = 0; fault = None; pauses = 0; waiter = 0; interrupts = 0; zeros = 0; calls = 0; group = None }

-- Counts of what never fails and never pauses, and keeps no count of the calls that moved nothing: that one is full, and may have risen at
-- each call.
abbrev pub slice_counts : Counts
slice_counts = record no_counts { zeros = 2 ^ 64 - 1 }

-- A count once more. It stays at the last value of a `u64`.
abbrev pub once_more : ℕ → ℕ
once_more count = min (count + 1) (2 ^ 64 - 1)
