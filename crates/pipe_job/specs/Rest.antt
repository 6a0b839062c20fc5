-- What a call of a job leaves of its driver beside the job. Cited by `step` and `PipeJob`.
use Rattle.std.specs.Prelude.{ℕ, ◌≡◌, ◌<◌, ◌≤◌, ◌⊎◌, ◌↔◌}
use Rattle.handle_core.specs.Table.{Table, holders_at}
use Rattle.rent_buf.specs.Rent.{Rented}
use Rattle.driver_core.specs.declared.op.Op.{Op}
use Rattle.driver_core.specs.Op.{Holds, number_of}
use Rattle.ready_driver.specs.LegacyState.{LegacyState, ops_in}
use Rattle.pipe_job.specs.Waits.{ApartWaits}
use Rattle.pipe_job.specs.declared.step.Wait.{Wait}
use Rattle.pipe_job.specs.declared.step.Wait.TheVariants.{Room, Waiting}

-- The user holds each handle as often.
abbrev pub SameUsers : Table → Table → Type 0
SameUsers old new = (h : ℕ) → (holders_at new h).user ≡ (holders_at old h).user

-- The user holds each handle as often; the driver holds each operation that was submitted before, but the job's own, exactly if it did; and
-- no fewer were submitted.
pub record LeavesRest {I : Type 0} (old new : LegacyState I Rented) (wait : Wait) : Type 0 where
  pub users : SameUsers old.handling.table new.handling.table
  pub held : (op : Op) → ApartWaits wait (Waiting op) → number_of op < old.given → Holds (ops_in old) op ↔ Holds (ops_in new) op
  pub given : old.given ≤ new.given

-- What a job waits for it waited for before, or it was submitted since so many were.
abbrev pub IsOwnOrNew : ℕ → Wait → Wait → Type 0
IsOwnOrNew given wait (Room room) = Unit {0}
IsOwnOrNew given wait (Waiting next) = (wait ≡ Waiting next) ⊎ (given ≤ number_of next)
