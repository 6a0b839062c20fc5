-- How a job that waits stands in a readiness driver, so that no turn forgets it. Cited by `turn_ready` and `park`.
use Rattle.std.specs.Prelude.{ℕ, ◌≡◌, ◌⊎◌, Bool, true, false, IsSome, IsTrue, Option, Some, None}
use Rattle.std.specs.FinMap as map
use Rattle.std.specs.List.{Contains}
use Rattle.rent_buf.specs.Buffer.{Buffer}
use Rattle.machine.specs.Attempt.{is_readable_at}
use Rattle.machine.specs.Lists.{has_number}
use Rattle.core_exec.specs.declared.table.Task.{Task}
use Rattle.core_exec.specs.declared.turn.Ran.{Ran}
use Rattle.core_exec.specs.Tasks.{job_in}
use Rattle.driver_core.specs.declared.op.Op.{Op}
use Rattle.driver_core.specs.declared.op.Turned.{Turned}
use Rattle.driver_core.specs.Holds.{named_in}
use Rattle.ready_driver.specs.declared.ready.Direction.{Direction}
use Rattle.ready_driver.specs.declared.ready.Direction.TheVariants.{Read}
use Rattle.ready_driver.specs.Awaits.{slot_awaits, unless}
use Rattle.ready_driver.specs.Calling.{Called}
use Rattle.ready_driver.specs.Io.{IoView}
use Rattle.ready_driver.specs.LegacyState.{LegacyState, ops_in}
use Rattle.ready_driver.specs.LegacyTurns.{LegacyTurns}
use Rattle.ready_driver.specs.Registry.{AreKeyed, is_known}
use Rattle.op_driver.specs.Legacy.{LegacyCancels, LegacyPolls, LegacySubmits}
use Rattle.op_job.specs.declared.op_job.OpJob.{OpJob}
use Rattle.op_job.specs.declared.op_job.State.{State}
use Rattle.op_job.specs.declared.op_job.State.TheVariants.{Unsent, Waiting}
use Rattle.op_job.specs.Met.{IsReached, IsWaiting}
use Rattle.op_job.specs.Waits.{IsAwaited, WaitsOps}

-- An operation stands in the list of a handle that its request names, and somebody holds: it waits there with its task, and no bit of the
-- handle meets its direction.
pub record StandsIn {I B : Type 0} (driver : LegacyState I B) (op : Op) (task : ℕ) : Type 0 where
  pub handle : ℕ
  pub direction : Direction
  pub names : has_number handle (named_in (map.get driver.slots.values op.key)) ≡ true
  pub known : is_known driver.handling.table handle ≡ true
  pub waits : IsWaiting driver.handling.records handle op.number task direction

-- It stands so, or the next turn names its task.
abbrev pub StandsOrNamed : {I B : Type 0} → LegacyState I B → Op → ℕ → Type 0
StandsOrNamed driver op task = StandsIn driver op task ⊎ Contains driver.asked task

-- What the object is, as the clauses of its driver say it.
module _ {I B : Type 0} (files : I → ℕ → Bool) (buffer : B → Buffer) (called : Called I) (view : I → IoView) (tells reporting memory : Bool)
  where
    -- A task waits for an operation since its last poll, which was pending.
    abbrev pub IsAwaitedReady : Op → ℕ → LegacyState I B → Type 0
    IsAwaitedReady op task driver = IsAwaited (LegacySubmits view tells memory) (LegacyPolls files buffer called view tells memory)
        LegacyCancels (LegacyTurns view tells reporting memory) ops_in op task driver

    -- At that poll its request waited for a direction of a handle that is no file.
    abbrev pub IsReported : Op → LegacyState I B → Type 0
    IsReported op before = IsSome (unless (files before.handling.io) (slot_awaits (map.get before.slots.values op.key)))

    -- It waits, and if so, it stands in its handle's list, or the next turn names the task.
    pub record IsKept (op : Op) (task : ℕ) (driver : LegacyState I B) : Type 0 where
      pub awaited : IsAwaitedReady op task driver
      pub kept : IsReported op awaited.before → StandsOrNamed driver op task

    -- A job waits for its operation so.
    abbrev pub KeptState : LegacyState I B → ℕ → State B → Type 0
    KeptState driver task (Unsent request) = ⊥
    KeptState driver task (Waiting op) = IsKept op task driver

    abbrev pub WaitsReady : {F : Type 0} → LegacyState I B → ℕ → OpJob B F → Type 0
    WaitsReady driver task job = KeptState driver task job.state

    -- What `turn` says of a job that waits, over this driver.
    abbrev pub WaitsLegacy : {F : Type 0} → LegacyState I B → ℕ → OpJob B F → Type 0
    WaitsLegacy driver task job = WaitsOps (LegacySubmits view tells memory) (LegacyPolls files buffer called view tells memory)
        LegacyCancels (LegacyTurns view tells reporting memory) ops_in driver task job

    -- A turn of the driver and one of the executor behind it: of the unfinished tasks, it came to each but those whose operations wait so
    -- behind the driver's turn, which no bit meets there.
    pub record WakesAll {F : Type 0} (old : LegacyState I B) (turned : Turned) (was : ℕ → Option (Task (OpJob B F))) (ran : Ran)
        : Type 0 where
      -- the driver behind its turn
      pub mid : LegacyState I B
      pub turns : LegacyTurns view tells reporting memory old mid turned
      pub each : (t : ℕ) (job : OpJob B F) → job_in (was t) ≡ Some job → IsReached ran.polled.items ran.stopped t ⊎ WaitsReady mid t job
      -- over a world in memory these wait to read, of handles that have nothing to read
      pub reads : turned.stop ≡ None → IsTrue memory → AreKeyed old.handling.table (view old.handling.io).keys → (op : Op) (t : ℕ)
          (stands : StandsIn mid op t) → (stands.direction ≡ Read) × (is_readable_at (view mid.handling.io).world stands.handle ≡ false)
