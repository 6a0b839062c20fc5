-- Which tasks a turn over a readiness driver can't pass over: those whose operations wait in a handle's list, and can go on. Cited by
-- `turn_ready` and `park`, and by the turns of other jobs.
use Rattle.std.specs.Prelude.{ℕ, ◌≡◌, ◌≤◌, ◌⊎◌, Bool, true, false, IsTrue, IsSome, List, Option, None, Some}
use Rattle.std.specs.List.{Contains}
use Rattle.machine.specs.Attempt.{is_readable_at}
use Rattle.core_exec.specs.declared.table.Task.{Task}
use Rattle.core_exec.specs.declared.turn.Ran.{Ran}
use Rattle.core_exec.specs.Marks.{has_number}
use Rattle.driver_core.specs.declared.op.Stop.{Stop}
use Rattle.driver_core.specs.declared.op.Turned.{Turned}
use Rattle.ready_driver.specs.declared.ready.Direction.{Direction}
use Rattle.ready_driver.specs.declared.ready.Direction.TheVariants.{Read, Write}
use Rattle.ready_driver.specs.Io.{IoView}
use Rattle.ready_driver.specs.LegacyState.{LegacyState}
use Rattle.ready_driver.specs.LegacyTurns.{LegacyTurns}
use Rattle.ready_driver.specs.Ready.{meets, mask_of}
use Rattle.ready_driver.specs.Records.{Kept, io_at}
use Rattle.ready_driver.specs.Registry.{AreKeyed, is_known}
use Rattle.ready_driver.specs.ScheduledIo.{entry_of, waiter_of}

-- A bit of a handle meets a direction.
abbrev pub is_met : Kept → ℕ → Direction → Bool
is_met records h dir = meets (io_at records h).ready (mask_of dir)

-- An operation waits with a task for a direction of a handle: its entry is in the handle's list, and no bit meets the direction. A pending
-- poll leaves it so.
pub record IsWaiting (records : Kept) (h number task : ℕ) (dir : Direction) : Type 0 where
  pub entry : waiter_of (io_at records h).waiting number ≡ Some (entry_of number task dir)
  pub unmet : is_met records h dir ≡ false

-- A turn of the driver names the task of each operation that waits, or leaves it waiting: then no bit meets its direction still.
abbrev pub NamesMet : Kept → Kept → List ℕ → Type 0
NamesMet old new tasks = (h number task : ℕ) (dir : Direction) → IsWaiting old h number task dir
    → Contains tasks task ⊎ IsWaiting new h number task dir

-- A task was polled, or memory ran out at one up to it.
abbrev pub IsReached : List ℕ → Option ℕ → ℕ → Type 0
IsReached polled stopped t = (has_number t polled ≡ true) ⊎ ((r : ℕ) × (stopped ≡ Some r) × (r ≤ t))

-- A turn of the driver and one of the executor behind it: of the unfinished tasks, it came to each whose operation waited in a handle's
-- list, of which a bit meets the direction once the driver's turn has ended; and to each that the driver was to name before, as it does
-- behind the cancel of an operation that waits. Where the driver's turn stopped the next one names these.
pub record MissesNone {I B J : Type 0} (view : I → IoView) (tells reporting memory : Bool) (old : LegacyState I B) (turned : Turned)
    (was : ℕ → Option (Task J)) (ran : Ran) : Type 0 where
  -- the driver behind its turn
  pub mid : LegacyState I B
  pub turns : LegacyTurns view tells reporting memory old mid turned
  pub waits : NamesMet old.handling.records mid.handling.records turns.tasks
  pub met : turned.stop ≡ None → (h number task : ℕ) (dir : Direction) → IsWaiting old.handling.records h number task dir
      → is_met mid.handling.records h dir ≡ true → IsSome (was task) → IsReached ran.polled.items ran.stopped task
  pub asked : turned.stop ≡ None → (task : ℕ) → Contains old.asked task → IsSome (was task) → IsReached ran.polled.items ran.stopped task
  pub later : (stop : Stop) → turned.stop ≡ Some stop → mid.asked ≡ turns.tasks
  -- over a world in memory a handle that somebody holds can be written, and read where something waits on it
  pub written : turned.stop ≡ None → IsTrue memory → AreKeyed old.handling.table (view old.handling.io).keys → (h number task : ℕ)
      → is_known mid.handling.table h ≡ true → IsWaiting old.handling.records h number task Write → IsSome (was task)
      → IsReached ran.polled.items ran.stopped task
  pub read : turned.stop ≡ None → IsTrue memory → AreKeyed old.handling.table (view old.handling.io).keys → (h number task : ℕ)
      → is_known mid.handling.table h ≡ true → is_readable_at (view mid.handling.io).world h ≡ true
      → IsWaiting old.handling.records h number task Read → IsSome (was task) → IsReached ran.polled.items ran.stopped task
