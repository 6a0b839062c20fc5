-- What a call on one operation leaves of what the others wait for. Cited by `polls-keep`.
use Rattle.std.specs.Prelude.{ℕ, ◌≡◌, ◌≢◌, true, false, Some}
use Rattle.ready_driver.specs.declared.ready.Direction.{Direction}
use Rattle.ready_driver.specs.declared.scheduled_io.Waiter.{Waiter}
use Rattle.ready_driver.specs.Ready.{meets, mask_of}
use Rattle.ready_driver.specs.Records.{Kept, io_at}
use Rattle.ready_driver.specs.Registry.{Handling, is_known}
use Rattle.ready_driver.specs.ScheduledIo.{waiter_of}

-- An operation waits with this entry in the list of a handle.
abbrev pub HasEntry : Kept → ℕ → ℕ → Waiter → Type 0
HasEntry records h number entry = waiter_of (io_at records h).waiting number ≡ Some entry

-- No bit of a handle meets a direction.
abbrev pub MeetsNone : Kept → ℕ → Direction → Type 0
MeetsNone records h dir = meets (io_at records h).ready (mask_of dir) ≡ false

-- The entry of each operation but one stays in the list of its handle, where somebody holds that still; and no bit meets a direction that
-- none met.
pub record KeepsOthers {I : Type 0} (old new : Handling I) (mine : ℕ) : Type 0 where
  pub entries : (h number : ℕ) (entry : Waiter) → number ≢ mine → is_known new.table h ≡ true → HasEntry old.records h number entry →
      HasEntry new.records h number entry
  pub unmet : (h : ℕ) (dir : Direction) → MeetsNone old.records h dir → MeetsNone new.records h dir
