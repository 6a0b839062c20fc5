-- Handles that are closed, and what that leaves.
use Rattle.std.specs.Prelude.{ℕ, ◌≡◌, ◌≢◌, false, List, Some, slice_get}
use Rattle.rent_buf.specs.Rent.{Rented}
use Rattle.handle_core.specs.Table.{Table}
use Rattle.driver_core.specs.Ops.{Ops}
use Rattle.ready_driver.specs.LegacyState.{LegacyState}
use Rattle.ready_driver.specs.Registry.{is_users}
use Rattle.net_server.specs.declared.net_job.NetEnd.{NetEnd}
use Rattle.net_server.specs.declared.net_job.NetEnd.TheVariants.{Accepted, NotAccepted, Ended}

-- The operations are as before.
pub record SameSlots (old new : Ops Rented) : Type 0 where
  pub slots : new.slots.values ≡ old.slots.values
  pub given : new.given ≡ old.given

-- Who holds the handles of a driver.
abbrev pub table_of : {I : Type 0} → LegacyState I Rented → Table
table_of driver = driver.handling.table

-- The user holds no handle that it didn't hold.
pub record GainsNone (old new : Table) : Type 0 where
  pub none : (h : ℕ) → is_users old h ≡ false → is_users new h ≡ false

-- But for one handle the user holds none that it didn't hold.
pub record GainsOne (old new : Table) (h : ℕ) : Type 0 where
  pub others : (k : ℕ) → k ≢ h → is_users old k ≡ false → is_users new k ≡ false

-- Of a connection that ended the user doesn't hold the handle.
abbrev pub IsClosed : {S : Type 0} → Table → NetEnd S → Type 0
IsClosed table (Accepted fd) = Unit {0}
IsClosed table (NotAccepted why) = Unit {0}
IsClosed table (Ended ended) = is_users table ended.fd ≡ false

-- So it is of each connection among what ended.
pub record AreClosed {S : Type 0} (table : Table) (ended : List (ℕ × NetEnd S)) : Type 0 where
  pub closed : (i : ℕ) (end : ℕ × NetEnd S) → slice_get ended i ≡ Some end → IsClosed table end.1
