-- When a table of holders and the keys of a world in memory are those of a readiness driver as plain data. Cited by the calls of
-- `LegacyDriver`.
use Rattle.std.specs.Prelude.{ℕ, ◌≡◌, List, length, Option}
use Rattle.handle_core.specs.Table.{Table, holders_at}
use Rattle.machine.specs.Lists.{numbers_where}
use Rattle.ready_driver.specs.Legacy.{Legacy, holds_at, is_on}
use Rattle.ready_driver.specs.Registry.{is_users, AreKeyed}

-- The user holds each handle in the table exactly where it does in the driver; as many operations hold it as there name it; each handle
-- that somebody holds is registered; and the user may hold as many handles as the world has.
pub record HandlesStand (table : Table) (keys : List (Option ℕ)) (D : Legacy) : Type 0 where
  pub users : (h : ℕ) → is_users table h ≡ holds_at D h
  pub operations : (h : ℕ) → (holders_at table h).operations ≡ length (numbers_where (is_on h) 0 D.slots)
  pub keyed : AreKeyed table keys
  pub counted : length D.users ≡ length D.world
  pub sized : length keys ≡ length D.world
