-- What the calls on a driver's handles do. Cited by `adopt`, `give`, `release` and `close`.
use Rattle.std.specs.Prelude.{ℕ, ◌≡◌, ◌+◌, ◌<◌, ◌≤◌, ◌==◌, Bool, true, false}
use Rattle.std.specs.FinMap as map
use Rattle.rent_buf.specs.Buffer.{Buffer}
use Rattle.handle_core.specs.Table.{by_user}
use Rattle.machine.specs.declared.ledger.Event.TheVariants.{Close}
use Rattle.machine.specs.declared.ledger.Reply.TheVariants.{Released}
use Rattle.machine.specs.Ledger.{Ledger}
use Rattle.ring_core.specs.Ring.{RingView}
use Rattle.uring_driver.specs.declared.uring.IoUringDriver.{IoUringDriver}
use Rattle.uring_driver.specs.Holding.{Holding, places}
use Rattle.uring_driver.specs.Uring.{room_in, holding_in}
use Rattle.uring_driver.specs.Stands.{Stands, Answers}

-- The user holds one handle more, once. All other handles stay.
pub record Adopts (old : Holding) (h : ℕ) (new : Holding) : Type 0 where
  pub table : new.table.holders ≡ map.insert old.table.holders h by_user
  pub closing : new.closing.holders ≡ old.closing.holders
  pub makers : new.makers ≡ old.makers

-- A driver has the memory of one handle more: of its close, in the ring and in the table of closes.
pub record HasHandleRoom {R B : Type 0} (driver : IoUringDriver R B) : Type 0 where
  pub close : places (holding_in driver) < (holding_in driver).closing.spare
  pub entry : map.len driver.slots.values + places (holding_in driver) + 1 ≤ room_in driver

-- A driver has the memory of a cancel for each slot, and of a close for each handle that is held or may be made.
abbrev pub HasCloseRoom : {R B : Type 0} → IoUringDriver R B → Type 0
HasCloseRoom driver = map.len driver.slots.values + places (holding_in driver) ≤ room_in driver

-- The user dropped a hold, by whether that was its only one: that is the machine's event, and else the driver stands for the same ledger.
abbrev pub ReleasesIf : {R B : Type 0} → (R → RingView) → (B → Buffer) → Ledger → ℕ → Bool → IoUringDriver R B → Type 0
ReleasesIf view buffer L h true new = Answers view buffer L (Close h) Released new
ReleasesIf view buffer L h false new = Stands view buffer new L

-- The user dropped one of its so many holds.
abbrev pub ReleasesFor : {R B : Type 0} → (R → RingView) → (B → Buffer) → Ledger → ℕ → ℕ → IoUringDriver R B → Type 0
ReleasesFor view buffer L h count new = ReleasesIf view buffer L h (count == 1) new
