-- Reserved memory for tasks, as contracts see it. Cited by `Rooms`, and by what a `ScheduledIo` keeps true.
use Rattle.std.specs.Prelude.{ℕ}
use Rattle.ready_driver.specs.declared.ready.Direction.{Direction}
use Rattle.ready_driver.specs.declared.ready.Direction.TheVariants.{Read, Write}

-- For how many tasks memory is reserved, for each direction.
pub record Rooms : Type 0 where
  pub reads : ℕ
  pub writes : ℕ

-- For how many tasks memory is reserved for a direction.
abbrev pub room_of : Rooms → Direction → ℕ
room_of rooms Read = rooms.reads
room_of rooms Write = rooms.writes
