-- What the calls of a connection leave, one after another.
use Rattle.std.specs.Prelude.{◌≡◌}
use Rattle.rent_buf.specs.Rent.{Rented}
use Rattle.driver_core.specs.Ops.{Ops}
use Rattle.net_stream.specs.declared.connection.Connection.{Connection}
use Rattle.net_stream.specs.Connection.{FitsConnection, KeepsBeside}

-- The driver has the operations that a connection waits for now, each other operation that it had it has still, and the handle is the same.
pub record Leaves (old : Ops Rented) (before : Connection) (new : Ops Rented) (now : Connection) : Type 0 where
  pub fits : FitsConnection new now
  pub others : KeepsBeside old before new now
  pub same_fd : now.fd ≡ before.fd

-- Of a connection only its boxes have changed.
pub record SameCalls (before now : Connection) : Type 0 where
  pub same_fd : now.fd ≡ before.fd
  pub incoming : now.incoming ≡ before.incoming
  pub outgoing : now.outgoing ≡ before.outgoing
