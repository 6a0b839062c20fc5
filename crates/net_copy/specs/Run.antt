-- Two connections of a copy, and the driver that has their operations.
use Rattle.rent_buf.specs.Rent.{Rented}
use Rattle.driver_core.specs.Ops.{Ops}
use Rattle.net_stream.specs.declared.connection.Connection.{Connection}
use Rattle.net_stream.specs.Connection.{AreBeside, FitsConnection}

-- The driver has the operations that both wait for, and these are different ones.
pub record FitsBoth (ops : Ops Rented) (from to : Connection) : Type 0 where
  pub from_fits : FitsConnection ops from
  pub to_fits : FitsConnection ops to
  pub beside : AreBeside from to
