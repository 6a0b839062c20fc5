-- What an execution of the completion driver leaves of connections.
use Rattle.std.proofs.Common.{◌≡◌, Option, Some, None, arith}
use Rattle.rent_buf.specs.Parts.{Parts}
use Rattle.rent_buf.specs.Rent.{Rented, buffer_of_rent}
use Rattle.machine.specs.declared.request.Request.{Request}
use Rattle.driver_core.specs.declared.op.Op.{Op}
use Rattle.driver_core.specs.Op.{KeepsTokens}
use Rattle.driver_core.specs.Ops.{Ops}
use Rattle.op_driver.specs.Returned.{IsBackOf, KeepsBack}
use Rattle.net_stream.specs.declared.connection.Connection.{Connection}
use Rattle.net_stream.specs.Connection.{FitsConnection}
use Rattle.net_stream.specs.Drives.{FitsOp, IfAsked, IsRecv, IsSend}
use Rattle.net_stream.proofs.Requests.{recv_kept, send_kept}

-- What waits is held still, with a request of the same kind.
executed_op : (old new : Ops Rented) (op : Option Op) (P : Request Rented Parts → Type 0)
    → ((asked now : Option (Request Rented Parts)) → IfAsked asked P → IsBackOf buffer_of_rent asked now → IfAsked now P)
    → KeepsTokens old new → new.given ≡ old.given → KeepsBack buffer_of_rent old new → FitsOp old op P → FitsOp new op P
executed_op old new None P stays tokens given keeps fits = tt
executed_op old new (Some op) P stays tokens given keeps fits =
    let below = fits.0.1 in
    (((tokens op).0 fits.0.0, omega (arith, below, given)), stays _ _ fits.1 (keeps op fits.0.0))

-- A call that keeps every token, and each request but for bytes that come to it, keeps what a connection waits for.
pub executed_fits : (old new : Ops Rented) (conn : Connection) → KeepsTokens old new → new.given ≡ old.given
    → KeepsBack buffer_of_rent old new → FitsConnection old conn → FitsConnection new conn
executed_fits old new conn tokens given keeps fits = record {
  receives = executed_op old new conn.incoming.op (IsRecv conn.fd) (recv_kept conn.fd) tokens given keeps fits.receives;
  sends = executed_op old new conn.outgoing.op (IsSend conn.fd conn.outgoing.room) (send_kept conn.fd conn.outgoing.room) tokens given keeps
      fits.sends;
  apart = fits.apart;
}
