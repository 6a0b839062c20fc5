use Rattle.std.proofs.Common.{ap}
use Rattle.rent_buf.specs.Buf.{built}
use Rattle.machine.specs.Request.{plain_request}
use Rattle.relay_net.proofs.flow.receive.Goals as goal

pub received_buffer-buf-requires : goal.received_buffer-buf-requires
received_buffer-buf-requires g c = (built c.in-Ok.buf, ap (plain_request built) c.in-Err.ensures.back)
