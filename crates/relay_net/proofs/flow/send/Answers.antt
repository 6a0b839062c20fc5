use Rattle.std.proofs.Common.{ap}
use Rattle.rent_buf.specs.Buf.{built}
use Rattle.machine.specs.Request.{plain_request}
use Rattle.relay_net.proofs.flow.send.Goals as goal

pub sent_buffer-requires : goal.sent_buffer-requires
sent_buffer-requires g c = (built c.args.buf, ap (plain_request built) c.in-Err.ensures.back)
