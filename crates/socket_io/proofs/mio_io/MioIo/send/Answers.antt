use Rattle.std.proofs.Common.{length, subst, sym}
use Rattle.machine.specs.Request.{plain_request, sent_of}
use Rattle.socket_io.specs.MioIo.{MovesFor}
use Rattle.socket_io.proofs.mio_io.MioIo.send.Goals as goal

pub returns-in-Send-clause-sends : goal.returns-in-Send-clause-sends
returns-in-Send-clause-sends g c =
    subst (λ request. MovesFor (length (sent_of (plain_request g.B.IoBufMut.buffer request))) c.args.self.now c.send_buffer.new.self
    c.send_buffer.result) (sym c.in-Send.is) c.send_buffer.ensures.sends
