use Rattle.std.proofs.Common.{◌∙◌, ◌≤◌, length, refl, subst}
use Rattle.rent_buf.specs.Buffer.{shown}
use Rattle.socket_io.proofs.Hosted.{shown-few}
use Rattle.socket_io.proofs.mio_io.MioIo.send_buffer.Goals as goal

pub returns-in-Ok-clause-sends : goal.returns-in-Ok-clause-sends
returns-in-Ok-clause-sends g c = (
  shown-few (shown (g.B.IoBufMut.buffer c.args.buf.now)) c.in-Ok.count c.in-Ok.ensures.within.0
      (subst (λ bytes. c.in-Ok.count ≤ length bytes) (c.bytes.ensures ∙ c.keeps_bounds.ensures.content) c.in-Ok.ensures.within.1),
  refl,
)
