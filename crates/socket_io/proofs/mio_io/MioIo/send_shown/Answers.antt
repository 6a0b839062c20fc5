use Rattle.std.proofs.Common.{sym, ◌∙◌, ◌≤◌, length, subst}
use Rattle.machine.specs.Request.{plain_request, shown_by}
use Rattle.ready_driver.proofs.Called.{on-ok}
use Rattle.socket_io.proofs.Hosted.{appended-few}
use Rattle.socket_io.proofs.mio_io.MioIo.send_shown.Goals as goal

pub returns-in-Ok-clause-sends : goal.returns-in-Ok-clause-sends
returns-in-Ok-clause-sends g c = (
  appended-few c.self.inside.sent c.truncate.new.self c.append_shown.new.list
      (shown_by (plain_request g.B.IoBufMut.buffer c.args.request.now)) c.in-Ok.count c.truncate.ensures
      (on-ok c.append_shown.result (sym c.is_err.ensures.value ∙ c.if-is_err.false) c.append_shown.ensures.ok)
      (subst (λ bytes. c.in-Ok.count ≤ length bytes) c.as_slice.ensures c.in-Ok.ensures.within.1),
  c.self.view_is,
)
