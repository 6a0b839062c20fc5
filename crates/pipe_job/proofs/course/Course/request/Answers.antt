use Rattle.std.proofs.Common.{◌≤◌, ap, length, subst}
use Rattle.pipe_job.proofs.Bytes.{room_offers, unsent_fewer}
use Rattle.pipe_job.proofs.course.Course.request.Goals as goal

-- all that the buffer has is offered
pub returns-else-is_sent : goal.returns-else-is_sent
returns-else-is_sent c =
    let some = unsent_fewer c.args.self.now c.is_sent.result c.is_sent.ensures.1 c.if-is_sent.false
    (subst (λ v. v.sent ≤ length v.bytes) c.self.view_is c.self.invariant.0) in
    (ap (λ v. v.pipe) c.self.view_is, some, room_offers c.args.self.now c.args.buf c.requires.room some)
