use Rattle.std.proofs.Common.{inr}
use Rattle.rent_io.proofs.Sends.{slice_sends_on}
use Rattle.rent_io.proofs.write_all.AllStatePolled.poll_by.Goals as goal

pub returns-else-sent-total-2-clause-answer : goal.returns-else-sent-total-2-clause-answer
returns-else-sent-total-2-clause-answer g c =
    let a = c.in-Ready-Ok-default in
    let i = c.self.inside in
    let w = g.A.AsyncWriteRent.writer in
    let writes = rw a.field-0-is at a.ensures.writes in (
      inr
          (slice_sends_on g.T.IoBuf.content g.A.AsyncWriteRent.tells (w c.args.io.now).delivered (w c.write.new.io).delivered
          c.args.self i.buf c.into_inner-buf.result i.sent a.n c.bytes_init-total.result c.new.result a.part
          c.self.view_is c.new.ensures (record { same = writes.0; within = writes.1; joined = writes.2 }) c.into_inner-buf.ensures
          c.bytes_init-total.ensures c.if-n-eq0.false c.if-sent-total-2.false),
      c.write.ensures.ends,
    )
