use Rattle.std.proofs.Common.{◌+◌, ◌∙◌, ap, drop, arith}
use Rattle.stream_util.proofs.Splices.{spliced_out}
use Rattle.stream_util.proofs.splice.write_from.Goals as goal

pub returns-in-Ready-Ok-default-clause-splices : goal.returns-in-Ready-Ok-default-clause-splices
returns-in-Ready-Ok-default-clause-splices g c =
    let a = c.in-Ready-Ok-default in
    let i = c.pipe.inside in
    let writer = g.A.AsyncWriteRent.writer in
    let writes = rw a.field-0-is at a.ensures.writes in
    spliced_out (λ v. v.items) g.A.AsyncWriteRent.tells (writer c.args.writer.now).delivered (writer c.poll_write.new.self).delivered
    c.args.pipe.now c.replace-buf.result c.into_inner.result i.start (i.start + c.min.result) c.args.len a.n c.new.result a.part
    (ap (λ v. drop i.start v.items) c.replace-buf.ensures.value ∙ c.pipe.view_is) c.new.ensures
    (record { same = writes.0; within = writes.1; joined = writes.2 }) c.into_inner.ensures (omega (arith, c.min.ensures))
