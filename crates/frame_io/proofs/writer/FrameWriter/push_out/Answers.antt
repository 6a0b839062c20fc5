use Rattle.std.proofs.Common.{◌+◌, ◌∙◌, ap, subst, drop, arith}
use Rattle.stream_util.specs.BufWriter.{Pushes}
use Rattle.stream_util.proofs.Buffered.{pushed}
use Rattle.frame_io.proofs.writer.FrameWriter.push_out.Goals as goal

pub returns-else-n-eq0-clause-pushes : goal.returns-else-n-eq0-clause-pushes
returns-else-n-eq0-clause-pushes g c =
    let a = c.in-Ready-Ok-default in
    let i = c.self.inside in
    let writer = g.W.AsyncWriteRent.writer in
    let writes = rw a.field-0-is at a.ensures.writes in
    subst (λ w. Pushes g.W.AsyncWriteRent.tells (writer w) (writer c.poll_write.new.self) c.args.self.now.held
    (drop (i.sent + a.n) c.into_inner.result.items)) (ap (λ w. w.inner) c.self.view_is)
    (pushed (λ v. v.items) g.W.AsyncWriteRent.tells (writer i.inner) (writer c.poll_write.new.self) c.args.self.now.held
    c.replace-buf.result c.into_inner.result i.sent a.n c.len-len.result c.new-2.result a.part
    (ap (λ v. drop i.sent v.items) c.replace-buf.ensures.value ∙ ap (λ w. w.held) c.self.view_is)
    c.new-2.ensures (record { same = writes.0; within = writes.1; joined = writes.2 }) c.into_inner.ensures
    (omega (arith, c.len-len.ensures)))
