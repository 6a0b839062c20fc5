use Rattle.std.proofs.Common.{◌∙◌, ◌++◌, append_assoc, ap, arith, sym}
use Rattle.copy_run.proofs.Endings.{given-back, wrote-first}
use Rattle.copy_run.proofs.copying.drain.Goals as goal

pub returns-in-Err-clause-ends : goal.returns-in-Err-clause-ends
returns-in-Err-clause-ends g c =
    let w = c.send_all.new.writer.writer in
    let home = w.inner.sink.home in
    let taken = g.K.ByteSink.taken w.inner.sink.sink.now in
    given-back g.S.ByteSource.left g.S.ByteSource.faults g.K.ByteSink.taken g.K.ByteSink.faults g.K.ByteSink.is_flushed
    _ _ _ _ _ _ _ _ _ _ _ _ _ _ c.give_back.ensures.source
    (c.give_back.ensures.sink ∙ ap (λ x. x.sink.now) (c.into_inner-in-Err-2.ensures ∙ ap (λ x. x.sink) c.into_inner-in-Err.ensures))
    c.give_back.ensures.ending (
      omega (arith, c.args.writer.writer.inner.sink.home.order, c.in-Err.ensures.failed),
      (λ ts tk. let first = c.send_all.ensures.first tk in
          wrote-first g.P.Places.taken taken (w.held ++ first.0) (g.P.Places.prefix ++ g.P.Places.left) (home.grew tk)
          (sym (append_assoc taken w.held first.0) ∙ sym first.1 ∙ c.requires.all ts tk)),
    )
