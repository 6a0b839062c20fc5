use Rattle.std.proofs.Common.{◌∙◌, ◌++◌, [], ap, append-nil, arith, refl}
use Rattle.rent_io.specs.Call.{Reading, Writing}
use Rattle.std.specs.Prelude.{Some}
use Rattle.rent_buf.specs.declared.fault.IoFault.TheVariants.{WriteFault}
use Rattle.rent_io.specs.Counts.{Counts, no_counts}
use Rattle.copy_run.specs.Places.{read_since, written_since}
use Rattle.copy_run.proofs.Endings.{copy-done, did, fault_rose, given-back, wrote-first}
use Rattle.copy_run.proofs.copying.flush.Goals as goal

pub returns-in-Ready-Ok-clause-ends : goal.returns-in-Ready-Ok-clause-ends
returns-in-Ready-Ok-clause-ends g c =
    let s = c.args.source.source.now in
    let k = c.poll_flush.new.self.sink.sink.now in
    let source : Reading = read_since g.P.Places.left g.P.Places.read_faults (g.S.ByteSource.left s) (g.S.ByteSource.faults s) in
    let sink : Writing =
    written_since g.P.Places.taken g.P.Places.write_faults (g.K.ByteSink.taken k) (g.K.ByteSink.faults k) (g.K.ByteSink.is_flushed k) in
    given-back g.S.ByteSource.left g.S.ByteSource.faults g.K.ByteSink.taken g.K.ByteSink.faults g.K.ByteSink.is_flushed
    _ _ _ _ _ _ _ _ _ _ _ _ _ _ c.give_back.ensures.source
    (c.give_back.ensures.sink ∙ ap (λ x. x.sink.now) c.into_inner.ensures) c.give_back.ensures.ending
    (copy-done _ _ _ _ source sink c.requires.few c.requires.ended
    (λ ts tk. c.in-Ready-Ok.ensures.delivered tk ∙ c.requires.all ts tk)
    (did _ _ _ c.in-Ready-Ok.field-0-is c.in-Ready-Ok.ensures.flushed))

pub returns-in-Ready-Err-clause-ends : goal.returns-in-Ready-Err-clause-ends
returns-in-Ready-Err-clause-ends g c =
    let old = c.args.stream.sink in
    let new = c.poll_flush.new.self.sink in
    let whole = g.P.Places.prefix ++ g.P.Places.left in
    let before : Counts = record no_counts { faults = g.K.ByteSink.faults old.sink.now; fault = Some WriteFault } in
    let now : Counts = record no_counts { faults = g.K.ByteSink.faults new.sink.now; fault = Some WriteFault } in
    let rose = fault_rose 0 before now _ _ c.in-Ready-Err.field-0-is refl c.in-Ready-Err.ensures.cause in
    given-back g.S.ByteSource.left g.S.ByteSource.faults g.K.ByteSink.taken g.K.ByteSink.faults g.K.ByteSink.is_flushed
    _ _ _ _ _ _ _ _ _ _ _ _ _ _ c.give_back-in-Ready-Err.ensures.source
    (c.give_back-in-Ready-Err.ensures.sink ∙ ap (λ x. x.sink.now) c.into_inner-in-Ready-Err.ensures)
    c.give_back-in-Ready-Err.ensures.ending (
      omega (arith, old.home.order, rose),
      (λ ts tk. wrote-first g.P.Places.taken _ [] whole (new.home.grew tk)
          (append-nil _ ∙ c.in-Ready-Err.ensures.delivered tk ∙ c.requires.all ts tk)),
    )
