use Rattle.std.proofs.Common.{◌∙◌, ◌++◌, [], ap, append-nil, refl, sym}
use Rattle.std.specs.Prelude.{Some}
use Rattle.rent_buf.specs.declared.fault.IoFault.TheVariants.{WriteFault}
use Rattle.rent_io.specs.Counts.{Counts, no_counts}
use Rattle.rent_io.proofs.Runs.{fault_counted}
use Rattle.frame_run.proofs.Sendings.{sink_back, wrote_some}
use Rattle.frame_run.proofs.framing.finish.Goals as goal

pub returns-then-failed-clause-ends : goal.returns-then-failed-clause-ends
returns-then-failed-clause-ends g c =
    let writer = c.drain-drained.result.writer in
    let home = writer.inner.sink.home in
    sink_back g.K.ByteSink.taken g.K.ByteSink.faults g.K.ByteSink.is_flushed _ g.P.SinkPlaces.text _ _ _ _ _ _ c.give_up.ensures.sink
    c.give_up.ensures.ending (
      home.rose (c.drain-drained.ensures.failed c.if-failed.true),
      (λ told. wrote_some g.P.SinkPlaces.taken _ writer.held _ (home.grew told)
          (c.drain-drained.ensures.joined told ∙ c.requires.joined told)),
    )

pub returns-in-Ready-Err-clause-ends : goal.returns-in-Ready-Err-clause-ends
returns-in-Ready-Err-clause-ends g c =
    let writer = c.drain-drained.result.writer in
    let sink = c.poll_flush.new.self.sink in
    let before : Counts = record no_counts { faults = c.into_inner-stream.result.sink.failures; fault = Some WriteFault } in
    let now : Counts = record no_counts { faults = sink.failures; fault = Some WriteFault } in
    let none = c.drain-drained.ensures.empty c.if-failed.false in
    sink_back g.K.ByteSink.taken g.K.ByteSink.faults g.K.ByteSink.is_flushed _ g.P.SinkPlaces.text _ _ _ _ _ _
    (c.give_sink_back-in-Ready-Err.ensures.sink ∙ ap (λ x. x.sink.now) c.into_inner-in-Ready-Err.ensures)
    c.give_sink_back-in-Ready-Err.ensures.ending (
      sink.home.rose (fault_counted 0 before now _ _ c.in-Ready-Err.field-0-is refl c.in-Ready-Err.ensures.cause),
      (λ told. wrote_some g.P.SinkPlaces.taken _ [] _ (sink.home.grew told)
          (append-nil _ ∙ c.in-Ready-Err.ensures.delivered told
          ∙ ap (λ s. g.K.ByteSink.taken s.sink.sink.now) c.into_inner-stream.ensures
          ∙ sym (append-nil (g.K.ByteSink.taken writer.inner.sink.sink.now))
          ∙ ap (λ h. g.K.ByteSink.taken writer.inner.sink.sink.now ++ h) (sym none)
          ∙ c.drain-drained.ensures.joined told ∙ c.requires.joined told)),
    )
