use Rattle.std.proofs.Common.{◌∙◌, ◌++◌, ap, arith, length, sym}
use Rattle.event_text.specs.TextLines.{lines}
use Rattle.frame_io.specs.Written.{pieces_of_all}
use Rattle.frame_run.specs.MessageLine.{messages_of}
use Rattle.frame_run.proofs.Sendings.{joined_behind, line_sent, messages_more, sink_back, wrote_some}
use Rattle.frame_run.proofs.framing.send_lines.Goals as goal

pub returns-in-Err-clause-ends : goal.returns-in-Err-clause-ends
returns-in-Err-clause-ends g c =
    let inv = c.loop-rest.invariant.1 in
    let home = c.loop-rest.writer.inner.sink.home in
    sink_back g.K.ByteSink.taken g.K.ByteSink.faults g.K.ByteSink.is_flushed _ g.P.SinkPlaces.text _ _ _ _ _ _ c.give_up.ensures.sink
    c.give_up.ensures.ending
    (home.calm inv.calm, (λ told. wrote_some g.P.SinkPlaces.taken _ _ _ (home.grew told) (inv.joined told)))

pub returns-in_default-clause-ends : goal.returns-in_default-clause-ends
returns-in_default-clause-ends g c =
    let inv = c.loop-rest.invariant.1 in
    let home = c.poll_send.new.self.inner.sink.home in
    let more = c.loop-rest.writer.held ++ pieces_of_all (messages_of (lines c.loop-rest.rest.now)) in
    sink_back g.K.ByteSink.taken g.K.ByteSink.faults g.K.ByteSink.is_flushed _ g.P.SinkPlaces.text _ _ _ _ _ _
    c.give_up-in_default.ensures.sink
    c.give_up-in_default.ensures.ending (
      home.calm (ap (λ i. i.sink.failures) c.poll_send.ensures.inner ∙ inv.calm),
      (λ told. wrote_some g.P.SinkPlaces.taken _ more _ (home.grew told)
          (ap (λ i. g.K.ByteSink.taken i.sink.sink.now ++ more) c.poll_send.ensures.inner ∙ inv.joined told)),
    )

pub returns-then-failed-clause-ends : goal.returns-then-failed-clause-ends
returns-then-failed-clause-ends g c =
    let inv = c.loop-rest.invariant.1 in
    let out = c.drain-drained.result.writer in
    let home = out.inner.sink.home in
    let is = sym (rw c.in-Ok-Some.field-0-is at c.in-Ok-Some.ensures) in
    let sent = rw c.in-Ready-Ok.field-0-is at c.in-Ready-Ok.ensures.pieces in
    let more = pieces_of_all (messages_of (lines c.first_line.result.1.now)) in
    sink_back g.K.ByteSink.taken g.K.ByteSink.faults g.K.ByteSink.is_flushed _ g.P.SinkPlaces.text _ _ _ _ _ _
    c.give_up-then-failed.ensures.sink
    c.give_up-then-failed.ensures.ending (
      home.rose (c.drain-drained.ensures.failed c.if-failed.true),
      (λ told. wrote_some g.P.SinkPlaces.taken _ (out.held ++ more) _ (home.grew told)
          (joined_behind _ _ _ _ more (c.drain-drained.ensures.joined told)
          ∙ ap (λ i. g.K.ByteSink.taken i.sink.sink.now ++ (c.poll_send.new.self.held ++ more)) c.poll_send.ensures.inner
          ∙ line_sent _ _ _ _ _ _ _ _ c.first_line.ensures.lines is sent.0 (inv.joined told))),
    )

pub loop-rest-preserved-else-failed : goal.loop-rest-preserved-else-failed
loop-rest-preserved-else-failed g c =
    let inv = c.loop-rest.invariant.1 in
    let is = sym (rw c.in-Ok-Some.field-0-is at c.in-Ok-Some.ensures) in
    let sent = rw c.in-Ready-Ok.field-0-is at c.in-Ready-Ok.ensures.pieces in
    let more = pieces_of_all (messages_of (lines c.first_line.result.1.now)) in (
      omega (arith, c.loop-rest.invariant.0, c.first_line.ensures.less),
      record {
        calm = c.drain-drained.ensures.calm c.if-failed.false;
        joined = λ told.
            joined_behind _ _ _ _ more (c.drain-drained.ensures.joined told)
            ∙ ap (λ i. g.K.ByteSink.taken i.sink.sink.now ++ (c.poll_send.new.self.held ++ more)) c.poll_send.ensures.inner
            ∙ line_sent _ _ _ _ _ _ _ _ c.first_line.ensures.lines is sent.0 (inv.joined told);
        counted = omega (arith, inv.counted, ap length (messages_more _ _ _ _ c.first_line.ensures.lines is));
        all = omega (arith, inv.all, ap length c.first_line.ensures.lines);
      },
    )
