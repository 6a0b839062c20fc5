use Rattle.std.proofs.Common.{◌∙◌, [], append-nil, refl, sym}
use Rattle.rent_io.specs.Call.{Writing}
use Rattle.frame_io.specs.FrameReader.{standard}
use Rattle.frame_io.specs.Frames.{read_frames}
use Rattle.frame_run.specs.Places.{written_since}
use Rattle.frame_run.proofs.Endings.{given-back, stopped-ends}
use Rattle.frame_run.proofs.unframing.unframe_at.Goals as goal

pub returns-in-Err-clause-ends : goal.returns-in-Err-clause-ends
returns-in-Err-clause-ends g c =
    let s = c.in-Err.source in
    let k = c.args.sink.now in
    let sink : Writing =
    written_since g.P.Places.taken g.P.Places.write_faults (g.K.ByteSink.taken k) (g.K.ByteSink.faults k) (g.K.ByteSink.is_flushed k) in
    given-back g.S.ByteSource.left g.S.ByteSource.faults _ _ g.P.Places.most g.P.Places.left g.P.Places.read_faults _ _ sink _ _
    c.give_back.ensures.source c.give_back.ensures.ending
    (stopped-ends _ _ g.P.Places.most g.P.Places.left g.P.Places.read_faults _ _ _ _ s.room s.over s.failures sink c.why_stopped.result
    s.home c.why_stopped.ensures
    (λ source told. record {
      written = [];
      rest = (read_frames standard g.P.Places.left).messages;
      messages_are = refl;
      now_is = c.requires.taken ∙ sym (append-nil g.P.Places.taken);
    })
    (λ told. c.requires.write_faults))
