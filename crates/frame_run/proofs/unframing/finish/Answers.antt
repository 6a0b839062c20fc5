use Rattle.std.proofs.Common.{◌∙◌, ◌++◌, ap, append-nil, subst, sym}
use Rattle.rent_io.proofs.Runs.{rose_later}
use Rattle.rent_io.specs.Call.{Writing}
use Rattle.frame_io.specs.declared.fault.Ending.TheVariants.{End}
use Rattle.frame_io.specs.FrameReader.{standard}
use Rattle.frame_io.specs.Frames.{read_frames}
use Rattle.frame_run.specs.Places.{written_since}
use Rattle.frame_run.specs.Unframing.{WroteFirst}
use Rattle.frame_run.proofs.Endings.{done-ends, given-back}
use Rattle.frame_run.proofs.Lined.{reached-first}
use Rattle.frame_run.proofs.unframing.finish.Goals as goal

pub returns-in-Ok-write_last-clause-ends : goal.returns-in-Ok-write_last-clause-ends
returns-in-Ok-write_last-clause-ends g c =
    let s = c.read_rest.new.source in
    let k = c.write_last.new.sink in
    let sink : Writing =
    written_since g.P.Places.taken g.P.Places.write_faults (g.K.ByteSink.taken k) (g.K.ByteSink.faults k) (g.K.ByteSink.is_flushed k) in
    given-back g.S.ByteSource.left g.S.ByteSource.faults _ _ g.P.Places.most g.P.Places.left g.P.Places.read_faults _ _ sink _ _
    c.give_back.ensures.source c.give_back.ensures.ending
    (done-ends _ _ g.P.Places.most g.P.Places.left g.P.Places.read_faults _ _ _ _ s.room s.over s.next s.failures sink _ c.args.out.items
    s.home (λ told. c.in-Ok.ensures told) c.requires.reached
    (λ told. c.in-Ok-write_last.ensures.writes.all told ∙ ap (λ l. g.K.ByteSink.taken c.args.sink.now ++ l) c.as_slice.ensures.value)
    c.in-Ok-write_last.ensures.flushed)

pub returns-in-Ok-clause-ends : goal.returns-in-Ok-clause-ends
returns-in-Ok-clause-ends g c =
    let k = c.write_last.new.sink in
    let sink : Writing =
    written_since g.P.Places.taken g.P.Places.write_faults (g.K.ByteSink.taken k) (g.K.ByteSink.faults k) (g.K.ByteSink.is_flushed k) in
    let writes = c.in-Err-write_last.ensures.writes in
    given-back g.S.ByteSource.left g.S.ByteSource.faults _ _ g.P.Places.most g.P.Places.left g.P.Places.read_faults _ _ sink _ _
    c.give_back-in-Err-write_last.ensures.source c.give_back-in-Err-write_last.ensures.ending (
      rose_later _ _ _ c.requires.order writes.0,
      (λ source told. reached-first _ (read_frames standard g.P.Places.left) End g.P.Places.taken _ c.args.out.items _
          (c.requires.reached source) told
          (subst (λ l. WroteFirst l (g.K.ByteSink.taken c.args.sink.now) (g.K.ByteSink.taken k))
          (c.as_slice.ensures.value ∙ sym (append-nil c.args.out.items)) (writes.1 told))),
    )
