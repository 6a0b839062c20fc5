use Rattle.std.proofs.Common.{◌∙◌, arith, refl, subst, sym}
use Rattle.rent_io.proofs.Runs.{rose_later}
use Rattle.rent_io.specs.Call.{Writing}
use Rattle.frame_io.specs.FrameReader.{standard}
use Rattle.frame_io.specs.Frames.{read_frames}
use Rattle.frame_run.specs.Places.{written_since}
use Rattle.frame_run.specs.Unframing.{WroteLines}
use Rattle.frame_run.proofs.Endings.{given-back, stopped-ends}
use Rattle.frame_run.proofs.Lined.{unframing-more, unframing-none, wrote-first, wrote-lines}
use Rattle.frame_run.proofs.unframing.pump.Goals as goal

pub loop-init : goal.loop-init
loop-init g c = (
  (tt, tt),
  record {
    order = omega (arith, c.requires.write_faults);
    calm = λ told. c.requires.write_faults;
    far = λ told. unframing-none _ _ _ _ _ _ (c.requires.fresh told) c.requires.taken c.new-out.ensures.items;
  },
)

pub returns-then-offset-ge-MOST_OFFSET-clause-ends : goal.returns-then-offset-ge-MOST_OFFSET-clause-ends
returns-then-offset-ge-MOST_OFFSET-clause-ends g c =
    let s = c.source_of.result in
    let k = c.loop.sink in
    let sink : Writing =
    written_since g.P.Places.taken g.P.Places.write_faults (g.K.ByteSink.taken k) (g.K.ByteSink.faults k) (g.K.ByteSink.is_flushed k) in
    given-back g.S.ByteSource.left g.S.ByteSource.faults _ _ g.P.Places.most g.P.Places.left g.P.Places.read_faults _ _ sink _ _
    c.give_up.ensures.source refl
    (stopped-ends _ _ g.P.Places.most g.P.Places.left g.P.Places.read_faults _ _ _ _ s.room s.over s.failures sink c.give_up.result.ending
    s.home c.give_up.ensures.ending
    (λ source told. wrote-lines _ _ _ _ _ _ (c.loop.invariant.1.far source) told) c.loop.invariant.1.calm)

pub returns-in-Err-Fault-clause-ends : goal.returns-in-Err-Fault-clause-ends
returns-in-Err-Fault-clause-ends g c =
    let k = c.write_next.new.sink in
    let sink : Writing =
    written_since g.P.Places.taken g.P.Places.write_faults (g.K.ByteSink.taken k) (g.K.ByteSink.faults k) (g.K.ByteSink.is_flushed k) in
    let why = rw c.in-Err-Fault.field-0-is at c.in-Err-Fault.ensures.why in
    given-back g.S.ByteSource.left g.S.ByteSource.faults _ _ g.P.Places.most g.P.Places.left g.P.Places.read_faults _ _ sink _ _
    c.give_back.ensures.source c.give_back.ensures.ending (
      rose_later _ _ _ c.loop.invariant.1.order why.0,
      (λ source told. wrote-first _ _ _ _ c.in-Message.message _ _ _ _ (c.in-Message.ensures.answer source)
          (c.loop.invariant.1.far source) told (why.1 told)),
    )

pub returns-in-Err-OutOfMemory-clause-ends : goal.returns-in-Err-OutOfMemory-clause-ends
returns-in-Err-OutOfMemory-clause-ends g c =
    let s = c.source_of-in-Err-OutOfMemory.result in
    let k = c.write_next.new.sink in
    let sink : Writing =
    written_since g.P.Places.taken g.P.Places.write_faults (g.K.ByteSink.taken k) (g.K.ByteSink.faults k) (g.K.ByteSink.is_flushed k) in
    let why = rw c.in-Err-OutOfMemory.field-0-is at c.in-Err-OutOfMemory.ensures.why in
    given-back g.S.ByteSource.left g.S.ByteSource.faults _ _ g.P.Places.most g.P.Places.left g.P.Places.read_faults _ _ sink _ _
    c.give_up-in-Err-OutOfMemory.ensures.source refl
    (stopped-ends _ _ g.P.Places.most g.P.Places.left g.P.Places.read_faults _ _ _ _ s.room s.over s.failures sink
    c.give_up-in-Err-OutOfMemory.result.ending s.home c.give_up-in-Err-OutOfMemory.ensures.ending
    (λ source told.
    subst (λ n. WroteLines (read_frames standard g.P.Places.left).messages g.P.Places.taken n) (sym (why.1 told))
    (wrote-lines _ _ _ _ _ _ (c.loop.invariant.1.far source) told))
    (λ told. why.2 told ∙ c.loop.invariant.1.calm told))

pub loop-preserved-in-Message : goal.loop-preserved-in-Message
loop-preserved-in-Message g c =
    let inv = c.loop.invariant.1 in (
      (tt, tt),
      record {
        order = omega (arith, inv.order, c.in-Ok.ensures.order);
        calm = λ told. c.in-Ok.ensures.calm told ∙ inv.calm told;
        far = λ source.
            unframing-more _ _ _ _ c.in-Message.message _ _ _ _ _ (c.in-Message.ensures.answer source) (inv.far source) c.in-Ok.ensures.ok;
      },
    )

pub returns-in-Fault-clause-ends : goal.returns-in-Fault-clause-ends
returns-in-Fault-clause-ends g c =
    let s = c.source_of-in-Fault.result in
    let k = c.loop.sink in
    let sink : Writing =
    written_since g.P.Places.taken g.P.Places.write_faults (g.K.ByteSink.taken k) (g.K.ByteSink.faults k) (g.K.ByteSink.is_flushed k) in
    given-back g.S.ByteSource.left g.S.ByteSource.faults _ _ g.P.Places.most g.P.Places.left g.P.Places.read_faults _ _ sink _ _
    c.give_up-in-Fault.ensures.source refl
    (stopped-ends _ _ g.P.Places.most g.P.Places.left g.P.Places.read_faults _ _ _ _ s.room s.over s.failures sink
    c.give_up-in-Fault.result.ending s.home c.give_up-in-Fault.ensures.ending
    (λ source told. wrote-lines _ _ _ _ _ _ (c.loop.invariant.1.far source) told) c.loop.invariant.1.calm)
