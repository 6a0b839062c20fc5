use Rattle.std.proofs.Common.{◌++◌}
use Rattle.frame_io.specs.Decoder.{rest_of}
use Rattle.frame_io.specs.FrameReader.{standard}
use Rattle.frame_io.specs.Frames.{read_frames}
use Rattle.frame_run.specs.Places.{left_of}
use Rattle.frame_run.proofs.Endings.{Pumping}
use Rattle.frame_run.proofs.unframing.pump.Given as goal

-- The lines of the messages so far were written or wait.
abbrev pub invariant-loop : goal.invariant-loop
invariant-loop g l = ((goal.iterator-loop g).can_next l.iterator' × (goal.iterator-loop g).is_finite l.iterator')
    × Pumping g.S.ByteSource.tells g.K.ByteSink.tells (read_frames standard g.P.Places.left)
    (rest_of l.reader.kept (l.reader.inner.held ++ left_of l.reader.inner.inner.over l.reader.inner.inner.next
    (g.S.ByteSource.left l.reader.inner.inner.source.now)))
    g.P.Places.taken (g.K.ByteSink.taken l.sink) l.out.items g.P.Places.write_faults (g.K.ByteSink.faults l.sink)
