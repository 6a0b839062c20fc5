use Rattle.std.proofs.Common.{◌≡◌, ◌+◌, ◌*◌, ◌++◌, IsTrue, length}
use Rattle.stream_util.specs.PrefixedReadIo.{prefix_left}
use Rattle.copy_run.specs.Pieces.{delivered_by}
use Rattle.copy_run.specs.Places.{Joins}
use Rattle.copy_run.proofs.Pumps.{none_there}
use Rattle.copy_run.proofs.copying.pump.Given as goal

-- What was delivered, what is held and what is left, joined, are as they were; and what is left tells how many bytes may still come.
abbrev pub invariant-loop-next : goal.invariant-loop-next
invariant-loop-next g l =
    let left = l.reader.held ++ (prefix_left l.reader.inner.finished l.reader.inner.prefix
    ++ g.S.ByteSource.left l.reader.inner.io.source.now) in
    Joins g.S.ByteSource.tells g.K.ByteSink.tells (delivered_by (g.K.ByteSink.taken l.writer.writer.inner.sink.sink.now) l.writer.writer)
    l.copy.held left (g.P.Places.taken ++ (g.P.Places.prefix ++ g.P.Places.left))
    × (IsTrue g.S.ByteSource.tells → length left + g.P.Places.most ≡ length g.P.Places.left + l.budget)

-- The bytes that may still come, those that are held, and whether a read comes next.
abbrev pub decreases-loop-next : goal.decreases-loop-next
decreases-loop-next g l = 4 * l.budget + 2 * length l.copy.held + none_there l.reader.held
