use Rattle.std.specs.Prelude.{None, Some}
use Rattle.stream_util.proofs.Prefixes.{called_behind, caused_behind}
use Rattle.stream_util.proofs.prefixed_io.PrefixedReadIoCancelableAsyncReadRent.poll_cancelable_read.Goals as goal

pub returns-in-Answered-clause-cause : goal.returns-in-Answered-clause-cause
returns-in-Answered-clause-cause g c = c.in-Answered.ensures.cause c.args.task

pub returns-in-Answered-clause-counts : goal.returns-in-Answered-clause-counts
returns-in-Answered-clause-counts g c = c.read_prefix.ensures.counts (Some c.args.c)

pub returns-in-Behind-clause-cause : goal.returns-in-Behind-clause-cause
returns-in-Behind-clause-cause g c =
    caused_behind g.I.AsyncReadRent.reader g.P.ByteSource.faults c.args.self.now _ _ _ c.self.view_is c.in-Behind.ensures.behind.1
    c.read_prefix.ensures.io (c.read_prefix.ensures.counts None) c.args.task
    c.poll_cancelable_read.result c.poll_cancelable_read.ensures.cause

pub returns-in-Behind-clause-counts : goal.returns-in-Behind-clause-counts
returns-in-Behind-clause-counts g c =
    called_behind g.I.AsyncReadRent.reader g.P.ByteSource.faults c.args.self.now _ _ _ c.self.view_is c.in-Behind.ensures.behind.1
    c.read_prefix.ensures.io (c.read_prefix.ensures.counts None) (Some c.args.c) c.poll_cancelable_read.ensures.counts
