use Rattle.std.specs.Prelude.{None}
use Rattle.stream_util.proofs.Prefixes.{called_behind, caused_behind}
use Rattle.stream_util.proofs.prefixed_io.PrefixedReadIoAsyncReadRent.poll_read.Goals as goal

pub returns-in-Answered-clause-cause : goal.returns-in-Answered-clause-cause
returns-in-Answered-clause-cause g c = c.in-Answered.ensures.cause c.args.task

pub returns-in-Answered-clause-counts : goal.returns-in-Answered-clause-counts
returns-in-Answered-clause-counts g c = c.read_prefix.ensures.counts None

pub returns-in-Behind-clause-cause : goal.returns-in-Behind-clause-cause
returns-in-Behind-clause-cause g c =
    caused_behind g.I.AsyncReadRent.reader g.P.ByteSource.faults c.args.self.now _ _ _ c.self.view_is c.in-Behind.ensures.behind.1
    c.read_prefix.ensures.io (c.read_prefix.ensures.counts None) c.args.task c.poll_read.result c.poll_read.ensures.cause

pub returns-in-Behind-clause-counts : goal.returns-in-Behind-clause-counts
returns-in-Behind-clause-counts g c =
    called_behind g.I.AsyncReadRent.reader g.P.ByteSource.faults c.args.self.now _ _ _ c.self.view_is c.in-Behind.ensures.behind.1
    c.read_prefix.ensures.io (c.read_prefix.ensures.counts None) None c.poll_read.ensures.counts
