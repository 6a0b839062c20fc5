use Rattle.std.proofs.Common.{inr}
use Rattle.stream_util.specs.declared.zero_copy.TheConstants.{MOST_SPLICED}
use Rattle.rent_io.specs.declared.poll.Step.TheVariants.{Again}
use Rattle.stream_util.proofs.Completeness.{zero_copy_completes}
use Rattle.stream_util.proofs.Splices.{splice_fetched, splice_delivered}
use Rattle.stream_util.proofs.zero_copy.ZeroCopy.poll.Goals as goal

pub returns-else-n-eq0-clause-answer : goal.returns-else-n-eq0-clause-answer
returns-else-n-eq0-clause-answer g c =
    let a = c.in-Ready-Ok in
    let i = c.self.inside in
    let source = g.S.SpliceSource.source in
    let splices = rw a.field-0-is at a.ensures.splices in
    inr
    (splice_fetched g.S.SpliceSource.tells g.D.SpliceDestination.tells (source c.args.reader.now) (source c.poll_splice_to.new.self)
    (g.D.SpliceDestination.destination c.args.writer.now) c.args.self i.pipe c.poll_splice_to.new.pipe MOST_SPLICED a.n i.count
    c.self.view_is c.self.invariant.1 c.if-n-eq0.false splices)

pub returns-else-n-eq0-2-clause-answer : goal.returns-else-n-eq0-2-clause-answer
returns-else-n-eq0-2-clause-answer g c =
    let a = c.in-Ready-Ok-poll_splice_from in
    let i = c.self.inside in
    let destination = g.D.SpliceDestination.destination in
    let splices = rw a.field-0-is at a.ensures.splices in
    rw c.saturating_add.ensures
    (inr (splice_delivered g.S.SpliceSource.tells g.D.SpliceDestination.tells (g.S.SpliceSource.source c.args.reader.now)
    (destination c.args.writer.now) (destination c.poll_splice_from.new.self) c.args.self i.pipe c.poll_splice_from.new.pipe MOST_SPLICED
    a.n i.count c.self.view_is c.if-n-eq0-2.false splices))

pub returns-else-n-eq0-clause-complete : goal.returns-else-n-eq0-clause-complete
returns-else-n-eq0-clause-complete g c =
    zero_copy_completes _ _ c.args.task _ _ c.args.self (Again _) (returns-else-n-eq0-clause-answer g c)

pub returns-else-n-eq0-2-clause-complete : goal.returns-else-n-eq0-2-clause-complete
returns-else-n-eq0-2-clause-complete g c =
    zero_copy_completes _ _ c.args.task _ _ c.args.self (Again _) (returns-else-n-eq0-2-clause-answer g c)
