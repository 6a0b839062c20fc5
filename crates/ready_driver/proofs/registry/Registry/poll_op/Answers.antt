use Rattle.std.proofs.Common.{sym, subst}
use Rattle.ready_driver.specs.Registry.{Handling, AreRecorded}
use Rattle.std.specs.FinMap.{get}
use Rattle.ready_driver.specs.Awaits.{IsWorldUnmet, PollsUnless}
use Rattle.ready_driver.specs.Polling.{PartsStand}
use Rattle.ready_driver.proofs.Registering.{recorded-leaves}
use Rattle.ready_driver.proofs.Exact.{unmet-waits, exact-unless}
use Rattle.ready_driver.proofs.registry.Registry.poll_op.Goals as goal

pub invariant_of-self : goal.invariant_of-self
invariant_of-self g c =
    subst (λ t. AreRecorded t c.poll_op.new.records.records) (sym c.poll_op.ensures.table)
    (recorded-leaves c.self.inside.records.table _ c.self.inside.records.records c.args.op.number c.args.task c.poll_op.new.records.records
    c.poll_op.result c.self.invariant c.poll_op.ensures.leaves)

pub returns-clause-exact : goal.returns-clause-exact
returns-clause-exact g c = λ memory reported D handles parts.
    let buffer = g.B.IoBufMut.buffer in
    let view = g.I.NonBlock.view in
    let old = c.args.self.now in
    let ops = c.args.ops.now in
    let slot = get ops.slots.values c.args.op.key in
    let polls = subst (λ (x : Handling g.row.I.Denot). PartsStand buffer ops (view x.io).world D →
    PollsUnless (IsWorldUnmet x.records (view x.io).world slot) buffer D c.args.op c.poll_op.new.ops (view c.poll_op.new.io).world
    c.poll_op.result) c.self.view_is (c.poll_op.ensures.polls memory D) parts in
    exact-unless (IsWorldUnmet old.records (view old.io).world slot) buffer D c.args.op c.poll_op.new.ops (view c.poll_op.new.io).world
    c.poll_op.result
    (unmet-waits buffer old.table old.records (view old.io).world (view old.io).keys D ops reported handles parts c.args.op.key
    c.args.op.number c.requires.holds) polls
