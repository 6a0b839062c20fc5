use Rattle.std.proofs.Common.{rules, ◌≡◌, sym, subst}
use Rattle.core_exec.specs.Tasks.{AreWaiting, task_at}
use Rattle.core_exec.specs.Marks.{ready_tasks}
use Rattle.core_exec.specs.Turns.{AddsOutputs, Reaches}
use Rattle.core_exec.specs.Exec.{HasAims, tasks_of}
use Rattle.core_exec.specs.Places.{ArePlaced}
use Rattle.core_exec.proofs.Aims.{aims_ready, aims_turn}
use Rattle.core_exec.proofs.Placing.{placed_turn}
use Rattle.core_exec.proofs.exec.Exec+D+J+J+Out.turn_into.Goals as goal

-- the tasks that the turn began with are the ready ones
pub returns-clause-reaches : goal.returns-clause-reaches
returns-clause-reaches g c =
    let ready : task_at c.mark_ready.new.self.table ≡ ready_tasks c.args.now c.args.named.now
    (tasks_of c.args.self.now) = λ i s. c.mark_ready.ensures.each s i in
    subst (λ table. Reaches (ready_tasks c.args.now c.args.named.now (tasks_of c.args.self.now)) (task_at table)
    c.poll_ready-came.new.ran.polled.items c.poll_ready-came.result.1) (sym c.drop_first.ensures.table)
    (subst (λ was. Reaches was (task_at c.poll_ready-came.new.ready.table) c.poll_ready-came.new.ran.polled.items
    c.poll_ready-came.result.1)
    ready c.poll_ready-came.ensures.reaches)

pub returns-clause-outputs : goal.returns-clause-outputs
returns-clause-outputs g c =
    let ready : task_at c.mark_ready.new.self.table ≡ ready_tasks c.args.now c.args.named.now
    (tasks_of c.args.self.now) = λ i s. c.mark_ready.ensures.each s i in
    subst (λ was. AddsOutputs g.J.Job.aim g.J.Job.meets was c.poll_ready-came.new.ran.done.items c.args.self.now.outputs.items
    c.poll_ready-came.new.outputs.items) ready c.poll_ready-came.ensures.outputs

pub returns-clause-aims : goal.returns-clause-aims
returns-clause-aims g c = λ aims has.
    let ready : task_at c.mark_ready.new.self.table ≡ ready_tasks c.args.now c.args.named.now
    (tasks_of c.args.self.now) = λ i s. c.mark_ready.ensures.each s i in
    let after = c.poll_ready-came.new.outputs.items in
    subst (λ table. HasAims g.J.Job.aim g.J.Job.meets aims (task_at table) after) (sym c.drop_first.ensures.table)
    (aims_turn g.J.Job.aim g.J.Job.meets aims g.J.Job.polls g.J.Job.cancels c.mark_ready.new.self.moment
    (task_at c.mark_ready.new.self.table)
    (task_at c.poll_ready-came.new.ready.table) c.poll_ready-came.new.ran.polled.items c.poll_ready-came.new.ran.canceled.items
    c.poll_ready-came.new.ran.done.items c.poll_ready-came.result.1 c.args.self.now.outputs.items after c.poll_ready-came.ensures.turns
    c.poll_ready-came.ensures.outputs
    (subst (λ was. HasAims g.J.Job.aim g.J.Job.meets aims was c.args.self.now.outputs.items) (sym ready)
    (aims_ready g.J.Job.aim g.J.Job.meets aims c.args.now c.args.named.now (tasks_of c.args.self.now) c.args.self.now.outputs.items has)))

-- what waited in the driver waits
pub returns-clause-waits : goal.returns-clause-waits
returns-clause-waits g c = λ waiting.
    let ready : task_at c.mark_ready.new.self.table ≡ ready_tasks c.args.now c.args.named.now
    (tasks_of c.args.self.now) = λ i s. c.mark_ready.ensures.each s i in
    subst (λ table. AreWaiting g.J.Job.waits c.poll_ready-came.new.driver (task_at table)) (sym c.drop_first.ensures.table)
    (c.poll_ready-came.ensures.waits (subst (AreWaiting g.J.Job.waits c.args.self.now.driver) (sym ready) waiting))

-- each task is in one place at most still
pub returns-clause-stands : goal.returns-clause-stands
returns-clause-stands g c =
    let after = c.poll_ready-came.new in
    let placed : ArePlaced c.args.self.now.spawned (task_at c.drop_first.new.self.table) after.outputs.items =
    subst (λ table. ArePlaced c.args.self.now.spawned (task_at table) after.outputs.items) (sym c.drop_first.ensures.table)
    (placed_turn c.args.self.now.spawned c.args.now c.args.named.now (tasks_of c.args.self.now) (task_at c.mark_ready.new.self.table)
    (task_at after.ready.table) c.args.self.now.outputs.items after.outputs.items c.mark_ready.ensures.each c.poll_ready-came.ensures.places
    c.requires.stands.numbers c.requires.stands.placed) in
    search rules
