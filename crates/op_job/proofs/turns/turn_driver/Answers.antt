use Rattle.std.proofs.Common.{refl}
use Rattle.core_exec.specs.Exec.{tasks_of}
use Rattle.op_job.proofs.Waits.{turned_waits}
use Rattle.op_job.proofs.turns.turn_driver.Goals as goal

-- the turn is a step beside each task that it doesn't name
pub returns-clause-waits : goal.returns-clause-waits
returns-clause-waits g c = λ waiting now.
    turned_waits g.D.OpDriver.submits g.D.OpDriver.polls g.D.OpDriver.cancels g.D.Driver.turns g.D.OpDriver.ops now c.turn.result.woken
    c.args.exec.now.driver c.turn.new.self c.turn.result (tasks_of c.args.exec.now) (tasks_of c.args.exec.now) c.turn.ensures.turns refl
    (λ t none. none) c.requires.sound.all_fit c.turn.ensures.tokens c.turn.ensures.given waiting
