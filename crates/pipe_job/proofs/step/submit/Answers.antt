use Rattle.std.proofs.Common.{refl}
use Rattle.ready_driver.specs.LegacyState.{ops_in}
use Rattle.pipe_job.specs.declared.step.Wait.TheVariants.{Room}
use Rattle.pipe_job.proofs.Frames.{submitted_keeps, submitted_own}
use Rattle.pipe_job.proofs.Staying.{refused_stays, submitted_stays}
use Rattle.pipe_job.proofs.Resting.{refused_rest, submitted_rest}
use Rattle.pipe_job.proofs.Stepping.{moves_none, refused_moves, submitted_moves}
use Rattle.pipe_job.proofs.step.submit.Goals as goal

pub returns-in-Ok-submit_alone-clause-fits : goal.returns-in-Ok-submit_alone-clause-fits
returns-in-Ok-submit_alone-clause-fits g c = submitted_own (ops_in c.args.driver.now) (ops_in c.submit_alone.new.driver)
    c.in-Ok-submit_alone.op c.request-request.result c.args.course.now c.args.cancels c.in-Ok-submit_alone.ensures.token
    c.in-Ok-submit_alone.ensures.joins.slots c.request-request.ensures

pub returns-in-Ok-submit_alone-clause-others : goal.returns-in-Ok-submit_alone-clause-others
returns-in-Ok-submit_alone-clause-others g c = submitted_keeps (ops_in c.args.driver.now) (ops_in c.submit_alone.new.driver)
    c.in-Ok-submit_alone.op c.request-request.result (Room c.args.room) c.in-Ok-submit_alone.ensures.token
    c.in-Ok-submit_alone.ensures.joins.slots

-- a submission leaves the others waiting, also one that is refused
pub returns-in-Ok-submit_alone-clause-stays : goal.returns-in-Ok-submit_alone-clause-stays
returns-in-Ok-submit_alone-clause-stays g c = submitted_stays g.I.NonBlock.files g.I.NonBlock.view g.I.NonBlock.tells g.I.NonBlock.memory
    c.args.driver.now
    c.submit_alone.new.driver c.request-request.result c.in-Ok-submit_alone.op (Room c.args.room) c.in-Ok-submit_alone.ensures.token
    c.in-Ok-submit_alone.ensures.joins

pub returns-in-Full-clause-stays : goal.returns-in-Full-clause-stays
returns-in-Full-clause-stays g c = refused_stays g.I.NonBlock.files g.I.NonBlock.view g.I.NonBlock.tells g.I.NonBlock.memory
    c.args.driver.now
    c.submit_alone.new.driver c.request-request.result c.in-Err-submit_alone.refused (Room c.args.room) c.in-Err-submit_alone.ensures.err

pub returns-in-OutOfMemory-clause-stays : goal.returns-in-OutOfMemory-clause-stays
returns-in-OutOfMemory-clause-stays g c = refused_stays g.I.NonBlock.files g.I.NonBlock.view g.I.NonBlock.tells g.I.NonBlock.memory
    c.args.driver.now
    c.submit_alone.new.driver c.request-request.result c.in-Err-submit_alone.refused (Room c.args.room) c.in-Err-submit_alone.ensures.err

pub returns-in_default-clause-stays : goal.returns-in_default-clause-stays
returns-in_default-clause-stays g c = refused_stays g.I.NonBlock.files g.I.NonBlock.view g.I.NonBlock.tells g.I.NonBlock.memory
    c.args.driver.now
    c.submit_alone.new.driver c.request-request.result c.in-Err-submit_alone.refused (Room c.args.room) c.in-Err-submit_alone.ensures.err

-- and moves nothing
pub returns-in-Err-clause-moves : goal.returns-in-Err-clause-moves
returns-in-Err-clause-moves g c = moves_none g.I.NonBlock.files g.I.NonBlock.view g.I.NonBlock.tells g.I.NonBlock.memory
    c.args.course.now c.args.driver.now c.args.driver.now (λ t. refl) (λ dir none. none)

pub returns-in-Ok-submit_alone-clause-moves : goal.returns-in-Ok-submit_alone-clause-moves
returns-in-Ok-submit_alone-clause-moves g c = submitted_moves g.I.NonBlock.files g.I.NonBlock.view g.I.NonBlock.tells g.I.NonBlock.memory
    c.args.course.now c.args.driver.now c.submit_alone.new.driver c.request-request.result c.in-Ok-submit_alone.op
    c.in-Ok-submit_alone.ensures.joins

pub returns-in-OutOfMemory-clause-moves : goal.returns-in-OutOfMemory-clause-moves
returns-in-OutOfMemory-clause-moves g c = refused_moves g.I.NonBlock.files g.I.NonBlock.view g.I.NonBlock.tells g.I.NonBlock.memory
    c.args.course.now c.args.driver.now c.submit_alone.new.driver c.request-request.result c.in-Err-submit_alone.refused
    c.in-Err-submit_alone.ensures.err

-- and leaves the rest of the driver
pub returns-in-Ok-submit_alone-clause-rest : goal.returns-in-Ok-submit_alone-clause-rest
returns-in-Ok-submit_alone-clause-rest g c = submitted_rest g.I.NonBlock.view g.I.NonBlock.tells g.I.NonBlock.memory c.args.driver.now
    c.submit_alone.new.driver c.request-request.result c.in-Ok-submit_alone.op (Room c.args.room) c.in-Ok-submit_alone.ensures.token
    c.in-Ok-submit_alone.ensures.joins

pub returns-in-Full-clause-rest : goal.returns-in-Full-clause-rest
returns-in-Full-clause-rest g c = refused_rest g.I.NonBlock.view g.I.NonBlock.tells g.I.NonBlock.memory c.args.driver.now
    c.submit_alone.new.driver c.request-request.result c.in-Err-submit_alone.refused (Room c.args.room) c.in-Err-submit_alone.ensures.err

pub returns-in-OutOfMemory-clause-rest : goal.returns-in-OutOfMemory-clause-rest
returns-in-OutOfMemory-clause-rest g c = refused_rest g.I.NonBlock.view g.I.NonBlock.tells g.I.NonBlock.memory c.args.driver.now
    c.submit_alone.new.driver c.request-request.result c.in-Err-submit_alone.refused (Room c.args.room) c.in-Err-submit_alone.ensures.err

pub returns-in_default-clause-rest : goal.returns-in_default-clause-rest
returns-in_default-clause-rest g c = refused_rest g.I.NonBlock.view g.I.NonBlock.tells g.I.NonBlock.memory c.args.driver.now
    c.submit_alone.new.driver c.request-request.result c.in-Err-submit_alone.refused (Room c.args.room) c.in-Err-submit_alone.ensures.err
