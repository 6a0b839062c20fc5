use Rattle.pipe_job.proofs.Polling.{ended_steps, pending_awaits, pending_steps, starved_steps}
use Rattle.pipe_job.proofs.step.poll_op.Goals as goal

-- pending, and listed
pub returns-in-Ok-Pending-clause-steps : goal.returns-in-Ok-Pending-clause-steps
returns-in-Ok-Pending-clause-steps g c =
    pending_steps g.I.NonBlock.files g.I.NonBlock.view g.I.NonBlock.tells g.I.NonBlock.memory g.I.Calls.called g.met.I.NonBlock.calls
    g.met.I.NonBlock.memory_files g.met.I.NonBlock.memory_tells c.args.driver.now c.poll_op-answer.new.self c.args.op c.args.task
    c.args.course.now c.args.cancels c.requires.fits
    c.in-Ok-Pending.op c.in-Ok-Pending.field-0 c.in-Ok-Pending.field-0-is (record {
      ends = c.in-Ok-Pending.ensures.ends;
      fails = c.in-Ok-Pending.ensures.fails;
      slots = c.in-Ok-Pending.ensures.slots;
      tokens = c.in-Ok-Pending.ensures.tokens;
      given = c.poll_op-answer.ensures.given;
      others = c.poll_op-answer.ensures.others;
      asked = c.poll_op-answer.ensures.asked;
      recorded = c.given.ensures.recorded;
      held = c.given.ensures.held;
    })

pub returns-in-Ok-Pending-clause-awaits : goal.returns-in-Ok-Pending-clause-awaits
returns-in-Ok-Pending-clause-awaits g c =
    pending_awaits g.I.NonBlock.files g.I.NonBlock.view g.I.NonBlock.tells g.I.NonBlock.memory g.I.Calls.called g.met.I.NonBlock.calls
    g.met.I.NonBlock.memory_files g.met.I.NonBlock.memory_tells c.args.driver.now c.poll_op-answer.new.self c.args.op c.args.task
    c.args.course.now c.args.cancels c.requires.fits
    c.in-Ok-Pending.op c.in-Ok-Pending.field-0 c.in-Ok-Pending.field-0-is (record {
      ends = c.in-Ok-Pending.ensures.ends;
      fails = c.in-Ok-Pending.ensures.fails;
      slots = c.in-Ok-Pending.ensures.slots;
      tokens = c.in-Ok-Pending.ensures.tokens;
      given = c.poll_op-answer.ensures.given;
      others = c.poll_op-answer.ensures.others;
      asked = c.poll_op-answer.ensures.asked;
      recorded = c.given.ensures.recorded;
      held = c.given.ensures.held;
    })

pub returns-in-Ok-Ready-clause-steps : goal.returns-in-Ok-Ready-clause-steps
returns-in-Ok-Ready-clause-steps g c =
    ended_steps g.I.NonBlock.files g.I.NonBlock.view g.I.NonBlock.tells g.I.NonBlock.memory g.I.Calls.called g.met.I.NonBlock.calls
    g.met.I.NonBlock.memory_files g.met.I.NonBlock.memory_tells c.args.driver.now c.poll_op-answer.new.self c.args.op c.args.task
    c.args.course.now c.args.cancels c.requires.fits
    c.in-Ok-Ready.done c.in-Ok-Ready.field-0 c.ended.result c.ended.new.course c.ended.ensures.same c.in-Ok-Ready.field-0-is (record {
      ends = c.in-Ok-Ready.ensures.ends;
      fails = c.in-Ok-Ready.ensures.fails;
      slots = c.in-Ok-Ready.ensures.slots;
      tokens = c.in-Ok-Ready.ensures.tokens;
      given = c.poll_op-answer.ensures.given;
      others = c.poll_op-answer.ensures.others;
      asked = c.poll_op-answer.ensures.asked;
      recorded = c.given.ensures.recorded;
      held = c.given.ensures.held;
    }) c.ended.ensures.step

pub returns-in-Err-clause-steps : goal.returns-in-Err-clause-steps
returns-in-Err-clause-steps g c =
    starved_steps g.I.NonBlock.files g.I.NonBlock.view g.I.NonBlock.tells g.I.NonBlock.memory g.I.Calls.called g.met.I.NonBlock.calls
    g.met.I.NonBlock.memory_files g.met.I.NonBlock.memory_tells c.args.driver.now c.poll_op-answer.new.self c.args.op c.args.task
    c.args.course.now c.args.cancels c.requires.fits
    (c.in-Err.field-0-0, c.in-Err.op) (record {
      ends = c.in-Err.ensures.ends;
      fails = c.in-Err.ensures.fails;
      slots = c.in-Err.ensures.slots;
      tokens = c.in-Err.ensures.tokens;
      given = c.poll_op-answer.ensures.given;
      others = c.poll_op-answer.ensures.others;
      asked = c.poll_op-answer.ensures.asked;
      recorded = c.given.ensures.recorded;
      held = c.given.ensures.held;
    })
