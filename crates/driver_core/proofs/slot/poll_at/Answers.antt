use Rattle.driver_core.proofs.Polling.{polled-live, polled-completed, polls-none, polls-some}
use Rattle.driver_core.proofs.slot.poll_at.Goals as goal

pub take_done-requires-clause-live : goal.take_done-requires-clause-live
take_done-requires-clause-live g c =
    polled-live c.args.slots.now.values c.args.key c.args.task c.poll_slot.new.slots.values c.poll_slot.result c.poll_slot.ensures

pub take_done-requires-clause-completed : goal.take_done-requires-clause-completed
take_done-requires-clause-completed g c =
    polled-completed c.args.slots.now.values c.args.key c.args.task c.poll_slot.new.slots.values c.poll_slot.result c.poll_slot.ensures
    c.in-Take.is

pub returns-in-Pending : goal.returns-in-Pending
returns-in-Pending g c =
    polls-none c.args.slots.now.values c.args.key c.args.task c.poll_slot.new.slots.values c.poll_slot.result c.poll_slot.ensures
    c.in-Pending.is

pub returns-in-Take : goal.returns-in-Take
returns-in-Take g c =
    polls-some c.args.slots.now.values c.args.key c.args.task c.poll_slot.new.slots.values c.poll_slot.result c.poll_slot.ensures
    c.take_done.new.slots.values c.take_done.result c.in-Take.is c.take_done.ensures.done c.take_done.ensures.slots
