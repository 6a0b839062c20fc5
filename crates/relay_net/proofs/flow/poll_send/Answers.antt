use Rattle.std.proofs.Common.{Ok, subst}
use Rattle.rent_buf.specs.Buf.{built}
use Rattle.op_driver.specs.Legacy.{LegacyPolls}
use Rattle.relay_net.proofs.Outcomes.{send_ended, send_stops, send_waits}
use Rattle.relay_net.proofs.Forwarding.{ended_seen, send_comes, send_pends_seen, send_waits_on, starved_seen}
use Rattle.relay_net.proofs.Moves.{sent_load}
use Rattle.relay_net.proofs.Polls.{starved_waits}
use Rattle.relay_net.proofs.Seeing.{moves_readable}
use Rattle.relay_net.proofs.Keyed.{pending_keys, sent_keys, starved_keys}
use Rattle.relay_net.proofs.flow.poll_send.Goals as goal

pub returns-in-Ok-Pending-clause-flows : goal.returns-in-Ok-Pending-clause-flows
returns-in-Ok-Pending-clause-flows g c =
    send_waits g.I.NonBlock.view g.I.NonBlock.tells g.I.NonBlock.memory g.I.NonBlock.files g.I.Calls.called g.met.I.NonBlock.calls
    c.args.driver.now c.poll_op.new.self c.args.op c.in-Ok-Pending.op c.in-Ok-Pending.field-0 0 c.args.room c.args.from c.args.to
    c.args.count
    c.in-Ok-Pending.field-0-is c.in-Ok-Pending.ensures.polls c.in-Ok-Pending.ensures.tokens c.requires.pending

pub returns-in-Ok-Ready-clause-flows : goal.returns-in-Ok-Ready-clause-flows
returns-in-Ok-Ready-clause-flows g c =
    send_ended g.I.NonBlock.view g.I.NonBlock.tells g.I.NonBlock.memory g.I.NonBlock.files g.I.Calls.called g.met.I.NonBlock.calls
    c.args.driver.now c.poll_op.new.self c.args.op c.in-Ok-Ready.done 0 c.args.room c.args.from c.args.to c.args.count c.sent_buffer.result
    c.sent.result.0 c.sent.result.1
    (subst (λ a. LegacyPolls g.I.NonBlock.files built g.I.Calls.called g.I.NonBlock.view g.I.NonBlock.tells g.I.NonBlock.memory
    c.args.driver.now c.poll_op.new.self c.args.op 0 (Ok a)) c.in-Ok-Ready.field-0-is c.in-Ok-Ready.ensures.polls) c.requires.pending
    c.sent_buffer.ensures c.sent.ensures.ended

pub returns-in-Err-clause-flows : goal.returns-in-Err-clause-flows
returns-in-Err-clause-flows g c =
    send_stops g.I.NonBlock.view g.I.NonBlock.tells g.I.NonBlock.memory g.I.NonBlock.files g.I.Calls.called g.met.I.NonBlock.calls
    c.args.driver.now c.poll_op.new.self c.args.op c.in-Err.op c.in-Err.field-0-0 0 c.args.room c.args.from c.args.to c.args.count
    c.in-Err.ensures.polls
    c.in-Err.ensures.tokens c.requires.pending

pub returns-in-Ok-Pending-clause-keyed : goal.returns-in-Ok-Pending-clause-keyed
returns-in-Ok-Pending-clause-keyed g c =
    pending_keys g.I.NonBlock.view g.I.NonBlock.tells g.I.NonBlock.memory g.I.NonBlock.files g.I.Calls.called g.met.I.NonBlock.calls
    c.args.driver.now c.poll_op.new.self c.args.op c.in-Ok-Pending.op c.in-Ok-Pending.field-0 0 c.in-Ok-Pending.field-0-is
    c.in-Ok-Pending.ensures.polls

pub returns-in-Ok-Ready-clause-keyed : goal.returns-in-Ok-Ready-clause-keyed
returns-in-Ok-Ready-clause-keyed g c =
    sent_keys g.I.NonBlock.view g.I.NonBlock.tells g.I.NonBlock.memory g.I.NonBlock.files g.I.Calls.called g.met.I.NonBlock.calls
    c.args.driver.now c.poll_op.new.self c.args.op c.in-Ok-Ready.field-0 c.in-Ok-Ready.done 0 c.args.to c.args.count
    c.in-Ok-Ready.field-0-is c.in-Ok-Ready.ensures.polls c.requires.pending

pub returns-in-Err-clause-keyed : goal.returns-in-Err-clause-keyed
returns-in-Err-clause-keyed g c =
    starved_keys g.I.NonBlock.view g.I.NonBlock.tells g.I.NonBlock.memory g.I.NonBlock.files g.I.Calls.called g.met.I.NonBlock.calls
    c.args.driver.now c.poll_op.new.self c.args.op _ 0 c.in-Err.ensures.polls

pub sent-requires-clause-load : goal.sent-requires-clause-load
sent-requires-clause-load g c =
    sent_load g.I.NonBlock.view g.I.NonBlock.tells g.I.NonBlock.memory g.I.NonBlock.files g.I.Calls.called g.met.I.NonBlock.calls
    c.args.driver.now c.poll_op.new.self c.args.op c.in-Ok-Ready.done 0 c.args.to c.args.count c.sent_buffer.result
    (subst (λ a. LegacyPolls g.I.NonBlock.files built g.I.Calls.called g.I.NonBlock.view g.I.NonBlock.tells g.I.NonBlock.memory
    c.args.driver.now c.poll_op.new.self c.args.op 0 (Ok a)) c.in-Ok-Ready.field-0-is c.in-Ok-Ready.ensures.polls)
    c.requires.pending c.sent_buffer.ensures

pub returns-in-Ok-Pending-clause-seen : goal.returns-in-Ok-Pending-clause-seen
returns-in-Ok-Pending-clause-seen g c =
    send_pends_seen g.I.NonBlock.view g.I.NonBlock.tells g.I.NonBlock.memory g.met.I.NonBlock.memory_tells g.I.NonBlock.files
    g.I.Calls.called
    g.met.I.NonBlock.calls
    c.args.driver.now c.poll_op.new.self c.args.op c.in-Ok-Pending.op c.in-Ok-Pending.field-0 0 c.args.to c.args.count
    c.in-Ok-Pending.field-0-is c.in-Ok-Pending.ensures.polls c.requires.pending

pub returns-in-Ok-Ready-clause-seen : goal.returns-in-Ok-Ready-clause-seen
returns-in-Ok-Ready-clause-seen g c =
    ended_seen g.I.NonBlock.view g.I.NonBlock.tells g.I.NonBlock.memory g.met.I.NonBlock.memory_tells g.I.NonBlock.files g.I.Calls.called
    g.met.I.NonBlock.calls
    c.args.driver.now c.poll_op.new.self c.args.op c.in-Ok-Ready.field-0 c.in-Ok-Ready.done 0 c.in-Ok-Ready.field-0-is
    c.in-Ok-Ready.ensures.polls
    (λ t h stream. moves_readable _ _ c.args.from c.args.to h ((returns-in-Ok-Ready-clause-flows g c).leaves.moves t) stream)

pub returns-in-Err-clause-seen : goal.returns-in-Err-clause-seen
returns-in-Err-clause-seen g c =
    starved_seen g.I.NonBlock.view g.I.NonBlock.tells g.I.NonBlock.memory g.met.I.NonBlock.memory_tells g.I.NonBlock.files g.I.Calls.called
    g.met.I.NonBlock.calls
    c.args.driver.now c.poll_op.new.self c.args.op _ 0
    (starved_waits g.I.NonBlock.view g.I.NonBlock.tells g.I.NonBlock.memory g.I.NonBlock.files g.I.Calls.called g.met.I.NonBlock.calls
    c.args.driver.now c.poll_op.new.self c.args.op _ 0 c.in-Err.ensures.polls).world c.in-Err.ensures.polls

pub returns-in-Ok-Pending-clause-forwards : goal.returns-in-Ok-Pending-clause-forwards
returns-in-Ok-Pending-clause-forwards g c = λ memory can goes.
    send_waits_on g.I.NonBlock.view g.I.NonBlock.tells g.I.NonBlock.memory g.met.I.NonBlock.memory_tells g.I.NonBlock.files g.I.Calls.called
    g.met.I.NonBlock.calls
    c.args.driver.now c.poll_op.new.self c.args.op c.in-Ok-Pending.op c.in-Ok-Pending.field-0 0 c.args.room c.args.from c.args.to
    c.args.count _ _
    c.in-Ok-Pending.field-0-is c.in-Ok-Pending.ensures.polls c.requires.pending memory can

pub returns-in-Ok-Ready-clause-forwards : goal.returns-in-Ok-Ready-clause-forwards
returns-in-Ok-Ready-clause-forwards g c = λ memory can goes.
    send_comes g.I.NonBlock.view g.I.NonBlock.tells g.I.NonBlock.memory g.met.I.NonBlock.memory_tells g.I.NonBlock.files g.I.Calls.called
    g.met.I.NonBlock.calls
    c.args.driver.now c.poll_op.new.self c.args.op c.in-Ok-Ready.field-0 c.in-Ok-Ready.done 0 c.args.room c.args.from c.args.to c.args.count
    c.sent_buffer.result c.sent.result.0 c.in-Ok-Ready.field-0-is c.in-Ok-Ready.ensures.polls c.requires.pending
    c.sent_buffer.ensures memory can.to_stream
