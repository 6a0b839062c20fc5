use Rattle.std.proofs.Common.{Ok, subst}
use Rattle.rent_buf.specs.Buf.{built}
use Rattle.op_driver.specs.Legacy.{LegacyPolls}
use Rattle.relay_net.proofs.Outcomes.{receive_ended, receive_stops, receive_waits}
use Rattle.relay_net.specs.Flow.{IsReceive}
use Rattle.relay_net.specs.Outcomes.{ReceivedAs}
use Rattle.relay_net.proofs.Forwarding.{ended_seen, read_pends_seen, receive_comes, receive_reads, receive_waits_on, starved_seen}
use Rattle.relay_net.proofs.Moves.{received_load}
use Rattle.relay_net.proofs.Polls.{starved_waits}
use Rattle.relay_net.proofs.Seeing.{moves_readable}
use Rattle.relay_net.proofs.Keyed.{pending_keys, received_keys, starved_keys}
use Rattle.relay_net.proofs.flow.poll_receive.Goals as goal

pub returns-in-Ok-Pending-clause-flows : goal.returns-in-Ok-Pending-clause-flows
returns-in-Ok-Pending-clause-flows g c =
    receive_waits g.I.NonBlock.view g.I.NonBlock.tells g.I.NonBlock.memory g.I.NonBlock.files g.I.Calls.called g.met.I.NonBlock.calls
    c.args.driver.now c.poll_op.new.self c.args.op c.in-Ok-Pending.op c.in-Ok-Pending.field-0 0 c.args.room c.args.from c.args.to
    c.in-Ok-Pending.field-0-is c.in-Ok-Pending.ensures.polls
    c.in-Ok-Pending.ensures.tokens c.requires.pending

pub returns-in-Ok-Ready-clause-flows : goal.returns-in-Ok-Ready-clause-flows
returns-in-Ok-Ready-clause-flows g c =
    receive_ended g.I.NonBlock.view g.I.NonBlock.tells g.I.NonBlock.memory g.I.NonBlock.files g.I.Calls.called g.met.I.NonBlock.calls
    c.args.driver.now c.poll_op.new.self c.args.op c.in-Ok-Ready.done 0 c.args.room c.args.from c.args.to c.received_buffer.result
    c.received.result.0 c.received.result.1
    (subst (λ a. LegacyPolls g.I.NonBlock.files built g.I.Calls.called g.I.NonBlock.view g.I.NonBlock.tells g.I.NonBlock.memory
    c.args.driver.now c.poll_op.new.self c.args.op 0 (Ok a)) c.in-Ok-Ready.field-0-is c.in-Ok-Ready.ensures.polls) c.requires.pending
    c.received_buffer.ensures c.received.ensures.ended

pub returns-in-Err-clause-flows : goal.returns-in-Err-clause-flows
returns-in-Err-clause-flows g c =
    receive_stops g.I.NonBlock.view g.I.NonBlock.tells g.I.NonBlock.memory g.I.NonBlock.files g.I.Calls.called g.met.I.NonBlock.calls
    c.args.driver.now c.poll_op.new.self c.args.op c.in-Err.op c.in-Err.field-0-0 0 c.args.room c.args.from c.args.to c.in-Err.ensures.polls
    c.in-Err.ensures.tokens c.requires.pending

pub returns-in-Ok-Pending-clause-keyed : goal.returns-in-Ok-Pending-clause-keyed
returns-in-Ok-Pending-clause-keyed g c =
    pending_keys g.I.NonBlock.view g.I.NonBlock.tells g.I.NonBlock.memory g.I.NonBlock.files g.I.Calls.called g.met.I.NonBlock.calls
    c.args.driver.now c.poll_op.new.self c.args.op c.in-Ok-Pending.op c.in-Ok-Pending.field-0 0 c.in-Ok-Pending.field-0-is
    c.in-Ok-Pending.ensures.polls

pub returns-in-Ok-Ready-clause-keyed : goal.returns-in-Ok-Ready-clause-keyed
returns-in-Ok-Ready-clause-keyed g c =
    received_keys g.I.NonBlock.view g.I.NonBlock.tells g.I.NonBlock.memory g.I.NonBlock.files g.I.Calls.called g.met.I.NonBlock.calls
    c.args.driver.now c.poll_op.new.self c.args.op c.in-Ok-Ready.field-0 c.in-Ok-Ready.done 0 c.args.room c.args.from
    c.in-Ok-Ready.field-0-is c.in-Ok-Ready.ensures.polls c.requires.pending

pub returns-in-Err-clause-keyed : goal.returns-in-Err-clause-keyed
returns-in-Err-clause-keyed g c =
    starved_keys g.I.NonBlock.view g.I.NonBlock.tells g.I.NonBlock.memory g.I.NonBlock.files g.I.Calls.called g.met.I.NonBlock.calls
    c.args.driver.now c.poll_op.new.self c.args.op _ 0 c.in-Err.ensures.polls

pub received-requires-clause-load : goal.received-requires-clause-load
received-requires-clause-load g c =
    received_load g.I.NonBlock.view g.I.NonBlock.tells g.I.NonBlock.memory g.I.NonBlock.files g.I.Calls.called g.met.I.NonBlock.calls
    c.args.driver.now c.poll_op.new.self c.args.op c.in-Ok-Ready.done 0 c.args.room c.args.from c.received_buffer.result
    (subst (λ a. LegacyPolls g.I.NonBlock.files built g.I.Calls.called g.I.NonBlock.view g.I.NonBlock.tells g.I.NonBlock.memory
    c.args.driver.now c.poll_op.new.self c.args.op 0 (Ok a)) c.in-Ok-Ready.field-0-is c.in-Ok-Ready.ensures.polls)
    c.requires.pending c.received_buffer.ensures

pub returns-in-Ok-Pending-clause-seen : goal.returns-in-Ok-Pending-clause-seen
returns-in-Ok-Pending-clause-seen g c =
    read_pends_seen g.I.NonBlock.view g.I.NonBlock.tells g.I.NonBlock.memory g.met.I.NonBlock.memory_tells g.I.NonBlock.files
    g.I.Calls.called
    g.met.I.NonBlock.calls
    c.args.driver.now c.poll_op.new.self c.args.op c.in-Ok-Pending.op c.in-Ok-Pending.field-0 0 c.args.from
    (IsReceive c.args.room c.args.from)
    c.in-Ok-Pending.field-0-is c.in-Ok-Pending.ensures.polls c.requires.pending
    (λ request is. receive_reads request c.args.room c.args.from _ is)

pub returns-in-Ok-Ready-clause-seen : goal.returns-in-Ok-Ready-clause-seen
returns-in-Ok-Ready-clause-seen g c =
    ended_seen g.I.NonBlock.view g.I.NonBlock.tells g.I.NonBlock.memory g.met.I.NonBlock.memory_tells g.I.NonBlock.files g.I.Calls.called
    g.met.I.NonBlock.calls
    c.args.driver.now c.poll_op.new.self c.args.op c.in-Ok-Ready.field-0 c.in-Ok-Ready.done 0 c.in-Ok-Ready.field-0-is
    c.in-Ok-Ready.ensures.polls
    (λ t h stream. moves_readable _ _ c.args.from c.args.to h ((returns-in-Ok-Ready-clause-flows g c).leaves.moves t) stream)

pub returns-in-Err-clause-seen : goal.returns-in-Err-clause-seen
returns-in-Err-clause-seen g c =
    starved_seen g.I.NonBlock.view g.I.NonBlock.tells g.I.NonBlock.memory g.met.I.NonBlock.memory_tells g.I.NonBlock.files g.I.Calls.called
    g.met.I.NonBlock.calls
    c.args.driver.now c.poll_op.new.self c.args.op _ 0
    (starved_waits g.I.NonBlock.view g.I.NonBlock.tells g.I.NonBlock.memory g.I.NonBlock.files g.I.Calls.called g.met.I.NonBlock.calls
    c.args.driver.now c.poll_op.new.self c.args.op _ 0 c.in-Err.ensures.polls).world c.in-Err.ensures.polls

pub returns-in-Ok-Pending-clause-forwards : goal.returns-in-Ok-Pending-clause-forwards
returns-in-Ok-Pending-clause-forwards g c = λ memory can goes.
    receive_waits_on g.I.NonBlock.view g.I.NonBlock.tells g.I.NonBlock.memory g.met.I.NonBlock.memory_tells g.I.NonBlock.files
    g.I.Calls.called
    g.met.I.NonBlock.calls
    c.args.driver.now c.poll_op.new.self c.args.op c.in-Ok-Pending.op c.in-Ok-Pending.field-0 0 c.args.room c.args.from c.args.to
    c.in-Ok-Pending.field-0-is c.in-Ok-Pending.ensures.polls c.requires.pending memory can

pub returns-in-Ok-Ready-clause-forwards : goal.returns-in-Ok-Ready-clause-forwards
returns-in-Ok-Ready-clause-forwards g c = λ memory can goes.
    receive_comes g.I.NonBlock.view g.I.NonBlock.tells g.I.NonBlock.memory g.met.I.NonBlock.memory_tells g.I.NonBlock.files g.I.Calls.called
    g.met.I.NonBlock.calls
    c.args.driver.now c.poll_op.new.self c.args.op c.in-Ok-Ready.field-0 c.in-Ok-Ready.done 0 c.args.room c.args.from c.args.to
    c.received_buffer.result c.received.result.0 c.in-Ok-Ready.field-0-is c.in-Ok-Ready.ensures.polls c.requires.pending
    c.received_buffer.ensures (subst (ReceivedAs _ _ c.received.result.0) goes c.received.ensures.ended) memory can.from_stream
