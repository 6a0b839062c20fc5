use Rattle.relay_net.proofs.Opened.{accept_ends, accept_readable, accept_fails, accept_starves, accept_waits, accepted_for}
use Rattle.relay_net.proofs.Listens.{accept_goes, accept_makes}
use Rattle.relay_net.proofs.Keyed.{accepted_keys, pending_keys, starved_keys}
use Rattle.relay_net.specs.Relay.{IsAccept}
use Rattle.relay_net.proofs.Forwarding.{accept_reads, ended_seen, read_pends_seen, starved_seen}
use Rattle.relay_net.proofs.Polls.{starved_waits}
use Rattle.relay_net.proofs.opening.poll_accept.Goals as goal

pub returns-in-Ok-Pending-clause-widens : goal.returns-in-Ok-Pending-clause-widens
returns-in-Ok-Pending-clause-widens g c =
    (accept_waits g.I.NonBlock.view g.I.NonBlock.tells g.I.NonBlock.memory g.I.NonBlock.files g.I.Calls.called g.met.I.NonBlock.calls
    c.args.driver.now c.poll_op.new.self c.args.op c.in-Ok-Pending.op c.in-Ok-Pending.field-0 0 c.args.listener
    c.in-Ok-Pending.field-0-is c.in-Ok-Pending.ensures.polls c.in-Ok-Pending.ensures.tokens c.requires.pending).0

pub returns-in-Ok-Pending-clause-accepted : goal.returns-in-Ok-Pending-clause-accepted
returns-in-Ok-Pending-clause-accepted g c =
    (accept_waits g.I.NonBlock.view g.I.NonBlock.tells g.I.NonBlock.memory g.I.NonBlock.files g.I.Calls.called g.met.I.NonBlock.calls
    c.args.driver.now c.poll_op.new.self c.args.op c.in-Ok-Pending.op c.in-Ok-Pending.field-0 0 c.args.listener
    c.in-Ok-Pending.field-0-is c.in-Ok-Pending.ensures.polls c.in-Ok-Pending.ensures.tokens c.requires.pending).1

pub returns-in-Ok-Ready-clause-widens : goal.returns-in-Ok-Ready-clause-widens
returns-in-Ok-Ready-clause-widens g c =
    (accept_ends g.I.NonBlock.view g.I.NonBlock.tells g.I.NonBlock.memory g.I.NonBlock.files g.I.Calls.called g.met.I.NonBlock.calls
    c.args.driver.now c.poll_op.new.self c.args.op c.in-Ok-Ready.field-0 c.in-Ok-Ready.done 0 c.args.listener
    c.in-Ok-Ready.field-0-is c.in-Ok-Ready.ensures.polls c.requires.pending).0

pub returns-in-Ok-Ready-clause-accepted : goal.returns-in-Ok-Ready-clause-accepted
returns-in-Ok-Ready-clause-accepted g c =
    accepted_for g.I.NonBlock.view c.args.driver.now c.poll_op.new.self c.args.listener c.in-Ok-Ready.done.outcome c.accepted_of.result
    (accept_ends g.I.NonBlock.view g.I.NonBlock.tells g.I.NonBlock.memory g.I.NonBlock.files g.I.Calls.called g.met.I.NonBlock.calls
    c.args.driver.now c.poll_op.new.self c.args.op c.in-Ok-Ready.field-0 c.in-Ok-Ready.done 0 c.args.listener
    c.in-Ok-Ready.field-0-is c.in-Ok-Ready.ensures.polls c.requires.pending).1
    (accept_fails g.I.NonBlock.view g.I.NonBlock.tells g.I.NonBlock.memory g.I.NonBlock.files g.I.Calls.called g.met.I.NonBlock.calls
    g.met.I.Sockets.numbered c.args.driver.now c.poll_op.new.self c.args.op c.in-Ok-Ready.field-0 c.in-Ok-Ready.done 0 c.args.listener
    c.in-Ok-Ready.field-0-is c.in-Ok-Ready.ensures.polls c.requires.pending c.requires.number) c.accepted_of.ensures

pub returns-in-Err-clause-widens : goal.returns-in-Err-clause-widens
returns-in-Err-clause-widens g c =
    (accept_starves g.I.NonBlock.view g.I.NonBlock.tells g.I.NonBlock.memory g.I.NonBlock.files g.I.Calls.called g.met.I.NonBlock.calls
    c.args.driver.now c.poll_op.new.self c.args.op c.in-Err.op c.in-Err.field-0-0 0 c.args.listener c.in-Err.ensures.polls
    c.in-Err.ensures.tokens c.requires.pending).0

pub returns-in-Err-clause-accepted : goal.returns-in-Err-clause-accepted
returns-in-Err-clause-accepted g c =
    (accept_starves g.I.NonBlock.view g.I.NonBlock.tells g.I.NonBlock.memory g.I.NonBlock.files g.I.Calls.called g.met.I.NonBlock.calls
    c.args.driver.now c.poll_op.new.self c.args.op c.in-Err.op c.in-Err.field-0-0 0 c.args.listener c.in-Err.ensures.polls
    c.in-Err.ensures.tokens c.requires.pending).1

pub returns-in-Ok-Pending-clause-makes : goal.returns-in-Ok-Pending-clause-makes
returns-in-Ok-Pending-clause-makes g c = λ memory hand.
    absurd (accept_goes g.I.NonBlock.view g.I.NonBlock.tells g.I.NonBlock.memory g.I.NonBlock.files g.I.Calls.called g.met.I.NonBlock.calls
    c.args.driver.now c.poll_op.new.self c.args.op c.in-Ok-Pending.op c.in-Ok-Pending.field-0 0 c.args.listener
    c.in-Ok-Pending.field-0-is c.in-Ok-Pending.ensures.polls c.requires.pending memory hand)

pub returns-in-Ok-Ready-clause-makes : goal.returns-in-Ok-Ready-clause-makes
returns-in-Ok-Ready-clause-makes g c = λ memory hand.
    accept_makes g.I.NonBlock.view g.I.NonBlock.tells g.I.NonBlock.memory g.I.NonBlock.files g.I.Calls.called g.met.I.NonBlock.calls
    g.met.I.Sockets.numbered c.args.driver.now c.poll_op.new.self c.args.op c.in-Ok-Ready.field-0 c.in-Ok-Ready.done 0 c.args.listener
    c.accepted_of.result c.in-Ok-Ready.field-0-is c.in-Ok-Ready.ensures.polls c.requires.pending c.requires.number c.accepted_of.ensures
    memory hand

pub returns-in-Ok-Pending-clause-keyed : goal.returns-in-Ok-Pending-clause-keyed
returns-in-Ok-Pending-clause-keyed g c =
    pending_keys g.I.NonBlock.view g.I.NonBlock.tells g.I.NonBlock.memory g.I.NonBlock.files g.I.Calls.called g.met.I.NonBlock.calls
    c.args.driver.now c.poll_op.new.self c.args.op c.in-Ok-Pending.op c.in-Ok-Pending.field-0 0 c.in-Ok-Pending.field-0-is
    c.in-Ok-Pending.ensures.polls

pub returns-in-Ok-Ready-clause-keyed : goal.returns-in-Ok-Ready-clause-keyed
returns-in-Ok-Ready-clause-keyed g c =
    accepted_keys g.I.NonBlock.view g.I.NonBlock.tells g.I.NonBlock.memory g.I.NonBlock.files g.I.Calls.called g.met.I.NonBlock.calls
    g.met.I.Sockets.numbered c.args.driver.now c.poll_op.new.self c.args.op c.in-Ok-Ready.field-0 c.in-Ok-Ready.done 0 c.args.listener
    c.in-Ok-Ready.field-0-is c.in-Ok-Ready.ensures.polls c.requires.pending

pub returns-in-Err-clause-keyed : goal.returns-in-Err-clause-keyed
returns-in-Err-clause-keyed g c =
    starved_keys g.I.NonBlock.view g.I.NonBlock.tells g.I.NonBlock.memory g.I.NonBlock.files g.I.Calls.called g.met.I.NonBlock.calls
    c.args.driver.now c.poll_op.new.self c.args.op _ 0 c.in-Err.ensures.polls

pub returns-in-Ok-Pending-clause-seen : goal.returns-in-Ok-Pending-clause-seen
returns-in-Ok-Pending-clause-seen g c =
    read_pends_seen g.I.NonBlock.view g.I.NonBlock.tells g.I.NonBlock.memory g.met.I.NonBlock.memory_tells g.I.NonBlock.files
    g.I.Calls.called
    g.met.I.NonBlock.calls
    c.args.driver.now c.poll_op.new.self c.args.op c.in-Ok-Pending.op c.in-Ok-Pending.field-0 0 c.args.listener
    (IsAccept c.args.listener) c.in-Ok-Pending.field-0-is c.in-Ok-Pending.ensures.polls c.requires.pending
    (λ request is. accept_reads request c.args.listener _ is)

pub returns-in-Ok-Ready-clause-seen : goal.returns-in-Ok-Ready-clause-seen
returns-in-Ok-Ready-clause-seen g c =
    ended_seen g.I.NonBlock.view g.I.NonBlock.tells g.I.NonBlock.memory g.met.I.NonBlock.memory_tells g.I.NonBlock.files g.I.Calls.called
    g.met.I.NonBlock.calls
    c.args.driver.now c.poll_op.new.self c.args.op c.in-Ok-Ready.field-0 c.in-Ok-Ready.done 0 c.in-Ok-Ready.field-0-is
    c.in-Ok-Ready.ensures.polls (accept_readable g.I.NonBlock.view g.I.NonBlock.tells g.I.NonBlock.memory g.I.NonBlock.files
    g.I.Calls.called g.met.I.NonBlock.calls c.args.driver.now c.poll_op.new.self c.args.op c.in-Ok-Ready.field-0 c.in-Ok-Ready.done 0
    c.args.listener c.in-Ok-Ready.field-0-is c.in-Ok-Ready.ensures.polls c.requires.pending)

pub returns-in-Err-clause-seen : goal.returns-in-Err-clause-seen
returns-in-Err-clause-seen g c =
    starved_seen g.I.NonBlock.view g.I.NonBlock.tells g.I.NonBlock.memory g.met.I.NonBlock.memory_tells g.I.NonBlock.files g.I.Calls.called
    g.met.I.NonBlock.calls
    c.args.driver.now c.poll_op.new.self c.args.op _ 0
    (starved_waits g.I.NonBlock.view g.I.NonBlock.tells g.I.NonBlock.memory g.I.NonBlock.files g.I.Calls.called g.met.I.NonBlock.calls
    c.args.driver.now c.poll_op.new.self c.args.op _ 0 c.in-Err.ensures.polls).world c.in-Err.ensures.polls
