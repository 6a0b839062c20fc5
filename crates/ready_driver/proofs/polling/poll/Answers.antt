use Rattle.std.proofs.Common.{inl, inr, refl, sym, ◌∙◌, ap, subst}
use Rattle.driver_core.specs.Op.{key_of}
use Rattle.driver_core.specs.Slot.{EndsSlot}
use Rattle.driver_core.specs.Calls.{CallsSlot}
use Rattle.driver_core.specs.declared.operations.calls.CallAnswer.TheVariants.{Done, WouldBlock, OutOfMemory}
use Rattle.machine.specs.Request.{plain_request}
use Rattle.ready_driver.specs.Errors.{IsCounted}
use Rattle.ready_driver.specs.Io.{IsMade, CallsFor, AreDue}
use Rattle.ready_driver.proofs.Ended.{ready-reply, ready-stand, ready-rest, unmade-stand, blocks-driven, made-reply, made-stand, made-rest}
use Rattle.ready_driver.proofs.Named.{ready-slots, ready-outcome, ready-request, called-named, calls-in-slot, calls-ended}
use Rattle.ready_driver.proofs.Named.{unmade-slots, made-slots, made-outcome}
use Rattle.ready_driver.proofs.polling.poll.Goals as goal

pub returns-in-Ready-clause-polls : goal.returns-in-Ready-clause-polls
returns-in-Ready-clause-polls g c = λ memory D stand. (
    let st = stand.operations.slots in
    let rest = ready-rest g.B.IoBufMut.buffer D _ c.args.op.key c.args.op.number st c.requires c.args.task _ c.in-Ready.done
    c.in-Ready.ensures.polls in (
      ready-reply g.B.IoBufMut.buffer D _ c.args.op.key c.args.op.number st c.requires c.args.task _ c.in-Ready.done
          c.in-Ready.ensures.polls,
      record {
        operations = record {
          given = c.poll.ensures.given ∙ stand.operations.given ∙ sym rest.1;
          slots = ready-stand g.B.IoBufMut.buffer D _ c.args.op.key c.args.op.number st c.requires c.args.task _ c.in-Ready.done
              c.in-Ready.ensures.polls;
        };
        handles = stand.handles ∙ sym rest.0;
      },
    ))

pub returns-in-Done-clause-polls : goal.returns-in-Done-clause-polls
returns-in-Done-clause-polls g c = λ memory D stand. (
    let same = ap key_of c.in-Pending.ensures.tokens.0 in
    let st = stand.operations.slots in
    let calls : CallsSlot g.B.IoBufMut.buffer g.I.Calls.called c.poll.new.self.slots.values c.args.op.key c.args.io.now
    c.call.new.self.slots.values c.call.new.caller (Done c.in-Done.outcome) =
    subst (λ key. CallsSlot g.B.IoBufMut.buffer g.I.Calls.called c.poll.new.self.slots.values key c.args.io.now
    c.call.new.self.slots.values c.call.new.caller (Done c.in-Done.outcome)) same c.in-Done.ensures.calls in
    let moved : IsMade g.I.NonBlock.tells g.I.NonBlock.memory (g.I.NonBlock.view c.args.io.now)
    (plain_request g.B.IoBufMut.buffer calls.slot.request) (g.I.NonBlock.view c.call.new.caller)
    (plain_request g.B.IoBufMut.buffer calls.now.request) c.in-Done.outcome =
    g.met.I.NonBlock.calls c.args.io.now (plain_request g.B.IoBufMut.buffer calls.slot.request) c.call.new.caller
    (plain_request g.B.IoBufMut.buffer calls.now.request) (Done c.in-Done.outcome) calls.calls in
    let made = moved.called memory in
    let ends =
    subst (λ key. EndsSlot c.call.new.self.slots.values key c.in-Done.outcome c.end_op.new.self.slots.values c.end_op.result) same
    c.end_op.ensures.ends in
    let rest = made-rest g.B.IoBufMut.buffer D c.args.ops.now.slots.values c.args.op.key c.args.op.number st c.requires g.I.Calls.called
    c.args.task c.poll.new.self.slots.values c.call.new.self.slots.values c.args.io.now c.call.new.caller (Done c.in-Done.outcome)
    c.in-Pending.ensures.polls calls
    _ _ c.in-Done.outcome c.end_op.result c.end_op.new.self.slots.values stand.handles made.0 ends in (
      made-reply g.B.IoBufMut.buffer D c.args.ops.now.slots.values c.args.op.key c.args.op.number st c.requires g.I.Calls.called c.args.task
          c.poll.new.self.slots.values c.call.new.self.slots.values c.args.io.now c.call.new.caller (Done c.in-Done.outcome)
          c.in-Pending.ensures.polls calls _ _
          c.in-Done.outcome c.end_op.result c.end_op.new.self.slots.values stand.handles made.0 ends,
      record {
        operations = record {
          given = c.end_op.ensures.given ∙ c.call.ensures.given ∙ c.poll.ensures.given ∙ stand.operations.given ∙ sym rest.1;
          slots = made-stand g.B.IoBufMut.buffer D c.args.ops.now.slots.values c.args.op.key c.args.op.number st c.requires g.I.Calls.called
              c.args.task c.poll.new.self.slots.values c.call.new.self.slots.values c.args.io.now c.call.new.caller (Done c.in-Done.outcome)
              c.in-Pending.ensures.polls calls _ _ c.in-Done.outcome c.end_op.result c.end_op.new.self.slots.values stand.handles made.0
              ends;
        };
        handles = rest.0;
      },
    ))

pub returns-in-WouldBlock-clause-polls : goal.returns-in-WouldBlock-clause-polls
returns-in-WouldBlock-clause-polls g c = λ memory D stand. (
    let same = ap key_of c.in-Pending.ensures.tokens.0 in
    let st = stand.operations.slots in
    let calls : CallsSlot g.B.IoBufMut.buffer g.I.Calls.called c.poll.new.self.slots.values c.args.op.key c.args.io.now
    c.call.new.self.slots.values c.call.new.caller WouldBlock =
    subst (λ key. CallsSlot g.B.IoBufMut.buffer g.I.Calls.called c.poll.new.self.slots.values key c.args.io.now
    c.call.new.self.slots.values c.call.new.caller WouldBlock) same c.in-WouldBlock.ensures.calls in
    let unmade : CallsFor g.I.NonBlock.tells g.I.NonBlock.memory (g.I.NonBlock.view c.args.io.now)
    (plain_request g.B.IoBufMut.buffer calls.slot.request) (g.I.NonBlock.view c.call.new.caller)
    (plain_request g.B.IoBufMut.buffer calls.now.request) WouldBlock =
    g.met.I.NonBlock.calls c.args.io.now (plain_request g.B.IoBufMut.buffer calls.slot.request) c.call.new.caller
    (plain_request g.B.IoBufMut.buffer calls.now.request) WouldBlock calls.calls in (
      c.in-Pending.ensures.tokens.0,
      blocks-driven g.B.IoBufMut.buffer D c.args.ops.now.slots.values c.args.op.key c.args.op.number st c.requires g.I.Calls.called
          c.args.task
          c.poll.new.self.slots.values c.call.new.self.slots.values c.args.io.now c.call.new.caller WouldBlock
          c.in-Pending.ensures.polls calls _
          stand.handles (unmade.2 memory).0,
      record {
        operations = record {
          given = c.call.ensures.given ∙ c.poll.ensures.given ∙ stand.operations.given;
          slots = unmade-stand g.B.IoBufMut.buffer D c.args.ops.now.slots.values c.args.op.key c.args.op.number st c.requires
              g.I.Calls.called
              c.args.task c.poll.new.self.slots.values c.call.new.self.slots.values c.args.io.now c.call.new.caller WouldBlock
              c.in-Pending.ensures.polls calls unmade.0.same;
        };
        handles = unmade.0.world (g.met.I.NonBlock.memory_tells memory) ∙ stand.handles;
      },
    ))

pub returns-in-OutOfMemory-clause-polls : goal.returns-in-OutOfMemory-clause-polls
returns-in-OutOfMemory-clause-polls g c = λ memory D stand. (
    let same = ap key_of c.in-Pending.ensures.tokens.0 in
    let st = stand.operations.slots in
    let calls : CallsSlot g.B.IoBufMut.buffer g.I.Calls.called c.poll.new.self.slots.values c.args.op.key c.args.io.now
    c.call.new.self.slots.values c.call.new.caller OutOfMemory =
    subst (λ key. CallsSlot g.B.IoBufMut.buffer g.I.Calls.called c.poll.new.self.slots.values key c.args.io.now
    c.call.new.self.slots.values c.call.new.caller OutOfMemory) same c.in-OutOfMemory.ensures.calls in
    let unmade : CallsFor g.I.NonBlock.tells g.I.NonBlock.memory (g.I.NonBlock.view c.args.io.now)
    (plain_request g.B.IoBufMut.buffer calls.slot.request) (g.I.NonBlock.view c.call.new.caller)
    (plain_request g.B.IoBufMut.buffer calls.now.request) OutOfMemory =
    g.met.I.NonBlock.calls c.args.io.now (plain_request g.B.IoBufMut.buffer calls.slot.request) c.call.new.caller
    (plain_request g.B.IoBufMut.buffer calls.now.request) OutOfMemory calls.calls in (
      c.in-Pending.ensures.tokens.0,
      record {
        operations = record {
          given = c.call.ensures.given ∙ c.poll.ensures.given ∙ stand.operations.given;
          slots = unmade-stand g.B.IoBufMut.buffer D c.args.ops.now.slots.values c.args.op.key c.args.op.number st c.requires
              g.I.Calls.called
              c.args.task c.poll.new.self.slots.values c.call.new.self.slots.values c.args.io.now c.call.new.caller OutOfMemory
              c.in-Pending.ensures.polls calls unmade.0.same;
        };
        handles = unmade.0.world (g.met.I.NonBlock.memory_tells memory) ∙ stand.handles;
      },
    ))

pub returns-in-Ready-clause-slots : goal.returns-in-Ready-clause-slots
returns-in-Ready-clause-slots g c =
    ready-slots c.args.ops.now.slots.values c.args.op.key c.args.op.number c.requires c.args.task c.poll.new.self.slots.values
    c.in-Ready.done
    c.in-Ready.ensures.polls

pub returns-in-Done-clause-slots : goal.returns-in-Done-clause-slots
returns-in-Done-clause-slots g c = (
    let same = ap key_of c.in-Pending.ensures.tokens.0 in
    let calls : CallsSlot g.B.IoBufMut.buffer g.I.Calls.called c.poll.new.self.slots.values c.args.op.key c.args.io.now
    c.call.new.self.slots.values c.call.new.caller (Done c.in-Done.outcome) =
    subst (λ key. CallsSlot g.B.IoBufMut.buffer g.I.Calls.called c.poll.new.self.slots.values key c.args.io.now
    c.call.new.self.slots.values c.call.new.caller (Done c.in-Done.outcome)) same c.in-Done.ensures.calls in
    let moved : IsMade g.I.NonBlock.tells g.I.NonBlock.memory (g.I.NonBlock.view c.args.io.now)
    (plain_request g.B.IoBufMut.buffer calls.slot.request) (g.I.NonBlock.view c.call.new.caller)
    (plain_request g.B.IoBufMut.buffer calls.now.request) c.in-Done.outcome =
    g.met.I.NonBlock.calls c.args.io.now (plain_request g.B.IoBufMut.buffer calls.slot.request) c.call.new.caller
    (plain_request g.B.IoBufMut.buffer calls.now.request) (Done c.in-Done.outcome) calls.calls in
    let ends =
    subst (λ key. EndsSlot c.call.new.self.slots.values key c.in-Done.outcome c.end_op.new.self.slots.values c.end_op.result) same
    c.end_op.ensures.ends in
    made-slots c.args.ops.now.slots.values c.args.op.key c.args.op.number c.requires g.B.IoBufMut.buffer g.I.Calls.called c.args.task
    c.poll.new.self.slots.values c.call.new.self.slots.values c.args.io.now c.call.new.caller (Done c.in-Done.outcome)
    c.in-Pending.ensures.polls calls c.in-Done.outcome c.end_op.result c.end_op.new.self.slots.values moved.ends ends)

pub returns-in-WouldBlock-clause-slots : goal.returns-in-WouldBlock-clause-slots
returns-in-WouldBlock-clause-slots g c = (
    let same = ap key_of c.in-Pending.ensures.tokens.0 in
    let calls : CallsSlot g.B.IoBufMut.buffer g.I.Calls.called c.poll.new.self.slots.values c.args.op.key c.args.io.now
    c.call.new.self.slots.values c.call.new.caller WouldBlock =
    subst (λ key. CallsSlot g.B.IoBufMut.buffer g.I.Calls.called c.poll.new.self.slots.values key c.args.io.now
    c.call.new.self.slots.values c.call.new.caller WouldBlock) same c.in-WouldBlock.ensures.calls in
    let unmade : CallsFor g.I.NonBlock.tells g.I.NonBlock.memory (g.I.NonBlock.view c.args.io.now)
    (plain_request g.B.IoBufMut.buffer calls.slot.request) (g.I.NonBlock.view c.call.new.caller)
    (plain_request g.B.IoBufMut.buffer calls.now.request) WouldBlock =
    g.met.I.NonBlock.calls c.args.io.now (plain_request g.B.IoBufMut.buffer calls.slot.request) c.call.new.caller
    (plain_request g.B.IoBufMut.buffer calls.now.request) WouldBlock calls.calls in
    unmade-slots c.args.ops.now.slots.values c.args.op.key c.args.op.number c.requires g.B.IoBufMut.buffer g.I.Calls.called c.args.task
    c.poll.new.self.slots.values c.call.new.self.slots.values c.args.io.now c.call.new.caller WouldBlock c.in-Pending.ensures.polls calls
    unmade.0.same)

pub returns-in-OutOfMemory-clause-slots : goal.returns-in-OutOfMemory-clause-slots
returns-in-OutOfMemory-clause-slots g c = (
    let same = ap key_of c.in-Pending.ensures.tokens.0 in
    let calls : CallsSlot g.B.IoBufMut.buffer g.I.Calls.called c.poll.new.self.slots.values c.args.op.key c.args.io.now
    c.call.new.self.slots.values c.call.new.caller OutOfMemory =
    subst (λ key. CallsSlot g.B.IoBufMut.buffer g.I.Calls.called c.poll.new.self.slots.values key c.args.io.now
    c.call.new.self.slots.values c.call.new.caller OutOfMemory) same c.in-OutOfMemory.ensures.calls in
    let unmade : CallsFor g.I.NonBlock.tells g.I.NonBlock.memory (g.I.NonBlock.view c.args.io.now)
    (plain_request g.B.IoBufMut.buffer calls.slot.request) (g.I.NonBlock.view c.call.new.caller)
    (plain_request g.B.IoBufMut.buffer calls.now.request) OutOfMemory =
    g.met.I.NonBlock.calls c.args.io.now (plain_request g.B.IoBufMut.buffer calls.slot.request) c.call.new.caller
    (plain_request g.B.IoBufMut.buffer calls.now.request) OutOfMemory calls.calls in
    unmade-slots c.args.ops.now.slots.values c.args.op.key c.args.op.number c.requires g.B.IoBufMut.buffer g.I.Calls.called c.args.task
    c.poll.new.self.slots.values c.call.new.self.slots.values c.args.io.now c.call.new.caller OutOfMemory c.in-Pending.ensures.polls calls
    unmade.0.same)

pub returns-in-Ready-clause-returns : goal.returns-in-Ready-clause-returns
returns-in-Ready-clause-returns g c =
    inl (ready-outcome c.args.ops.now.slots.values c.args.op.key c.args.op.number c.requires c.args.task c.poll.new.self.slots.values
    c.in-Ready.done c.in-Ready.ensures.polls)

pub returns-in-Done-clause-returns : goal.returns-in-Done-clause-returns
returns-in-Done-clause-returns g c =
    let view = g.I.NonBlock.view in
    let same = ap key_of c.in-Pending.ensures.tokens.0 in
    let calls : CallsSlot g.B.IoBufMut.buffer g.I.Calls.called c.poll.new.self.slots.values c.args.op.key c.args.io.now
    c.call.new.self.slots.values c.call.new.caller (Done c.in-Done.outcome) =
    subst (λ key. CallsSlot g.B.IoBufMut.buffer g.I.Calls.called c.poll.new.self.slots.values key c.args.io.now
    c.call.new.self.slots.values c.call.new.caller (Done c.in-Done.outcome)) same c.in-Done.ensures.calls in
    let moved : IsMade g.I.NonBlock.tells g.I.NonBlock.memory (view c.args.io.now) (plain_request g.B.IoBufMut.buffer calls.slot.request)
    (view c.call.new.caller) (plain_request g.B.IoBufMut.buffer calls.now.request) c.in-Done.outcome =
    g.met.I.NonBlock.calls c.args.io.now (plain_request g.B.IoBufMut.buffer calls.slot.request) c.call.new.caller
    (plain_request g.B.IoBufMut.buffer calls.now.request) (Done c.in-Done.outcome) calls.calls in
    let ends =
    subst (λ key. EndsSlot c.call.new.self.slots.values key c.in-Done.outcome c.end_op.new.self.slots.values c.end_op.result) same
    c.end_op.ensures.ends in
    inr (subst (λ o. IsCounted o (view c.args.io.now) (view c.call.new.caller))
    (sym (made-outcome c.args.ops.now.slots.values c.args.op.key c.args.op.number c.requires g.B.IoBufMut.buffer g.I.Calls.called
    c.args.task c.poll.new.self.slots.values c.call.new.self.slots.values c.args.io.now c.call.new.caller (Done c.in-Done.outcome)
    c.in-Pending.ensures.polls calls c.in-Done.outcome c.end_op.result c.end_op.new.self.slots.values ends))
    (record { fails = moved.fails; made = moved.made }))

pub returns-in-Done-clause-shown : goal.returns-in-Done-clause-shown
returns-in-Done-clause-shown g c = λ memory. (
    let same = ap key_of c.in-Pending.ensures.tokens.0 in
    let calls : CallsSlot g.B.IoBufMut.buffer g.I.Calls.called c.poll.new.self.slots.values c.args.op.key c.args.io.now
    c.call.new.self.slots.values c.call.new.caller (Done c.in-Done.outcome) =
    subst (λ key. CallsSlot g.B.IoBufMut.buffer g.I.Calls.called c.poll.new.self.slots.values key c.args.io.now
    c.call.new.self.slots.values c.call.new.caller (Done c.in-Done.outcome)) same c.in-Done.ensures.calls in
    let moved : IsMade g.I.NonBlock.tells g.I.NonBlock.memory (g.I.NonBlock.view c.args.io.now)
    (plain_request g.B.IoBufMut.buffer calls.slot.request) (g.I.NonBlock.view c.call.new.caller)
    (plain_request g.B.IoBufMut.buffer calls.now.request) c.in-Done.outcome =
    g.met.I.NonBlock.calls c.args.io.now (plain_request g.B.IoBufMut.buffer calls.slot.request) c.call.new.caller
    (plain_request g.B.IoBufMut.buffer calls.now.request) (Done c.in-Done.outcome) calls.calls in
    moved.shown memory)

pub returns-in-WouldBlock-clause-shown : goal.returns-in-WouldBlock-clause-shown
returns-in-WouldBlock-clause-shown g c = λ memory. (
    let same = ap key_of c.in-Pending.ensures.tokens.0 in
    let calls : CallsSlot g.B.IoBufMut.buffer g.I.Calls.called c.poll.new.self.slots.values c.args.op.key c.args.io.now
    c.call.new.self.slots.values c.call.new.caller WouldBlock =
    subst (λ key. CallsSlot g.B.IoBufMut.buffer g.I.Calls.called c.poll.new.self.slots.values key c.args.io.now
    c.call.new.self.slots.values c.call.new.caller WouldBlock) same c.in-WouldBlock.ensures.calls in
    let unmade : CallsFor g.I.NonBlock.tells g.I.NonBlock.memory (g.I.NonBlock.view c.args.io.now)
    (plain_request g.B.IoBufMut.buffer calls.slot.request) (g.I.NonBlock.view c.call.new.caller)
    (plain_request g.B.IoBufMut.buffer calls.now.request) WouldBlock =
    g.met.I.NonBlock.calls c.args.io.now (plain_request g.B.IoBufMut.buffer calls.slot.request) c.call.new.caller
    (plain_request g.B.IoBufMut.buffer calls.now.request) WouldBlock calls.calls in
    unmade.0.shown memory)

pub returns-in-WouldBlock-clause-due : goal.returns-in-WouldBlock-clause-due
returns-in-WouldBlock-clause-due g c = λ memory pending. (
    let same = ap key_of c.in-Pending.ensures.tokens.0 in
    let calls : CallsSlot g.B.IoBufMut.buffer g.I.Calls.called c.poll.new.self.slots.values c.args.op.key c.args.io.now
    c.call.new.self.slots.values c.call.new.caller WouldBlock =
    subst (λ key. CallsSlot g.B.IoBufMut.buffer g.I.Calls.called c.poll.new.self.slots.values key c.args.io.now
    c.call.new.self.slots.values c.call.new.caller WouldBlock) same c.in-WouldBlock.ensures.calls in
    let unmade : CallsFor g.I.NonBlock.tells g.I.NonBlock.memory (g.I.NonBlock.view c.args.io.now)
    (plain_request g.B.IoBufMut.buffer calls.slot.request) (g.I.NonBlock.view c.call.new.caller)
    (plain_request g.B.IoBufMut.buffer calls.now.request) WouldBlock =
    g.met.I.NonBlock.calls c.args.io.now (plain_request g.B.IoBufMut.buffer calls.slot.request) c.call.new.caller
    (plain_request g.B.IoBufMut.buffer calls.now.request) WouldBlock calls.calls in
    subst (AreDue (g.I.NonBlock.view c.call.new.caller))
    (called-named c.args.ops.now.slots.values c.args.op.key c.args.op.number c.requires g.B.IoBufMut.buffer g.I.Calls.called c.args.task
    c.poll.new.self.slots.values c.call.new.self.slots.values c.args.io.now c.call.new.caller WouldBlock c.in-Pending.ensures.polls calls)
    (unmade.2 memory).1)

pub returns-in-OutOfMemory-clause-shown : goal.returns-in-OutOfMemory-clause-shown
returns-in-OutOfMemory-clause-shown g c = λ memory. (
    let same = ap key_of c.in-Pending.ensures.tokens.0 in
    let calls : CallsSlot g.B.IoBufMut.buffer g.I.Calls.called c.poll.new.self.slots.values c.args.op.key c.args.io.now
    c.call.new.self.slots.values c.call.new.caller OutOfMemory =
    subst (λ key. CallsSlot g.B.IoBufMut.buffer g.I.Calls.called c.poll.new.self.slots.values key c.args.io.now
    c.call.new.self.slots.values c.call.new.caller OutOfMemory) same c.in-OutOfMemory.ensures.calls in
    let unmade : CallsFor g.I.NonBlock.tells g.I.NonBlock.memory (g.I.NonBlock.view c.args.io.now)
    (plain_request g.B.IoBufMut.buffer calls.slot.request) (g.I.NonBlock.view c.call.new.caller)
    (plain_request g.B.IoBufMut.buffer calls.now.request) OutOfMemory =
    g.met.I.NonBlock.calls c.args.io.now (plain_request g.B.IoBufMut.buffer calls.slot.request) c.call.new.caller
    (plain_request g.B.IoBufMut.buffer calls.now.request) OutOfMemory calls.calls in
    unmade.0.shown memory)

pub returns-in-Ready-clause-calls : goal.returns-in-Ready-clause-calls
returns-in-Ready-clause-calls g c = inl (
  refl,
  ready-outcome c.args.ops.now.slots.values c.args.op.key c.args.op.number c.requires c.args.task c.poll.new.self.slots.values
      c.in-Ready.done c.in-Ready.ensures.polls,
  ready-request c.args.ops.now.slots.values c.args.op.key c.args.op.number c.requires c.args.task c.poll.new.self.slots.values
      c.in-Ready.done c.in-Ready.ensures.polls,
)

pub returns-in-Done-clause-calls : goal.returns-in-Done-clause-calls
returns-in-Done-clause-calls g c =
    let same = ap key_of c.in-Pending.ensures.tokens.0 in
    let calls : CallsSlot g.B.IoBufMut.buffer g.I.Calls.called c.poll.new.self.slots.values c.args.op.key c.args.io.now
    c.call.new.self.slots.values c.call.new.caller (Done c.in-Done.outcome) =
    subst (λ key. CallsSlot g.B.IoBufMut.buffer g.I.Calls.called c.poll.new.self.slots.values key c.args.io.now
    c.call.new.self.slots.values c.call.new.caller (Done c.in-Done.outcome)) same c.in-Done.ensures.calls in
    let ends =
    subst (λ key. EndsSlot c.call.new.self.slots.values key c.in-Done.outcome c.end_op.new.self.slots.values c.end_op.result) same
    c.end_op.ensures.ends in
    inr (calls-ended c.args.ops.now.slots.values c.args.op.key c.args.op.number c.requires g.B.IoBufMut.buffer g.I.Calls.called c.args.task
    c.poll.new.self.slots.values c.call.new.self.slots.values c.args.io.now c.call.new.caller (Done c.in-Done.outcome)
    c.in-Pending.ensures.polls calls c.in-Done.outcome c.end_op.result c.end_op.new.self.slots.values refl ends)

pub returns-in-WouldBlock-clause-calls : goal.returns-in-WouldBlock-clause-calls
returns-in-WouldBlock-clause-calls g c =
    let same = ap key_of c.in-Pending.ensures.tokens.0 in
    let calls : CallsSlot g.B.IoBufMut.buffer g.I.Calls.called c.poll.new.self.slots.values c.args.op.key c.args.io.now
    c.call.new.self.slots.values c.call.new.caller WouldBlock =
    subst (λ key. CallsSlot g.B.IoBufMut.buffer g.I.Calls.called c.poll.new.self.slots.values key c.args.io.now
    c.call.new.self.slots.values c.call.new.caller WouldBlock) same c.in-WouldBlock.ensures.calls in
    calls-in-slot c.args.ops.now.slots.values c.args.op.key c.args.op.number c.requires g.B.IoBufMut.buffer
    g.I.Calls.called c.args.task
    c.poll.new.self.slots.values c.call.new.self.slots.values c.args.io.now c.call.new.caller WouldBlock c.in-Pending.ensures.polls calls

pub returns-in-OutOfMemory-clause-calls : goal.returns-in-OutOfMemory-clause-calls
returns-in-OutOfMemory-clause-calls g c =
    let same = ap key_of c.in-Pending.ensures.tokens.0 in
    let calls : CallsSlot g.B.IoBufMut.buffer g.I.Calls.called c.poll.new.self.slots.values c.args.op.key c.args.io.now
    c.call.new.self.slots.values c.call.new.caller OutOfMemory =
    subst (λ key. CallsSlot g.B.IoBufMut.buffer g.I.Calls.called c.poll.new.self.slots.values key c.args.io.now
    c.call.new.self.slots.values c.call.new.caller OutOfMemory) same c.in-OutOfMemory.ensures.calls in
    inr (calls-in-slot c.args.ops.now.slots.values c.args.op.key c.args.op.number c.requires g.B.IoBufMut.buffer
    g.I.Calls.called c.args.task
    c.poll.new.self.slots.values c.call.new.self.slots.values c.args.io.now c.call.new.caller OutOfMemory c.in-Pending.ensures.polls calls)
