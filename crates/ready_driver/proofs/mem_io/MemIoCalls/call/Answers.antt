use Rattle.std.proofs.Common.{◌≤◌, true, refl, sym, ◌∙◌, length, ap, subst, arith}
use Rattle.machine.specs.Effect.{made_by}
use Rattle.machine.specs.Request.{plain_request, listed}
use Rattle.machine.proofs.Requests.{makes-mapped, named-mapped}
use Rattle.ready_driver.specs.Due.{Duty}
use Rattle.driver_core.specs.declared.operations.calls.CallAnswer.TheVariants.{WouldBlock}
use Rattle.ready_driver.specs.Io.{IsMade, CallsFor}
use Rattle.ready_driver.specs.MemIo.{Memory, memory_view}
use Rattle.ready_driver.specs.Reports.{with_made_key}
use Rattle.ready_driver.proofs.Called.{if-some, on-ok, called-makes, called-keys, made-fits, memory-called, memory-blocked}
use Rattle.ready_driver.proofs.Shown.{each-count, called-shown, blocked-shown}
use Rattle.ready_driver.proofs.mem_io.MemIoCalls.call.Goals as goal

pub reserve_key-requires : goal.reserve_key-requires
reserve_key-requires g c = c.self.invariant.1

pub invariant_of-self : goal.invariant_of-self
invariant_of-self g c =
    let same = ap length c.reserve_key.ensures.items in
    let room = c.self.invariant.1 in
    let more = c.reserve_key.ensures.count in
    let fits : length c.reserve_key.new.keys.items ≤ c.reserve_key.new.due.count = omega (arith, same, room, more) in
    (same ∙ c.self.invariant.0, fits)

pub add_key-requires : goal.add_key-requires
add_key-requires g c =
    if-some c.made.result (λ h made. on-ok c.reserve_key.result (sym c.is_err.ensures.value ∙ c.if-is_err.false) c.reserve_key.ensures.room
    (c.makes.ensures ∙ sym (makes-mapped _ _ c.args.request.now)
    ∙ called-makes c.self.inside.world (plain_request g.B.IoBufMut.buffer c.args.request.now) c.call.new.self
    (plain_request g.B.IoBufMut.buffer c.call.new.request) c.in-Done.outcome c.in-Done.ensures.calls h (sym c.made.ensures ∙ made)))

pub invariant_of-self-in-Done : goal.invariant_of-self-in-Done
invariant_of-self-in-Done g c =
    let keys = c.add_key.ensures ∙ ap (λ made. with_made_key made c.reserve_key.new.keys.items) c.made.ensures
    ∙ ap (with_made_key (made_by c.in-Done.outcome)) c.reserve_key.ensures.items in
    let count = ap (λ (d : Duty). d.count) c.add_names.ensures ∙ each-count c.reserve_key.new.due (listed c.names-names.result) in
    let room = c.self.invariant.1 in
    let more = c.reserve_key.ensures.count in
    let fits = made-fits (made_by c.in-Done.outcome) c.self.inside.keys.items c.reserve_key.new.due.count (omega (arith, room, more))
    (λ h made. on-ok c.reserve_key.result (sym c.is_err.ensures.value ∙ c.if-is_err.false) c.reserve_key.ensures.more
    (c.makes.ensures ∙ sym (makes-mapped _ _ c.args.request.now)
    ∙ called-makes c.self.inside.world (plain_request g.B.IoBufMut.buffer c.args.request.now) c.call.new.self
    (plain_request g.B.IoBufMut.buffer c.call.new.request) c.in-Done.outcome c.in-Done.ensures.calls h made)) in
    let same = ap length keys in
    let now : length c.add_key.new.keys.items ≤ c.add_names.new.self.count = omega (arith, same, fits, count) in (
      same ∙ called-keys c.self.inside.world (plain_request g.B.IoBufMut.buffer c.args.request.now) c.call.new.self
          (plain_request g.B.IoBufMut.buffer c.call.new.request) c.in-Done.outcome c.in-Done.ensures.calls c.self.inside.keys.items
          c.self.invariant.0,
      now,
    )

pub invariant_of-self-in-WouldBlock : goal.invariant_of-self-in-WouldBlock
invariant_of-self-in-WouldBlock g c =
    let same = ap length c.reserve_key.ensures.items in
    let room = c.self.invariant.1 in
    let more = c.reserve_key.ensures.count in
    let count = ap (λ (d : Duty). d.count) c.add_names-in-WouldBlock.ensures
    ∙ each-count c.reserve_key.new.due (listed c.names-names.result) in
    let fits : length c.reserve_key.new.keys.items ≤ c.add_names-in-WouldBlock.new.self.count = omega (arith, same, room, more, count) in
    (same ∙ c.self.invariant.0 ∙ ap length (sym c.in-WouldBlock.ensures.calls.1), fits)

pub returns-in-Done-clause-called : goal.returns-in-Done-clause-called
returns-in-Done-clause-called g c =
    let keys = c.add_key.ensures ∙ ap (λ made. with_made_key made c.reserve_key.new.keys.items) c.made.ensures
    ∙ ap (with_made_key (made_by c.in-Done.outcome)) c.reserve_key.ensures.items in
    let room = c.self.invariant.1 in
    let more = c.reserve_key.ensures.count in
    let fits : length c.self.inside.keys.items ≤ c.reserve_key.new.due.count = omega (arith, room, more) in
    let old : Memory = record {
      world = c.self.inside.world;
      keys = c.self.inside.keys.items;
      due = c.self.inside.due.handles;
      blocks = c.self.inside.blocks;
      fails = c.self.inside.fails;
      waits = c.self.inside.waits;
      closes = c.self.inside.closes;
      limit = c.self.inside.limit;
    } in
    let new : Memory = record {
      world = c.call.new.self;
      keys = c.add_key.new.keys.items;
      due = c.add_names.new.self.handles;
      blocks = c.self.inside.blocks;
      fails = c.count_fail-self-inside.result;
      waits = c.self.inside.waits;
      closes = c.self.inside.closes;
      limit = c.self.inside.limit;
    } in
    let request = plain_request g.B.IoBufMut.buffer c.args.request.now in
    let now = plain_request g.B.IoBufMut.buffer c.call.new.request in
    subst (λ was. IsMade true true (memory_view was) request (memory_view new) now c.in-Done.outcome) c.self.view_is
    (memory-called old new request now c.in-Done.outcome c.in-Done.ensures.calls keys refl refl c.count_fail-self-inside.ensures.more
    c.count_fail-self-inside.ensures.rose
    (called-shown old new c.reserve_key.new.due request now c.in-Done.outcome (listed c.names-names.result)
    (c.names-names.ensures ∙ sym (named-mapped _ _ c.args.request.now)) c.reserve_key.ensures.handles fits c.self.invariant.0
    c.in-Done.ensures.calls keys (ap (λ (d : Duty). d.handles) c.add_names.ensures)))

pub returns-in-WouldBlock-clause-called : goal.returns-in-WouldBlock-clause-called
returns-in-WouldBlock-clause-called g c =
    let room = c.self.invariant.1 in
    let more = c.reserve_key.ensures.count in
    let fits : length c.self.inside.keys.items ≤ c.reserve_key.new.due.count = omega (arith, room, more) in
    let old : Memory = record {
      world = c.self.inside.world;
      keys = c.self.inside.keys.items;
      due = c.self.inside.due.handles;
      blocks = c.self.inside.blocks;
      fails = c.self.inside.fails;
      waits = c.self.inside.waits;
      closes = c.self.inside.closes;
      limit = c.self.inside.limit;
    } in
    let new : Memory = record {
      world = c.call.new.self;
      keys = c.reserve_key.new.keys.items;
      due = c.add_names-in-WouldBlock.new.self.handles;
      blocks = c.count_block-self-inside.result;
      fails = c.self.inside.fails;
      waits = c.self.inside.waits;
      closes = c.self.inside.closes;
      limit = c.self.inside.limit;
    } in
    let request = plain_request g.B.IoBufMut.buffer c.args.request.now in
    let now = plain_request g.B.IoBufMut.buffer c.call.new.request in
    let calls = c.in-WouldBlock.ensures.calls in
    let shown = blocked-shown old new c.reserve_key.new.due request (listed c.names-names.result)
    (c.names-names.ensures ∙ sym (named-mapped _ _ c.args.request.now)) c.reserve_key.ensures.handles fits calls.1
    c.reserve_key.ensures.items (ap (λ (d : Duty). d.handles) c.add_names-in-WouldBlock.ensures) in
    subst (λ was. CallsFor true true (memory_view was) request (memory_view new) now WouldBlock) c.self.view_is
    (memory-blocked old new request now calls c.reserve_key.ensures.items refl refl c.count_block-self-inside.ensures.more
    c.count_block-self-inside.ensures.rose shown.0 shown.1)
