use Rattle.std.proofs.Common.{◌≡◌, Some, ◌⊎◌, refl, sym, ap, subst, ◌∙◌}
use Rattle.std.specs.Prelude.{Ok, Err}
use Rattle.std.specs.FinMap.{get}
use Rattle.machine.specs.Request.{named, listed, plain_request, held_of}
use Rattle.machine.specs.Effect.{made_by}
use Rattle.machine.specs.declared.ledger.Reply.TheVariants.{Pending as Waits, Handed}
use Rattle.driver_core.specs.Groups.{AreInSlots}
use Rattle.driver_core.specs.declared.op.PollOp.TheVariants.{Pending, Ready}
use Rattle.driver_core.specs.Holds.{is_maker, named_in, without_ops, unheld_by, CanLeave}
use Rattle.driver_core.specs.Members.{leaves, leaves as leaves_of}
use Rattle.driver_core.specs.Op.{KeepsTokens, DropsToken}
use Rattle.driver_core.specs.Slot.{number_at}
use Rattle.driver_core.proofs.Placing.{in-slots-left}
use Rattle.ready_driver.specs.Awaits.{slot_awaits, unless, is_met_at, IsWorldUnmet, LeavesFor, PollsUnless, KeysFor, TokensFor}
use Rattle.ready_driver.specs.Errors.{IsCounted, ReturnsFor}
use Rattle.ready_driver.specs.LegacyPolls.{PollsCall}
use Rattle.ready_driver.specs.LegacyState.{LegacyState, Holds}
use Rattle.ready_driver.specs.LegacyStep.{poll_slot}
use Rattle.ready_driver.specs.Legacy.{slot_at}
use Rattle.ready_driver.specs.Named.{AreNaming, IsCompleted, PollsSlotFor, KeepsSlot, ReturnsSlot}
use Rattle.ready_driver.specs.HandlesStand.{HandlesStand}
use Rattle.ready_driver.specs.Polling.{PartsStand, PollsFor}
use Rattle.ready_driver.specs.Turns.{AreReported}
use Rattle.ready_driver.specs.Registry.{AreRecorded, Handling, LetsGo}
use Rattle.ready_driver.specs.Reports.{with_made_key}
use Rattle.ready_driver.proofs.Calling.{refused-calls, calls-room}
use Rattle.ready_driver.proofs.Driven.{by_parts}
use Rattle.ready_driver.proofs.Errors.{error-caused}
use Rattle.ready_driver.proofs.Naming.{naming-room, naming-kept, naming-leave, naming-left, in-slots-tokens}
use Rattle.ready_driver.proofs.Others.{polls-keep}
use Rattle.ready_driver.proofs.Polled.{naming-handed, parts-room, room-handles, reported-room, stands-waiting, step-waits}
use Rattle.ready_driver.proofs.Polled.{answers-waits, stands-ended}
use Rattle.ready_driver.proofs.Registering.{leaves-refused, leaves-spare, made-room}
use Rattle.ready_driver.proofs.Showing.{shown-room, shown-polled, shown-handed, shown-left}
use Rattle.ready_driver.proofs.legacy.LegacyDriver.poll_op.Goals as goal

pub invariant_of-self : goal.invariant_of-self
invariant_of-self g c = (
  naming-room c.self.inside.registry.table c.reserve.new.registry.table c.self.inside.ops.slots.values c.self.inside.ops.given
      c.self.invariant.0 c.reserve.ensures.same.table,
  c.self.invariant.1,
  λ memory. shown-room g.I.NonBlock.view c.self.inside.untreated c.self.inside.registry c.reserve.new.registry c.reserve.ensures.same
      (c.self.invariant.2 memory),
)

pub invariant_of-self-in-Ok-Pending : goal.invariant_of-self-in-Ok-Pending
invariant_of-self-in-Ok-Pending g c =
    let d : LegacyState g.row.I.Denot g.row.B.Denot =
    by_parts c.self.inside.registry c.self.inside.ops c.self.inside.members c.self.inside.asked.items c.self.inside.untreated in
    let room = naming-room d.handling.table c.reserve.new.registry.table d.slots.values d.given c.self.invariant.0
    c.reserve.ensures.same.table in
    let polled = subst (λ t. AreNaming t d.slots.values d.given) (sym c.poll_op.ensures.table) room in
    let slots : KeepsSlot d.slots.values c.args.op.key c.poll_op.new.ops.slots.values =
    subst (λ x. PollsSlotFor c.self.inside.ops c.poll_op.new.ops c.args.op (Ok x)) c.in-Ok-Pending.field-0-is
    c.in-Ok-Pending.ensures.slots in
    let tokens : (c.in-Ok-Pending.op ≡ c.args.op) × KeepsTokens c.self.inside.ops c.poll_op.new.ops =
    subst (λ x. TokensFor c.self.inside.ops c.poll_op.new.ops c.args.op (Ok x)) c.in-Ok-Pending.field-0-is c.in-Ok-Pending.ensures.tokens in
    let kept = naming-kept c.poll_op.new.self.table d.slots.values c.poll_op.new.ops.slots.values d.given c.args.op.key polled slots in (
      subst (λ n. AreNaming c.poll_op.new.self.table c.poll_op.new.ops.slots.values n) (sym c.poll_op.ensures.given) kept,
      in-slots-tokens d.members c.self.inside.ops c.poll_op.new.ops tokens.1 c.self.invariant.1,
      λ memory. shown-polled g.I.NonBlock.view d.untreated c.reserve.new.registry c.poll_op.new.self _ c.args.op.number c.args.task
          c.poll_op.result c.poll_op.ensures.table c.poll_op.ensures.leaves
          (c.poll_op.ensures.keys memory (c.self.invariant.0.unmade c.args.op.key)) (c.poll_op.ensures.shown memory)
          (shown-room g.I.NonBlock.view d.untreated d.handling c.reserve.new.registry c.reserve.ensures.same (c.self.invariant.2 memory)),
    )

pub invariant_of-self-in-Err-poll_op : goal.invariant_of-self-in-Err-poll_op
invariant_of-self-in-Err-poll_op g c =
    let d : LegacyState g.row.I.Denot g.row.B.Denot =
    by_parts c.self.inside.registry c.self.inside.ops c.self.inside.members c.self.inside.asked.items c.self.inside.untreated in
    let room = naming-room d.handling.table c.reserve.new.registry.table d.slots.values d.given c.self.invariant.0
    c.reserve.ensures.same.table in
    let polled = subst (λ t. AreNaming t d.slots.values d.given) (sym c.poll_op.ensures.table) room in
    let kept = naming-kept c.poll_op.new.self.table d.slots.values c.poll_op.new.ops.slots.values d.given c.args.op.key polled
    c.in-Err-poll_op.ensures.slots in (
      subst (λ n. AreNaming c.poll_op.new.self.table c.poll_op.new.ops.slots.values n) (sym c.poll_op.ensures.given) kept,
      in-slots-tokens d.members c.self.inside.ops c.poll_op.new.ops c.in-Err-poll_op.ensures.tokens.1 c.self.invariant.1,
      λ memory. shown-polled g.I.NonBlock.view d.untreated c.reserve.new.registry c.poll_op.new.self _ c.args.op.number c.args.task
          c.poll_op.result c.poll_op.ensures.table c.poll_op.ensures.leaves
          (c.poll_op.ensures.keys memory (c.self.invariant.0.unmade c.args.op.key)) (c.poll_op.ensures.shown memory)
          (shown-room g.I.NonBlock.view d.untreated d.handling c.reserve.new.registry c.reserve.ensures.same (c.self.invariant.2 memory)),
    )

pub let_go-requires : goal.let_go-requires
let_go-requires g c =
    let d : LegacyState g.row.I.Denot g.row.B.Denot =
    by_parts c.self.inside.registry c.self.inside.ops c.self.inside.members c.self.inside.asked.items c.self.inside.untreated in
    let room = naming-room d.handling.table c.reserve.new.registry.table d.slots.values d.given c.self.invariant.0
    c.reserve.ensures.same.table in
    let polled = subst (λ t. AreNaming t d.slots.values d.given) (sym c.poll_op.ensures.table) room in
    let handed = naming-handed g.I.NonBlock.view g.I.NonBlock.tells g.I.NonBlock.memory c.poll_op.new.self c.hand_over-done.new.registry
    (made_by c.hand_over-done.result.outcome) d.slots.values d.given c.hand_over-done.ensures.hands polled in
    subst (CanLeave c.hand_over-done.new.registry.table) (sym (c.look_at-look.ensures.names ∙ ap named_in c.peek.ensures))
    (naming-leave c.hand_over-done.new.registry.table d.slots.values d.given c.key-key.result handed)

pub invariant_of-self-in-Ok-Ready : goal.invariant_of-self-in-Ok-Ready
invariant_of-self-in-Ok-Ready g c =
    let d : LegacyState g.row.I.Denot g.row.B.Denot =
    by_parts c.self.inside.registry c.self.inside.ops c.self.inside.members c.self.inside.asked.items c.self.inside.untreated in
    let key = c.args.op.key in
    let room = naming-room d.handling.table c.reserve.new.registry.table d.slots.values d.given c.self.invariant.0
    c.reserve.ensures.same.table in
    let polled = subst (λ t. AreNaming t d.slots.values d.given) (sym c.poll_op.ensures.table) room in
    let handed = naming-handed g.I.NonBlock.view g.I.NonBlock.tells g.I.NonBlock.memory c.poll_op.new.self c.hand_over-done.new.registry
    (made_by c.hand_over-done.result.outcome) d.slots.values d.given c.hand_over-done.ensures.hands polled in
    let returns : ReturnsSlot d.slots.values key c.poll_op.new.ops.slots.values c.in-Ok-Ready.done =
    subst (λ x. PollsSlotFor c.self.inside.ops c.poll_op.new.ops c.args.op (Ok x)) c.in-Ok-Ready.field-0-is c.in-Ok-Ready.ensures.slots in
    let tokens : DropsToken c.self.inside.ops c.poll_op.new.ops c.args.op =
    subst (λ x. TokensFor c.self.inside.ops c.poll_op.new.ops c.args.op (Ok x)) c.in-Ok-Ready.field-0-is c.in-Ok-Ready.ensures.tokens in
    let left = naming-left c.hand_over-done.new.registry.table d.slots.values d.given key handed c.poll_op.new.ops.slots.values
    returns.others
    returns.free in
    let table = c.let_go.ensures.holders ∙ ap (without_ops c.hand_over-done.new.registry.table)
    ((c.look_at-look.ensures.names ∙ ap named_in c.peek.ensures) ∙ ap (λ k. named_in (get d.slots.values k)) c.key-key.ensures) in
    let may = subst (CanLeave c.hand_over-done.new.registry.table) (sym (c.look_at-look.ensures.names ∙ ap named_in c.peek.ensures))
    (naming-leave c.hand_over-done.new.registry.table d.slots.values d.given c.key-key.result handed) in (
      subst (λ t. AreNaming t c.poll_op.new.ops.slots.values c.poll_op.new.ops.given) (sym table)
          (subst (λ n. AreNaming (without_ops c.hand_over-done.new.registry.table (named_in (get d.slots.values key)))
          c.poll_op.new.ops.slots.values n) (sym c.poll_op.ensures.given) left),
      subst (λ m. AreInSlots m c.poll_op.new.ops.slots.values)
          (sym (c.leave.ensures.left ∙ ap (leaves d.members) c.number-number.ensures))
          (in-slots-left d.members c.self.inside.ops c.poll_op.new.ops c.args.op tokens c.self.invariant.1),
      λ memory. shown-left g.I.NonBlock.view d.untreated g.I.NonBlock.tells g.I.NonBlock.memory memory c.hand_over-done.new.registry
          c.let_go.new.self (listed c.look_at-look.result.names) may c.let_go.ensures
          (shown-handed g.I.NonBlock.view d.untreated g.I.NonBlock.tells g.I.NonBlock.memory memory c.poll_op.new.self
          c.hand_over-done.new.registry (made_by c.hand_over-done.result.outcome) c.hand_over-done.ensures.hands
          (shown-polled g.I.NonBlock.view d.untreated c.reserve.new.registry c.poll_op.new.self _ c.args.op.number c.args.task
          c.poll_op.result c.poll_op.ensures.table c.poll_op.ensures.leaves
          (c.poll_op.ensures.keys memory (c.self.invariant.0.unmade c.args.op.key)) (c.poll_op.ensures.shown memory)
          (shown-room g.I.NonBlock.view d.untreated d.handling c.reserve.new.registry c.reserve.ensures.same (c.self.invariant.2 memory)))),
    )

pub returns-in-Ok-Pending-clause-answers : goal.returns-in-Ok-Pending-clause-answers
returns-in-Ok-Pending-clause-answers g c =
    let d : LegacyState g.row.I.Denot g.row.B.Denot =
    by_parts c.self.inside.registry c.self.inside.ops c.self.inside.members c.self.inside.asked.items c.self.inside.untreated in
    let new : LegacyState g.row.I.Denot g.row.B.Denot =
    by_parts c.poll_op.new.self c.poll_op.new.ops c.self.inside.members c.self.inside.asked.items c.self.inside.untreated in
    let view = g.I.NonBlock.view in
    let buffer = g.B.IoBufMut.buffer in
    let op = c.args.op in
    let room = c.reserve.new.registry in
    let slot = get d.slots.values op.key in
    let holds : number_at d.slots.values op.key ≡ Some op.number = subst (λ x. Holds x op) (sym c.self.view_is) c.requires in
    let slots : KeepsSlot d.slots.values op.key c.poll_op.new.ops.slots.values =
    subst (λ x. PollsSlotFor c.self.inside.ops c.poll_op.new.ops op (Ok x)) c.in-Ok-Pending.field-0-is c.in-Ok-Pending.ensures.slots in
    let tokens : (c.in-Ok-Pending.op ≡ op) × KeepsTokens c.self.inside.ops c.poll_op.new.ops =
    subst (λ x. TokensFor c.self.inside.ops c.poll_op.new.ops op (Ok x)) c.in-Ok-Pending.field-0-is c.in-Ok-Pending.ensures.tokens in
    rw (← c.self.view_is) (λ memory D stands.
    let polls : (c.in-Ok-Pending.op ≡ op) × (IsWorldUnmet room.records (view room.io).world slot
    ⊎ (poll_slot D op.number (slot_at D op.number) ≡ (D, Waits)))
    × PartsStand buffer c.poll_op.new.ops (view c.poll_op.new.self.io).world D =
    subst (λ x. PollsUnless (IsWorldUnmet room.records (view room.io).world slot) buffer D op c.poll_op.new.ops
    (view c.poll_op.new.self.io).world (Ok x)) c.in-Ok-Pending.field-0-is
    (c.in-Ok-Pending.ensures.polls memory D (parts-room view buffer d D stands room c.reserve.ensures.same)) in
    let keys : (view c.poll_op.new.self.io).keys ≡ (view room.io).keys =
    subst (λ x. KeysFor (view room.io).keys (view c.poll_op.new.self.io).keys (Ok x)) c.in-Ok-Pending.field-0-is
    (c.in-Ok-Pending.ensures.keys memory (c.self.invariant.0.unmade op.key)) in (
      step-waits view buffer d D stands op.key op.number holds c.args.task room c.reserve.ensures.same polls.1,
      stands-waiting view buffer d D stands op.key op.number holds room new c.reserve.ensures.same c.poll_op.ensures.table keys polls.2
          slots tokens.1 refl,
    ))

pub returns-in-Ok-Pending-clause-exact : goal.returns-in-Ok-Pending-clause-exact
returns-in-Ok-Pending-clause-exact g c =
    let d : LegacyState g.row.I.Denot g.row.B.Denot =
    by_parts c.self.inside.registry c.self.inside.ops c.self.inside.members c.self.inside.asked.items c.self.inside.untreated in
    let new : LegacyState g.row.I.Denot g.row.B.Denot =
    by_parts c.poll_op.new.self c.poll_op.new.ops c.self.inside.members c.self.inside.asked.items c.self.inside.untreated in
    let view = g.I.NonBlock.view in
    let buffer = g.B.IoBufMut.buffer in
    let op = c.args.op in
    let room = c.reserve.new.registry in
    let slot = get d.slots.values op.key in
    let holds : number_at d.slots.values op.key ≡ Some op.number = subst (λ x. Holds x op) (sym c.self.view_is) c.requires in
    let slots : KeepsSlot d.slots.values op.key c.poll_op.new.ops.slots.values =
    subst (λ x. PollsSlotFor c.self.inside.ops c.poll_op.new.ops op (Ok x)) c.in-Ok-Pending.field-0-is c.in-Ok-Pending.ensures.slots in
    let tokens : (c.in-Ok-Pending.op ≡ op) × KeepsTokens c.self.inside.ops c.poll_op.new.ops =
    subst (λ x. TokensFor c.self.inside.ops c.poll_op.new.ops op (Ok x)) c.in-Ok-Pending.field-0-is c.in-Ok-Pending.ensures.tokens in
    rw (← c.self.view_is) (λ memory reported D stands.
    let same = c.reserve.ensures.same in
    let parts = parts-room view buffer d D stands room same in
    let here : AreReported room.table room.records (view room.io).world =
    subst (λ i. AreReported room.table room.records (view i).world) (sym same.io)
    (reported-room d.handling room (view d.handling.io).world same reported) in
    let handles : HandlesStand room.table (view room.io).keys D =
    subst (λ i. HandlesStand room.table (view i).keys D) (sym same.io) (room-handles view buffer d D stands room room same refl) in
    let polls : (c.in-Ok-Pending.op ≡ op) × (poll_slot D op.number (slot_at D op.number) ≡ (D, Waits))
    × PartsStand buffer c.poll_op.new.ops (view c.poll_op.new.self.io).world D =
    subst (λ x. PollsFor buffer D op c.poll_op.new.ops (view c.poll_op.new.self.io).world (Ok x)) c.in-Ok-Pending.field-0-is
    (c.in-Ok-Pending.ensures.exact memory here D handles parts) in
    let keys : (view c.poll_op.new.self.io).keys ≡ (view room.io).keys =
    subst (λ x. KeysFor (view room.io).keys (view c.poll_op.new.self.io).keys (Ok x)) c.in-Ok-Pending.field-0-is
    (c.in-Ok-Pending.ensures.keys memory (c.self.invariant.0.unmade op.key)) in
    answers-waits view buffer d D stands op.key op.number holds c.args.task new polls.1
    (stands-waiting view buffer d D stands op.key op.number holds room new same c.poll_op.ensures.table keys polls.2 slots tokens.1 refl))

pub returns-in-Err-poll_op-clause-answers : goal.returns-in-Err-poll_op-clause-answers
returns-in-Err-poll_op-clause-answers g c =
    let d : LegacyState g.row.I.Denot g.row.B.Denot =
    by_parts c.self.inside.registry c.self.inside.ops c.self.inside.members c.self.inside.asked.items c.self.inside.untreated in
    let new : LegacyState g.row.I.Denot g.row.B.Denot =
    by_parts c.poll_op.new.self c.poll_op.new.ops c.self.inside.members c.self.inside.asked.items c.self.inside.untreated in
    let view = g.I.NonBlock.view in
    let buffer = g.B.IoBufMut.buffer in
    let op = c.args.op in
    let holds : number_at d.slots.values op.key ≡ Some op.number = subst (λ x. Holds x op) (sym c.self.view_is) c.requires in
    rw (← c.self.view_is) (λ memory D stands.
    let polls = c.in-Err-poll_op.ensures.polls memory D (parts-room view buffer d D stands c.reserve.new.registry c.reserve.ensures.same) in
    stands-waiting view buffer d D stands op.key op.number holds c.reserve.new.registry new c.reserve.ensures.same
    c.poll_op.ensures.table (c.in-Err-poll_op.ensures.keys memory (c.self.invariant.0.unmade op.key)) polls.1
    c.in-Err-poll_op.ensures.slots c.in-Err-poll_op.ensures.tokens.1 refl)

pub returns-in-Ok-Ready-clause-answers : goal.returns-in-Ok-Ready-clause-answers
returns-in-Ok-Ready-clause-answers g c =
    let d : LegacyState g.row.I.Denot g.row.B.Denot =
    by_parts c.self.inside.registry c.self.inside.ops c.self.inside.members c.self.inside.asked.items c.self.inside.untreated in
    let new : LegacyState g.row.I.Denot g.row.B.Denot =
    by_parts c.let_go.new.self c.poll_op.new.ops c.leave.new.self c.self.inside.asked.items c.self.inside.untreated in
    let view = g.I.NonBlock.view in
    let buffer = g.B.IoBufMut.buffer in
    let op = c.args.op in
    let done = c.in-Ok-Ready.done in
    let room = c.reserve.new.registry in
    let slot = get d.slots.values op.key in
    let holds : number_at d.slots.values op.key ≡ Some op.number = subst (λ x. Holds x op) (sym c.self.view_is) c.requires in
    let slots : ReturnsSlot d.slots.values op.key c.poll_op.new.ops.slots.values done =
    subst (λ x. PollsSlotFor c.self.inside.ops c.poll_op.new.ops op (Ok x)) c.in-Ok-Ready.field-0-is c.in-Ok-Ready.ensures.slots in
    rw (← c.self.view_is) (λ memory D stands few.
    let polls : ((poll_slot D op.number (slot_at D op.number)).1 ≡ Handed done.outcome (held_of (plain_request buffer done.request)))
    × PartsStand buffer c.poll_op.new.ops (view c.poll_op.new.self.io).world (poll_slot D op.number (slot_at D op.number)).0 =
    subst (λ x. PollsUnless (IsWorldUnmet room.records (view room.io).world slot) buffer D op c.poll_op.new.ops
    (view c.poll_op.new.self.io).world (Ok x)) c.in-Ok-Ready.field-0-is
    (c.in-Ok-Ready.ensures.polls memory D (parts-room view buffer d D stands room c.reserve.ensures.same)) in
    let keys : (view c.poll_op.new.self.io).keys ≡ with_made_key (made_by done.outcome) (view room.io).keys =
    subst (λ x. KeysFor (view room.io).keys (view c.poll_op.new.self.io).keys (Ok x)) c.in-Ok-Ready.field-0-is
    (c.in-Ok-Ready.ensures.keys memory (c.self.invariant.0.unmade op.key)) in
    stands-ended view buffer d D stands op.key op.number holds g.I.NonBlock.tells g.I.NonBlock.memory c.args.task memory
    (g.met.I.NonBlock.memory_tells memory) few room c.poll_op.new.self c.hand_over-done.new.registry new
    done c.hand_over-done.result (listed c.look_at-look.result.names) c.reserve.ensures.same c.poll_op.ensures.table
    keys polls slots c.hand_over-done.ensures.outcome c.hand_over-done.ensures.request c.hand_over-done.ensures.hands
    ((c.look_at-look.ensures.names ∙ ap named_in c.peek.ensures) ∙ ap (λ k. named_in (get d.slots.values k)) c.key-key.ensures) c.let_go.ensures c.leave.ensures.placed
    (c.leave.ensures.left ∙ ap (leaves d.members) c.number-number.ensures))

pub returns-in-Err-clause-ends : goal.returns-in-Err-clause-ends
returns-in-Err-clause-ends g c =
    let d : LegacyState g.row.I.Denot g.row.B.Denot =
    by_parts c.self.inside.registry c.self.inside.ops c.self.inside.members c.self.inside.asked.items c.self.inside.untreated in
    let slot = get d.slots.values c.args.op.key in
    let same = c.reserve.ensures.same in
    rw (← c.self.view_is) (
      record {
        table = same.table;
        records = c.reserve.new.registry.records;
        room = same.records;
        leaves = leaves-refused _ _ c.reserve.new.registry.records c.args.op.number c.args.task _;
        unreserved = λ none. (
            let same = c.reserve.ensures.unreserved
            (c.look_at-look.ensures.maker ∙ ap is_maker c.peek.ensures ∙ ap (λ k. is_maker (get d.slots.values k)) c.key-key.ensures ∙ none) in
            (ap (λ (x : Handling g.row.I.Denot). x.table) same, ap (λ (x : Handling g.row.I.Denot). x.records) same));
      },
      refl,
      refused-calls (is_met_at d.handling.records (unless (g.I.NonBlock.files d.handling.io) (slot_awaits slot))) g.B.IoBufMut.buffer
          g.I.Calls.called slot slot d.handling.io c.reserve.new.registry.io _ (record { object = same.io; slot_is = refl }),
    )

pub returns-in-Ok-Pending-clause-ends : goal.returns-in-Ok-Pending-clause-ends
returns-in-Ok-Pending-clause-ends g c =
    let d : LegacyState g.row.I.Denot g.row.B.Denot =
    by_parts c.self.inside.registry c.self.inside.ops c.self.inside.members c.self.inside.asked.items c.self.inside.untreated in
    let same = c.reserve.ensures.same in
    let room = c.reserve.new.registry in
    let slot = get d.slots.values c.args.op.key in
    rw (← c.self.view_is) (
      record {
        table = ap (λ t. t.holders) c.poll_op.ensures.table ∙ same.table;
        records = room.records;
        room = same.records;
        leaves = subst (λ io. LeavesFor (unless (g.I.NonBlock.files io) (slot_awaits slot)) room.records c.args.op.number c.args.task
            c.poll_op.new.self.records (Ok (Pending c.in-Ok-Pending.op))) same.io
            (subst (λ x. LeavesFor (unless (g.I.NonBlock.files room.io) (slot_awaits slot)) room.records c.args.op.number c.args.task
            c.poll_op.new.self.records (Ok x)) c.in-Ok-Pending.field-0-is c.in-Ok-Pending.ensures.leaves);
        unreserved = λ none. (
            let same = c.reserve.ensures.unreserved
            (c.look_at-look.ensures.maker ∙ ap is_maker c.peek.ensures ∙ ap (λ k. is_maker (get d.slots.values k)) c.key-key.ensures ∙ none) in (
              c.poll_op.ensures.table ∙ ap (λ (x : Handling g.row.I.Denot). x.table) same,
              ap (λ (x : Handling g.row.I.Denot). x.records) same,
            ));
      },
      refl,
      calls-room g.I.NonBlock.files g.B.IoBufMut.buffer g.I.Calls.called d.handling room slot
          (get c.poll_op.new.ops.slots.values c.args.op.key) c.poll_op.new.self.io (Ok (Pending c.in-Ok-Pending.op)) same
          (subst (λ x. PollsCall g.I.NonBlock.files g.B.IoBufMut.buffer g.I.Calls.called room slot
          (get c.poll_op.new.ops.slots.values c.args.op.key) c.poll_op.new.self.io (Ok x)) c.in-Ok-Pending.field-0-is
          c.in-Ok-Pending.ensures.calls),
    )

pub returns-in-Err-poll_op-clause-ends : goal.returns-in-Err-poll_op-clause-ends
returns-in-Err-poll_op-clause-ends g c =
    let same = c.reserve.ensures.same in
    rw (← c.self.view_is) (
      record {
        table = ap (λ t. t.holders) c.poll_op.ensures.table ∙ same.table;
        records = c.reserve.new.registry.records;
        room = same.records;
        leaves = subst (λ io. LeavesFor (unless (g.I.NonBlock.files io) (slot_awaits (get c.self.inside.ops.slots.values c.args.op.key)))
            c.reserve.new.registry.records c.args.op.number c.args.task c.poll_op.new.self.records (Err c.in-Err-poll_op.refused)) same.io
            c.in-Err-poll_op.ensures.leaves;
        unreserved = λ none. (
            let same = c.reserve.ensures.unreserved
            (c.look_at-look.ensures.maker ∙ ap is_maker c.peek.ensures ∙ ap (λ k. is_maker (get c.self.inside.ops.slots.values k)) c.key-key.ensures ∙ none) in (
              c.poll_op.ensures.table ∙ ap (λ (x : Handling g.row.I.Denot). x.table) same,
              ap (λ (x : Handling g.row.I.Denot). x.records) same,
            ));
      },
      refl,
      calls-room g.I.NonBlock.files g.B.IoBufMut.buffer g.I.Calls.called c.self.inside.registry c.reserve.new.registry
          (get c.self.inside.ops.slots.values c.args.op.key) (get c.poll_op.new.ops.slots.values c.args.op.key) c.poll_op.new.self.io
          (Err c.in-Err-poll_op.refused) same c.in-Err-poll_op.ensures.calls,
    )

pub returns-in-Ok-Ready-clause-ends : goal.returns-in-Ok-Ready-clause-ends
returns-in-Ok-Ready-clause-ends g c =
    let d : LegacyState g.row.I.Denot g.row.B.Denot =
    by_parts c.self.inside.registry c.self.inside.ops c.self.inside.members c.self.inside.asked.items c.self.inside.untreated in
    let same = c.reserve.ensures.same in
    let room = c.reserve.new.registry in
    let op = c.args.op in
    let slot = get d.slots.values op.key in
    let done = c.in-Ok-Ready.done in
    let result = c.hand_over-done.result in
    let handed = c.hand_over-done.new.registry in
    let view = g.I.NonBlock.view in
    let tells = g.I.NonBlock.tells in
    let memory = g.I.NonBlock.memory in
    let returns : ReturnsSlot d.slots.values op.key c.poll_op.new.ops.slots.values done =
    subst (λ x. PollsSlotFor c.self.inside.ops c.poll_op.new.ops op (Ok x)) c.in-Ok-Ready.field-0-is c.in-Ok-Ready.ensures.slots in
    let names : listed c.look_at-look.result.names ≡ named result.request =
    (c.look_at-look.ensures.names ∙ ap named_in c.peek.ensures) ∙ ap (λ k. named_in (get d.slots.values k)) c.key-key.ensures ∙ sym returns.names
    ∙ ap named (sym c.hand_over-done.ensures.request) in
    let leaves : LeavesFor (unless (g.I.NonBlock.files d.handling.io) (slot_awaits slot)) room.records op.number c.args.task
    c.poll_op.new.self.records (Ok (Ready done)) =
    subst (λ io. LeavesFor (unless (g.I.NonBlock.files io) (slot_awaits slot)) room.records op.number c.args.task
    c.poll_op.new.self.records (Ok (Ready done))) same.io
    (subst (λ x. LeavesFor (unless (g.I.NonBlock.files room.io) (slot_awaits slot)) room.records op.number c.args.task
    c.poll_op.new.self.records (Ok x)) c.in-Ok-Ready.field-0-is c.in-Ok-Ready.ensures.leaves) in
    rw (← c.self.view_is) (record {
      mid = c.poll_op.new.self;
      call = done.outcome;
      calls = subst (λ r. PollsCall g.I.NonBlock.files g.B.IoBufMut.buffer g.I.Calls.called d.handling slot
          (get c.poll_op.new.ops.slots.values op.key) c.poll_op.new.self.io
          (Ok (Ready (record { outcome = done.outcome; request = r })))) (sym c.hand_over-done.ensures.request)
          (calls-room g.I.NonBlock.files g.B.IoBufMut.buffer g.I.Calls.called d.handling room slot
          (get c.poll_op.new.ops.slots.values op.key) c.poll_op.new.self.io (Ok (Ready done)) same
          (subst (λ x. PollsCall g.I.NonBlock.files g.B.IoBufMut.buffer g.I.Calls.called room slot
          (get c.poll_op.new.ops.slots.values op.key) c.poll_op.new.self.io (Ok x)) c.in-Ok-Ready.field-0-is
          c.in-Ok-Ready.ensures.calls));
      polls = record {
        table = ap (λ t. t.holders) c.poll_op.ensures.table ∙ same.table;
        records = room.records;
        room = same.records;
        leaves = subst (λ r. LeavesFor (unless (g.I.NonBlock.files d.handling.io) (slot_awaits slot)) room.records op.number c.args.task
            c.poll_op.new.self.records (Ok (Ready (record { outcome = done.outcome; request = r }))))
            (sym c.hand_over-done.ensures.request) leaves;
        unreserved = λ none. (
            let same = c.reserve.ensures.unreserved
            (c.look_at-look.ensures.maker ∙ ap is_maker c.peek.ensures ∙ ap (λ k. is_maker (get d.slots.values k)) c.key-key.ensures ∙ none) in (
              c.poll_op.ensures.table ∙ ap (λ (x : Handling g.row.I.Denot). x.table) same,
              ap (λ (x : Handling g.row.I.Denot). x.records) same,
            ));
      };
      outcome = c.hand_over-done.ensures.outcome;
      handed = handed;
      hands = c.hand_over-done.ensures.hands;
      lets = subst (λ hs. LetsGo view tells memory handed (without_ops handed.table hs) (unheld_by handed.table hs) c.let_go.new.self) names
          c.let_go.ensures;
      members = c.leave.ensures.left ∙ ap (leaves_of d.members) c.number-number.ensures;
    })

pub returns-in-Ok-Pending-clause-others : goal.returns-in-Ok-Pending-clause-others
returns-in-Ok-Pending-clause-others g c =
    let new : LegacyState g.row.I.Denot g.row.B.Denot =
    by_parts c.poll_op.new.self c.poll_op.new.ops c.self.inside.members c.self.inside.asked.items c.self.inside.untreated in
    polls-keep g.I.NonBlock.files g.B.IoBufMut.buffer g.I.Calls.called g.I.NonBlock.view g.I.NonBlock.tells g.I.NonBlock.memory
    c.args.self.now new c.args.op c.args.task (Ok (Pending c.in-Ok-Pending.op)) (returns-in-Ok-Pending-clause-ends g c)
    (subst (λ d. AreRecorded d.handling.table d.handling.records) c.self.view_is c.recorded.ensures.recorded) tt

pub returns-in-Err-poll_op-clause-others : goal.returns-in-Err-poll_op-clause-others
returns-in-Err-poll_op-clause-others g c =
    let new : LegacyState g.row.I.Denot g.row.B.Denot =
    by_parts c.poll_op.new.self c.poll_op.new.ops c.self.inside.members c.self.inside.asked.items c.self.inside.untreated in
    polls-keep g.I.NonBlock.files g.B.IoBufMut.buffer g.I.Calls.called g.I.NonBlock.view g.I.NonBlock.tells g.I.NonBlock.memory
    c.args.self.now new c.args.op c.args.task (Err c.in-Err-poll_op.refused) (returns-in-Err-poll_op-clause-ends g c)
    (subst (λ d. AreRecorded d.handling.table d.handling.records) c.self.view_is c.recorded.ensures.recorded) tt

pub returns-in-Ok-Ready-clause-others : goal.returns-in-Ok-Ready-clause-others
returns-in-Ok-Ready-clause-others g c =
    let new : LegacyState g.row.I.Denot g.row.B.Denot =
    by_parts c.let_go.new.self c.poll_op.new.ops c.leave.new.self c.self.inside.asked.items c.self.inside.untreated in
    polls-keep g.I.NonBlock.files g.B.IoBufMut.buffer g.I.Calls.called g.I.NonBlock.view g.I.NonBlock.tells g.I.NonBlock.memory
    c.args.self.now new c.args.op c.args.task (Ok (Ready c.hand_over-done.result)) (returns-in-Ok-Ready-clause-ends g c)
    (subst (λ d. AreRecorded d.handling.table d.handling.records) c.self.view_is c.recorded.ensures.recorded)
    c.recorded-in-Ok-Ready.ensures.recorded

pub returns-in-Ok-Ready-clause-fails : goal.returns-in-Ok-Ready-clause-fails
returns-in-Ok-Ready-clause-fails g c =
    let d : LegacyState g.row.I.Denot g.row.B.Denot =
    by_parts c.self.inside.registry c.self.inside.ops c.self.inside.members c.self.inside.asked.items c.self.inside.untreated in
    let view = g.I.NonBlock.view in
    let room = c.reserve.new.registry in
    let mid = c.poll_op.new.self in
    let key = c.args.op.key in
    let slot = get d.slots.values key in
    let done = c.in-Ok-Ready.done in
    let returned : IsCompleted slot done.outcome ⊎ IsCounted done.outcome (view room.io) (view mid.io) =
    subst (λ x. ReturnsFor slot (view room.io) (view mid.io) (Ok x)) c.in-Ok-Ready.field-0-is c.in-Ok-Ready.ensures.returns in
    rw (← c.self.view_is) (
    error-caused view g.I.NonBlock.tells g.I.NonBlock.memory d.handling room mid c.hand_over-done.new.registry c.let_go.new.self slot
    c.reserve.ensures.same c.poll_op.ensures.table (c.self.invariant.0.canceled key) _ _ c.let_go.ensures done.outcome
    c.hand_over-done.result.outcome returned c.hand_over-done.ensures.outcome c.hand_over-done.ensures.hands)

pub hand_over-done-requires : goal.hand_over-done-requires
hand_over-done-requires g c =
    let slots = c.self.inside.ops.slots.values in
    let key = c.args.op.key in
    let returns : ReturnsSlot slots key c.poll_op.new.ops.slots.values c.in-Ok-Ready.done =
    subst (λ x. PollsSlotFor c.self.inside.ops c.poll_op.new.ops c.args.op (Ok x)) c.in-Ok-Ready.field-0-is c.in-Ok-Ready.ensures.slots in
    made-room (made_by c.in-Ok-Ready.done.outcome) (is_maker (get slots key)) c.reserve.new.registry c.poll_op.new.self
    (λ maker. c.in-Ok.ensures.ok (c.look_at-look.ensures.maker ∙ ap is_maker c.peek.ensures ∙ ap (λ k. is_maker (get slots k)) c.key-key.ensures ∙ maker))
    (returns.made (c.self.invariant.0.unmade key)) c.poll_op.ensures.table
    (leaves-spare _ c.reserve.new.registry.records _ _ c.poll_op.new.self.records _ c.in-Ok-Ready.ensures.leaves)
