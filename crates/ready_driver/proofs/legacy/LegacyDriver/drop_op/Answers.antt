use Rattle.std.proofs.Common.{◌≡◌, Some, sym, ap, subst, ◌∙◌}
use Rattle.std.specs.FinMap.{get}
use Rattle.machine.specs.Request.{listed}
use Rattle.driver_core.specs.Holds.{named_in, without_ops, unheld_by, CanLeave}
use Rattle.driver_core.specs.Groups.{AreInSlots}
use Rattle.driver_core.specs.Members.{leaves}
use Rattle.driver_core.specs.Slot.{number_at}
use Rattle.driver_core.proofs.Maps.{gone-same, gone-other}
use Rattle.driver_core.proofs.Placing.{in-slots-left}
use Rattle.ready_driver.specs.LegacyCalls.{unwaited}
use Rattle.ready_driver.specs.LegacyState.{LegacyState, Holds}
use Rattle.ready_driver.specs.Named.{AreNaming}
use Rattle.ready_driver.specs.Registry.{Handling, LetsGo}
use Rattle.ready_driver.specs.Turns.{AreShown}
use Rattle.ready_driver.proofs.Driven.{by_parts}
use Rattle.ready_driver.proofs.Events.{fits, driven, names-are, stands-dropped, left-handles}
use Rattle.ready_driver.proofs.Naming.{naming-leave, naming-left}
use Rattle.ready_driver.proofs.Showing.{shown-unwaited, shown-left}
use Rattle.ready_driver.proofs.legacy.LegacyDriver.drop_op.Goals as goal

pub let_go-requires : goal.let_go-requires
let_go-requires g c =
    let d : LegacyState g.row.I.Denot g.row.B.Denot =
    by_parts c.self.inside.registry c.self.inside.ops c.self.inside.members c.self.inside.asked.items c.self.inside.untreated in
    subst (λ (x : Handling g.row.I.Denot). CanLeave x.table (listed c.names_at-names.result)) (sym c.unwait.ensures)
    (subst (CanLeave d.handling.table) (sym c.names_at-names.ensures)
    (naming-leave d.handling.table d.slots.values d.given c.key-key.result c.self.invariant.0))

pub invariant_of-self : goal.invariant_of-self
invariant_of-self g c =
    let d : LegacyState g.row.I.Denot g.row.B.Denot =
    by_parts c.self.inside.registry c.self.inside.ops c.self.inside.members c.self.inside.asked.items c.self.inside.untreated in
    let key = c.args.op.key in
    let table = c.let_go.ensures.holders
    ∙ ap (λ (x : Handling g.row.I.Denot). without_ops x.table (listed c.names_at-names.result)) c.unwait.ensures
    ∙ ap (without_ops d.handling.table) (c.names_at-names.ensures ∙ ap (λ k. named_in (get d.slots.values k)) c.key-key.ensures) in
    let left = naming-left d.handling.table d.slots.values d.given key c.self.invariant.0 c.drop_op.new.ops.slots.values
    (λ k e. ap (λ m. get m k) c.drop_op.ensures.slots ∙ gone-other d.slots.values key k e)
    (ap (λ m. get m key) c.drop_op.ensures.slots ∙ gone-same d.slots.values key) in
    let may = subst (λ (x : Handling g.row.I.Denot). CanLeave x.table (listed c.names_at-names.result)) (sym c.unwait.ensures)
    (subst (CanLeave d.handling.table) (sym c.names_at-names.ensures)
    (naming-leave d.handling.table d.slots.values d.given c.key-key.result c.self.invariant.0)) in (
      subst (λ t. AreNaming t c.drop_op.new.ops.slots.values c.drop_op.new.ops.given) (sym table)
          (subst (λ n. AreNaming (without_ops d.handling.table (named_in (get d.slots.values key))) c.drop_op.new.ops.slots.values n)
          (sym c.drop_op.ensures.given) left),
      subst (λ m. AreInSlots m c.drop_op.new.ops.slots.values)
          (sym (c.leave.ensures.left ∙ ap (leaves d.members) c.number-number.ensures))
          (in-slots-left d.members c.self.inside.ops c.drop_op.new.ops c.args.op c.drop_op.ensures.tokens c.self.invariant.1),
      λ memory. shown-left g.I.NonBlock.view d.untreated g.I.NonBlock.tells g.I.NonBlock.memory memory c.unwait.new.registry
          c.let_go.new.self (listed c.names_at-names.result) may c.let_go.ensures
          (subst (λ x. AreShown g.I.NonBlock.view x d.untreated) (sym c.unwait.ensures)
          (shown-unwaited g.I.NonBlock.view d.untreated d.handling c.number-number.result (get d.slots.values c.key-key.result)
          (c.self.invariant.2 memory))),
    )

pub returns-clause-answers : goal.returns-clause-answers
returns-clause-answers g c =
    let d : LegacyState g.row.I.Denot g.row.B.Denot =
    by_parts c.self.inside.registry c.self.inside.ops c.self.inside.members c.self.inside.asked.items c.self.inside.untreated in
    let new : LegacyState g.row.I.Denot g.row.B.Denot =
    by_parts c.let_go.new.self c.drop_op.new.ops c.leave.new.self c.self.inside.asked.items c.self.inside.untreated in
    let op = c.args.op in
    let view = g.I.NonBlock.view in
    let buffer = g.B.IoBufMut.buffer in
    let holds : number_at d.slots.values op.key ≡ Some op.number = subst (λ x. Holds x op) (sym c.self.view_is) c.requires in
    let mid : Handling g.row.I.Denot = unwaited d.handling c.number-number.result (get d.slots.values c.key-key.result) in
    let lets : LetsGo view g.I.NonBlock.tells g.I.NonBlock.memory mid (without_ops mid.table (listed c.names_at-names.result))
    (unheld_by mid.table (listed c.names_at-names.result)) c.let_go.new.self =
    subst (λ (x : Handling g.row.I.Denot). LetsGo view g.I.NonBlock.tells g.I.NonBlock.memory x
    (without_ops x.table (listed c.names_at-names.result)) (unheld_by x.table (listed c.names_at-names.result)) c.let_go.new.self)
    c.unwait.ensures c.let_go.ensures in
    rw (← c.self.view_is) (λ memory D stands.
    let names = c.names_at-names.ensures ∙ ap (λ k. named_in (get d.slots.values k)) c.key-key.ensures
    ∙ names-are view buffer d D stands op.key op.number holds in
    stands-dropped view buffer d D stands op.key op.number holds new (c.drop_op.ensures.drops D stands.parts.operations)
    c.drop_op.ensures.slots
    (lets.object.world (g.met.I.NonBlock.memory_tells memory))
    (left-handles view g.I.NonBlock.tells g.I.NonBlock.memory mid c.let_go.new.self D op.number
    (fits view buffer d D stands op.key op.number holds).op (listed c.names_at-names.result) memory stands.handles
    (driven view buffer d D stands op.key op.number holds) names lets)
    c.leave.ensures.placed
    (c.leave.ensures.left ∙ ap (leaves d.members) c.number-number.ensures))
