use Rattle.std.proofs.Common.{◌≡◌, Some, refl, sym, ap, subst, ◌∙◌}
use Rattle.std.specs.FinMap.{get}
use Rattle.driver_core.specs.Slot.{number_at}
use Rattle.ready_driver.specs.LegacyState.{LegacyState, Holds}
use Rattle.ready_driver.specs.Named.{AreNaming, canceled_slots}
use Rattle.ready_driver.specs.Polling.{OpsStand, asked_at}
use Rattle.ready_driver.specs.Registry.{Handling}
use Rattle.ready_driver.specs.Turns.{AreShown}
use Rattle.ready_driver.proofs.Driven.{by_parts}
use Rattle.ready_driver.proofs.Events.{stands-asked}
use Rattle.ready_driver.proofs.Naming.{naming-canceled, in-slots-tokens}
use Rattle.ready_driver.proofs.Showing.{shown-unwaited}
use Rattle.ready_driver.proofs.legacy.LegacyDriver.cancel_op.Goals as goal

pub invariant_of-self-2 : goal.invariant_of-self-2
invariant_of-self-2 g c =
    let d : LegacyState g.row.I.Denot g.row.B.Denot =
    by_parts c.self.inside.registry c.self.inside.ops c.self.inside.members c.self.inside.asked.items c.self.inside.untreated in (
      subst (λ (x : Handling g.row.I.Denot). AreNaming x.table c.ask-task.new.ops.slots.values c.ask-task.new.ops.given)
          (sym c.ask-task.ensures.waits)
          (subst (λ m. AreNaming d.handling.table m c.ask-task.new.ops.given) (sym c.ask-task.ensures.slots)
          (subst (λ n. AreNaming d.handling.table (canceled_slots d.slots.values c.key.result) n) (sym c.ask-task.ensures.given)
          (naming-canceled d.handling.table d.slots.values d.given c.key.result c.self.invariant.0))),
      in-slots-tokens c.self.inside.members c.self.inside.ops c.ask-task.new.ops c.ask-task.ensures.tokens c.self.invariant.1,
      λ memory. subst (λ x. AreShown g.I.NonBlock.view x d.untreated) (sym c.ask-task.ensures.waits)
          (shown-unwaited g.I.NonBlock.view d.untreated d.handling c.number.result (get d.slots.values c.key.result)
          (c.self.invariant.2 memory)),
    )

pub returns-clause-answers : goal.returns-clause-answers
returns-clause-answers g c =
    let d : LegacyState g.row.I.Denot g.row.B.Denot =
    by_parts c.self.inside.registry c.self.inside.ops c.self.inside.members c.self.inside.asked.items c.self.inside.untreated in
    let new : LegacyState g.row.I.Denot g.row.B.Denot =
    by_parts c.ask-task.new.registry c.ask-task.new.ops c.self.inside.members c.note.new.asked.items c.self.inside.untreated in
    let op = c.args.op.now in
    let holds : number_at d.slots.values op.key ≡ Some op.number = subst (λ x. Holds x op) (sym c.self.view_is) c.requires in
    rw (← c.self.view_is) (λ memory D stands. stands-asked g.I.NonBlock.view g.B.IoBufMut.buffer d D stands op.key op.number holds new
    (subst (λ n. OpsStand g.B.IoBufMut.buffer c.ask-task.new.ops (asked_at D n)) c.number.ensures
    (c.ask-task.ensures.cancels D stands.parts.operations))
    (c.ask-task.ensures.slots ∙ ap (canceled_slots d.slots.values) c.key.ensures)
    (ap (λ (x : Handling g.row.I.Denot). x.io) c.ask-task.ensures.waits)
    (ap (λ (x : Handling g.row.I.Denot). x.table) c.ask-task.ensures.waits) refl)
