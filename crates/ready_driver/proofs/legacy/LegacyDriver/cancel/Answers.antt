use Rattle.std.proofs.Common.{◌<◌, sym, subst, ◌∙◌}
use Rattle.driver_core.specs.Groups.{AreInSlots}
use Rattle.ready_driver.specs.LegacyCalls.{Asking}
use Rattle.ready_driver.specs.LegacyState.{LegacyState, group_count}
use Rattle.ready_driver.specs.LegacyStep.{ask_each}
use Rattle.ready_driver.specs.Named.{AreNaming}
use Rattle.ready_driver.specs.Polling.{OpsStand}
use Rattle.ready_driver.specs.Turns.{AreShown}
use Rattle.ready_driver.proofs.Asking.{asks-naming, asks-leave, AsksLeave, stands-cancels}
use Rattle.ready_driver.proofs.Driven.{by_parts, count-groups}
use Rattle.ready_driver.proofs.Naming.{in-slots-tokens}
use Rattle.ready_driver.proofs.Showing.{shown-asked}
use Rattle.ready_driver.proofs.legacy.LegacyDriver.cancel.Goals as goal

pub invariant_of-self-2 : goal.invariant_of-self-2
invariant_of-self-2 g c =
    let d : LegacyState g.row.I.Denot g.row.B.Denot =
    by_parts c.self.inside.registry c.self.inside.ops c.self.inside.members c.self.inside.asked.items c.self.inside.untreated in
    let start : Asking g.row.I.Denot g.row.B.Denot =
    record { handling = d.handling; slots = d.slots.values; asked = c.reserve.new.self.items } in (
      subst (λ (a : Asking g.row.I.Denot g.row.B.Denot). AreNaming a.handling.table a.slots c.ask_each.new.ops.given)
          (sym c.ask_each.ensures.asks)
          (asks-naming c.cancel.new.self start c.as_slice.result.now c.ask_each.new.ops.given
          (subst (λ n. AreNaming d.handling.table d.slots.values n) (sym c.ask_each.ensures.given) c.self.invariant.0)),
      in-slots-tokens c.cancel.new.self c.self.inside.ops c.ask_each.new.ops c.ask_each.ensures.tokens
          (subst (λ m. AreInSlots m d.slots.values) (sym c.in-Ok.ensures.marked) c.self.invariant.1),
      λ memory. subst (λ (a : Asking g.row.I.Denot g.row.B.Denot). AreShown g.I.NonBlock.view a.handling d.untreated)
          (sym c.ask_each.ensures.asks)
          (shown-asked g.I.NonBlock.view d.untreated c.cancel.new.self start c.as_slice.result.now (c.self.invariant.2 memory)),
    )

pub returns-clause-answers : goal.returns-clause-answers
returns-clause-answers g c =
    let d : LegacyState g.row.I.Denot g.row.B.Denot =
    by_parts c.self.inside.registry c.self.inside.ops c.self.inside.members c.self.inside.asked.items c.self.inside.untreated in
    let new : LegacyState g.row.I.Denot g.row.B.Denot =
    by_parts c.ask_each.new.registry c.ask_each.new.ops c.cancel.new.self c.ask_each.new.asked.items c.self.inside.untreated in
    let start : Asking g.row.I.Denot g.row.B.Denot =
    record { handling = d.handling; slots = d.slots.values; asked = c.reserve.new.self.items } in
    let within = subst (λ (x : LegacyState g.row.I.Denot g.row.B.Denot). c.args.c < group_count x) (sym c.self.view_is) c.requires in
    let left = subst (AsksLeave start) (sym c.ask_each.ensures.asks) (asks-leave c.cancel.new.self start c.as_slice.result.now) in
    rw (← c.self.view_is) (λ memory D stands. record {
      answers = stands-cancels g.I.NonBlock.view g.B.IoBufMut.buffer d D stands c.args.c c.in-Ok.canceling.1 new within
          c.in-Ok.ensures.members
          (subst (λ ns. OpsStand g.B.IoBufMut.buffer c.ask_each.new.ops (record D { slots = ask_each D.slots ns })) c.as_slice.ensures
          (c.ask_each.ensures.cancels D stands.parts.operations))
          (record { io = left.io; table = left.table; live = left.live })
          c.in-Ok.ensures.marked;
      renewed = c.in-Ok.ensures.number ∙ count-groups g.I.NonBlock.view g.B.IoBufMut.buffer d D stands;
    })
