use Rattle.std.proofs.Common.{◌≡◌, true, refl, sym, ap, subst}
use Rattle.handle_core.specs.Table.{holders_at, with_user}
use Rattle.ready_driver.specs.HandlesStand.{HandlesStand}
use Rattle.ready_driver.specs.LegacyState.{LegacyState}
use Rattle.ready_driver.specs.Named.{AreNaming}
use Rattle.ready_driver.specs.Registry.{Handling, is_users}
use Rattle.ready_driver.proofs.Driven.{by_parts, stands-handling}
use Rattle.ready_driver.proofs.Naming.{naming-written}
use Rattle.ready_driver.proofs.Standing.{standing-held}
use Rattle.driver_core.proofs.Holds.{held-user}
use Rattle.ready_driver.proofs.Showing.{shown-held}
use Rattle.ready_driver.proofs.legacy.LegacyDriver.hold.Goals as goal

pub invariant_of-self : goal.invariant_of-self
invariant_of-self g c =
    let table = c.self.inside.registry.table in
    let held = subst (λ k. is_users c.args.self.now.handling.table k ≡ true) (sym c.number.ensures) c.requires.held in
    let users = subst (λ (x : LegacyState g.row.I.Denot g.row.B.Denot). is_users x.handling.table c.number.result ≡ true)
    (sym c.self.view_is) held in (
      subst (λ (x : Handling g.row.I.Denot). AreNaming x.table c.self.inside.ops.slots.values c.self.inside.ops.given) (sym c.hold.ensures)
          (naming-written table c.self.inside.ops.slots.values c.self.inside.ops.given c.number.result
          (with_user (holders_at table c.number.result)) c.self.invariant.0 refl),
      c.self.invariant.1,
      λ memory. shown-held g.I.NonBlock.view c.self.inside.untreated c.self.inside.registry c.hold.new.self c.number.result
          (with_user (holders_at table c.number.result)) (held-user table c.number.result users) c.hold.ensures
          (c.self.invariant.2 memory),
    )

pub returns-clause-stands : goal.returns-clause-stands
returns-clause-stands g c =
    let d : LegacyState g.row.I.Denot g.row.B.Denot =
    by_parts c.self.inside.registry c.self.inside.ops c.self.inside.members c.self.inside.asked.items c.self.inside.untreated in
    let held = subst (λ k. is_users c.args.self.now.handling.table k ≡ true) (sym c.number.ensures) c.requires.held in
    let view = g.I.NonBlock.view in
    rw (← c.self.view_is) (λ D stands. stands-handling view g.B.IoBufMut.buffer d D stands c.hold.new.self
    (ap (λ (x : Handling g.row.I.Denot). (view x.io).world) c.hold.ensures)
    (subst (λ (x : Handling g.row.I.Denot). HandlesStand x.table (view x.io).keys D) (sym c.hold.ensures)
    (standing-held d.handling.table (view d.handling.io).keys D stands.handles c.number.result
    (subst (λ (x : LegacyState g.row.I.Denot g.row.B.Denot). is_users x.handling.table c.number.result ≡ true) (sym c.self.view_is) held))))
