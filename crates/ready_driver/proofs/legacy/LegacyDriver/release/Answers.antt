use Rattle.std.proofs.Common.{refl, sym, subst, ◌≡◌, true}
use Rattle.handle_core.specs.Table.{holders_at, without_user}
use Rattle.ready_driver.specs.LegacyState.{LegacyState}
use Rattle.ready_driver.specs.Named.{AreNaming}
use Rattle.ready_driver.specs.Registry.{is_users}
use Rattle.ready_driver.proofs.Driven.{by_parts}
use Rattle.ready_driver.proofs.Holding.{stands-releases}
use Rattle.ready_driver.proofs.Naming.{naming-settled}
use Rattle.ready_driver.proofs.Showing.{shown-released}
use Rattle.ready_driver.proofs.legacy.LegacyDriver.release.Goals as goal

pub invariant_of-self : goal.invariant_of-self
invariant_of-self g c =
    let table = c.self.inside.registry.table in
    let held = subst (λ k. is_users c.args.self.now.handling.table k ≡ true) (sym c.number.ensures) c.requires in
    let users = subst (λ (x : LegacyState g.row.I.Denot g.row.B.Denot). is_users x.handling.table c.number.result ≡ true)
    (sym c.self.view_is) held in (
      subst (λ t. AreNaming t c.self.inside.ops.slots.values c.self.inside.ops.given) (sym c.release.ensures.leaves.holders)
          (naming-settled table c.self.inside.ops.slots.values c.self.inside.ops.given c.number.result
          (without_user (holders_at table c.number.result)) c.self.invariant.0 refl),
      c.self.invariant.1,
      λ memory. shown-released g.I.NonBlock.view c.self.inside.untreated g.I.NonBlock.tells g.I.NonBlock.memory memory
          c.self.inside.registry c.release.new.self c.number.result users c.release.ensures.leaves (c.self.invariant.2 memory),
    )

pub returns-clause-answers : goal.returns-clause-answers
returns-clause-answers g c =
    let d : LegacyState g.row.I.Denot g.row.B.Denot =
    by_parts c.self.inside.registry c.self.inside.ops c.self.inside.members c.self.inside.asked.items c.self.inside.untreated in
    let held = subst (λ k. is_users c.args.self.now.handling.table k ≡ true) (sym c.number.ensures) c.requires in
    rw (← c.number.ensures) (
    rw (← c.self.view_is) (λ memory D stands. stands-releases g.I.NonBlock.view g.B.IoBufMut.buffer g.I.NonBlock.tells
    g.I.NonBlock.memory d D
    stands memory (g.met.I.NonBlock.memory_tells memory) c.number.result c.release.new.self
    (subst (λ (x : LegacyState g.row.I.Denot g.row.B.Denot). is_users x.handling.table c.number.result ≡ true) (sym c.self.view_is) held)
    c.release.ensures.leaves))
