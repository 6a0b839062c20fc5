use Rattle.std.proofs.Common.{◌≡◌, false, refl, sym, subst}
use Rattle.ready_driver.specs.LegacyState.{LegacyState}
use Rattle.ready_driver.specs.Registry.{is_known}
use Rattle.ready_driver.proofs.Holding.{naming-adopted}
use Rattle.ready_driver.proofs.Showing.{shown-adopted}
use Rattle.ready_driver.proofs.legacy.LegacyDriver.adopt.Goals as goal

pub invariant_of-self : goal.invariant_of-self
invariant_of-self g c = (
  naming-adopted c.adopt.result g.I.NonBlock.view g.I.NonBlock.tells g.I.NonBlock.memory c.self.inside.registry c.adopt.new.self
      c.self.inside.registry c.args.h c.self.inside.ops.slots.values c.self.inside.ops.given
      (subst (λ (x : LegacyState g.row.I.Denot g.row.B.Denot). is_known x.handling.table c.args.h ≡ false) (sym c.self.view_is)
      c.requires.fresh)
      refl c.adopt.ensures.ok c.adopt.ensures.err c.self.invariant.0,
  c.self.invariant.1,
  λ memory. shown-adopted g.I.NonBlock.view c.self.inside.untreated g.I.NonBlock.tells g.I.NonBlock.memory memory c.adopt.result
      c.self.inside.registry c.self.inside.registry c.adopt.new.self c.args.h (c.self.invariant.2 memory) (c.self.invariant.2 memory)
      c.adopt.ensures.ok c.adopt.ensures.err,
)
