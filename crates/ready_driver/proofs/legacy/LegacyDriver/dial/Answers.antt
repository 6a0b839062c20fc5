use Rattle.machine.specs.declared.world.HandleKind.TheVariants.{Stream}
use Rattle.ready_driver.proofs.Dialing.{naming-opened, shown-opened}
use Rattle.ready_driver.proofs.legacy.LegacyDriver.dial.Goals as goal

-- the operations hold what they held, and a world in memory shows each handle still
pub invariant_of-self : goal.invariant_of-self
invariant_of-self g c = (
  naming-opened c.dial.result g.I.NonBlock.view g.I.NonBlock.tells g.I.NonBlock.memory Stream c.self.inside.registry c.dial.new.self
      c.self.inside.ops.slots.values c.self.inside.ops.given c.dial.ensures c.self.invariant.0,
  c.self.invariant.1,
  λ memory. shown-opened g.I.NonBlock.view c.self.inside.untreated g.I.NonBlock.tells g.I.NonBlock.memory memory c.dial.result Stream
      c.self.inside.registry c.dial.new.self c.dial.ensures (c.self.invariant.2 memory),
)
