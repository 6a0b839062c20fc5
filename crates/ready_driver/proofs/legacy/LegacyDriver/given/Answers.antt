use Rattle.ready_driver.proofs.Naming.{naming-known}
use Rattle.ready_driver.proofs.legacy.LegacyDriver.given.Goals as goal

pub returns-clause-held : goal.returns-clause-held
returns-clause-held g c = rw (← c.self.view_is) (λ key h there.
    naming-known c.self.inside.registry.table c.self.inside.ops.slots.values c.self.inside.ops.given key c.self.invariant.0 h there)

pub returns-clause-owned : goal.returns-clause-owned
returns-clause-owned g c = rw (← c.self.view_is) (λ memory. (c.self.invariant.2 memory).owned)
