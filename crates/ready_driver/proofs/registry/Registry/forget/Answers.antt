use Rattle.std.proofs.Common.{sym, subst}
use Rattle.ready_driver.specs.Awaits.{without_waiter}
use Rattle.ready_driver.specs.Records.{Holdings, with_io}
use Rattle.ready_driver.specs.Registry.{AreRecorded}
use Rattle.ready_driver.proofs.Registering.{recorded-changed}
use Rattle.ready_driver.proofs.registry.Registry.forget.Goals as goal

pub invariant_of-self : goal.invariant_of-self
invariant_of-self g c =
    subst (λ (a : Holdings). AreRecorded a.table a.records) (sym c.forget.ensures.rest)
    (recorded-changed c.self.inside.records.table c.self.inside.records.records c.self.invariant c.args.h
    (with_io (without_waiter c.args.serial)))
