use Rattle.std.proofs.Common.{ap}
use Rattle.ready_driver.specs.Records.{Holdings}
use Rattle.ready_driver.proofs.Registering.{recorded-none}
use Rattle.ready_driver.proofs.registry.Registry.over.Goals as goal

pub invariant_of-result : goal.invariant_of-result
invariant_of-result g c =
    recorded-none c.new.result.table c.new.result.records (ap (λ (a : Holdings). a.table.holders) c.new.ensures)
    (ap (λ (a : Holdings). a.records.handles) c.new.ensures)
