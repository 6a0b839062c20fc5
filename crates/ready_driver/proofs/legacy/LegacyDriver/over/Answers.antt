use Rattle.std.proofs.Common.{ap, ◌∙◌}
use Rattle.std.specs.Ordering.{nat_cmp}
use Rattle.std.specs.FinMap.{len, len-empty}
use Rattle.driver_core.specs.declared.slot.Slot.{Slot}
use Rattle.driver_core.proofs.Placing.{in-slots-none}
use Rattle.ready_driver.specs.Registry.{Handling}
use Rattle.ready_driver.proofs.Naming.{naming-none}
use Rattle.ready_driver.proofs.Starting.{stands-idle}
use Rattle.ready_driver.proofs.Showing.{shown-none}
use Rattle.ready_driver.proofs.legacy.LegacyDriver.over.Goals as goal

pub invariant_of-result : goal.invariant_of-result
invariant_of-result g c = (
  naming-none c.over.result.table c.new.result.slots.values c.new.result.given
      (ap (λ (x : Handling g.row.I.Denot). x.table.holders) c.over.ensures) c.new.ensures.slots,
  in-slots-none c.new-2.result c.new.result.slots.values (ap (λ m. m.places) c.new-2.ensures),
  λ memory. shown-none g.I.NonBlock.view c.over.result c.new-4.result (ap (λ (x : Handling g.row.I.Denot). x.table.holders) c.over.ensures),
)

pub returns-clause-none : goal.returns-clause-none
returns-clause-none g c =
    (ap len c.new.ensures.slots ∙ len-empty nat_cmp (Slot g.row.B.Denot), c.new.ensures.given, c.new.ensures.none)

pub returns-clause-stands : goal.returns-clause-stands
returns-clause-stands g c =
    λ world keys. stands-idle g.I.NonBlock.view g.B.IoBufMut.buffer _ c.args.io
    (ap (λ (x : Handling g.row.I.Denot). x.io) c.over.ensures) (ap (λ (x : Handling g.row.I.Denot). x.table.holders) c.over.ensures)
    c.new.ensures.slots c.new.ensures.given c.new-2.ensures world keys
