use Rattle.std.proofs.Common.{ap, arith, ◌∙◌}
use Rattle.std.specs.Ordering.{nat_cmp}
use Rattle.std.specs.FinMap.{len, len-empty}
use Rattle.handle_core.specs.declared.table.Holders.{Holders}
use Rattle.driver_core.specs.declared.slot.Slot.{Slot}
use Rattle.driver_core.proofs.Placing.{in-slots-none}
use Rattle.uring_driver.specs.Holding.{places}
use Rattle.uring_driver.proofs.Closings.{known-none}
use Rattle.uring_driver.proofs.Holders.{holding-none}
use Rattle.uring_driver.proofs.Sound.{sound-empty}
use Rattle.uring_driver.proofs.Starting.{stands-empty}
use Rattle.uring_driver.proofs.uring.IoUringDriver.over.Goals as goal

pub returns-clause-stands : goal.returns-clause-stands
returns-clause-stands g c =
    λ world. stands-empty g.R.Ring.view g.B.IoBufMut.buffer _ c.args.ring c.new.ensures c.new-2.ensures.slots c.new-2.ensures.given
    (ap (λ x. x.table.holders) c.new-3.ensures) (ap (λ x. x.closing.holders) c.new-3.ensures) (ap (λ x. x.makers) c.new-3.ensures)
    c.new-4.ensures c.requires world

pub returns-clause-known : goal.returns-clause-known
returns-clause-known g c = λ h. known-none c.new-3.result c.new-3.ensures h

pub returns-clause-none : goal.returns-clause-none
returns-clause-none g c =
    (ap len c.new-2.ensures.slots ∙ len-empty nat_cmp (Slot g.row.B.Denot), c.new-2.ensures.given, c.new-2.ensures.none)

pub invariant_of-result : goal.invariant_of-result
invariant_of-result g c =
    let none = ap (λ x. x.table.holders) c.new-3.ensures in
    let makers = ap (λ x. x.makers) c.new-3.ensures in
    let slots = c.new-2.ensures.slots in (
      sound-empty c.new.result.room c.new-2.result.slots.values (places c.new-3.result) slots
          (let a = ap len none in let b = len-empty nat_cmp Holders in omega (arith, a, b, makers)),
      holding-none c.new-3.result c.new-2.result.slots.values c.new-2.result.given none makers slots,
      in-slots-none c.new-4.result c.new-2.result.slots.values (ap (λ m. m.places) c.new-4.ensures),
    )
