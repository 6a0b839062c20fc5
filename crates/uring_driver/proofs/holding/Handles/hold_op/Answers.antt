use Rattle.std.proofs.Common.{sym, subst, arith}
use Rattle.handle_core.specs.Table.{IsHeld, holders_at, with_operation}
use Rattle.uring_driver.specs.Holding.{Holding, IsKept}
use Rattle.uring_driver.proofs.Closings.{kept-written}
use Rattle.uring_driver.proofs.holding.Handles.hold_op.Goals as goal

pub invariant_of-self : goal.invariant_of-self
invariant_of-self c =
    let holding : Holding = record { table = c.self.inside.table; closing = c.self.inside.closing; makers = c.self.inside.makers } in
    let there = subst (λ (x : Holding). IsHeld x.table c.args.h) (sym c.self.view_is) c.requires.held in
    subst (λ t. IsKept (record holding { table = t })) (sym c.hold_op.ensures)
    (kept-written holding c.self.invariant c.args.h (with_operation (holders_at holding.table c.args.h)) there (omega arith))
