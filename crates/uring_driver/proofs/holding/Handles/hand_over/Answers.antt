use Rattle.std.proofs.Common.{◌<◌, sym, subst, arith}
use Rattle.handle_core.specs.Table.{holders_at, handed}
use Rattle.uring_driver.specs.Holding.{Holding, IsKept}
use Rattle.uring_driver.proofs.Closings.{kept-written}
use Rattle.driver_core.proofs.Holds.{held-op}
use Rattle.uring_driver.proofs.holding.Handles.hand_over.Goals as goal

pub invariant_of-self : goal.invariant_of-self
invariant_of-self c =
    let holding : Holding = record { table = c.self.inside.table; closing = c.self.inside.closing; makers = c.self.inside.makers } in
    let some = subst (λ (x : Holding). 0 < (holders_at x.table c.args.h).operations) (sym c.self.view_is) c.requires in
    subst (λ t. IsKept (record holding { table = t })) (sym c.hand_over.ensures)
    (kept-written holding c.self.invariant c.args.h (handed (holders_at holding.table c.args.h)) (held-op holding.table c.args.h some)
    (omega arith))
