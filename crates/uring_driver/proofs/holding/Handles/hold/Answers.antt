use Rattle.std.proofs.Common.{◌≡◌, true, sym, subst, arith}
use Rattle.handle_core.specs.Table.{holders_at, with_user}
use Rattle.uring_driver.specs.Holding.{Holding, IsKept, is_users}
use Rattle.uring_driver.proofs.Closings.{kept-written}
use Rattle.driver_core.proofs.Holds.{held-user}
use Rattle.uring_driver.proofs.holding.Handles.hold.Goals as goal

pub invariant_of-self : goal.invariant_of-self
invariant_of-self c =
    let holding : Holding = record { table = c.self.inside.table; closing = c.self.inside.closing; makers = c.self.inside.makers } in
    let users = subst (λ x. is_users x c.args.h ≡ true) (sym c.self.view_is) c.requires.held in
    subst (λ t. IsKept (record holding { table = t })) (sym c.hold.ensures)
    (kept-written holding c.self.invariant c.args.h (with_user (holders_at holding.table c.args.h))
    (held-user holding.table c.args.h users) (omega arith))
