use Rattle.std.proofs.Common.{◌≡◌, Some, sym, subst, ap}
use Rattle.std.specs.Prelude.{is_some, unwrap_or}
use Rattle.std.specs.FinMap.{get}
use Rattle.handle_core.specs.Table.{by_user, nobody, without_user}
use Rattle.uring_driver.specs.Holding.{Holding, IsKept}
use Rattle.uring_driver.proofs.Closings.{kept-forgotten}
use Rattle.uring_driver.proofs.holding.Handles.forget.Goals as goal

pub invariant_of-self : goal.invariant_of-self
invariant_of-self c =
    let holding : Holding = record { table = c.self.inside.table; closing = c.self.inside.closing; makers = c.self.inside.makers } in
    let there : get holding.table.holders c.args.h ≡ Some by_user =
    subst (λ (x : Holding). get x.table.holders c.args.h ≡ Some by_user) (sym c.self.view_is) c.requires in
    let last = c.release.ensures.last.1 (ap (λ o. without_user (unwrap_or o nobody)) there) in
    subst (λ t. IsKept (record holding { table = t })) (sym (c.release.ensures.left last))
    (kept-forgotten holding c.self.invariant c.args.h (ap is_some there))
