use Rattle.std.proofs.Common.{◌≡◌, true, sym, subst, ap, ◌∙◌}
use Rattle.std.specs.Prelude.{unwrap_or}
use Rattle.std.specs.FinMap.{get}
use Rattle.handle_core.specs.Table.{nobody, without_operation}
use Rattle.uring_driver.specs.Holding.{Holding, IsKept, closes}
use Rattle.uring_driver.proofs.Closings.{kept-reaped}
use Rattle.machine.proofs.Numbers.{some-of}
use Rattle.uring_driver.proofs.holding.Handles.closed.Goals as goal

pub invariant_of-self : goal.invariant_of-self
invariant_of-self c =
    let holding : Holding = record { table = c.self.inside.table; closing = c.self.inside.closing; makers = c.self.inside.makers } in
    let closing = subst (λ x. closes x c.args.h ≡ true) (sym c.self.view_is) (sym c.closing.ensures ∙ c.if-not-closing.false) in
    let was = some-of (get holding.closing.holders c.args.h) closing in
    let once = c.self.invariant.once c.args.h was.0 was.1 in
    let last = c.release_op.ensures.last.1 (ap (λ o. without_operation (unwrap_or o nobody)) was.1 ∙ ap without_operation once) in
    subst (λ t. IsKept (record holding { closing = t })) (sym (c.release_op.ensures.left last))
    (kept-reaped holding c.self.invariant c.args.h)
