use Rattle.std.proofs.Common.{◌≡◌, ◌<◌, false, sym, subst, arith}
use Rattle.handle_core.specs.Table.{by_user}
use Rattle.uring_driver.specs.Holding.{Holding, places, knows}
use Rattle.uring_driver.proofs.Closings.{kept-added, unknown, added}
use Rattle.uring_driver.proofs.holding.Handles.add.Goals as goal

pub invariant_of-self : goal.invariant_of-self
invariant_of-self c =
    let holding : Holding = record { table = c.self.inside.table; closing = c.self.inside.closing; makers = c.self.inside.makers } in
    let fresh = unknown holding c.args.h (subst (λ x. knows x c.args.h ≡ false) (sym c.self.view_is) c.requires.fresh) in
    let room : places holding < holding.closing.spare =
    subst (λ (x : Holding). places x < x.closing.spare) (sym c.self.view_is) c.requires.room in
    added holding c.args.h c.add_user.new.self c.add_user.result c.add_user.ensures.ok c.add_user.ensures.err c.self.invariant
    (kept-added holding c.self.invariant c.args.h by_user fresh.0 fresh.1 c.requires.below room (omega arith))
