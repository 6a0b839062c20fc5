use Rattle.std.proofs.Common.{◌≡◌, ◌<◌, ◌-◌, ℕ, false, Option, sym, subst}
use Rattle.std.specs.Prelude.{IfSome}
use Rattle.uring_driver.specs.Holding.{Holding, IsKept}
use Rattle.uring_driver.specs.Making.{is_old}
use Rattle.uring_driver.proofs.Closings.{kept-made, kept-lost}
use Rattle.uring_driver.proofs.Ended.{not-old, unheld-none}
use Rattle.uring_driver.proofs.holding.Handles.end_maker.Goals as goal

pub invariant_of-self-then-dropped : goal.invariant_of-self-then-dropped
invariant_of-self-then-dropped c =
    let holding : Holding = record { table = c.self.inside.table; closing = c.self.inside.closing; makers = c.self.inside.makers } in
    let new = not-old holding c.in-Some.h (subst (λ x. is_old x c.in-Some.h ≡ false) (sym c.self.view_is)
    (subst (λ (o : Option ℕ). IfSome o (λ h. is_old c.args.self.now h ≡ false)) c.in-Some.is c.requires.fresh)) in
    let fresh = unheld-none holding.table c.in-Some.h c.self.invariant.somebody new.0 in
    let some = subst (λ (x : Holding). 0 < x.makers) (sym c.self.view_is) c.requires.some in
    subst (λ t. IsKept (record holding { closing = t; makers = holding.makers - 1 })) (sym c.add_op_reserved.ensures)
    (kept-lost holding c.self.invariant c.in-Some.h fresh new.1 some)

pub invariant_of-self-else-dropped : goal.invariant_of-self-else-dropped
invariant_of-self-else-dropped c =
    let holding : Holding = record { table = c.self.inside.table; closing = c.self.inside.closing; makers = c.self.inside.makers } in
    let new = not-old holding c.in-Some.h (subst (λ x. is_old x c.in-Some.h ≡ false) (sym c.self.view_is)
    (subst (λ (o : Option ℕ). IfSome o (λ h. is_old c.args.self.now h ≡ false)) c.in-Some.is c.requires.fresh)) in
    let fresh = unheld-none holding.table c.in-Some.h c.self.invariant.somebody new.0 in
    let some = subst (λ (x : Holding). 0 < x.makers) (sym c.self.view_is) c.requires.some in
    subst (λ t. IsKept (record holding { table = t; makers = holding.makers - 1 })) (sym c.add_op_reserved-else-dropped.ensures)
    (kept-made holding c.self.invariant c.in-Some.h fresh new.1 new.2 some)
