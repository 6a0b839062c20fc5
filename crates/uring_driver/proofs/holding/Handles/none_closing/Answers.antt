use Rattle.std.proofs.Common.{◌≡◌, ◌↔◌, ℕ, false, subst, IsTrue}
use Rattle.uring_driver.specs.Holding.{Holding, closes}
use Rattle.uring_driver.proofs.Finish.{none_closing}
use Rattle.uring_driver.proofs.holding.Handles.none_closing.Goals as goal

pub returns : goal.returns
returns c =
    let holding : Holding = record { table = c.self.inside.table; closing = c.self.inside.closing; makers = c.self.inside.makers } in
    let exact = none_closing holding in
    subst (λ x. IsTrue c.is_empty.result ↔ ((h : ℕ) → closes x h ≡ false)) c.self.view_is
    ((λ yes. exact.0 (c.is_empty.ensures.0 yes)), (λ all. c.is_empty.ensures.1 (exact.1 all)))
