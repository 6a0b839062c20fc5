use Rattle.std.proofs.Common.{◌≡◌, ◌∙◌, Bool, true, false, sym, subst}
use Rattle.uring_driver.specs.Holding.{closes}
use Rattle.uring_driver.proofs.uring.IoUringDriver.has_nothing_left.Goals as goal

pub returns-then-not-none_closing : goal.returns-then-not-none_closing
returns-then-not-none_closing g c = (
  (λ no. absurd (let a : ◌≡◌ {A = Bool} false true = no in cc)),
  (λ left. sym c.if-not-none_closing.true
      ∙ c.none_closing.ensures.1 (λ h. subst (λ x. closes x.holding h ≡ false) (sym c.self.view_is) (left.none_closing h))),
)
