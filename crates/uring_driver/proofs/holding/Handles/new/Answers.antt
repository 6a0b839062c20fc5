use Rattle.std.proofs.Common.{ap, refl}
use Rattle.uring_driver.proofs.Closings.{kept-none}
use Rattle.uring_driver.proofs.holding.Handles.new.Goals as goal

pub invariant_of-result : goal.invariant_of-result
invariant_of-result c = kept-none _ (ap (λ t. t.holders) c.new.ensures) (ap (λ t. t.holders) c.new-2.ensures) refl
