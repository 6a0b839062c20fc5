use Rattle.std.proofs.Common.{sym, subst}
use Rattle.uring_driver.specs.State.{AreHolding}
use Rattle.uring_driver.proofs.Holdings.{holding-reaped}
use Rattle.uring_driver.proofs.uring.turn.treat.Goals as goal

pub returns-else-not-closed-clause-holding : goal.returns-else-not-closed-clause-holding
returns-else-not-closed-clause-holding g c =
    subst (λ h. AreHolding h c.args.ops.now.slots.values c.args.ops.now.given) (sym c.closed.ensures.rest)
    (holding-reaped c.args.handles.now c.args.ops.now.slots.values c.args.ops.now.given c.in-Handle.h c.requires.holding)
