use Rattle.std.proofs.Common.{ap, subst}
use Rattle.machine.specs.Ledger.{empty}
use Rattle.ring_core.specs.Ring.{RingView}
use Rattle.uring_driver.specs.Stands.{Stands}
use Rattle.uring_driver.proofs.uring.memory.IoUringDriver+MemRing+B.new_with_entries.Goals as goal

-- The ring is a fresh one: it has no handles, and its capacity is `entries`.
pub returns-in-Ok-clause-stands : goal.returns-in-Ok-clause-stands
returns-in-Ok-clause-stands g c =
    subst (λ (ring : RingView). Stands (λ r. r) g.B.IoBufMut.buffer c.in-Ok.driver (empty ring.capacity)) c.new.ensures
    (c.in-Ok.ensures.stands (ap (λ (ring : RingView). ring.world) c.new.ensures))
