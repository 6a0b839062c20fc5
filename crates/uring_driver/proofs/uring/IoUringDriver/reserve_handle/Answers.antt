use Rattle.std.proofs.Common.{ap, arith}
use Rattle.uring_driver.specs.Holding.{IsSameHolding}
use Rattle.uring_driver.proofs.Joining.{kept-reserved}
use Rattle.uring_driver.proofs.uring.IoUringDriver.reserve_handle.Goals as goal

pub invariant_of-self : goal.invariant_of-self
invariant_of-self g c =
    let same : IsSameHolding c.self.inside.handles c.reserve_close.new.self = record {
      table = ap (λ t. t.holders) c.reserve_close.ensures.table;
      closing = c.reserve_close.ensures.closing;
      makers = c.reserve_close.ensures.makers;
    } in
    let kept = kept-reserved c.self.inside.ring.room c.self.inside.ring.room c.self.inside.ops.slots.values c.self.inside.ops.given
    c.self.inside.handles c.reserve_close.new.self (c.self.invariant.0, c.self.invariant.1) same (omega arith) in
    (kept.0, kept.1, c.self.invariant.2)

pub invariant_of-self-2 : goal.invariant_of-self-2
invariant_of-self-2 g c =
    let same : IsSameHolding c.self.inside.handles c.reserve_close.new.self = record {
      table = ap (λ t. t.holders) c.reserve_close.ensures.table;
      closing = c.reserve_close.ensures.closing;
      makers = c.reserve_close.ensures.makers;
    } in
    let kept = kept-reserved c.self.inside.ring.room c.make_spare.new.self.room c.self.inside.ops.slots.values c.self.inside.ops.given
    c.self.inside.handles c.reserve_close.new.self (c.self.invariant.0, c.self.invariant.1) same c.make_spare.ensures.more in
    (kept.0, kept.1, c.self.invariant.2)
