use Rattle.std.proofs.Common.{◌∙◌, length, refl, sym, ap, subst, arith}
use Rattle.ready_driver.specs.ScheduledIo.{IsOnceEach}
use Rattle.ready_driver.specs.WaitList.{live, is_live, IsInOrder}
use Rattle.ready_driver.proofs.Gaps.{live_squeezed, counted_filtered}
use Rattle.ready_driver.proofs.Ordered.{order_filtered}
use Rattle.ready_driver.proofs.scheduled_io.wait_list.squeeze.Goals as goal

pub settle-requires-clause-order : goal.settle-requires-clause-order
settle-requires-clause-order c =
    subst (IsInOrder c.args.in_order.now) (sym c.deref.ensures.value)
    (order_filtered c.args.in_order.now is_live c.args.entries.now.items _ c.drop_gaps.ensures c.requires.order)

pub settle-requires-clause-once : goal.settle-requires-clause-once
settle-requires-clause-once c =
    subst IsOnceEach (sym (ap live c.deref.ensures.value ∙ live_squeezed c.args.entries.now.items _ c.drop_gaps.ensures)) c.requires.once

pub settle-requires-clause-room : goal.settle-requires-clause-room
settle-requires-clause-room c = λ apart.
    let same = ap length (ap live c.deref.ensures.value ∙ live_squeezed c.args.entries.now.items _ c.drop_gaps.ensures) in
    let count = (c.requires.index apart).count in
    omega (arith, same, count)

pub returns-clause-same : goal.returns-clause-same
returns-clause-same c = live_squeezed c.args.entries.now.items _ c.drop_gaps.ensures

pub returns-clause-counted : goal.returns-clause-counted
returns-clause-counted c = counted_filtered is_live (λ n. refl) c.args.entries.now.items _ c.drop_gaps.ensures
