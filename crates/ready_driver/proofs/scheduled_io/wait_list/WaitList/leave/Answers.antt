use Rattle.std.proofs.Common.{◌∙◌, length, refl, sym, ap, subst, arith}
use Rattle.ready_driver.specs.ScheduledIo.{left, IsOnceEach}
use Rattle.ready_driver.specs.WaitList.{Line, live, is_left, IsInOrder, IsIndexed}
use Rattle.ready_driver.proofs.Gaps.{live_left, counted_filtered}
use Rattle.ready_driver.proofs.Ordered.{order_filtered}
use Rattle.ready_driver.proofs.Spots.{once_left, fewer_left}
use Rattle.ready_driver.proofs.scheduled_io.wait_list.WaitList.leave.Goals as goal

pub settle-order-requires-clause-order : goal.settle-order-requires-clause-order
settle-order-requires-clause-order c =
    subst (IsInOrder c.self.inside.in_order) (sym c.deref.ensures.value)
    (order_filtered c.self.inside.in_order (is_left c.args.ready) c.self.inside.entries.items _ c.drop_taken.ensures c.self.invariant.1)

pub settle-order-requires-clause-once : goal.settle-order-requires-clause-once
settle-order-requires-clause-once c =
    subst (λ es. IsOnceEach (live es)) (sym c.deref.ensures.value)
    (once_left c.args.ready c.self.inside.entries.items _ c.drop_taken.ensures
    (subst (λ (l : Line). IsOnceEach l.waiters) (sym c.self.view_is) c.requires))

pub settle-order-requires-clause-room : goal.settle-order-requires-clause-room
settle-order-requires-clause-room c = λ apart.
    let same = ap (λ es. length (live es)) c.deref.ensures.value in
    let fewer = fewer_left c.args.ready c.self.inside.entries.items _ c.drop_taken.ensures in
    let count = (c.self.invariant.2 apart).count in
    omega (arith, same, fewer, count)

pub invariant_of-self : goal.invariant_of-self
invariant_of-self c = (
  counted_filtered (is_left c.args.ready) (λ n. refl) c.self.inside.entries.items _ c.drop_taken.ensures,
  subst (IsInOrder c.settle-order.result) c.deref.ensures.value c.settle-order.ensures.order,
  λ apart. subst (IsIndexed c.settle-order.new.places) c.deref.ensures.value (c.settle-order.ensures.index apart),
)

pub returns : goal.returns
returns c =
    live_left c.args.ready c.self.inside.entries.items _ c.drop_taken.ensures
    ∙ ap (λ (l : Line). left c.args.ready l.waiters) c.self.view_is
