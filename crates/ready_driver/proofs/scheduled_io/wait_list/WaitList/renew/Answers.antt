use Rattle.std.proofs.Common.{refl, subst, set}
use Rattle.ready_driver.specs.declared.scheduled_io.wait_list.Entry.TheVariants.{Waits}
use Rattle.ready_driver.specs.WaitList.{IsPlace}
use Rattle.ready_driver.proofs.Gaps.{counted_renewed}
use Rattle.ready_driver.proofs.Ordered.{order_put}
use Rattle.ready_driver.proofs.Spots.{indexed_set}
use Rattle.ready_driver.proofs.scheduled_io.wait_list.WaitList.renew.Goals as goal

pub invariant_of-self : goal.invariant_of-self
invariant_of-self c =
    let es = c.self.inside.entries.items in
    let entry = Waits c.args.waiter in
    let ys = set es c.in-Some.at entry in
    let serial = c.args.waiter.serial in
    let there = subst (λ xs. IsPlace xs serial c.in-Some.at c.in-Some.field-0-1) c.deref.ensures.value c.in-Some.ensures.some in (
      counted_renewed c.self.inside.gaps es ys serial c.in-Some.at c.args.waiter c.in-Some.field-0-1 refl there c.self.invariant.0,
      order_put c.self.inside.in_order es ys entry serial c.in-Some.at c.in-Some.field-0-1 refl there refl c.self.invariant.1,
      λ apart. indexed_set c.self.inside.places c.self.inside.places es ys c.in-Some.at serial c.args.waiter c.in-Some.field-0-1
          (c.self.invariant.2 apart) refl there refl,
    )
