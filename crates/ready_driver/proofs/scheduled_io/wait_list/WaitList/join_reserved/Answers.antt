use Rattle.std.proofs.Common.{◌∙◌, ◌<◌, ◌++◌, [], ◌∷◌, length, refl, sym, ap, subst, arith}
use Rattle.ready_driver.specs.declared.scheduled_io.wait_list.Entry.TheVariants.{Waits}
use Rattle.ready_driver.specs.WaitList.{Line, live, IsBehind, IsIndexed}
use Rattle.ready_driver.proofs.Gaps.{counted_joined}
use Rattle.ready_driver.proofs.Ordered.{order_joined}
use Rattle.ready_driver.proofs.Spots.{spare_there}
use Rattle.ready_driver.proofs.scheduled_io.wait_list.WaitList.join_reserved.Goals as goal

pub join_places-requires-clause-room : goal.join_places-requires-clause-room
join_places-requires-clause-room c = λ breaks.
    let es = c.self.inside.entries.items in
    let same = ap (λ xs. length (live xs)) c.deref-2.ensures.value in
    let spare = ap (λ (l : Line). l.spare) c.self.view_is in
    let room = spare_there c.self.inside.in_order c.stays_in_order-stays.result es _ _ (subst (λ n. 0 < n) (sym spare) c.requires.room)
    (λ ordered none. c.stays_in_order-stays.ensures.none ordered (c.deref.ensures.value ∙ none)) breaks in
    omega (arith, same, room)

pub invariant_of-self : goal.invariant_of-self
invariant_of-self c = (
  counted_joined c.self.inside.gaps c.self.inside.entries.items _ c.args.waiter c.push_reserved.ensures.items c.self.invariant.0,
  order_joined c.self.inside.in_order c.stays_in_order-stays.result c.self.inside.entries.items _ (Waits c.args.waiter)
      c.push_reserved.ensures.items
      (λ stays. (
        (c.stays_in_order-stays.ensures.value stays).0,
        subst (λ es. IsBehind es c.args.waiter.serial) c.deref.ensures.value (c.stays_in_order-stays.ensures.value stays).1,
      ))
      c.self.invariant.1,
  λ breaks. subst (IsIndexed c.join_places.new.places)
      (ap (λ es. es ++ Waits c.args.waiter ∷ []) c.deref-2.ensures.value ∙ sym c.push_reserved.ensures.items)
      (c.join_places.ensures breaks c.args.waiter refl),
)
