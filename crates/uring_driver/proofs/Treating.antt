-- What treating one completion does to slots, to who holds each handle, and to what holds of every driver.
use Rattle.std.proofs.Common.{◌≡◌, ℕ, ◌+◌, ◌≤◌, Bool, true, false, [], ◌∷◌, ◌++◌, Option, Some, None, refl, sym, ◌∙◌, ap}
use Rattle.std.proofs.Common.{subst, arith}
use Rattle.std.specs.Prelude.{option_to_list}
use Rattle.std.specs.Ordering.{nat_cmp}
use Rattle.std.specs.FinMap.{FinMap, get}
use Rattle.machine.specs.declared.completion.Completion.{Completion}
use Rattle.ring_core.specs.Ring.{RingView}
use Rattle.driver_core.specs.declared.slot.Slot.{Slot}
use Rattle.driver_core.specs.Slot.{CompletesSlot, KeepsNumbers, is_flying, named_by, named_if, slots_if, slots_after}
use Rattle.uring_driver.specs.declared.uring.turn.Named.{Named}
use Rattle.uring_driver.specs.Holding.{Holding}
use Rattle.uring_driver.specs.Pending.{Pending}
use Rattle.uring_driver.specs.State.{IsSound}
use Rattle.uring_driver.specs.Reap.{HasRoom, is_refused, holding_after, closes_after, named_unless, names_in, treats_slot}
use Rattle.uring_driver.specs.Reaps.{Treats, PostsAll}
use Rattle.uring_driver.proofs.Sound.{sound-keeps}

-- The room that is left once closes were posted is enough for the rest, where no more handles are held or may be made.
pub sound-treated : {B : Type 0} (room room' handles handles' used : ℕ) (slots slots' : FinMap nat_cmp (Slot B)) →
    IsSound room slots handles → KeepsNumbers slots slots' → room' + used ≡ room → handles' + used ≤ handles → IsSound room' slots' handles'
sound-treated room room' handles handles' used slots slots' sound keeps less few =
    sound-keeps room room' slots slots' handles handles' sound (omega (arith, less, few)) keeps

-- A completion of a slot that isn't in flight changes none.
pub slots-stray : {B : Type 0} (slots slots' : FinMap nat_cmp (Slot B)) (c : Completion) (result : Option (ℕ × Option ℕ)) →
    CompletesSlot slots c slots' result → result ≡ None → slots' ≡ slots
slots-stray {B} slots slots' c result completes none =
    completes.slots ∙ of_slot (get slots c.word) (sym completes.answer ∙ none)
  where
    by_flight : (b : Bool) (s : Slot B) → named_if b s ≡ None → slots_if b slots c s ≡ slots
    by_flight true s h = (let f : ⊥ = cc in absurd f)
    by_flight false s h = refl

    of_slot : (x : Option (Slot B)) → named_by x ≡ None → slots_after slots c x ≡ slots
    of_slot None h = refl
    of_slot (Some s) h = by_flight (is_flying s.life) s h

-- A completion of a slot that isn't refused comes to this.
pub treats-flying : {B : Type 0} (slots : FinMap nat_cmp (Slot B)) (holding : Holding) (c : Completion) (who : ℕ × Option ℕ) →
    is_refused holding c.outcome (get slots c.word) ≡ false → named_by (get slots c.word) ≡ Some who →
    treats_slot (names_in holding c.outcome (get slots c.word)) slots holding c ≡ treats_slot (Some who) slots holding c
treats-flying slots holding c who takes flies =
    ap (λ b. treats_slot (named_unless b (named_by (get slots c.word))) slots holding c) takes
    ∙ ap (λ x. treats_slot x slots holding c) flies

-- So it was treated, by what the slot's completion told.
pub treats-completed : {B : Type 0} (slots slots' : FinMap nat_cmp (Slot B)) (holding holding' : Holding) (c : Completion) (number : ℕ)
    (task : Option ℕ) (before after : Named) (result : Option (ℕ × Option ℕ)) → is_refused holding c.outcome (get slots c.word) ≡ false →
    CompletesSlot slots c slots' result → result ≡ Some (number, task) →
    holding' ≡ holding_after holding c.outcome (get slots c.word) → after.reaped.items ≡ before.reaped.items ++ number ∷ [] →
    after.closed ≡ before.closed → after.woken.items ≡ before.woken.items ++ option_to_list task →
    before.closed.items ++ [] ≡ before.closed.items →
    Treats (treats_slot (names_in holding c.outcome (get slots c.word)) slots holding c) slots' holding' before after None
treats-completed slots slots' holding holding' c number task before after result takes completes some ended reaped closed woken none =
    let is = treats-flying slots holding c (number, task) takes (sym completes.answer ∙ some) in
    subst (λ all. Treats all slots' holding' before after None) (sym is)
    (record {
      slots = sym completes.slots;
      holding = sym ended;
      reaped = reaped;
      closed = ap (λ v. v.items) closed ∙ sym none;
      woken = woken;
      bad = refl;
      left = refl;
    })

-- The closes that it queued were posted.
pub posts-completed : {R B : Type 0} (view : R → RingView) (tells steady : Bool) (old new : Pending R) (slots : FinMap nat_cmp (Slot B))
    (holding : Holding) (c : Completion) (who : ℕ × Option ℕ) → is_refused holding c.outcome (get slots c.word) ≡ false →
    named_by (get slots c.word) ≡ Some who →
    PostsAll view tells steady old new (closes_after holding c.outcome (get slots c.word)) →
    PostsAll view tells steady old new (treats_slot (names_in holding c.outcome (get slots c.word)) slots holding c).queued
posts-completed view tells steady old new slots holding c who takes flies posts =
    subst (λ hs. PostsAll view tells steady old new hs)
    (sym (ap (λ all. all.queued) (treats-flying slots holding c who takes flies))) posts

-- There is room for fewer numbers.
pub room-fewer : (named : Named) (m n : ℕ) → HasRoom named m → n ≤ m → HasRoom named n
room-fewer named m n room fewer = record {
  reaped = (let a = room.reaped in omega (arith, a, fewer));
  closed = (let a = room.closed in omega (arith, a, fewer));
  woken = (let a = room.woken in omega (arith, a, fewer));
}
