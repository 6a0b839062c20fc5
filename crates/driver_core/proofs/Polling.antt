-- What a poll and a drop do to a live slot, by its life before.
use Rattle.std.proofs.Common.{◌≡◌, ℕ, true, false, Option, Some, None, refl, sym, ◌∙◌, ap, subst}
use Rattle.std.specs.Prelude.{IsSome, IfSome}
use Rattle.std.specs.Ordering.{nat_cmp}
use Rattle.std.specs.FinMap.{FinMap, get, insert, remove}
use Rattle.rent_buf.specs.Buffer.{Buffer}
use Rattle.rent_buf.specs.Parts.{Parts}
use Rattle.op_slots.specs.declared.lifecycle.AfterDrop.{AfterDrop}
use Rattle.op_slots.specs.declared.lifecycle.AfterDrop.TheVariants.{Left, Free}
use Rattle.op_slots.specs.declared.lifecycle.AfterPoll.{AfterPoll}
use Rattle.op_slots.specs.declared.lifecycle.AfterPoll.TheVariants.{Pending, Take}
use Rattle.op_slots.specs.declared.lifecycle.Lifecycle.{Lifecycle}
use Rattle.op_slots.specs.declared.lifecycle.Lifecycle.TheVariants.{Submitted, Waiting, Ignored, Completed}
use Rattle.op_slots.specs.Lifecycle.{after_poll, polled, after_drop, dropped, IsCompleted}
use Rattle.machine.specs.declared.request.Outcome.{Outcome}
use Rattle.machine.specs.declared.request.Request.{Request}
use Rattle.driver_core.specs.declared.op.Done.{Done}
use Rattle.driver_core.specs.declared.operations.calls.CallAnswer.{CallAnswer}
use Rattle.driver_core.specs.declared.slot.Slot.{Slot}
use Rattle.driver_core.specs.Calls.{CallsSlot}
use Rattle.driver_core.specs.Slot.{with_life, is_flying, PollsSlot, PollsThis, PollsAt, EndsSlot, DropsSlot, DropsThis, DropsAt}
use Rattle.driver_core.proofs.Lists.{some}
use Rattle.driver_core.proofs.Maps.{put-same, remove-put}

-- A slot whose poll is pending is in flight.
flies-waits : (l : Lifecycle Outcome) → after_poll l ≡ Pending → is_flying l ≡ true
flies-waits Submitted e = refl
flies-waits (Waiting t) e = refl
flies-waits Ignored e = refl
flies-waits (Completed r) e = cc

-- What is polled in flight is in flight.
pub polled-flies : (life : Lifecycle Outcome) (task : ℕ) → is_flying life ≡ true → is_flying (polled life task) ≡ true
polled-flies Submitted task flies = refl
polled-flies (Waiting earlier) task flies = refl
polled-flies Ignored task flies = refl
polled-flies (Completed outcome) task flies = flies

-- A poll that takes an outcome leaves the life as it was.
polled-take : (l : Lifecycle Outcome) (task : ℕ) → after_poll l ≡ Take → polled l task ≡ l
polled-take Submitted task e = cc
polled-take (Waiting t) task e = cc
polled-take Ignored task e = cc
polled-take (Completed r) task e = refl

-- A slot whose outcome a poll takes is completed.
completed-take : (l : Lifecycle Outcome) (task : ℕ) → after_poll l ≡ Take → IsCompleted (polled l task)
completed-take Submitted task e = let f : ⊥ = cc in absurd f
completed-take (Waiting t) task e = let f : ⊥ = cc in absurd f
completed-take Ignored task e = let f : ⊥ = cc in absurd f
completed-take (Completed r) task e = tt

module _ {B : Type 0} (old : FinMap nat_cmp (Slot B)) (key task : ℕ) (mid : FinMap nat_cmp (Slot B)) (answer : AfterPoll)
    (p : PollsSlot old key task mid answer) where
  polled-slot : get mid key ≡ Some (with_life p.slot (polled p.slot.life task))
  polled-slot = ap (λ m. get m key) p.slots ∙ put-same old key (with_life p.slot (polled p.slot.life task))

  here : (s : Slot B) → get old key ≡ Some s → p.slot ≡ s
  here s there = some p.slot s (get old key) p.there there

  pub polled-live : IsSome (get mid key)
  polled-live = subst (λ o. IsSome o) (sym polled-slot) refl

  pub polled-completed : answer ≡ Take → IfSome (get mid key) (λ s. IsCompleted s.life)
  polled-completed takes =
      subst (λ (o : Option (Slot B)). IfSome o (λ s. IsCompleted s.life)) (sym polled-slot)
      (completed-take p.slot.life task (sym p.answers ∙ takes))

  pub polls-none : answer ≡ Pending → PollsAt old key task mid None
  polls-none waits =
      λ s there. subst (λ x. PollsThis old key task mid x None) (here s there) (flies-waits p.slot.life (sym p.answers ∙ waits), p.slots)

  pub polls-some : (new : FinMap nat_cmp (Slot B)) (done : Done B) → answer ≡ Take →
      IfSome (get mid key) (λ s. (s.request ≡ done.request) × (s.life ≡ Completed done.outcome)) → new ≡ remove mid key →
      PollsAt old key task new (Some done)
  polls-some new done takes told gone = λ s there. subst (λ x. PollsThis old key task new x (Some done)) (here s there) (
      let is =
      subst (λ (o : Option (Slot B)). IfSome o (λ s. (s.request ≡ done.request) × (s.life ≡ Completed done.outcome))) polled-slot told in (
        sym (polled-take p.slot.life task (sym p.answers ∙ takes)) ∙ is.1,
        sym is.0,
        gone ∙ ap (λ m. remove m key) p.slots ∙ remove-put old key (with_life p.slot (polled p.slot.life task)),
      ))

-- What comes out of a slot that is taken out is its own.
pub taken-ends : {B : Type 0} (old new : FinMap nat_cmp (Slot B)) (key : ℕ) (outcome : Outcome) (slot : Slot B) →
    Some slot ≡ get old key → new ≡ remove old key → EndsSlot old key outcome new (record { outcome = outcome; request = slot.request })
taken-ends old new key outcome slot is gone =
    λ s there. (refl, ap (λ (x : Slot _). x.request) (some slot s (get old key) (sym is) there), gone)

-- A slot that is left is ignored.
pub ignored-left : (l : Lifecycle Outcome) → after_drop l ≡ Left → dropped l ≡ Ignored
ignored-left Submitted h = refl
ignored-left (Waiting t) h = refl
ignored-left Ignored h = refl
ignored-left (Completed r) h = cc

-- A slot that a drop leaves is in flight.
flies-left : (l : Lifecycle Outcome) → after_drop l ≡ Left → is_flying l ≡ true
flies-left Submitted h = refl
flies-left (Waiting task) h = refl
flies-left Ignored h = refl
flies-left (Completed r) h = cc

-- A slot that a drop frees isn't in flight.
flies-free : (l : Lifecycle Outcome) → after_drop l ≡ Free → is_flying l ≡ false
flies-free Submitted h = cc
flies-free (Waiting task) h = cc
flies-free Ignored h = cc
flies-free (Completed r) h = refl

module _ {B : Type 0} (old : FinMap nat_cmp (Slot B)) (key : ℕ) (mid : FinMap nat_cmp (Slot B)) (answer : AfterDrop)
    (p : DropsSlot old key mid answer) where
  pub drops-left : answer ≡ Left → DropsAt old key mid Left
  drops-left left = λ s there. subst (λ x. DropsThis old key mid x Left) (some p.slot s (get old key) p.there there) (
    flies-left p.slot.life (sym p.answers ∙ left),
    p.slots ∙ ap (λ l. insert old key (with_life p.slot l)) (ignored-left p.slot.life (sym p.answers ∙ left)),
  )

  pub drops-freed : (new : FinMap nat_cmp (Slot B)) → answer ≡ Free → new ≡ remove mid key → DropsAt old key new Free
  drops-freed new free gone = λ s there. subst (λ x. DropsThis old key new x Free) (some p.slot s (get old key) p.there there) (
    flies-free p.slot.life (sym p.answers ∙ free),
    gone ∙ ap (λ m. remove m key) p.slots ∙ remove-put old key (with_life p.slot (dropped p.slot.life)),
  )

-- The slot of an operation that was called is the one after the call.
pub called-now : {B C : Type 0} {buffer : B → Buffer} {called : C → Request Buffer Parts → C → Request Buffer Parts → CallAnswer → Type 0}
    {old : FinMap nat_cmp (Slot B)} {key : ℕ} {before : C} {new : FinMap nat_cmp (Slot B)} {after : C} {answer : CallAnswer}
    (calls : CallsSlot buffer called old key before new after answer) → get new key ≡ Some calls.now
called-now {old = old} {key = key} calls = ap (λ m. get m key) calls.slots ∙ put-same old key calls.now
