-- What completing a slot does, by its life before.
use Rattle.std.proofs.Common.{◌≡◌, ℕ, true, Some, None, refl, sym, ◌∙◌, ap}
use Rattle.std.specs.Ordering.{nat_cmp}
use Rattle.std.specs.FinMap.{FinMap, get, insert, remove}
use Rattle.op_slots.specs.Lifecycle.{after_complete}
use Rattle.op_slots.specs.declared.lifecycle.AfterComplete.TheVariants.{Kept, Wake, Free}
use Rattle.op_slots.specs.declared.lifecycle.Lifecycle.{Lifecycle}
use Rattle.op_slots.specs.declared.lifecycle.Lifecycle.TheVariants.{Submitted, Waiting, Ignored, Completed}
use Rattle.machine.specs.declared.request.Outcome.{Outcome}
use Rattle.machine.specs.declared.completion.Completion.{Completion}
use Rattle.driver_core.specs.declared.slot.Slot.{Slot}
use Rattle.driver_core.specs.Slot.{with_life, is_flying, flies_in, task_in, slots_completed, named_by, named_if, slots_if, slots_after}
use Rattle.driver_core.specs.Slot.{CompletesSlot}

-- A life that completing keeps has no task that waits.
task-kept : (l : Lifecycle Outcome) → after_complete l ≡ Kept → task_in l ≡ None
task-kept Submitted h = refl
task-kept (Waiting t) h = (let f : ⊥ = cc in absurd f)
task-kept Ignored h = refl
task-kept (Completed r) h = refl

-- A life whose completion wakes a task has that task waiting.
task-wake : (l : Lifecycle Outcome) (task : ℕ) → after_complete l ≡ Wake task → task_in l ≡ Some task
task-wake Submitted task h = (let f : ⊥ = cc in absurd f)
task-wake (Waiting t) task h = (let e : t ≡ task = cc in ap (λ x. Some x) e)
task-wake Ignored task h = (let f : ⊥ = cc in absurd f)
task-wake (Completed r) task h = (let f : ⊥ = cc in absurd f)

-- A life that completing frees has no task that waits.
task-free : (l : Lifecycle Outcome) → after_complete l ≡ Free → task_in l ≡ None
task-free Submitted h = refl
task-free (Waiting t) h = (let f : ⊥ = cc in absurd f)
task-free Ignored h = refl
task-free (Completed r) h = refl

-- A slot that completing keeps is written at its key.
slots-kept : {B : Type 0} (l : Lifecycle Outcome) (m : FinMap nat_cmp (Slot B)) (k : ℕ) (x : Slot B) → after_complete l ≡ Kept →
    slots_completed l m k x ≡ insert m k x
slots-kept Submitted m k x h = refl
slots-kept (Waiting t) m k x h = refl
slots-kept Ignored m k x h = (let f : ⊥ = cc in absurd f)
slots-kept (Completed r) m k x h = refl

-- A slot whose completion wakes a task is written at its key.
slots-wake : {B : Type 0} (l : Lifecycle Outcome) (m : FinMap nat_cmp (Slot B)) (k : ℕ) (x : Slot B) (task : ℕ) →
    after_complete l ≡ Wake task → slots_completed l m k x ≡ insert m k x
slots-wake Submitted m k x task h = refl
slots-wake (Waiting t) m k x task h = refl
slots-wake Ignored m k x task h = (let f : ⊥ = cc in absurd f)
slots-wake (Completed r) m k x task h = refl

-- A slot that completing frees is removed after it is written.
slots-free : {B : Type 0} (l : Lifecycle Outcome) (m : FinMap nat_cmp (Slot B)) (k : ℕ) (x : Slot B) → after_complete l ≡ Free →
    slots_completed l m k x ≡ remove (insert m k x) k
slots-free Submitted m k x h = (let f : ⊥ = cc in absurd f)
slots-free (Waiting t) m k x h = (let f : ⊥ = cc in absurd f)
slots-free Ignored m k x h = refl
slots-free (Completed r) m k x h = (let f : ⊥ = cc in absurd f)

-- A completion of a slot in flight.
module _ {B : Type 0} (m : FinMap nat_cmp (Slot B)) (c : Completion) (s : Slot B) (there : get m c.word ≡ Some s)
    (flies : flies_in (get m c.word) ≡ true) where
  flying : is_flying s.life ≡ true
  flying = ap flies_in (sym there) ∙ flies

  -- It names the slot's number, and the task that waits.
  pub named-flying : named_by (get m c.word) ≡ Some (s.serial, task_in s.life)
  named-flying = ap named_by there ∙ ap (λ b. named_if b s) flying

  -- It completes the slot by its life.
  pub slots-flying : slots_after m c (get m c.word) ≡ slots_completed s.life m c.word (with_life s (Completed c.outcome))
  slots-flying = ap (slots_after m c) there ∙ ap (λ b. slots_if b m c s) flying

-- What completing a slot in flight leaves and answers, by what becomes of its life.
module _ {B : Type 0} (m : FinMap nat_cmp (Slot B)) (c : Completion) (s : Slot B) (life : Lifecycle Outcome) (there : get m c.word ≡ Some s)
    (completed : life ≡ Completed c.outcome) (flies : flies_in (get m c.word) ≡ true) where
  pub completes-kept : after_complete s.life ≡ Kept → CompletesSlot m c (insert m c.word (record s { life = life })) (Some (s.serial, None))
  completes-kept h = record {
    slots =
        ap (λ l. insert m c.word (with_life s l)) completed ∙ sym (slots-kept s.life m c.word (with_life s (Completed c.outcome)) h)
        ∙ sym (slots-flying m c s there flies);
    answer = ap (λ t. Some (s.serial, t)) (sym (task-kept s.life h)) ∙ sym (named-flying m c s there flies);
  }

  pub completes-wake : (task : ℕ) → after_complete s.life ≡ Wake task →
      CompletesSlot m c (insert m c.word (record s { life = life })) (Some (s.serial, Some task))
  completes-wake task h = record {
    slots =
        ap (λ l. insert m c.word (with_life s l)) completed ∙ sym (slots-wake s.life m c.word (with_life s (Completed c.outcome)) task h)
        ∙ sym (slots-flying m c s there flies);
    answer = ap (λ t. Some (s.serial, t)) (sym (task-wake s.life task h)) ∙ sym (named-flying m c s there flies);
  }

  pub completes-free : (new : FinMap nat_cmp (Slot B)) → after_complete s.life ≡ Free →
      new ≡ remove (insert m c.word (record s { life = life })) c.word → CompletesSlot m c new (Some (s.serial, None))
  completes-free new h gone = record {
    slots =
        gone ∙ ap (λ l. remove (insert m c.word (with_life s l)) c.word) completed
        ∙ sym (slots-free s.life m c.word (with_life s (Completed c.outcome)) h) ∙ sym (slots-flying m c s there flies);
    answer = ap (λ t. Some (s.serial, t)) (sym (task-free s.life h)) ∙ sym (named-flying m c s there flies);
  }
