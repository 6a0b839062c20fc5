-- Tasks that wait in the driver, from call to call.
use Rattle.std.proofs.Common.{ℕ, ◌≡◌, ◌≢◌, ◌∙◌, inl, inr, ap, sym, refl, subst, Bool, false, List, Some, None}
use Rattle.std.specs.Prelude.{◌==◌, ◌||◌, Option, option_map}
use Rattle.std.proofs.lemmas.Bool.Decides.{eqb_tells}
use Rattle.core_exec.specs.declared.table.Task.{Task}
use Rattle.core_exec.specs.declared.table.Taken.{Taken}
use Rattle.core_exec.specs.declared.visit.Answer.{Answer}
use Rattle.core_exec.specs.declared.visit.Answer.TheVariants.{Done, Pending, Short, Refused}
use Rattle.core_exec.specs.Answers.{IfPends, settled_by}
use Rattle.core_exec.specs.Tasks.{AreSound, AreWaiting, TakesMarked, job_in, mark_of, marked_task}
use Rattle.core_exec.specs.Marks.{has_number, is_late, with_mark, ready_tasks}
use Rattle.core_exec.specs.Exec.{fresh}
use Rattle.core_exec.proofs.Aims.{same_job, some_is}
use Rattle.core_exec.proofs.Counted.{not_some}
use Rattle.core_exec.proofs.Marking.{not_both}
use Rattle.core_exec.proofs.Visiting.{or_parts}

-- A task that has no mark behind one more had none.
unmarked_before : {J : Type 0} (b : Bool) (x : Option (Task J)) → mark_of (option_map (with_mark b) x) ≡ false → mark_of x ≡ false
unmarked_before b None is = refl
unmarked_before b (Some task) is = (or_parts task.marked b is).0

-- A task that isn't ready in a turn has no mark, and isn't named; its job is as before.
pub unmarked_unnamed : {J : Type 0} (now : ℕ) (named : List ℕ) (was : ℕ → Option (Task J)) (t : ℕ) (job : J)
    → mark_of (ready_tasks now named was t) ≡ false → job_in (ready_tasks now named was t) ≡ Some job
    → (mark_of (was t) ≡ false) × ((job_in (was t) ≡ Some job) × (has_number t named ≡ false))
unmarked_unnamed now named was t job unmarked own = by (was t) (has_number t named) (is_late now (was t)) unmarked own
  where
    by : {J : Type 0} (x : Option (Task J)) (a b : Bool) {job : J} → mark_of (option_map (with_mark (a || b)) x) ≡ false
        → job_in (option_map (with_mark (a || b)) x) ≡ Some job → (mark_of x ≡ false) × ((job_in x ≡ Some job) × (a ≡ false))
    by None a b unmarked own = absurd (not_some own)
    by (Some task) a b unmarked own =
        let parts = or_parts task.marked (a || b) unmarked in (parts.0, (own, (or_parts a b parts.1).0))

module _ {D J : Type 0} (waits : D → ℕ → J → Type 0) where
  -- The same tasks wait still.
  pub waiting_same : (old new : D) (was is : ℕ → Option (Task J)) → new ≡ old → ((s : ℕ) → is s ≡ was s) → AreWaiting waits old was
      → AreWaiting waits new is
  waiting_same old new was is driver same waiting t job unmarked own = subst (λ d. waits d t job) (sym driver)
      (waiting t job (sym (ap mark_of (same t)) ∙ unmarked) (sym (ap job_in (same t)) ∙ own))

  -- So do those of which one is woken,
  pub waiting_woken : (t : ℕ) (old new : D) (was is : ℕ → Option (Task J)) → new ≡ old
      → ((s : ℕ) → is s ≡ option_map (with_mark (s == t)) (was s)) → AreWaiting waits old was → AreWaiting waits new is
  waiting_woken t old new was is driver each waiting s job unmarked own = subst (λ d. waits d s job) (sym driver)
      (waiting s job (unmarked_before (s == t) (was s) (sym (ap mark_of (each s)) ∙ unmarked))
      (sym (same_job (s == t) (was s)) ∙ sym (ap job_in (each s)) ∙ own))

  -- the ready tasks of a turn,
  pub waiting_ready : (now : ℕ) (named : List ℕ) (driver : D) (was : ℕ → Option (Task J)) → AreWaiting waits driver was
      → AreWaiting waits driver (ready_tasks now named was)
  waiting_ready now named driver was waiting t job unmarked own =
      waiting t job (unmarked_before (has_number t named || is_late now (was t)) (was t) unmarked)
      (sym (same_job (has_number t named || is_late now (was t)) (was t)) ∙ own)

  -- those with a fresh task,
  pub waiting_spawn : (t : ℕ) (job : J) (deadline : Option ℕ) (old new : D) (was is : ℕ → Option (Task J)) → new ≡ old
      → is t ≡ Some (fresh job deadline) → ((s : ℕ) → s ≢ t → is s ≡ was s) → AreWaiting waits old was → AreWaiting waits new is
  waiting_spawn t job deadline old new was is driver this rest waiting s one unmarked own = elim (eqb_tells s t) [
    | inl e ↦ not_both (sym (subst (λ x. mark_of (is x) ≡ false) e.1 unmarked) ∙ ap mark_of this)
    | inr e ↦ subst (λ d. waits d s one) (sym driver)
        (waiting s one (sym (ap mark_of (rest s e.1)) ∙ unmarked) (sym (ap job_in (rest s e.1)) ∙ own))
  ]

  -- and those of which one is taken out.
  pub waiting_out : (t : ℕ) (old new : D) (was is : ℕ → Option (Task J)) → new ≡ old → is t ≡ None → ((s : ℕ) → s ≢ t → is s ≡ was s)
      → AreWaiting waits old was → AreWaiting waits new is
  waiting_out t old new was is driver gone rest waiting s one unmarked own = elim (eqb_tells s t) [
    | inl e ↦ absurd (not_some (sym (ap job_in gone) ∙ subst (λ x. job_in (is x) ≡ Some one) e.1 own))
    | inr e ↦ subst (λ d. waits d s one) (sym driver)
        (waiting s one (sym (ap mark_of (rest s e.1)) ∙ unmarked) (sym (ap job_in (rest s e.1)) ∙ own))
  ]

  -- What is pending has no mark and waits; what isn't done else is marked.
  settled_waits : {O : Type 0} (driver : D) (t : ℕ) (answer : Answer J O) (canceled late : Bool) (task : Task J) (one : J)
      → IfPends answer (waits driver t) → mark_of (settled_by answer canceled late (Some task)) ≡ false
      → job_in (settled_by answer canceled late (Some task)) ≡ Some one → waits driver t one
  settled_waits driver t (Done out) canceled late task one pends unmarked own = absurd (not_some own)
  settled_waits driver t (Pending next) canceled late task one pends unmarked own =
      subst (waits driver t) (some_is next next one own) pends
  settled_waits driver t (Short next) canceled late task one pends unmarked own = not_both (sym unmarked)
  settled_waits driver t (Refused next) canceled late task one pends unmarked own = not_both (sym unmarked)

  -- Tasks wait behind the visit of one of them.
  pub waiting_visited : {O : Type 0} (fits : D → ℕ → J → Type 0) (apart : J → J → Type 0) (old new : D) (t : ℕ) (late : Bool)
      (taken : Taken J) (answer : Answer J O) (was mid is : ℕ → Option (Task J)) → TakesMarked (was t) (mid t) taken
      → is t ≡ settled_by answer taken.canceled late (mid t) → ((s : ℕ) → s ≢ t → mid s ≡ was s) → ((s : ℕ) → s ≢ t → is s ≡ mid s)
      → IfPends answer (waits new t)
      → ((other : J) (s : ℕ) → fits old s other → apart taken.job other → waits old s other → waits new s other)
      → AreSound fits apart old (λ s. job_in (was s)) → AreWaiting waits old was → AreWaiting waits new is
  waiting_visited fits apart old new t late taken answer was mid is takes this first second pends stays sound waiting s one unmarked own =
      elim (eqb_tells s t) [
        | inl e ↦
            let settled = this ∙ ap (settled_by answer taken.canceled late) takes.without in
            subst (λ x. waits new x one) (sym e.1)
            (settled_waits new t answer taken.canceled late (marked_task None taken.deadline taken.canceled) one pends
            (sym (ap mark_of settled) ∙ subst (λ x. mark_of (is x) ≡ false) e.1 unmarked)
            (sym (ap job_in settled) ∙ subst (λ x. job_in (is x) ≡ Some one) e.1 own))
        | inr e ↦
            let same = second s e.1 ∙ first s e.1 in
            let had = sym (ap job_in same) ∙ own in
            stays one s (sound.all_fit s one had)
            (sound.all_apart t s taken.job one (λ q. e.1 (sym q)) (ap job_in takes.with_it) had)
            (waiting s one (sym (ap mark_of same) ∙ unmarked) had)
      ]
