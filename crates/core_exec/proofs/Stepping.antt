-- A marked task's part of a turn, and the deadlines behind it.
use Rattle.std.proofs.Common.{ℕ, ◌≡◌, ◌≢◌, ◌≤◌, ◌∙◌, ◌⊎◌, inl, inr, ap, sym, refl, subst, Bool, true, false, List, Some}
use Rattle.std.specs.Prelude.{Option, IsSome}
use Rattle.std.proofs.lemmas.Bool.Decides.{eqb_tells}
use Rattle.core_exec.specs.declared.table.Task.{Task}
use Rattle.core_exec.specs.declared.visit.Visit.{Visit}
use Rattle.core_exec.specs.declared.visit.Visit.TheVariants.{Done, Pending, Short, Refused}
use Rattle.core_exec.specs.declared.deadlines.Deadlines.{Deadlines}
use Rattle.core_exec.specs.Tasks.{job_in, mark_of, canceled_of, deadline_of, HaveJobs}
use Rattle.core_exec.specs.Deadlines.{is_set, KeepsSet}
use Rattle.core_exec.specs.Marks.{is_late, AreSet}
use Rattle.core_exec.specs.Visits.{VisitsTask}
use Rattle.core_exec.specs.Steps.{StepsTask, ends_at}
use Rattle.core_exec.proofs.Late.{is_late_by}
use Rattle.core_exec.proofs.Marking.{not_both}
use Rattle.core_exec.proofs.Counted.{not_some}
use Rattle.core_exec.proofs.Visiting.{or_parts}

module _ {J : Type 0} where
  -- What a visit leaves of a task that wasn't canceled: it wasn't late, and has its deadline still.
  kept_by_visit : (polls cancels : J → ℕ) (aim : J → List ℕ) (late : Bool) (was is : Option (Task J)) (visit : Visit) (d : ℕ)
      → VisitsTask polls cancels aim late was is visit → canceled_of is ≡ false → deadline_of is ≡ Some d
      → (canceled_of was ≡ false) × (deadline_of was ≡ Some d) × (ends_at visit ≡ false) × ((late ≡ false) ⊎ (is ≡ was))
  kept_by_visit polls cancels aim late was is Done d by canceled has = absurd (not_some (sym (ap deadline_of by) ∙ has))
  kept_by_visit polls cancels aim late was is Pending d by canceled has =
      let parts = or_parts (canceled_of was) late (sym by.0.canceled ∙ canceled) in
      (parts.0, sym by.0.same_deadline ∙ has, refl, inl parts.1)
  kept_by_visit polls cancels aim late was is Short d by canceled has =
      let parts = or_parts (canceled_of was) late (sym by.0.canceled ∙ canceled) in
      (parts.0, sym by.0.same_deadline ∙ has, refl, inl parts.1)
  kept_by_visit polls cancels aim late was is Refused d by canceled has =
      (sym (ap canceled_of by.0) ∙ canceled, sym (ap deadline_of by.0) ∙ has, refl, inr by.0)

  -- The deadlines that are set behind a visit.
  set_behind_visit : (polls cancels : J → ℕ) (aim : J → List ℕ) (now t : ℕ) (old new : ℕ → Option (Task J))
      (before after : Deadlines) (visit : Visit)
      → VisitsTask polls cancels aim (is_late now (old t)) (old t) (new t) visit → AreSet now old before
      → ((s : ℕ) → s ≢ t → new s ≡ old s) → ((d s : ℕ) → s ≢ t → is_set before d s ≡ true → is_set after d s ≡ true)
      → (ends_at visit ≡ false → KeepsSet before after) → AreSet now new after
  set_behind_visit polls cancels aim now t old new before after visit by set rest others stays = λ s d canceled has. elim (eqb_tells s t) [
    | inl e ↦
        let kept = kept_by_visit polls cancels aim (is_late now (old t)) (old t) (new t) visit d by
        (subst (λ x. canceled_of (new x) ≡ false) e.1 canceled) (subst (λ x. deadline_of (new x) ≡ Some d) e.1 has) in
        subst (λ x. (is_set after d x ≡ true) ⊎ ((mark_of (new x) ≡ true) × (d ≤ now))) (sym e.1)
        (elim (set t d kept.0 kept.1) [
          | inl is ↦ inl (stays kept.2 d t is)
          | inr is ↦ elim kept.3 [
            | inl early ↦ not_both (sym early ∙ is_late_by now d (old t) kept.0 kept.1 is.1)
            | inr same ↦ inr (ap mark_of same ∙ is.0, is.1)
          ]
        ])
    | inr e ↦ elim (set s d (sym (ap canceled_of (rest s e.1)) ∙ canceled) (sym (ap deadline_of (rest s e.1)) ∙ has)) [
      | inl is ↦ inl (others d s e.1 is)
      | inr is ↦ inr (ap mark_of (rest s e.1) ∙ is.0, is.1)
    ]
  ]

  -- A task that a visit leaves has its job.
  there_after : (polls cancels : J → ℕ) (aim : J → List ℕ) (late : Bool) (was is : Option (Task J)) (visit : Visit)
      → VisitsTask polls cancels aim late was is visit → (IsSome was → IsSome (job_in was)) → IsSome is → IsSome (job_in is)
  there_after polls cancels aim late was is Done by had there = not_both (subst (λ x. IsSome x) by there)
  there_after polls cancels aim late was is Pending by had there = by.0.there
  there_after polls cancels aim late was is Short by had there = by.0.there
  there_after polls cancels aim late was is Refused by had there = subst (λ x. IsSome (job_in x)) (sym by.0) (had (subst
      (λ x. IsSome x) by.0 there))

  -- Each task has its job behind a visit.
  jobs_behind_visit : (polls cancels : J → ℕ) (aim : J → List ℕ) (late : Bool) (t : ℕ) (old new : ℕ → Option (Task J)) (visit : Visit)
      → VisitsTask polls cancels aim late (old t) (new t) visit → HaveJobs old → ((s : ℕ) → s ≢ t → new s ≡ old s) → HaveJobs new
  jobs_behind_visit polls cancels aim late t old new visit by have rest = record {
    has_job = λ s there. elim (eqb_tells s t) [
      | inl e ↦ subst (λ x. IsSome (job_in (new x))) (sym e.1)
          (there_after polls cancels aim late (old t) (new t) visit by (have.has_job t) (subst (λ x. IsSome (new x)) e.1 there))
      | inr e ↦ subst (λ x. IsSome (job_in x)) (sym (rest s e.1)) (have.has_job s (subst (λ x. IsSome x) (rest s e.1) there))
    ];
  }

  -- The same where the task was ready, as its step says.
  pub set_behind_step : (polls cancels : J → ℕ) (aim : J → List ℕ) (now t : ℕ) (old new : ℕ → Option (Task J))
      (before after : Deadlines) (visit : Visit)
      → StepsTask polls cancels aim now (old t) (new t) (Some visit) → AreSet now old before
      → ((s : ℕ) → s ≢ t → new s ≡ old s) → ((d s : ℕ) → s ≢ t → is_set before d s ≡ true → is_set after d s ≡ true)
      → (ends_at visit ≡ false → KeepsSet before after) → AreSet now new after
  set_behind_step polls cancels aim now t old new before after visit by =
      set_behind_visit polls cancels aim now t old new before after visit by.1

  pub jobs_behind_step : (polls cancels : J → ℕ) (aim : J → List ℕ) (now t : ℕ) (old new : ℕ → Option (Task J)) (visit : Visit)
      → StepsTask polls cancels aim now (old t) (new t) (Some visit) → HaveJobs old → ((s : ℕ) → s ≢ t → new s ≡ old s) → HaveJobs new
  jobs_behind_step polls cancels aim now t old new visit by =
      jobs_behind_visit polls cancels aim (is_late now (old t)) t old new visit by.1
