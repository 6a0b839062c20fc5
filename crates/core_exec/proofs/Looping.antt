-- A turn's loop over the numbers of its list.
use Rattle.std.proofs.Common.{ℕ, suc, ◌≡◌, ◌≢◌, ◌≤◌, ◌<◌, ◌+◌, ◌∙◌, ap, sym, subst, true, false, List, [], ◌∷◌, Some, None, arith}
use Rattle.std.proofs.Common.{length, drop, get_or}
use Rattle.std.proofs.lemmas.List.{append-nil}
use Rattle.std.proofs.Math.Seq.{drop-cons}
use Rattle.std.specs.Prelude.{◌&&◌, Option}
use Rattle.core_exec.specs.declared.table.Task.{Task}
use Rattle.core_exec.specs.declared.visit.Visit.{Visit}
use Rattle.core_exec.specs.declared.visit.Visit.TheVariants.{Done, Pending, Short, Refused}
use Rattle.core_exec.specs.Tasks.{job_in}
use Rattle.core_exec.specs.Marks.{is_late, Covers}
use Rattle.core_exec.specs.Steps.{StepsTask, StepsOutput, with_number, is_polled, is_done, is_stopped, MarksStep}
use Rattle.core_exec.specs.Turns.{Turns, Reaches, AddsOutputs}
use Rattle.core_exec.proofs.Reaching.{Turning, turning_next, turning_stops, outputs_step}

-- The numbers from one on are that one and those behind it.
pub numbers_at : (M : List ℕ) (k t : ℕ) → k < length M → t ≡ get_or M k t → drop k M ≡ t ∷ drop (k + 1) M
numbers_at M k t below at =
    let next : suc k ≡ k + 1 = omega arith in
    drop-cons M k t below ∙ ap (λ x. x ∷ drop (suc k) M) (sym at) ∙ ap (λ j. t ∷ drop j M) next

module _ {J : Type 0} (polls cancels : J → ℕ) (aim : J → List ℕ) (now m k t : ℕ) (M : List ℕ) (was mid is : ℕ → Option (Task J))
    (P C D P' C' D' : List ℕ) (visit : Option Visit) (moment : m ≡ now) (below : k < length M) (at : t ≡ get_or M k t)
    (turning : Turning polls cancels aim now was mid P C D (drop k M)) (step : StepsTask polls cancels aim m (mid t) (is t) visit)
    (rest : (s : ℕ) → s ≢ t → is s ≡ mid s) (polled : P' ≡ with_number (is_polled visit) t P)
    (canceled : C' ≡ with_number (is_polled visit && is_late m (mid t)) t C) (done : D' ≡ with_number (is_done visit) t D) where
  turning_at : Turning polls cancels aim now was mid P C D (t ∷ drop (k + 1) M)
  turning_at = subst (λ R. Turning polls cancels aim now was mid P C D R) (numbers_at M k t below at) turning

  step_now : StepsTask polls cancels aim now (mid t) (is t) visit
  step_now = subst (λ x. StepsTask polls cancels aim x (mid t) (is t) visit) moment step

  canceled_now : with_number (is_polled visit && is_late now (mid t)) t C ≡ C'
  canceled_now = sym (canceled ∙ ap (λ x. with_number (is_polled visit && is_late x (mid t)) t C) moment)

  pub loop_next : is_stopped visit ≡ false → Turning polls cancels aim now was is P' C' D' (drop (k + 1) M)
  loop_next goes =
      subst (λ x. Turning polls cancels aim now was is x C' D' (drop (k + 1) M)) (sym polled)
      (subst (λ x. Turning polls cancels aim now was is (with_number (is_polled visit) t P) x D' (drop (k + 1) M)) canceled_now
      (subst (λ x. Turning polls cancels aim now was is (with_number (is_polled visit) t P) (with_number (is_polled visit && is_late now
      (mid t)) t C) x
      (drop (k + 1) M)) (sym done)
      (turning_next polls cancels aim now t was mid is P C D (drop (k + 1) M) visit turning_at step_now rest goes)))

  pub loop_stops : is_stopped visit ≡ true
      → Turns polls cancels aim now was is P' C' D' (Some t) × Reaches was is P' (Some t) × Covers is (drop k M)
  loop_stops stops =
      let by = turning_stops polls cancels aim now t was mid is P C D (drop (k + 1) M) visit turning_at step_now rest stops in (
        subst (λ x. Turns polls cancels aim now was is x C' D' (Some t)) (sym polled)
            (subst (λ x. Turns polls cancels aim now was is (with_number (is_polled visit) t P) x D' (Some t)) canceled_now
            (subst (λ x. Turns polls cancels aim now was is (with_number (is_polled visit) t P) (with_number
            (is_polled visit && is_late now (mid t)) t C) x
            (Some t)) (sym done) by.0)),
        subst (λ x. Reaches was is x (Some t)) (sym polled) by.1,
        subst (λ R. Covers is R) (sym (numbers_at M k t below at)) by.2,
      )

  pub loop_outputs : {O : Type 0} (meets : List ℕ → O → Type 0) (before between after : List (ℕ × O))
      → AddsOutputs aim meets was D before between
      → StepsOutput aim meets t (job_in (mid t)) between after visit → AddsOutputs aim meets was D' before after
  loop_outputs meets before between after adds out = subst (λ x. AddsOutputs aim meets was x before after) (sym done)
      (outputs_step polls cancels aim meets now t was mid is P C D (drop
      (k + 1) M) before between after visit turning_at step_now rest adds out)

-- No outputs were added before the first step.
pub outputs_none : {J O : Type 0} (aim : J → List ℕ) (meets : List ℕ → O → Type 0) (was : ℕ → Option (Task J)) (D : List ℕ)
    (before : List (ℕ × O))
    → D ≡ [] → AddsOutputs aim meets was D before before
outputs_none aim meets was D before none = record {
  outputs = [];
  added = sym
      (append-nil before);
  numbers = sym none;
  meet = λ k d below. absurd (omega (arith, below));
}

-- One more task at most has no mark behind a step.
pub marks_step : (visit : Option Visit) (were are : ℕ) → MarksStep visit were are → are ≤ were + 1
marks_step None were are step = omega (arith, step)
marks_step (Some Done) were are step = omega (arith, step)
marks_step (Some Pending) were are step = omega (arith, step)
marks_step (Some Short) were are step = omega (arith, step)
marks_step (Some Refused) were are step = omega (arith, step)
