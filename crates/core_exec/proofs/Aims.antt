-- Aims and soundness, from call to call.
use Rattle.std.proofs.Common.{ℕ, ◌≡◌, ◌≢◌, ◌∙◌, inl, inr, ap, sym, refl, subst, Bool, true, false, List, Some, None, get_or}
use Rattle.std.specs.Prelude.{◌==◌, Option, option_map, IsSome}
use Rattle.std.specs.List.{All}
use Rattle.std.proofs.lemmas.Bool.Decides.{eqb_tells}
use Rattle.std.proofs.lemmas.List.Elements.{All-append}
use Rattle.core_exec.specs.declared.table.Task.{Task}
use Rattle.core_exec.specs.Tasks.{AreSound, job_in, aim_in}
use Rattle.core_exec.specs.Marks.{has_number, with_mark, ready_tasks}
use Rattle.core_exec.specs.Turns.{Turns, AddsOutputs}
use Rattle.core_exec.specs.Exec.{HasAims, fresh}
use Rattle.core_exec.proofs.Counted.{not_some}
use Rattle.core_exec.proofs.Marking.{not_both}
use Rattle.core_exec.proofs.Reaching.{there_marked}

-- No task is there where there is none.
none_gone : {X A : Type 0} (x : Option X) → x ≡ None → IsSome x → A
none_gone x e there = not_both (subst (λ z. IsSome z) e there)

-- A value is one.
pub some_is : {X : Type 0} (d x y : X) → ◌≡◌ {A = Option X} (Some x) (Some y) → x ≡ y
some_is {X} d x y e = ap (λ (o : Option X). elim o as (λ _. X) [ None ↦ d | Some z ↦ z ]) e

module _ {J : Type 0} where
  -- A mark leaves the job.
  pub same_job : (b : Bool) (x : Option (Task J)) → job_in (option_map (with_mark b) x) ≡ job_in x
  same_job b None = refl
  same_job b (Some task) = refl

  there_before : (b : Bool) (x : Option (Task J)) → IsSome (option_map (with_mark b) x) → IsSome x
  there_before b None there = there
  there_before b (Some task) there = refl

module _ {J O : Type 0} (aim : J → List ℕ) (meets : List ℕ → O → Type 0) (aims : ℕ → List ℕ) where
  -- The ready tasks have the aims.
  pub aims_ready : (now : ℕ) (named : List ℕ) (old : ℕ → Option (Task J)) (outputs : List (ℕ × O)) → HasAims aim meets aims old outputs
      → HasAims aim meets aims (ready_tasks now named old) outputs
  aims_ready now named old outputs has = record {
    of_jobs = λ t there. ap (aim_in aim) (same_job _ (old t)) ∙ has.of_jobs t (there_before _ (old t) there);
    of_outputs = has.of_outputs;
  }

  -- So have tasks of which one is woken.
  pub aims_woken : (t : ℕ) (old new : ℕ → Option (Task J)) (before after : List (ℕ × O))
      → ((s : ℕ) → new s ≡ option_map (with_mark (s == t)) (old s)) → after ≡ before → HasAims aim meets aims old before
      → HasAims aim meets aims new after
  aims_woken t old new before after each outputs has = record {
    of_jobs = λ s there. ap (λ x. aim_in aim (job_in x)) (each s) ∙ ap (aim_in aim) (same_job (s == t) (old s))
        ∙ has.of_jobs s (there_before (s == t) (old s) (subst (λ x. IsSome x) (each s) there));
    of_outputs = subst (λ x. All (λ o. meets (aims o.0) o.1) x) (sym outputs) has.of_outputs;
  }

  -- Tasks and outputs that are the same have the same aims.
  pub aims_same : (old new : ℕ → Option (Task J)) (before after : List (ℕ × O)) → ((s : ℕ) → new s ≡ old s) → after ≡ before
      → HasAims aim meets aims old before → HasAims aim meets aims new after
  aims_same old new before after tasks outputs has = record {
    of_jobs = λ t there. ap (λ x. aim_in aim (job_in x)) (tasks t) ∙ has.of_jobs t (subst (λ x. IsSome x) (tasks t) there);
    of_outputs = subst (λ x. All (λ o. meets (aims o.0) o.1) x) (sym outputs) has.of_outputs;
  }

  -- A turn keeps the aims.
  pub aims_turn : (polls cancels : J → ℕ) (now : ℕ) (was is : ℕ → Option (Task J)) (P C D : List ℕ) (stopped : Option ℕ)
      (before after : List (ℕ × O))
      → Turns polls cancels aim now was is P C D stopped → AddsOutputs aim meets was D before after → HasAims aim meets aims was before
      → HasAims aim meets aims is after
  aims_turn polls cancels now was is P C D stopped before after turns adds has = record {
    of_jobs = λ t there. elim (has_number t P) as (λ b. has_number t P ≡ b → aim_in aim (job_in (is t)) ≡ aims t) [
      | true ↦ λ polled. (turns.went t polled there).same_aim ∙ has.of_jobs t (there_marked (was t) (turns.ready t polled))
      | false ↦ λ out. ap (λ x. aim_in aim (job_in x)) (turns.left t out) ∙ has.of_jobs t (subst (λ x. IsSome x) (turns.left t out) there)
    ] refl;
    of_outputs = subst (λ x. All (λ o. meets (aims o.0) o.1) x) (sym adds.added)
        (All-append (λ o. meets (aims o.0) o.1) before adds.outputs has.of_outputs
        (λ k d below. subst (λ a. meets a (get_or adds.outputs k d).1) (has.of_jobs (get_or adds.outputs k d).0 (adds.meet k d below).0)
        (adds.meet k d below).1));
  }

  -- A spawn of a job of its number's aim keeps the aims.
  pub aims_spawn : (old new : ℕ → Option (Task J)) (before after : List (ℕ × O)) (t : ℕ) (job : J) (deadline : Option ℕ)
      → new t ≡ Some (fresh job deadline) → ((s : ℕ) → s ≢ t → new s ≡ old s) → after ≡ before → aims t ≡ aim job
      → HasAims aim meets aims old before → HasAims aim meets aims new after
  aims_spawn old new before after t job deadline this rest outputs own has = record {
    of_jobs = λ s there. elim (eqb_tells s t) [
      | inl e ↦ subst (λ x. aim_in aim (job_in (new x)) ≡ aims x) (sym e.1) (ap (λ x. aim_in aim (job_in x)) this ∙ sym own)
      | inr e ↦ ap (λ x. aim_in aim (job_in x)) (rest s e.1) ∙ has.of_jobs s (subst (λ x. IsSome x) (rest s e.1) there)
    ];
    of_outputs = subst (λ x. All (λ o. meets (aims o.0) o.1) x) (sym outputs) has.of_outputs;
  }

  -- So does a task that is taken out.
  pub aims_out : (old new : ℕ → Option (Task J)) (before after : List (ℕ × O)) (t : ℕ) → new t ≡ None → ((s : ℕ) → s ≢ t → new s ≡ old s)
      → after ≡ before → HasAims aim meets aims old before → HasAims aim meets aims new after
  aims_out old new before after t gone rest outputs has = record {
    of_jobs = λ s there. elim (eqb_tells s t) [
      | inl e ↦ none_gone (new t) gone (subst (λ x. IsSome (new x)) e.1 there)
      | inr e ↦ ap (λ x. aim_in aim (job_in x)) (rest s e.1) ∙ has.of_jobs s (subst (λ x. IsSome x) (rest s e.1) there)
    ];
    of_outputs = subst (λ x. All (λ o. meets (aims o.0) o.1) x) (sym outputs) has.of_outputs;
  }

module _ {D J : Type 0} (fits : D → ℕ → J → Type 0) (apart : J → J → Type 0) (driver : D) where
  -- The same jobs are as sound.
  pub sound_same : (old new : ℕ → Option (Task J)) → ((s : ℕ) → new s ≡ old s) → AreSound fits apart driver (λ s. job_in (old s))
      → AreSound fits apart driver (λ s. job_in (new s))
  sound_same old new same sound = record {
    all_fit = λ t job is. sound.all_fit t job (sym (ap job_in (same t)) ∙ is);
    all_apart = λ s t one other differ is are. sound.all_apart s t one other differ (sym (ap job_in (same s)) ∙ is) (sym (ap job_in
        (same t)) ∙ are);
  }

  -- So are those of which one is woken.
  pub sound_woken : (t : ℕ) (old new : ℕ → Option (Task J)) → ((s : ℕ) → new s ≡ option_map (with_mark (s == t)) (old s))
      → AreSound fits apart driver (λ s. job_in (old s)) → AreSound fits apart driver (λ s. job_in (new s))
  sound_woken t old new each sound =
      let jobs : (s : ℕ) → job_in (new s) ≡ job_in (old s) = λ s. ap job_in (each s) ∙ same_job (s == t) (old s) in
      record {
        all_fit = λ s job is. sound.all_fit s job (sym (jobs s) ∙ is);
        all_apart = λ s r one other differ is are. sound.all_apart s r one other differ (sym (jobs s) ∙ is) (sym (jobs r) ∙ are);
      }

  -- So they are with one more that fits and has no operation.
  pub sound_spawn : (old new : ℕ → Option (Task J)) (t : ℕ) (job : J) (deadline : Option ℕ) → new t ≡ Some (fresh job deadline)
      → ((s : ℕ) → s ≢ t → new s ≡ old s) → fits driver t job → ((other : J) → apart job other) → ((one other : J) → apart one other
      → apart other one)
      → AreSound fits apart driver (λ s. job_in (old s)) → AreSound fits apart driver (λ s. job_in (new s))
  sound_spawn old new t job deadline this rest fit idle both sound = record {
    all_fit = λ s one is. elim (eqb_tells s t) [
      | inl e ↦ subst (λ x. fits driver x one) (sym e.1)
          (subst (fits driver t) (some_is job job one (sym (ap job_in this) ∙ subst (λ x. job_in (new x) ≡ Some one) e.1 is)) fit)
      | inr e ↦ sound.all_fit s one (sym (ap job_in (rest s e.1)) ∙ is)
    ];
    all_apart = λ r s one other differ is are. elim (eqb_tells r t) [
      | inl e ↦ subst (λ x. apart x other) (some_is job job one (sym (ap job_in this) ∙ subst (λ x. job_in (new x) ≡ Some one) e.1 is))
          (idle other)
      | inr e ↦ elim (eqb_tells s t) [
        | inl f ↦ both other one (subst (λ x. apart x one) (some_is job job other (sym (ap job_in this) ∙ subst (λ x. job_in
            (new x) ≡ Some other) f.1 are)) (idle one))
        | inr f ↦ sound.all_apart r s one other differ (sym (ap job_in (rest r e.1)) ∙ is) (sym (ap job_in (rest s f.1)) ∙ are)
      ]
    ];
  }

  -- With one fewer they are sound, and it has no operation with those that are left.
  pub sound_out : (old new : ℕ → Option (Task J)) (t : ℕ) → new t ≡ None → ((s : ℕ) → s ≢ t → new s ≡ old s)
      → AreSound fits apart driver (λ s. job_in (old s)) → AreSound fits apart driver (λ s. job_in (new s))
  sound_out old new t gone rest sound = record {
    all_fit = λ s one is. elim (eqb_tells s t) [
      | inl e ↦ absurd (not_some (sym (ap job_in gone) ∙ subst (λ x. job_in (new x) ≡ Some one) e.1 is))
      | inr e ↦ sound.all_fit s one (sym (ap job_in (rest s e.1)) ∙ is)
    ];
    all_apart = λ r s one other differ is are. elim (eqb_tells r t) [
      | inl e ↦ absurd (not_some (sym (ap job_in gone) ∙ subst (λ x. job_in (new x) ≡ Some one) e.1 is))
      | inr e ↦ elim (eqb_tells s t) [
        | inl f ↦ absurd (not_some (sym (ap job_in gone) ∙ subst (λ x. job_in (new x) ≡ Some other) f.1 are))
        | inr f ↦ sound.all_apart r s one other differ (sym (ap job_in (rest r e.1)) ∙ is) (sym (ap job_in (rest s f.1)) ∙ are)
      ]
    ];
  }

  pub apart_out : (old new : ℕ → Option (Task J)) (t : ℕ) (job : J) → job_in (old t) ≡ Some job → new t ≡ None → ((s : ℕ) → s ≢ t
      → new s ≡ old s)
      → AreSound fits apart driver (λ s. job_in (old s)) → (s : ℕ) (other : J) → job_in (new s) ≡ Some other → apart job other
  apart_out old new t job own gone rest sound s other is = elim (eqb_tells s t) [
    | inl e ↦ absurd (not_some (sym (ap job_in gone) ∙ subst (λ x. job_in (new x) ≡ Some other) e.1 is))
    | inr e ↦ sound.all_apart t s job other (λ same. e.1 (sym same)) own (sym (ap job_in (rest s e.1)) ∙ is)
  ]
