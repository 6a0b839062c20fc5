-- A cancel, and then a poll; and what both leave of all tasks.
use Rattle.std.proofs.Common.{ℕ, suc, ◌≡◌, ◌≢◌, ◌∙◌, inl, inr, ap, sym, refl, subst, Bool, true, false, cond, List, Some, None, arith}
use Rattle.std.specs.Prelude.{Option, ◌||◌}
use Rattle.std.proofs.lemmas.Bool.Decides.{eqb_tells}
use Rattle.core_exec.specs.declared.table.Task.{Task}
use Rattle.core_exec.specs.declared.table.Taken.{Taken}
use Rattle.core_exec.specs.declared.visit.Answer.{Answer}
use Rattle.core_exec.specs.declared.visit.Answer.TheVariants.{Done, Pending, Short, Refused}
use Rattle.core_exec.specs.Answers.{AsksJob, IfKept, IsVisited, settled_by}
use Rattle.core_exec.specs.Job.{IsNext}
use Rattle.core_exec.specs.Tasks.{AreSound, TakesMarked, cost, job_in, mark_of, marked_task}
use Rattle.core_exec.proofs.Counted.{not_some}

-- Either of two is so where the second is.
pub or_true : (a : Bool) → (a || true) ≡ true
or_true true = refl
or_true false = refl

-- Or where the first is, without the second.
pub or_false : (a : Bool) → (a || false) ≡ a
or_false true = refl
or_false false = refl

-- Neither of two is so where not one of them is.
pub or_parts : (a b : Bool) → (a || b) ≡ false → (a ≡ false) × (b ≡ false)
or_parts true b e = absurd (subst (λ (c : Bool). elim c as (λ _. Type 0) [ true ↦ Unit {0} | false ↦ ⊥ ]) e tt)
or_parts false b e = (refl, e)

-- A job that is canceled if it is late, and then polled, was polled once and canceled if it is late.
pub visited : {J : Type 0} (polls cancels : J → ℕ) (aim : J → List ℕ) (late : Bool) (was mid now : J)
    → AsksJob polls cancels aim late was mid → IsNext polls cancels aim mid now → IsVisited polls cancels aim late was now
visited polls cancels aim true was mid now asked next = record {
  polled = next.polled ∙ ap suc asked.polled;
  asks = next.canceled ∙ asked.asks;
  same_aim = next.same_aim ∙ asked.same_aim;
}
visited polls cancels aim false was mid now same next = subst (λ x. IsVisited polls cancels aim false x now) same (record {
  polled = next.polled;
  asks = let h = next.canceled in omega (arith, h);
  same_aim = next.same_aim;
})

-- A marked task counts nothing among those without a mark.
pub cost_marked : {J : Type 0} (x : Option (Task J)) → mark_of x ≡ true → cost x ≡ 0
cost_marked None is = refl
cost_marked (Some task) is = ap (λ b. cond b 0 1) is

-- The job that goes on, if it isn't done.
abbrev kept_job : {J O : Type 0} → Answer J O → Option J
kept_job (Done out) = None
kept_job (Pending next) = Some next
kept_job (Short next) = Some next
kept_job (Refused next) = Some next

-- It is the job of the task that was settled.
settled_job : {J O : Type 0} (answer : Answer J O) (canceled late : Bool) (task : Task J)
    → job_in (settled_by answer canceled late (Some task)) ≡ kept_job answer
settled_job (Done out) canceled late task = refl
settled_job (Pending next) canceled late task = refl
settled_job (Short next) canceled late task = refl
settled_job (Refused next) canceled late task = refl

-- What is so of it.
if_kept : {J O : Type 0} (P : J → Type 0) (answer : Answer J O) (next : J) → IfKept answer P → kept_job answer ≡ Some next → P next
if_kept P (Done out) next is same = absurd (not_some same)
if_kept P (Pending kept) next is same = let e : kept ≡ next = cc in subst P e is
if_kept P (Short kept) next is same = let e : kept ≡ next = cc in subst P e is
if_kept P (Refused kept) next is same = let e : kept ≡ next = cc in subst P e is

module _ {D J O : Type 0} (fits : D → ℕ → J → Type 0) (apart : J → J → Type 0) (both : (one other : J) → apart one other → apart other one)
    (old new : D) where
  -- Jobs are sound behind a call of one of them.
  sound_behind : (t : ℕ) (job : J) (answer : Answer J O) (was is : ℕ → Option J) → was t ≡ Some job → is t ≡ kept_job answer
      → ((s : ℕ) → s ≢ t → is s ≡ was s) → IfKept answer (fits new t)
      → ((other : J) (s : ℕ) → fits old s other → apart job other → fits new s other)
      → IfKept answer (λ next. (other : J) (s : ℕ) → fits old s other → apart job other → apart next other)
      → AreSound fits apart old was → AreSound fits apart new is
  sound_behind t job answer was is own this rest fit others keeps sound = record {
    all_fit = λ s one has. elim (eqb_tells s t) [
      | inl e ↦ subst (λ x. fits new x one) (sym e.1)
          (if_kept (fits new t) answer one fit (sym this ∙ subst (λ x. is x ≡ Some one) e.1 has))
      | inr e ↦ let had = sym (rest s e.1) ∙ has in
          others one s (sound.all_fit s one had) (sound.all_apart t s job one (λ q. e.1 (sym q)) own had)
    ];
    all_apart = λ r s one other differ has are. elim (eqb_tells r t) [
      | inl e ↦
          let far : s ≢ t = λ q. differ (e.1 ∙ sym q) in
          let had = sym (rest s far) ∙ are in
          if_kept (λ next. (x : J) (n : ℕ) → fits old n x → apart job x → apart next x) answer one keeps
          (sym this ∙ subst (λ x. is x ≡ Some one) e.1 has) other s (sound.all_fit s other had)
          (sound.all_apart t s job other (λ q. far (sym q)) own had)
      | inr e ↦ let had = sym (rest r e.1) ∙ has in elim (eqb_tells s t) [
        | inl f ↦ both other one (if_kept (λ next. (x : J) (n : ℕ) → fits old n x → apart job x → apart next x) answer other keeps
            (sym this ∙ subst (λ x. is x ≡ Some other) f.1 are) one r (sound.all_fit r one had)
            (sound.all_apart t r job one (λ q. e.1 (sym q)) own had))
        | inr f ↦ sound.all_apart r s one other differ had (sym (rest s f.1) ∙ are)
      ]
    ];
  }

  -- So they are behind the visit of a task.
  pub sound_visited : (t : ℕ) (late : Bool) (taken : Taken J) (answer : Answer J O) (was mid is : ℕ → Option (Task J))
      → TakesMarked (was t) (mid t) taken → is t ≡ settled_by answer taken.canceled late (mid t)
      → ((s : ℕ) → s ≢ t → mid s ≡ was s) → ((s : ℕ) → s ≢ t → is s ≡ mid s) → IfKept answer (fits new t)
      → ((other : J) (s : ℕ) → fits old s other → apart taken.job other → fits new s other)
      → IfKept answer (λ next. (other : J) (s : ℕ) → fits old s other → apart taken.job other → apart next other)
      → AreSound fits apart old (λ s. job_in (was s)) → AreSound fits apart new (λ s. job_in (is s))
  sound_visited t late taken answer was mid is takes this first second fit others keeps sound =
      sound_behind t taken.job answer (λ s. job_in (was s)) (λ s. job_in (is s)) (ap job_in takes.with_it)
      (ap job_in this ∙ ap (λ x. job_in (settled_by answer taken.canceled late x)) takes.without
      ∙ settled_job answer taken.canceled late (marked_task None taken.deadline taken.canceled))
      (λ s far. ap job_in (second s far ∙ first s far)) fit others keeps sound
