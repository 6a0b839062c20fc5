-- Marks, one number after another.
use Rattle.std.proofs.Common.{ℕ, ◌≡◌, ◌≢◌, ◌∙◌, inl, inr, ap, sym, refl, subst, Bool, true, false, List, [], ◌∷◌, Some, None, arith}
use Rattle.std.specs.Prelude.{◌||◌, ◌==◌, ◌++◌, cond, not, Option, option_map}
use Rattle.std.specs.List.{Contains}
use Rattle.std.proofs.lemmas.Bool.Decides.{eqb_tells}
use Rattle.std.proofs.lemmas.List.Elements.{Contains-append_left, Contains-append_right}
use Rattle.core_exec.specs.declared.table.Task.{Task}
use Rattle.core_exec.specs.Tasks.{cost, is_unmarked, marked, mark_of}
use Rattle.core_exec.specs.Marks.{has_number, with_mark, Covers}
use Rattle.core_exec.proofs.Visiting.{or_true, or_false}

-- A choice of three is the same from either side.
pub or_assoc : (a b c : Bool) → ((a || b) || c) ≡ (a || (b || c))
or_assoc true b c = refl
or_assoc false b c = refl

-- No test is both.
pub not_both : {A : Type 0} → ◌≡◌ {A = Bool} false true → A
not_both e = absurd (subst (λ (b : Bool). elim b as (λ _. Type 0) [ true ↦ ⊥ | false ↦ Unit {0} ]) e tt)

module _ {J : Type 0} where
  -- What is marked once a mark was made, where it had one or isn't there, was marked before.
  had_mark : (x : Option (Task J)) → is_unmarked x ≡ false → mark_of (option_map marked x) ≡ true → mark_of x ≡ true
  had_mark None again is = is
  had_mark (Some task) again is = elim task.marked as (λ b. not b ≡ false → b ≡ true)
      [ true ↦ λ e. refl | false ↦ λ e. not_both (sym e) ] again

  -- A task without one more mark is as it was.
  pub no_mark : (x : Option (Task J)) → option_map (with_mark false) x ≡ x
  no_mark None = refl
  no_mark (Some task) = ap (λ b. Some (record task { marked = b })) (or_false task.marked)

  -- A marked task with one more mark is as it was.
  pub mark_stays : (x : Option (Task J)) → mark_of x ≡ true → option_map (with_mark true) x ≡ x
  mark_stays None is = refl
  mark_stays (Some task) is = ap (λ b. Some (record task { marked = b })) (or_true task.marked ∙ sym is)

  -- One more mark is a mark.
  pub one_mark : (x : Option (Task J)) → option_map marked x ≡ option_map (with_mark true) x
  one_mark None = refl
  one_mark (Some task) = ap (λ b. Some (record task { marked = b })) (sym (or_true task.marked))

  -- Two marks are one.
  pub two_marks : (a b : Bool) (x : Option (Task J)) → option_map (with_mark b) (option_map (with_mark a) x) ≡ option_map (with_mark
      (a || b)) x
  two_marks a b None = refl
  two_marks a b (Some task) = ap (λ m. Some (record task { marked = m })) (or_assoc task.marked a b)

  -- A task that is marked, and no other, is each with the mark of its number.
  pub mark_once : (old new : ℕ → Option (Task J)) (s t : ℕ) → new t ≡ option_map marked (old t) → (s ≢ t → new s ≡ old s)
      → new s ≡ option_map (with_mark (s == t)) (old s)
  mark_once old new s t this rest = elim (eqb_tells s t) [
    | inl e ↦ subst (λ b. new s ≡ option_map (with_mark b) (old s)) (sym e.0)
        (subst (λ x. new x ≡ option_map (with_mark true) (old x)) (sym e.1) (this ∙ one_mark (old t)))
    | inr e ↦ subst (λ b. new s ≡ option_map (with_mark b) (old s)) (sym e.0) (rest e.1 ∙ sym (no_mark (old s)))
  ]

  -- With the mark of one more number, the marks of those that are left are those of all.
  pub mark_next : (s m : ℕ) (rest : List ℕ) (old mid new : Option (Task J)) (all : Bool) → new ≡ option_map (with_mark (s == m)) mid
      → option_map (with_mark (has_number s (m ∷ rest))) mid ≡ option_map (with_mark all) old
      → option_map (with_mark (has_number s rest)) new ≡ option_map (with_mark all) old
  mark_next s m rest old mid new all step before =
      ap (option_map (with_mark (has_number s rest))) step ∙ two_marks (s == m) (has_number s rest) mid ∙ before

  -- With its number at the end, the list has a task that is marked too.
  pub covers_more : (old new : ℕ → Option (Task J)) (marks : List ℕ) (t : ℕ) → ((s : ℕ) → s ≢ t → new s ≡ old s) → Covers old marks
      → Covers new (marks ++ t ∷ [])
  covers_more old new marks t rest covers = λ s is. elim (eqb_tells s t) [
    | inl e ↦ subst (Contains (marks ++ t ∷ [])) (sym e.1) (Contains-append_right marks (t ∷ []) t (0, omega arith, refl))
    | inr e ↦ Contains-append_left marks (t ∷ []) s (covers s (subst (λ x. mark_of x ≡ true) (rest s e.1) is))
  ]

  -- The list has each marked task still, where the task that was marked has a mark already, or isn't there.
  pub covers_again : (old new : ℕ → Option (Task J)) (marks : List ℕ) (t : ℕ) → is_unmarked (old t) ≡ false
      → new t ≡ option_map marked (old t) → ((s : ℕ) → s ≢ t → new s ≡ old s) → Covers old marks → Covers new marks
  covers_again old new marks t again this rest covers = λ s is. elim (eqb_tells s t) [
    | inl e ↦ covers s (subst (λ x. mark_of (old x) ≡ true) (sym e.1)
        (had_mark (old t) again (ap mark_of (sym this) ∙ subst (λ x. mark_of (new x) ≡ true) e.1 is)))
    | inr e ↦ covers s (subst (λ x. mark_of x ≡ true) (rest s e.1) is)
  ]

  -- A task without a mark counts one among those; one with a mark, or none, counts nothing.
  pub costs_one : (x : Option (Task J)) → is_unmarked x ≡ true → cost x ≡ 1
  costs_one None is = not_both is
  costs_one (Some task) is = by task.marked is
    where
      by : (b : Bool) → not b ≡ true → ◌≡◌ {A = ℕ} (cond b 0 1) 1
      by true is = not_both is
      by false is = refl

  pub costs_none : (x : Option (Task J)) → is_unmarked x ≡ false → cost x ≡ 0
  costs_none None is = refl
  costs_none (Some task) is = by task.marked is
    where
      by : (b : Bool) → not b ≡ false → ◌≡◌ {A = ℕ} (cond b 0 1) 0
      by true is = refl
      by false is = not_both (sym is)
