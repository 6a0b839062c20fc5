-- Tasks that are late, and their marks.
use Rattle.std.proofs.Common.{ℕ, ◌≡◌, ◌≤◌, ◌<◌, ◌∙◌, inl, inr, ap, sym, refl, subst, Bool, true, false, List, Some, None, arith}
use Rattle.std.specs.Prelude.{◌||◌, ◌&&◌, ◌==◌, not, nat_le, Option, option_map}
use Rattle.std.proofs.lemmas.Bool.Decides.{eqb_tells}
use Rattle.core_exec.specs.declared.table.Task.{Task}
use Rattle.core_exec.specs.declared.table.Flags.{Flags}
use Rattle.core_exec.specs.declared.deadlines.Deadlines.{Deadlines}
use Rattle.core_exec.specs.Tasks.{mark_of, canceled_of, deadline_of, FlagsOf}
use Rattle.core_exec.specs.Deadlines.{is_set, LeavesSet}
use Rattle.core_exec.specs.Marks.{with_mark, has_come, has_number, is_late, ready_tasks, MarkedLate, AreSet}
use Rattle.core_exec.proofs.Visiting.{or_true}
use Rattle.core_exec.proofs.Marking.{no_mark, mark_stays, not_both, two_marks}

-- What makes a task late: it wasn't canceled, and has a deadline that has come.
pub record IsLate (now : ℕ) (canceled : Bool) (deadline : Option ℕ) : Type 0 where
  pub at : ℕ
  pub not_canceled : canceled ≡ false
  pub has : deadline ≡ Some at
  pub come : at ≤ now

-- A test of an order.
pub le_true : (a b : ℕ) → nat_le a b ≡ true → a ≤ b
le_true a b is = grind arith

-- The same from its order.
pub test_true : (a b : ℕ) → a ≤ b → nat_le a b ≡ true
test_true a b within = grind arith

-- These are the parts of that test.
late_by : (now : ℕ) (canceled : Bool) (deadline : Option ℕ) → (not canceled && has_come now deadline) ≡ true → IsLate now canceled deadline
late_by now true deadline late = not_both late
late_by now false None late = not_both late
late_by now false (Some at) late = record { at = at; not_canceled = refl; has = refl; come = le_true at now late }

module _ {J : Type 0} where
  -- What makes a task late.
  pub late_parts : (now : ℕ) (x : Option (Task J)) → is_late now x ≡ true → IsLate now (canceled_of x) (deadline_of x)
  late_parts now x late = late_by now (canceled_of x) (deadline_of x) late

  -- A task whose deadline has come is late.
  pub is_late_by : (now at : ℕ) (x : Option (Task J)) → canceled_of x ≡ false → deadline_of x ≡ Some at → at ≤ now → is_late now x ≡ true
  is_late_by now at x canceled has come =
      let test : nat_le at now ≡ true = test_true at now come in
      ap (λ c. not c && has_come now (deadline_of x)) canceled ∙ ap (has_come now) has ∙ test

  -- What is asked of a task says whether it is late.
  pub late_flags : (now : ℕ) (x : Option (Task J)) (flags : Flags) (late : Bool) → FlagsOf x (Some flags)
      → late ≡ (not flags.canceled && has_come now flags.deadline) → late ≡ is_late now x
  late_flags now None flags late of by = absurd of
  late_flags now (Some task) flags late of by =
      by ∙ ap (λ c. not c && has_come now flags.deadline) of.2 ∙ ap (λ d. not task.canceled && has_come now d) of.1

  -- A mark of a late task is one of those.
  pub late_marked : (now : ℕ) (old new : ℕ → Option (Task J)) (s t : ℕ) → is_late now (old t) ≡ true
      → new s ≡ option_map (with_mark (s == t)) (old s) → MarkedLate now (old s) (new s)
  late_marked now old new s t late each = elim (eqb_tells s t) [
    | inl e ↦ inr (subst (λ x. is_late now (old x) ≡ true) (sym e.1) late, each ∙ ap (λ b. option_map (with_mark b) (old s)) e.0)
    | inr e ↦ inl (each ∙ ap (λ b. option_map (with_mark b) (old s)) e.0 ∙ no_mark (old s))
  ]

  -- A task that is there has its mark behind it.
  pub late_mark : (now : ℕ) (x y : Option (Task J)) → is_late now x ≡ true → y ≡ option_map (with_mark true) x → mark_of y ≡ true
  late_mark now None y late is = not_both late
  late_mark now (Some task) y late is = ap mark_of is ∙ or_true task.marked

  -- Marks leave deadlines and cancels, and each mark.
  pub late_kept : (now : ℕ) (was is : Option (Task J)) → MarkedLate now was is
      → (canceled_of is ≡ canceled_of was) × (deadline_of is ≡ deadline_of was) × (mark_of was ≡ true → mark_of is ≡ true)
  late_kept now was is (inl e) = (ap canceled_of e, ap deadline_of e, λ m. ap mark_of e ∙ m)
  late_kept now None is (inr e) = not_both e.0
  late_kept now (Some task) is (inr e) = (ap canceled_of e.1, ap deadline_of e.1, λ m. ap mark_of e.1 ∙ or_true task.marked)

  -- Marks of late tasks, and then more of them.
  pub late_then : (now : ℕ) (a b c : Option (Task J)) → MarkedLate now a b → MarkedLate now b c → MarkedLate now a c
  late_then now a b c (inl e) (inl f) = inl (f ∙ e)
  late_then now a b c (inl e) (inr f) = inr (subst (λ x. is_late now x ≡ true) e f.0, f.1 ∙ ap (option_map (with_mark true)) e)
  late_then now a b c (inr e) (inl f) = inr (e.0, f ∙ e.1)
  late_then now a b c (inr e) (inr f) = inr (e.0, f.1 ∙ ap (option_map (with_mark true)) e.1 ∙ two_marks true true a)

  -- The deadlines that are left behind one that has come, whose task is marked if it is late.
  pub set_behind_pop : (now t : ℕ) (old new : ℕ → Option (Task J)) (before after : Deadlines) → AreSet now old before
      → LeavesSet now t before after
      → ((s : ℕ) → MarkedLate now (old s) (new s)) → (is_late now (old t) ≡ true → mark_of (new t) ≡ true) → AreSet now new after
  set_behind_pop now t old new before after set leaves each marked = λ s d canceled has.
      let kept = late_kept now (old s) (new s) (each s) in
      elim (set s d (sym kept.0 ∙ canceled) (sym kept.1 ∙ has)) [
        | inl is ↦ elim (leaves d s is) [
          | inl still ↦ inl still
          | inr gone ↦ inr (
            subst (λ x. mark_of (new x) ≡ true) (sym gone.1) (marked (subst (λ x. is_late now (old x) ≡ true) gone.1
                (is_late_by now d (old s) (sym kept.0 ∙ canceled) (sym kept.1 ∙ has) gone.0))),
            gone.0,
          )
        ]
        | inr is ↦ inr (kept.2 is.0, is.1)
      ]

  -- Where no deadline that is set has come, each late task is marked.
  pub late_all : (now s : ℕ) (old new : ℕ → Option (Task J)) (deadlines : Deadlines) → AreSet now new deadlines
      → ((d r : ℕ) → is_set deadlines d r ≡ true → now < d) → MarkedLate now (old s) (new s)
      → new s ≡ option_map (with_mark (is_late now (old s))) (old s)
  late_all now s old new deadlines set none (inr e) = subst (λ b. new s ≡ option_map (with_mark b) (old s)) (sym e.0) e.1
  late_all now s old new deadlines set none (inl e) = elim (is_late now (old s)) as (λ b. is_late now (old s) ≡ b → new s ≡ option_map
      (with_mark b) (old s)) [
        | true ↦ λ late. let is = late_parts now (new s) (subst (λ x. is_late now x ≡ true) (sym e) late) in
            elim (set s is.at is.not_canceled is.has) [
              | inl on ↦ let far = none is.at s on in let come = is.come in absurd (omega (arith, far, come))
              | inr on ↦ sym (mark_stays (new s) on.0) ∙ ap (option_map (with_mark true)) e
            ]
        | false ↦ λ late. e ∙ sym (no_mark (old s))
      ] refl

  -- What is set by a moment is set by a later one.
  pub set_later : (before now : ℕ) (tasks : ℕ → Option (Task J)) (deadlines : Deadlines) → AreSet before tasks deadlines → before ≤ now
      → AreSet now tasks deadlines
  set_later before now tasks deadlines set later = λ s d canceled has. elim (set s d canceled has) [
    | inl is ↦ inl is
    | inr is ↦ let come = is.1 in inr (is.0, omega (arith, come, later))
  ]

  -- So does one more mark.
  marked_more : (b : Bool) (x : Option (Task J)) → (canceled_of (option_map (with_mark b) x) ≡ canceled_of x)
      × (deadline_of (option_map (with_mark b) x) ≡ deadline_of x) × (mark_of x ≡ true → mark_of (option_map (with_mark b) x) ≡ true)
  marked_more b None = (refl, refl, λ m. m)
  marked_more b (Some task) = (refl, refl, λ m. ap (λ a. a || b) m)

  -- Marks leave what is set.
  set_by : (now : ℕ) (marks : ℕ → Bool) (old new : ℕ → Option (Task J)) (before after : Deadlines) → AreSet now old before
      → ((s : ℕ) → new s ≡ option_map (with_mark (marks s)) (old s)) → after ≡ before → AreSet now new after
  set_by now marks old new before after set each same = λ s d canceled has.
      let more = marked_more (marks s) (old s) in
      elim (set s d (sym more.0 ∙ sym (ap canceled_of (each s)) ∙ canceled) (sym more.1 ∙ sym (ap deadline_of (each s)) ∙ has)) [
        | inl is ↦ inl (ap (λ x. is_set x d s) same ∙ is)
        | inr is ↦ inr (ap mark_of (each s) ∙ more.2 is.0, is.1)
      ]

  pub set_marked : (now : ℕ) (named : List ℕ) (old new : ℕ → Option (Task J)) (before after : Deadlines) → AreSet now old before
      → ((s : ℕ) → new s ≡ option_map (with_mark (has_number s named)) (old s)) → after ≡ before → AreSet now new after
  set_marked now named = set_by now (λ s. has_number s named)

  pub set_woken : (now t : ℕ) (old new : ℕ → Option (Task J)) (before after : Deadlines) → AreSet now old before
      → ((s : ℕ) → new s ≡ option_map (with_mark (s == t)) (old s)) → after ≡ before → AreSet now new after
  set_woken now t = set_by now (λ s. s == t)

  -- Marks of numbers, and then of those that are late.
  pub named_or_late : (now s : ℕ) (named : List ℕ) (old mid new : ℕ → Option (Task J)) → mid s ≡ option_map (with_mark
      (has_number s named)) (old s)
      → new s ≡ option_map (with_mark (is_late now (mid s))) (mid s) → new s ≡ ready_tasks now named old s
  named_or_late now s named old mid new first second =
      let more = marked_more (has_number s named) (old s) in
      let late : is_late now (mid s) ≡ is_late now (old s) =
      ap (is_late now) first ∙ ap (λ c. not c && has_come now (deadline_of (option_map (with_mark (has_number s named)) (old s)))) more.0
      ∙ ap (λ d. not (canceled_of (old s)) && has_come now d) more.1 in
      second ∙ ap (λ b. option_map (with_mark b) (mid s)) late ∙ ap (option_map (with_mark (is_late now (old s)))) first
      ∙ two_marks (has_number s named) (is_late now (old s)) (old s)
