-- A turn, one task after another.
use Rattle.std.proofs.Common.{ℕ, ◌≡◌, ◌≢◌, ◌≤◌, ◌<◌, ◌∙◌, inl, inr, ap, sym, refl, subst, Bool, true, false, cond, List, [], ◌∷◌, Some}
use Rattle.std.proofs.Common.{None, arith}
use Rattle.std.specs.Prelude.{◌++◌, ◌||◌, ◌&&◌, ◌==◌, not, is_some, Option, IsSome}
use Rattle.std.proofs.lemmas.Bool.Decides.{eqb_tells}
use Rattle.core_exec.specs.declared.table.Task.{Task}
use Rattle.core_exec.specs.declared.visit.Visit.{Visit}
use Rattle.core_exec.specs.declared.visit.Visit.TheVariants.{Done, Pending, Short, Refused}
use Rattle.core_exec.specs.Tasks.{job_in, mark_of}
use Rattle.core_exec.specs.Polls.{IsPolled}
use Rattle.core_exec.specs.Marks.{has_number, is_late}
use Rattle.core_exec.specs.Steps.{StepsTask, with_number, is_polled, is_done, is_stopped}
use Rattle.core_exec.specs.Turns.{AllAbove, Ascends, Turns}
use Rattle.core_exec.proofs.Marking.{not_both}
use Rattle.core_exec.proofs.Counted.{not_some}
use Rattle.core_exec.proofs.Visiting.{or_true, or_false, or_parts}
use Rattle.core_exec.proofs.Marking.{or_assoc}

-- A number is in a list with one more behind it where it is in the list, or is that one.
pub has_snoc : (s t : ℕ) (xs : List ℕ) → has_number s (xs ++ t ∷ []) ≡ (has_number s xs || s == t)
has_snoc s t [] = or_false (s == t)
has_snoc s t (x ∷ xs) = ap (λ b. s == x || b) (has_snoc s t xs) ∙ sym (or_assoc (s == x) (has_number s xs) (s == t))

-- A number is itself.
self_number : (x : ℕ) → (x == x) ≡ true
self_number x = grind arith

-- A list with a greater number behind it ascends.
above_snoc : (n t : ℕ) (xs : List ℕ) → AllAbove n xs → n < t → AllAbove n (xs ++ t ∷ [])
above_snoc n t [] above below = (below, tt)
above_snoc n t (x ∷ xs) above below = (above.0, above_snoc n t xs above.1 below)

-- So does a list that ascends.
pub ascends_snoc : (t : ℕ) (xs : List ℕ) → Ascends xs → ((p : ℕ) → has_number p xs ≡ true → p < t) → Ascends (xs ++ t ∷ [])
ascends_snoc t [] up below = (tt, tt)
ascends_snoc t (x ∷ xs) up below = (
  above_snoc x t xs up.0 (below x (ap (λ b. b || has_number x xs) (self_number x))),
  ascends_snoc t xs up.1 (λ p has. below p (ap
      (λ b. p == x || b) has ∙ or_true (p == x))),
)

-- The task at which a step stops the turn, if it does.
abbrev pub stop_of : Option Visit → ℕ → Option ℕ
stop_of visit t = cond (is_stopped visit) (Some t) None

-- What a step makes of a task that it polls.
record PolledStep {J : Type 0} (polls cancels : J → ℕ) (aim : J → List ℕ) (now : ℕ) (was is : Option (Task J)) (visit : Option Visit)
    (t : ℕ)
    : Type 0 where
  marked : mark_of was ≡ true
  went : IsSome is → IsPolled polls cancels aim (is_late now was) was is
  marks : mark_of is ≡ true → stop_of visit t ≡ Some t
  ends : is_done visit ≡ not (is_some is)

-- A task with a job is there.
there_some : {J : Type 0} (x : Option (Task J)) → IsSome (job_in x) → is_some x ≡ true
there_some None there = there
there_some (Some task) there = refl

-- A step that polls its task makes this of it.
step_polled : {J : Type 0} (polls cancels : J → ℕ) (aim : J → List ℕ) (now : ℕ) (was is : Option (Task J)) (visit : Option Visit) (t : ℕ)
    → StepsTask polls cancels aim now was is visit → is_polled visit ≡ true → PolledStep polls cancels aim now was is visit t
step_polled polls cancels aim now was is None t by polled = not_both polled
step_polled polls cancels aim now was is (Some Done) t by polled = record {
  marked = by.0;
  went = λ there. not_both (subst (λ x. IsSome x) by.1 there);
  marks = λ marked. not_both (sym (ap mark_of by.1) ∙ marked);
  ends = sym (ap (λ x. not (is_some x)) by.1);
}
step_polled polls cancels aim now was is (Some Pending) t by polled = record {
  marked = by.0;
  went = λ there. by.1.0;
  marks = λ marked. not_both (sym by.1.1 ∙ marked);
  ends = sym (ap not (there_some is by.1.0.there));
}
step_polled polls cancels aim now was is (Some Short) t by polled = record {
  marked = by.0;
  went = λ there. by.1.0;
  marks = λ marked. refl;
  ends = sym (ap not (there_some is by.1.0.there));
}
step_polled polls cancels aim now was is (Some Refused) t by polled = not_both polled

-- What it makes of a task that it doesn't poll.
step_left : {J : Type 0} (polls cancels : J → ℕ) (aim : J → List ℕ) (now : ℕ) (was is : Option (Task J)) (visit : Option Visit)
    → StepsTask polls cancels aim now was is visit → is_polled visit ≡ false → (is ≡ was) × (is_done visit ≡ false)
step_left polls cancels aim now was is None by left = (by.1, refl)
step_left polls cancels aim now was is (Some Done) by left = not_both (sym left)
step_left polls cancels aim now was is (Some Pending) by left = not_both (sym left)
step_left polls cancels aim now was is (Some Short) by left = not_both (sym left)
step_left polls cancels aim now was is (Some Refused) by left = (by.1.0, refl)

-- A turn's lists behind a step that doesn't poll its task.
next_left : {J : Type 0} (polls cancels : J → ℕ) (aim : J → List ℕ) (now : ℕ) (was mid is : ℕ → Option (Task J)) (P C D : List ℕ)
    (stopped : Option ℕ)
    → Turns polls cancels aim now was mid P C D None → ((s : ℕ) → is s ≡ mid s) → Turns polls cancels aim now was is P C D stopped
next_left polls cancels aim now was mid is P C D stopped turns same = record {
  ascends = turns.ascends;
  ready = turns.ready;
  left = λ s out. same s ∙ turns.left s out;
  went = λ s polled there. subst (λ x. IsPolled polls cancels aim (is_late now (was s)) (was s) x) (sym (same s))
      (turns.went s polled (subst (λ x. IsSome x) (same s) there));
  marks = λ s polled marked. absurd (not_some (turns.marks s polled (sym (ap mark_of (same s)) ∙ marked)));
  asks = turns.asks;
  ends = λ s. turns.ends s ∙ ap (λ x. has_number s P && not (is_some x)) (sym (same s));
}

-- A number that a step may add is in the list where it was, or it is that number and was added.
has_with : (s t : ℕ) (more : Bool) (xs : List ℕ) → has_number s (with_number more t xs) ≡ (has_number s xs || (more && s == t))
has_with s t true xs = has_snoc s t xs
has_with s t false xs = sym (or_false (has_number s xs))

-- Nothing is both, with none.
and_false : (a : Bool) → (a && false) ≡ false
and_false true = refl
and_false false = refl

-- A choice with all is as it was.
and_true : (a : Bool) → (a && true) ≡ a
and_true true = refl
and_true false = refl

-- A list by a test, with one more number by the test.
listed_next : (s t : ℕ) (P X : List ℕ) (more test : Bool) (tests : ℕ → Bool) → (s ≡ t → tests s ≡ more) → has_number t P ≡ false
    → has_number s X ≡ (has_number s P && tests s)
    → has_number s (with_number more t X) ≡ (has_number s (P ++ t ∷ []) && tests s)
listed_next s t P X more test tests at out before = elim (eqb_tells s t) [
  | inl e ↦
      let none : has_number s P ≡ false = ap (λ x. has_number x P) e.1 ∙ out in
      has_with s t more X ∙ ap (λ b. b || (more && s == t)) (before ∙ ap (λ b. b && tests s) none) ∙ ap (λ b. more && b) e.0 ∙ and_true more
      ∙ sym (at e.1) ∙ sym (ap (λ b. b && tests s) (has_snoc s t P ∙ ap (λ b. has_number s P || b) e.0 ∙ or_true (has_number s P)))
  | inr e ↦ has_with s t more X ∙ ap (λ b. has_number s X || (more && b)) e.0 ∙ ap (λ b. has_number s X || b) (and_false more)
      ∙ or_false (has_number s X) ∙ before
      ∙ sym (ap (λ b. b && tests s) (has_snoc s t P ∙ ap (λ b. has_number s P || b) e.0 ∙ or_false (has_number s P)))
]

-- Another number is in the list with one more where it was in the list.
in_front : (s t : ℕ) (P : List ℕ) → (s == t) ≡ false → has_number s (P ++ t ∷ []) ≡ has_number s P
in_front s t P other = has_snoc s t P ∙ ap (λ b. has_number s P || b) other ∙ or_false (has_number s P)

-- A turn's lists behind a step that polls its task.
module _ {J : Type 0} (polls cancels : J → ℕ) (aim : J → List ℕ) (now t : ℕ) (was mid is : ℕ → Option (Task J)) (P C D : List ℕ)
    (visit : Option Visit) (late : Bool) (turns : Turns polls cancels aim now was mid P C D None)
    (step : PolledStep polls cancels aim now (mid t) (is t) visit t) (rest : (s : ℕ) → s ≢ t → is s ≡ mid s)
    (at_late : late ≡ is_late now (mid t)) (upto : (p : ℕ) → has_number p P ≡ true → p ≤ t) where
  -- The task wasn't polled before.
  not_polled : has_number t P ≡ false
  not_polled = elim (has_number t P) as (λ b. has_number t P ≡ b → has_number t P ≡ false) [
    | true ↦ λ polled. absurd (not_some (turns.marks t polled step.marked))
    | false ↦ λ out. out
  ] refl

  -- So it is as it was.
  same_then : mid t ≡ was t
  same_then = turns.left t not_polled

  -- Those that were polled are before it.
  below_t : (p : ℕ) → has_number p P ≡ true → p < t
  below_t p polled =
      let within = upto p polled in
      let other : p ≢ t = λ e. not_both (sym not_polled ∙ ap (λ x. has_number x P) (sym e) ∙ polled) in
      omega (arith, within, other)

  -- Those that are done.
  ends_then : (s : ℕ) → has_number s D ≡ (has_number s P && not (is_some (is s)))
  ends_then s = turns.ends s ∙ elim (eqb_tells s t) [
    | inl e ↦ let none : has_number s P ≡ false = ap (λ x. has_number x P) e.1 ∙ not_polled in
        ap (λ b. b && not (is_some (mid s))) none ∙ sym (ap (λ b. b && not (is_some (is s))) none)
    | inr e ↦ ap (λ x. has_number s P && not (is_some x)) (sym (rest s e.1))
  ]

  -- All of the turn's lists.
  next_polled : Turns polls cancels aim now was is (P ++ t ∷ []) (with_number late t C) (with_number (is_done visit) t D) (stop_of visit t)
  next_polled = record {
    ascends = ascends_snoc t P turns.ascends below_t;
    ready = λ s polled. elim (eqb_tells s t) [
      | inl e ↦ subst (λ x. mark_of (was x) ≡ true) (sym e.1) (sym (ap mark_of same_then) ∙ step.marked)
      | inr e ↦ turns.ready s (sym (in_front s t P e.0) ∙ polled)
    ];
    left = λ s out. let parts = or_parts (has_number s P) (s == t) (sym (has_snoc s t P) ∙ out) in elim (eqb_tells s t) [
      | inl e ↦ not_both (sym parts.1 ∙ e.0)
      | inr e ↦ rest s e.1 ∙ turns.left s parts.0
    ];
    went = λ s polled. elim (eqb_tells s t) [
      | inl e ↦ subst (λ x. IsSome (is x) → IsPolled polls cancels aim (is_late now (was x)) (was x) (is x)) (sym e.1)
          (subst (λ y. IsSome (is t) → IsPolled polls cancels aim (is_late now y) y (is t)) same_then step.went)
      | inr e ↦ λ there. subst (λ x. IsPolled polls cancels aim (is_late now (was s)) (was s) x) (sym (rest s e.1))
          (turns.went s (sym (in_front s t P e.0) ∙ polled) (subst (λ x. IsSome x) (rest s e.1) there))
    ];
    marks = λ s polled marked. elim (eqb_tells s t) [
      | inl e ↦ subst (λ x. stop_of visit t ≡ Some x) (sym e.1) (step.marks (subst (λ x. mark_of (is x) ≡ true) e.1 marked))
      | inr e ↦ absurd (not_some (turns.marks s (sym (in_front s t P e.0) ∙ polled) (sym (ap mark_of (rest s e.1)) ∙ marked)))
    ];
    asks = λ s. listed_next s t P C late late (λ x. is_late now (was x))
        (λ e. ap (λ x. is_late now (was x)) e ∙ sym (at_late ∙ ap (is_late now) same_then)) not_polled (turns.asks s);
    ends = λ s. listed_next s t P D (is_done visit) late (λ x. not (is_some (is x)))
        (λ e. ap (λ x. not (is_some (is x))) e ∙ sym step.ends) not_polled (ends_then s);
  }

-- A turn's lists behind a step.
pub next_turn : {J : Type 0} (polls cancels : J → ℕ) (aim : J → List ℕ) (now t : ℕ) (was mid is : ℕ → Option (Task J)) (P C D : List ℕ)
    (visit : Option Visit) → Turns polls cancels aim now was mid P C D None → StepsTask polls cancels aim now (mid t) (is t) visit
    → ((s : ℕ) → s ≢ t → is s ≡ mid s) → ((p : ℕ) → has_number p P ≡ true → p ≤ t)
    → Turns polls cancels aim now was is (with_number (is_polled visit) t P) (with_number (is_polled visit && is_late now (mid t)) t C)
    (with_number (is_done visit) t D) (stop_of visit t)
next_turn polls cancels aim now t was mid is P C D visit turns step rest upto = elim (is_polled visit)
    as (λ b. is_polled visit ≡ b → Turns polls cancels aim now was is (with_number b t P) (with_number (b && is_late now (mid t)) t C)
    (with_number (is_done visit) t D) (stop_of visit t)) [
      | true ↦ λ polled. next_polled polls cancels aim now t was mid is P C D visit (is_late now (mid t)) turns
          (step_polled polls cancels aim now (mid t) (is t) visit t step polled) rest refl upto
      | false ↦ λ left. let same = step_left polls cancels aim now (mid t) (is t) visit step left in
          subst (λ b. Turns polls cancels aim now was is P C (with_number b t D) (stop_of visit t)) (sym same.1)
          (next_left polls cancels aim now was mid is P C D (stop_of visit t) turns (λ s. elim (eqb_tells s t) [
            | inl e ↦ subst (λ x. is x ≡ mid x) (sym e.1) same.0
            | inr e ↦ rest s e.1
          ]))
    ] refl
