-- A turn goes over the numbers of its list, ascending.
use Rattle.std.proofs.Common.{ℕ, suc, zero, ◌≡◌, ◌≢◌, ◌≤◌, ◌<◌, ◌∙◌, ◌⊎◌, inl, inr, ap, sym, refl, subst, Bool, true, false, cond, List}
use Rattle.std.proofs.Common.{[], ◌∷◌, Some, None, arith, append_assoc}
use Rattle.std.specs.Prelude.{◌++◌, ◌||◌, ◌&&◌, ◌==◌, Option, IsSome}
use Rattle.std.specs.List.{Contains}
use Rattle.std.specs.List.Sorted.{IsNonDecreasingBy}
use Rattle.std.proofs.lemmas.Bool.Decides.{eqb_tells}
use Rattle.std.proofs.lemmas.List.{map-append}
use Rattle.std.proofs.lemmas.List.Elements.{Contains-append_cases, All-push}
use Rattle.core_exec.specs.declared.table.Task.{Task}
use Rattle.core_exec.specs.declared.visit.Visit.{Visit}
use Rattle.core_exec.specs.declared.visit.Visit.TheVariants.{Done, Pending, Short, Refused}
use Rattle.core_exec.specs.Tasks.{job_in, mark_of, aim_in}
use Rattle.core_exec.specs.Marks.{has_number, is_late, Covers}
use Rattle.core_exec.specs.Steps.{StepsTask, StepsOutput, with_number, is_polled, is_done, is_stopped}
use Rattle.core_exec.specs.Turns.{Turns, Reaches, StopsAt, AddsOutputs}
use Rattle.core_exec.proofs.Marking.{not_both}
use Rattle.core_exec.proofs.Counted.{not_some}
use Rattle.core_exec.proofs.Turning.{stop_of, next_turn, has_snoc}

-- Each number is at most those behind it.
abbrev pub Rising : List ℕ → Type 0
Rising [] = Unit {0}
Rising (n ∷ numbers) = ((r : ℕ) → Contains numbers r → n ≤ r) × Rising numbers

-- Sorted numbers rise.
pub rising_sorted : (xs : List ℕ) → IsNonDecreasingBy (λ x. x) xs → Rising xs
rising_sorted [] sorted = tt
rising_sorted (x ∷ xs) sorted = (
  (λ r has. let below = has.1 in subst (λ y. x ≤ y) has.2 (sorted 0 (suc has.0) r (omega arith) (omega (arith, below)))),
  rising_sorted xs (λ i j d upto below. sorted (suc i) (suc j) d (omega (arith, upto)) (omega (arith, below))),
)

-- The first number is in a list.
pub first_in : (t : ℕ) (xs : List ℕ) → Contains (t ∷ xs) t
first_in t xs = (0, omega arith, refl)

-- A list of one number has that alone.
only_in : (t s : ℕ) → Contains (t ∷ []) s → s ≡ t
only_in t s (zero, below, at) = sym at
only_in t s (suc k, below, at) = absurd (omega (arith, below))

-- Another number of a list is behind its first.
pub behind_first : (t s : ℕ) (xs : List ℕ) → Contains (t ∷ xs) s → s ≢ t → Contains xs s
behind_first t s xs has other = elim (Contains-append_cases (t ∷ []) xs s has) [
  | inl one ↦ absurd (other (only_in t s one))
  | inr rest ↦ rest
]

-- A turn that is to come to some numbers still.
pub record Turning {J : Type 0} (polls cancels : J → ℕ) (aim : J → List ℕ) (now : ℕ) (was is : ℕ → Option (Task J))
    (P C D R : List ℕ) : Type 0 where
  pub turns : Turns polls cancels aim now was is P C D None
  pub before : (p r : ℕ) → has_number p P ≡ true → Contains R r → p ≤ r
  pub rising : Rising R
  pub covers : Covers is R

-- A step that doesn't stop leaves its task without a mark.
unmarked_after : {J : Type 0} (polls cancels : J → ℕ) (aim : J → List ℕ) (now : ℕ) (was is : Option (Task J)) (visit : Option Visit)
    → StepsTask polls cancels aim now was is visit → is_stopped visit ≡ false → mark_of is ≡ false
unmarked_after polls cancels aim now was is None by goes = ap mark_of by.1 ∙ by.0
unmarked_after polls cancels aim now was is (Some Done) by goes = ap mark_of by.1
unmarked_after polls cancels aim now was is (Some Pending) by goes = by.1.1
unmarked_after polls cancels aim now was is (Some Short) by goes = not_both (sym goes)
unmarked_after polls cancels aim now was is (Some Refused) by goes = not_both (sym goes)

-- One that stops leaves it marked.
kept_at_stop : {J : Type 0} (polls cancels : J → ℕ) (aim : J → List ℕ) (now : ℕ) (was is : Option (Task J)) (visit : Option Visit)
    → StepsTask polls cancels aim now was is visit → is_stopped visit ≡ true → (mark_of was ≡ true) × (mark_of is ≡ true)
kept_at_stop polls cancels aim now was is None by stops = not_both stops
kept_at_stop polls cancels aim now was is (Some Done) by stops = not_both stops
kept_at_stop polls cancels aim now was is (Some Pending) by stops = not_both stops
kept_at_stop polls cancels aim now was is (Some Short) by stops = (by.0, by.1.1)
kept_at_stop polls cancels aim now was is (Some Refused) by stops = (by.0, ap mark_of by.1.0 ∙ by.0)

-- A turn goes on behind a step, or stops.
stop_none : (visit : Option Visit) (t : ℕ) → is_stopped visit ≡ false → stop_of visit t ≡ None
stop_none visit t goes = ap (λ b. cond b (Some t) None) goes

-- It stops at that task.
stop_some : (visit : Option Visit) (t : ℕ) → is_stopped visit ≡ true → stop_of visit t ≡ Some t
stop_some visit t stops = ap (λ b. cond b (Some t) None) stops

-- One of a list with one more number is of the list, or is that number.
with_cases : (s t : ℕ) (more : Bool) (P : List ℕ) → has_number s (with_number more t P) ≡ true → (has_number s P ≡ true) ⊎ (s ≡ t)
with_cases s t false P has = inl has
with_cases s t true P has = elim (eqb_tells s t) [
  | inl e ↦ inr e.1
  | inr e ↦ elim (has_number s P) as (λ b. has_number s P ≡ b → (has_number s P ≡ true) ⊎ (s ≡ t)) [
    | true ↦ λ is. inl is
    | false ↦ λ is. not_both (sym (ap (λ b. b || s == t) is ∙ e.0) ∙ sym (has_snoc s t P) ∙ has)
  ] refl
]

-- A number of a list is of the list with one more.
with_more : (s t : ℕ) (more : Bool) (P : List ℕ) → has_number s P ≡ true → has_number s (with_number more t P) ≡ true
with_more s t false P has = has
with_more s t true P has = has_snoc s t P ∙ ap (λ b. b || s == t) has

-- A value is one.
some_same : {t u : ℕ} → ◌≡◌ {A = Option ℕ} (Some t) (Some u) → t ≡ u
some_same {t} e = ap (λ (o : Option ℕ). elim o as (λ _. ℕ) [ None ↦ t | Some x ↦ x ]) e

module _ {J : Type 0} (polls cancels : J → ℕ) (aim : J → List ℕ) (now t : ℕ) (was mid is : ℕ → Option (Task J)) (P C D R : List ℕ)
    (visit : Option Visit) (turning : Turning polls cancels aim now was mid P C D (t ∷ R))
    (step : StepsTask polls cancels aim now (mid t) (is t) visit) (rest : (s : ℕ) → s ≢ t → is s ≡ mid s) where
  -- The turn's lists behind the step.
  turns_then : Turns polls cancels aim now was is (with_number (is_polled visit) t P) (with_number (is_polled visit && is_late now
      (mid t)) t C)
      (with_number (is_done visit) t D) (stop_of visit t)
  turns_then = next_turn polls cancels aim now t was mid is P C D visit turning.turns step rest (λ p polled. turning.before p t polled
      (first_in t R))

  -- The numbers still have each marked task.
  covers_then : Covers is (t ∷ R)
  covers_then = λ s marked. elim (eqb_tells s t) [
    | inl e ↦ subst (Contains (t ∷ R)) (sym e.1) (first_in t R)
    | inr e ↦ turning.covers s (sym (ap mark_of (rest s e.1)) ∙ marked)
  ]

  -- A step that goes on.
  pub turning_next : is_stopped visit ≡ false
      → Turning polls cancels aim now was is (with_number (is_polled visit) t P) (with_number (is_polled visit && is_late now (mid t)) t C)
      (with_number (is_done visit) t D) R
  turning_next goes = record {
    turns = subst (λ o. Turns polls cancels aim now was is (with_number (is_polled visit) t P) (with_number
        (is_polled visit && is_late now (mid t)) t C)
        (with_number (is_done visit) t D) o) (stop_none visit t goes) turns_then;
    before = λ p r polled has. elim (with_cases p t (is_polled visit) P polled) [
      | inl early ↦ let one = turning.before p t early (first_in t R) in let two = turning.rising.0 r has in omega (arith, one, two)
      | inr same ↦ subst (λ x. x ≤ r) (sym same) (turning.rising.0 r has)
    ];
    rising = turning.rising.1;
    covers = λ s marked. behind_first t s R (covers_then s marked)
        (λ same. not_both (sym (unmarked_after polls cancels aim now (mid t) (is t) visit step goes) ∙ subst (λ x. mark_of
        (is x) ≡ true) same marked));
  }

  -- A task that isn't polled before is as it was.
  mid_then : mark_of (mid t) ≡ true → mid t ≡ was t
  mid_then marked = elim (has_number t P) as (λ b. has_number t P ≡ b → mid t ≡ was t) [
    | true ↦ λ polled. absurd (not_some (turning.turns.marks t polled marked))
    | false ↦ λ out. turning.turns.left t out
  ] refl

  -- Each ready task before this one was polled.
  front_then : (s : ℕ) → s < t → mark_of (was s) ≡ true → has_number s P ≡ true
  front_then s below marked = elim (has_number s P) as (λ b. has_number s P ≡ b → has_number s P ≡ true) [
    | true ↦ λ polled. polled
    | false ↦ λ out.
        let has = turning.covers s (ap mark_of (turning.turns.left s out) ∙ marked) in
        let other : s ≢ t = λ e. let f : s ≡ t = e in omega (arith, below, f) in
        let upto = turning.rising.0 s (behind_first t s R has other) in absurd (omega (arith, below, upto))
  ] refl

  -- A step that ends the turn.
  pub turning_stops : is_stopped visit ≡ true
      → Turns polls cancels aim now was is (with_number (is_polled visit) t P) (with_number (is_polled visit && is_late now (mid t)) t C)
      (with_number (is_done visit) t D) (Some t) × Reaches was is (with_number (is_polled visit) t P) (Some t) × Covers is (t ∷ R)
  turning_stops stops =
      let kept = kept_at_stop polls cancels aim now (mid t) (is t) visit step stops in
      let at : StopsAt was is (with_number (is_polled visit) t P) t = record {
        ready = sym (ap mark_of (mid_then kept.0)) ∙ kept.0;
        kept = kept.1;
        last = λ s polled. elim (with_cases s t (is_polled visit) P polled) [
          | inl early ↦ turning.before s t early (first_in t R)
          | inr same ↦ let e : s ≡ t = same in omega (arith, e)
        ];
        front = λ s below marked. with_more s t (is_polled visit) P (front_then s below marked);
      } in (
        subst (λ o. Turns polls cancels aim now was is (with_number (is_polled visit) t P) (with_number (is_polled visit && is_late now
            (mid t)) t C)
            (with_number (is_done visit) t D) o) (stop_some visit t stops) turns_then,
        record {
          all = λ none. absurd (not_some (sym none));
          stop = λ u same. subst (λ x. StopsAt was is (with_number (is_polled visit) t P) x) (some_same same) at;
        },
        covers_then,
      )

-- A turn that is to come to all numbers.
pub turning_starts : {J : Type 0} (polls cancels : J → ℕ) (aim : J → List ℕ) (now : ℕ) (was : ℕ → Option (Task J)) (R : List ℕ)
    → Rising R → Covers was R → Turning polls cancels aim now was was [] [] [] R
turning_starts polls cancels aim now was R rising covers = record {
  turns = record {
    ascends = tt;
    ready = λ s polled. not_both polled;
    left = λ s out. refl;
    went = λ s polled. not_both polled;
    marks = λ s polled. not_both polled;
    asks = λ s. refl;
    ends = λ s. refl;
  };
  before = λ p r polled. not_both polled;
  rising = rising;
  covers = covers;
}

-- A marked task is there.
pub there_marked : {J : Type 0} (x : Option (Task J)) → mark_of x ≡ true → IsSome x
there_marked None marked = not_both marked
there_marked (Some task) marked = refl

-- The outputs behind a step.
pub outputs_next : {J O : Type 0} (aim : J → List ℕ) (meets : List ℕ → O → Type 0) (was mid : ℕ → Option (Task J)) (t : ℕ) (D : List ℕ)
    (before between after : List (ℕ × O)) (visit : Option Visit) → AddsOutputs aim meets was D before between
    → StepsOutput aim meets t (job_in (mid t)) between after visit → (is_done visit ≡ true → (mid t ≡ was t) × (mark_of (mid t) ≡ true))
    → AddsOutputs aim meets was (with_number (is_done visit) t D) before after
outputs_next aim meets was mid t D before between after None adds step same = subst (λ x. AddsOutputs aim meets was D before x)
    (sym step) adds
outputs_next aim meets was mid t D before between after (Some Pending) adds step same = subst
    (λ x. AddsOutputs aim meets was D before x) (sym step) adds
outputs_next aim meets was mid t D before between after (Some Short) adds step same = subst (λ x. AddsOutputs aim meets was D before x)
    (sym step) adds
outputs_next aim meets was mid t D before between after (Some Refused) adds step same = subst
    (λ x. AddsOutputs aim meets was D before x) (sym step) adds
outputs_next aim meets was mid t D before between after (Some Done) adds step same = record {
  outputs = adds.outputs ++ (t, step.out) ∷ [];
  added = step.added ∙ ap (λ x. x ++ (t, step.out) ∷ []) adds.added ∙ append_assoc before adds.outputs ((t, step.out) ∷ []);
  numbers = map-append (λ o. o.0) adds.outputs ((t, step.out) ∷ []) ∙ ap (λ x. x ++ t ∷ []) adds.numbers;
  meet = All-push (λ o. IsSome (was o.0) × meets (aim_in aim (job_in (was o.0))) o.1) adds.outputs (t, step.out) adds.meet (
    there_marked (was t) (sym (ap mark_of (same refl).0) ∙ (same refl).1),
    subst (λ x. meets (aim_in aim (job_in x)) step.out)
        (same refl).0 step.meet,
  );
}

-- A task that is done was marked.
done_marked : {J : Type 0} (polls cancels : J → ℕ) (aim : J → List ℕ) (now : ℕ) (was is : Option (Task J)) (visit : Option Visit)
    → StepsTask polls cancels aim now was is visit → is_done visit ≡ true → mark_of was ≡ true
done_marked polls cancels aim now was is None by ends = not_both ends
done_marked polls cancels aim now was is (Some visit) by ends = by.0

-- The outputs behind a step of a turn.
pub outputs_step : {J O : Type 0} (polls cancels : J → ℕ) (aim : J → List ℕ) (meets : List ℕ → O → Type 0) (now t : ℕ) (was mid is : ℕ
    → Option (Task J))
    (P C D R : List ℕ) (before between after : List (ℕ × O)) (visit : Option Visit) → Turning polls cancels aim now was mid P C D (t ∷ R)
    → StepsTask polls cancels aim now (mid t) (is t) visit → ((s : ℕ) → s ≢ t → is s ≡ mid s) → AddsOutputs aim meets was D before between
    → StepsOutput aim meets t (job_in (mid t)) between after visit → AddsOutputs aim meets was (with_number
    (is_done visit) t D) before after
outputs_step polls cancels aim meets now t was mid is P C D R before between after visit turning step rest adds out =
    outputs_next aim meets was mid t D before between after visit adds out
    (λ ends. let marked = done_marked polls cancels aim now (mid t) (is t) visit step ends in
    (mid_then polls cancels aim now t was mid is P C D R visit turning step rest marked, marked))
