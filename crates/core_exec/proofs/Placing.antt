-- In how many places a task is, behind a step of a turn, and from call to call.
use Rattle.std.proofs.Common.{ℕ, ◌≡◌, ◌≢◌, ◌≤◌, ◌<◌, ◌+◌, ◌∙◌, inl, inr, ap, sym, refl, subst, Bool, true, false, cond, List, [], ◌∷◌, Some, None}
use Rattle.std.proofs.Common.{arith}
use Rattle.std.specs.Prelude.{◌++◌, ◌==◌, ◌||◌, Option, IsSome, is_some, option_map}
use Rattle.std.specs.List.Sorted.{IsPermutation}
use Rattle.std.proofs.lemmas.Bool.Decides.{eqb_tells}
use Rattle.std.proofs.lemmas.List.Sorted.{sum_by-IsPermutation}
use Rattle.std.proofs.lemmas.List.Sums.{sum_by_push}
use Rattle.core_exec.specs.declared.table.Task.{Task}
use Rattle.core_exec.specs.declared.visit.Visit.{Visit}
use Rattle.core_exec.specs.declared.visit.Visit.TheVariants.{Done, Pending, Short, Refused}
use Rattle.core_exec.specs.Tasks.{job_in}
use Rattle.core_exec.specs.Marks.{has_number, is_late, with_mark, ready_tasks}
use Rattle.core_exec.specs.Places.{ArePlaced, StayPlaced, outputs_at, places}
use Rattle.core_exec.specs.Steps.{StepsTask, StepsOutput}
use Rattle.core_exec.specs.Exec.{fresh}
use Rattle.core_exec.proofs.Marking.{not_both}
use Rattle.core_exec.proofs.Reaching.{there_marked}

-- An output joins others.
outputs_push : {O : Type 0} (outputs : List (ℕ × O)) (t s : ℕ) (out : O)
    → outputs_at (outputs ++ (t, out) ∷ []) s ≡ outputs_at outputs s + cond (t == s) 1 0
outputs_push outputs t s out = sum_by_push (λ o. cond (o.0 == s) 1 0) outputs (t, out)

-- A task that has its job is there.
pub there_job : {J : Type 0} (x : Option (Task J)) → IsSome (job_in x) → is_some x ≡ true
there_job None there = not_both there
there_job (Some task) there = refl

-- The place of the task that a step is at.
place_at : {J O : Type 0} (polls cancels : J → ℕ) (aim : J → List ℕ) (meets : List ℕ → O → Type 0) (now t : ℕ)
    (was is : Option (Task J)) (between after : List (ℕ × O)) (visit : Option Visit) → StepsTask polls cancels aim now was is visit
    → StepsOutput aim meets t (job_in was) between after visit
    → outputs_at after t + cond (is_some is) 1 0 ≡ outputs_at between t + cond (is_some was) 1 0
place_at polls cancels aim meets now t was is between after None step out =
    ap (λ x. outputs_at x t + cond (is_some is) 1 0) out ∙ ap (λ x. outputs_at between t + cond (is_some x) 1 0) step.1
place_at polls cancels aim meets now t was is between after (Some Done) step out =
    let gone : ◌≡◌ {A = ℕ} (cond (is_some is) 1 0) 0 = ap (λ x. cond (is_some x) 1 0) step.1 in
    let there : ◌≡◌ {A = ℕ} (cond (is_some was) 1 0) 1 = ap (λ b. cond b 1 0) (there_marked was step.0) in
    let more : outputs_at after t ≡ outputs_at between t + cond (t == t) 1 0
    = ap (λ x. outputs_at x t) out.added ∙ outputs_push between t t out.out in
    let one : ◌≡◌ {A = ℕ} (cond (t == t) 1 0) 1 = grind arith in
    omega (arith, gone, there, more, one)
place_at polls cancels aim meets now t was is between after (Some Pending) step out =
    let here : ◌≡◌ {A = ℕ} (cond (is_some is) 1 0) 1 = ap (λ b. cond b 1 0) (there_job is step.1.0.there) in
    let there : ◌≡◌ {A = ℕ} (cond (is_some was) 1 0) 1 = ap (λ b. cond b 1 0) (there_marked was step.0) in
    let same : outputs_at after t ≡ outputs_at between t = ap (λ x. outputs_at x t) out in
    omega (arith, here, there, same)
place_at polls cancels aim meets now t was is between after (Some Short) step out =
    let here : ◌≡◌ {A = ℕ} (cond (is_some is) 1 0) 1 = ap (λ b. cond b 1 0) (there_job is step.1.0.there) in
    let there : ◌≡◌ {A = ℕ} (cond (is_some was) 1 0) 1 = ap (λ b. cond b 1 0) (there_marked was step.0) in
    let same : outputs_at after t ≡ outputs_at between t = ap (λ x. outputs_at x t) out in
    omega (arith, here, there, same)
place_at polls cancels aim meets now t was is between after (Some Refused) step out =
    ap (λ x. outputs_at x t + cond (is_some is) 1 0) out ∙ ap (λ x. outputs_at between t + cond (is_some x) 1 0) step.1.0

-- The outputs of another task.
outputs_other : {J O : Type 0} (aim : J → List ℕ) (meets : List ℕ → O → Type 0) (t s : ℕ) (was : Option J) (between after : List (ℕ × O))
    (visit : Option Visit) → s ≢ t → StepsOutput aim meets t was between after visit → outputs_at after s ≡ outputs_at between s
outputs_other aim meets t s was between after None other out = ap (λ x. outputs_at x s) out
outputs_other aim meets t s was between after (Some Done) other out =
    let none : ◌≡◌ {A = ℕ} (cond (t == s) 1 0) 0 = grind arith in
    let more = ap (λ x. outputs_at x s) out.added ∙ outputs_push between t s out.out in
    omega (arith, more, none)
outputs_other aim meets t s was between after (Some Pending) other out = ap (λ x. outputs_at x s) out
outputs_other aim meets t s was between after (Some Short) other out = ap (λ x. outputs_at x s) out
outputs_other aim meets t s was between after (Some Refused) other out = ap (λ x. outputs_at x s) out

-- A step leaves each task in as many places.
pub places_step : {J O : Type 0} (polls cancels : J → ℕ) (aim : J → List ℕ) (meets : List ℕ → O → Type 0) (now t : ℕ)
    (was is : ℕ → Option (Task J)) (between after : List (ℕ × O)) (visit : Option Visit)
    → StepsTask polls cancels aim now (was t) (is t) visit → ((s : ℕ) → s ≢ t → is s ≡ was s)
    → StepsOutput aim meets t (job_in (was t)) between after visit → (s : ℕ) → places is after s ≡ places was between s
places_step polls cancels aim meets now t was is between after visit step rest out s = elim (eqb_tells s t) [
  | inl e ↦ subst (λ x. places is after x ≡ places was between x) (sym e.1)
      (place_at polls cancels aim meets now t (was t) (is t) between after visit step out)
  | inr e ↦
      ap (λ n. n + cond (is_some (is s)) 1 0) (outputs_other aim meets t s (job_in (was t)) between after visit e.1 out)
      ∙ ap (λ x. outputs_at between s + cond (is_some x) 1 0) (rest s e.1)
]

-- Marks leave each task in its places.
pub places_ready : {J O : Type 0} (b : Bool) (outputs : List (ℕ × O)) (t : ℕ) (x : Option (Task J))
    → outputs_at outputs t + cond (is_some (option_map (with_mark b) x)) 1 0 ≡ outputs_at outputs t + cond (is_some x) 1 0
places_ready b outputs t None = refl
places_ready b outputs t (Some task) = refl

-- The ready tasks of a turn are in the places that tasks were in,
pub stay_marked : {J O : Type 0} (now : ℕ) (named : List ℕ) (was mid : ℕ → Option (Task J)) (outputs : List (ℕ × O))
    → ((s : ℕ) → mid s ≡ ready_tasks now named was s) → StayPlaced was outputs mid outputs
stay_marked now named was mid outputs each t =
    ap (λ x. outputs_at outputs t + cond (is_some x) 1 0) (each t)
    ∙ places_ready (has_number t named || is_late now (was t)) outputs t (was t)

-- and so are those behind it.
pub stay_turn : {J O : Type 0} (now : ℕ) (named : List ℕ) (was mid is : ℕ → Option (Task J)) (before after : List (ℕ × O))
    → ((s : ℕ) → mid s ≡ ready_tasks now named was s) → StayPlaced mid before is after → StayPlaced was before is after
stay_turn now named was mid is before after each stay t = stay t ∙ stay_marked now named was mid before each t

-- Tasks that are in as many places are in one at most, still.
pub placed_kept : {J O : Type 0} (spawned : ℕ) (was is : ℕ → Option (Task J)) (before after : List (ℕ × O))
    → ((t : ℕ) → IsSome (was t) → t < spawned) → StayPlaced was before is after → ArePlaced spawned was before
    → ArePlaced spawned is after
placed_kept spawned was is before after numbers stay placed = record {
  once = λ t. subst (λ n. n ≤ 1) (sym (stay t)) (placed.once t);
  of_spawned = λ t late.
      let none : ◌≡◌ {A = ℕ} (cond (is_some (was t)) 1 0) 0 = elim (is_some (was t))
      as (λ b. is_some (was t) ≡ b → ◌≡◌ {A = ℕ} (cond b 1 0) 0) [
        | true ↦ λ there. (let low = numbers t there in absurd (omega (arith, low, late)))
        | false ↦ λ gone. refl
      ] refl in
      let same = stay t in
      let out = placed.of_spawned t late in omega (arith, none, same, out);
}

-- So it is of the ready tasks of a turn,
pub placed_marked : {J O : Type 0} (spawned now : ℕ) (named : List ℕ) (was mid : ℕ → Option (Task J)) (outputs : List (ℕ × O))
    → ((s : ℕ) → mid s ≡ ready_tasks now named was s) → ((t : ℕ) → IsSome (was t) → t < spawned) → ArePlaced spawned was outputs
    → ArePlaced spawned mid outputs
placed_marked spawned now named was mid outputs each numbers placed =
    placed_kept spawned was mid outputs outputs numbers (stay_marked now named was mid outputs each) placed

-- and of those behind it.
pub placed_turn : {J O : Type 0} (spawned now : ℕ) (named : List ℕ) (was mid is : ℕ → Option (Task J)) (before after : List (ℕ × O))
    → ((s : ℕ) → mid s ≡ ready_tasks now named was s) → StayPlaced mid before is after → ((t : ℕ) → IsSome (was t) → t < spawned)
    → ArePlaced spawned was before → ArePlaced spawned is after
placed_turn spawned now named was mid is before after each stay numbers placed =
    placed_kept spawned was is before after numbers (stay_turn now named was mid is before after each stay) placed

-- So it is where one task is woken.
pub placed_woken : {J O : Type 0} (t spawned now : ℕ) (was is : ℕ → Option (Task J)) (before after : List (ℕ × O)) → now ≡ spawned
    → ((s : ℕ) → is s ≡ option_map (with_mark (s == t)) (was s)) → after ≡ before → ArePlaced spawned was before → ArePlaced now is after
placed_woken t spawned now was is before after numbers each outputs placed = record {
  once = λ s. subst (λ n. n ≤ 1) (sym (
      ap (λ x. outputs_at x s + cond (is_some (is s)) 1 0) outputs ∙ ap (λ x. outputs_at before s + cond (is_some x) 1 0) (each s)
      ∙ places_ready (s == t) before s (was s))) (placed.once s);
  of_spawned = λ s late. ap (λ x. outputs_at x s) outputs ∙ placed.of_spawned s (subst (λ n. n ≤ s) numbers late);
}

-- The same tasks and outputs are in the same places.
pub placed_same : {J O : Type 0} (spawned now : ℕ) (was is : ℕ → Option (Task J)) (before after : List (ℕ × O)) → now ≡ spawned
    → ((s : ℕ) → is s ≡ was s) → after ≡ before → ArePlaced spawned was before → ArePlaced now is after
placed_same spawned now was is before after numbers tasks outputs placed = record {
  once = λ t. subst (λ x. outputs_at x t + cond (is_some (is t)) 1 0 ≤ 1) (sym outputs)
      (subst (λ x. outputs_at before t + cond (is_some x) 1 0 ≤ 1) (sym (tasks t)) (placed.once t));
  of_spawned = λ t late. ap (λ x. outputs_at x t) outputs ∙ placed.of_spawned t (subst (λ n. n ≤ t) numbers late);
}

-- A task that is spawned gets a place of its own.
pub placed_spawn : {J O : Type 0} (t now : ℕ) (was is : ℕ → Option (Task J)) (before after : List (ℕ × O)) (job : J) (deadline : Option ℕ)
    → now ≡ t + 1 → is t ≡ Some (fresh job deadline) → ((s : ℕ) → s ≢ t → is s ≡ was s) → after ≡ before → ArePlaced t was before
    → ArePlaced now is after
placed_spawn t now was is before after job deadline next this rest outputs placed = record {
  once = λ s. subst (λ x. outputs_at x s + cond (is_some (is s)) 1 0 ≤ 1) (sym outputs) (elim (eqb_tells s t) [
    | inl e ↦ subst (λ x. outputs_at before x + cond (is_some (is x)) 1 0 ≤ 1) (sym e.1)
        (let none = placed.of_spawned t (omega arith) in
        let one : ◌≡◌ {A = ℕ} (cond (is_some (is t)) 1 0) 1 = ap (λ x. cond (is_some x) 1 0) this in omega (arith, none, one))
    | inr e ↦ subst (λ x. outputs_at before s + cond (is_some x) 1 0 ≤ 1) (sym (rest s e.1)) (placed.once s)
  ]);
  of_spawned = λ s late. ap (λ x. outputs_at x s) outputs ∙ placed.of_spawned s (omega (arith, late, next));
}

-- A task that is taken out leaves its place.
pub placed_out : {J O : Type 0} (t spawned now : ℕ) (was is : ℕ → Option (Task J)) (before after : List (ℕ × O)) → now ≡ spawned
    → is t ≡ None → ((s : ℕ) → s ≢ t → is s ≡ was s) → after ≡ before → ArePlaced spawned was before → ArePlaced now is after
placed_out t spawned now was is before after numbers gone rest outputs placed = record {
  once = λ s. subst (λ x. outputs_at x s + cond (is_some (is s)) 1 0 ≤ 1) (sym outputs) (elim (eqb_tells s t) [
    | inl e ↦ subst (λ x. outputs_at before x + cond (is_some (is x)) 1 0 ≤ 1) (sym e.1)
        (let few = placed.once t in
        let none : ◌≡◌ {A = ℕ} (cond (is_some (is t)) 1 0) 0 = ap (λ x. cond (is_some x) 1 0) gone in omega (arith, few, none))
    | inr e ↦ subst (λ x. outputs_at before s + cond (is_some x) 1 0 ≤ 1) (sym (rest s e.1)) (placed.once s)
  ]);
  of_spawned = λ s late. ap (λ x. outputs_at x s) outputs ∙ placed.of_spawned s (subst (λ n. n ≤ s) numbers late);
}

-- Outputs that are taken leave theirs.
pub placed_taken : {J O : Type 0} (spawned now : ℕ) (was is : ℕ → Option (Task J)) (before after : List (ℕ × O)) → now ≡ spawned
    → ((s : ℕ) → is s ≡ was s) → after ≡ [] → ArePlaced spawned was before → ArePlaced now is after
placed_taken spawned now was is before after numbers tasks none placed = record {
  once = λ t. subst (λ x. outputs_at x t + cond (is_some (is t)) 1 0 ≤ 1) (sym none)
      (let few = placed.once t in
      let same : ◌≡◌ {A = ℕ} (cond (is_some (is t)) 1 0) (cond (is_some (was t)) 1 0) = ap (λ x. cond (is_some x) 1 0) (tasks t) in
      omega (arith, few, same));
  of_spawned = λ t late. ap (λ x. outputs_at x t) none;
}

-- Outputs in another order are as many of each task.
pub outputs_moved : {O : Type 0} (before taken : List (ℕ × O)) → IsPermutation before taken → (t : ℕ)
    → outputs_at taken t ≡ outputs_at before t
outputs_moved before taken moved t = sum_by-IsPermutation (λ o. cond (o.0 == t) 1 0) before taken moved

-- Of those each task has one at most.
pub taken_once : {J O : Type 0} (spawned : ℕ) (tasks : ℕ → Option (Task J)) (before taken : List (ℕ × O)) → IsPermutation before taken
    → ArePlaced spawned tasks before → (t : ℕ) → outputs_at taken t ≤ 1
taken_once spawned tasks before taken moved placed t =
    let few = placed.once t in let same = outputs_moved before taken moved t in omega (arith, few, same)

-- A task that wasn't spawned has none of them.
pub taken_spawned : {J O : Type 0} (spawned : ℕ) (tasks : ℕ → Option (Task J)) (before taken : List (ℕ × O)) → IsPermutation before taken
    → ArePlaced spawned tasks before → (t : ℕ) → spawned ≤ t → outputs_at taken t ≡ 0
taken_spawned spawned tasks before taken moved placed t late = outputs_moved before taken moved t ∙ placed.of_spawned t late
