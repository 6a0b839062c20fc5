-- Marks of several numbers, one after another.
use Rattle.std.proofs.Common.{ℕ, ◌≡◌, ◌+◌, ◌∙◌, ap, sym, refl, subst, Bool, cond, List, [], ◌∷◌, ◌++◌, Some, None, length}
use Rattle.std.specs.Prelude.{◌||◌, ◌==◌, Option, is_some, option_map}
use Rattle.core_exec.specs.declared.table.Task.{Task}
use Rattle.core_exec.specs.Marks.{has_number, is_late, ready_tasks, with_mark}
use Rattle.core_exec.specs.Places.{StayPlaced, outputs_at}
use Rattle.core_exec.proofs.Marking.{no_mark, or_assoc, two_marks}
use Rattle.core_exec.proofs.Placing.{places_ready}
use Rattle.core_exec.specs.Tasks.{AreWaiting}
use Rattle.core_exec.specs.Turns.{AddsOutputs, Reaches, Turns}
use Rattle.exec_wake.specs.Wakes.{MarksTasks}

-- Those that are marked, and then those that are left to mark, are all.
pub record MarksRest {J : Type 0} (all rest : List ℕ) (was is : ℕ → Option (Task J)) : Type 0 where
  pub marks : (s : ℕ) → option_map (with_mark (has_number s rest)) (is s) ≡ option_map (with_mark (has_number s all)) (was s)

-- At first all are left to mark.
pub marks_none : {J : Type 0} (all : List ℕ) (tasks : ℕ → Option (Task J)) → MarksRest all all tasks tasks
marks_none all tasks = record { marks = λ s. refl }

-- One more is marked.
pub marks_next : {J : Type 0} (all rest : List ℕ) (t : ℕ) (was mid is : ℕ → Option (Task J)) → MarksRest all (t ∷ rest) was mid
    → ((s : ℕ) → is s ≡ option_map (with_mark (s == t)) (mid s)) → MarksRest all rest was is
marks_next all rest t was mid is marks one = record {
  marks = λ s. ap (λ x. option_map (with_mark (has_number s rest)) x) (one s)
      ∙ two_marks (s == t) (has_number s rest) (mid s) ∙ marks.marks s;
}

-- At the end none is left.
pub marks_all : {J : Type 0} (all : List ℕ) (was is : ℕ → Option (Task J)) → MarksRest all [] was is → MarksTasks all was is
marks_all all was is marks s = sym (no_mark (is s)) ∙ marks.marks s

-- Numbers are in one list or in the other.
has_both : (s : ℕ) (xs ys : List ℕ) → has_number s (xs ++ ys) ≡ (has_number s xs || has_number s ys)
has_both s [] ys = refl
has_both s (x ∷ xs) ys = ap (λ b. s == x || b) (has_both s xs ys) ∙ sym (or_assoc (s == x) (has_number s xs) (has_number s ys))

-- Marks of two lists, one behind the other, are those of both.
pub marks_both : {J : Type 0} (xs ys : List ℕ) (was mid is : ℕ → Option (Task J)) → MarksTasks xs was mid → MarksTasks ys mid is
    → MarksTasks (xs ++ ys) was is
marks_both xs ys was mid is first second s =
    second s ∙ ap (λ x. option_map (with_mark (has_number s ys)) x) (first s) ∙ two_marks (has_number s xs) (has_number s ys) (was s)
    ∙ ap (λ b. option_map (with_mark b) (was s)) (sym (has_both s xs ys))

-- A mark makes no task late.
late_same : {J : Type 0} (now : ℕ) (b : Bool) (x : Option (Task J)) → is_late now (option_map (with_mark b) x) ≡ is_late now x
late_same now b None = refl
late_same now b (Some task) = refl

-- The ready tasks of a turn that names some numbers behind such marks are those of a turn that names all.
pub ready_behind : {J : Type 0} (now : ℕ) (marked named : List ℕ) (was is : ℕ → Option (Task J)) → MarksTasks marked was is
    → (s : ℕ) → ready_tasks now named is s ≡ ready_tasks now (marked ++ named) was s
ready_behind now marked named was is marks s =
    ap (λ x. option_map (with_mark (has_number s named || is_late now x)) x) (marks s)
    ∙ ap (λ l. option_map (with_mark (has_number s named || l)) (option_map (with_mark (has_number s marked)) (was s)))
    (late_same now (has_number s marked) (was s))
    ∙ two_marks (has_number s marked) (has_number s named || is_late now (was s)) (was s)
    ∙ ap (λ b. option_map (with_mark b) (was s))
    (sym (or_assoc (has_number s marked) (has_number s named) (is_late now (was s)))
    ∙ ap (λ b. b || is_late now (was s)) (sym (has_both s marked named)))

-- So a turn behind such marks is one that names all.
pub turned_all : {J : Type 0} (polls cancels : J → ℕ) (aim : J → List ℕ) (now : ℕ) (marked named : List ℕ)
    (was mid is : ℕ → Option (Task J)) (polled canceled done : List ℕ) (stopped : Option ℕ) → MarksTasks marked was mid
    → Turns polls cancels aim now (ready_tasks now named mid) is polled canceled done stopped
    → Turns polls cancels aim now (ready_tasks now (marked ++ named) was) is polled canceled done stopped
turned_all polls cancels aim now marked named was mid is polled canceled done stopped marks turns =
    let same : ready_tasks now named mid ≡ ready_tasks now (marked ++ named) was = λ i s. ready_behind now marked named was mid marks s i in
    subst (λ x. Turns polls cancels aim now x is polled canceled done stopped) same turns

-- It reaches as many of these.
pub reached_all : {J : Type 0} (now : ℕ) (marked named : List ℕ) (was mid is : ℕ → Option (Task J)) (polled : List ℕ) (stopped : Option ℕ)
    → MarksTasks marked was mid → Reaches (ready_tasks now named mid) is polled stopped
    → Reaches (ready_tasks now (marked ++ named) was) is polled stopped
reached_all now marked named was mid is polled stopped marks reaches =
    let same : ready_tasks now named mid ≡ ready_tasks now (marked ++ named) was = λ i s. ready_behind now marked named was mid marks s i in
    subst (λ x. Reaches x is polled stopped) same reaches

-- The outputs of those that are done join the others.
pub added_all : {J O : Type 0} (aim : J → List ℕ) (meets : List ℕ → O → Type 0) (now : ℕ) (marked named : List ℕ)
    (was mid : ℕ → Option (Task J)) (done : List ℕ) (before between after : List (ℕ × O)) → MarksTasks marked was mid → between ≡ before
    → AddsOutputs aim meets (ready_tasks now named mid) done between after
    → AddsOutputs aim meets (ready_tasks now (marked ++ named) was) done before after
added_all aim meets now marked named was mid done before between after marks outputs adds =
    let same : ready_tasks now named mid ≡ ready_tasks now (marked ++ named) was = λ i s. ready_behind now marked named was mid marks s i in
    subst (λ x. AddsOutputs aim meets x done before after) same
    (subst (λ x. AddsOutputs aim meets (ready_tasks now named mid) done x after) outputs adds)

-- Where no task was polled, these are marked.
pub marked_all : {J : Type 0} (now : ℕ) (marked named : List ℕ) (was mid is : ℕ → Option (Task J)) → MarksTasks marked was mid
    → ((s : ℕ) → is s ≡ ready_tasks now named mid s) → (s : ℕ) → is s ≡ ready_tasks now (marked ++ named) was s
marked_all now marked named was mid is marks same s = same s ∙ ready_behind now marked named was mid marks s

-- A turn behind such marks leaves each task in as many places.
stay_all : {J O : Type 0} (marked : List ℕ) (was mid is : ℕ → Option (Task J)) (before after : List (ℕ × O)) → MarksTasks marked was mid
    → StayPlaced mid before is after → StayPlaced was before is after
stay_all marked was mid is before after marks stay t =
    stay t ∙ (ap (λ x. outputs_at before t + cond (is_some x) 1 0) (marks t) ∙ places_ready (has_number t marked) before t (was t))

-- So it loses none, and there are as many unfinished tasks and outputs in all.
pub placed_all : {J O : Type 0} (marked : List ℕ) (was mid is : ℕ → Option (Task J)) (before between after : List (ℕ × O)) (n m k : ℕ)
    → MarksTasks marked was mid → between ≡ before → m ≡ n
    → StayPlaced mid between is after × (length after + k ≡ length between + m)
    → StayPlaced was before is after × (length after + k ≡ length before + n)
placed_all marked was mid is before between after n m k marks outputs counts stay = (
  stay_all marked was mid is before after marks (subst (λ x. StayPlaced mid x is after) outputs stay.0),
  stay.1 ∙ (ap (λ x. length x + m) outputs ∙ ap (λ x. length before + x) counts),
)

-- Tasks that wait where all that a turn names are ready wait where some of these are marked before.
pub waiting_all : {D J : Type 0} (waits : D → ℕ → J → Type 0) (now : ℕ) (marked named : List ℕ) (old mid : D)
    (was between : ℕ → Option (Task J)) → MarksTasks marked was between → mid ≡ old
    → AreWaiting waits old (ready_tasks now (marked ++ named) was) → AreWaiting waits mid (ready_tasks now named between)
waiting_all waits now marked named old mid was between marks driver waiting =
    let same : ready_tasks now (marked ++ named) was ≡ ready_tasks now named between
    = λ i s. sym (ready_behind now marked named was between marks s) i in
    subst (λ d. AreWaiting waits d (ready_tasks now named between)) (sym driver) (subst (AreWaiting waits old) same waiting)
