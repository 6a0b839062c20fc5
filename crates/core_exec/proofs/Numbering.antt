-- The numbers of tasks, from call to call.
use Rattle.std.proofs.Common.{ℕ, ◌≡◌, ◌≢◌, ◌≤◌, ◌<◌, ◌∙◌, inl, inr, ap, sym, refl, subst, Bool, true, false, List, [], ◌∷◌, Some, None, arith}
use Rattle.std.specs.Prelude.{◌==◌, ◌||◌, Option, IsSome, is_some, nat_eq, option_map, cond, length}
use Rattle.std.specs.Map.{lookup}
use Rattle.std.proofs.lemmas.Bool.Decides.{eqb_tells}
use Rattle.core_exec.specs.declared.table.Task.{Task}
use Rattle.core_exec.specs.declared.visit.Visit.{Visit}
use Rattle.core_exec.specs.declared.visit.Visit.TheVariants.{Done, Pending, Short, Refused}
use Rattle.core_exec.specs.declared.numbers.Numbers.{Numbers}
use Rattle.core_exec.specs.declared.table.Table.{Table}
use Rattle.core_exec.specs.Tasks.{task_at}
use Rattle.core_exec.specs.Marks.{has_number, is_late, with_mark, ready_tasks}
use Rattle.core_exec.specs.Numbers.{AreNumbers, is_in}
use Rattle.core_exec.specs.Steps.{StepsTask, is_done}
use Rattle.core_exec.proofs.Marking.{not_both}
use Rattle.core_exec.proofs.Placing.{there_job}
use Rattle.core_exec.proofs.Reaching.{there_marked}

-- A number that is absent, and stays as it was, is absent.
pub absent_still : (t : ℕ) (before after : Numbers) → ((s : ℕ) → is_in after s ≡ is_in before s) → is_in before t ≡ false
    → is_in after t ≡ false
absent_still t before after same absent = same t ∙ absent

module _ {J : Type 0} where
  -- Without tasks there are no numbers.
  pub numbers_none : (tasks : ℕ → Option (Task J)) (numbers : Numbers) → ((s : ℕ) → tasks s ≡ None) → ((s : ℕ) → is_in numbers s ≡ false)
      → AreNumbers tasks numbers
  numbers_none tasks numbers gone none s = none s ∙ sym (ap is_some (gone s))

  -- A mark leaves whether there is a task.
  there_marking : (b : Bool) (x : Option (Task J)) → is_some (option_map (with_mark b) x) ≡ is_some x
  there_marking b None = refl
  there_marking b (Some task) = refl

  -- The ready tasks have the numbers that the tasks had,
  pub numbers_ready : (now : ℕ) (named : List ℕ) (was mid : ℕ → Option (Task J)) (before after : Numbers)
      → ((s : ℕ) → mid s ≡ ready_tasks now named was s) → after ≡ before → AreNumbers was before → AreNumbers mid after
  numbers_ready now named was mid before after each same are s =
      ap (λ x. is_in x s) same ∙ are s ∙ sym (ap is_some (each s) ∙ there_marking (has_number s named || is_late now (was s)) (was s))

  -- and so have those of which one is woken.
  pub numbers_woken : (t : ℕ) (was is : ℕ → Option (Task J)) (before after : Numbers)
      → ((s : ℕ) → is s ≡ option_map (with_mark (s == t)) (was s)) → after ≡ before → AreNumbers was before → AreNumbers is after
  numbers_woken t was is before after each same are s =
      ap (λ x. is_in x s) same ∙ are s ∙ sym (ap is_some (each s) ∙ there_marking (s == t) (was s))

  -- Where one task changes they are the numbers still if that one's is, or isn't, among them as the task is there or not.
  pub numbers_but_one : (t : ℕ) (was is : ℕ → Option (Task J)) (before after : Numbers) → is_in after t ≡ is_some (is t)
      → ((s : ℕ) → s ≢ t → is_in after s ≡ is_in before s) → ((s : ℕ) → s ≢ t → is s ≡ was s) → AreNumbers was before
      → AreNumbers is after
  numbers_but_one t was is before after this others rest are s = elim (eqb_tells s t) [
    | inl e ↦ subst (λ x. is_in after x ≡ is_some (is x)) (sym e.1) this
    | inr e ↦ others s e.1 ∙ are s ∙ sym (ap is_some (rest s e.1))
  ]

  -- So it is behind a step of a turn.
  pub numbers_behind_step : (polls cancels : J → ℕ) (aim : J → List ℕ) (now t : ℕ) (was is : ℕ → Option (Task J)) (before after : Numbers)
      (visit : Option Visit) → StepsTask polls cancels aim now (was t) (is t) visit → ((s : ℕ) → s ≢ t → is s ≡ was s)
      → (is_done visit ≡ true → is_in after t ≡ false) → ((s : ℕ) → s ≢ t → is_in after s ≡ is_in before s)
      → (is_done visit ≡ false → (s : ℕ) → is_in after s ≡ is_in before s) → AreNumbers was before → AreNumbers is after
  numbers_behind_step polls cancels aim now t was is before after visit step rest gone others stays are =
      numbers_but_one t was is before after (this visit step gone stays) others rest are
    where
      this : (v : Option Visit) → StepsTask polls cancels aim now (was t) (is t) v → (is_done v ≡ true → is_in after t ≡ false)
          → (is_done v ≡ false → (s : ℕ) → is_in after s ≡ is_in before s) → is_in after t ≡ is_some (is t)
      this None step gone stays = stays refl t ∙ are t ∙ sym (ap is_some step.1)
      this (Some Done) step gone stays = gone refl ∙ sym (ap is_some step.1)
      this (Some Pending) step gone stays =
          stays refl t ∙ are t ∙ there_marked (was t) step.0 ∙ sym (there_job (is t) step.1.0.there)
      this (Some Short) step gone stays =
          stays refl t ∙ are t ∙ there_marked (was t) step.0 ∙ sym (there_job (is t) step.1.0.there)
      this (Some Refused) step gone stays = stays refl t ∙ are t ∙ sym (ap is_some step.1.0)

  -- The number that is to be spawned next is absent.
  pub absent_number : (spawned : ℕ) (tasks : ℕ → Option (Task J)) (numbers : Numbers) → ((t : ℕ) → IsSome (tasks t) → t < spawned)
      → AreNumbers tasks numbers → is_in numbers spawned ≡ false
  absent_number spawned tasks numbers below are = are spawned ∙ elim (is_some (tasks spawned))
      as (λ b. is_some (tasks spawned) ≡ b → b ≡ false) [
        | true ↦ λ there. (let low = below spawned there in absurd (omega (arith, low)))
        | false ↦ λ gone. refl
      ] refl

  -- The lowest number is that of the lowest task.
  pub first_number : (t : ℕ) (tasks : ℕ → Option (Task J)) (numbers : Numbers) → AreNumbers tasks numbers
      → (is_in numbers t ≡ true) × ((s : ℕ) → is_in numbers s ≡ true → t ≤ s)
      → IsSome (tasks t) × ((s : ℕ) → IsSome (tasks s) → t ≤ s)
  first_number t tasks numbers are first = (sym (are t) ∙ first.0, λ s there. first.1 s (are s ∙ there))

  -- Without a task there is no entry.
  no_entry : (es : List (ℕ × Task J)) → ((s : ℕ) → is_some (lookup (nat_eq s) es) ≡ false) → ◌≡◌ {A = ℕ} (length es) 0
  no_entry [] none = refl
  no_entry (e ∷ es) none =
      let here : nat_eq e.0 e.0 ≡ true = grind arith in
      not_both (sym (none e.0) ∙ ap (λ b. is_some (cond b (Some e.1) (lookup (nat_eq e.0) es))) here)

  -- With no number no task is left.
  pub none_left : (table : Table J) (numbers : Numbers) → AreNumbers (task_at table) numbers → ((s : ℕ) → is_in numbers s ≡ false)
      → ◌≡◌ {A = ℕ} (length table.map.entries) 0
  none_left table numbers are none = no_entry table.map.entries (λ s. sym (are s) ∙ none s)
