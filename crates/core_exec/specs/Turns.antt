-- What a turn makes of all tasks. Cited by `Exec::turn`.
use Rattle.std.specs.Prelude.{◌+◌, ℕ, ◌≡◌, ◌≤◌, ◌<◌, ◌++◌, ◌&&◌, not, is_some, true}
use Rattle.std.specs.Prelude.{false, cond, List, [], ◌∷◌, map, Option, Some, None, IsSome}
use Rattle.std.specs.List.{All}
use Rattle.std.specs.Vec.{vec_len, vec_capacity}
use Rattle.std.specs.Global.{Vec}
use Rattle.core_exec.specs.declared.table.Task.{Task}
use Rattle.core_exec.specs.declared.turn.Ran.{Ran}
use Rattle.core_exec.specs.Tasks.{job_in, mark_of, canceled_of, count_in, aim_in}
use Rattle.core_exec.specs.Polls.{IsPolled}
use Rattle.core_exec.specs.Marks.{has_number, is_late}

-- Each number is below all those behind it.
abbrev pub AllAbove : ℕ → List ℕ → Type 0
AllAbove n [] = Unit {0}
AllAbove n (m ∷ numbers) = (n < m) × AllAbove n numbers

abbrev pub Ascends : List ℕ → Type 0
Ascends [] = Unit {0}
Ascends (n ∷ numbers) = AllAbove n numbers × Ascends numbers

-- Where memory ran out at a task: it was ready and is marked still; each task that was polled is up to it, and each ready task before it
-- was polled.
pub record StopsAt {J : Type 0} (was is : ℕ → Option (Task J)) (polled : List ℕ) (t : ℕ) : Type 0 where
  pub ready : mark_of (was t) ≡ true
  pub kept : mark_of (is t) ≡ true
  pub last : (s : ℕ) → has_number s polled ≡ true → s ≤ t
  pub front : (s : ℕ) → s < t → mark_of (was s) ≡ true → has_number s polled ≡ true

-- What a turn makes of tasks, of which the ready ones are marked: those that it polled, ascending; those that it canceled; those that are
-- done; and the task at which memory ran out, if it did.
pub record Turns {J : Type 0} (polls cancels : J → ℕ) (aim : J → List ℕ) (now : ℕ) (was is : ℕ → Option (Task J))
    (polled canceled done : List ℕ)
    (stopped : Option ℕ) : Type 0 where
  pub ascends : Ascends polled
  -- only ready tasks are polled
  pub ready : (s : ℕ) → has_number s polled ≡ true → mark_of (was s) ≡ true
  -- a task that isn't polled is as it was
  pub left : (s : ℕ) → has_number s polled ≡ false → is s ≡ was s
  -- a task that is polled was polled once, and its cancel was asked for once if it was late, and else not
  pub went : (s : ℕ) → has_number s polled ≡ true → IsSome (is s) → IsPolled polls cancels aim (is_late now (was s)) (was s) (is s)
  -- its mark goes, unless memory ran out at it
  pub marks : (s : ℕ) → has_number s polled ≡ true → mark_of (is s) ≡ true → stopped ≡ Some s
  -- those that were canceled are those that were late; those that are done are unfinished no more
  pub asks : (s : ℕ) → has_number s canceled ≡ (has_number s polled && is_late now (was s))
  pub ends : (s : ℕ) → has_number s done ≡ (has_number s polled && not (is_some (is s)))

-- All ready tasks were polled, or those up to the one at which memory ran out.
pub record Reaches {J : Type 0} (was is : ℕ → Option (Task J)) (polled : List ℕ) (stopped : Option ℕ) : Type 0 where
  pub all : stopped ≡ None → (s : ℕ) → mark_of (was s) ≡ true → has_number s polled ≡ true
  pub stop : (t : ℕ) → stopped ≡ Some t → StopsAt was is polled t

-- The outputs of the tasks that are done, in that order, each with its task, join the others. Each task was there, and its output meets its
-- job's aim.
pub record AddsOutputs {J O : Type 0} (aim : J → List ℕ) (meets : List ℕ → O → Type 0) (was : ℕ → Option (Task J)) (done : List ℕ)
    (before now : List (ℕ × O)) : Type 0 where
  pub outputs : List (ℕ × O)
  pub added : now ≡ before ++ outputs
  pub numbers : map (λ o. o.0) outputs ≡ done
  pub meet : All (λ o. IsSome (was o.0) × meets (aim_in aim (job_in (was o.0))) o.1) outputs

-- Each job was polled so often at most, and its cancel was asked for once where its task was canceled, and else never.
pub record AreCounted {J : Type 0} (polls cancels : J → ℕ) (most : ℕ) (tasks : ℕ → Option (Task J)) : Type 0 where
  pub polls_within : (t : ℕ) → count_in polls (job_in (tasks t)) ≤ most
  pub asked_once : (t : ℕ) → count_in cancels (job_in (tasks t)) ≡ cond (canceled_of (tasks t)) 1 0

-- The lists of an answer are empty, and no task is named.
pub record DidNothing (ran : Ran) : Type 0 where
  pub polled : ran.polled.items ≡ []
  pub canceled : ran.canceled.items ≡ []
  pub done : ran.done.items ≡ []
  pub stopped : ran.stopped ≡ None

-- A list has no number, and room for so many.
abbrev pub HasRoom : Vec ℕ → ℕ → Type 0
HasRoom numbers count = (numbers.items ≡ []) × (vec_len numbers ≡ 0) × (count ≤ vec_capacity numbers)

-- A list has one more number at most, in the same room.
abbrev pub GrowsByOne : Vec ℕ → Vec ℕ → Type 0
GrowsByOne old new = (vec_len new ≤ vec_len old + 1) × (vec_capacity new ≡ vec_capacity old)
