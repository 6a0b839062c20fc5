-- What a poll and a cancel make of a task. Cited by `Exec::turn`.
use Rattle.std.specs.Prelude.{ℕ, suc, ◌≡◌, ◌+◌, ◌||◌, Bool, cond, List, Option, IsSome}
use Rattle.core_exec.specs.declared.table.Task.{Task}
use Rattle.core_exec.specs.Tasks.{job_in, deadline_of, canceled_of, count_in, aim_in}

-- A task was polled once, and its cancel was asked for once or not: its counts say so, and what it is for and its deadline are as before.
pub record IsPolled {J : Type 0} (polls cancels : J → ℕ) (aim : J → List ℕ) (asked : Bool) (was now : Option (Task J)) : Type 0 where
  pub there : IsSome (job_in now)
  pub polled : count_in polls (job_in now) ≡ suc (count_in polls (job_in was))
  pub asks : count_in cancels (job_in now) ≡ count_in cancels (job_in was) + cond asked 1 0
  pub same_aim : aim_in aim (job_in now) ≡ aim_in aim (job_in was)
  pub same_deadline : deadline_of now ≡ deadline_of was
  pub canceled : canceled_of now ≡ (canceled_of was || asked)
