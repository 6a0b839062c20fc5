use Rattle.std.proofs.Common.{ℕ, ◌≡◌, length, List}
use Rattle.core_exec.specs.Exec.{IsSound, KeepsDriver, MeetAims, NoneForgotten, Stands, left_of, outputs_of, spawned_of, tasks_of}
use Rattle.exec_wake.specs.Wakes.{tasks_in}
use Rattle.exec_wake.proofs.Waking.{MarksRest}
use Rattle.exec_wake.proofs.wakes.wake_all.Given as goal

-- The tasks of the wakers so far are marked.
abbrev pub invariant-loop-rest : goal.invariant-loop-rest
invariant-loop-rest g l = record {
  stands : Stands g.J.Job.polls g.J.Job.cancels l.exec;
  sound : IsSound g.J.Job.fits g.J.Job.apart l.initial.exec → IsSound g.J.Job.fits g.J.Job.apart l.exec;
  marks : MarksRest (tasks_in l.wakers) (tasks_in l.rest) (tasks_of l.initial.exec) (tasks_of l.exec);
  kept : KeepsDriver l.initial.exec l.exec;
  numbers : (spawned_of l.exec ≡ spawned_of l.initial.exec) × (left_of l.exec ≡ left_of l.initial.exec);
  outputs : outputs_of l.exec ≡ outputs_of l.initial.exec;
  aims : (aims : ℕ → List ℕ) → MeetAims g.J.Job.aim g.J.Job.meets aims l.initial.exec → MeetAims g.J.Job.aim g.J.Job.meets aims l.exec;
  waits : NoneForgotten g.J.Job.waits l.initial.exec → NoneForgotten g.J.Job.waits l.exec;
}

abbrev pub decreases-loop-rest : goal.decreases-loop-rest
decreases-loop-rest g l = length l.rest
