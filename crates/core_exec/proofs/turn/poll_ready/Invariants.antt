use Rattle.std.proofs.Common.{◌≡◌, ◌≤◌, ◌+◌, drop}
use Rattle.std.specs.Vec.{vec_len, vec_capacity}
use Rattle.std.specs.HashMap.{hash_map_len}
use Rattle.core_exec.specs.Tasks.{AreSound, AreWaiting, HaveJobs, task_at, job_at, unmarked_in}
use Rattle.core_exec.specs.Marks.{HasDeadlines}
use Rattle.core_exec.specs.Numbers.{AreNumbers}
use Rattle.core_exec.specs.Places.{StayPlaced}
use Rattle.core_exec.specs.Turns.{AddsOutputs}
use Rattle.core_exec.proofs.Reaching.{Turning}
use Rattle.core_exec.proofs.turn.poll_ready.Given as goal

-- The turn came to the numbers before this one.
abbrev pub invariant-loop-k : goal.invariant-loop-k
invariant-loop-k g l = record {
  sound : AreSound g.J.Job.fits g.J.Job.apart l.driver (job_at l.ready.table);
  waits : AreWaiting g.J.Job.waits l.initial.driver (task_at l.initial.ready.table)
      → AreWaiting g.J.Job.waits l.driver (task_at l.ready.table);
  jobs : HaveJobs (task_at l.ready.table);
  deadlines : HasDeadlines l.ready;
  numbers : AreNumbers (task_at l.ready.table) l.ready.numbers;
  marks : l.ready.marks ≡ l.initial.ready.marks;
  moment : l.ready.moment ≡ l.initial.ready.moment;
  turning : Turning g.J.Job.polls g.J.Job.cancels g.J.Job.aim l.initial.ready.moment (task_at l.initial.ready.table) (task_at l.ready.table)
      l.ran.polled.items l.ran.canceled.items l.ran.done.items (drop l.k l.initial.ready.marks.items);
  outputs : AddsOutputs g.J.Job.aim g.J.Job.meets (task_at l.initial.ready.table) l.ran.done.items l.initial.outputs.items l.outputs.items;
  places : StayPlaced (task_at l.initial.ready.table) l.initial.outputs.items (task_at l.ready.table) l.outputs.items;
  marks_room : vec_len l.ready.marks + unmarked_in l.ready.table ≤ vec_capacity l.ready.marks + l.k;
  len : vec_len l.outputs + hash_map_len l.ready.table.map ≡ vec_len l.initial.outputs + hash_map_len l.initial.ready.table.map;
  capacity : vec_capacity l.outputs ≡ vec_capacity l.initial.outputs;
  polled : (vec_len l.ran.polled ≤ l.k) × (vec_capacity l.ran.polled ≡ vec_capacity l.initial.ran.polled);
  canceled : (vec_len l.ran.canceled ≤ l.k) × (vec_capacity l.ran.canceled ≡ vec_capacity l.initial.ran.canceled);
  done : (vec_len l.ran.done ≤ l.k) × (vec_capacity l.ran.done ≡ vec_capacity l.initial.ran.done);
  stopped : l.ran.stopped ≡ l.initial.ran.stopped;
}
