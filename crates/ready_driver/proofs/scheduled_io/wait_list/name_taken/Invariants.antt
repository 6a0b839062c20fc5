use Rattle.std.proofs.Common.{◌≡◌, ◌++◌, take}
use Rattle.std.specs.Prelude.{filter, map}
use Rattle.std.specs.Vec.{vec_capacity}
use Rattle.ready_driver.specs.WaitList.{is_taken, task_of}
use Rattle.ready_driver.proofs.scheduled_io.wait_list.name_taken.Given as goal

-- The tasks of the entries so far have joined, and the memory is what it was.
abbrev pub invariant-loop-entry : goal.invariant-loop-entry
invariant-loop-entry l = record {
  named : l.tasks.items ≡ l.initial.tasks.items ++ map task_of (filter (is_taken l.ready) (take l.entry-index l.entries));
  room : vec_capacity l.tasks ≡ vec_capacity l.initial.tasks;
}
