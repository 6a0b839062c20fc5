use Rattle.std.proofs.Common.{◌≡◌, ◌+◌, ◌≤◌, ◌++◌, drop}
use Rattle.std.specs.Vec.{vec_len, vec_capacity}
use Rattle.ready_driver.specs.Turns.{reported_each, woken_each, waiting_on}
use Rattle.ready_driver.proofs.registry.turn.treat.Given as goal

-- What the reports that are left make of the records is what all make of them, and so are the tasks; and there is room for those.
abbrev pub invariant-loop-at : goal.invariant-loop-at
invariant-loop-at l = record {
  table : l.records.table ≡ l.initial.records.table;
  records : reported_each l.records.records (drop l.at l.reports) ≡ reported_each l.initial.records.records l.reports;
  tasks : l.woken.items ++ woken_each l.records.records (drop l.at l.reports) ≡
      l.initial.woken.items ++ woken_each l.initial.records.records l.reports;
  room : vec_len l.woken + waiting_on l.records.records (drop l.at l.reports) ≤ vec_capacity l.woken;
}
