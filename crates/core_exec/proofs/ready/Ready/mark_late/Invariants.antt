use Rattle.std.proofs.Common.{ℕ, ◌≡◌}
use Rattle.std.specs.HashMap.{hash_map_len}
use Rattle.std.specs.BTreeSet.{btree_set_len}
use Rattle.core_exec.specs.Tasks.{task_at}
use Rattle.core_exec.specs.Marks.{AreListed, HasDeadlines, MarkedLate}
use Rattle.core_exec.proofs.ready.Ready.mark_late.Given as goal

-- Only late tasks were marked.
abbrev pub invariant-loop : goal.invariant-loop
invariant-loop g l = record {
  listed : AreListed l.self;
  deadlines : HasDeadlines l.self;
  each : (s : ℕ) → MarkedLate l.initial.self.moment (task_at l.initial.self.table s) (task_at l.self.table s);
  len : hash_map_len l.self.table.map ≡ hash_map_len l.initial.self.table.map;
  numbers : l.self.numbers ≡ l.initial.self.numbers;
  moment : l.self.moment ≡ l.initial.self.moment;
}

-- A deadline leaves in each turn.
abbrev pub decreases-loop : goal.decreases-loop
decreases-loop g l = btree_set_len l.self.deadlines.set
