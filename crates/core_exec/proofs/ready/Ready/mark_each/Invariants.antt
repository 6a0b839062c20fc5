use Rattle.std.proofs.Common.{ℕ, ◌≡◌, drop}
use Rattle.std.specs.Prelude.{option_map}
use Rattle.std.specs.HashMap.{hash_map_len}
use Rattle.core_exec.specs.Tasks.{task_at}
use Rattle.core_exec.specs.Marks.{AreListed, with_mark, has_number}
use Rattle.core_exec.proofs.ready.Ready.mark_each.Given as goal

-- The marks so far, with those of the numbers that are left, are those of all.
abbrev pub invariant-loop-k : goal.invariant-loop-k
invariant-loop-k g l = record {
  listed : AreListed l.self;
  each : (s : ℕ) → option_map (with_mark (has_number s (drop l.k l.named))) (task_at l.self.table s)
      ≡ option_map (with_mark (has_number s l.named)) (task_at l.initial.self.table s);
  len : hash_map_len l.self.table.map ≡ hash_map_len l.initial.self.table.map;
  deadlines : l.self.deadlines ≡ l.initial.self.deadlines;
  numbers : l.self.numbers ≡ l.initial.self.numbers;
  moment : l.self.moment ≡ l.initial.self.moment;
}
