use Rattle.std.proofs.Common.{rules, ◌≡◌, subst}
use Rattle.std.specs.List.Sorted.{IsPermutation}
use Rattle.std.proofs.lemmas.List.Sorted.{All-permutation, IsNonDecreasingBy-from_sort_by_key}
use Rattle.core_exec.specs.Tasks.{task_at}
use Rattle.core_exec.proofs.Placing.{taken_once, taken_spawned}
use Rattle.core_exec.proofs.exec.Exec+D+J+J+Out.take_done.Goals as goal

-- they were sorted by their tasks
pub returns-clause-ascending : goal.returns-clause-ascending
returns-clause-ascending g c =
    IsNonDecreasingBy-from_sort_by_key (λ o. o.0) c.sort_unstable_by_key.new.self.items c.sort_unstable_by_key.ensures.sorted
    (λ a r q k. search rules)

-- they are the outputs that weren't taken, in another order: of each task there was one at most,
pub returns-clause-once : goal.returns-clause-once
returns-clause-once g c =
    let same : c.append.new.self.items ≡ c.args.self.now.outputs.items = search rules in
    taken_once c.args.self.now.spawned (task_at c.args.self.now.ready.table) c.args.self.now.outputs.items
    c.sort_unstable_by_key.new.self.items
    (subst (λ xs. IsPermutation xs c.sort_unstable_by_key.new.self.items) same c.sort_unstable_by_key.ensures.permutation)
    c.requires.stands.placed

-- of a task that wasn't spawned there was none,
pub returns-clause-of_spawned : goal.returns-clause-of_spawned
returns-clause-of_spawned g c =
    let same : c.append.new.self.items ≡ c.args.self.now.outputs.items = search rules in
    taken_spawned c.args.self.now.spawned (task_at c.args.self.now.ready.table) c.args.self.now.outputs.items
    c.sort_unstable_by_key.new.self.items
    (subst (λ xs. IsPermutation xs c.sort_unstable_by_key.new.self.items) same c.sort_unstable_by_key.ensures.permutation)
    c.requires.stands.placed

-- and each met the aim of its task
pub returns-clause-meet : goal.returns-clause-meet
returns-clause-meet g c = λ aims has.
    let same : c.append.new.self.items ≡ c.args.self.now.outputs.items = search rules in
    All-permutation (λ o. g.J.Job.meets (aims o.0) o.1) c.args.self.now.outputs.items c.sort_unstable_by_key.new.self.items
    (subst (λ xs. IsPermutation xs c.sort_unstable_by_key.new.self.items) same c.sort_unstable_by_key.ensures.permutation) has.of_outputs
