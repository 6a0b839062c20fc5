use Rattle.std.proofs.Common.{subst}
use Rattle.std.specs.HashMap.{PutsEntry}
use Rattle.std.specs.Prelude.{nat_eq}
use Rattle.core_exec.proofs.Counted.{unmarked_added}
use Rattle.core_exec.proofs.table.Table.add.Goals as goal

-- the task was put in
pub returns-in-None-clause-unmarked : goal.returns-in-None-clause-unmarked
returns-in-None-clause-unmarked g c =
    unmarked_added c.args.self.now.map c.insert.new.self c.args.t c.args.task
    (subst (λ o. PutsEntry nat_eq c.args.self.now.map c.insert.new.self c.args.t c.args.task o) c.in-None.is c.in-Ok.ensures.entries)
