use Rattle.std.proofs.Common.{◌∙◌}
use Rattle.std.specs.Ordering.{nat_cmp}
use Rattle.core_exec.proofs.Pairs.{firsts_apart, pairs_apart}
use Rattle.core_exec.proofs.deadlines.Deadlines.drop_of.Goals as goal

-- other moments stay,
pub returns-clause-rest : goal.returns-clause-rest
returns-clause-rest c = λ d other was. c.remove.ensures.updates.2 (d, c.args.t) (firsts_apart c.args.at d (nat_cmp c.args.t c.args.t) other)
    ∙ was

-- and those of other tasks
pub returns-clause-others : goal.returns-clause-others
returns-clause-others c = λ d s other was. c.remove.ensures.updates.2 (d, s) (pairs_apart (nat_cmp c.args.at d) c.args.t s other) ∙ was
