use Rattle.std.proofs.Common.{◌∙◌}
use Rattle.core_exec.proofs.Pairs.{cond_true}
use Rattle.core_exec.proofs.deadlines.Deadlines.add.Goals as goal

-- one more is set
pub returns-in-Ok-clause-kept : goal.returns-in-Ok-clause-kept
returns-in-Ok-clause-kept c = λ d s was. c.in-Ok.ensures.updates.0 (d, s) ∙ cond_true _ _ was
