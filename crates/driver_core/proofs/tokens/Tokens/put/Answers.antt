use Rattle.std.proofs.Common.{arith}
use Rattle.machine.proofs.Amended.{amended-at, amended-past}
use Rattle.driver_core.proofs.tokens.Tokens.put.Goals as goal

pub returns-in-None-clause-items : goal.returns-in-None-clause-items
returns-in-None-clause-items c = λ empty. amended-at _ _ _ c.index_mut.result.now _ (omega arith) c.index_mut.ensures.value
    c.replace.ensures.after

pub returns-else-n-len-clause-items : goal.returns-else-n-len-clause-items
returns-else-n-len-clause-items c = λ empty. amended-past _ _ _ (omega arith)
