use Rattle.std.proofs.Common.{arith}
use Rattle.machine.proofs.Amended.{amended-at, amended-past}
use Rattle.driver_core.proofs.tokens.Tokens.put_canceller.Goals as goal

pub returns-then-c-len-clause-put : goal.returns-then-c-len-clause-put
returns-then-c-len-clause-put c = amended-at _ _ _ c.index_mut.result.now _ (omega arith) c.index_mut.ensures.value c.replace.ensures.after

pub returns-else-c-len-clause-put : goal.returns-else-c-len-clause-put
returns-else-c-len-clause-put c = amended-past _ _ _ (omega arith)
