use Rattle.std.proofs.Common.{arith, sym}
use Rattle.machine.proofs.Amended.{amended-at, amended-past}
use Rattle.driver_core.proofs.KeptTokens.{token_at-past}
use Rattle.driver_core.proofs.tokens.Tokens.take.Goals as goal

pub returns-then-n-len-clause-rest : goal.returns-then-n-len-clause-rest
returns-then-n-len-clause-rest c = amended-at _ _ _ c.index_mut.result.now _ (omega arith) c.index_mut.ensures.value c.take.ensures.after

pub returns-else-n-len-clause-value : goal.returns-else-n-len-clause-value
returns-else-n-len-clause-value c = sym (token_at-past c.args.self.now.ops.items c.args.n (omega arith))

pub returns-else-n-len-clause-rest : goal.returns-else-n-len-clause-rest
returns-else-n-len-clause-rest c = amended-past _ _ _ (omega arith)
