use Rattle.std.proofs.Common.{arith, sym}
use Rattle.machine.proofs.Amended.{amended-at, amended-past}
use Rattle.driver_core.proofs.KeptTokens.{token_at-past}
use Rattle.driver_core.proofs.tokens.Tokens.take_canceller.Goals as goal

pub returns-then-c-len-clause-rest : goal.returns-then-c-len-clause-rest
returns-then-c-len-clause-rest c = amended-at _ _ _ c.index_mut.result.now _ (omega arith) c.index_mut.ensures.value c.take.ensures.after

pub returns-else-c-len-clause-value : goal.returns-else-c-len-clause-value
returns-else-c-len-clause-value c = sym (token_at-past c.args.self.now.cancellers.items c.args.c (omega arith))

pub returns-else-c-len-clause-rest : goal.returns-else-c-len-clause-rest
returns-else-c-len-clause-rest c = amended-past _ _ _ (omega arith)
