use Rattle.std.proofs.Common.{suc, arith}
use Rattle.machine.proofs.Amended.{amended-at}
use Rattle.ring_core.proofs.ranks.count_up.Goals as goal

pub returns-clause-items : goal.returns-clause-items
returns-clause-items c = amended-at suc _ _ c.index_mut.result.now _ c.requires.there c.index_mut.ensures.value (omega arith)
