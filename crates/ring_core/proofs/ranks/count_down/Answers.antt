use Rattle.ring_core.specs.Ranks.{less_one}
use Rattle.std.proofs.Common.{refl}
use Rattle.machine.proofs.Amended.{amended-at}
use Rattle.ring_core.proofs.ranks.count_down.Goals as goal

pub returns-clause-items : goal.returns-clause-items
returns-clause-items c = amended-at less_one _ _ c.index_mut.result.now _ c.requires.there c.index_mut.ensures.value refl
