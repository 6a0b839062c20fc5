use Rattle.ring_core.specs.Bound.{unbound}
use Rattle.machine.proofs.Amended.{amended-at}
use Rattle.ring_core.proofs.flights.unbind_at.Goals as goal

pub returns-clause-items : goal.returns-clause-items
returns-clause-items c = amended-at unbound _ _ c.index.result.now _ c.requires c.index.ensures c.free.ensures
