use Rattle.std.proofs.Common.{arith}
use Rattle.ring_core.specs.Ring.{marked_by}
use Rattle.machine.proofs.Amended.{amended-at, amended-past}
use Rattle.ring_core.proofs.flights.mark_at.Goals as goal

pub returns-then-slot-len-clause-items : goal.returns-then-slot-len-clause-items
returns-then-slot-len-clause-items c =
    amended-at (marked_by c.args.word) _ _ c.index.result.now _ (omega arith) c.index.ensures c.marked.ensures

pub returns-else-slot-len-clause-items : goal.returns-else-slot-len-clause-items
returns-else-slot-len-clause-items c = amended-past _ _ _ (omega arith)
