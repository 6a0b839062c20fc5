use Rattle.handle_core.proofs.Kept.{kept-empty}
use Rattle.handle_core.proofs.table.HandleTable.new.Goals as goal

pub invariant_of-result : goal.invariant_of-result
invariant_of-result c = kept-empty c.new.result c.new.ensures.empty
