use Rattle.std.proofs.Common.{◌∙◌, sym, ap}
use Rattle.std.specs.FinMap.{len}
use Rattle.handle_core.proofs.Tables.{len-from_entries}
use Rattle.handle_core.proofs.table.HandleTable.len.Goals as goal

pub returns : goal.returns
returns c = c.len.ensures.len ∙ sym (len-from_entries _ c.len.ensures.unique) ∙ ap (λ t. len t.holders) c.self.view_is
