use Rattle.std.proofs.Common.{◌∙◌, subst}
use Rattle.handle_core.specs.Table.{AreHeld}
use Rattle.handle_core.proofs.Tables.{answered}
use Rattle.handle_core.proofs.table.HandleTable.holders.Goals as goal

pub returns-clause-value : goal.returns-clause-value
returns-clause-value c = c.copied.ensures ∙ c.get.ensures.value ∙ answered c.self.inside.handles _ _ c.self.view_is _

pub returns-clause-held : goal.returns-clause-held
returns-clause-held c = subst AreHeld c.self.view_is c.self.invariant.held
