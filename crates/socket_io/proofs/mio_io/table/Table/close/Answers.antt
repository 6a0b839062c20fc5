use Rattle.std.proofs.Common.{◌∙◌, ap}
use Rattle.std.specs.Prelude.{is_some}
use Rattle.socket_io.proofs.Opened.{tested-open, removed}
use Rattle.socket_io.proofs.mio_io.table.Table.close.Goals as goal

pub returns-clause-there : goal.returns-clause-there
returns-clause-there c =
    c.is_some.ensures ∙ ap is_some c.remove.ensures.value ∙ tested-open c.self.inside.open _ _ _ c.self.view_is c.args.h

pub returns-clause-open : goal.returns-clause-open
returns-clause-open c = removed c.self.inside.open _ _ _ c.self.view_is c.remove.new.self c.args.h c.remove.ensures.updates
