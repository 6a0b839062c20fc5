use Rattle.std.proofs.Common.{◌∙◌}
use Rattle.socket_io.proofs.Opened.{counted}
use Rattle.socket_io.proofs.mio_io.table.Table.len.Goals as goal

pub returns : goal.returns
returns c = c.len.ensures.len ∙ counted c.self.inside.open _ _ _ c.self.view_is c.len.ensures.unique
