use Rattle.socket_io.proofs.Opened.{reordered}
use Rattle.socket_io.proofs.mio_io.table.Table.reserve_one.Goals as goal

pub returns-clause-open : goal.returns-clause-open
returns-clause-open c = reordered c.self.inside.open _ _ _ c.self.view_is c.reserve.new.self c.reserve.ensures.entries.2
