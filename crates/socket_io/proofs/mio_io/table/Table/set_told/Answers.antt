use Rattle.socket_io.proofs.Opened.{written}
use Rattle.socket_io.proofs.mio_io.table.Table.set_told.Goals as goal

pub returns-clause-open : goal.returns-clause-open
returns-clause-open c =
    written c.self.inside.open _ _ _ c.self.view_is _ c.args.h c.in-Some.socket.now _ c.in-Some.ensures.value c.set_told.ensures
    (c.get_mut.follows.holds _)
