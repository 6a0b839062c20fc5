use Rattle.socket_io.specs.SocketTable.{is_stream}
use Rattle.socket_io.proofs.Opened.{found, unfit-found, written}
use Rattle.socket_io.proofs.mio_io.table.Table.read.Goals as goal

pub returns-clause-unfit : goal.returns-clause-unfit
returns-clause-unfit c =
    unfit-found is_stream _ _ c.read.result
    (found c.self.inside.open _ _ _ c.self.view_is c.args.h c.in-Some.socket.now c.in-Some.ensures.value) c.read.ensures.unfit

pub returns-clause-open : goal.returns-clause-open
returns-clause-open c =
    written c.self.inside.open _ _ _ c.self.view_is _ c.args.h c.in-Some.socket.now _ c.in-Some.ensures.value c.read.ensures.kind
    (c.get_mut.follows.holds _)
