use Rattle.socket_io.specs.SocketTable.{is_listener}
use Rattle.socket_io.proofs.Opened.{found, unfit-found}
use Rattle.socket_io.proofs.mio_io.table.Table.accept.Goals as goal

pub returns-in-Some-clause-unfit : goal.returns-in-Some-clause-unfit
returns-in-Some-clause-unfit c =
    unfit-found is_listener _ _ c.accept.result
    (found c.self.inside.open _ _ _ c.self.view_is c.args.h c.in-Some.socket.now c.in-Some.ensures.value) c.accept.ensures.unfit
