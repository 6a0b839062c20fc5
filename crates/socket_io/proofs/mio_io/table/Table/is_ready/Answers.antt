use Rattle.socket_io.proofs.Opened.{found, written, fit-found}
use Rattle.socket_io.proofs.mio_io.table.Table.is_ready.Goals as goal

pub returns-clause-open : goal.returns-clause-open
returns-clause-open g c =
    written c.self.inside.open _ _ _ c.self.view_is _ c.args.h c.in-Some.socket.now _ c.in-Some.ensures.value c.is_ready.ensures
    (c.get_mut.follows.holds _)

pub returns-clause-unfit : goal.returns-clause-unfit
returns-clause-unfit g c =
    fit-found _ _ (found c.self.inside.open _ _ _ c.self.view_is c.args.h c.in-Some.socket.now c.in-Some.ensures.value)
