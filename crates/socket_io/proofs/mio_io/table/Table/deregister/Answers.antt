use Rattle.std.proofs.Common.{◌∙◌}
use Rattle.socket_io.proofs.Opened.{found, there-found, written}
use Rattle.socket_io.proofs.mio_io.table.Table.deregister.Goals as goal

pub returns-clause-open : goal.returns-clause-open
returns-clause-open c =
    written c.self.inside.open _ _ _ c.self.view_is _ c.args.h c.in-Some.socket.now _ c.in-Some.ensures.value
    (c.deregister.ensures ∙ c.set_told.ensures) (c.get_mut.follows.holds _)

pub returns-clause-there : goal.returns-clause-there
returns-clause-there c =
    there-found _ _ c.deregister.result
    (found c.self.inside.open _ _ _ c.self.view_is c.args.h c.in-Some.socket.now c.in-Some.ensures.value)
