use Rattle.socket_io.proofs.Opened.{written}
use Rattle.socket_io.proofs.mio_io.table.Table.note_one.Goals as goal

pub returns-clause-open : goal.returns-clause-open
returns-clause-open c =
    written c.self.inside.open _ _ _ c.self.view_is _ _ c.in-Some-get_mut.socket.now _ c.in-Some-get_mut.ensures.value c.note.ensures
    (c.get_mut.follows.holds _)
