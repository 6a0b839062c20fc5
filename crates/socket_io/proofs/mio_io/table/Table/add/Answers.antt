use Rattle.std.proofs.Common.{◌∙◌, ap, arith}
use Rattle.std.specs.FinMap.{insert}
use Rattle.handle_core.proofs.Tables.{ok-says}
use Rattle.socket_io.specs.SocketTable.{OpenSockets, kind_of}
use Rattle.socket_io.proofs.Opened.{added}
use Rattle.socket_io.proofs.mio_io.table.Table.add.Goals as goal

pub returns-clause-open : goal.returns-clause-open
returns-clause-open c =
    let room = ap (λ (t : OpenSockets). t.room) c.self.view_is in
    let some = c.insert.ensures.succeeds (omega (arith, room, c.requires.room)) in
    added c.self.inside.open _ _ _ c.self.view_is c.insert.new.self _ _ (ok-says _ some c.insert.ensures.updates)
    ∙ ap (λ (t : OpenSockets). insert c.args.self.now.kinds t.made (kind_of c.args.socket)) c.self.view_is
