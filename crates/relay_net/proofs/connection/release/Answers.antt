use Rattle.relay_net.proofs.Connections.{released_releases}
use Rattle.relay_net.proofs.Keyed.{released_keys}
use Rattle.relay_net.proofs.Seeing.{released_seen}
use Rattle.relay_net.proofs.connection.release.Goals as goal

pub returns-clause-releases : goal.returns-clause-releases
returns-clause-releases g c =
    released_releases g.I.NonBlock.view g.I.NonBlock.tells g.I.NonBlock.memory c.args.driver.now c.release.new.self c.args.fd
    c.release.ensures.handles c.release.ensures.rest

pub returns-clause-keyed : goal.returns-clause-keyed
returns-clause-keyed g c =
    released_keys g.I.NonBlock.view g.I.NonBlock.tells g.I.NonBlock.memory c.args.driver.now c.release.new.self c.args.fd
    c.release.ensures.handles

pub returns-clause-seen : goal.returns-clause-seen
returns-clause-seen g c =
    released_seen g.I.NonBlock.view g.I.NonBlock.tells g.I.NonBlock.memory g.met.I.NonBlock.memory_tells c.args.driver.now
    c.release.new.self c.args.fd _ _ c.release.ensures.handles
