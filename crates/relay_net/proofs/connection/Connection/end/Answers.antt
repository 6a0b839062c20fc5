use Rattle.ready_driver.specs.LegacyState.{ops_in}
use Rattle.relay_net.specs.Connection.{far_of, near_of}
use Rattle.relay_net.proofs.Connections.{abandons_ends, back_kept, ends_then, releases_near}
use Rattle.relay_net.proofs.Keyed.{keeps_then}
use Rattle.relay_net.proofs.Seeing.{but_near, but_then, seen_but}
use Rattle.relay_net.proofs.connection.Connection.end.Goals as goal

pub end_back-requires-clause-fits : goal.end_back-requires-clause-fits
end_back-requires-clause-fits g c = (
  c.args.self.room,
  (back_kept c.args.self.room (ops_in c.args.driver.now) (ops_in c.abandon.new.driver) (near_of c.args.self) (far_of c.args.self)
      c.args.self.back c.abandon.ensures.drops.ops c.requires.fits.1).0,
)

pub returns-clause-ends : goal.returns-clause-ends
returns-clause-ends g c =
    let near = near_of c.args.self in
    let far = far_of c.args.self in
    ends_then g.I.NonBlock.view g.I.NonBlock.tells c.args.driver.now c.abandon.new.driver c.release.new.driver near far
    (abandons_ends g.I.NonBlock.view g.I.NonBlock.tells c.args.driver.now c.abandon.new.driver near far c.abandon.ensures.drops)
    (ends_then g.I.NonBlock.view g.I.NonBlock.tells c.abandon.new.driver c.end_back.new.driver c.release.new.driver near far
    c.end_back.ensures.ends
    (releases_near g.I.NonBlock.view g.I.NonBlock.tells c.end_back.new.driver c.release.new.driver near far c.release.ensures.releases))

pub returns-clause-keyed : goal.returns-clause-keyed
returns-clause-keyed g c =
    keeps_then _ _ _ _ _ c.abandon.ensures.keyed (keeps_then _ _ _ _ _ c.end_back.ensures.keyed c.release.ensures.keyed)

pub returns-clause-seen : goal.returns-clause-seen
returns-clause-seen g c =
    let near = near_of c.args.self in
    let far = far_of c.args.self in
    but_then g.I.NonBlock.view g.I.NonBlock.tells g.I.NonBlock.memory g.met.I.NonBlock.memory_tells c.args.driver.now c.abandon.new.driver
    c.release.new.driver
    near far (λ h one other. c.abandon.ensures.drops.users h) c.abandon.ensures.drops.world
    (seen_but g.I.NonBlock.view g.I.NonBlock.memory c.args.driver.now c.abandon.new.driver near far c.abandon.ensures.seen)
    (but_then g.I.NonBlock.view g.I.NonBlock.tells g.I.NonBlock.memory g.met.I.NonBlock.memory_tells c.abandon.new.driver
    c.end_back.new.driver
    c.release.new.driver near far c.end_back.ensures.ends.users c.end_back.ensures.ends.world c.end_back.ensures.seen
    (but_near g.I.NonBlock.view g.I.NonBlock.memory c.end_back.new.driver c.release.new.driver near far c.release.ensures.seen))
