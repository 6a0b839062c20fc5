use Rattle.relay_net.proofs.Seeing.{but_far, but_then, seen_but}
use Rattle.relay_net.proofs.connection.end_back.Goals as goal

pub returns-in-Some-clause-seen : goal.returns-in-Some-clause-seen
returns-in-Some-clause-seen g c =
    but_then g.I.NonBlock.view g.I.NonBlock.tells g.I.NonBlock.memory g.met.I.NonBlock.memory_tells c.args.driver.now c.abandon.new.driver
    c.release.new.driver c.args.near c.args.far (λ h one other. c.abandon.ensures.drops.users h) c.abandon.ensures.drops.world
    (seen_but g.I.NonBlock.view g.I.NonBlock.memory c.args.driver.now c.abandon.new.driver c.args.near c.args.far c.abandon.ensures.seen)
    (but_far g.I.NonBlock.view g.I.NonBlock.memory c.abandon.new.driver c.release.new.driver c.args.near c.args.far c.release.ensures.seen)
