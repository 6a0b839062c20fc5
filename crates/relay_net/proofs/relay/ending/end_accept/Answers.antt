use Rattle.relay_net.proofs.Opens.{widens_all}
use Rattle.relay_net.proofs.relay.ending.end_accept.Goals as goal

pub returns-in-Some : goal.returns-in-Some
returns-in-Some g c = record {
  served = widens_all g.I.NonBlock.view g.I.NonBlock.tells c.args.driver.now c.drop_accept.new.driver c.args.listener c.args.conns.now.items
      c.drop_accept.ensures.widens c.requires.sound.served;
  later = c.drop_accept.ensures.widens.later;
  made = c.drop_accept.ensures.made;
}
