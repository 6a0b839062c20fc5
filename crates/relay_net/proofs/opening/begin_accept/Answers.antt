use Rattle.std.proofs.Common.{subst, sym}
use Rattle.ready_driver.specs.LegacyState.{ops_in}
use Rattle.relay_net.specs.Relay.{FitsAccept}
use Rattle.relay_net.proofs.Opens.{opening_widens, stays_widens}
use Rattle.relay_net.proofs.Opened.{stays_sound, widens_sound}
use Rattle.relay_net.proofs.Listens.{at_hand_kept}
use Rattle.relay_net.proofs.Rounds.{untouched_widens}
use Rattle.relay_net.proofs.opening.begin_accept.Goals as goal

pub returns-in-Ok-clause-sound : goal.returns-in-Ok-clause-sound
returns-in-Ok-clause-sound g c =
    widens_sound g.I.NonBlock.view g.I.NonBlock.tells c.args.state.now.driver c.submit.new.driver c.args.state.now.listener
    c.args.state.now.accept c.hold.new.slot c.args.state.now.open.items
    c.requires.sound (stays_widens g.I.NonBlock.view g.I.NonBlock.tells c.args.state.now.driver c.submit.new.driver c.in-Ok.ensures.stays)
    (subst (FitsAccept (ops_in c.submit.new.driver) c.args.state.now.listener) (sym c.hold.ensures) c.in-Ok.ensures.pends)

pub returns-in-Ok-clause-opening : goal.returns-in-Ok-clause-opening
returns-in-Ok-clause-opening g c = λ start was opening.
    opening_widens g.I.NonBlock.view g.I.NonBlock.tells start c.args.state.now.driver c.submit.new.driver was c.args.state.now.open.items
    c.args.state.now.listener
    (stays_widens g.I.NonBlock.view g.I.NonBlock.tells c.args.state.now.driver c.submit.new.driver c.submit.ensures.stays)
    c.requires.sound.served opening

pub returns-clause-sound : goal.returns-clause-sound
returns-clause-sound g c =
    stays_sound g.I.NonBlock.view g.I.NonBlock.tells c.args.state.now.driver c.submit.new.driver c.args.state.now.listener
    c.args.state.now.accept c.args.state.now.open.items c.requires.sound c.submit.ensures.stays

pub returns-clause-opening : goal.returns-clause-opening
returns-clause-opening g c = λ start was opening.
    opening_widens g.I.NonBlock.view g.I.NonBlock.tells start c.args.state.now.driver c.submit.new.driver was c.args.state.now.open.items
    c.args.state.now.listener
    (stays_widens g.I.NonBlock.view g.I.NonBlock.tells c.args.state.now.driver c.submit.new.driver c.submit.ensures.stays)
    c.requires.sound.served opening

pub returns-in-Ok-clause-hand : goal.returns-in-Ok-clause-hand
returns-in-Ok-clause-hand g c = λ told h hand.
    at_hand_kept g.I.NonBlock.view c.args.state.now.driver c.submit.new.driver h (c.in-Ok.ensures.stays.world told) (c.in-Ok.ensures.bits h)
    hand

pub returns-in-Ok-clause-forwards : goal.returns-in-Ok-clause-forwards
returns-in-Ok-clause-forwards g c = λ memory start was untouched.
    untouched_widens g.I.NonBlock.view g.I.NonBlock.tells g.I.NonBlock.memory g.met.I.NonBlock.memory_tells start c.args.state.now.driver
    c.submit.new.driver was c.args.state.now.open.items c.args.state.now.listener
    (stays_widens g.I.NonBlock.view g.I.NonBlock.tells c.args.state.now.driver c.submit.new.driver c.submit.ensures.stays)
    c.submit.ensures.seen memory c.requires.sound.served untouched

pub returns-clause-forwards : goal.returns-clause-forwards
returns-clause-forwards g c = λ memory start was untouched.
    untouched_widens g.I.NonBlock.view g.I.NonBlock.tells g.I.NonBlock.memory g.met.I.NonBlock.memory_tells start c.args.state.now.driver
    c.submit.new.driver was c.args.state.now.open.items c.args.state.now.listener
    (stays_widens g.I.NonBlock.view g.I.NonBlock.tells c.args.state.now.driver c.submit.new.driver c.submit.ensures.stays)
    c.submit.ensures.seen memory c.requires.sound.served untouched
