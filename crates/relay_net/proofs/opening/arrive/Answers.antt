use Rattle.std.proofs.Common.{rules, ◌≡◌, None, subst, sym}
use Rattle.ready_driver.specs.LegacyState.{ops_in}
use Rattle.relay_net.specs.Relay.{FitsAccept}
use Rattle.relay_net.proofs.Opens.{fresh_new, opening_widens}
use Rattle.relay_net.proofs.Opened.{widens_sound}
use Rattle.relay_net.proofs.Rounds.{untouched_widens}
use Rattle.relay_net.proofs.opening.arrive.Goals as goal

pub returns-in-Made-clause-arrives : goal.returns-in-Made-clause-arrives
returns-in-Made-clause-arrives g c = (
  fresh_new (ops_in c.args.state.now.driver) c.args.state.now.driver.handling.table c.poll_accept.new.driver.handling.table
      c.args.state.now.listener
      c.args.state.now.open.items c.in-Made.fd c.requires.sound.listens c.requires.sound.served c.in-Made.ensures.accepted.0,
  c.in-Made.ensures.accepted.1,
)

pub returns-in-Waits-clause-sound : goal.returns-in-Waits-clause-sound
returns-in-Waits-clause-sound g c =
    widens_sound g.I.NonBlock.view g.I.NonBlock.tells c.args.state.now.driver c.poll_accept.new.driver c.args.state.now.listener
    c.args.state.now.accept c.hold.new.slot
    c.args.state.now.open.items c.requires.sound c.poll_accept.ensures.widens (subst (FitsAccept (ops_in c.poll_accept.new.driver)
    c.args.state.now.listener) (sym c.hold.ensures) c.in-Waits.ensures.accepted)

pub returns-in-Waits-clause-opening : goal.returns-in-Waits-clause-opening
returns-in-Waits-clause-opening g c = λ start was opening.
    opening_widens g.I.NonBlock.view g.I.NonBlock.tells start c.args.state.now.driver c.poll_accept.new.driver was
    c.args.state.now.open.items c.args.state.now.listener
    c.poll_accept.ensures.widens c.requires.sound.served opening

pub returns-in-Made-clause-sound : goal.returns-in-Made-clause-sound
returns-in-Made-clause-sound g c =
    let none : c.take.new.self ≡ None = search rules in
    widens_sound g.I.NonBlock.view g.I.NonBlock.tells c.args.state.now.driver c.poll_accept.new.driver c.args.state.now.listener
    c.args.state.now.accept c.take.new.self
    c.args.state.now.open.items c.requires.sound c.poll_accept.ensures.widens
    (subst (FitsAccept (ops_in c.poll_accept.new.driver) c.args.state.now.listener) (sym none) tt)

pub returns-in-Made-clause-opening : goal.returns-in-Made-clause-opening
returns-in-Made-clause-opening g c = λ start was opening.
    opening_widens g.I.NonBlock.view g.I.NonBlock.tells start c.args.state.now.driver c.poll_accept.new.driver was
    c.args.state.now.open.items c.args.state.now.listener
    c.poll_accept.ensures.widens c.requires.sound.served opening

pub returns-in-Failed-clause-sound : goal.returns-in-Failed-clause-sound
returns-in-Failed-clause-sound g c =
    let none : c.take.new.self ≡ None = search rules in
    widens_sound g.I.NonBlock.view g.I.NonBlock.tells c.args.state.now.driver c.poll_accept.new.driver c.args.state.now.listener
    c.args.state.now.accept c.take.new.self
    c.args.state.now.open.items c.requires.sound c.poll_accept.ensures.widens
    (subst (FitsAccept (ops_in c.poll_accept.new.driver) c.args.state.now.listener) (sym none) tt)

pub returns-in-Failed-clause-opening : goal.returns-in-Failed-clause-opening
returns-in-Failed-clause-opening g c = λ start was opening.
    opening_widens g.I.NonBlock.view g.I.NonBlock.tells start c.args.state.now.driver c.poll_accept.new.driver was
    c.args.state.now.open.items c.args.state.now.listener
    c.poll_accept.ensures.widens c.requires.sound.served opening

pub returns-in-Nothing-clause-sound : goal.returns-in-Nothing-clause-sound
returns-in-Nothing-clause-sound g c =
    let none : c.take.new.self ≡ None = search rules in
    widens_sound g.I.NonBlock.view g.I.NonBlock.tells c.args.state.now.driver c.poll_accept.new.driver c.args.state.now.listener
    c.args.state.now.accept c.take.new.self
    c.args.state.now.open.items c.requires.sound c.poll_accept.ensures.widens
    (subst (FitsAccept (ops_in c.poll_accept.new.driver) c.args.state.now.listener) (sym none) tt)

pub returns-in-Nothing-clause-opening : goal.returns-in-Nothing-clause-opening
returns-in-Nothing-clause-opening g c = λ start was opening.
    opening_widens g.I.NonBlock.view g.I.NonBlock.tells start c.args.state.now.driver c.poll_accept.new.driver was
    c.args.state.now.open.items c.args.state.now.listener
    c.poll_accept.ensures.widens c.requires.sound.served opening

pub returns-in-OutOfMemory-clause-sound : goal.returns-in-OutOfMemory-clause-sound
returns-in-OutOfMemory-clause-sound g c =
    widens_sound g.I.NonBlock.view g.I.NonBlock.tells c.args.state.now.driver c.poll_accept.new.driver c.args.state.now.listener
    c.args.state.now.accept c.hold-in-OutOfMemory.new.slot
    c.args.state.now.open.items c.requires.sound c.poll_accept.ensures.widens (subst (FitsAccept (ops_in c.poll_accept.new.driver)
    c.args.state.now.listener) (sym c.hold-in-OutOfMemory.ensures) c.in-OutOfMemory.ensures.accepted)

pub returns-in-OutOfMemory-clause-opening : goal.returns-in-OutOfMemory-clause-opening
returns-in-OutOfMemory-clause-opening g c = λ start was opening.
    opening_widens g.I.NonBlock.view g.I.NonBlock.tells start c.args.state.now.driver c.poll_accept.new.driver was
    c.args.state.now.open.items c.args.state.now.listener
    c.poll_accept.ensures.widens c.requires.sound.served opening

pub returns-in-Waits-clause-forwards : goal.returns-in-Waits-clause-forwards
returns-in-Waits-clause-forwards g c = λ memory start was untouched.
    untouched_widens g.I.NonBlock.view g.I.NonBlock.tells g.I.NonBlock.memory g.met.I.NonBlock.memory_tells start c.args.state.now.driver
    c.poll_accept.new.driver was c.args.state.now.open.items c.args.state.now.listener
    c.poll_accept.ensures.widens c.poll_accept.ensures.seen memory c.requires.sound.served untouched

pub returns-in-Made-clause-forwards : goal.returns-in-Made-clause-forwards
returns-in-Made-clause-forwards g c = λ memory start was untouched.
    untouched_widens g.I.NonBlock.view g.I.NonBlock.tells g.I.NonBlock.memory g.met.I.NonBlock.memory_tells start c.args.state.now.driver
    c.poll_accept.new.driver was c.args.state.now.open.items c.args.state.now.listener
    c.poll_accept.ensures.widens c.poll_accept.ensures.seen memory c.requires.sound.served untouched

pub returns-in-Failed-clause-forwards : goal.returns-in-Failed-clause-forwards
returns-in-Failed-clause-forwards g c = λ memory start was untouched.
    untouched_widens g.I.NonBlock.view g.I.NonBlock.tells g.I.NonBlock.memory g.met.I.NonBlock.memory_tells start c.args.state.now.driver
    c.poll_accept.new.driver was c.args.state.now.open.items c.args.state.now.listener
    c.poll_accept.ensures.widens c.poll_accept.ensures.seen memory c.requires.sound.served untouched

pub returns-in-Nothing-clause-forwards : goal.returns-in-Nothing-clause-forwards
returns-in-Nothing-clause-forwards g c = λ memory start was untouched.
    untouched_widens g.I.NonBlock.view g.I.NonBlock.tells g.I.NonBlock.memory g.met.I.NonBlock.memory_tells start c.args.state.now.driver
    c.poll_accept.new.driver was c.args.state.now.open.items c.args.state.now.listener
    c.poll_accept.ensures.widens c.poll_accept.ensures.seen memory c.requires.sound.served untouched

pub returns-in-OutOfMemory-clause-forwards : goal.returns-in-OutOfMemory-clause-forwards
returns-in-OutOfMemory-clause-forwards g c = λ memory start was untouched.
    untouched_widens g.I.NonBlock.view g.I.NonBlock.tells g.I.NonBlock.memory g.met.I.NonBlock.memory_tells start c.args.state.now.driver
    c.poll_accept.new.driver was c.args.state.now.open.items c.args.state.now.listener
    c.poll_accept.ensures.widens c.poll_accept.ensures.seen memory c.requires.sound.served untouched
