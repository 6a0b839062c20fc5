use Rattle.relay_net.proofs.Opens.{opening_starts, opening_widens, turned_widens}
use Rattle.relay_net.proofs.Listens.{turned_at_hand, turned_ok}
use Rattle.relay_net.proofs.Keyed.{turned_keys}
use Rattle.relay_net.proofs.Showing.{turned_seen}
use Rattle.relay_net.proofs.Rounds.{untouched_starts}
use Rattle.relay_net.proofs.relay.turn.Goals as goal

pub returns-in-None-clause-opening : goal.returns-in-None-clause-opening
returns-in-None-clause-opening g c =
    opening_widens g.I.NonBlock.view g.I.NonBlock.tells c.args.state.now.driver c.args.state.now.driver c.submit-turned.new.self
    c.args.state.now.open.items c.args.state.now.open.items c.args.state.now.listener
    (turned_widens g.I.NonBlock.view g.I.NonBlock.tells g.I.NonBlock.memory g.I.NonBlock.reporting c.args.state.now.driver
    c.submit-turned.new.self c.submit-turned.result c.submit-turned.ensures.turns)
    c.requires.sound.served (opening_starts g.I.NonBlock.view g.I.NonBlock.tells c.args.state.now.driver c.args.state.now.open.items)

pub returns-in-Some-clause-opening : goal.returns-in-Some-clause-opening
returns-in-Some-clause-opening g c =
    opening_widens g.I.NonBlock.view g.I.NonBlock.tells c.args.state.now.driver c.args.state.now.driver c.park_timeout-parked.new.self
    c.args.state.now.open.items c.args.state.now.open.items c.args.state.now.listener
    (turned_widens g.I.NonBlock.view g.I.NonBlock.tells g.I.NonBlock.memory g.I.NonBlock.reporting c.args.state.now.driver
    c.park_timeout-parked.new.self c.park_timeout-parked.result.turned c.park_timeout-parked.ensures.turns)
    c.requires.sound.served (opening_starts g.I.NonBlock.view g.I.NonBlock.tells c.args.state.now.driver c.args.state.now.open.items)

pub returns-in-None-clause-hand : goal.returns-in-None-clause-hand
returns-in-None-clause-hand g c =
    turned_ok c.submit-turned.result.stop c.turn_stop.result _ c.turn_stop.ensures (λ on memory may.
    turned_at_hand g.I.NonBlock.view g.I.NonBlock.tells g.I.NonBlock.reporting g.I.NonBlock.memory c.args.state.now.driver
    c.submit-turned.new.self c.submit-turned.result c.args.state.now.listener c.submit-turned.ensures.turns on memory
    (g.met.I.NonBlock.memory_tells memory)
    ((turned_widens g.I.NonBlock.view g.I.NonBlock.tells g.I.NonBlock.memory g.I.NonBlock.reporting c.args.state.now.driver
    c.submit-turned.new.self c.submit-turned.result c.submit-turned.ensures.turns).users c.args.state.now.listener c.requires.sound.listens)
    may)

pub returns-in-Some-clause-hand : goal.returns-in-Some-clause-hand
returns-in-Some-clause-hand g c =
    turned_ok c.park_timeout-parked.result.turned.stop c.turn_stop-in-Some.result _ c.turn_stop-in-Some.ensures (λ on memory may.
    turned_at_hand g.I.NonBlock.view g.I.NonBlock.tells g.I.NonBlock.reporting g.I.NonBlock.memory c.args.state.now.driver
    c.park_timeout-parked.new.self c.park_timeout-parked.result.turned c.args.state.now.listener
    c.park_timeout-parked.ensures.turns on memory
    (g.met.I.NonBlock.memory_tells memory)
    ((turned_widens g.I.NonBlock.view g.I.NonBlock.tells g.I.NonBlock.memory g.I.NonBlock.reporting c.args.state.now.driver
    c.park_timeout-parked.new.self c.park_timeout-parked.result.turned c.park_timeout-parked.ensures.turns).users
    c.args.state.now.listener c.requires.sound.listens)
    may)

pub returns-in-None-clause-keyed : goal.returns-in-None-clause-keyed
returns-in-None-clause-keyed g c =
    turned_keys g.I.NonBlock.view g.I.NonBlock.tells g.I.NonBlock.memory g.I.NonBlock.reporting c.args.state.now.driver
    c.submit-turned.new.self c.submit-turned.result c.submit-turned.ensures.turns

pub returns-in-Some-clause-keyed : goal.returns-in-Some-clause-keyed
returns-in-Some-clause-keyed g c =
    turned_keys g.I.NonBlock.view g.I.NonBlock.tells g.I.NonBlock.memory g.I.NonBlock.reporting c.args.state.now.driver
    c.park_timeout-parked.new.self c.park_timeout-parked.result.turned c.park_timeout-parked.ensures.turns

pub returns-in-None-clause-forwards : goal.returns-in-None-clause-forwards
returns-in-None-clause-forwards g c =
    turned_ok c.submit-turned.result.stop c.turn_stop.result _ c.turn_stop.ensures (λ on memory has.
    untouched_starts g.I.NonBlock.view g.I.NonBlock.tells g.I.NonBlock.memory g.met.I.NonBlock.memory_tells c.args.state.now.driver
    c.submit-turned.new.self c.args.state.now.open.items c.args.state.now.listener
    (turned_widens g.I.NonBlock.view g.I.NonBlock.tells g.I.NonBlock.memory g.I.NonBlock.reporting c.args.state.now.driver
    c.submit-turned.new.self c.submit-turned.result
    c.submit-turned.ensures.turns) (g.met.I.NonBlock.memory_tells memory) c.requires.sound.served
    (turned_seen g.I.NonBlock.view g.I.NonBlock.tells g.I.NonBlock.memory g.I.NonBlock.reporting c.args.state.now.driver
    c.submit-turned.new.self c.submit-turned.result
    c.submit-turned.ensures.turns on memory has))

pub returns-in-Some-clause-forwards : goal.returns-in-Some-clause-forwards
returns-in-Some-clause-forwards g c =
    turned_ok c.park_timeout-parked.result.turned.stop c.turn_stop-in-Some.result _ c.turn_stop-in-Some.ensures (λ on memory has.
    untouched_starts g.I.NonBlock.view g.I.NonBlock.tells g.I.NonBlock.memory g.met.I.NonBlock.memory_tells c.args.state.now.driver
    c.park_timeout-parked.new.self c.args.state.now.open.items
    c.args.state.now.listener
    (turned_widens g.I.NonBlock.view g.I.NonBlock.tells g.I.NonBlock.memory g.I.NonBlock.reporting c.args.state.now.driver
    c.park_timeout-parked.new.self
    c.park_timeout-parked.result.turned c.park_timeout-parked.ensures.turns) (g.met.I.NonBlock.memory_tells memory)
    c.requires.sound.served
    (turned_seen g.I.NonBlock.view g.I.NonBlock.tells g.I.NonBlock.memory g.I.NonBlock.reporting c.args.state.now.driver
    c.park_timeout-parked.new.self
    c.park_timeout-parked.result.turned c.park_timeout-parked.ensures.turns on memory has))
