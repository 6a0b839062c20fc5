use Rattle.std.proofs.Common.{subst, sym, []}
use Rattle.relay_net.specs.Relay.{Serving, StopsUnless}
use Rattle.relay_net.proofs.Opens.{opening_serving}
use Rattle.relay_net.proofs.Opened.{none_opened}
use Rattle.relay_net.proofs.Relays.{stops_later}
use Rattle.std.specs.Prelude.{OnOk}
use Rattle.relay_net.specs.Listening.{IsAtHand}
use Rattle.relay_net.proofs.Listens.{map_ok}
use Rattle.relay_net.specs.Forwarding.{AreUntouched}
use Rattle.relay_net.proofs.relay.behind.Goals as goal

pub returns-in-Ok-clause-stops : goal.returns-in-Ok-clause-stops
returns-in-Ok-clause-stops g c = λ old stops later.
    stops_later old (g.I.NonBlock.view c.args.state.now.driver.handling.io) (g.I.NonBlock.view c.work.new.state.driver.handling.io)
    c.work.result later c.work.ensures.stops

pub returns-in-Err-clause-stops : goal.returns-in-Err-clause-stops
returns-in-Err-clause-stops g c = λ old stops later.
    subst (StopsUnless old (g.I.NonBlock.view c.args.state.now.driver.handling.io)) c.in-Err.is stops

pub returns-in-Ok-clause-serving : goal.returns-in-Ok-clause-serving
returns-in-Ok-clause-serving g c = λ start was opening. c.work.ensures.serving start was opening

pub returns-in-Err-clause-serving : goal.returns-in-Err-clause-serving
returns-in-Err-clause-serving g c = λ start was opening.
    subst (λ closed. Serving g.I.NonBlock.view g.I.NonBlock.tells start was c.args.state.now.driver c.args.state.now.open.items closed
    c.args.lists.now.ended.failed.items) (sym c.requires.none.0)
    (subst (Serving g.I.NonBlock.view g.I.NonBlock.tells start was c.args.state.now.driver c.args.state.now.open.items []) (sym
    c.requires.none.1)
    (opening_serving g.I.NonBlock.view g.I.NonBlock.tells start c.args.state.now.driver was c.args.state.now.open.items opening))

pub returns-in-Ok-clause-opens : goal.returns-in-Ok-clause-opens
returns-in-Ok-clause-opens g c = λ start was opening n among. c.work.ensures.opens start was opening n among

pub returns-in-Err-clause-opens : goal.returns-in-Err-clause-opens
returns-in-Err-clause-opens g c = λ start was opening n among.
    none_opened c.args.lists.now.opened.items n c.requires.unopened.0 among

pub returns-in-Ok-clause-accepts : goal.returns-in-Ok-clause-accepts
returns-in-Ok-clause-accepts g c =
    map_ok c.work.result _ _ (λ goes memory hand places.
    goes memory
    (subst (λ turned. OnOk turned (IsAtHand g.I.NonBlock.view c.args.state.now.driver c.args.state.now.listener)) c.in-Ok.is hand)
    places) c.work.ensures.accepts

pub returns-in-Ok-clause-forwards : goal.returns-in-Ok-clause-forwards
returns-in-Ok-clause-forwards g c =
    map_ok c.work.result _ _ (λ goes memory start was opening untouched.
    goes memory start was opening
    (subst (λ turned. OnOk turned (AreUntouched g.I.NonBlock.view start was c.args.state.now.driver c.args.state.now.open.items))
    c.in-Ok.is untouched)) c.work.ensures.forwards
