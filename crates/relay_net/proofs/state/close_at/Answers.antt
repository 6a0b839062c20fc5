use Rattle.std.proofs.Common.{◌∙◌, ap, refl, subst, sym, ◌++◌, ◌∷◌, []}
use Rattle.std.specs.List.{remove}
use Rattle.std.proofs.lemmas.Option.{slice_get_read}
use Rattle.ready_driver.specs.LegacyState.{ops_in}
use Rattle.std.specs.Prelude.{IsPermutation}
use Rattle.relay_net.specs.Relay.{IsSound, Serving, connections_in}
use Rattle.relay_net.proofs.Relays.{serving_closed, sound_removed}
use Rattle.relay_net.proofs.Numbers.{numbers_closed}
use Rattle.relay_net.specs.Forwarding.{RoundTo}
use Rattle.relay_net.proofs.Rounds.{round_removed}
use Rattle.relay_net.proofs.state.close_at.Goals as goal

pub end-requires-clause-fits : goal.end-requires-clause-fits
end-requires-clause-fits g c = (c.requires.sound.served.each c.args.at c.remove-conn.result
    (slice_get_read c.args.state.now.open.items _ c.args.at c.remove-conn.result refl c.requires.placed c.remove-conn.ensures.value)).fits

pub end-requires-clause-near : goal.end-requires-clause-near
end-requires-clause-near g c = (c.requires.sound.served.each c.args.at c.remove-conn.result
    (slice_get_read c.args.state.now.open.items _ c.args.at c.remove-conn.result refl c.requires.placed c.remove-conn.ensures.value)).near

pub end-requires-clause-far : goal.end-requires-clause-far
end-requires-clause-far g c = (c.requires.sound.served.each c.args.at c.remove-conn.result
    (slice_get_read c.args.state.now.open.items _ c.args.at c.remove-conn.result refl c.requires.placed c.remove-conn.ensures.value)).far

pub returns-clause-sound : goal.returns-clause-sound
returns-clause-sound g c =
    subst (IsSound c.args.state.now.room (ops_in c.end.new.driver) c.end.new.driver.handling.table c.args.state.now.listener
    c.args.state.now.accept)
    (sym c.remove-conn.ensures.items)
    (sound_removed g.I.NonBlock.view g.I.NonBlock.tells c.args.state.now.driver c.end.new.driver c.args.state.now.listener
    c.args.state.now.accept c.args.state.now.open.items c.args.at c.remove-conn.result c.requires.sound
    (slice_get_read c.args.state.now.open.items _ c.args.at c.remove-conn.result refl c.requires.placed c.remove-conn.ensures.value)
    c.end.ensures.ends)

pub returns-clause-serving : goal.returns-clause-serving
returns-clause-serving g c = λ start was serving.
    subst (λ all. Serving g.I.NonBlock.view g.I.NonBlock.tells start was c.end.new.driver all c.push_reserved.new.self.items
    c.args.ended.now.failed.items) (sym c.remove-conn.ensures.items)
    (subst (λ closed. Serving g.I.NonBlock.view g.I.NonBlock.tells start was c.end.new.driver
    (remove c.args.state.now.open.items c.args.at) closed c.args.ended.now.failed.items)
    (sym (c.push_reserved.ensures.items ∙ ap (λ n. c.args.ended.now.closed.items ++ n ∷ []) c.near.ensures))
    (serving_closed g.I.NonBlock.view g.I.NonBlock.tells start c.args.state.now.driver c.end.new.driver was c.remove-conn.result
    c.args.state.now.open.items c.args.at c.args.ended.now.closed.items c.args.ended.now.failed.items c.args.state.now.listener
    c.requires.sound.served
    (slice_get_read c.args.state.now.open.items _ c.args.at c.remove-conn.result refl c.requires.placed c.remove-conn.ensures.value)
    c.end.ensures.ends (c.requires.over c.remove-conn.result
    (slice_get_read c.args.state.now.open.items _ c.args.at c.remove-conn.result refl c.requires.placed c.remove-conn.ensures.value))
    serving))

pub returns-clause-later : goal.returns-clause-later
returns-clause-later g c = c.end.ensures.ends.later

pub returns-clause-names : goal.returns-clause-names
returns-clause-names g c =
    subst (λ all. IsPermutation (connections_in all c.push_reserved.new.self.items c.args.ended.now.failed.items)
    (connections_in c.args.state.now.open.items c.args.ended.now.closed.items c.args.ended.now.failed.items))
    (sym c.remove-conn.ensures.items)
    (subst (λ closed. IsPermutation (connections_in (remove c.args.state.now.open.items c.args.at) closed c.args.ended.now.failed.items)
    (connections_in c.args.state.now.open.items c.args.ended.now.closed.items c.args.ended.now.failed.items))
    (sym (c.push_reserved.ensures.items ∙ ap (λ n. c.args.ended.now.closed.items ++ n ∷ []) c.near.ensures))
    (numbers_closed c.args.state.now.open.items c.args.at c.remove-conn.result c.args.ended.now.closed.items
    c.args.ended.now.failed.items
    (slice_get_read c.args.state.now.open.items _ c.args.at c.remove-conn.result refl c.requires.placed c.remove-conn.ensures.value)))

pub returns-clause-forwards : goal.returns-clause-forwards
returns-clause-forwards g c = λ memory start was round.
    subst (λ all. RoundTo g.I.NonBlock.view start was c.end.new.driver all c.args.at) (sym c.remove-conn.ensures.items)
    (round_removed g.I.NonBlock.view g.I.NonBlock.tells g.I.NonBlock.memory g.met.I.NonBlock.memory_tells start c.args.state.now.driver
    c.end.new.driver was c.args.state.now.open.items c.args.at
    c.remove-conn.result c.args.state.now.listener c.requires.sound.served
    (slice_get_read c.args.state.now.open.items _ c.args.at c.remove-conn.result refl c.requires.placed c.remove-conn.ensures.value)
    c.end.ensures.ends c.end.ensures.seen memory round)
