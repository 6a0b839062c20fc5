use Rattle.std.proofs.Common.{refl, subst, sym}
use Rattle.std.proofs.lemmas.Option.{slice_get_read}
use Rattle.ready_driver.specs.LegacyState.{ops_in}
use Rattle.relay_net.specs.Connection.{IsOverIf}
use Rattle.relay_net.specs.Flow.{IsLoad}
use Rattle.relay_net.proofs.Closing.{served_going}
use Rattle.relay_net.proofs.Places.{get_set}
use Rattle.relay_net.proofs.Relays.{serving_set, sound_set}
use Rattle.relay_net.proofs.Beside.{found_same}
use Rattle.relay_net.proofs.Numbers.{numbers_set}
use Rattle.relay_net.proofs.Rounds.{round_served}
use Rattle.relay_net.proofs.state.serve_one.Goals as goal

pub serve-requires-clause-fits : goal.serve-requires-clause-fits
serve-requires-clause-fits g c =
    (c.requires.sound.served.each c.args.at c.index_mut.result.now
    (slice_get_read c.args.state.now.open.items _ c.args.at c.index_mut.result.now refl c.requires.placed c.index_mut.ensures.value)).fits

pub serve-requires-clause-roomy : goal.serve-requires-clause-roomy
serve-requires-clause-roomy g c =
    subst IsLoad (sym (c.requires.sound.served.each c.args.at c.index_mut.result.now
    (slice_get_read c.args.state.now.open.items _ c.args.at c.index_mut.result.now refl c.requires.placed
    c.index_mut.ensures.value)).room_is)
    c.requires.sound.roomy

pub serve-requires-clause-near : goal.serve-requires-clause-near
serve-requires-clause-near g c =
    (c.requires.sound.served.each c.args.at c.index_mut.result.now
    (slice_get_read c.args.state.now.open.items _ c.args.at c.index_mut.result.now refl c.requires.placed c.index_mut.ensures.value)).near

pub serve-requires-clause-far : goal.serve-requires-clause-far
serve-requires-clause-far g c =
    (c.requires.sound.served.each c.args.at c.index_mut.result.now
    (slice_get_read c.args.state.now.open.items _ c.args.at c.index_mut.result.now refl c.requires.placed c.index_mut.ensures.value)).far

pub returns-clause-sound : goal.returns-clause-sound
returns-clause-sound g c =
    sound_set g.I.NonBlock.view g.I.NonBlock.tells c.args.state.now.driver c.serve.new.driver c.args.state.now.listener
    c.args.state.now.accept c.args.state.now.open.items c.args.at c.index_mut.result.now c.serve.new.conn c.serve.result c.requires.sound
    (slice_get_read c.args.state.now.open.items _ c.args.at c.index_mut.result.now refl c.requires.placed c.index_mut.ensures.value)
    c.serve.ensures.serves

pub returns-clause-serving : goal.returns-clause-serving
returns-clause-serving g c = λ start was closed failed serving.
    serving_set g.I.NonBlock.view g.I.NonBlock.tells start c.args.state.now.driver c.serve.new.driver was c.index_mut.result.now
    c.serve.new.conn c.serve.result c.args.state.now.open.items c.args.at closed failed c.args.state.now.listener c.requires.sound.served
    (slice_get_read c.args.state.now.open.items _ c.args.at c.index_mut.result.now refl c.requires.placed c.index_mut.ensures.value)
    c.serve.ensures.serves serving

pub returns-clause-over : goal.returns-clause-over
returns-clause-over g c = λ conn at.
    subst (λ one. IsOverIf (ops_in c.serve.new.driver) one c.serve.result)
    (found_same _ c.serve.new.conn conn
    (get_set c.args.state.now.open.items c.args.at c.index_mut.result.now c.serve.new.conn
    (slice_get_read c.args.state.now.open.items _ c.args.at c.index_mut.result.now refl c.requires.placed c.index_mut.ensures.value)) at)
    c.serve.ensures.over

pub returns-clause-later : goal.returns-clause-later
returns-clause-later g c = c.serve.ensures.serves.leaves.later

pub returns-clause-cause : goal.returns-clause-cause
returns-clause-cause g c = c.serve.ensures.serves.cause

pub returns-clause-names : goal.returns-clause-names
returns-clause-names g c =
    numbers_set c.args.state.now.open.items c.args.at c.index_mut.result.now c.serve.new.conn
    (slice_get_read c.args.state.now.open.items _ c.args.at c.index_mut.result.now refl c.requires.placed c.index_mut.ensures.value)
    c.serve.ensures.serves.near

pub returns-clause-forwards : goal.returns-clause-forwards
returns-clause-forwards g c = λ memory start was round.
    round_served g.I.NonBlock.view g.I.NonBlock.tells g.I.NonBlock.memory g.met.I.NonBlock.memory_tells start c.args.state.now.driver
    c.serve.new.driver was c.args.state.now.open.items c.args.at
    c.index_mut.result.now c.serve.new.conn c.serve.result c.args.state.now.listener c.requires.sound.served
    (slice_get_read c.args.state.now.open.items _ c.args.at c.index_mut.result.now refl c.requires.placed c.index_mut.ensures.value)
    c.serve.ensures.serves c.serve.ensures.seen memory (λ can going kept_open. c.serve.ensures.forwards memory can going kept_open) round

pub returns-clause-closes : goal.returns-clause-closes
returns-clause-closes g c = λ told going.
    let there = slice_get_read c.args.state.now.open.items _ c.args.at c.index_mut.result.now refl c.requires.placed
    c.index_mut.ensures.value in
    served_going g.I.NonBlock.view g.I.NonBlock.tells c.args.state.now.driver c.serve.new.driver (ops_in c.args.state.now.driver)
    c.args.state.now.driver.handling.table c.args.state.now.listener c.args.state.now.open.items c.args.at c.index_mut.result.now
    c.serve.new.conn c.serve.result (c.requires.sound.served.each c.args.at c.index_mut.result.now there) there c.serve.ensures.serves
    c.serve.ensures.over told going
