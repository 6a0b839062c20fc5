use Rattle.std.proofs.Common.{arith, refl}
use Rattle.std.proofs.lemmas.List.Sorted.{IsPermutation-trans}
use Rattle.relay_net.proofs.Numbers.{numbers_kept}
use Rattle.relay_net.proofs.Keyed.{keeps_then}
use Rattle.relay_net.proofs.state.serve_at.Goals as goal

pub returns-in-Open-clause-serving : goal.returns-in-Open-clause-serving
returns-in-Open-clause-serving g c = λ start was serving. c.in-Open.ensures.serving start was c.args.ended.now.closed.items
    c.args.ended.now.failed.items serving

pub returns-in-Stopped-clause-serving : goal.returns-in-Stopped-clause-serving
returns-in-Stopped-clause-serving g c = λ start was serving. c.in-Stopped.ensures.serving start was c.args.ended.now.closed.items
    c.args.ended.now.failed.items serving

pub returns-in-Closed-clause-serving : goal.returns-in-Closed-clause-serving
returns-in-Closed-clause-serving g c = λ start was serving.
    c.close_at.ensures.serving start was (c.in-Closed.ensures.serving start was c.args.ended.now.closed.items
    c.args.ended.now.failed.items serving)

pub returns-in-Failed-clause-serving : goal.returns-in-Failed-clause-serving
returns-in-Failed-clause-serving g c = λ start was serving.
    let later = serving.later.fails in
    let cause = c.in-Failed.ensures.cause in
    c.lose_at.ensures.serving start was (omega (arith, later, cause))
    (c.in-Failed.ensures.serving start was c.args.ended.now.closed.items c.args.ended.now.failed.items serving)

pub returns-in-Open-clause-names : goal.returns-in-Open-clause-names
returns-in-Open-clause-names g c =
    numbers_kept c.args.state.now.open.items c.serve_one.new.state.open.items c.args.ended.now.closed.items
    c.args.ended.now.failed.items c.in-Open.ensures.names

pub returns-in-Stopped-clause-names : goal.returns-in-Stopped-clause-names
returns-in-Stopped-clause-names g c =
    numbers_kept c.args.state.now.open.items c.serve_one.new.state.open.items c.args.ended.now.closed.items
    c.args.ended.now.failed.items c.in-Stopped.ensures.names

pub returns-in-Closed-clause-names : goal.returns-in-Closed-clause-names
returns-in-Closed-clause-names g c =
    IsPermutation-trans _ _ _ c.close_at.ensures.names
    (numbers_kept c.args.state.now.open.items c.serve_one.new.state.open.items c.args.ended.now.closed.items
    c.args.ended.now.failed.items c.in-Closed.ensures.names)

pub returns-in-Failed-clause-names : goal.returns-in-Failed-clause-names
returns-in-Failed-clause-names g c =
    IsPermutation-trans _ _ _ c.lose_at.ensures.names
    (numbers_kept c.args.state.now.open.items c.serve_one.new.state.open.items c.args.ended.now.closed.items
    c.args.ended.now.failed.items c.in-Failed.ensures.names)

pub returns-in-Closed-clause-keyed : goal.returns-in-Closed-clause-keyed
returns-in-Closed-clause-keyed g c =
    keeps_then _ _ _ _ _ c.in-Closed.ensures.keyed c.close_at.ensures.keyed

pub returns-in-Failed-clause-keyed : goal.returns-in-Failed-clause-keyed
returns-in-Failed-clause-keyed g c =
    keeps_then _ _ _ _ _ c.in-Failed.ensures.keyed c.lose_at.ensures.keyed

pub returns-in-Open-clause-forwards : goal.returns-in-Open-clause-forwards
returns-in-Open-clause-forwards g c = λ memory start was round. c.in-Open.ensures.forwards memory start was round

pub returns-in-Closed-clause-forwards : goal.returns-in-Closed-clause-forwards
returns-in-Closed-clause-forwards g c = λ memory start was round.
    c.close_at.ensures.forwards memory start was (c.in-Closed.ensures.forwards memory start was round)

pub returns-in-Failed-clause-forwards : goal.returns-in-Failed-clause-forwards
returns-in-Failed-clause-forwards g c = λ memory start was round.
    c.lose_at.ensures.forwards memory start was (c.in-Failed.ensures.forwards memory start was round)

pub returns-in-Open-clause-closes : goal.returns-in-Open-clause-closes
returns-in-Open-clause-closes g c = λ told going. (refl, (c.in-Open.ensures.closes told going).1)

pub returns-in-Stopped-clause-closes : goal.returns-in-Stopped-clause-closes
returns-in-Stopped-clause-closes g c = λ told going. (refl, (c.in-Stopped.ensures.closes told going).1)

pub returns-in-Closed-clause-closes : goal.returns-in-Closed-clause-closes
returns-in-Closed-clause-closes g c = λ told going. absurd (c.in-Closed.ensures.closes told going).0

pub returns-in-Failed-clause-closes : goal.returns-in-Failed-clause-closes
returns-in-Failed-clause-closes g c = λ told going.
    (c.lose_at.ensures.closed, c.lose_at.ensures.going told (c.in-Failed.ensures.closes told going).1)
