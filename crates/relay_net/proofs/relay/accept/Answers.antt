use Rattle.std.proofs.Common.{arith, rules}
use Rattle.relay_net.proofs.Opens.{opening_starts}
use Rattle.relay_net.proofs.Relays.{stops_later}
use Rattle.relay_net.proofs.Keyed.{keeps_then}
use Rattle.relay_net.proofs.relay.accept.Goals as goal

pub returns-in_err-begin_accept-clause-opening : goal.returns-in_err-begin_accept-clause-opening
returns-in_err-begin_accept-clause-opening g c = λ start was opening. c.begin_accept.ensures.opening start was opening

pub returns-in_err-open_one-in-Made-clause-stops : goal.returns-in_err-open_one-in-Made-clause-stops
returns-in_err-open_one-in-Made-clause-stops g c =
    stops_later (g.I.NonBlock.view c.args.state.now.driver.handling.io) (g.I.NonBlock.view c.arrive.new.state.driver.handling.io)
    (g.I.NonBlock.view c.open_one.new.state.driver.handling.io) c.from_residual-in_err-open_one-in-Made.result
    (c.arrive.ensures.opening c.args.state.now.driver c.args.state.now.open.items
    (c.begin_accept.ensures.opening c.args.state.now.driver c.args.state.now.open.items
    (opening_starts g.I.NonBlock.view g.I.NonBlock.tells c.args.state.now.driver c.args.state.now.open.items))).later (search rules)

pub returns-in-Nothing-clause-opening : goal.returns-in-Nothing-clause-opening
returns-in-Nothing-clause-opening g c = λ start was opening.
    c.arrive.ensures.opening start was (c.begin_accept.ensures.opening start was opening)

pub returns-in-OutOfMemory-clause-opening : goal.returns-in-OutOfMemory-clause-opening
returns-in-OutOfMemory-clause-opening g c = λ start was opening.
    c.arrive.ensures.opening start was (c.begin_accept.ensures.opening start was opening)

pub returns-in-Failed-clause-opening : goal.returns-in-Failed-clause-opening
returns-in-Failed-clause-opening g c = λ start was opening.
    c.arrive.ensures.opening start was (c.begin_accept.ensures.opening start was opening)

pub returns-in_err-open_one-in-Made-clause-opening : goal.returns-in_err-open_one-in-Made-clause-opening
returns-in_err-open_one-in-Made-clause-opening g c = λ start was opening.
    c.open_one.ensures.opening start was (c.arrive.ensures.opening start was (c.begin_accept.ensures.opening start was opening))

pub returns-in_ok-open_one-in-Made-clause-opening : goal.returns-in_ok-open_one-in-Made-clause-opening
returns-in_ok-open_one-in-Made-clause-opening g c = λ start was opening.
    c.open_one.ensures.opening start was (c.arrive.ensures.opening start was (c.begin_accept.ensures.opening start was opening))

pub returns-in-Failed-clause-fails : goal.returns-in-Failed-clause-fails
returns-in-Failed-clause-fails g c =
    let first = (c.begin_accept.ensures.opening c.args.state.now.driver c.args.state.now.open.items
    (opening_starts g.I.NonBlock.view g.I.NonBlock.tells c.args.state.now.driver c.args.state.now.open.items)).later.fails in
    let rose = c.in-Failed.ensures.arrives in
    omega (arith, first, rose)

pub returns-in-Nothing-clause-keyed : goal.returns-in-Nothing-clause-keyed
returns-in-Nothing-clause-keyed g c =
    keeps_then _ _ _ _ _ c.begin_accept.ensures.keyed c.arrive.ensures.keyed

pub returns-in-OutOfMemory-clause-keyed : goal.returns-in-OutOfMemory-clause-keyed
returns-in-OutOfMemory-clause-keyed g c =
    keeps_then _ _ _ _ _ c.begin_accept.ensures.keyed c.arrive.ensures.keyed

pub returns-in-Failed-clause-keyed : goal.returns-in-Failed-clause-keyed
returns-in-Failed-clause-keyed g c =
    keeps_then _ _ _ _ _ c.begin_accept.ensures.keyed c.arrive.ensures.keyed

pub returns-in_err-open_one-in-Made-clause-keyed : goal.returns-in_err-open_one-in-Made-clause-keyed
returns-in_err-open_one-in-Made-clause-keyed g c =
    keeps_then _ _ _ _ _ c.begin_accept.ensures.keyed (keeps_then _ _ _ _ _ c.arrive.ensures.keyed c.open_one.ensures.keyed)

pub returns-in_ok-open_one-in-Made-clause-keyed : goal.returns-in_ok-open_one-in-Made-clause-keyed
returns-in_ok-open_one-in-Made-clause-keyed g c =
    keeps_then _ _ _ _ _ c.begin_accept.ensures.keyed (keeps_then _ _ _ _ _ c.arrive.ensures.keyed c.open_one.ensures.keyed)

pub returns-in-Nothing-clause-forwards : goal.returns-in-Nothing-clause-forwards
returns-in-Nothing-clause-forwards g c = λ memory start was opening untouched.
    c.arrive.ensures.forwards memory start was (c.begin_accept.ensures.forwards memory start was untouched)

pub returns-in-Failed-clause-forwards : goal.returns-in-Failed-clause-forwards
returns-in-Failed-clause-forwards g c = λ memory start was opening untouched.
    c.arrive.ensures.forwards memory start was (c.begin_accept.ensures.forwards memory start was untouched)

pub returns-in_ok-open_one-in-Made-clause-forwards : goal.returns-in_ok-open_one-in-Made-clause-forwards
returns-in_ok-open_one-in-Made-clause-forwards g c = λ memory start was opening untouched.
    c.in_ok-open_one-in-Made.ensures.forwards memory start was
    (c.arrive.ensures.opening start was (c.begin_accept.ensures.opening start was opening))
    (c.arrive.ensures.forwards memory start was (c.begin_accept.ensures.forwards memory start was untouched))

pub returns-in_ok-open_one-in-Made-clause-grows : goal.returns-in_ok-open_one-in-Made-clause-grows
returns-in_ok-open_one-in-Made-clause-grows g c = λ some.
    let first = c.begin_accept.ensures.keyed.made in
    let second = c.in-Made.ensures.arrives.1 in
    let third = c.open_one.ensures.keyed.made in
    omega (arith, first, second, third)
