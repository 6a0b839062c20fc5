use Rattle.std.proofs.Common.{◌∙◌, ap, arith, subst, sym, []}
use Rattle.relay_net.specs.Relay.{AreGoing, Serving}
use Rattle.relay_net.specs.Opening.{WasOpened}
use Rattle.relay_net.proofs.Opens.{opening_serving, opening_starts}
use Rattle.relay_net.proofs.Opened.{accept_within, opened_becomes}
use Rattle.relay_net.proofs.Relays.{stops_later}
use Rattle.relay_net.proofs.Listens.{ok_given, on_ok}
use Rattle.relay_net.proofs.Closing.{opening_going}
use Rattle.relay_net.proofs.Keyed.{keeps_then}
use Rattle.relay_net.proofs.relay.work.Goals as goal

pub returns-in_err-accept-clause-serving : goal.returns-in_err-accept-clause-serving
returns-in_err-accept-clause-serving g c = λ start was opening.
    subst (λ closed. Serving g.I.NonBlock.view g.I.NonBlock.tells start was c.accept.new.state.driver
    c.accept.new.state.open.items closed c.accept.new.lists.ended.failed.items)
    (sym (ap (λ e. e.closed.items) c.accept.ensures.ended ∙ c.requires.none.0))
    (subst (Serving g.I.NonBlock.view g.I.NonBlock.tells start was c.accept.new.state.driver
    c.accept.new.state.open.items [])
    (sym (ap (λ e. e.failed.items) c.accept.ensures.ended ∙ c.requires.none.1))
    (opening_serving g.I.NonBlock.view g.I.NonBlock.tells start c.accept.new.state.driver was
    c.accept.new.state.open.items (c.accept.ensures.opening start was opening)))

pub returns-clause-serving : goal.returns-clause-serving
returns-clause-serving g c = λ start was opening.
    c.serve_all.ensures.serving start was
    (subst (λ closed. Serving g.I.NonBlock.view g.I.NonBlock.tells start was c.accept.new.state.driver
    c.accept.new.state.open.items closed c.accept.new.lists.ended.failed.items)
    (sym (ap (λ e. e.closed.items) c.accept.ensures.ended ∙ c.requires.none.0))
    (subst (Serving g.I.NonBlock.view g.I.NonBlock.tells start was c.accept.new.state.driver
    c.accept.new.state.open.items [])
    (sym (ap (λ e. e.failed.items) c.accept.ensures.ended ∙ c.requires.none.1))
    (opening_serving g.I.NonBlock.view g.I.NonBlock.tells start c.accept.new.state.driver was
    c.accept.new.state.open.items (c.accept.ensures.opening start was opening))))

pub returns-clause-stops : goal.returns-clause-stops
returns-clause-stops g c =
    stops_later (g.I.NonBlock.view c.args.state.now.driver.handling.io) (g.I.NonBlock.view c.accept.new.state.driver.handling.io)
    (g.I.NonBlock.view c.serve_all.new.state.driver.handling.io) c.serve_all.result
    (c.accept.ensures.opening c.args.state.now.driver c.args.state.now.open.items
    (opening_starts g.I.NonBlock.view g.I.NonBlock.tells c.args.state.now.driver c.args.state.now.open.items)).later
    c.serve_all.ensures.stops

pub returns-clause-fails : goal.returns-clause-fails
returns-clause-fails g c =
    accept_within (g.I.NonBlock.view c.args.state.now.driver.handling.io) (g.I.NonBlock.view c.args.state.now.driver.handling.io)
    (g.I.NonBlock.view c.accept.new.state.driver.handling.io) (g.I.NonBlock.view c.serve_all.new.state.driver.handling.io)
    c.accept.new.lists.accept (omega arith) c.serve_all.ensures.later.fails c.accept.ensures.fails

pub returns-in_err-accept-clause-opens : goal.returns-in_err-accept-clause-opens
returns-in_err-accept-clause-opens g c = λ start was opening n among.
    subst (λ closed. WasOpened g.I.NonBlock.view g.I.NonBlock.tells start n c.accept.new.state.driver c.accept.new.state.open.items
    closed c.accept.new.lists.ended.failed.items) (sym (ap (λ e. e.closed.items) c.accept.ensures.ended ∙ c.requires.none.0))
    (subst (WasOpened g.I.NonBlock.view g.I.NonBlock.tells start n c.accept.new.state.driver c.accept.new.state.open.items [])
    (sym (ap (λ e. e.failed.items) c.accept.ensures.ended ∙ c.requires.none.1))
    (opened_becomes g.I.NonBlock.view g.I.NonBlock.tells start c.accept.new.state.driver c.accept.new.state.driver was
    c.accept.new.state.open.items c.accept.new.state.open.items n [] [] (c.accept.ensures.opening start was opening)
    (c.accept.ensures.opened n among)
    (opening_serving g.I.NonBlock.view g.I.NonBlock.tells c.accept.new.state.driver c.accept.new.state.driver
    c.accept.new.state.open.items c.accept.new.state.open.items
    (opening_starts g.I.NonBlock.view g.I.NonBlock.tells c.accept.new.state.driver c.accept.new.state.open.items))))

pub returns-clause-opens : goal.returns-clause-opens
returns-clause-opens g c = λ start was opening n among.
    opened_becomes g.I.NonBlock.view g.I.NonBlock.tells start c.accept.new.state.driver c.serve_all.new.state.driver was
    c.accept.new.state.open.items c.serve_all.new.state.open.items n c.serve_all.new.ended.closed.items c.serve_all.new.ended.failed.items
    (c.accept.ensures.opening start was opening) (c.accept.ensures.opened n among)
    (c.serve_all.ensures.serving c.accept.new.state.driver c.accept.new.state.open.items
    (subst (λ closed. Serving g.I.NonBlock.view g.I.NonBlock.tells c.accept.new.state.driver c.accept.new.state.open.items
    c.accept.new.state.driver c.accept.new.state.open.items closed c.accept.new.lists.ended.failed.items)
    (sym (ap (λ e. e.closed.items) c.accept.ensures.ended ∙ c.requires.none.0))
    (subst (Serving g.I.NonBlock.view g.I.NonBlock.tells c.accept.new.state.driver c.accept.new.state.open.items c.accept.new.state.driver
    c.accept.new.state.open.items []) (sym (ap (λ e. e.failed.items) c.accept.ensures.ended ∙ c.requires.none.1))
    (opening_serving g.I.NonBlock.view g.I.NonBlock.tells c.accept.new.state.driver c.accept.new.state.driver
    c.accept.new.state.open.items c.accept.new.state.open.items
    (opening_starts g.I.NonBlock.view g.I.NonBlock.tells c.accept.new.state.driver c.accept.new.state.open.items)))))

pub returns-clause-accepts : goal.returns-clause-accepts
returns-clause-accepts g c = on_ok c.serve_all.result _ c.in_ok-accept.ensures.accepts

pub returns-clause-keyed : goal.returns-clause-keyed
returns-clause-keyed g c =
    keeps_then _ _ _ _ _ c.accept.ensures.keyed c.serve_all.ensures.keyed

pub returns-clause-forwards : goal.returns-clause-forwards
returns-clause-forwards g c =
    ok_given c.serve_all.result _ (λ from memory start was opening untouched.
    from _ (c.serve_all.ensures.forwards memory start was (c.in_ok-accept.ensures.forwards memory start was opening untouched)))

pub returns-in_err-accept-clause-closes : goal.returns-in_err-accept-clause-closes
returns-in_err-accept-clause-closes g c = λ told going. ap (λ e. e.closed.items) c.accept.ensures.ended ∙ c.requires.none.0

pub returns-clause-closes : goal.returns-clause-closes
returns-clause-closes g c = λ told going.
    let still = opening_going g.I.NonBlock.view g.I.NonBlock.tells c.args.state.now.driver c.accept.new.state.driver
    c.args.state.now.listener c.args.state.now.open.items c.accept.new.state.open.items
    (c.accept.ensures.opening c.args.state.now.driver c.args.state.now.open.items
    (opening_starts g.I.NonBlock.view g.I.NonBlock.tells c.args.state.now.driver c.args.state.now.open.items)) told going in
    ap (λ v. v.items) (c.serve_all.ensures.closes told
    (subst (λ h. AreGoing g.I.NonBlock.view c.accept.new.state.driver h c.accept.new.state.open.items) (sym c.accept.ensures.same) still))
    ∙ (ap (λ e. e.closed.items) c.accept.ensures.ended ∙ c.requires.none.0)

pub returns-clause-grows : goal.returns-clause-grows
returns-clause-grows g c = λ some.
    let first = c.accept.ensures.grows some in
    let second = c.serve_all.ensures.keyed.made in
    omega (arith, first, second)
