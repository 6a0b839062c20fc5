use Rattle.std.proofs.Common.{rules, ◌≡◌, ◌<◌, ◌∙◌, ap, arith, length, subst, sym, []}
use Rattle.relay_net.specs.Keeping.{world_of}
use Rattle.relay_net.specs.Relay.{AreGoing, IsAmong, Serving}
use Rattle.relay_net.specs.Relaying.{RoundStops, round_of}
use Rattle.relay_net.proofs.Opens.{opening_serving, opening_starts}
use Rattle.relay_net.proofs.Opened.{accept_within, none_opened}
use Rattle.relay_net.specs.Opening.{AcceptFails, WasOpened}
use Rattle.std.specs.Vec.{vec_len}
use Rattle.relay_net.specs.Listening.{AreGoingBut, IsAtHand, MayListen}
use Rattle.relay_net.proofs.Listens.{map_ok, ok_through}
use Rattle.relay_net.specs.Keyed.{HasKeys}
use Rattle.relay_net.proofs.Closing.{opening_going}
use Rattle.relay_net.proofs.Keyed.{sound_registered}
use Rattle.relay_net.specs.Forwarding.{HaveForwarded}
use Rattle.relay_net.proofs.relay.Relay.round.Goals as goal

pub returns-clause-serving : goal.returns-clause-serving
returns-clause-serving g c =
    let driver : c.args.self.now.driver ≡ c.self.inside.state.driver = search rules in
    let all : c.args.self.now.open_ones ≡ c.self.inside.state.open.items = search rules in
    subst (λ d. Serving g.I.NonBlock.view g.I.NonBlock.tells d c.args.self.now.open_ones c.behind-worked.new.state.driver
    c.behind-worked.new.state.open.items
    (round_of c.finish.result).closed (round_of c.finish.result).failed) (sym driver)
    (subst (λ xs. Serving g.I.NonBlock.view g.I.NonBlock.tells c.self.inside.state.driver xs c.behind-worked.new.state.driver
    c.behind-worked.new.state.open.items
    (round_of c.finish.result).closed (round_of c.finish.result).failed) (sym all)
    (subst (λ r. Serving g.I.NonBlock.view g.I.NonBlock.tells c.self.inside.state.driver c.self.inside.state.open.items
    c.behind-worked.new.state.driver c.behind-worked.new.state.open.items r.closed r.failed) (sym c.finish.ensures.round)
    (subst (λ closed. Serving g.I.NonBlock.view g.I.NonBlock.tells c.self.inside.state.driver c.self.inside.state.open.items
    c.behind-worked.new.state.driver c.behind-worked.new.state.open.items closed c.round_with.result.failed)
    (sym c.round_with.ensures.lists.0)
    (subst (Serving g.I.NonBlock.view g.I.NonBlock.tells c.self.inside.state.driver c.self.inside.state.open.items
    c.behind-worked.new.state.driver c.behind-worked.new.state.open.items c.behind-worked.new.lists.ended.closed.items) (sym
    c.round_with.ensures.lists.1)
    (c.behind-worked.ensures.serving c.self.inside.state.driver c.self.inside.state.open.items c.turn-remote.ensures.opening)))))

pub returns-clause-stops : goal.returns-clause-stops
returns-clause-stops g c =
    let driver : c.args.self.now.driver ≡ c.self.inside.state.driver = search rules in
    subst (λ d. RoundStops (g.I.NonBlock.view d.handling.io) (g.I.NonBlock.view c.behind-worked.new.state.driver.handling.io)
    c.finish.result) (sym driver)
    (c.finish.ensures.stops (g.I.NonBlock.view c.self.inside.state.driver.handling.io)
    (g.I.NonBlock.view c.behind-worked.new.state.driver.handling.io)
    (c.behind-worked.ensures.stops (g.I.NonBlock.view c.self.inside.state.driver.handling.io) c.turn-remote.ensures.stops
    c.turn-remote.ensures.opening.later))

pub returns-clause-accept : goal.returns-clause-accept
returns-clause-accept g c =
    let driver : c.args.self.now.driver ≡ c.self.inside.state.driver = search rules in
    let is : (round_of c.finish.result).accept ≡ c.behind-worked.new.lists.accept =
    ap (λ r. r.accept) c.finish.ensures.round ∙ c.round_with.ensures.opened.1 in
    subst (λ d. AcceptFails (g.I.NonBlock.view d.handling.io) (g.I.NonBlock.view c.behind-worked.new.state.driver.handling.io)
    (round_of c.finish.result).accept) (sym driver)
    (subst (AcceptFails (g.I.NonBlock.view c.self.inside.state.driver.handling.io)
    (g.I.NonBlock.view c.behind-worked.new.state.driver.handling.io)) (sym is)
    (accept_within (g.I.NonBlock.view c.self.inside.state.driver.handling.io)
    (g.I.NonBlock.view c.turn-remote.new.state.driver.handling.io)
    (g.I.NonBlock.view c.behind-worked.new.state.driver.handling.io) (g.I.NonBlock.view c.behind-worked.new.state.driver.handling.io)
    c.behind-worked.new.lists.accept c.turn-remote.ensures.opening.later.fails (omega arith) c.behind-worked.ensures.fails))

pub returns-then-is_err-clause-serving : goal.returns-then-is_err-clause-serving
returns-then-is_err-clause-serving g c =
    let driver : c.args.self.now.driver ≡ c.self.inside.state.driver = search rules in
    let all : c.args.self.now.open_ones ≡ c.self.inside.state.open.items = search rules in
    subst (λ d. Serving g.I.NonBlock.view g.I.NonBlock.tells d c.args.self.now.open_ones c.self.inside.state.driver
    c.self.inside.state.open.items c.no_round.result.closed c.no_round.result.failed) (sym driver)
    (subst (λ xs. Serving g.I.NonBlock.view g.I.NonBlock.tells c.self.inside.state.driver xs c.self.inside.state.driver
    c.self.inside.state.open.items c.no_round.result.closed c.no_round.result.failed) (sym all)
    (subst (λ closed. Serving g.I.NonBlock.view g.I.NonBlock.tells c.self.inside.state.driver c.self.inside.state.open.items
    c.self.inside.state.driver c.self.inside.state.open.items closed c.no_round.result.failed) (sym c.no_round.ensures.lists.0)
    (subst (Serving g.I.NonBlock.view g.I.NonBlock.tells c.self.inside.state.driver c.self.inside.state.open.items
    c.self.inside.state.driver c.self.inside.state.open.items []) (sym c.no_round.ensures.lists.1)
    (opening_serving g.I.NonBlock.view g.I.NonBlock.tells c.self.inside.state.driver c.self.inside.state.driver
    c.self.inside.state.open.items c.self.inside.state.open.items
    (opening_starts g.I.NonBlock.view g.I.NonBlock.tells c.self.inside.state.driver c.self.inside.state.open.items)))))

pub invariant_of-self-2 : goal.invariant_of-self-2
invariant_of-self-2 g c = (
  c.behind-worked.ensures.sound,
  c.behind-worked.ensures.places,
  c.self.invariant.2,
  c.round_with.ensures.none,
  λ told. (c.behind-worked.ensures.serving c.self.inside.state.driver c.self.inside.state.open.items c.turn-remote.ensures.opening).marks
      told (c.self.invariant.4 told),
)

pub returns-then-is_err-clause-opens : goal.returns-then-is_err-clause-opens
returns-then-is_err-clause-opens g c = λ n among. none_opened c.no_round.result.opened n c.no_round.ensures.opened.0 among

pub returns-clause-opens : goal.returns-clause-opens
returns-clause-opens g c = λ n among.
    let driver : c.args.self.now.driver ≡ c.self.inside.state.driver = search rules in
    let named : IsAmong c.behind-worked.new.lists.opened.items n =
    subst (λ xs. IsAmong xs n) (ap (λ r. r.opened) c.finish.ensures.round ∙ c.round_with.ensures.opened.0) among in
    subst (λ d. WasOpened g.I.NonBlock.view g.I.NonBlock.tells d n c.behind-worked.new.state.driver c.behind-worked.new.state.open.items
    (round_of c.finish.result).closed (round_of c.finish.result).failed) (sym driver)
    (subst (λ r. WasOpened g.I.NonBlock.view g.I.NonBlock.tells c.self.inside.state.driver n c.behind-worked.new.state.driver
    c.behind-worked.new.state.open.items r.closed r.failed) (sym c.finish.ensures.round)
    (subst (λ closed. WasOpened g.I.NonBlock.view g.I.NonBlock.tells c.self.inside.state.driver n c.behind-worked.new.state.driver
    c.behind-worked.new.state.open.items closed c.round_with.result.failed) (sym c.round_with.ensures.lists.0)
    (subst (WasOpened g.I.NonBlock.view g.I.NonBlock.tells c.self.inside.state.driver n c.behind-worked.new.state.driver
    c.behind-worked.new.state.open.items c.behind-worked.new.lists.ended.closed.items) (sym c.round_with.ensures.lists.1)
    (c.behind-worked.ensures.opens c.self.inside.state.driver c.self.inside.state.open.items c.turn-remote.ensures.opening n named))))

pub returns-clause-accepts : goal.returns-clause-accepts
returns-clause-accepts g c =
    let driver : c.args.self.now.driver ≡ c.self.inside.state.driver = search rules in
    let listener : c.args.self.now.listener ≡ c.self.inside.state.listener = search rules in
    let all : c.args.self.now.open_ones ≡ c.self.inside.state.open.items = search rules in
    let limit : c.args.self.now.limit ≡ c.self.inside.limit = search rules in
    let size : vec_len c.self.inside.state.open ≡ length c.self.inside.state.open.items = search rules in
    let still : c.turn-remote.new.state.open ≡ c.self.inside.state.open = c.turn-remote.ensures.same.1 in
    let opened : (round_of c.finish.result).opened ≡ c.behind-worked.new.lists.opened.items =
    ap (λ r. r.opened) c.finish.ensures.round ∙ c.round_with.ensures.opened.0 in
    ok_through c.finish.result c.behind-worked.result _ c.finish.ensures.works
    (map_ok c.behind-worked.result _ _ (λ goes memory may few none.
    let here : MayListen g.I.NonBlock.view c.self.inside.state.driver c.self.inside.state.listener =
    subst (λ d. MayListen g.I.NonBlock.view d c.self.inside.state.listener) driver
    (subst (MayListen g.I.NonBlock.view c.args.self.now.driver) listener may) in
    let fewer : length c.self.inside.state.open.items < c.self.inside.limit =
    subst (λ xs. length xs < c.self.inside.limit) all (subst (λ n. length c.args.self.now.open_ones < n) limit few) in
    let places : vec_len c.turn-remote.new.state.open < c.self.inside.limit =
    subst (λ v. vec_len v < c.self.inside.limit) (sym still) (omega (arith, fewer, size)) in
    goes memory
    (map_ok c.turn-remote.result.1 _ _ (λ hands.
    subst (IsAtHand g.I.NonBlock.view c.turn-remote.new.state.driver) (sym c.turn-remote.ensures.same.0) (hands memory here))
    c.turn-remote.ensures.hand) places (sym opened ∙ none)) c.behind-worked.ensures.accepts)

pub returns-then-is_err-clause-keyed : goal.returns-then-is_err-clause-keyed
returns-then-is_err-clause-keyed g c = λ memory has.
    let driver : c.args.self.now.driver ≡ c.self.inside.state.driver = search rules in
    sound_registered g.I.NonBlock.view c.self.inside.state.driver c.self.inside.state.listener c.self.inside.state.accept
    c.self.inside.state.open.items c.self.invariant.0 (subst (λ d. HasKeys g.I.NonBlock.view d.handling) driver has)

pub returns-clause-keyed : goal.returns-clause-keyed
returns-clause-keyed g c = λ memory has.
    let driver : c.args.self.now.driver ≡ c.self.inside.state.driver = search rules in
    sound_registered g.I.NonBlock.view c.behind-worked.new.state.driver c.behind-worked.new.state.listener
    c.behind-worked.new.state.accept c.behind-worked.new.state.open.items c.behind-worked.ensures.sound
    (c.behind-worked.ensures.keyed.keys memory
    (c.turn-remote.ensures.keyed.keys memory (subst (λ d. HasKeys g.I.NonBlock.view d.handling) driver has)))

pub returns-clause-forwards : goal.returns-clause-forwards
returns-clause-forwards g c =
    let driver : c.args.self.now.driver ≡ c.self.inside.state.driver = search rules in
    let all : c.args.self.now.open_ones ≡ c.self.inside.state.open.items = search rules in
    ok_through c.finish.result c.behind-worked.result _ c.finish.ensures.works
    (map_ok c.behind-worked.result _ _ (λ goes memory has.
    subst (λ d. HaveForwarded g.I.NonBlock.view d c.args.self.now.open_ones c.behind-worked.new.state.driver
    c.behind-worked.new.state.open.items) (sym driver)
    (subst (λ xs. HaveForwarded g.I.NonBlock.view c.self.inside.state.driver xs c.behind-worked.new.state.driver
    c.behind-worked.new.state.open.items) (sym all)
    (goes memory c.self.inside.state.driver c.self.inside.state.open.items c.turn-remote.ensures.opening
    (map_ok c.turn-remote.result.1 _ _ (λ starts. starts memory (subst (λ d. HasKeys g.I.NonBlock.view d.handling) driver has))
    c.turn-remote.ensures.forwards)))) c.behind-worked.ensures.forwards)

pub returns-clause-grows : goal.returns-clause-grows
returns-clause-grows g c = λ some.
    let driver : c.args.self.now.driver ≡ c.self.inside.state.driver = search rules in
    let opened : (round_of c.finish.result).opened ≡ c.behind-worked.new.lists.opened.items =
    ap (λ r. r.opened) c.finish.ensures.round ∙ c.round_with.ensures.opened.0 in
    let start = ap (λ d. (g.I.NonBlock.view d.handling.io).made) driver in
    let first = c.turn-remote.ensures.keyed.made in
    let second = c.behind-worked.ensures.grows (λ none. some (opened ∙ none)) in
    omega (arith, start, first, second)

pub returns-clause-order : goal.returns-clause-order
returns-clause-order g c =
    let driver : c.args.self.now.driver ≡ c.self.inside.state.driver = search rules in
    let start = ap (λ d. (g.I.NonBlock.view d.handling.io).made) driver in
    let first = c.turn-remote.ensures.keyed.made in
    let second = c.behind-worked.ensures.keyed.made in
    omega (arith, start, first, second)

pub returns-clause-closes : goal.returns-clause-closes
returns-clause-closes g c = λ told streams.
    let driver : c.args.self.now.driver ≡ c.self.inside.state.driver = search rules in
    let listener : c.args.self.now.listener ≡ c.self.inside.state.listener = search rules in
    let here : AreGoingBut c.self.inside.state.listener (world_of g.I.NonBlock.view c.self.inside.state.driver) =
    subst (λ d. AreGoingBut c.self.inside.state.listener (world_of g.I.NonBlock.view d)) driver
    (subst (λ h. AreGoingBut h (world_of g.I.NonBlock.view c.args.self.now.driver)) listener streams) in
    let still = opening_going g.I.NonBlock.view g.I.NonBlock.tells c.self.inside.state.driver c.turn-remote.new.state.driver
    c.self.inside.state.listener c.self.inside.state.open.items c.turn-remote.new.state.open.items c.turn-remote.ensures.opening told
    (record { streams = here; marked = c.self.invariant.4 told }) in
    ap (λ r. r.closed) c.finish.ensures.round ∙ c.round_with.ensures.lists.0
    ∙ c.behind-worked.ensures.closes told
    (subst (λ h. AreGoing g.I.NonBlock.view c.turn-remote.new.state.driver h c.turn-remote.new.state.open.items)
    (sym c.turn-remote.ensures.same.0) still)
