use Rattle.std.proofs.Common.{rules, ◌≡◌, ◌∙◌, ap, sym}
use Rattle.std.specs.Prelude.{slice_get}
use Rattle.relay_net.proofs.relay.Relay.connections.Goals as goal

pub returns-clause-rooms : goal.returns-clause-rooms
returns-clause-rooms g c = λ conn among.
    let all : c.args.self.now.open_ones ≡ c.self.inside.state.open.items = search rules in
    let room : c.args.self.now.room ≡ c.self.inside.state.room = search rules in
    (c.self.invariant.0.served.each among.0 conn (sym (ap (λ xs. slice_get xs among.0) all) ∙ among.1)).room_is ∙ sym room
