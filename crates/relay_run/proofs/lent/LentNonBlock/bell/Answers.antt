use Rattle.std.proofs.Common.{◌≡◌}
use Rattle.std.proofs.Props.{props}
use Rattle.relay_run.proofs.Lending.{made_same}
use Rattle.relay_run.proofs.lent.LentNonBlock.bell.Goals as goal

pub returns : goal.returns
returns g c =
    let lent = c.args.self.now in
    made_same (λ net. lent.net.ghost_name ≡ g.P.NetPlaces.net) (λ net. hlevel props)
    (λ net home. record { net = record lent.net { now = net }; of = lent.of; home = home })
    c.bell.new.self lent.net.now c.bell.ensures _ lent.home
