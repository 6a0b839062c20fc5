use Rattle.std.proofs.Common.{◌≡◌, length}
use Rattle.std.specs.Prelude.{◌-◌, IfSome}
use Rattle.net_server.specs.Server.{IsTurnFault, connections_in}
use Rattle.net_server.proofs.places.Places.note_all.Given as goal

-- Those before these are noted.
abbrev pub invariant-loop-rest : goal.invariant-loop-rest
invariant-loop-rest g l = record {
  count : l.self.count - connections_in l.rest ≡ l.initial.self.count - connections_in l.ended;
  most : l.self.most ≡ l.initial.self.most;
  told : IfSome l.told IsTurnFault;
}

abbrev pub decreases-loop-rest : goal.decreases-loop-rest
decreases-loop-rest g l = length l.rest
