use Rattle.std.proofs.Common.{◌≡◌}
use Rattle.ready_driver.specs.Io.{IsLater}
use Rattle.ready_driver.specs.LegacyState.{ops_in}
use Rattle.relay_net.specs.Relay.{AreServed}
use Rattle.relay_net.proofs.relay.ending.end_each.Given as goal

-- Those that are left are served, and no handle was made.
abbrev pub invariant-loop-conn : goal.invariant-loop-conn
invariant-loop-conn g l = record {
  served : AreServed l.fn.room (ops_in l.driver) l.driver.handling.table l.fn.listener l.conns.items;
  later : IsLater (g.I.NonBlock.view l.initial.driver.handling.io) (g.I.NonBlock.view l.driver.handling.io);
  made : (g.I.NonBlock.view l.driver.handling.io).made ≡ (g.I.NonBlock.view l.initial.driver.handling.io).made;
}

-- One is ended in each turn.
abbrev pub decreases-loop-conn : goal.decreases-loop-conn
decreases-loop-conn g l = goal.left-loop-conn g l
