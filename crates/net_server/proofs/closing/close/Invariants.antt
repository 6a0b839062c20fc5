use Rattle.handle_core.specs.Table.{holders_at}
use Rattle.ready_driver.specs.LegacyState.{ops_in}
use Rattle.net_server.specs.Closing.{GainsNone, SameSlots, table_of}
use Rattle.net_server.proofs.closing.close.Given as goal

-- What all closes so far leave.
abbrev pub invariant-loop-fd : goal.invariant-loop-fd
invariant-loop-fd g l = record {
  same : SameSlots (ops_in l.initial.driver) (ops_in l.driver);
  gains : GainsNone (table_of l.initial.driver) (table_of l.driver);
}

-- The user holds the handle once less in each turn.
abbrev pub decreases-loop-fd : goal.decreases-loop-fd
decreases-loop-fd g l = (holders_at (table_of l.driver) l.fd).user
