use Rattle.std.proofs.Common.{◌≡◌, ◌-◌, [], length, None, IsTrue}
use Rattle.driver_core.specs.Slot.{KeepsNumbers}
use Rattle.driver_core.specs.Requests.{KeepsRequests}
use Rattle.uring_driver.specs.Holding.{places}
use Rattle.uring_driver.specs.State.{IsSound, AreHolding}
use Rattle.uring_driver.specs.Reap.{HasRoom}
use Rattle.uring_driver.specs.Reaps.{Reaps, midway}
use Rattle.uring_driver.proofs.uring.turn.reap_all.Given as goal

-- So many reaps were made, and there is room for as many more as are left of those that were ready.
abbrev pub invariant-loop-i : goal.invariant-loop-i
invariant-loop-i g l = record {
  reaps : Reaps g.R.Ring.view g.R.Ring.tells g.R.Ring.steady (midway l.initial.ring l.initial.ops l.initial.handles)
      (midway l.ring l.ops l.handles) l.initial.named l.named l.i None;
  none_due : IsTrue g.R.Ring.steady → l.initial.ring.due ≡ [] → l.ring.due ≡ [];
  room : HasRoom l.named (length (g.R.Ring.view l.initial.ring.ring).done - l.i);
  numbers : KeepsNumbers l.initial.ops.slots.values l.ops.slots.values;
  requests : KeepsRequests l.initial.ops l.ops;
  given : l.ops.given ≡ l.initial.ops.given;
  sound : IsSound l.ring.room l.ops.slots.values (places l.handles);
  holding : AreHolding l.handles l.ops.slots.values l.ops.given;
}
