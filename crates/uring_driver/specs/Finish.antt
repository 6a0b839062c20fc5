-- When a driver has nothing left to do, and what a stray completion changes. Cited by `finish` and `inject`.
use Rattle.std.specs.Prelude.{ℕ, ◌≡◌, false, []}
use Rattle.machine.specs.declared.completion.Completion.{Completion}
use Rattle.ring_core.specs.FaultRing.{FaultView, with_ring, with_completion}
use Rattle.ring_core.specs.Ring.{RingView}
use Rattle.uring_driver.specs.declared.uring.IoUringDriver.{IoUringDriver}
use Rattle.uring_driver.specs.Holding.{closes}
use Rattle.uring_driver.specs.Pending.{Pending}
use Rattle.uring_driver.specs.Uring.{ring_in, due_in, live_slots, holding_in}

-- A driver has nothing left to do: no slot is live, no handle is closing, and nothing is due or queued.
pub record HasNothingLeft {R B : Type 0} (view : R → RingView) (driver : IoUringDriver R B) : Type 0 where
  pub no_slot : live_slots driver ≡ 0
  pub none_closing : (h : ℕ) → closes (holding_in driver) h ≡ false
  pub none_due : due_in driver ≡ []
  pub none_queued : (view (ring_in driver)).queue ≡ []

-- A ring that fails where it is told to, with one more completion behind those that are ready.
abbrev pub injected : FaultView → Completion → FaultView
injected faulty completion = with_ring faulty (with_completion faulty.ring completion)

-- A submission queue over another ring.
abbrev pub over_ring : {R : Type 0} → Pending R → R → Pending R
over_ring out ring = record out { ring = ring }

-- A driver over another ring, and all else the same.
abbrev pub with_ring_in : {R B : Type 0} → IoUringDriver R B → R → IoUringDriver R B
with_ring_in driver ring = record driver { ring = over_ring driver.ring ring }
