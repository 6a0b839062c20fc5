-- A ring and slots that mean a ledger, in one record. The lemmas over plain values take and give it whole; `Stands` says the same in
-- two parts, its operations and its ring.
use Rattle.std.specs.Prelude.{◌≡◌}
use Rattle.std.specs.Ordering.{nat_cmp}
use Rattle.std.specs.FinMap.{FinMap}
use Rattle.rent_buf.specs.Buffer.{Buffer}
use Rattle.machine.specs.Ledger.{Ledger}
use Rattle.ring_core.specs.Ring.{RingView}
use Rattle.driver_core.specs.declared.slot.Slot.{Slot}
use Rattle.driver_core.specs.Members.{Membership}
use Rattle.driver_core.specs.Ops.{Ops}
use Rattle.driver_core.specs.Slots.{SlotsStand}
use Rattle.uring_driver.specs.declared.uring.IoUringDriver.{IoUringDriver}
use Rattle.uring_driver.specs.Uring.{whole_ring}
use Rattle.uring_driver.specs.Holding.{Holding}
use Rattle.uring_driver.specs.Lists.{ListsStand}
use Rattle.uring_driver.specs.Pending.{Pending}
use Rattle.uring_driver.specs.State.{State}
use Rattle.uring_driver.specs.Stands.{RingStands, Stands}

-- A driver of these parts.
abbrev pub by_parts : {R B : Type 0} → Pending R → Ops B → Holding → Membership → State R B
by_parts ring ops holding members =
    record { ring = ring; slots = ops.slots; given = ops.given; holding = holding; members = members }

-- A ring and slots mean a ledger: its capacity, what stands on its handles, its operations by their slots, and its lists.
pub record Means {B : Type 0} (buffer : B → Buffer) (view : RingView) (slots : FinMap nat_cmp (Slot B)) (L : Ledger) : Type 0 where
  pub capacity : view.capacity ≡ L.capacity
  pub world : view.world ≡ L.world
  pub in_slots : SlotsStand buffer slots L.ops
  pub in_lists : ListsStand buffer slots view L

-- The ring and the slots of a driver that stands for a ledger mean it.
pub means-of : {R B : Type 0} {view : R → RingView} {buffer : B → Buffer} {d : IoUringDriver R B} {L : Ledger} → Stands view buffer d L →
    Means buffer (whole_ring view d) d.slots.values L
means-of stands = record {
  capacity = stands.ring.capacity;
  world = stands.ring.world;
  in_slots = stands.operations.in_slots;
  in_lists = stands.ring.in_lists;
}

-- A ring and slots that mean a ledger: the ring's part of it.
pub ring-of : {B : Type 0} {buffer : B → Buffer} {view : RingView} {slots : FinMap nat_cmp (Slot B)} {L : Ledger} →
    Means buffer view slots L → RingStands buffer slots view L
ring-of means = record { capacity = means.capacity; world = means.world; in_lists = means.in_lists }
