-- When a driver stands for a ledger. Each call of the driver cites it, before and after, and so does whoever holds a driver.
use Rattle.std.specs.Prelude.{ℕ, ◌≡◌, ◌+◌, ◌≤◌, Bool, IsTrue, List, length}
use Rattle.std.specs.Ordering.{nat_cmp}
use Rattle.std.specs.FinMap as map
use Rattle.rent_buf.specs.Buffer.{Buffer}
use Rattle.machine.specs.declared.ledger.Event.{Event}
use Rattle.machine.specs.declared.ledger.Reply.{Reply}
use Rattle.machine.specs.declared.world.TheConstants.{MOST_HANDLES}
use Rattle.machine.specs.Lists.{numbers_where}
use Rattle.machine.specs.Ledger.{Ledger, is_owned}
use Rattle.machine.specs.Run.{ledger}
use Rattle.ring_core.specs.Ring.{RingView}
use Rattle.driver_core.specs.declared.slot.Slot.{Slot}
use Rattle.driver_core.specs.Operations.{OperationsStand}
use Rattle.driver_core.specs.Answers.{Answers as AnswersBy}
use Rattle.driver_core.specs.Groups.{GroupsStand}
use Rattle.uring_driver.specs.declared.uring.IoUringDriver.{IoUringDriver}
use Rattle.uring_driver.specs.Holding.{Holding, places, HandlesStand}
use Rattle.uring_driver.specs.Uring.{ring_in, room_in, pending, whole_ring}
use Rattle.uring_driver.specs.Op.{ops_in}
use Rattle.uring_driver.specs.Lists.{ListsStand}

-- A ring, read with the slots that its words are keys of, means a ledger's capacity, its handles and its lists.
pub record RingStands {B : Type 0} (buffer : B → Buffer) (slots : map.FinMap nat_cmp (Slot B)) (view : RingView) (L : Ledger) : Type 0 where
  pub capacity : view.capacity ≡ L.capacity
  pub world : view.world ≡ L.world
  pub in_lists : ListsStand buffer slots view L

-- For how many entries memory is owed to calls that take none: a cancel of each operation that its user may drop, and a close of each
-- handle that is held or may be made.
abbrev pub owed : Ledger → Holding → ℕ
owed L holding = length (numbers_where is_owned 0 L.ops) + places holding

-- A driver stands for a ledger that some events led to, from the empty one of its ring's capacity. `view` reads its ring, and
-- `buffer` its buffers. Its operations stand for the ledger's, and so do its handles' holders and closes, and its cancel groups. There is
-- room for what is owed. Its ring's queue, followed by what is due, is the ledger's queue, and fits the ring's. The ledger has no more
-- handles than there are numbers of handles.
pub record Stands {R B : Type 0} (view : R → RingView) (buffer : B → Buffer) (driver : IoUringDriver R B) (L : Ledger) : Type 0 where
  pub events : List Event
  pub reached : L ≡ ledger (view (ring_in driver)).capacity events
  pub operations : OperationsStand buffer (ops_in driver) L.ops
  pub handles : HandlesStand driver.holding L
  pub groups : GroupsStand driver.members L
  pub room : owed L driver.holding ≤ room_in driver
  pub fits : length (pending view driver) ≤ (view (ring_in driver)).capacity
  pub few : length L.world ≤ MOST_HANDLES
  pub ring : RingStands buffer driver.slots.values (whole_ring view driver) L

-- A call's answer is the machine's reply to its event, and the driver stands for the machine's next ledger.
abbrev pub Answers : {R B : Type 0} → (R → RingView) → (B → Buffer) → Ledger → Event → Reply → IoUringDriver R B → Type 0
Answers view buffer L event reply new = AnswersBy (Stands view buffer) L event reply new

-- A driver stands for a ledger, and its ring is steady: it takes all that it is given.
abbrev pub StandsIfSteady : {R B : Type 0} → (R → RingView) → (B → Buffer) → Bool → IoUringDriver R B → Ledger → Type 0
StandsIfSteady view buffer steady driver L = IsTrue steady × Stands view buffer driver L
