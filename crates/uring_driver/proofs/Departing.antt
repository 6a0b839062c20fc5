-- An operation leaves, and with it the handles that it holds: its driver stands for the ledger that it left.
use Rattle.std.proofs.Common.{◌≡◌, ◌∙◌, ℕ, ◌+◌, ◌<◌, ◌≤◌, Bool, true, false, List, length, map, Some, sym, ap, arith, IsTrue}
use Rattle.rent_buf.specs.Buffer.{Buffer}
use Rattle.machine.specs.declared.world.TheConstants.{MOST_HANDLES}
use Rattle.machine.specs.declared.ledger.Event.{Event}
use Rattle.machine.specs.declared.ledger.Reply.{Reply}
use Rattle.ring_core.specs.Ring.{RingView}
use Rattle.ring_core.specs.Entry.{close_entry}
use Rattle.machine.specs.Lists.{has_number, numbers_where}
use Rattle.machine.specs.Ledger.{Ledger, is_owned}
use Rattle.machine.specs.Queue.{with_gone, became_unheld, leave}
use Rattle.machine.specs.Step.{step}
use Rattle.machine.specs.Closes.{is_closing}
use Rattle.machine.proofs.Holders.{AreLive}
use Rattle.machine.proofs.Grouping.{may_group}
use Rattle.driver_core.specs.declared.op.Op.{Op}
use Rattle.driver_core.specs.Holds.{HoldersStand}
use Rattle.driver_core.specs.Slot.{number_at}
use Rattle.driver_core.proofs.Seen.{AreEarly}
use Rattle.uring_driver.specs.declared.uring.IoUringDriver.{IoUringDriver}
use Rattle.uring_driver.specs.Holding.{places, closes, with_added}
use Rattle.uring_driver.specs.Stands.{Stands, Answers}
use Rattle.uring_driver.specs.Submissions.{pending_ring, PostsEach}
use Rattle.uring_driver.specs.Uring.{room_in}
use Rattle.uring_driver.proofs.Answering.{LeavesGroup, fits-of, groups-less, answers-parts}
use Rattle.uring_driver.proofs.Lefts.{parts-left}
use Rattle.uring_driver.proofs.Means.{Means}

-- What the leaving of an operation takes: another ledger, from which the machine lets it leave, and the parts of the driver once it left.
pub record Departs {R B : Type 0} (view : R → RingView) (buffer : B → Buffer) (tells steady : Bool) (d new : IoUringDriver R B)
    (L H : Ledger) (n : ℕ) (us : List ℕ) : Type 0 where
  pub means : Means buffer (pending_ring view d.ring) new.slots.values (with_gone H n)
  pub closing : (h : ℕ) → closes d.holding h ≡ is_closing H h
  pub stand : HoldersStand new.holding.table (with_gone H n)
  pub became : us ≡ became_unheld H (with_gone H n)
  pub closed : new.holding.closing ≡ with_added d.holding.closing us
  pub early : AreEarly (with_gone H n).ops H.queue
  pub live : AreLive (with_gone H n).ops H.queue
  pub below : (h : ℕ) → has_number h us ≡ true → h < MOST_HANDLES
  pub room : length us ≤ room_in d
  pub posts : PostsEach view tells steady d.ring new.ring (map close_entry us)
  pub owned : length (numbers_where is_owned 0 (with_gone H n).ops) + 1 ≡ length (numbers_where is_owned 0 L.ops)
  pub count : length (with_gone H n).ops ≡ length L.ops
  pub world : H.world ≡ L.world
  pub places : places new.holding + length us ≤ places d.holding

-- The driver then answers what the machine does.
pub stands-departs : {R B : Type 0} (view : R → RingView) (buffer : B → Buffer) (tells steady : Bool) (d new : IoUringDriver R B)
    (L H : Ledger) (n : ℕ) (us : List ℕ) (event : Event) (reply : Reply) → IsTrue steady → Stands view buffer d L →
    Departs view buffer tells steady d new L H n us → step L event ≡ (leave H n, reply) → new.given ≡ d.given →
    may_group event ≡ false → (op : Op) → number_at d.slots.values op.key ≡ Some op.number → LeavesGroup d new op →
    Answers view buffer L event reply new
stands-departs view buffer tells steady d new L H n us event reply always old departs e given quiet op at leaves_it =
    let left = parts-left view buffer tells steady new.slots.values d.ring new.ring d.holding new.holding H n us always departs.means
    departs.closing departs.stand departs.became departs.closed departs.early departs.live departs.below departs.room (fits-of view d old)
    departs.posts in
    answers-parts view buffer d new L (leave H n) event reply old e left.pushed.capacity left.pushed.means
    (given ∙ old.operations.numbered ∙ sym (left.count ∙ departs.count)) left.handles
    (groups-less view buffer d new L (leave H n) event reply old e left.pushed.capacity quiet left.pushed.means.in_slots op at leaves_it)
    (let a = departs.owned in
    let b = ap length left.owned in
    let c = left.pushed.room in
    let f = departs.places in
    let r = old.room in
    omega (arith, a, b, c, f, r))
    left.pushed.fits (left.world ∙ departs.world)
