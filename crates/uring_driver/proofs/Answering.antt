-- What a call answers that leaves the parts of a driver standing for the machine's next ledger.
use Rattle.std.proofs.Common.{◌≡◌, ◌∙◌, ◌≤◌, ℕ, false, Some, [], ◌∷◌, ◌++◌, length, sym, ap, subst, arith, length-append}
use Rattle.std.specs.FinMap.{len}
use Rattle.driver_core.specs.declared.op.Op.{Op}
use Rattle.driver_core.specs.Groups.{AreInSlots, GroupsStand}
use Rattle.driver_core.specs.Members.{Membership, ArePlaced, leaves}
use Rattle.driver_core.specs.Op.{DropsToken}
use Rattle.driver_core.specs.Ops.{Ops}
use Rattle.driver_core.specs.Slot.{number_at, KeepsNumbers}
use Rattle.driver_core.specs.Slots.{SlotsStand}
use Rattle.driver_core.proofs.Counts.{where-within, owned-lives}
use Rattle.driver_core.proofs.Grouping.{groups-kept, groups-left}
use Rattle.driver_core.proofs.Placing.{in-slots-left}
use Rattle.rent_buf.specs.Buffer.{Buffer}
use Rattle.machine.specs.declared.ledger.Event.{Event}
use Rattle.machine.specs.declared.ledger.Reply.{Reply}
use Rattle.machine.specs.Ledger.{Ledger, is_live, is_owned}
use Rattle.machine.specs.Lists.{numbers_where}
use Rattle.ring_core.specs.Ring.{RingView}
use Rattle.machine.specs.Run.{ledger}
use Rattle.machine.specs.Step.{step}
use Rattle.machine.proofs.Grouped.{groups-step}
use Rattle.machine.proofs.Grouping.{GroupsStay, may_group}
use Rattle.machine.specs.Closes.{MadeAlone}
use Rattle.machine.proofs.Alone.{alone-ledger}
use Rattle.machine.proofs.Lawful.{Lawful, lawful-ledger}
use Rattle.machine.proofs.Parting.{Follows}
use Rattle.machine.proofs.Following.{follows-ledger}
use Rattle.uring_driver.specs.declared.uring.IoUringDriver.{IoUringDriver}
use Rattle.uring_driver.specs.Holding.{HandlesStand}
use Rattle.uring_driver.specs.Op.{ops_in}
use Rattle.uring_driver.specs.Stands.{Stands, Answers, owed}
use Rattle.uring_driver.specs.Reaps.{FitsQueue}
use Rattle.uring_driver.specs.Uring.{ring_in, due_in, room_in, whole_ring}
use Rattle.uring_driver.proofs.Means.{Means, ring-of}
use Rattle.uring_driver.proofs.Steps.{reached-more}

-- The laws hold of a ledger that a driver stands for.
pub lawful-of : {R B : Type 0} {view : R → RingView} {buffer : B → Buffer} {d : IoUringDriver R B} {L : Ledger} →
    Stands view buffer d L → Lawful L
lawful-of {R} {B} {view} {buffer} {d} {L} stands =
    subst (λ M. Lawful M) (sym stands.reached) (lawful-ledger (view (ring_in d)).capacity stands.events)

-- Each operation of it that waits is directly behind the one that it waits for.
pub follows-of : {R B : Type 0} {view : R → RingView} {buffer : B → Buffer} {d : IoUringDriver R B} {L : Ledger} →
    Stands view buffer d L → Follows L
follows-of {R} {B} {view} {buffer} {d} {L} stands =
    subst (λ M. Follows M) (sym stands.reached) (follows-ledger (view (ring_in d)).capacity stands.events)

-- Nobody else holds what an operation of it made.
pub alone-of : {R B : Type 0} {view : R → RingView} {buffer : B → Buffer} {d : IoUringDriver R B} {L : Ledger} →
    Stands view buffer d L → MadeAlone L
alone-of {R} {B} {view} {buffer} {d} {L} stands =
    subst (λ M. MadeAlone M) (sym stands.reached) (alone-ledger (view (ring_in d)).capacity stands.events)

-- What is pending fits a driver's queue.
pub fits-of : {R B : Type 0} (view : R → RingView) {buffer : B → Buffer} (d : IoUringDriver R B) {L : Ledger} →
    Stands view buffer d L → FitsQueue view d.ring
fits-of view d stands = (
    let l = length-append (view (ring_in d)).queue (due_in d) in
    let f = stands.fits in
    omega (arith, l, f))

-- Of a driver that stands for a ledger, no more operations are their user's than it has slots.
pub owned-few : {R B : Type 0} {view : R → RingView} {buffer : B → Buffer} (d : IoUringDriver R B) {L : Ledger} → Stands view buffer d L →
    length (numbers_where is_owned 0 L.ops) ≤ len d.slots.values
owned-few d {L} stands =
    let a = where-within is_owned is_live L.ops owned-lives in
    let b = stands.operations.in_slots.counted in
    omega (arith, a, b)

-- An operation of a driver that is its user's no more left its group.
pub record LeavesGroup {R B : Type 0} (d new : IoUringDriver R B) (op : Op) : Type 0 where
  pub spends : DropsToken (ops_in d) (ops_in new) op
  pub placed : ArePlaced d.members
  pub left : new.members ≡ leaves d.members op.number

module _ {R B : Type 0} (view : R → RingView) (buffer : B → Buffer) (d new : IoUringDriver R B) (L M : Ledger) (event : Event)
    (reply : Reply) (old : Stands view buffer d L) (is : step L event ≡ (M, reply))
    (capacity : (view (ring_in new)).capacity ≡ (view (ring_in d)).capacity) where
  -- An event that changes no groups left those of the ledger.
  stays : may_group event ≡ false → GroupsStay L M
  stays quiet = subst (λ K. GroupsStay L K) (ap (λ x. x.0) is) (groups-step L event quiet)

  -- Where slots keep their numbers, the groups stand for those of the machine's next ledger.
  pub groups-still : may_group event ≡ false → SlotsStand buffer new.slots.values M.ops → KeepsNumbers d.slots.values new.slots.values →
      new.members ≡ d.members → GroupsStand new.members M
  groups-still quiet slots keeps members = subst (λ m. GroupsStand m M) (sym members)
      (groups-kept buffer d.slots.values new.slots.values L M d.members old.operations.in_slots slots keeps (stays quiet) old.groups)

  -- So they do where an operation left its group.
  pub groups-less : may_group event ≡ false → SlotsStand buffer new.slots.values M.ops → (op : Op) →
      number_at d.slots.values op.key ≡ Some op.number → LeavesGroup d new op → GroupsStand new.members M
  groups-less quiet slots op at leaves_it = subst (λ m. GroupsStand m M) (sym leaves_it.left)
      (groups-left buffer (ops_in d) (ops_in new) L M d.members op old.operations.in_slots slots at leaves_it.spends (stays quiet)
      leaves_it.placed old.groups)

  -- The parts of a driver stand for the machine's next ledger: so does the driver, and the reply is the machine's.
  pub answers-parts : Means buffer (whole_ring view new) new.slots.values M → new.given ≡ length M.ops → HandlesStand new.holding M →
      GroupsStand new.members M → owed M new.holding ≤ room_in new → FitsQueue view new.ring → M.world ≡ L.world →
      Answers view buffer L event reply new
  answers-parts means given handles groups room fits world =
      let same : M ≡ (step L event).0 = ap (λ x. x.0) (sym is) in
      record {
        reply_is = ap (λ x. x.1) is;
        stands = subst (λ K. Stands view buffer new K) same (record {
          events = old.events ++ event ∷ [];
          reached = ap (λ x. x.0) (sym is) ∙ reached-more L (view (ring_in new)).capacity old.events event
              (old.reached ∙ ap (λ x. ledger x old.events) (sym capacity));
          operations = record { numbered = given; in_slots = means.in_slots };
          handles = handles;
          groups = groups;
          room = room;
          fits = (let l = length-append (view (ring_in new)).queue (due_in new) in omega (arith, l, fits));
          few = (let a = ap length world in let b = old.few in omega (arith, a, b));
          ring = ring-of means;
        });
      }

-- The parts of another driver stand for the same ledger.
pub stands-parts : {R B : Type 0} (view : R → RingView) (buffer : B → Buffer) (d new : IoUringDriver R B) (L : Ledger) →
    Stands view buffer d L → (view (ring_in new)).capacity ≡ (view (ring_in d)).capacity →
    Means buffer (whole_ring view new) new.slots.values L → new.given ≡ d.given → HandlesStand new.holding L →
    new.members ≡ d.members → owed L new.holding ≤ room_in new → FitsQueue view new.ring → Stands view buffer new L
stands-parts view buffer d new L old capacity means given handles members room fits = record {
  events = old.events;
  reached = old.reached ∙ ap (λ x. ledger x old.events) (sym capacity);
  operations = record { numbered = given ∙ old.operations.numbered; in_slots = means.in_slots };
  handles = handles;
  groups = subst (λ m. GroupsStand m L) (sym members) old.groups;
  room = room;
  fits = (let l = length-append (view (ring_in new)).queue (due_in new) in omega (arith, l, fits));
  few = old.few;
  ring = ring-of means;
}

-- An operation of a number left its group.
pub leaves-group : {R B : Type 0} (d new : IoUringDriver R B) (op : Op) → DropsToken (ops_in d) (ops_in new) op → ArePlaced d.members →
    (number : ℕ) → number ≡ op.number → new.members ≡ leaves d.members number → LeavesGroup d new op
leaves-group d new op spends placed number is left =
    record { spends = spends; placed = placed; left = left ∙ ap (leaves d.members) is }

-- The other operations under groups are in slots.
pub left-in-slots : {B : Type 0} (m m' : Membership) (old new : Ops B) (op : Op) (number : ℕ) → number ≡ op.number →
    m' ≡ leaves m number → DropsToken old new op → AreInSlots m old.slots.values → AreInSlots m' new.slots.values
left-in-slots m m' old new op number is left spends are =
    subst (λ x. AreInSlots x new.slots.values) (sym (left ∙ ap (leaves m) is)) (in-slots-left m old new op spends are)
