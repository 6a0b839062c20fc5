-- What the calls that drop and cancel answer, by their tokens.
use Rattle.std.proofs.Common.{◌≡◌, ℕ, ◌+◌, ◌≤◌, ◌<◌, Bool, true, false, List, [], ◌∷◌, refl, sym, ◌∙◌, ap, subst, arith, IsTrue}
use Rattle.std.specs.Ordering.{nat_cmp}
use Rattle.std.specs.FinMap.{FinMap, get, insert, len}
use Rattle.rent_buf.specs.Buffer.{Buffer}
use Rattle.op_slots.specs.declared.lifecycle.AfterDrop.TheVariants.{Left, Free}
use Rattle.op_slots.specs.Lifecycle.{after_drop}
use Rattle.ring_core.specs.Entry.{cancel_entry}
use Rattle.ring_core.specs.Ring.{RingView}
use Rattle.machine.specs.declared.ledger.Event.TheVariants.{Drop, Cancel as Asks}
use Rattle.machine.specs.declared.ledger.Reply.TheVariants.{Dropped, Asked}
use Rattle.machine.specs.Ledger.{Ledger}
use Rattle.driver_core.specs.declared.slot.Slot.{Slot}
use Rattle.driver_core.specs.declared.op.Op.{Op}
use Rattle.driver_core.specs.Holds.{held_in}
use Rattle.uring_driver.specs.Holding.{places}
use Rattle.uring_driver.specs.declared.uring.IoUringDriver.{IoUringDriver}
use Rattle.uring_driver.specs.Pending.{Pending}
use Rattle.uring_driver.specs.Uring.{ring_in, due_in, pending, room_in}
use Rattle.uring_driver.specs.Op.{Holds, number_of, cancel_for}
use Rattle.uring_driver.specs.Submissions.{with_spare, pending_ring, Posts, PendingMoves}
use Rattle.driver_core.specs.Slot.{with_life, number_at, serial_of, is_flying, DropsAt}
use Rattle.op_slots.specs.declared.lifecycle.Lifecycle.{Lifecycle}
use Rattle.op_slots.specs.declared.lifecycle.Lifecycle.TheVariants.{Submitted, Waiting, Ignored, Completed}
use Rattle.machine.specs.declared.request.Outcome.{Outcome}
use Rattle.uring_driver.specs.Holding.{places}
use Rattle.uring_driver.specs.State.{IsSound}
use Rattle.uring_driver.specs.Dropped.{DropsOp, DropsSlotOf}
use Rattle.uring_driver.proofs.Sound.{sound-less}
use Rattle.uring_driver.specs.Stands.{Stands, Answers}
use Rattle.driver_core.proofs.Maps.{put-same, put-other}
use Rattle.driver_core.proofs.Numbers.{Owner}
use Rattle.uring_driver.proofs.Entering.{moves-join}
use Rattle.uring_driver.proofs.Starting.{stands-same}
use Rattle.driver_core.proofs.SlotTokens.{held-slot}
use Rattle.driver_core.proofs.Polling.{ignored-left}
use Rattle.uring_driver.proofs.Dropping.{stands-leaves, stands-frees, stands-asks}
use Rattle.uring_driver.proofs.Answering.{LeavesGroup, owned-few}
use Rattle.uring_driver.proofs.Leaving.{TakesParts}

-- A cancel joined what is pending.
pub cancel-moves : {R : Type 0} (view : R → RingView) (tells steady : Bool) (old new : Pending R) (op : Op) (key number : ℕ) →
    key ≡ op.key → number ≡ op.number → 0 < old.room → Posts view tells steady old new (cancel_entry key number) → IsTrue tells →
    PendingMoves (pending_ring view old).queue (pending_ring view new).queue (cancel_for op ∷ [])
cancel-moves view tells steady old new op key number k n some joins t =
    let j = joins.told some t in
    subst (λ e. PendingMoves (pending_ring view old).queue (pending_ring view new).queue (e ∷ []))
    (ap (cancel_entry key) n ∙ ap (λ x. cancel_entry x op.number) k)
    (moves-join (pending_ring view old) j.0 (pending_ring view new) (cancel_entry key number) (view new.ring).spare j.1 j.2)

-- A drop leaves a slot that is in flight.
leaves : (l : Lifecycle Outcome) → is_flying l ≡ true → after_drop l ≡ Left
leaves Submitted h = refl
leaves (Waiting task) h = refl
leaves Ignored h = refl
leaves (Completed r) h = (let f : ⊥ = cc in absurd f)

-- A slot that isn't in flight is completed.
completed : (l : Lifecycle Outcome) → is_flying l ≡ false → (r : Outcome) × (l ≡ Completed r)
completed Submitted h = (let f : ⊥ = cc in absurd f)
completed (Waiting task) h = (let f : ⊥ = cc in absurd f)
completed Ignored h = (let f : ⊥ = cc in absurd f)
completed (Completed r) h = (r, refl)

-- The answers of `drop_op`, by what it did to the slot of its token.
module _ {R B : Type 0} (d new : IoUringDriver R B) (op : Op) (slots : FinMap nat_cmp (Slot B)) (holds : Holds d op)
    (put : new.slots.values ≡ slots) where
  abbrev has : Owner d.slots.values op.key op.number
  has = held-slot d.slots.values op holds

  -- What a drop does, over any ring, where it leaves the slot.
  pub drops-left : (view : R → RingView) (tells : Bool) → DropsAt d.slots.values op.key slots Left → new.holding ≡ d.holding →
      (IsTrue tells → PendingMoves (pending view d) (pending view new) (cancel_for op ∷ [])) → DropsOp view tells d new op
  drops-left view tells drops holding moves = λ s there. (
      let is = drops s there in
      subst (λ b. DropsSlotOf view tells d new op s b) (sym is.0) (put ∙ is.1, holding, moves))

  -- What holds of every driver's room holds after a drop that leaves the slot.
  pub sound-left : IsSound d.ring.room d.slots.values (places d.holding) → DropsAt d.slots.values op.key slots Left → (room : ℕ) →
      room + 1 ≡ d.ring.room → IsSound room slots (places d.holding)
  sound-left sound drops room less =
      let is = (drops has.slot has.there).1 in
      let t : Slot B = with_life has.slot Ignored in
      sound-less d.ring.room d.slots.values slots (places d.holding) op.key op.number sound holds
      (ap (λ m. number_at m op.key) is ∙ ap serial_of (put-same d.slots.values op.key t))
      (λ j e. ap (λ m. number_at m j) is ∙ ap serial_of (put-other d.slots.values op.key t j e)) room less

  module _ (view : R → RingView) (buffer : B → Buffer) (tells steady : Bool) (always : IsTrue steady) (L : Ledger)
      (old : Stands view buffer d L) (given : new.given ≡ d.given) where
    -- What isn't reaped is left, and its cancel joins what is pending.
    pub drop-leaves : LeavesGroup d new op → (key number : ℕ) → key ≡ op.key → number ≡ op.number →
        DropsAt d.slots.values op.key slots Left → new.holding ≡ d.holding →
        Posts view tells steady d.ring new.ring (cancel_entry key number) → Answers view buffer L (Drop (number_of op)) Dropped new
    drop-leaves leaves_it key number k n drops holding posts =
        let t = has.slot in
        let is = drops t has.there in
        let left = leaves t.life is.0 in
        subst (λ x. Answers view buffer L (Drop x) Dropped new) has.serial
        (stands-leaves view buffer tells steady always d new L op.key t old has.there has.owned given left
        (subst (λ i. LeavesGroup d new (record { number = i; key = op.key })) (sym has.serial) leaves_it)
        (put ∙ is.1 ∙ ap (λ l. insert d.slots.values op.key (with_life t l)) (sym (ignored-left t.life left))) holding
        (subst (λ x. Posts view tells steady d.ring new.ring (cancel_entry op.key x)) (n ∙ sym has.serial)
        (subst (λ x. Posts view tells steady d.ring new.ring (cancel_entry x number)) k posts)))

    -- What is reaped is freed, and lets its handles go.
    pub drop-frees : LeavesGroup d new op → (handles : List ℕ) → DropsAt d.slots.values op.key slots Free →
        handles ≡ held_in (get d.slots.values op.key) →
        TakesParts view tells steady d new d.holding handles → Answers view buffer L (Drop (number_of op)) Dropped new
    drop-frees leaves_it handles drops names parts =
        let t = has.slot in
        let is = drops t has.there in
        subst (λ x. Answers view buffer L (Drop x) Dropped new) has.serial
        (stands-frees view buffer tells steady always d new L op.key t old has.there has.owned given (completed t.life is.0).0
        (completed t.life is.0).1 (put ∙ is.1)
        (subst (λ hs. TakesParts view tells steady d new d.holding hs) (names ∙ ap held_in has.there) parts)
        (subst (λ i. LeavesGroup d new (record { number = i; key = op.key })) (sym has.serial) leaves_it))

-- The answers of `cancel_op`, over the room that was made for it.
module _ {R B : Type 0} (view : R → RingView) (buffer : B → Buffer) (d mid new : IoUringDriver R B) (op : Op) (key number : ℕ) (L : Ledger)
    (old : Stands view buffer d L) (holds : Holds d op) (k : key ≡ op.key) (n : number ≡ op.number)
    (ring : view (ring_in mid) ≡ with_spare (view (ring_in d)) (view (ring_in mid)).spare) (due : due_in mid ≡ due_in d)
    (more : room_in d ≤ room_in mid) (same : mid ≡ record d { ring = mid.ring })
    (given : new.given ≡ mid.given) (holding : new.holding ≡ mid.holding) (members : new.members ≡ mid.members)
    (slots : new.slots.values ≡ mid.slots.values) where
  made : Stands view buffer mid L
  made =
      stands-same view buffer d mid L (view (ring_in mid)).spare ring due more (ap (λ x. x.slots.values) same) (ap (λ x. x.given) same)
      (record {
        table = ap (λ x. x.holding.table.holders) same;
        closing = ap (λ x. x.holding.closing.holders) same;
        makers = ap (λ x. x.holding.makers) same;
      })
      (ap (λ x. x.members) same) old

  there' : (x : IoUringDriver R B) → x ≡ record d { ring = x.ring } → Owner x.slots.values key op.number
  there' x e =
      subst (λ m. Owner m key op.number) (sym (ap (λ y. y.slots.values) e))
      (subst (λ j. Owner d.slots.values j op.number) (sym k) (held-slot d.slots.values op holds))

  mine' : Owner mid.slots.values key op.number
  mine' = there' mid same

  pub cancel-asks : (tells steady : Bool) → IsTrue steady → len d.slots.values + places d.holding + 1 ≤ room_in mid →
      Posts view tells steady mid.ring new.ring (cancel_entry key number) → Answers view buffer L (Asks (number_of op)) Asked new
  unfolding mine'
  cancel-asks tells steady always room posts =
      let some : 0 < room_in mid = omega (arith, room) in
      let own = owned-few d old in
      let left = posts.room some in
      let h = ap (λ x. places x.holding) same in
      subst (λ x. Answers view buffer L (Asks x) Asked new) mine'.serial
      (stands-asks view buffer tells steady always mid new L key mine'.slot made mine'.there mine'.owned given slots holding members
      (omega (arith, room, own, left, h)) some
      (subst (λ x. Posts view tells steady mid.ring new.ring (cancel_entry key x)) (n ∙ sym mine'.serial) posts))
