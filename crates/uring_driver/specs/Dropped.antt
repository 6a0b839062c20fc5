-- What a drop does, over any ring.
use Rattle.std.specs.Prelude.{◌≡◌, Bool, true, false, IsTrue, [], ◌∷◌, map as list_map, Some}
use Rattle.std.specs.FinMap as map
use Rattle.op_slots.specs.declared.lifecycle.Lifecycle.TheVariants.{Ignored}
use Rattle.ring_core.specs.Ring.{RingView}
use Rattle.ring_core.specs.Entry.{close_entry}
use Rattle.driver_core.specs.Holds.{held_in, unheld_by}
use Rattle.uring_driver.specs.Holding.{ops_left}
use Rattle.driver_core.specs.declared.slot.Slot.{Slot}
use Rattle.driver_core.specs.declared.op.Op.{Op}
use Rattle.uring_driver.specs.declared.uring.IoUringDriver.{IoUringDriver}
use Rattle.uring_driver.specs.Uring.{pending}
use Rattle.uring_driver.specs.Op.{cancel_for}
use Rattle.uring_driver.specs.Submissions.{PendingMoves, PendingMovesEach}
use Rattle.driver_core.specs.Slot.{with_life, is_flying}

-- A slot that is in flight stays, ignored from then on, and its cancel joins what is pending. One that is completed goes, and the close of
-- each handle that its operation held, which it named or made, and that nobody holds any more joins what is pending.
abbrev pub DropsSlotOf : {R B : Type 0} → (R → RingView) → Bool → IoUringDriver R B → IoUringDriver R B → Op → Slot B → Bool → Type 0
DropsSlotOf view tells old new op slot true =
    (new.slots.values ≡ map.insert old.slots.values op.key (with_life slot Ignored)) × (new.holding ≡ old.holding)
    × (IsTrue tells → PendingMoves (pending view old) (pending view new) (cancel_for op ∷ []))
DropsSlotOf view tells old new op slot false =
    let closed = unheld_by old.holding.table (held_in (Some slot)) in
    (new.slots.values ≡ map.remove old.slots.values op.key) × (new.holding ≡ ops_left old.holding (held_in (Some slot)))
    × (IsTrue tells → PendingMovesEach (pending view old) (pending view new) (list_map close_entry closed))

abbrev pub DropsOp : {R B : Type 0} → (R → RingView) → Bool → IoUringDriver R B → IoUringDriver R B → Op → Type 0
DropsOp {R} {B} view tells old new op =
    (slot : Slot B) → map.get old.slots.values op.key ≡ Some slot → DropsSlotOf view tells old new op slot (is_flying slot.life)
