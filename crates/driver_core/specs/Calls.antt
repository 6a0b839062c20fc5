-- What a call of the request in a slot does. Cited by `Operations::call`.
use Rattle.std.specs.Prelude.{ℕ, ◌≡◌, Some}
use Rattle.std.specs.Ordering.{nat_cmp}
use Rattle.std.specs.FinMap as map
use Rattle.rent_buf.specs.Buffer.{Buffer}
use Rattle.rent_buf.specs.Parts.{Parts}
use Rattle.machine.specs.declared.request.Request.{Request}
use Rattle.machine.specs.Request.{plain_request}
use Rattle.driver_core.specs.declared.op.Op.{Op}
use Rattle.driver_core.specs.declared.operations.calls.CallAnswer.{CallAnswer}
use Rattle.driver_core.specs.declared.slot.Slot.{Slot}
use Rattle.driver_core.specs.Ops.{Ops}

-- The call of the request in the slot at a key was made: the slot has the request after it, and is else as it was.
pub record CallsSlot {B C : Type 0} (buffer : B → Buffer)
    (called : C → Request Buffer Parts → C → Request Buffer Parts → CallAnswer → Type 0) (old : map.FinMap nat_cmp (Slot B)) (key : ℕ)
    (before : C) (new : map.FinMap nat_cmp (Slot B)) (after : C) (answer : CallAnswer) : Type 0 where
  pub slot : Slot B
  pub there : map.get old key ≡ Some slot
  pub now : Slot B
  pub slots : new ≡ map.insert old key now
  pub serial : now.serial ≡ slot.serial
  pub life : now.life ≡ slot.life
  pub calls : called before (plain_request buffer slot.request) after (plain_request buffer now.request) answer

-- The same of the slot of a token.
abbrev pub CallsOp : {B C : Type 0} → (B → Buffer) → (C → Request Buffer Parts → C → Request Buffer Parts → CallAnswer → Type 0) →
    Ops B → Op → C → Ops B → C → CallAnswer → Type 0
CallsOp buffer called old op before new after answer = CallsSlot buffer called old.slots.values op.key before new.slots.values after answer
