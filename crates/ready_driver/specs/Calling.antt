-- Which call a poll made, over every object. Cited by `LegacyDriver`, and by the polls that it stands on.
use Rattle.std.specs.Prelude.{◌≡◌, ◌⊎◌, Bool, true, false, Option, None, Some, Result, Ok, Err}
use Rattle.rent_buf.specs.Buffer.{Buffer}
use Rattle.rent_buf.specs.Parts.{Parts}
use Rattle.rent_buf.specs.declared.fault.OutOfMemory.{OutOfMemory as NoMemory}
use Rattle.machine.specs.declared.request.Request.{Request}
use Rattle.machine.specs.Request.{plain_request}
use Rattle.driver_core.specs.declared.op.Op.{Op}
use Rattle.driver_core.specs.declared.op.PollOp.{PollOp}
use Rattle.driver_core.specs.declared.op.PollOp.TheVariants.{Pending, Ready}
use Rattle.driver_core.specs.declared.operations.calls.CallAnswer.{CallAnswer}
use Rattle.driver_core.specs.declared.operations.calls.CallAnswer.TheVariants.{Done, WouldBlock, OutOfMemory}
use Rattle.driver_core.specs.declared.slot.Slot.{Slot}
use Rattle.driver_core.specs.Slot.{flies_in}
use Rattle.ready_driver.specs.Named.{IsCompleted}

-- What an object's call does: the object and the request before it and after it, and its answer.
abbrev pub Called : Type 0 → Type 1
Called I = I → Request Buffer Parts → I → Request Buffer Parts → CallAnswer → Type 0

-- The request in the slot that was looked up.
abbrev pub request_in : {B : Type 0} → Option (Slot B) → Option (Request B Parts)
request_in None = None
request_in (Some slot) = Some slot.request

-- One call was made, on the request of an operation in flight, which is this one after it.
pub record MakesCall {B I : Type 0} (buffer : B → Buffer) (called : Called I) (slot : Option (Slot B)) (before after : I)
    (answer : CallAnswer) (now : Request B Parts) : Type 0 where
  pub request : Request B Parts
  pub asked : request_in slot ≡ Some request
  pub flies : flies_in slot ≡ true
  pub calls : called before (plain_request buffer request) after (plain_request buffer now) answer

-- The request stays in its slot after the call.
pub record CallsInSlot {B I : Type 0} (buffer : B → Buffer) (called : Called I) (slot new : Option (Slot B)) (before after : I)
    (answer : CallAnswer) : Type 0 where
  pub now : Request B Parts
  pub stays : request_in new ≡ Some now
  pub made : MakesCall buffer called slot before after answer now

-- No call was made: the object and the slot are as they were.
pub record MakesNone {B I : Type 0} (slot new : Option (Slot B)) (before after : I) : Type 0 where
  pub object : after ≡ before
  pub slot_is : new ≡ slot

-- What a poll of the operation in a slot called, by whether it may call: it may where its operation waits for nothing, or a bit of its
-- handle meets its direction. One that may not is pending, and made no call. One that may made just one call, and its answer is that of the
-- call; but one that was completed before is ready without a call. Where memory ran out no call was made, or the call itself answered that.
abbrev pub CallsOnce : {B I : Type 0} → Bool → (B → Buffer) → Called I → Option (Slot B) → I → Option (Slot B) → I →
    Result (PollOp B) (NoMemory × Op) → Type 0
CallsOnce false buffer called slot before new after (Ok (Pending back)) = MakesNone slot new before after
CallsOnce false buffer called slot before new after (Ok (Ready done)) = ⊥
CallsOnce false buffer called slot before new after (Err error) = MakesNone slot new before after
CallsOnce true buffer called slot before new after (Ok (Pending back)) = CallsInSlot buffer called slot new before after WouldBlock
CallsOnce true buffer called slot before new after (Ok (Ready done)) =
    ((after ≡ before) × IsCompleted slot done.outcome × (request_in slot ≡ Some done.request))
    ⊎ MakesCall buffer called slot before after (Done done.outcome) done.request
CallsOnce true buffer called slot before new after (Err error) =
    MakesNone slot new before after ⊎ CallsInSlot buffer called slot new before after OutOfMemory
