-- The requests of operations, and the surroundings of the buffers that they hold. Cited by `Operations`, and by each call of a driver.
use Rattle.std.specs.Prelude.{◌≡◌, Option, Some, option_map, option_and_then}
use Rattle.std.specs.Ordering.{nat_cmp}
use Rattle.std.specs.FinMap as map
use Rattle.rent_buf.specs.Parts.{Parts}
use Rattle.machine.specs.declared.request.Request.{Request}
use Rattle.machine.specs.Surroundings.{Surroundings, request_around}
use Rattle.driver_core.specs.declared.op.Op.{Op}
use Rattle.driver_core.specs.declared.op.PollOp.{PollOp}
use Rattle.driver_core.specs.declared.op.PollOp.TheVariants.{Pending, Ready}
use Rattle.driver_core.specs.declared.slot.Slot.{Slot}
use Rattle.driver_core.specs.Slot.{number_at}
use Rattle.driver_core.specs.Op.{number_of, Holds}
use Rattle.driver_core.specs.Ops.{Ops}

-- The request in the slot that was looked up; None where there is no slot.
abbrev pub request_in : {B : Type 0} → Option (Slot B) → Option (Request B Parts)
request_in slot = option_map (λ s. s.request) slot

-- The surroundings of the buffer in the slot that was looked up; None where there is no slot, or it holds parts.
abbrev pub surroundings_in : {B : Type 0} → (B → Surroundings) → Option (Slot B) → Option Surroundings
surroundings_in reader slot = option_and_then (request_around reader) (request_in slot)

-- What is read of a slot stays, at each token that is held before and after a change of slots.
abbrev pub StaysHeld : {B X : Type 0} → (Option (Slot B) → X) → map.FinMap nat_cmp (Slot B) → map.FinMap nat_cmp (Slot B) → Type 0
StaysHeld read old new = (op : Op) → number_at old op.key ≡ Some (number_of op) → number_at new op.key ≡ Some (number_of op) →
    read (map.get new op.key) ≡ read (map.get old op.key)

-- The request of a token's operation, with what it holds now.
abbrev pub request_at : {B : Type 0} → Ops B → Op → Option (Request B Parts)
request_at ops op = request_in (map.get ops.slots.values op.key)

-- What a poll returns, where it is ready, is the request of the token's operation.
abbrev pub ReturnsRequest : {B : Type 0} → Ops B → Op → PollOp B → Type 0
ReturnsRequest old op (Pending back) = Unit {0}
ReturnsRequest old op (Ready done) = request_at old op ≡ Some done.request

-- The surroundings of the buffer that a token's operation holds; None where it holds parts.
abbrev pub surroundings_at : {B : Type 0} → (B → Surroundings) → Ops B → Op → Option Surroundings
surroundings_at reader ops op = surroundings_in reader (map.get ops.slots.values op.key)

-- A call keeps requests: each token that is held before and after has its request, with what it holds, unchanged.
abbrev pub KeepsRequests : {B : Type 0} → Ops B → Ops B → Type 0
KeepsRequests old new = (op : Op) → Holds old op → Holds new op → request_at new op ≡ request_at old op

-- A call keeps surroundings: the buffer of each token that is held before and after has its surroundings unchanged.
abbrev pub KeepsSurroundings : {B : Type 0} → (B → Surroundings) → Ops B → Ops B → Type 0
KeepsSurroundings reader old new = (op : Op) → Holds old op → Holds new op → surroundings_at reader new op ≡ surroundings_at reader old op
