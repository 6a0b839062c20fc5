-- What a call on the driver leaves of all that it isn't about. Cited by each layer of the relay.
use Rattle.std.specs.Prelude.{ℕ, ◌≡◌, ◌⊎◌, Bool, true, IsTrue, List, [], Option, Some, None, slice_get}
use Rattle.std.specs.FinMap as map
use Rattle.rent_buf.specs.Counts.{Rose}
use Rattle.rent_buf.specs.Buffer.{Buffer}
use Rattle.rent_buf.specs.Parts.{Parts}
use Rattle.rent_buf.specs.declared.plain.Buf.{Buf}
use Rattle.machine.specs.declared.request.Request.{Request}
use Rattle.machine.specs.declared.world.HandleKind.TheVariants.{Stream}
use Rattle.machine.specs.declared.world.HandleState.{HandleState}
use Rattle.handle_core.specs.Table.{Table}
use Rattle.driver_core.specs.Op.{Holds}
use Rattle.driver_core.specs.Ops.{Ops}
use Rattle.driver_core.specs.declared.op.Op.{Op}
use Rattle.driver_core.specs.declared.op.SubmitFault.{SubmitFault}
use Rattle.driver_core.specs.declared.op.SubmitFault.TheVariants.{Os}
use Rattle.ready_driver.specs.Io.{IoView, IsLater}
use Rattle.ready_driver.specs.LegacyState.{LegacyState, ops_in}
use Rattle.ready_driver.specs.Registry.{is_users}
use Rattle.net_stream.specs.Told.{IsSentTo, IsTaken}
use Rattle.relay_net.specs.Flow.{IfAsked, IsElse, asked_at}
use Rattle.relay_net.specs.declared.flow.Came.{Came}
use Rattle.relay_net.specs.declared.flow.Came.TheVariants.{Goes, Ended, Failed, Stopped}
use Rattle.relay_net.specs.declared.round.RelayError.{RelayError}
use Rattle.relay_net.specs.declared.round.RelayError.TheVariants.{Fault, OutOfMemory}

-- The handles of a driver's object.
abbrev pub world_of : {I : Type 0} → (I → IoView) → LegacyState I Buf → List HandleState
world_of view driver = (view driver.handling.io).world

-- The user holds each handle still that it held.
abbrev pub KeepsUsers : Table → Table → Type 0
KeepsUsers old new = (h : ℕ) → is_users old h ≡ true → is_users new h ≡ true

-- Each operation that was held and whose request is such a one is as it was.
abbrev pub KeepsOps : (Request Buffer Parts → Type 0) → Ops Buf → Ops Buf → Type 0
KeepsOps P old new = (op : Op) → Holds old op → IfAsked (asked_at old op) P →
    map.get new.slots.values op.key ≡ map.get old.slots.values op.key

-- Any request.
abbrev pub AnyRequest : Request Buffer Parts → Type 0
AnyRequest request = Unit {0}

-- Of these handles only those of one direction have changed: bytes were taken at its first, or sent to its second, if any were.
abbrev pub MovesBetween : List HandleState → ℕ → ℕ → List HandleState → Type 0
MovesBetween old from to new = IsTaken old from new ⊎ IsSentTo old to new

-- A call moved no bytes, and left each operation.
pub record Stays {I : Type 0} (view : I → IoView) (tells : Bool) (old new : LegacyState I Buf) : Type 0 where
  pub later : IsLater (view old.handling.io) (view new.handling.io)
  pub users : KeepsUsers old.handling.table new.handling.table
  pub ops : KeepsOps AnyRequest (ops_in old) (ops_in new)
  pub world : IsTrue tells → world_of view new ≡ world_of view old

-- A call was about one direction alone.
pub record LeavesFlow {I : Type 0} (view : I → IoView) (tells : Bool) (old : LegacyState I Buf) (from to : ℕ) (new : LegacyState I Buf)
    : Type 0 where
  pub later : IsLater (view old.handling.io) (view new.handling.io)
  pub users : KeepsUsers old.handling.table new.handling.table
  pub ops : KeepsOps (IsElse from to) (ops_in old) (ops_in new)
  pub moves : IsTrue tells → MovesBetween (world_of view old) from to (world_of view new)

-- A handle is there, and if it is a stream, nothing waits at it, and its end is marked.
pub record HasEnded (world : List HandleState) (h : ℕ) : Type 0 where
  pub handle : HandleState
  pub there : slice_get world h ≡ Some handle
  pub spent : handle.kind ≡ Stream → (handle.input ≡ []) × (handle.ended ≡ true)

-- Why a call stopped, if it did: a fault of the object was counted, or memory ran out.
abbrev pub StopsFor : IoView → IoView → RelayError → Type 0
StopsFor old new Fault = Rose old.faults new.faults
StopsFor old new OutOfMemory = Unit {0}

-- The answer to a submission that was refused.
abbrev pub StopsAs : SubmitFault → RelayError → Type 0
StopsAs (Os code) why = why ≡ Fault
StopsAs _ why = why ≡ OutOfMemory

abbrev pub StopsIf : IoView → IoView → Option RelayError → Type 0
StopsIf old new None = Unit {0}
StopsIf old new (Some why) = StopsFor old new why

-- Why a step came to this: it failed only where the object counted a call that ended with an error.
abbrev pub CameFor : IoView → IoView → Came → Type 0
CameFor old new Goes = Unit {0}
CameFor old new Ended = Unit {0}
CameFor old new (Failed error) = Rose old.fails new.fails
CameFor old new (Stopped why) = StopsFor old new why
