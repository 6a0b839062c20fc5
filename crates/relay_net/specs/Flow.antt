-- One direction of a connection: what it waits for, what it holds, and its bytes on their way. Cited by `flow`.
use Rattle.std.specs.Prelude.{ℕ, ◌≡◌, ◌≢◌, ◌≤◌, ◌++◌, true, List, [], length, Option, Some, None, option_map}
use Rattle.std.specs.FinMap as map
use Rattle.rent_buf.specs.Buf.{built, content_of}
use Rattle.rent_buf.specs.Buffer.{Buffer, shown, whole_of}
use Rattle.rent_buf.specs.Parts.{Parts}
use Rattle.rent_buf.specs.declared.kind.Kind.TheVariants.{Vector}
use Rattle.rent_buf.specs.declared.plain.Buf.{Buf}
use Rattle.machine.specs.Request.{plain_request}
use Rattle.machine.specs.World.{input_at}
use Rattle.machine.specs.declared.request.Request.{Request}
use Rattle.machine.specs.declared.request.Request.TheVariants.{Recv, Send}
use Rattle.machine.specs.declared.request.TheConstants.{MOST_ASKED}
use Rattle.machine.specs.declared.world.HandleState.{HandleState}
use Rattle.driver_core.specs.Op.{Holds}
use Rattle.driver_core.specs.Ops.{Ops}
use Rattle.driver_core.specs.Requests.{request_at}
use Rattle.driver_core.specs.Slot.{flies_in}
use Rattle.driver_core.specs.declared.op.Op.{Op}
use Rattle.net_stream.specs.Told.{output_at}
use Rattle.relay_net.specs.declared.flow.Flow.{Flow}
use Rattle.relay_net.specs.declared.flow.Stage.{Stage}
use Rattle.relay_net.specs.declared.flow.Stage.TheVariants.{Idle, Receiving, Held, Sending}

-- The request of an operation, as plain data.
abbrev pub asked_at : Ops Buf → Op → Option (Request Buffer Parts)
asked_at ops op = option_map (plain_request built) (request_at ops op)

-- What is known of a request, if there is one.
abbrev pub IfAsked : Option (Request Buffer Parts) → (Request Buffer Parts → Type 0) → Type 0
IfAsked None P = ⊥
IfAsked (Some request) P = P request

-- So many bytes are one at least, and as many as one request asks for at most: the room of a receive is so, and so is what a direction
-- holds.
abbrev pub IsLoad : ℕ → Type 0
IsLoad count = (1 ≤ count) × (count ≤ MOST_ASKED)

-- The buffer that a receive begins with: it is empty, and has the whole room.
abbrev pub empty_buffer : ℕ → Buffer
empty_buffer room = whole_of Vector [] room

-- A request is a receive from a handle, into such a buffer.
pub record IsReceive (room from : ℕ) (request : Request Buffer Parts) : Type 0 where
  pub request_is : request ≡ Recv from (empty_buffer room)
  pub roomy : IsLoad room

-- A request is a send of so many bytes to a handle.
pub record IsSend (to count : ℕ) (request : Request Buffer Parts) : Type 0 where
  pub buf : Buffer
  pub request_is : request ≡ Send to buf
  pub count_is : length (shown buf) ≡ count
  pub load : IsLoad count

-- A request is neither a receive from the one handle nor a send to the other.
abbrev pub IsElse : ℕ → ℕ → Request Buffer Parts → Type 0
IsElse from to (Recv h buf) = h ≢ from
IsElse from to (Send h buf) = h ≢ to
IsElse from to _ = Unit {0}

-- The driver has an operation that is in flight, and whose request is such a one.
pub record IsPending (ops : Ops Buf) (op : Op) (P : Request Buffer Parts → Type 0) : Type 0 where
  pub holds : Holds ops op
  pub flies : flies_in (map.get ops.slots.values op.key) ≡ true
  pub asks : IfAsked (asked_at ops op) P

-- The driver has the operation that a direction waits for, if it waits for one; and what the direction holds is a load. A receive has
-- so much room.
abbrev pub FitsStage : ℕ → Ops Buf → ℕ → ℕ → Stage → Type 0
FitsStage room ops from to (Idle spare) = Unit {0}
FitsStage room ops from to (Receiving op) = IsPending ops op (IsReceive room from)
FitsStage room ops from to (Held buf) = IsLoad (length (content_of buf))
FitsStage room ops from to (Sending op count) = IsPending ops op (IsSend to count)

abbrev pub FitsFlow : ℕ → Ops Buf → Flow → Type 0
FitsFlow room ops flow = FitsStage room ops flow.from flow.to flow.stage

-- The bytes of a send.
abbrev pub send_bytes : Request Buffer Parts → List ℕ
send_bytes (Send h buf) = shown buf
send_bytes _ = []

abbrev pub bytes_sent : Option (Request Buffer Parts) → List ℕ
bytes_sent None = []
bytes_sent (Some request) = send_bytes request

-- What a direction holds: the bytes that came and aren't sent.
abbrev pub held_in : Ops Buf → Stage → List ℕ
held_in ops (Idle spare) = []
held_in ops (Receiving op) = []
held_in ops (Held buf) = content_of buf
held_in ops (Sending op count) = bytes_sent (asked_at ops op)

-- All bytes of a direction, the first ones first: those that were sent to its second handle, those that are held, and those that wait at
-- its first handle.
abbrev pub line : List HandleState → ℕ → ℕ → List ℕ → List ℕ
line world from to held = output_at world to ++ (held ++ input_at world from)
