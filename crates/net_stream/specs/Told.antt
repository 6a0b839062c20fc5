-- The bytes of a connection over a readiness driver whose object tells its handles.
use Rattle.std.specs.Prelude.{ℕ, ◌≡◌, ◌⊎◌, List, [], ◌++◌, Option, None, Some, slice_get, option_map, unwrap_or}
use Rattle.rent_buf.specs.Parts.{Parts}
use Rattle.rent_buf.specs.Rent.{Rented}
use Rattle.machine.specs.declared.request.Request.{Request}
use Rattle.machine.specs.declared.request.Request.TheVariants.{Send}
use Rattle.machine.specs.declared.world.HandleKind.TheVariants.{Stream}
use Rattle.machine.specs.declared.world.HandleState.{HandleState}
use Rattle.machine.specs.Effect.{with_sent, without_front}
use Rattle.machine.specs.Lists.{amended}
use Rattle.machine.specs.World.{input_at}
use Rattle.driver_core.specs.declared.op.Op.{Op}
use Rattle.driver_core.specs.Ops.{Ops}
use Rattle.driver_core.specs.Requests.{request_at}
use Rattle.ready_driver.specs.Io.{IoView}
use Rattle.ready_driver.specs.LegacyState.{LegacyState}
use Rattle.net_stream.specs.declared.connection.Connection.{Connection}
use Rattle.net_stream.specs.Incoming.{unread}

-- The handles of a driver's object.
abbrev pub world_of : {I : Type 0} → (I → IoView) → LegacyState I Rented → List HandleState
world_of view driver = (view driver.handling.io).world

-- The bytes that wait to be read at a handle of it.
abbrev pub waiting_at : {I : Type 0} → (I → IoView) → LegacyState I Rented → ℕ → List ℕ
waiting_at view driver h = input_at (world_of view driver) h

-- The bytes that were sent to a handle of these.
abbrev pub output_at : List HandleState → ℕ → List ℕ
output_at world h = unwrap_or (option_map (λ handle. handle.output) (slice_get world h)) []

-- Those of a driver's object.
abbrev pub sent_at : {I : Type 0} → (I → IoView) → LegacyState I Rented → ℕ → List ℕ
sent_at view driver h = output_at (world_of view driver) h

-- A handle of these is a stream.
pub record IsStream (world : List HandleState) (h : ℕ) : Type 0 where
  pub handle : HandleState
  pub there : slice_get world h ≡ Some handle
  pub kind : handle.kind ≡ Stream

-- Of these handles only one has changed: the first bytes of its input were taken, if any were.
abbrev pub IsTaken : List HandleState → ℕ → List HandleState → Type 0
IsTaken old h new = (new ≡ old) ⊎ ((count : ℕ) × (new ≡ amended old h (without_front count)))

-- Of these handles only one has changed: bytes were sent to it, if any were.
abbrev pub IsSentTo : List HandleState → ℕ → List HandleState → Type 0
IsSentTo old h new = (new ≡ old) ⊎ ((bytes : List ℕ) × (new ≡ amended old h (with_sent bytes)))

-- The bytes of a send.
abbrev pub bytes_sent : Option (Request Rented Parts) → List ℕ
bytes_sent (Some (Send fd buf)) = buf.bytes
bytes_sent _ = []

-- The bytes that an outbox's send has, if one waits.
abbrev pub in_flight : Ops Rented → Option Op → List ℕ
in_flight ops None = []
in_flight ops (Some op) = bytes_sent (request_at ops op)

-- All bytes that were written and aren't sent: those that a send has, those that the next one is to have, and those of the outbox.
abbrev pub unsent_in : Ops Rented → Connection → List ℕ
unsent_in ops conn = in_flight ops conn.outgoing.op ++ (conn.outgoing.unsent ++ conn.outbox.unsent)

-- All bytes that came and weren't read: those of the inbox, and those of a receive that has ended.
abbrev pub unread_in : Connection → List ℕ
unread_in conn = unread conn.inbox conn.incoming
