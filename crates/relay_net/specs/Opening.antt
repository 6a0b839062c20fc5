-- What a round does before it serves the connections: the turn, the accept, and the other end. Cited by `opening`, `far` and `relay`.
use Rattle.std.specs.Prelude.{ℕ, ◌≡◌, ◌≢◌, ◌<◌, ◌⊎◌, Bool, true, false, IfSome, IsTrue, List, [], Option}
use Rattle.rent_buf.specs.Buffer.{Buffer}
use Rattle.rent_buf.specs.Counts.{Rose}
use Rattle.rent_buf.specs.Parts.{Parts}
use Rattle.rent_buf.specs.declared.plain.Buf.{Buf}
use Rattle.handle_core.specs.Table.{Table}
use Rattle.driver_core.specs.Ops.{Ops}
use Rattle.machine.specs.World.{input_at}
use Rattle.machine.specs.declared.request.Request.{Request}
use Rattle.machine.specs.declared.request.Request.TheVariants.{Recv, Send}
use Rattle.machine.specs.declared.world.HandleState.{HandleState}
use Rattle.ready_driver.specs.declared.non_block.NonBlockError.{NonBlockError}
use Rattle.ready_driver.specs.declared.non_block.NonBlockError.TheVariants.{Fault, OutOfMemory as NoMemory}
use Rattle.ready_driver.specs.Io.{IoView, IsLater}
use Rattle.ready_driver.specs.LegacyState.{LegacyState, ops_in}
use Rattle.ready_driver.specs.Registry.{is_users}
use Rattle.net_stream.specs.Told.{output_at}
use Rattle.relay_net.specs.Connection.{KeepsStreams, far_of, held_back, held_forth, near_of}
use Rattle.relay_net.specs.Flow.{IsPending}
use Rattle.relay_net.specs.Keeping.{KeepsOps, KeepsUsers, world_of}
use Rattle.relay_net.specs.Relay.{AreMarked, Becomes, IsAccept, IsAmong, IsOpenStill}
use Rattle.relay_net.specs.declared.connection.Connection.{Connection}
use Rattle.machine.specs.declared.request.Outcome.{Outcome}
use Rattle.machine.specs.declared.request.Outcome.TheVariants as ended
use Rattle.relay_net.specs.declared.opening.Arrival.{Arrival}
use Rattle.relay_net.specs.declared.opening.Arrival.TheVariants as arrival
use Rattle.relay_net.specs.declared.round.Lost.{Lost}
use Rattle.relay_net.specs.declared.round.RelayError.{RelayError}
use Rattle.relay_net.specs.declared.round.RelayError.TheVariants as relay
use Rattle.relay_net.specs.declared.opening.Accepted.{Accepted}
use Rattle.relay_net.specs.declared.opening.Accepted.TheVariants.{Waits, Made, Failed, Nothing, OutOfMemory}

-- A request is a receive or a send.
abbrev pub IsTransfer : Request Buffer Parts → Type 0
IsTransfer (Recv h buf) = Unit {0}
IsTransfer (Send h buf) = Unit {0}
IsTransfer _ = ⊥

-- The bytes at every handle are what they were.
abbrev pub KeepsBytes : List HandleState → List HandleState → Type 0
KeepsBytes old new = (h : ℕ) → (output_at new h ≡ output_at old h) × (input_at new h ≡ input_at old h)

-- A call moved no bytes: it left each receive and each send, and what the user holds.
pub record Widens {I : Type 0} (view : I → IoView) (tells : Bool) (old new : LegacyState I Buf) : Type 0 where
  pub later : IsLater (view old.handling.io) (view new.handling.io)
  pub users : KeepsUsers old.handling.table new.handling.table
  pub ops : KeepsOps IsTransfer (ops_in old) (ops_in new)
  pub bytes : IsTrue tells → KeepsBytes (world_of view old) (world_of view new)
  pub streams : IsTrue tells → KeepsStreams (world_of view old) (world_of view new)

-- The user got a handle that it didn't hold.
pub record IsNew (old new : Table) (h : ℕ) : Type 0 where
  pub before : is_users old h ≡ false
  pub now : is_users new h ≡ true

-- What an accept that was polled came to: it waits on; it made a handle, which is new, and which the object counts; or it failed, where the
-- object counted a call that ended with an error.
abbrev pub AcceptedFor : {I : Type 0} → (I → IoView) → LegacyState I Buf → LegacyState I Buf → ℕ → Accepted → Type 0
AcceptedFor view old new listener (Waits op) = IsPending (ops_in new) op (IsAccept listener)
AcceptedFor view old new listener (Made h) =
    IsNew old.handling.table new.handling.table h × ((view old.handling.io).made < (view new.handling.io).made)
AcceptedFor view old new listener (Failed error) = Rose (view old.handling.io).fails (view new.handling.io).fails
AcceptedFor view old new listener Nothing = Unit {0}
AcceptedFor view old new listener (OutOfMemory op) = IsPending (ops_in new) op (IsAccept listener)

-- The other end of a connection: its near handle, or one that the user got.
abbrev pub IsFar : Table → Table → ℕ → ℕ → Type 0
IsFar old new near far = (far ≡ near) ⊎ IsNew old new far

-- Each connection that was open is open still, and no bytes moved.
pub record Opening {I : Type 0} (view : I
    → IoView) (tells : Bool) (old : LegacyState I Buf) (was : List Connection) (new : LegacyState I Buf)
    (open_ones : List Connection) : Type 0 where
  pub each : (conn : Connection) → IsAmong was conn → IsOpenStill view tells old conn new open_ones
  pub later : IsLater (view old.handling.io) (view new.handling.io)
  pub bytes : IsTrue tells → KeepsBytes (world_of view old) (world_of view new)
  pub streams : IsTrue tells → KeepsStreams (world_of view old) (world_of view new)
  pub marks : IsTrue tells → AreMarked (world_of view old) was → AreMarked (world_of view new) open_ones

-- A connection is among these that has this number, holds nothing and isn't ending.
pub record IsFirst (ops : Ops Buf) (all : List Connection) (n : ℕ) : Type 0 where
  pub first : Connection
  pub among : IsAmong all first
  pub near : near_of first ≡ n
  pub going : first.ending ≡ false
  pub forth : held_forth ops first ≡ []
  pub back : held_back ops first ≡ []

-- A connection was opened: between two calls of a round it held nothing, and no bytes had moved; what became of it from then on is what
-- becomes of one that was open.
pub record WasOpened {I : Type 0} (view : I → IoView) (tells : Bool) (old : LegacyState I Buf) (n : ℕ) (new : LegacyState I Buf)
    (open_ones : List Connection) (closed : List ℕ) (failed : List Lost) : Type 0 where
  pub mid : LegacyState I Buf
  pub first : Connection
  pub near : near_of first ≡ n
  pub going : first.ending ≡ false
  pub forth : held_forth (ops_in mid) first ≡ []
  pub back : held_back (ops_in mid) first ≡ []
  pub bytes : IsTrue tells → KeepsBytes (world_of view old) (world_of view mid)
  pub becomes : Becomes view tells mid first new open_ones closed failed

-- What an accept came to that ended so. An outcome that no accept has is none.
abbrev pub AcceptedAs : Outcome → Accepted → Type 0
AcceptedAs (ended.Count k) answer = answer ≡ Nothing
AcceptedAs (ended.From k addr) answer = answer ≡ Nothing
AcceptedAs (ended.Made h) answer = answer ≡ Made h
AcceptedAs (ended.Fail error) answer = answer ≡ Failed error

-- The user holds a handle that is neither the listener nor one of the connections'.
pub record IsFresh (table : Table) (listener : ℕ) (all : List Connection) (h : ℕ) : Type 0 where
  pub held : is_users table h ≡ true
  pub other : h ≢ listener
  pub apart : (conn : Connection) → IsAmong all conn → (near_of conn ≢ h) × (far_of conn ≢ h)

-- A handle that arrived is fresh, and the object counts it; an accept failed only where the object counted a call that ended with an error.
abbrev pub ArrivesFor : IoView → IoView → Table → ℕ → List Connection → Arrival → Type 0
ArrivesFor old new table listener all (arrival.Made h) = IsFresh table listener all h × (old.made < new.made)
ArrivesFor old new table listener all (arrival.Failed error) = Rose old.fails new.fails
ArrivesFor old new table listener all _ = Unit {0}

-- An error number of an accept comes only where the object counted a call that ended with an error.
abbrev pub AcceptFails : IoView → IoView → Option ℕ → Type 0
AcceptFails old new accept = IfSome accept (λ error. Rose old.fails new.fails)

-- Why there is no other end: a fault comes only where the object counted one.
abbrev pub FarFails : IoView → IoView → NonBlockError → Type 0
FarFails old new (Fault code) = Rose old.faults new.faults
FarFails old new NoMemory = Unit {0}

abbrev pub FarStops : NonBlockError → RelayError → Type 0
FarStops (Fault code) why = why ≡ relay.Fault
FarStops NoMemory why = why ≡ relay.OutOfMemory
