-- The connections of a relay, and what a round leaves of each. Cited by `state` and `relay`.
use Rattle.std.specs.Prelude.{ℕ, ◌≡◌, ◌≢◌, ◌+◌, ◌⊎◌, Bool, true, false, IsTrue, List, [], length, Option, Some, None, Result, Ok, Err}
use Rattle.std.specs.Prelude.{◌++◌, map, slice_get}
use Rattle.rent_buf.specs.Buffer.{Buffer}
use Rattle.rent_buf.specs.Counts.{Rose}
use Rattle.rent_buf.specs.Parts.{Parts}
use Rattle.rent_buf.specs.declared.plain.Buf.{Buf}
use Rattle.handle_core.specs.Table.{Table}
use Rattle.machine.specs.declared.request.Request.{Request}
use Rattle.machine.specs.declared.request.Request.TheVariants.{Accept}
use Rattle.machine.specs.declared.world.HandleState.{HandleState}
use Rattle.driver_core.specs.Ops.{Ops}
use Rattle.driver_core.specs.declared.op.Op.{Op}
use Rattle.ready_driver.specs.Io.{IoView, IsLater}
use Rattle.ready_driver.specs.LegacyState.{LegacyState, ops_in}
use Rattle.ready_driver.specs.Registry.{is_users}
use Rattle.relay_net.specs.Connection.{FitsConnection, IsMarked, KeepsLines, KeepsStreams, far_of, held_back, held_forth}
use Rattle.relay_net.specs.Connection.{near_of}
use Rattle.relay_net.specs.Flow.{IsLoad, IsPending}
use Rattle.relay_net.specs.Keeping.{HasEnded, StopsFor, world_of}
use Rattle.relay_net.specs.Listening.{AreGoingBut}
use Rattle.relay_net.specs.declared.connection.Connection.{Connection}
use Rattle.relay_net.specs.declared.round.Lost.{Lost}
use Rattle.relay_net.specs.declared.round.RelayError.{RelayError}

-- A list has an element at some place.
abbrev pub IsAmong : {X : Type 0} → List X → X → Type 0
IsAmong xs x = (k : ℕ) × (slice_get xs k ≡ Some x)

-- A connection has none of these two handles.
pub record IsApartFrom (conn : Connection) (near far : ℕ) : Type 0 where
  pub near_near : near_of conn ≢ near
  pub near_far : near_of conn ≢ far
  pub far_near : far_of conn ≢ near
  pub far_far : far_of conn ≢ far

-- Two connections have no handle together.
abbrev pub AreBeside : Connection → Connection → Type 0
AreBeside one other = IsApartFrom one (near_of other) (far_of other)

-- The driver has what a connection waits for, whose receives have so much room, and its user holds its handles, of which none is the
-- listener.
pub record IsServed (room : ℕ) (ops : Ops Buf) (table : Table) (listener : ℕ) (conn : Connection) : Type 0 where
  pub fits : FitsConnection ops conn
  pub room_is : conn.room ≡ room
  pub near : is_users table (near_of conn) ≡ true
  pub far : is_users table (far_of conn) ≡ true
  pub near_other : near_of conn ≢ listener
  pub far_other : far_of conn ≢ listener

-- The accept that waits, if one does, is the listener's.
abbrev pub IsAccept : ℕ → Request Buffer Parts → Type 0
IsAccept listener request = request ≡ Accept listener

abbrev pub FitsAccept : Ops Buf → ℕ → Option Op → Type 0
FitsAccept ops listener None = Unit {0}
FitsAccept ops listener (Some op) = IsPending ops op (IsAccept listener)

-- The connections of a relay: each is served, and no two have a handle together.
pub record AreServed (room : ℕ) (ops : Ops Buf) (table : Table) (listener : ℕ) (open_ones : List Connection) : Type 0 where
  pub each : (k : ℕ) (conn : Connection) → slice_get open_ones k ≡ Some conn → IsServed room ops table listener conn
  pub apart : (j k : ℕ) (one other : Connection) → j ≢ k → slice_get open_ones j ≡ Some one → slice_get open_ones k ≡ Some other →
      AreBeside one other

-- The whole: the listener too is the user's, and a receive has room for a load.
pub record IsSound (room : ℕ) (ops : Ops Buf) (table : Table) (listener : ℕ) (accept : Option Op) (open_ones : List Connection)
    : Type 0 where
  pub roomy : IsLoad room
  pub listens : is_users table listener ≡ true
  pub accepts : FitsAccept ops listener accept
  pub served : AreServed room ops table listener open_ones

-- A connection is open still. Its bytes on their way are what they were.
pub record IsOpenStill {I : Type 0} (view : I → IoView) (tells : Bool) (old : LegacyState I Buf) (conn : Connection)
    (new : LegacyState I Buf) (open_ones : List Connection) : Type 0 where
  pub place : ℕ
  pub now : Connection
  pub there : slice_get open_ones place ≡ Some now
  pub near : near_of now ≡ near_of conn
  pub far : far_of now ≡ far_of conn
  pub lines : KeepsLines tells (world_of view old) (world_of view new) (near_of conn) (far_of conn) (held_forth (ops_in old) conn)
      (held_back (ops_in old) conn) (held_forth (ops_in new) now) (held_back (ops_in new) now)
  pub mark : IsTrue tells → IsMarked (world_of view old) conn → IsMarked (world_of view new) now

-- A connection was closed: it is named, nothing is held, and one of its handles has ended.
pub record WasClosed {I : Type 0} (view : I → IoView) (tells : Bool) (old : LegacyState I Buf) (conn : Connection)
    (new : LegacyState I Buf) (closed : List ℕ) : Type 0 where
  pub named : IsAmong closed (near_of conn)
  pub lines : KeepsLines tells (world_of view old) (world_of view new) (near_of conn) (far_of conn) (held_forth (ops_in old) conn)
      (held_back (ops_in old) conn) [] []
  pub ended : IsTrue tells → IsMarked (world_of view old) conn
      → HasEnded (world_of view new) (near_of conn) ⊎ HasEnded (world_of view new) (far_of conn)

-- A connection was lost: it is named, and its two numbers count what is held.
pub record WasLost {I : Type 0} (view : I → IoView) (tells : Bool) (old : LegacyState I Buf) (conn : Connection)
    (new : LegacyState I Buf) (failed : List Lost) : Type 0 where
  pub lost : Lost
  pub named : IsAmong failed lost
  pub connection : lost.connection ≡ near_of conn
  pub forth : List ℕ
  pub back : List ℕ
  pub unsent : lost.unsent ≡ length forth
  pub unsent_back : lost.unsent_back ≡ length back
  pub lines : KeepsLines tells (world_of view old) (world_of view new) (near_of conn) (far_of conn) (held_forth (ops_in old) conn)
      (held_back (ops_in old) conn) forth back

-- A connection that ended has no handle of one that is open.
abbrev pub IsApartFromAll : Connection → List Connection → Type 0
IsApartFromAll conn open_ones = (k : ℕ) (other : Connection) → slice_get open_ones k ≡ Some other → AreBeside conn other

-- What became of a connection that was open.
abbrev pub Becomes : {I : Type 0} → (I → IoView) → Bool → LegacyState I Buf → Connection → LegacyState I Buf → List Connection → List ℕ →
    List Lost → Type 0
Becomes view tells old conn new open_ones closed failed =
    IsOpenStill view tells old conn new open_ones
    ⊎ (IsApartFromAll conn open_ones × (WasClosed view tells old conn new closed ⊎ WasLost view tells old conn new failed))

-- Each of these connections is ending only where one of its handles has ended.
abbrev pub AreMarked : List HandleState → List Connection → Type 0
AreMarked world all = (conn : Connection) → IsAmong all conn → IsMarked world conn

-- Each handle but the listener is a stream whose end isn't marked, and each of these connections is ending only where one of its handles
-- has ended: so none is.
pub record AreGoing {I : Type 0} (view : I → IoView) (driver : LegacyState I Buf) (listener : ℕ) (all : List Connection) : Type 0 where
  pub streams : AreGoingBut listener (world_of view driver)
  pub marked : AreMarked (world_of view driver) all

-- What became of each connection that was open. A connection is among those that failed only where the object counted a call that ended
-- with
-- an error.
pub record Serving {I : Type 0} (view : I
    → IoView) (tells : Bool) (old : LegacyState I Buf) (was : List Connection) (new : LegacyState I Buf)
    (open_ones : List Connection) (closed : List ℕ) (failed : List Lost) : Type 0 where
  pub each : (conn : Connection) → IsAmong was conn → Becomes view tells old conn new open_ones closed failed
  pub fails : (lost : Lost) → IsAmong failed lost → Rose (view old.handling.io).fails (view new.handling.io).fails
  pub later : IsLater (view old.handling.io) (view new.handling.io)
  pub streams : IsTrue tells → KeepsStreams (world_of view old) (world_of view new)
  pub marks : IsTrue tells → AreMarked (world_of view old) was → AreMarked (world_of view new) open_ones

-- The numbers of connections, which are their near handles: of those that are open, then of those that were closed, then of those that were
-- lost.
abbrev pub connections_in : List Connection → List ℕ → List Lost → List ℕ
connections_in open_ones closed failed = map near_of open_ones ++ (closed ++ map (λ lost. lost.connection) failed)

-- Why a round stopped, if it did.
abbrev pub StopsUnless : {T : Type 0} → IoView → IoView → Result T RelayError → Type 0
StopsUnless old new (Ok done) = Unit {0}
StopsUnless old new (Err because) = StopsFor old new because

-- How many connections are open behind the round of one, by whether it is open still.
abbrev pub GoesOn : Bool → ℕ → ℕ → Type 0
GoesOn true before now = now ≡ before
GoesOn false before now = now + 1 ≡ before
