-- A connection of a relay: its directions, its bytes on their way, and what its calls leave of all else. Cited by `connection`.
use Rattle.std.specs.Prelude.{ℕ, ◌≡◌, ◌≢◌, ◌⊎◌, Bool, true, IsTrue, List, [], length, Option, Some, None}
use Rattle.rent_buf.specs.Buffer.{Buffer}
use Rattle.rent_buf.specs.Counts.{Rose}
use Rattle.rent_buf.specs.Parts.{Parts}
use Rattle.rent_buf.specs.declared.plain.Buf.{Buf}
use Rattle.machine.specs.World.{input_at}
use Rattle.machine.specs.declared.request.Request.{Request}
use Rattle.machine.specs.declared.world.HandleState.{HandleState}
use Rattle.driver_core.specs.Ops.{Ops}
use Rattle.ready_driver.specs.Io.{IoView, IsLater}
use Rattle.ready_driver.specs.LegacyState.{LegacyState, ops_in}
use Rattle.ready_driver.specs.Registry.{is_users}
use Rattle.net_stream.specs.Told.{IsStream, output_at}
use Rattle.relay_net.specs.Flow.{FitsFlow, FitsStage, IsElse, held_in, line}
use Rattle.relay_net.specs.Listening.{AreGoingBut, IsListener}
use Rattle.relay_net.specs.Keeping.{AnyRequest, HasEnded, KeepsOps, KeepsUsers, StopsFor, world_of}
use Rattle.relay_net.specs.Outcomes.{IsIdle}
use Rattle.relay_net.specs.declared.connection.Connection.{Connection}
use Rattle.relay_net.specs.declared.connection.Served.{Served}
use Rattle.relay_net.specs.declared.connection.Served.TheVariants.{Open, Closed, Failed, Stopped}
use Rattle.relay_net.specs.declared.flow.Came.{Came}
use Rattle.relay_net.specs.declared.flow.Came.TheVariants as came
use Rattle.relay_net.specs.declared.flow.Flow.{Flow}
use Rattle.relay_net.specs.declared.round.Lost.{Lost}

-- Its handles.
abbrev pub near_of : Connection → ℕ
near_of conn = conn.forth.from

abbrev pub far_of : Connection → ℕ
far_of conn = conn.forth.to

-- The direction from the far handle to the near one goes just so, and the driver has the operation that it waits for. There is none where
-- both are the same.
abbrev pub FitsBack : ℕ → Ops Buf → ℕ → ℕ → Option Flow → Type 0
FitsBack room ops near far None = near ≡ far
FitsBack room ops near far (Some flow) =
    (near ≢ far) × (flow.from ≡ far) × (flow.to ≡ near) × FitsStage room ops far near flow.stage

-- The driver has the operations that a connection waits for.
abbrev pub FitsConnection : Ops Buf → Connection → Type 0
FitsConnection ops conn = FitsFlow conn.room ops conn.forth × FitsBack conn.room ops (near_of conn) (far_of conn) conn.back

-- What it holds from the near handle to the far one, and the other way.
abbrev pub held_forth : Ops Buf → Connection → List ℕ
held_forth ops conn = held_in ops conn.forth.stage

abbrev pub held_by : Ops Buf → Option Flow → List ℕ
held_by ops None = []
held_by ops (Some flow) = held_in ops flow.stage

abbrev pub held_back : Ops Buf → Connection → List ℕ
held_back ops conn = held_by ops conn.back

-- The bytes on their way of both directions are what they were, where both handles are streams.
pub record KeepsLines (tells : Bool) (old new : List HandleState) (near far : ℕ) (forth back forth_now back_now : List ℕ) : Type 0 where
  pub forth_line : IsTrue tells → IsStream old near → IsStream old far → line new near far forth_now ≡ line old near far forth
  pub back_line : IsTrue tells → near ≢ far → IsStream old near → IsStream old far → line new far near back_now ≡ line old far near back

-- A request is none of either direction between two handles.
abbrev pub IsOutside : ℕ → ℕ → Request Buffer Parts → Type 0
IsOutside near far request = IsElse near far request × IsElse far near request

-- At every handle but two the bytes are what they were.
abbrev pub KeepsElsewhere : List HandleState → ℕ → ℕ → List HandleState → Type 0
KeepsElsewhere old near far new = (h : ℕ) → h ≢ near → h ≢ far →
    (output_at new h ≡ output_at old h) × (input_at new h ≡ input_at old h)

-- Streams stay streams, handles that have ended have ended still, and one that listens listens still. Where each handle but one was a
-- stream whose end isn't marked, so is each but that one.
abbrev pub KeepsStreams : List HandleState → List HandleState → Type 0
KeepsStreams old new = (h : ℕ) →
    (IsStream old h → IsStream new h) × (HasEnded old h → HasEnded new h) × (IsListener old h → IsListener new h)
    × (AreGoingBut h old → AreGoingBut h new)

-- A connection is ending only where one of its handles has ended.
abbrev pub IsMarked : List HandleState → Connection → Type 0
IsMarked world conn = conn.ending ≡ true → HasEnded world (near_of conn) ⊎ HasEnded world (far_of conn)

-- A call was about one connection alone.
pub record LeavesConnection {I : Type 0} (view : I → IoView) (tells : Bool) (old : LegacyState I Buf) (near far : ℕ)
    (new : LegacyState I Buf) : Type 0 where
  pub later : IsLater (view old.handling.io) (view new.handling.io)
  pub users : KeepsUsers old.handling.table new.handling.table
  pub ops : KeepsOps (IsOutside near far) (ops_in old) (ops_in new)
  pub elsewhere : IsTrue tells → KeepsElsewhere (world_of view old) near far (world_of view new)
  pub streams : IsTrue tells → KeepsStreams (world_of view old) (world_of view new)

-- Why a connection came to this: it failed only where the object counted a call that ended with an error.
abbrev pub ServedFor : IoView → IoView → Served → Type 0
ServedFor old new Open = Unit {0}
ServedFor old new Closed = Unit {0}
ServedFor old new (Failed error) = Rose old.fails new.fails
ServedFor old new (Stopped why) = StopsFor old new why

-- A step alone closes none.
abbrev pub IsGoing : Served → Type 0
IsGoing Closed = ⊥
IsGoing _ = Unit {0}

-- What follows what a direction came to. The end is marked from then on.
abbrev pub FollowsAs : Came → Bool → Bool → Served → Type 0
FollowsAs came.Goes before now served = (now ≡ before) × (served ≡ Open)
FollowsAs came.Ended before now served = (now ≡ true) × (served ≡ Open)
FollowsAs (came.Failed error) before now served = (now ≡ before) × (served ≡ Failed error)
FollowsAs (came.Stopped why) before now served = (now ≡ before) × (served ≡ Stopped why)

-- Once the end is marked, a direction that has nothing starts no receive.
abbrev pub StaysIdle : Option Flow → Option Flow → Type 0
StaysIdle None None = Unit {0}
StaysIdle (Some before) (Some now) = IsIdle before.stage → IsIdle now.stage
StaysIdle _ _ = ⊥

pub record KeepsEnd (before now : Connection) : Type 0 where
  pub ending : before.ending ≡ true → now.ending ≡ true
  pub forth_idle : before.ending ≡ true → IsIdle before.forth.stage → IsIdle now.forth.stage
  pub back_idle : before.ending ≡ true → StaysIdle before.back now.back

-- A step of a connection, or a round of it.
pub record Serves {I : Type 0} (view : I → IoView) (tells : Bool) (old new : LegacyState I Buf) (before now : Connection) (served : Served)
    : Type 0 where
  pub near : near_of now ≡ near_of before
  pub far : far_of now ≡ far_of before
  pub room : now.room ≡ before.room
  pub fits : FitsConnection (ops_in new) now
  pub leaves : LeavesConnection view tells old (near_of before) (far_of before) new
  pub lines : KeepsLines tells (world_of view old) (world_of view new) (near_of before) (far_of before) (held_forth (ops_in old) before)
      (held_back (ops_in old) before) (held_forth (ops_in new) now) (held_back (ops_in new) now)
  pub cause : ServedFor (view old.handling.io) (view new.handling.io) served
  pub ends : KeepsEnd before now
  pub marks : IsTrue tells → IsMarked (world_of view old) before → IsMarked (world_of view new) now

-- A connection is over: its end is marked, and it holds nothing.
pub record IsOver (ops : Ops Buf) (conn : Connection) : Type 0 where
  pub ending : conn.ending ≡ true
  pub forth : held_forth ops conn ≡ []
  pub back : held_back ops conn ≡ []

abbrev pub IsOverIf : Ops Buf → Connection → Served → Type 0
IsOverIf ops conn Closed = IsOver ops conn
IsOverIf ops conn _ = Unit {0}

-- It as one that is lost: the two numbers count what it holds.
pub record IsLostAs (ops : Ops Buf) (conn : Connection) (fault : ℕ) (lost : Lost) : Type 0 where
  pub connection : lost.connection ≡ near_of conn
  pub fault_is : lost.fault ≡ fault
  pub unsent : lost.unsent ≡ length (held_forth ops conn)
  pub unsent_back : lost.unsent_back ≡ length (held_back ops conn)

-- A connection ended: no bytes moved, no handle was made, and of the user's handles only its own may be gone.
pub record EndsConnection {I : Type 0} (view : I → IoView) (tells : Bool) (old : LegacyState I Buf) (near far : ℕ)
    (new : LegacyState I Buf) : Type 0 where
  pub later : IsLater (view old.handling.io) (view new.handling.io)
  pub users : (h : ℕ) → h ≢ near → h ≢ far → is_users old.handling.table h ≡ true → is_users new.handling.table h ≡ true
  pub ops : KeepsOps (IsOutside near far) (ops_in old) (ops_in new)
  pub world : IsTrue tells → world_of view new ≡ world_of view old
  pub made : (view new.handling.io).made ≡ (view old.handling.io).made

-- A handle was given up: of the user's handles only this one may be gone, and all else stays.
pub record Releases {I : Type 0} (view : I → IoView) (tells : Bool) (old : LegacyState I Buf) (fd : ℕ) (new : LegacyState I Buf) : Type 0
  where
    pub later : IsLater (view old.handling.io) (view new.handling.io)
    pub users : (h : ℕ) → h ≢ fd → is_users old.handling.table h ≡ true → is_users new.handling.table h ≡ true
    pub ops : KeepsOps AnyRequest (ops_in old) (ops_in new)
    pub world : IsTrue tells → world_of view new ≡ world_of view old
    pub made : (view new.handling.io).made ≡ (view old.handling.io).made
