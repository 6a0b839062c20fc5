-- What a round forwards over handles in memory. Cited by each layer of the relay.
use Rattle.std.specs.Prelude.{ℕ, suc, ◌≡◌, ◌≢◌, ◌++◌, Bool, true, false, IsTrue, List, [], take, nat_lt, Some, slice_get}
use Rattle.std.specs.Prelude.{Result, Ok, Err}
use Rattle.rent_buf.specs.declared.plain.Buf.{Buf}
use Rattle.machine.specs.Attempt.{is_readable_at}
use Rattle.machine.specs.World.{input_at}
use Rattle.machine.specs.declared.world.HandleState.{HandleState}
use Rattle.ready_driver.specs.Io.{IoView}
use Rattle.ready_driver.specs.LegacyState.{LegacyState, ops_in}
use Rattle.ready_driver.specs.Ready.{mask_of, meets}
use Rattle.ready_driver.specs.Records.{Kept, io_at}
use Rattle.ready_driver.specs.declared.ready.Direction.TheVariants.{Read, Write}
use Rattle.ready_driver.specs.Registry.{is_users}
use Rattle.ready_driver.specs.Reports.{ShowsBits}
use Rattle.net_stream.specs.Told.{IsStream, output_at}
use Rattle.relay_net.specs.Connection.{far_of, held_back, held_forth, near_of}
use Rattle.relay_net.specs.Keeping.{MovesBetween, world_of}
use Rattle.relay_net.specs.Relay.{IsAmong}
use Rattle.relay_net.specs.declared.connection.Connection.{Connection}
use Rattle.relay_net.specs.declared.connection.Served.{Served}
use Rattle.relay_net.specs.declared.connection.Served.TheVariants.{Open, Closed, Failed, Stopped}
use Rattle.relay_net.specs.declared.round.RelayError.{RelayError}
use Rattle.relay_net.specs.declared.flow.Stage.{Stage}
use Rattle.relay_net.specs.declared.flow.Stage.TheVariants.{Idle, Receiving, Held, Sending}

-- The bits of a handle show what it has: that it can be written to, and read where it can.
abbrev pub IsSeen : {I : Type 0} → (I → IoView) → LegacyState I Buf → ℕ → Type 0
IsSeen view driver h = ShowsBits (is_readable_at (world_of view driver) h) (io_at driver.handling.records h).ready

-- Over a world in memory a call keeps this of each stream that the user holds.
abbrev pub KeepsSeen : {I : Type 0} → (I → IoView) → Bool → LegacyState I Buf → LegacyState I Buf → Type 0
KeepsSeen view memory old new = IsTrue memory → (h : ℕ) → is_users old.handling.table h ≡ true → IsStream (world_of view old) h →
    IsSeen view old h → IsSeen view new h

-- The same of each but two.
abbrev pub KeepsSeenBut : {I : Type 0} → (I → IoView) → Bool → LegacyState I Buf → ℕ → ℕ → LegacyState I Buf → Type 0
KeepsSeenBut view memory old near far new = IsTrue memory → (h : ℕ) → h ≢ near → h ≢ far → is_users old.handling.table h ≡ true →
    IsStream (world_of view old) h → IsSeen view old h → IsSeen view new h

-- Two handles are streams whose bits show what they have.
pub record CanForward {I : Type 0} (view : I → IoView) (driver : LegacyState I Buf) (from to : ℕ) : Type 0 where
  pub from_stream : IsStream (world_of view driver) from
  pub to_stream : IsStream (world_of view driver) to
  pub from_seen : IsSeen view driver from
  pub to_seen : IsSeen view driver to

-- A direction forwarded what it could: what it held has joined the output of its second handle; where it held nothing, it holds now what
-- waited at its first one, or as much of it as a receive has room for.
pub record Forwards (room : ℕ) (old new : List HandleState) (from to : ℕ) (held now : List ℕ) : Type 0 where
  pub sends : held ≢ [] → output_at new to ≡ output_at old to ++ held
  pub takes : held ≡ [] → now ≡ take room (input_at old from)

-- A direction waits for an operation.
abbrev pub IsAwaiting : Stage → Type 0
IsAwaiting (Idle spare) = ⊥
IsAwaiting (Receiving op) = Unit {0}
IsAwaiting (Held buf) = ⊥
IsAwaiting (Sending op count) = Unit {0}

-- The call that a direction waits for can't be made yet: no bit meets it.
abbrev pub IsUnmetAt : Kept → ℕ → ℕ → Stage → Type 0
IsUnmetAt records from to (Idle spare) = ⊥
IsUnmetAt records from to (Receiving op) = meets (io_at records from).ready (mask_of Read) ≡ false
IsUnmetAt records from to (Held buf) = ⊥
IsUnmetAt records from to (Sending op count) = meets (io_at records to).ready (mask_of Write) ≡ false

-- Both directions of a connection forwarded what they could. There is one where both handles are the same.
pub record ForwardsBoth {I : Type 0} (view : I → IoView) (old : LegacyState I Buf) (before : Connection) (new : LegacyState I Buf)
    (now : Connection) : Type 0 where
  pub forth : Forwards before.room (world_of view old) (world_of view new) (near_of before) (far_of before) (held_forth (ops_in old) before)
      (held_forth (ops_in new) now)
  pub back : near_of before ≢ far_of before → Forwards before.room (world_of view old) (world_of view new) (far_of before) (near_of before)
      (held_back (ops_in old) before) (held_back (ops_in new) now)

-- A step from the near handle to the far one.
pub record StepsForth {I : Type 0} (view : I → IoView) (tells memory : Bool) (old new : LegacyState I Buf) (before now : Connection)
    (answer : Served) : Type 0 where
  pub held : held_back (ops_in new) now ≡ held_back (ops_in old) before
  pub moved : IsTrue tells → MovesBetween (world_of view old) (near_of before) (far_of before) (world_of view new)
  pub forwards : IsTrue memory → CanForward view old (near_of before) (far_of before) → now.ending ≡ false → answer ≡ Open →
      Forwards before.room (world_of view old) (world_of view new) (near_of before) (far_of before) (held_forth (ops_in old) before)
      (held_forth (ops_in new) now)

-- One from the far handle to the near one, where they aren't the same.
pub record StepsBack {I : Type 0} (view : I → IoView) (tells memory : Bool) (old new : LegacyState I Buf) (before now : Connection)
    (answer : Served) : Type 0 where
  pub held : held_forth (ops_in new) now ≡ held_forth (ops_in old) before
  pub same : near_of before ≡ far_of before → new ≡ old
  pub moved : IsTrue tells → MovesBetween (world_of view old) (far_of before) (near_of before) (world_of view new)
  pub forwards : IsTrue memory → near_of before ≢ far_of before → CanForward view old (far_of before) (near_of before) → now.ending ≡ false
      →
      answer ≡ Open → Forwards before.room (world_of view old) (world_of view new) (far_of before) (near_of before)
      (held_back (ops_in old) before)
      (held_back (ops_in new) now)

-- A connection that was open as a round began, and whose step didn't come yet: it holds what it held, and asks for as much, the bytes at
-- its handles are what they were, and if these are streams, their bits show what they have.
pub record IsUntouched {I : Type 0} (view : I → IoView) (start : LegacyState I Buf) (conn : Connection) (driver : LegacyState I Buf)
    (now : Connection) : Type 0 where
  pub room : now.room ≡ conn.room
  pub forth : held_forth (ops_in driver) now ≡ held_forth (ops_in start) conn
  pub back : held_back (ops_in driver) now ≡ held_back (ops_in start) conn
  pub near : (output_at (world_of view driver) (near_of conn) ≡ output_at (world_of view start) (near_of conn))
      × (input_at (world_of view driver) (near_of conn) ≡ input_at (world_of view start) (near_of conn))
  pub far : (output_at (world_of view driver) (far_of conn) ≡ output_at (world_of view start) (far_of conn))
      × (input_at (world_of view driver) (far_of conn) ≡ input_at (world_of view start) (far_of conn))
  pub forwards : IsStream (world_of view start) (near_of conn) → IsStream (world_of view start) (far_of conn) →
      CanForward view driver (near_of conn) (far_of conn)

-- One whose step came: if its handles are streams, and it isn't ending, its directions forwarded what they could.
abbrev pub HasForwarded : {I : Type 0} → (I → IoView) → LegacyState I Buf → Connection → LegacyState I Buf → Connection → Type 0
HasForwarded view start conn driver now = IsStream (world_of view start) (near_of conn) → IsStream (world_of view start) (far_of conn) →
    now.ending ≡ false → ForwardsBoth view start conn driver now

-- What is so of each connection that was open as a round began and is open still, by its place.
abbrev pub OfEach : List Connection → List Connection → (ℕ → Connection → Connection → Type 0) → Type 0
OfEach was all P = (conn now : Connection) (k : ℕ) → IsAmong was conn → slice_get all k ≡ Some now → near_of now ≡ near_of conn →
    (far_of now ≡ far_of conn) × P k conn now

-- No step came.
abbrev pub AreUntouched : {I : Type 0} → (I → IoView) → LegacyState I Buf → List Connection → LegacyState I Buf → List Connection → Type 0
AreUntouched view start was driver all = OfEach was all (λ k conn now. IsUntouched view start conn driver now)

-- The step of each came.
abbrev pub HaveForwarded : {I : Type 0} → (I → IoView) → LegacyState I Buf → List Connection → LegacyState I Buf → List Connection → Type 0
HaveForwarded view start was driver all = OfEach was all (λ k conn now. HasForwarded view start conn driver now)

-- The step of each in front of a place came, and none behind it.
abbrev pub RoundAt : {I : Type 0} → (I → IoView) → Bool → LegacyState I Buf → Connection → LegacyState I Buf → Connection → Type 0
RoundAt view true start conn driver now = HasForwarded view start conn driver now
RoundAt view false start conn driver now = IsUntouched view start conn driver now

abbrev pub RoundTo : {I : Type 0} → (I → IoView) → LegacyState I Buf → List Connection → LegacyState I Buf → List Connection → ℕ → Type 0
RoundTo view start was driver all at = OfEach was all (λ k conn now. RoundAt view (nat_lt k at) start conn driver now)

-- The same but for the one at that place.
abbrev pub RoundBut : {I : Type 0} → (I → IoView) → LegacyState I Buf → List Connection → LegacyState I Buf → List Connection → ℕ → Type 0
RoundBut view start was driver all at = OfEach was all (λ k conn now. k ≢ at → RoundAt view (nat_lt k at) start conn driver now)

-- What a step at a place came to.
abbrev pub RoundOn : {I : Type 0} → (I → IoView) → LegacyState I Buf → List Connection → LegacyState I Buf → List Connection → ℕ → Served →
    Type 0
RoundOn view start was driver all at Open = RoundTo view start was driver all (suc at)
RoundOn view start was driver all at Closed = RoundBut view start was driver all at
RoundOn view start was driver all at (Failed error) = RoundBut view start was driver all at
RoundOn view start was driver all at (Stopped why) = Unit {0}

-- What a step at a place came to, by whether its connection is open still.
abbrev pub RoundBehind : {I : Type 0} → (I → IoView) → LegacyState I Buf → List Connection → LegacyState I Buf → List Connection → ℕ →
    Result Bool RelayError → Type 0
RoundBehind view start was driver all at (Ok true) = RoundTo view start was driver all (suc at)
RoundBehind view start was driver all at (Ok false) = RoundTo view start was driver all at
RoundBehind view start was driver all at (Err why) = Unit {0}
