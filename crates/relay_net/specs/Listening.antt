-- A listener in memory that a connection can be accepted of at once. Cited by the accept of a relay, and by its rounds.
use Rattle.std.specs.Prelude.{ℕ, ◌≡◌, ◌≢◌, List, Some, slice_get, true, false}
use Rattle.rent_buf.specs.declared.plain.Buf.{Buf}
use Rattle.machine.specs.declared.world.HandleKind.TheVariants.{Listener, Stream}
use Rattle.machine.specs.declared.world.HandleState.{HandleState}
use Rattle.ready_driver.specs.declared.ready.Direction.TheVariants.{Read}
use Rattle.ready_driver.specs.Io.{IoView}
use Rattle.ready_driver.specs.LegacyState.{LegacyState}
use Rattle.ready_driver.specs.Ready.{mask_of, meets}
use Rattle.ready_driver.specs.Records.{io_at}
use Rattle.ready_driver.specs.Registry.{AreKeyed}
use Rattle.relay_net.specs.Keeping.{world_of}
use Rattle.relay_net.specs.declared.opening.Accepted.{Accepted}
use Rattle.relay_net.specs.declared.opening.Accepted.TheVariants as accepted
use Rattle.relay_net.specs.declared.opening.Arrival.{Arrival}
use Rattle.relay_net.specs.declared.opening.Arrival.TheVariants as arrival

-- A handle of these listens.
pub record IsListener (world : List HandleState) (h : ℕ) : Type 0 where
  pub handle : HandleState
  pub there : slice_get world h ≡ Some handle
  pub kind : handle.kind ≡ Listener

-- Each of these handles but one is a stream whose end isn't marked.
abbrev pub AreGoingBut : ℕ → List HandleState → Type 0
AreGoingBut listener world = (h : ℕ) (handle : HandleState) → h ≢ listener → slice_get world h ≡ Some handle →
    (handle.kind ≡ Stream) × (handle.ended ≡ false)

-- A handle of a driver listens, and its bits show that it can be read.
pub record IsAtHand {I : Type 0} (view : I → IoView) (driver : LegacyState I Buf) (h : ℕ) : Type 0 where
  pub listens : IsListener (world_of view driver) h
  pub bits : meets (io_at driver.handling.records h).ready (mask_of Read) ≡ true

-- A handle of a driver listens, and each handle that is held is registered.
pub record MayListen {I : Type 0} (view : I → IoView) (driver : LegacyState I Buf) (h : ℕ) : Type 0 where
  pub listens : IsListener (world_of view driver) h
  pub keyed : AreKeyed driver.handling.table (view driver.handling.io).keys

-- An accept made a handle, unless memory ran out.
abbrev pub IsMadeUnless : Accepted → Type 0
IsMadeUnless (accepted.Waits op) = ⊥
IsMadeUnless (accepted.Made h) = Unit {0}
IsMadeUnless (accepted.Failed error) = ⊥
IsMadeUnless accepted.Nothing = ⊥
IsMadeUnless (accepted.OutOfMemory op) = Unit {0}

-- A connection arrived, unless memory ran out.
abbrev pub ArrivesUnless : Arrival → Type 0
ArrivesUnless arrival.Nothing = ⊥
ArrivesUnless (arrival.Made h) = Unit {0}
ArrivesUnless (arrival.Failed error) = ⊥
ArrivesUnless arrival.OutOfMemory = Unit {0}
