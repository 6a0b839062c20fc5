-- Which handles of a driver over a world in memory are registered. Cited by each layer of the relay.
use Rattle.std.specs.Prelude.{ℕ, ◌≡◌, ◌≤◌, Bool, IsTrue, List, length, Option, true}
use Rattle.rent_buf.specs.declared.plain.Buf.{Buf}
use Rattle.ready_driver.specs.Io.{IoView}
use Rattle.ready_driver.specs.LegacyState.{LegacyState}
use Rattle.ready_driver.specs.Registry.{AreKeyed, Handling}
use Rattle.ready_driver.specs.Reports.{is_keyed}
use Rattle.relay_net.specs.Connection.{far_of, near_of}
use Rattle.relay_net.specs.Relay.{IsAmong}
use Rattle.relay_net.specs.declared.connection.Connection.{Connection}

-- Each handle that somebody holds is registered, and the object lists as many keys as it made handles: for each handle
-- the one that it is registered with, or none.
pub record HasKeys {I : Type 0} (view : I → IoView) (all : Handling I) : Type 0 where
  pub keyed : AreKeyed all.table (view all.io).keys
  pub sized : length (view all.io).keys ≡ (view all.io).made

-- Over a world in memory a call keeps that. It makes no handle less.
pub record KeepsKeys {I : Type 0} (view : I → IoView) (memory : Bool) (old new : LegacyState I Buf) : Type 0 where
  pub made : (view old.handling.io).made ≤ (view new.handling.io).made
  pub keys : IsTrue memory → HasKeys view old.handling → HasKeys view new.handling

-- A handle is registered.
abbrev pub IsKeyed : List (Option ℕ) → ℕ → Type 0
IsKeyed keys h = is_keyed keys h ≡ true

-- Each handle that somebody holds is registered; so is the one that listens, and so are both handles of each connection that is open.
pub record AreRegistered {I : Type 0} (view : I → IoView) (driver : LegacyState I Buf) (listener : ℕ) (open_ones : List Connection) : Type 0
  where
    pub held : HasKeys view driver.handling
    pub listens : IsKeyed (view driver.handling.io).keys listener
    pub near : (conn : Connection) → IsAmong open_ones conn → IsKeyed (view driver.handling.io).keys (near_of conn)
    pub far : (conn : Connection) → IsAmong open_ones conn → IsKeyed (view driver.handling.io).keys (far_of conn)
