-- A relay as contracts see it, and what its rounds show. Cited by `Relay`.
use Rattle.std.specs.Prelude.{ℕ, ◌≡◌, ◌+◌, ◌&&◌, Bool, List, [], length, nat_lt, Option, Result, Ok, Err, refl}
use Rattle.std.specs.Vec.{vec_len}
use Rattle.std.specs.Coded.{Coded, code_by, coded×, coded_ℕ, coded_list, coded_option}
use Rattle.rent_buf.specs.declared.plain.Buf.{Buf}
use Rattle.wake_core.specs.declared.park.Woken.{Woken}
use Rattle.wake_core.specs.Sleeping.{Sleeping}
use Rattle.wake_core.specs.WakerList.{IsInOrder}
use Rattle.driver_core.specs.declared.op.Op.{Op}
use Rattle.driver_core.specs.declared.op.Stop.{Stop}
use Rattle.driver_core.specs.declared.op.Stop.TheVariants.{OutOfMemory}
use Rattle.ready_driver.specs.Io.{IoView}
use Rattle.ready_driver.specs.LegacyState.{LegacyState}
use Rattle.ready_driver.specs.MemIo.{Memory}
use Rattle.ready_driver.specs.Registry.{is_users}
use Rattle.relay_net.specs.Keeping.{StopsFor}
use Rattle.relay_net.specs.declared.connection.Connection.{Connection}
use Rattle.relay_net.specs.declared.relay.lists.Lists.{Lists}
use Rattle.relay_net.specs.declared.round.RelayError.{RelayError}
use Rattle.relay_net.specs.declared.round.Round.{Round}

-- Its driver, the handle that listens, the accept that waits, the connections that are open, how many may be, and how many bytes a receive
-- has room for.
pub record Relaying (I : Type 0) : Type 0 where
  pub driver : LegacyState I Buf
  pub listener : ℕ
  pub accept : Option Op
  pub open_ones : List Connection
  pub limit : ℕ
  pub room : ℕ

-- It is stored as the tuple of its fields.
abbrev pub relaying_code : {I : Type 0} → Coded (LegacyState I Buf) → Coded Op → Coded Connection → Coded (Relaying I)
relaying_code driver op connection = code_by (LegacyState _ Buf × (ℕ × (Option Op × (List Connection × (ℕ × ℕ)))))
    (coded× driver (coded× coded_ℕ (coded× (coded_option op) (coded× (coded_list connection) (coded× coded_ℕ coded_ℕ)))))
    (λ r. (r.driver, (r.listener, (r.accept, (r.open_ones, (r.limit, r.room))))))
    (λ t. record {
      driver = t.0;
      listener = t.1.0;
      accept = t.1.1.0;
      open_ones = t.1.1.1.0;
      limit = t.1.1.1.1.0;
      room = t.1.1.1.1.1;
    })
    (λ _. refl)

-- The lists of what a round names have nothing.
abbrev pub AreEmpty : Lists → Type 0
AreEmpty lists =
    (lists.opened.items ≡ []) × (lists.accept ≡ Option.None) × (lists.ended.closed.items ≡ []) × (lists.ended.failed.items ≡ [])
    × (vec_len lists.opened ≡ 0) × (vec_len lists.ended.closed ≡ 0) × (vec_len lists.ended.failed ≡ 0)

-- The user holds a handle in memory.
abbrev pub has_handle : LegacyState Memory Buf → ℕ → Bool
has_handle driver h = is_users driver.handling.table h && nat_lt h (length driver.handling.io.world)

-- What a round did, also where it stopped.
abbrev pub round_of : Result Round (RelayError × Round) → Round
round_of (Ok round) = round
round_of (Err stopped) = stopped.1

-- Every waker that the sleeper took is handed on, in order, and none was made.
pub record HandsOn (old new : Sleeping) (remote : Woken) : Type 0 where
  pub made : new.made ≡ old.made
  pub taken : new.taken ≡ (old.taken + length remote.first) + length remote.again
  pub order : IsInOrder remote.first × IsInOrder remote.again

-- Why a round stopped, if it did: a fault comes only where the object counted one.
abbrev pub RoundStops : IoView → IoView → Result Round (RelayError × Round) → Type 0
RoundStops old new (Ok round) = Unit {0}
RoundStops old new (Err stopped) = StopsFor old new stopped.0

-- How a round goes on behind a turn that stopped so.
abbrev pub TurnStops : Option Stop → Result Unit RelayError → Type 0
TurnStops Option.None result = result ≡ Ok tt
TurnStops (Option.Some OutOfMemory) result = result ≡ Err RelayError.OutOfMemory
TurnStops (Option.Some stop) result = result ≡ Err RelayError.Fault
