-- A server as contracts see it, and what its calls answer. Cited by `Server` and `Places`.
use Rattle.std.specs.Prelude.{ℕ, ◌≡◌, ◌<◌, ◌≤◌, ◌+◌, ◌-◌, Bool, true, false, List, [], ◌∷◌, Option, None, Some, Result, Ok, Err, refl}
use Rattle.std.specs.Coded.{Coded, code_by, coded×, coded_ℕ, coded_bool}
use Rattle.handle_core.specs.Table.{Table, table_code}
use Rattle.net_server.specs.Closing.{GainsNone}
use Rattle.net_server.specs.declared.fault.ServerFault.{ServerFault}
use Rattle.net_server.specs.declared.fault.ServerFault.TheVariants.{Os, OutOfMemory, TooMany, Listens, Accept, Exhausted}
use Rattle.net_server.specs.declared.net_job.NetEnd.{NetEnd}
use Rattle.net_server.specs.declared.net_job.NetEnd.TheVariants.{Accepted, NotAccepted, Ended}

-- Who holds the handles of its driver, how many connections are open and how many may be, whether it listens, and how many tasks its
-- executor was given.
pub record Serves : Type 0 where
  pub table : Table
  pub count : ℕ
  pub most : ℕ
  pub listens : Bool
  pub given : ℕ

-- It is stored as the tuple of its fields.
abbrev pub serves_code : Coded Serves
serves_code = code_by (Table × (ℕ × (ℕ × (Bool × ℕ))))
    (coded× table_code (coded× coded_ℕ (coded× coded_ℕ (coded× coded_bool coded_ℕ))))
    (λ s. (s.table, (s.count, (s.most, (s.listens, s.given)))))
    (λ p. record { table = p.0; count = p.1.0; most = p.1.1.0; listens = p.1.1.1.0; given = p.1.1.1.1 }) (λ _. refl)

-- Its limit, and whether it listens, are as before.
pub record KeepsLimit (old new : Serves) : Type 0 where
  pub most : new.most ≡ old.most
  pub listens : new.listens ≡ old.listens

-- Why the object refused to open a handle: its error, or want of memory.
abbrev pub IsOpenFault : ServerFault → Type 0
IsOpenFault (Os code) = Unit {0}
IsOpenFault OutOfMemory = Unit {0}
IsOpenFault why = ⊥

-- Why a server refuses to listen: it listens already, or the object refused the port, or memory ran out.
abbrev pub IsListenFault : Bool → ServerFault → Type 0
IsListenFault true why = why ≡ Listens
IsListenFault false why = IsOpenFault why

-- It listens from now on where it didn't; at an error it listens as before.
abbrev pub ListensFor : {U : Type 0} → Serves → Serves → Result U ServerFault → Type 0
ListensFor old new (Ok done) = (old.listens ≡ false) × (new.listens ≡ true)
ListensFor old new (Err why) = (new.listens ≡ old.listens) × IsListenFault old.listens why

-- Nothing more is to be had for a connection: memory, or a number of a task.
abbrev pub IsShortage : ServerFault → Type 0
IsShortage OutOfMemory = Unit {0}
IsShortage Exhausted = Unit {0}
IsShortage why = ⊥

-- Why a server refuses to dial: as many connections are open as may be, but for one that an accept may make; or the object refused it; or
-- nothing more is to be had.
abbrev pub IsDialFault : Serves → ServerFault → Type 0
IsDialFault old TooMany = old.most ≤ old.count + 1
IsDialFault old (Os code) = Unit {0}
IsDialFault old OutOfMemory = Unit {0}
IsDialFault old Exhausted = Unit {0}
IsDialFault old why = ⊥

-- An executor gave one task more, of this number.
pub record SpawnsOne (old new task : ℕ) : Type 0 where
  pub next : task ≡ old
  pub one_more : new ≡ old + 1

-- A connection was begun, with the number of a new task.
pub record Begins (old new : Serves) (task : ℕ) : Type 0 where
  pub place : old.count < old.most
  pub count : new.count ≡ old.count + 1
  pub spawned : SpawnsOne old.given new.given task

-- None was: the state comes back.
pub record RefusesState {S : Type 0} (state : S) (old new : Serves) (back : S) : Type 0 where
  pub same : back ≡ state
  pub count : new.count ≡ old.count
  pub given : new.given ≡ old.given

-- A connection is begun, or its state comes back.
abbrev pub BeginsFor : {S : Type 0} → S → Serves → Serves → Result ℕ (ServerFault × S) → Type 0
BeginsFor state old new (Ok task) = Begins old new task
BeginsFor state old new (Err refused) = RefusesState state old new refused.1 × IsShortage refused.0

-- A connection is dialled, or its state comes back, and then no handle is left open.
abbrev pub DialsFor : {S : Type 0} → S → Serves → Serves → Result ℕ (ServerFault × S) → Type 0
DialsFor state old new (Ok task) = Begins old new task
DialsFor state old new (Err refused) =
    RefusesState state old new refused.1 × IsDialFault old refused.0 × GainsNone old.table new.table

-- How many connections what ended has: one or none.
abbrev pub connections_of : {S : Type 0} → NetEnd S → ℕ
connections_of (Accepted fd) = 0
connections_of (NotAccepted why) = 0
connections_of (Ended ended) = 1

-- How many connections are among what ended.
abbrev pub connections_in : {S : Type 0} → List (ℕ × NetEnd S) → ℕ
connections_in [] = 0
connections_in (one ∷ rest) = connections_of one.1 + connections_in rest

-- How many connections were begun: one or none.
abbrev pub begun_in : Option ℕ → ℕ
begun_in None = 0
begun_in (Some task) = 1

-- What a turn makes of the number of connections: those that ended go, and the one that was begun comes.
pub record CountsTurn {S : Type 0} (old new : Serves) (ended : List (ℕ × NetEnd S)) (accepted : Option ℕ) : Type 0 where
  pub count : new.count ≡ (old.count - connections_in ended) + begun_in accepted

-- What a turn may be refused by: an accept that failed, or want of something.
abbrev pub IsTurnFault : ServerFault → Type 0
IsTurnFault OutOfMemory = Unit {0}
IsTurnFault Exhausted = Unit {0}
IsTurnFault (Accept why) = Unit {0}
IsTurnFault why = ⊥
