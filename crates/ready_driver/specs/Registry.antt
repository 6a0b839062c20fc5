-- The handles of a readiness driver as contracts see them: the object that makes its calls, who holds each handle, and what is kept of it.
-- Cited by `Registry`.
use Rattle.std.specs.Prelude.{ℕ, ◌≡◌, ◌<◌, ◌&&◌, ◌||◌, if◌then◌else◌, nat_lt, nat_le, Bool, true, false, is_some, IsTrue}
use Rattle.std.specs.Prelude.{List, [], ◌∷◌, ◌++◌, Option, Some, None, slice_get, refl}
use Rattle.std.specs.FinMap as map
use Rattle.std.specs.Coded.{Coded, code_by, coded×}
use Rattle.handle_core.specs.Table.{Table, table_code, holders_at, by_user}
use Rattle.machine.specs.declared.world.TheConstants.{MOST_HANDLES}
use Rattle.machine.specs.declared.world.HandleKind.{HandleKind}
use Rattle.machine.specs.World.{fresh}
use Rattle.ready_driver.specs.declared.non_block.NonBlockError.{NonBlockError}
use Rattle.ready_driver.specs.declared.records.Record.{Record}
use Rattle.ready_driver.specs.Io.{IoView, IsStill, IsDue, FaultsFor, closes_after}
use Rattle.ready_driver.specs.MemIo.{Memory}
use Rattle.ready_driver.specs.Records.{Kept, kept_code, fresh_record, record_at, key_at, named_at, is_registered, changed, without_record}
use Rattle.ready_driver.specs.Records.{with_registered}
use Rattle.ready_driver.specs.Reports.{is_keyed, with_key}

-- The object, who holds each handle, and the record of each.
pub record Handling (I : Type 0) : Type 0 where
  pub io : I
  pub table : Table
  pub records : Kept

-- It is stored as the tuple of its fields.
abbrev pub handling_code : {I : Type 0} → Coded I → Coded Record → Coded (Handling I)
handling_code {I} object one = code_by (I × (Table × Kept)) (coded× object (coded× table_code (kept_code one)))
    (λ h. (h.io, (h.table, h.records))) (λ p. record { io = p.0; table = p.1.0; records = p.1.1 }) (λ _. refl)

-- Somebody holds a handle.
abbrev pub is_known : Table → ℕ → Bool
is_known table h = is_some (map.get table.holders h)

-- The user holds a handle.
abbrev pub is_users : Table → ℕ → Bool
is_users table h = nat_lt 0 (holders_at table h).user

-- The user holds each of these handles.
abbrev pub holds_each : Table → List ℕ → Bool
holds_each table [] = true
holds_each table (h ∷ handles) = is_users table h && holds_each table handles

-- A handle that a call names as made can't be new: somebody holds it, or it is no handle's number.
abbrev pub is_old : Table → ℕ → Bool
is_old table h = is_known table h || nat_le MOST_HANDLES h

-- Just the handles that somebody holds have records.
abbrev pub AreRecorded : Table → Kept → Type 0
AreRecorded table records = (h : ℕ) → is_some (record_at records h) ≡ is_known table h

-- Each handle that somebody holds is registered.
abbrev pub AreKeyed : Table → List (Option ℕ) → Type 0
AreKeyed table keys = (h : ℕ) → is_known table h ≡ true → is_keyed keys h ≡ true

-- A handle that is registered is so with the key of its record.
abbrev pub OwnsKey : Kept → List (Option ℕ) → ℕ → Type 0
OwnsKey records keys h = (key : ℕ) → slice_get keys h ≡ Some (Some key) → key_at records h ≡ Some key

-- So it is of each handle that somebody holds.
abbrev pub AreOwned : Table → Kept → List (Option ℕ) → Type 0
AreOwned table records keys = (h : ℕ) → is_known table h ≡ true → OwnsKey records keys h

-- There is memory for a handle that a call makes, and for its record.
pub record HasMadeRoom {I : Type 0} (all : Handling I) : Type 0 where
  pub handle : 0 < all.table.spare
  pub one : 0 < all.records.spare

-- Nothing but reserved memory has changed.
pub record IsSameButRoom {I : Type 0} (old new : Handling I) : Type 0 where
  pub io : new.io ≡ old.io
  pub table : new.table.holders ≡ old.table.holders
  pub records : new.records.handles ≡ old.records.handles
  pub names : new.records.names ≡ old.records.names

-- What trying to register a handle with a key left, by whether the object took it. A world in memory takes each, and the handle is due
-- then.
abbrev pub TriesFor : Bool → Bool → ℕ → ℕ → IoView → IoView → Bool → Type 0
TriesFor tells memory h key old new true =
    IsStill tells memory old new (with_key old.keys h (Some key)) old.closes × (IsTrue memory → IsDue new h)
TriesFor tells memory h key old new false = IsStill tells memory old new old.keys old.closes × (IsTrue memory → ⊥)

-- The user holds one handle more, once. Its record has a key that no other has, and no bits, nothing waits for it, and it is registered
-- where the object took it. All other handles stay.
pub record GivesUser {I : Type 0} (view : I → IoView) (tells memory : Bool) (old : Handling I) (h : ℕ) (new : Handling I) : Type 0 where
  pub key : ℕ
  pub fresh : named_at old.records key ≡ None
  pub taken : Bool
  pub tries : TriesFor tells memory h key (view old.io) (view new.io) taken
  pub table : new.table.holders ≡ map.insert old.table.holders h by_user
  pub records : new.records.handles ≡ map.insert old.records.handles h (with_registered taken (fresh_record key))
  pub names : new.records.names ≡ map.insert old.records.names key h

-- Each of these handles is registered.
abbrev pub are_registered : Kept → List ℕ → Bool
are_registered records [] = true
are_registered records (h ∷ handles) = is_registered records h && are_registered records handles

-- The records once each of these handles is registered.
abbrev pub registered_each : Kept → List ℕ → Kept
registered_each records [] = records
registered_each records (h ∷ handles) = registered_each (changed records h (with_registered true)) handles

-- The keys of handles, once a handle with the record that was looked up is registered, if it has one and wasn't.
abbrev pub keyed_by : Option Record → List (Option ℕ) → ℕ → List (Option ℕ)
keyed_by None keys h = keys
keyed_by (Some one) keys h = if one.registered then keys else with_key keys h (Some one.key)

-- The keys of handles, once each of these is registered that has a record and isn't yet.
abbrev pub keyed_each : Kept → List (Option ℕ) → List ℕ → List (Option ℕ)
keyed_each records keys [] = keys
keyed_each records keys (h ∷ handles) =
    keyed_each (changed records h (with_registered true)) (keyed_by (record_at records h) keys h) handles

-- Each of these handles is registered, and all else stays.
pub record MakesReady {I : Type 0} (view : I → IoView) (tells memory : Bool) (old : Handling I) (handles : List ℕ) (new : Handling I) :
    Type 0 where
  pub table : new.table ≡ old.table
  pub records : new.records ≡ registered_each old.records handles
  pub object : IsStill tells memory (view old.io) (view new.io) (keyed_each old.records (view old.io).keys handles) (view old.io).closes

-- A handle wasn't registered, and was refused again: nothing has changed but the object's counts. A world in memory refuses none.
pub record Refuses {I : Type 0} (view : I → IoView) (tells memory : Bool) (old : Handling I) (h : ℕ) (new : Handling I)
    (why : NonBlockError) : Type 0 where
  pub unregistered : is_registered old.records h ≡ false
  pub table : new.table ≡ old.table
  pub records : new.records ≡ old.records
  pub object : IsStill tells memory (view old.io) (view new.io) (view old.io).keys (view old.io).closes
  pub fault : FaultsFor memory (view old.io) (view new.io) why
  pub never : IsTrue memory → ⊥

-- A handle among these wasn't registered, and was refused again; those in front of it are registered. A world in memory refuses none.
pub record RefusesReady {I : Type 0} (view : I → IoView) (tells memory : Bool) (old : Handling I) (handles : List ℕ) (new : Handling I)
    (why : NonBlockError) : Type 0 where
  pub front : List ℕ
  pub refused : ℕ
  pub rest : List ℕ
  pub parts : handles ≡ front ++ refused ∷ rest
  pub made : MakesReady view tells memory old front new
  pub unregistered : is_registered new.records refused ≡ false
  pub fault : FaultsFor memory (view old.io) (view new.io) why
  pub never : IsTrue memory → ⊥

-- The records without those of these handles.
abbrev pub without_records : Kept → List ℕ → Kept
without_records records [] = records
without_records records (h ∷ handles) = without_records (without_record records h) handles

-- The keys of handles, once none of these is registered any more.
abbrev pub without_keys : List (Option ℕ) → List ℕ → List (Option ℕ)
without_keys keys [] = keys
without_keys keys (h ∷ handles) = without_keys (with_key keys h None) handles

-- A handle, where nobody holds it.
abbrev pub unheld_if : Bool → ℕ → List ℕ
unheld_if true h = h ∷ []
unheld_if false h = []

-- The holders became these. Of these handles, which nobody holds any more, each isn't registered and has no record, and the object was
-- asked for one close each.
pub record LetsGo {I : Type 0} (view : I → IoView) (tells memory : Bool) (old : Handling I) (table : Table) (handles : List ℕ)
    (new : Handling I) : Type 0 where
  pub holders : new.table ≡ table
  pub records : new.records ≡ without_records old.records handles
  pub object : IsStill tells memory (view old.io) (view new.io) (without_keys (view old.io).keys handles)
      (closes_after (view old.io).closes handles)
  pub same : handles ≡ [] → new.io ≡ old.io

-- Over handles in memory: one more was created, which isn't registered.
abbrev pub with_created : Handling Memory → HandleKind → Handling Memory
with_created all kind =
    record all { io = record all.io { world = all.io.world ++ fresh kind ∷ []; keys = all.io.keys ++ None ∷ [] } }

-- Over handles in memory: what they have, and which are due, became this.
abbrev pub with_world : Handling Memory → Memory → Handling Memory
with_world all now = record all { io = record all.io { world = now.world; due = now.due } }
