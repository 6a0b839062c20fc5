-- The records of handles as contracts see them: who holds each handle, what it is ready for, what waits for it, whether it is registered,
-- and the key that its reports have. Cited by `Records`.
use Rattle.std.specs.Prelude.{ℕ, ◌≡◌, ◌≤◌, ◌↔◌, Bool, true, false, if◌then◌else◌, List, [], Option, Some, None, unwrap_or, option_map}
use Rattle.std.specs.Prelude.{nat_eq, map as mapped, refl}
use Rattle.std.specs.Ordering.{nat_cmp}
use Rattle.std.specs.FinMap as map
use Rattle.std.specs.HashMap.{HashMap, spare, get_by}
use Rattle.std.specs.Coded.{Coded, code_by, coded×, coded_ℕ}
use Rattle.slab.specs.Slab.{Slab, HasRoomFor, get as slot_at, entries as slots_of}
use Rattle.handle_core.specs.declared.table.Holders.{Holders}
use Rattle.handle_core.specs.Table.{Table, table_code, table_of, with_holders, without_handle, by_user, nobody}
use Rattle.ready_driver.specs.declared.records.One.{One}
use Rattle.ready_driver.specs.declared.records.Record.{Record}
use Rattle.ready_driver.specs.ScheduledIo.{Scheduled}

-- The record of each handle that has one; by key, the handle whose record has it; and for how many more memory is reserved.
pub record Kept : Type 0 where
  pub handles : map.FinMap nat_cmp Record
  pub names : map.FinMap nat_cmp ℕ
  pub spare : ℕ

-- They are stored as the tuple of their fields.
abbrev pub kept_code : Coded Record → Coded Kept
kept_code one = code_by
    (map.FinMap nat_cmp Record × (map.FinMap nat_cmp ℕ × ℕ))
    (coded× (map.code coded_ℕ one) (coded× (map.code coded_ℕ coded_ℕ) coded_ℕ))
    (λ k. (k.handles, (k.names, k.spare)))
    (λ p. record { handles = p.0; names = p.1.0; spare = p.1.1 })
    (λ _. refl)

-- No bits, and nothing that waits.
abbrev pub quiet : Scheduled
quiet = record { ready = 0; waiting = [] }

-- The record of a handle that is new, and isn't registered: it has this key, no bits, and nothing waits for it.
abbrev pub fresh_record : ℕ → Record
fresh_record key = record { registered = false; key = key; io = quiet }

-- The record of a handle, if it has one.
abbrev pub record_at : Kept → ℕ → Option Record
record_at kept h = map.get kept.handles h

-- The bits of a handle, and what waits for them; one with no record has none.
abbrev pub io_at : Kept → ℕ → Scheduled
io_at kept h = unwrap_or (option_map (λ r. r.io) (record_at kept h)) quiet

-- A handle is registered: it has a record that says so.
abbrev pub is_registered : Kept → ℕ → Bool
is_registered kept h = unwrap_or (option_map (λ r. r.registered) (record_at kept h)) false

-- The key of a handle, if it has a record: its reports have it.
abbrev pub key_at : Kept → ℕ → Option ℕ
key_at kept h = option_map (λ r. r.key) (record_at kept h)

-- The handle of a key, if there is one.
abbrev pub named_at : Kept → ℕ → Option ℕ
named_at kept key = map.get kept.names key

-- The keys are those of the records: a handle is that of a key exactly if its record has the key.
abbrev pub AreNamed : Kept → Type 0
AreNamed kept = (h key : ℕ) → (named_at kept key ≡ Some h) ↔ (key_at kept h ≡ Some key)

-- The bits of the handle of a key, and what waits for them, by which handle that is.
abbrev pub io_in : Kept → Option ℕ → Scheduled
io_in kept None = quiet
io_in kept (Some h) = io_at kept h

abbrev pub io_named : Kept → ℕ → Scheduled
io_named kept key = io_in kept (named_at kept key)

-- The key of the record that was looked up, where that isn't registered.
abbrev pub unregistered_in : Option Record → Option ℕ
unregistered_in None = None
unregistered_in (Some one) = if one.registered then None else Some one.key

-- The key of a handle that has a record and isn't registered.
abbrev pub unregistered_at : Kept → ℕ → Option ℕ
unregistered_at kept h = unregistered_in (record_at kept h)

-- The records with this one of a handle.
abbrev pub with_record : Kept → ℕ → Record → Kept
with_record kept h one = record kept { handles = map.insert kept.handles h one }

-- The records with the one of a handle changed, if it has one.
abbrev pub changed_if : Option Record → Kept → ℕ → (Record → Record) → Kept
changed_if None kept h change = kept
changed_if (Some one) kept h change = with_record kept h (change one)

abbrev pub changed : Kept → ℕ → (Record → Record) → Kept
changed kept h change = changed_if (record_at kept h) kept h change

-- The records with the one of the handle of a key changed, by which handle that is.
abbrev pub changed_in : Kept → Option ℕ → (Record → Record) → Kept
changed_in kept None change = kept
changed_in kept (Some h) change = changed kept h change

abbrev pub changed_named : Kept → ℕ → (Record → Record) → Kept
changed_named kept key change = changed_in kept (named_at kept key) change

-- The records with one of a new handle, which has this key.
abbrev pub with_new : Kept → ℕ → ℕ → Kept
with_new kept h key = record (with_record kept h (fresh_record key)) { names = map.insert kept.names key h }

-- The handles of keys without that of the key of a record, if there was one.
abbrev pub without_name : map.FinMap nat_cmp ℕ → Option ℕ → map.FinMap nat_cmp ℕ
without_name names None = names
without_name names (Some key) = map.remove names key

-- The records without that of a handle.
abbrev pub without_record : Kept → ℕ → Kept
without_record kept h = record kept { handles = map.remove kept.handles h; names = without_name kept.names (key_at kept h) }

-- A record with other bits, or other operations that wait.
abbrev pub with_io : (Scheduled → Scheduled) → Record → Record
with_io change one = record one { io = change one.io }

-- A record of a handle that is registered, or isn't.
abbrev pub with_registered : Bool → Record → Record
with_registered is one = record one { registered = is }

-- Who holds each handle, and the record of each.
pub record Holdings : Type 0 where
  pub table : Table
  pub records : Kept

-- They are stored as the pair of their fields.
abbrev pub holdings_code : Coded Record → Coded Holdings
holdings_code one = code_by
    (Table × Kept)
    (coded× table_code (kept_code one))
    (λ a. (a.table, a.records))
    (λ p. record { table = p.0; records = p.1 })
    (λ _. refl)

-- What no key of a slab has, which has none of a handle's.
abbrev pub no_one : One
no_one = record { number = 0; held = nobody; kept = fresh_record 0 }

-- What a slab has at a key.
abbrev pub one_at : Slab One → ℕ → One
one_at slab key = unwrap_or (slot_at slab key) no_one

-- Who holds the handle of each of these entries, each of a handle and its key in a slab.
abbrev pub held_entries : Slab One → List (ℕ × ℕ) → List (ℕ × Holders)
held_entries slab entries = mapped (λ e. (e.0, (one_at slab e.1).held)) entries

-- The record of the handle of each.
abbrev pub kept_entries : Slab One → List (ℕ × ℕ) → List (ℕ × Record)
kept_entries slab entries = mapped (λ e. (e.0, (one_at slab e.1).kept)) entries

-- By key, the number of the handle that a slab has there.
abbrev pub names_of : Slab One → map.FinMap nat_cmp ℕ
names_of slab = map.from_entries (mapped (λ e. (e.0, e.1.number)) (slots_of slab))

-- What these entries and this slab make, with memory for so many more of them.
abbrev pub holdings_of : List (ℕ × ℕ) → Slab One → ℕ → Holdings
holdings_of entries slab spare = record {
  table = table_of (held_entries slab entries) spare;
  records = record { handles = map.from_entries (kept_entries slab entries); names = names_of slab; spare = spare };
}

-- There is memory for so many more handles.
abbrev pub with_room : Holdings → ℕ → Holdings
with_room all spare = record { table = record all.table { spare = spare }; records = record all.records { spare = spare } }

-- The user holds a new handle once, whose record has this key.
abbrev pub with_one : Holdings → ℕ → ℕ → Holdings
with_one all h key = record { table = with_holders all.table h by_user; records = with_new all.records h key }

-- A handle has no holders, and no record.
abbrev pub without_one : Holdings → ℕ → Holdings
without_one all h = record { table = without_handle all.table h; records = without_record all.records h }

-- A slab has a handle at a key.
pub record IsPlaced (slab : Slab One) (h key : ℕ) : Type 0 where
  pub one : One
  pub there : slot_at slab key ≡ Some one
  pub number : one.number ≡ h
  pub keyed : one.kept.key ≡ key

-- What the body keeps true: the memory that is reserved is there; a slab has each handle at its key, and no other.
pub record IsPaired {S : Type 0} (keys : HashMap ℕ ℕ S) (slab : Slab One) (reserved : ℕ) : Type 0 where
  pub room : reserved ≤ spare keys
  pub places : HasRoomFor slab reserved
  pub there : (h key : ℕ) → get_by (nat_eq h) keys ≡ Some key → IsPlaced slab h key
  pub named : (key : ℕ) (one : One) → slot_at slab key ≡ Some one → get_by (nat_eq one.number) keys ≡ Some key
