-- A handle table as contracts see it: who holds each handle, and the reserved room. Cited by `HandleTable`.
use Rattle.std.specs.Prelude.{ℕ, ◌≡◌, ◌+◌, ◌-◌, ◌<◌, ◌≤◌, max, List, IsSome, Some, unwrap_or, refl}
use Rattle.std.specs.Ordering.{nat_cmp}
use Rattle.std.specs.FinMap as map
use Rattle.std.specs.HashMap.{HashMap, spare}
use Rattle.std.specs.Coded.{Coded, code_by, coded×, coded_ℕ}
use Rattle.handle_core.specs.declared.table.Holders.{Holders}

-- The holders of each handle that is held, and for how many more handles memory is reserved.
pub record Table : Type 0 where
  pub holders : map.FinMap nat_cmp Holders
  pub spare : ℕ

-- Holders are stored as the pair of their counts.
abbrev pub holders_code : Coded Holders
holders_code = code_by
    (ℕ × ℕ)
    (coded× coded_ℕ coded_ℕ)
    (λ h. (h.user, h.operations))
    (λ p. record { user = p.0; operations = p.1 })
    (λ _. refl)

-- A table is stored as the pair of its fields.
abbrev pub table_code : Coded Table
table_code = code_by
    (map.FinMap nat_cmp Holders × ℕ)
    (coded× (map.code coded_ℕ holders_code) coded_ℕ)
    (λ t. (t.holders, t.spare))
    (λ p. record { holders = p.0; spare = p.1 })
    (λ _. refl)

-- The table whose map has these entries.
abbrev pub table_of : List (ℕ × Holders) → ℕ → Table
table_of entries spare = record { holders = map.from_entries entries; spare = spare }

-- Nobody holds a handle.
abbrev pub nobody : Holders
nobody = record { user = 0; operations = 0 }

-- Its user holds a handle, once.
abbrev pub by_user : Holders
by_user = record { user = 1; operations = 0 }

-- One operation holds a handle.
abbrev pub by_operation : Holders
by_operation = record { user = 0; operations = 1 }

-- The user has one hold more.
abbrev pub with_user : Holders → Holders
with_user held = record held { user = held.user + 1 }

-- The user has one hold less.
abbrev pub without_user : Holders → Holders
without_user held = record held { user = held.user - 1 }

-- The operations have one hold more.
abbrev pub with_operation : Holders → Holders
with_operation held = record held { operations = held.operations + 1 }

-- The operations have one hold less.
abbrev pub without_operation : Holders → Holders
without_operation held = record held { operations = held.operations - 1 }

-- An operation's hold became the user's, who holds the handle once at least.
abbrev pub handed : Holders → Holders
handed held = record { user = max held.user 1; operations = held.operations - 1 }

-- The handle is in the table.
abbrev pub IsHeld : Table → ℕ → Type 0
IsHeld table h = IsSome (map.get table.holders h)

-- Who holds a handle. Nobody holds one that isn't in the table.
abbrev pub holders_at : Table → ℕ → Holders
holders_at table h = unwrap_or (map.get table.holders h) nobody

-- Each handle of the table has a holder.
abbrev pub AreHeld : Table → Type 0
AreHeld table = (h : ℕ) (held : Holders) → map.get table.holders h ≡ Some held → 0 < held.user + held.operations

-- The table with these holders of a handle. All other handles and the room stay.
abbrev pub with_holders : Table → ℕ → Holders → Table
with_holders table h held = record table { holders = map.insert table.holders h held }

-- The table without a handle. All other handles and the room stay.
abbrev pub without_handle : Table → ℕ → Table
without_handle table h = record table { holders = map.remove table.holders h }

-- What a table's body keeps true: the reserved room is there, and each handle has a holder.
pub record IsKept {S : Type 0} (handles : HashMap ℕ Holders S) (reserved : ℕ) : Type 0 where
  pub room : reserved ≤ spare handles
  pub held : AreHeld (table_of handles.entries reserved)
