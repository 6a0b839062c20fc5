-- Who holds each handle of a driver, and which closes aren't reaped. Cited by `Handles`, and by the driver's calls.
use Rattle.std.specs.Prelude.{ℕ, ◌≡◌, ◌+◌, ◌-◌, ◌<◌, ◌≤◌, nat_lt, ◌||◌, Bool, true, false, is_some, List, [], ◌∷◌, Some, refl}
use Rattle.std.specs.FinMap as map
use Rattle.std.specs.Coded.{Coded, code_by, coded×, coded_ℕ}
use Rattle.handle_core.specs.declared.table.Holders.{Holders}
use Rattle.handle_core.specs.Table.{Table, table_code, AreHeld, holders_at, with_holders, without_handle, by_operation}
use Rattle.handle_core.specs.Table.{without_user}
use Rattle.machine.specs.declared.world.TheConstants.{MOST_HANDLES}
use Rattle.machine.specs.Ledger.{Ledger}
use Rattle.machine.specs.Closes.{is_closing}
use Rattle.driver_core.specs.Holds.{is_nobody, settled, without_ops, unheld_by, HoldersStand}

-- The holders of each handle that is held; and of each handle whose close isn't reaped, which the close holds as an operation does; and how
-- many operations in flight may make a handle.
pub record Holding : Type 0 where
  pub table : Table
  pub closing : Table
  pub makers : ℕ

-- Nobody holds a handle, and none is closing.
abbrev pub no_holding : Holding
no_holding = record {
  table = record { holders = map.empty; spare = 0 };
  closing = record { holders = map.empty; spare = 0 };
  makers = 0;
}

-- It is stored as the tuple of its fields.
abbrev pub holding_code : Coded Holding
holding_code = code_by (Table × (Table × ℕ)) (coded× table_code (coded× table_code coded_ℕ))
    (λ h. (h.table, (h.closing, h.makers))) (λ p. record { table = p.0; closing = p.1.0; makers = p.1.1 }) (λ _. refl)

-- How many handles are held, or may be made by operations in flight: as many closes are owed.
abbrev pub places : Holding → ℕ
places holding = map.len holding.table.holders + holding.makers

-- Somebody holds a handle.
abbrev pub is_held : Holding → ℕ → Bool
is_held holding h = is_some (map.get holding.table.holders h)

-- The close of a handle isn't reaped.
abbrev pub closes : Holding → ℕ → Bool
closes holding h = is_some (map.get holding.closing.holders h)

-- A handle is known: it is held, or its close isn't reaped.
abbrev pub knows : Holding → ℕ → Bool
knows holding h = is_held holding h || closes holding h

-- How often the user holds a handle.
abbrev pub user_count : Holding → ℕ → ℕ
user_count holding h = (holders_at holding.table h).user

-- The user holds a handle.
abbrev pub is_users : Holding → ℕ → Bool
is_users holding h = nat_lt 0 (user_count holding h)

-- A table with these handles more, each held by one operation, in memory that was reserved. Of what is closing these are the handles whose
-- closes join it.
abbrev pub with_added : Table → List ℕ → Table
with_added table [] = table
with_added table (h ∷ handles) = with_added (record (with_holders table h by_operation) { spare = table.spare - 1 }) handles

-- A handle, where nobody holds it.
abbrev pub unheld_if : Bool → ℕ → List ℕ
unheld_if true h = h ∷ []
unheld_if false h = []

-- A handle has these holders from now on. Where that is nobody, it leaves the table and is closing.
abbrev pub settle : Holding → ℕ → Holders → Holding
settle holding h held = record holding {
  table = settled holding.table h held;
  closing = with_added holding.closing (unheld_if (is_nobody held) h);
}

-- The user dropped one of its holds of a handle.
abbrev pub user_left : Holding → ℕ → Holding
user_left holding h = settle holding h (without_user (holders_at holding.table h))

-- An operation that named these handles is gone: those that nobody holds any more are closing.
abbrev pub ops_left : Holding → List ℕ → Holding
ops_left holding handles = record holding {
  table = without_ops holding.table handles;
  closing = with_added holding.closing (unheld_by holding.table handles);
}

-- The close of a handle was reaped, where it was closing.
abbrev pub reaped_if : Bool → Holding → ℕ → Holding
reaped_if true holding h = record holding { closing = without_handle holding.closing h }
reaped_if false holding h = holding

abbrev pub close_reaped : Holding → ℕ → Holding
close_reaped holding h = reaped_if (closes holding h) holding h

-- Two holdings are the same, but for how much memory is reserved.
pub record IsSameHolding (old new : Holding) : Type 0 where
  pub table : new.table.holders ≡ old.table.holders
  pub closing : new.closing.holders ≡ old.closing.holders
  pub makers : new.makers ≡ old.makers

-- What holds always: there is memory for each handle that may be made, and for the close of each that is held or may be made; no handle is
-- both held and closing; each handle is below the bound of handles, and has a holder; and a close holds its handle once.
pub record IsKept (holding : Holding) : Type 0 where
  pub room : places holding ≤ holding.closing.spare
  pub made : holding.makers ≤ holding.table.spare
  pub apart : (h : ℕ) → is_held holding h ≡ true → closes holding h ≡ false
  pub below : (h : ℕ) → is_held holding h ≡ true → h < MOST_HANDLES
  pub somebody : AreHeld holding.table
  pub once : (h : ℕ) (held : Holders) → map.get holding.closing.holders h ≡ Some held → held ≡ by_operation

-- Holders and closes stand for those of a ledger: the table for its holders, and a handle is closing exactly where its close stands in one
-- of the ledger's lists.
pub record HandlesStand (holding : Holding) (L : Ledger) : Type 0 where
  pub holders : HoldersStand holding.table L
  pub closing : (h : ℕ) → closes holding h ≡ is_closing L h
