-- A readiness driver as contracts see it, and what its readers show. Cited by `LegacyDriver`.
use Rattle.std.specs.Prelude.{ℕ, ◌≡◌, Bool, true, ◌&&◌, List, [], ◌∷◌, length, Some, refl}
use Rattle.std.specs.FinMap as map
use Rattle.std.specs.Coded.{Coded, code_by, coded×, coded_ℕ, coded_list}
use Rattle.rent_buf.specs.Parts.{Parts}
use Rattle.handle_core.specs.Table.{Table}
use Rattle.op_slots.specs.Slots.{Slots, slots_code}
use Rattle.machine.specs.declared.request.Request.{Request}
use Rattle.driver_core.specs.declared.op.Op.{Op}
use Rattle.driver_core.specs.declared.slot.Slot.{Slot}
use Rattle.driver_core.specs.Members.{Membership, membership_code}
use Rattle.driver_core.specs.Op.{Holds as HoldsIn, HoldsNone as HoldsNoneIn, KeepsTokens as KeepsTokensIn, DropsToken as DropsTokenIn}
use Rattle.driver_core.specs.Ops.{Ops}
use Rattle.driver_core.specs.Requests.{request_at, KeepsRequests as KeepsRequestsIn}
use Rattle.ready_driver.specs.declared.non_block.Report.{Report}
use Rattle.ready_driver.specs.declared.records.Record.{Record}
use Rattle.ready_driver.specs.Registry.{Handling, handling_code, is_users}

-- A driver: its handles with their object, its slots, how many operations were submitted, its cancel groups, the tasks that the next turn
-- names, and the reports that came in a turn and that none has treated yet.
pub record LegacyState (I B : Type 0) : Type 0 where
  pub handling : Handling I
  pub slots : Slots (Slot B)
  pub given : ℕ
  pub members : Membership
  pub asked : List ℕ
  pub untreated : List Report

-- It is stored as the tuple of its fields.
abbrev pub legacy_code : {I B : Type 0} → Coded I → Coded Record → Coded Report → Coded (Slot B) → Coded (LegacyState I B)
legacy_code object one report slot = code_by (Handling _ × (Slots (Slot _) × (ℕ × (Membership × (List ℕ × List Report)))))
    (coded× (handling_code object one) (coded× (slots_code slot) (coded× coded_ℕ
    (coded× membership_code (coded× (coded_list coded_ℕ) (coded_list report))))))
    (λ s. (s.handling, (s.slots, (s.given, (s.members, (s.asked, s.untreated))))))
    (λ t. record { handling = t.0; slots = t.1.0; given = t.1.1.0; members = t.1.1.1.0; asked = t.1.1.1.1.0; untreated = t.1.1.1.1.1 })
    (λ _. refl)

-- The user holds each of these handles.
abbrev pub holds_all : Table → List ℕ → Bool
holds_all table [] = true
holds_all table (h ∷ handles) = is_users table h && holds_all table handles

-- The operations.
abbrev pub ops_in : {I B : Type 0} → LegacyState I B → Ops B
ops_in driver = record { slots = driver.slots; given = driver.given }

-- How many slots are live.
abbrev pub live_slots : {I B : Type 0} → LegacyState I B → ℕ
live_slots driver = map.len driver.slots.values

-- How many groups were made.
abbrev pub group_count : {I B : Type 0} → LegacyState I B → ℕ
group_count driver = length driver.members.groups

-- The driver holds a token: the slot at its key has its number.
abbrev pub Holds : {I B : Type 0} → LegacyState I B → Op → Type 0
Holds driver op = HoldsIn (ops_in driver) op

-- No token is held.
abbrev pub HoldsNone : {I B : Type 0} → LegacyState I B → Type 0
HoldsNone driver = HoldsNoneIn (ops_in driver)

-- A call keeps every token, and makes none.
abbrev pub KeepsTokens : {I B : Type 0} → LegacyState I B → LegacyState I B → Type 0
KeepsTokens old new = KeepsTokensIn (ops_in old) (ops_in new)

-- A call spends one token, keeps every other, and makes none.
abbrev pub DropsToken : {I B : Type 0} → LegacyState I B → LegacyState I B → Op → Type 0
DropsToken old new op = DropsTokenIn (ops_in old) (ops_in new) op

-- A token's operation has this request, with what it holds.
abbrev pub HasRequest : {I B : Type 0} → LegacyState I B → Op → Request B Parts → Type 0
HasRequest driver op request = request_at (ops_in driver) op ≡ Some request

-- A call keeps requests: each token that is held before and after has its request, with what it holds, unchanged.
abbrev pub KeepsRequests : {I B : Type 0} → LegacyState I B → LegacyState I B → Type 0
KeepsRequests old new = KeepsRequestsIn (ops_in old) (ops_in new)

-- The slots, the number of operations, the cancel groups, the tasks that the next turn names and the untreated reports are as before.
pub record SameOps {I B : Type 0} (old new : LegacyState I B) : Type 0 where
  pub slots : new.slots.values ≡ old.slots.values
  pub given : new.given ≡ old.given
  pub members : new.members ≡ old.members
  pub asked : new.asked ≡ old.asked
  pub untreated : new.untreated ≡ old.untreated
