-- Operations as contracts see them, and what holds of them always. Cited by `Operations`, and by the state of each driver.
use Rattle.std.specs.Prelude.{ℕ, ◌≡◌, ◌<◌, Some, refl}
use Rattle.std.specs.Ordering.{nat_cmp}
use Rattle.std.specs.FinMap as map
use Rattle.std.specs.Coded.{Coded, code_by, coded×, coded_ℕ}
use Rattle.op_slots.specs.Slots.{Slots, slots_code}
use Rattle.op_slots.specs.declared.slab.TheConstants.{MAX_LIVE}
use Rattle.driver_core.specs.declared.slot.Slot.{Slot}
use Rattle.driver_core.specs.Slot.{number_at}

-- The slots of operations, and how many operations were submitted.
pub record Ops (B : Type 0) : Type 0 where
  pub slots : Slots (Slot B)
  pub given : ℕ

-- They are stored as the pair of their fields.
abbrev pub ops_code : {B : Type 0} → Coded (Slot B) → Coded (Ops B)
ops_code slot =
    code_by (Slots (Slot _) × ℕ) (coded× (slots_code slot) coded_ℕ) (λ o. (o.slots, o.given)) (λ t. record { slots = t.0; given = t.1 })
    (λ _. refl)

-- A slot that its user may still drop has a key below the reserved words, and the number of an operation that was submitted.
pub record IsOwnedSlot (given key number : ℕ) : Type 0 where
  pub key_below : key < MAX_LIVE
  pub number_below : number < given

-- That holds of each such slot.
abbrev pub AreNumbered : {B : Type 0} → map.FinMap nat_cmp (Slot B) → ℕ → Type 0
AreNumbered slots given = (key number : ℕ) → number_at slots key ≡ Some number → IsOwnedSlot given key number
