-- A driver as contracts see it, and what holds of each. Cited by `IoUringDriver`, and by the definitions of its slots and room.
use Rattle.std.specs.Prelude.{ℕ, ◌≡◌, ◌+◌, ◌≤◌, Some, IsSome, refl}
use Rattle.std.specs.Ordering.{nat_cmp}
use Rattle.std.specs.FinMap as map
use Rattle.std.specs.Coded.{Coded, code_by, coded×, coded_ℕ}
use Rattle.handle_core.specs.Table.{holders_at}
use Rattle.op_slots.specs.Slots.{Slots, slots_code}
use Rattle.driver_core.specs.declared.slot.Slot.{Slot}
use Rattle.driver_core.specs.Slot.{number_at}
use Rattle.driver_core.specs.Holds.{AreCounted, AreMaking, AreApart}
use Rattle.driver_core.specs.Members.{Membership, membership_code}
use Rattle.uring_driver.specs.Pending.{Pending, pending_code}
use Rattle.uring_driver.specs.Holding.{Holding, holding_code}

-- A driver: its submissions, its slots, how many operations were given, who holds its handles, and its cancel groups.
pub record State (R B : Type 0) : Type 0 where
  pub ring : Pending R
  pub slots : Slots (Slot B)
  pub given : ℕ
  pub holding : Holding
  pub members : Membership

-- It is stored as the tuple of its fields.
abbrev pub state_code : {R B : Type 0} → Coded R → Coded (Slot B) → Coded (State R B)
state_code code slot = code_by (Pending _ × (Slots (Slot _) × (ℕ × (Holding × Membership))))
    (coded× (pending_code code) (coded× (slots_code slot) (coded× coded_ℕ (coded× holding_code membership_code))))
    (λ s. (s.ring, (s.slots, (s.given, (s.holding, s.members)))))
    (λ t. record { ring = t.0; slots = t.1.0; given = t.1.1.0; holding = t.1.1.1.0; members = t.1.1.1.1 }) (λ _. refl)

-- What holds of every driver's room: there is room for a cancel of each operation that its user may still drop, and for the close of each
-- handle that is held or may be made, so many in all. A map that has the keys of all such slots, and these handles, are no more than there
-- is room for.
pub record IsSound {B : Type 0} (room : ℕ) (slots : map.FinMap nat_cmp (Slot B)) (handles : ℕ) : Type 0 where
  pub owned : map.FinMap nat_cmp (Slot B)
  pub few : map.len owned + handles ≤ room
  pub all : (key number : ℕ) → number_at slots key ≡ Some number → IsSome (map.get owned key)

-- What holds of every driver's handles: the table counts the operations in slots, of which there are no more than were given; as many
-- slots are in flight and may make a handle as is counted; and no operation made a handle that it names.
pub record AreHolding {B : Type 0} (holding : Holding) (slots : map.FinMap nat_cmp (Slot B)) (given : ℕ) : Type 0 where
  pub counted : AreCounted holding.table slots
  pub few : (h : ℕ) → (holders_at holding.table h).operations ≤ given
  pub making : AreMaking slots holding.makers
  pub apart : AreApart slots
