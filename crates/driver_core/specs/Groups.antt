-- What the cancel groups of a driver mean, by the slots of its operations and by a ledger. Cited by the state of each driver.
use Rattle.std.specs.Prelude.{ℕ, ◌≡◌, Bool, false, map as list_map, Option, None, Some}
use Rattle.std.specs.Ordering.{nat_cmp}
use Rattle.std.specs.FinMap as map
use Rattle.cancel_core.specs.Group.{group_at}
use Rattle.machine.specs.Ledger.{Ledger, members}
use Rattle.driver_core.specs.declared.members.places.Place.{Place}
use Rattle.driver_core.specs.declared.slot.Slot.{Slot}
use Rattle.driver_core.specs.Members.{Membership, joins}
use Rattle.driver_core.specs.Slot.{number_at}

-- A group is canceled.
abbrev pub is_canceled : Membership → ℕ → Bool
is_canceled m group = (group_at m.groups group).canceled

-- A submission is under a canceled group.
abbrev pub is_under_canceled : Membership → Option ℕ → Bool
is_under_canceled m None = false
is_under_canceled m (Some group) = is_canceled m group

-- A new operation joins the group that it was submitted under, if it was submitted under one.
abbrev pub joins_if : Membership → Option ℕ → ℕ → ℕ → Membership
joins_if m None number key = m
joins_if m (Some group) number key = joins m group number key

-- Each place is that of a live slot: the operation of its number is at its key, and is its user's.
abbrev pub AreInSlots : {B : Type 0} → Membership → map.FinMap nat_cmp (Slot B) → Type 0
AreInSlots m slots = (number : ℕ) (place : Place) → map.get m.places number ≡ Some place → number_at slots place.key ≡ Some number

-- Groups stand for those of a ledger: each has the mark of the ledger's group, and that group's members.
pub record GroupsStand (m : Membership) (L : Ledger) : Type 0 where
  pub marks : list_map (λ group. group.canceled) m.groups ≡ L.groups
  pub members : (group : ℕ) → (group_at m.groups group).members ≡ members L group
