-- The cancel groups of a driver, and where the operations under them are. Cited by `Members`.
use Rattle.std.specs.Prelude.{ℕ, ◌≡◌, ◌<◌, Bool, false, List, [], ◌∷◌, ◌++◌, length, slice_set, Option, None, Some, IsSome, option_map}
use Rattle.std.specs.Prelude.{refl}
use Rattle.std.specs.List.{All, Contains}
use Rattle.std.specs.Ordering.{nat_cmp}
use Rattle.std.specs.FinMap as map
use Rattle.std.specs.Coded.{Coded, code_by, coded×, coded_ℕ, coded_list, coded_bool}
use Rattle.cancel_core.specs.Group.{Group, fresh, canceled, group_at, with_members, joined, without}
use Rattle.driver_core.specs.declared.members.places.Place.{Place}

-- The groups that were made, and the place of each operation that joined one and hasn't left it, by its number.
pub record Membership : Type 0 where
  pub groups : List Group
  pub places : map.FinMap nat_cmp Place

-- A place is stored as its key and its group.
abbrev pub place_code : Coded Place
place_code = code_by (ℕ × ℕ) (coded× coded_ℕ coded_ℕ) (λ p. (p.key, p.group)) (λ t. record { key = t.0; group = t.1 }) (λ _. refl)

-- Places are stored by their numbers.
abbrev pub places_code : Coded (map.FinMap nat_cmp Place)
places_code = map.code coded_ℕ place_code

-- A group is stored as its members and its mark.
abbrev pub group_code : Coded Group
group_code =
    code_by (List ℕ × Bool) (coded× (coded_list coded_ℕ) coded_bool) (λ g. (g.members, g.canceled))
    (λ t. record { members = t.0; canceled = t.1 }) (λ _. refl)

-- Both are stored as a pair.
abbrev pub membership_code : Coded Membership
membership_code =
    code_by (List Group × map.FinMap nat_cmp Place) (coded× (coded_list group_code) places_code) (λ m. (m.groups, m.places))
    (λ t. record { groups = t.0; places = t.1 }) (λ _. refl)

-- No groups, and no operations under one.
abbrev pub none : Membership
none = record { groups = []; places = map.empty }

-- The key of the slot of an operation that is under a group.
abbrev pub key_at : Membership → ℕ → Option ℕ
key_at m number = option_map (λ place. place.key) (map.get m.places number)

-- The group that an operation joined and hasn't left.
abbrev pub group_over : Membership → ℕ → Option ℕ
group_over m number = option_map (λ place. place.group) (map.get m.places number)

-- An operation is a member of a group.
abbrev pub IsMember : Membership → ℕ → ℕ → Type 0
IsMember m group number = Contains (group_at m.groups group).members number

-- An operation is under no group: it has no place, and no group has it as a member.
abbrev pub IsUnderNone : Membership → ℕ → Type 0
IsUnderNone m number = (map.get m.places number ≡ None) × ((group : ℕ) → IsMember m group number → ⊥)

-- Each of some operations has a key.
abbrev pub HaveKeys : Membership → List ℕ → Type 0
HaveKeys m numbers = All (λ number. IsSome (key_at m number)) numbers

-- A member of a group has a place with that group. A place is with a group that was made, and its operation is a member of that group,
-- unless the group is canceled.
pub record ArePlaced (m : Membership) : Type 0 where
  pub members : (group number : ℕ) → IsMember m group number → group_over m number ≡ Some group
  pub made : (group number : ℕ) → group_over m number ≡ Some group → group < length m.groups
  pub within : (group number : ℕ) → group_over m number ≡ Some group → (group_at m.groups group).canceled ≡ false → IsMember m group number

-- One more group.
abbrev pub with_fresh : Membership → Membership
with_fresh m = record m { groups = m.groups ++ fresh ∷ [] }

-- An operation joins a group: it is a member there, and its place is the key and the group.
abbrev pub joins : Membership → ℕ → ℕ → ℕ → Membership
joins m group number key =
    record {
      groups = with_members m.groups group (joined (group_at m.groups group).members number);
      places = map.insert m.places number (record { key = key; group = group });
    }

-- Places of which that of a number has another key, where there is one.
abbrev pub keyed_at : map.FinMap nat_cmp Place → ℕ → ℕ → Option Place → map.FinMap nat_cmp Place
keyed_at places number key None = places
keyed_at places number key (Some place) = map.insert places number (record place { key = key })

abbrev pub keyed : map.FinMap nat_cmp Place → ℕ → ℕ → map.FinMap nat_cmp Place
keyed places number key = keyed_at places number key (map.get places number)

-- The slot of an operation is at another key. With no place nothing changes.
abbrev pub moves : Membership → ℕ → ℕ → Membership
moves m number key = record m { places = keyed m.places number key }

-- An operation leaves the group of its place: it is no member there, and has no place. With no place nothing changes.
abbrev pub leaves_from : Membership → ℕ → Option Place → Membership
leaves_from m number None = m
leaves_from m number (Some place) =
    record {
      groups = with_members m.groups place.group (without (group_at m.groups place.group).members number);
      places = map.remove m.places number;
    }

-- An operation leaves its group, if it is under one.
abbrev pub leaves : Membership → ℕ → Membership
leaves m number = leaves_from m number (map.get m.places number)

-- A group is canceled, and one more is made. All places stay.
abbrev pub cancels : Membership → ℕ → Membership
cancels m group = record m { groups = slice_set m.groups group canceled ++ fresh ∷ [] }
