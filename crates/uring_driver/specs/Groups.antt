-- What a cancel of a group queues. Cited by `cancel` of the driver.
use Rattle.std.specs.Prelude.{ℕ, List, flat_map, option_map, option_to_list}
use Rattle.ring_core.specs.declared.entry.Entry.{Entry}
use Rattle.ring_core.specs.Entry.{cancel_entry}
use Rattle.driver_core.specs.Members.{Membership, key_at}

-- The cancel of an operation that is under a group, with the key of its slot. There is none of an operation that is under no group.
abbrev pub cancel_at : Membership → ℕ → List Entry
cancel_at m number = option_to_list (option_map (λ key. cancel_entry key number) (key_at m number))

-- The cancels of operations that are under groups, in order.
abbrev pub cancels_of : Membership → List ℕ → List Entry
cancels_of m numbers = flat_map (cancel_at m) numbers
