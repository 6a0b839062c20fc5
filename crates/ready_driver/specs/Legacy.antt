-- A readiness driver over handles in memory, as plain data: it has no queue, and what it does is done at once. Cited by `readiness`, and by
-- the calls of `LegacyDriver` over such handles.
use Rattle.std.specs.Prelude.{ℕ, Bool, false, ◌==◌, if◌then◌else◌, List, [], ◌∷◌, ◌++◌, map}
use Rattle.std.specs.Prelude.{Option, Some, None, is_some, slice_get}
use Rattle.rent_buf.specs.Buffer.{Buffer}
use Rattle.rent_buf.specs.Parts.{Parts}
use Rattle.machine.specs.declared.request.Request.{Request}
use Rattle.machine.specs.declared.world.HandleState.{HandleState}
use Rattle.machine.specs.Lists.{numbers_where, has_number, passes}
use Rattle.machine.specs.Request.{named}
use Rattle.machine.specs.Ledger.{Ledger, Holder, User, ByOp, empty, is_marked}

-- An operation that isn't gone: the request that was submitted, the group that it was submitted under, and whether its cancel is asked for.
pub record LegacyOp : Type 0 where
  pub request : Request Buffer Parts
  pub group : Option ℕ
  pub asked : Bool

-- A driver: its operations by number, None for one that is gone; by handle, whether its user holds it, and what the handle has; the
-- cancellers, the cancel handles and the groups, as in a ledger.
pub record Legacy : Type 0 where
  pub slots : List (Option LegacyOp)
  pub users : List Bool
  pub world : List HandleState
  pub cancellers : List ℕ
  pub cancel_handles : List ℕ
  pub groups : List Bool

-- A new driver.
abbrev pub idle : Legacy
idle = record { slots = []; users = []; world = []; cancellers = []; cancel_handles = []; groups = [] }

-- What a driver and a ledger have alike: the handles, the cancellers, the cancel handles and the groups.
abbrev pub seen : Legacy → Ledger
seen D = record (empty 0) {
  world = D.world;
  cancellers = D.cancellers;
  cancel_handles = D.cancel_handles;
  groups = D.groups;
}

-- What was looked up, where it isn't gone.
abbrev pub slot_in : Option (Option LegacyOp) → Option LegacyOp
slot_in None = None
slot_in (Some slot) = slot

-- The operation of a number, where there is one that isn't gone.
abbrev pub slot_at : Legacy → ℕ → Option LegacyOp
slot_at D n = slot_in (slice_get D.slots n)

-- The operations that aren't gone, ascending.
abbrev pub live_at : Legacy → List ℕ
live_at D = numbers_where is_some 0 D.slots

-- The user holds a handle.
abbrev pub holds_at : Legacy → ℕ → Bool
holds_at D h = passes (λ is_user. is_user) (slice_get D.users h)

-- An operation was submitted under a group, and isn't gone.
abbrev pub is_under_at : ℕ → Option LegacyOp → Bool
is_under_at g None = false
is_under_at g (Some op) = passes (λ group. group == g) op.group

-- The members of a group: the operations under it, ascending. A marked group has none.
abbrev pub members_at : Legacy → ℕ → List ℕ
members_at D g = if is_marked (seen D) g then [] else numbers_where (is_under_at g) 0 D.slots

-- An operation names a handle, and isn't gone.
abbrev pub is_on : ℕ → Option LegacyOp → Bool
is_on h None = false
is_on h (Some op) = has_number h (named op.request)

-- The holders of a handle: the user, and the operations that name it.
abbrev pub holders_at : Legacy → ℕ → List Holder
holders_at D h = (if holds_at D h then User ∷ [] else []) ++ map ByOp (numbers_where (is_on h) 0 D.slots)
