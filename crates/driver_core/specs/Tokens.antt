-- What the user of a driver keeps by number: tokens of operations, cancellers and cancel handles. Cited by `Tokens`, and by each session.
use Rattle.std.specs.Prelude.{ℕ, ◌≡◌, ◌<◌, ◌↔◌, List, Option, Some, None, slice_get, vec_len, vec_capacity}
use Rattle.driver_core.specs.declared.op.Op.{Op}
use Rattle.driver_core.specs.declared.tokens.Tokens.{Tokens}
use Rattle.driver_core.specs.Op.{Holds, number_of}
use Rattle.driver_core.specs.Ops.{Ops}

-- The places of tokens, by number.
abbrev pub by_number : Tokens → List (Option Op)
by_number tokens = tokens.ops.items

-- The group of each canceller, by its number; None while its group is being canceled.
abbrev pub cancellers_in : Tokens → List (Option ℕ)
cancellers_in tokens = tokens.cancellers.items

-- The group of each cancel handle, by its number.
abbrev pub handles_in : Tokens → List ℕ
handles_in tokens = tokens.handles.items

-- The cancellers and cancel handles stay.
pub record KeepsGroups (old new : Tokens) : Type 0 where
  pub cancellers : cancellers_in new ≡ cancellers_in old
  pub handles : handles_in new ≡ handles_in old

-- What was looked up, where it is there and isn't empty.
abbrev pub flat : {A : Type 0} → Option (Option A) → Option A
flat None = None
flat (Some found) = found

-- What is kept at a number.
abbrev pub token_at : {A : Type 0} → List (Option A) → ℕ → Option A
token_at tokens n = flat (slice_get tokens n)

-- There is memory for one token more.
abbrev pub HasRoom : Tokens → Type 0
HasRoom tokens = vec_len tokens.ops < vec_capacity tokens.ops

-- There is memory for one canceller more.
abbrev pub HasCancellerRoom : Tokens → Type 0
HasCancellerRoom tokens = vec_len tokens.cancellers < vec_capacity tokens.cancellers

-- Tokens are those that operations hold, each under its number.
abbrev pub AreHeld : {B : Type 0} → List (Option Op) → Ops B → Type 0
AreHeld tokens ops = (n : ℕ) (op : Op) → (token_at tokens n ≡ Some op) ↔ (Holds ops op × (number_of op ≡ n))
