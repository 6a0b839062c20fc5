-- What a token is worth, and which tokens a call keeps. Cited by `Op`, by `Operations`, and by each driver.
use Rattle.std.specs.Prelude.{ℕ, ◌≡◌, ◌≢◌, ◌+◌, ◌↔◌, ◌⊎◌, Some}
use Rattle.driver_core.specs.declared.op.Op.{Op}
use Rattle.driver_core.specs.declared.op.PollOp.{PollOp}
use Rattle.driver_core.specs.declared.op.PollOp.TheVariants.{Pending, Ready}
use Rattle.driver_core.specs.Slot.{number_at}
use Rattle.driver_core.specs.Ops.{Ops}

-- The number of a token's operation.
abbrev pub number_of : Op → ℕ
number_of op = op.number

-- The key of its slot.
abbrev pub key_of : Op → ℕ
key_of op = op.key

-- Operations hold a token: the slot at its key has its number, and its operation wasn't dropped.
abbrev pub Holds : {B : Type 0} → Ops B → Op → Type 0
Holds ops op = number_at ops.slots.values op.key ≡ Some (number_of op)

-- No token is held.
abbrev pub HoldsNone : {B : Type 0} → Ops B → Type 0
HoldsNone ops = (op : Op) → Holds ops op → ⊥

-- A call keeps every token, and makes none.
abbrev pub KeepsTokens : {B : Type 0} → Ops B → Ops B → Type 0
KeepsTokens old new = (op : Op) → Holds old op ↔ Holds new op

-- A call spends one token, keeps every other, and makes none.
abbrev pub DropsToken : {B : Type 0} → Ops B → Ops B → Op → Type 0
DropsToken old new op = (other : Op) → Holds new other ↔ (Holds old other × (other ≢ op))

-- A call adds one token, of the next number, keeps every other, and makes no other.
pub record AddsToken {B : Type 0} (old new : Ops B) (op : Op) : Type 0 where
  pub this : Holds new op
  pub kept : (other : Op) → Holds old other → Holds new other
  pub only : (other : Op) → Holds new other → (other ≡ op) ⊎ Holds old other
  pub number : number_of op ≡ old.given
  pub next : new.given ≡ old.given + 1

-- A poll that is pending returns its token, and keeps all. One that is ready keeps all but this one.
abbrev pub PollsTokens : {B : Type 0} → Ops B → Ops B → Op → PollOp B → Type 0
PollsTokens old new op (Pending back) = (back ≡ op) × KeepsTokens old new
PollsTokens old new op (Ready done) = DropsToken old new op

-- The answer is Pending.
abbrev pub IsPending : {B : Type 0} → PollOp B → Type 0
IsPending (Pending back) = Unit {0}
IsPending (Ready done) = ⊥
