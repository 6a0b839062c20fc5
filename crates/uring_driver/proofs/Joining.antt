-- What an operation that joins may hold, and what holds of every driver's handles once it did.
use Rattle.std.proofs.Common.{◌≡◌, ◌<◌, ◌≤◌, ◌+◌, inl, inr, ℕ, Bool, true, false, List, [], ◌∷◌, None, refl, sym, ◌∙◌, ap, subst, arith}
use Rattle.std.specs.Prelude.{IsSome, unwrap_or}
use Rattle.std.specs.Ordering.{nat_cmp}
use Rattle.std.specs.FinMap.{FinMap, get, insert, len}
use Rattle.handle_core.specs.Table.{nobody}
use Rattle.rent_buf.specs.Parts.{Parts}
use Rattle.op_slots.specs.declared.lifecycle.Lifecycle.TheVariants.{Submitted as Fresh}
use Rattle.machine.specs.Lists.{has_number}
use Rattle.machine.specs.Lists.{one_if}
use Rattle.machine.specs.Request.{named, makes}
use Rattle.machine.specs.declared.request.Request.{Request}
use Rattle.machine.proofs.Leaving.{named-ascends, has-other}
use Rattle.machine.proofs.Numbers.{and-left, and-right, same-or-not, some-of}
use Rattle.driver_core.specs.declared.operations.TheConstants.{MOST_GIVEN}
use Rattle.driver_core.specs.Holds.{CanJoin}
use Rattle.driver_core.specs.declared.slot.Slot.{Slot}
use Rattle.driver_core.proofs.Distinct.{ascends-distinct}
use Rattle.driver_core.proofs.Holds.{can-join, ops-joined, len-joined}
use Rattle.uring_driver.specs.Holding.{Holding, places, is_users, IsSameHolding}
use Rattle.uring_driver.specs.Making.{KeepsHolding, op_joined}
use Rattle.uring_driver.specs.State.{AreHolding, IsSound}
use Rattle.uring_driver.specs.Uring.{holds_all, holds_handle}
use Rattle.uring_driver.specs.declared.uring.IoUringDriver.{IoUringDriver}
use Rattle.driver_core.proofs.Holds.{held-user}
use Rattle.uring_driver.proofs.Holdings.{holding-joined, holding-reserved}
use Rattle.uring_driver.proofs.Sound.{sound-keeps}

-- A user that holds these handles holds each.
holds-each : {R B : Type 0} (d : IoUringDriver R B) (handles : List ℕ) → holds_all d handles ≡ true → (k : ℕ) →
    has_number k handles ≡ true → is_users d.holding k ≡ true
holds-each d [] all k there = (let f : ⊥ = cc in absurd f)
holds-each d (h ∷ handles) all k there = elim (same-or-not k h) [
  | inl e ↦ ap (is_users d.holding) e ∙ and-left (holds_handle d h) (holds_all d handles) all
  | inr e ↦ (
      holds-each d handles (and-right (holds_handle d h) (holds_all d handles) all) k
      (sym (has-other k h handles e) ∙ there))
]

-- Where memory was reserved at most, the holders, the closes and the makers are the same.
pub keeps-same : (maker : Bool) (old new : Holding) → KeepsHolding maker old new → IsSameHolding old new
keeps-same true old new same = same
keeps-same false old new is = record {
  table = ap (λ x. x.table.holders) is;
  closing = ap (λ x. x.closing.holders) is;
  makers = ap (λ x. x.makers) is;
}

-- So are those that are held or may be made.
pub places-same : {old new : Holding} → IsSameHolding old new → places new ≡ places old
places-same {old} {new} same = (let a = ap len same.table in let b = same.makers in omega (arith, a, b))

-- What holds of every driver holds where memory was reserved at most.
pub kept-reserved : {B : Type 0} (room room' : ℕ) (slots : FinMap nat_cmp (Slot B)) (given : ℕ) (old new : Holding) →
    IsSound room slots (places old) × AreHolding old slots given → IsSameHolding old new → room ≤ room' →
    IsSound room' slots (places new) × AreHolding new slots given
kept-reserved room room' slots given old new kept same more = (
  sound-keeps room room' slots slots (places old) (places new) kept.0 (let a = places-same same in omega (arith, a, more)) (λ key. refl),
  holding-reserved old new slots given same kept.1,
)

-- An operation may hold the handles that its user holds, where few operations were submitted, and memory was reserved at most.
pub may-join : {R B : Type 0} (d : IoUringDriver R B) (request : Request B Parts) (mid : Holding) → holds_all d (named request) ≡ true →
    AreHolding d.holding d.slots.values d.given → d.given < MOST_GIVEN → IsSameHolding d.holding mid → CanJoin mid.table (named request)
may-join d request mid all are few same =
    can-join mid.table (named request) (ascends-distinct 0 (named request) (named-ascends request))
    (λ k there.
    let e = some-of (get d.holding.table.holders k) (held-user d.holding.table k (holds-each d (named request) all k there)) in
    subst (λ m. IsSome (get m k)) (sym same.table) (subst (λ o. IsSome o) (sym e.1) refl))
    (λ k there. (
    let a = are.few k in
    let b = ap (λ m. (unwrap_or (get m k) nobody).operations) same.table in
    omega (arith, a, b, few)))

-- As many handles are held as before, and one more may be made where the operation may make one.
pub places-joined : (holding : Holding) (handles : List ℕ) (maker : Bool) → CanJoin holding.table handles →
    places (op_joined holding handles maker) ≡ places holding + one_if maker
places-joined holding handles maker can = (let a = len-joined holding.table handles can in omega (arith, a))

-- Once an operation joined, in memory that was reserved, it is counted.
pub holding-submitted : {B : Type 0} (old mid : Holding) (slots slots' : FinMap nat_cmp (Slot B)) (given key serial : ℕ)
    (request : Request B Parts) → AreHolding old slots given → IsSameHolding old mid → get slots key ≡ None →
    slots' ≡ insert slots key (record { serial = serial; request = request; life = Fresh }) →
    AreHolding (op_joined mid (named request) (makes request)) slots' (given + 1)
holding-submitted old mid slots slots' given key serial request are same free is =
    holding-joined mid (op_joined mid (named request) (makes request)) slots slots' given key
    (record { serial = serial; request = request; life = Fresh }) (holding-reserved old mid slots given same are) free is refl
    (ops-joined mid.table (named request) (ascends-distinct 0 (named request) (named-ascends request))) refl
