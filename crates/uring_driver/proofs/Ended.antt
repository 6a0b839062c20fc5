-- What the end of an operation in flight does to who holds handles: it may have made one.
use Rattle.std.proofs.Common.{◌≡◌, ◌∙◌, inl, inr, ℕ, ◌+◌, ◌-◌, ◌<◌, ◌≤◌, Bool, true, false, not, List, [], ◌∷◌, length}
use Rattle.std.proofs.Common.{Option, Some, None, refl, sym, ap, arith, length-append}
use Rattle.std.specs.Prelude.{◌==◌, ◌||◌, nat_le, is_some, unwrap_or, option_to_list}
use Rattle.std.proofs.lemmas.Bool.{or_parts, not-false}
use Rattle.std.proofs.lemmas.Bool.Decides.{nat_tests}
use Rattle.std.specs.FinMap.{get, insert, len}
use Rattle.handle_core.specs.declared.table.Holders.{Holders}
use Rattle.handle_core.specs.Table.{Table, AreHeld, holders_at, with_holders, nobody, by_operation}
use Rattle.machine.specs.declared.world.TheConstants.{MOST_HANDLES}
use Rattle.machine.specs.Lists.{one_if}
use Rattle.machine.proofs.Numbers.{same-or-not, equal-other}
use Rattle.driver_core.specs.Holds.{is_nobody, without_ops, unheld_by, CanLeave}
use Rattle.driver_core.proofs.Distinct.{equal-is}
use Rattle.driver_core.proofs.Holds.{nobody-is, with-same, with-other, len-left}
use Rattle.driver_core.proofs.Maps.{len-put, len-new}
use Rattle.uring_driver.specs.Holding.{Holding, closes, places, with_added}
use Rattle.uring_driver.specs.Making.{kept_if, lost_if, op_closes, op_ended, is_old, refuses_made}

-- What a handle that can be new isn't: nobody holds it, it isn't closing, and its number is a handle's.
pub not-old : (holding : Holding) (h : ℕ) → is_old holding h ≡ false →
    (is_nobody (holders_at holding.table h) ≡ true) × (closes holding h ≡ false) × (h < MOST_HANDLES)
not-old holding h new =
    let a = or_parts (not (is_nobody (holders_at holding.table h))) (closes holding h || nat_le MOST_HANDLES h) new in
    let b = or_parts (closes holding h) (nat_le MOST_HANDLES h) a.1 in
    (not-false (is_nobody (holders_at holding.table h)) a.0, b.0, below b.1)
  where
    below : nat_le MOST_HANDLES h ≡ false → h < MOST_HANDLES
    below e = grind (arith, nat_tests)

-- Such a handle can be new.
pub is-new : (holding : Holding) (h : ℕ) → is_nobody (holders_at holding.table h) ≡ true → closes holding h ≡ false → h < MOST_HANDLES →
    is_old holding h ≡ false
is-new holding h none apart below =
    ap (λ b. not b || (closes holding h || nat_le MOST_HANDLES h)) none ∙ ap (λ b. b || nat_le MOST_HANDLES h) apart ∙ fits
  where
    fits : nat_le MOST_HANDLES h ≡ false
    fits = grind (arith, nat_tests)

-- Of what isn't refused the operation may make handles, and the handle can be new.
pub not-refused : (holding : Holding) (maker : Bool) (h : ℕ) → refuses_made holding maker (Some h) ≡ false →
    (maker ≡ true) × (is_old holding h ≡ false)
not-refused holding true h takes = (refl, takes)
not-refused holding false h takes = (let f : ⊥ = cc in absurd f)

-- A handle that nobody holds isn't in a table in which each has a holder.
pub unheld-none : (table : Table) (h : ℕ) → AreHeld table → is_nobody (holders_at table h) ≡ true → is_some (get table.holders h) ≡ false
unheld-none table h held none = by (get table.holders h) refl
  where
    by : (o : Option Holders) → get table.holders h ≡ o → is_some o ≡ false
    by None e = refl
    by (Some x) e =
        let some = held h x e in
        let is : x ≡ nobody = sym (ap (λ o. unwrap_or o nobody) e) ∙ nobody-is (holders_at table h) none in
        let a = ap (λ y. y.user) is in
        let b = ap (λ y. y.operations) is in
        absurd (omega (arith, some, a, b))

-- A handle that nobody held, and one operation holds now, is held by one operation more, and each other one by as many.
pub ops-added : (table : Table) (h : ℕ) → is_nobody (holders_at table h) ≡ true → (k : ℕ) →
    (holders_at (with_added table (h ∷ [])) k).operations ≡ (holders_at table k).operations + one_if (k == h)
ops-added table h none k = elim (same-or-not k h) [
  | inl e ↦ (
      let a = ap (λ x. (holders_at (with_added table (h ∷ [])) x).operations) e ∙ ap (λ x. x.operations) (with-same table h by_operation) in
      let b = ap (λ x. (holders_at table x).operations) e ∙ ap (λ x. x.operations) (nobody-is (holders_at table h) none) in
      let c = ap one_if (equal-is k h e) in
      omega (arith, a, b, c))
  | inr e ↦ (
      let a = ap (λ x. x.operations) (with-other table h by_operation k e) in
      let c = ap one_if (equal-other k h e) in
      omega (arith, a, c))
]

-- How often the user holds a handle stays.
pub users-added : (table : Table) (handles : List ℕ) → ((h : ℕ) → handles ≡ h ∷ [] → is_nobody (holders_at table h) ≡ true) → (k : ℕ) →
    length handles ≤ 1 → (holders_at (with_added table handles) k).user ≡ (holders_at table k).user
users-added table [] none k few = refl
users-added table (h ∷ []) none k few = elim (same-or-not k h) [
  | inl e ↦ (
      ap (λ x. (holders_at (with_added table (h ∷ [])) x).user) e ∙ ap (λ x. x.user) (with-same table h by_operation)
      ∙ sym (ap (λ x. x.user) (nobody-is (holders_at table h) (none h refl))) ∙ ap (λ x. (holders_at table x).user) (sym e))
  | inr e ↦ ap (λ x. x.user) (with-other table h by_operation k e)
]
users-added table (h ∷ g ∷ handles) none k few = absurd (omega (arith, few))

-- No more handles are in a table than were, and joined it.
pub len-added : (table : Table) (handles : List ℕ) → len (with_added table handles).holders ≤ len table.holders + length handles
len-added table [] = omega arith
len-added table (h ∷ handles) =
    let rest = len-added (record (with_holders table h by_operation) { spare = table.spare - 1 }) handles in
    let one = most (get table.holders h) refl in
    omega (arith, rest, one)
  where
    most : (o : Option Holders) → get table.holders h ≡ o → len (insert table.holders h by_operation) ≤ len table.holders + 1
    most None e = (let a = len-new table.holders h by_operation e in omega (arith, a))
    most (Some x) e = (let a = len-put table.holders h by_operation x e in omega (arith, a))

-- What an operation made is kept, or lost.
pub kept-or-lost : (dropped : Bool) (made : Option ℕ) → length (kept_if dropped made) + length (lost_if dropped made)
    ≡ length (option_to_list made)
kept-or-lost true made = omega arith
kept-or-lost false made = omega arith

-- An operation that isn't refused what it made makes no more than it may.
pub made-few : (holding : Holding) (maker : Bool) (made : Option ℕ) → refuses_made holding maker made ≡ false →
    length (option_to_list made) ≤ one_if maker
made-few holding maker None takes = omega arith
made-few holding maker (Some h) takes = (let a = ap one_if (not-refused holding maker h takes).0 in omega (arith, a))

-- No more handles are held or may be made once an operation ended, with those that are closed by that.
pub places-ended : (holding : Holding) (names : List ℕ) (maker : Bool) (kept lost : List ℕ) → CanLeave holding.table names →
    one_if maker ≤ holding.makers → length kept + length lost ≤ one_if maker →
    places (op_ended holding names maker kept lost) + length (op_closes holding.table names lost) ≤ places holding
places-ended holding names maker kept lost may some few =
    let a = len-added (without_ops holding.table names) kept in
    let b = len-left holding.table names may in
    let c = length-append (unheld_by holding.table names) lost in
    omega (arith, a, b, c, some, few)
