-- What tables of holders are, handle by handle, once operations joined or left.
use Rattle.std.proofs.Common.{◌≡◌, ◌≢◌, ◌∙◌, inl, inr, ℕ, ◌+◌, ◌<◌, Bool, true, false, not, List, [], ◌∷◌, length, Option, Some, None}
use Rattle.std.proofs.Common.{refl, sym, ap, subst, arith}
use Rattle.std.specs.Prelude.{◌==◌, is_some, IsSome, unwrap_or, nat_lt}
use Rattle.std.proofs.lemmas.Bool.{ltb-true}
use Rattle.std.proofs.lemmas.Bool.Decides.{nat_tests}
use Rattle.std.specs.FinMap.{get, len}
use Rattle.handle_core.specs.declared.table.TheConstants.{MAX_HOLDS}
use Rattle.handle_core.specs.declared.table.Holders.{Holders}
use Rattle.handle_core.specs.Table.{Table, IsHeld, holders_at, with_holders, with_operation, without_operation, nobody, handed}
use Rattle.machine.specs.Lists.{has_number}
use Rattle.machine.specs.Lists.{one_if}
use Rattle.machine.proofs.Numbers.{same-or-not, equal-other}
use Rattle.machine.proofs.Leaving.{has-first, has-other}
use Rattle.driver_core.proofs.Distinct.{Distinct, first-other, equal-is}
use Rattle.driver_core.specs.Holds.{is_nobody, settled, settle_if, left_holders, with_ops, without_ops, front_if, unheld_by, CanJoin}
use Rattle.driver_core.specs.Holds.{CanLeave}
use Rattle.driver_core.proofs.Maps.{put-same, put-other, gone-same, gone-other, len-put, len-gone, len-some}

-- Holders of a handle that were written are its holders.
pub with-same : (table : Table) (h : ℕ) (held : Holders) → holders_at (with_holders table h held) h ≡ held
with-same table h held = ap (λ o. unwrap_or o nobody) (put-same table.holders h held)

-- They leave those of another handle.
pub with-other : (table : Table) (h : ℕ) (held : Holders) (k : ℕ) → k ≢ h → holders_at (with_holders table h held) k ≡ holders_at table k
with-other table h held k e = ap (λ o. unwrap_or o nobody) (put-other table.holders h held k e)

-- Nobody is among holders of whom nobody is.
pub nobody-is : (held : Holders) → is_nobody held ≡ true → held ≡ nobody
nobody-is held none = (
    let a : held.user ≡ 0 = grind (arith, nat_tests) in
    let b : held.operations ≡ 0 = grind (arith, nat_tests) in
    ap (λ x. record held { user = x }) a ∙ ap (λ x. record { user = 0; operations = x }) b)

-- Holders on which a handle settled, by whether somebody is among them.
settled-by : (table : Table) (h : ℕ) (held : Holders) (b : Bool) → (b ≡ true → held ≡ nobody) →
    holders_at (settle_if b table h held) h ≡ held
settled-by table h held true none = ap (λ o. unwrap_or o nobody) (gone-same table.holders h) ∙ sym (none refl)
settled-by table h held false none = with-same table h held

-- The holders on which a handle settled are its holders.
pub settled-same : (table : Table) (h : ℕ) (held : Holders) → holders_at (settled table h held) h ≡ held
settled-same table h held = settled-by table h held (is_nobody held) (nobody-is held)

-- Settling one handle leaves the holders of each other one, whether it leaves the table or not.
settled-beside : (table : Table) (h : ℕ) (held : Holders) (b : Bool) (k : ℕ) → k ≢ h →
    holders_at (settle_if b table h held) k ≡ holders_at table k
settled-beside table h held true k e = ap (λ o. unwrap_or o nobody) (gone-other table.holders h k e)
settled-beside table h held false k e = with-other table h held k e

-- They leave those of another handle.
pub settled-other : (table : Table) (h : ℕ) (held : Holders) (k : ℕ) → k ≢ h → holders_at (settled table h held) k ≡ holders_at table k
settled-other table h held k e = settled-beside table h held (is_nobody held) k e

-- An operation that joined leaves how often the user holds each handle.
pub user-joined : (table : Table) (handles : List ℕ) (k : ℕ) → (holders_at (with_ops table handles) k).user ≡ (holders_at table k).user
user-joined table [] k = refl
user-joined table (h ∷ handles) k =
    user-joined (with_holders table h (with_operation (holders_at table h))) handles k ∙ (elim (same-or-not k h) [
      | inl e ↦ (
          ap (λ x. (holders_at (with_holders table h (with_operation (holders_at table h))) x).user) e
          ∙ ap (λ x. x.user) (with-same table h (with_operation (holders_at table h))) ∙ ap (λ x. (holders_at table x).user) (sym e))
      | inr e ↦ ap (λ x. x.user) (with-other table h (with_operation (holders_at table h)) k e)
    ])

-- So does one that left.
pub user-left : (table : Table) (handles : List ℕ) (k : ℕ) → (holders_at (without_ops table handles) k).user ≡ (holders_at table k).user
user-left table [] k = refl
user-left table (h ∷ handles) k =
    user-left (settled table h (left_holders table h)) handles k ∙ (elim (same-or-not k h) [
      | inl e ↦ (
          ap (λ x. (holders_at (settled table h (left_holders table h)) x).user) e
          ∙ ap (λ x. x.user) (settled-same table h (left_holders table h)) ∙ ap (λ x. (holders_at table x).user) (sym e))
      | inr e ↦ ap (λ x. x.user) (settled-other table h (left_holders table h) k e)
    ])

-- A handle that isn't among those that an operation names has the holders that it had, once the operation joined.
pub joined-other : (table : Table) (handles : List ℕ) (k : ℕ) → has_number k handles ≡ false →
    holders_at (with_ops table handles) k ≡ holders_at table k
joined-other table [] k not = refl
joined-other table (h ∷ handles) k not =
    elim (same-or-not k h) [
      | inl e ↦ absurd (let a : ◌≡◌ {A = Bool} true false = sym (ap (λ x. has_number x (h ∷ handles)) e ∙ has-first h handles) ∙ not in cc)
      | inr e ↦ (
          joined-other (with_holders table h (with_operation (holders_at table h))) handles k (sym (has-other k h handles e) ∙ not)
          ∙ with-other table h (with_operation (holders_at table h)) k e)
    ]

-- The same, once it left.
pub left-other : (table : Table) (handles : List ℕ) (k : ℕ) → has_number k handles ≡ false →
    holders_at (without_ops table handles) k ≡ holders_at table k
left-other table [] k not = refl
left-other table (h ∷ handles) k not =
    elim (same-or-not k h) [
      | inl e ↦ absurd (let a : ◌≡◌ {A = Bool} true false = sym (ap (λ x. has_number x (h ∷ handles)) e ∙ has-first h handles) ∙ not in cc)
      | inr e ↦ (
          left-other (settled table h (left_holders table h)) handles k (sym (has-other k h handles e) ∙ not)
          ∙ settled-other table h (left_holders table h) k e)
    ]

-- A handle among those that an operation names, which are distinct, is held once more once the operation joined.
pub joined-one : (table : Table) (handles : List ℕ) → Distinct handles → (k : ℕ) → has_number k handles ≡ true →
    holders_at (with_ops table handles) k ≡ with_operation (holders_at table k)
joined-one table [] apart k there = (let f : ⊥ = cc in absurd f)
joined-one table (h ∷ handles) apart k there =
    elim (same-or-not k h) [
      | inl e ↦ (
          joined-other (with_holders table h (with_operation (holders_at table h))) handles k
          (ap (λ x. has_number x handles) e ∙ apart.0)
          ∙ ap (holders_at (with_holders table h (with_operation (holders_at table h)))) e
          ∙ with-same table h (with_operation (holders_at table h)) ∙ ap (λ x. with_operation (holders_at table x)) (sym e))
      | inr e ↦ (
          joined-one (with_holders table h (with_operation (holders_at table h))) handles apart.1 k
          (sym (has-other k h handles e) ∙ there)
          ∙ ap with_operation (with-other table h (with_operation (holders_at table h)) k e))
    ]

-- It is held once less once the operation left.
pub left-one : (table : Table) (handles : List ℕ) → Distinct handles → (k : ℕ) → has_number k handles ≡ true →
    holders_at (without_ops table handles) k ≡ left_holders table k
left-one table [] apart k there = (let f : ⊥ = cc in absurd f)
left-one table (h ∷ handles) apart k there =
    elim (same-or-not k h) [
      | inl e ↦ (
          left-other (settled table h (left_holders table h)) handles k
          (ap (λ x. has_number x handles) e ∙ apart.0)
          ∙ ap (holders_at (settled table h (left_holders table h))) e
          ∙ settled-same table h (left_holders table h) ∙ ap (left_holders table) (sym e))
      | inr e ↦ (
          left-one (settled table h (left_holders table h)) handles apart.1 k (sym (has-other k h handles e) ∙ there)
          ∙ ap without_operation (settled-other table h (left_holders table h) k e))
    ]

-- An operation that held handles which are distinct, each held by an operation, may leave.
pub can-leave : (table : Table) (handles : List ℕ) → Distinct handles →
    ((k : ℕ) → has_number k handles ≡ true → 0 < (holders_at table k).operations) → CanLeave table handles
can-leave table [] apart held = tt
can-leave table (h ∷ handles) apart held = (
  held h (has-first h handles),
  can-leave (settled table h (left_holders table h)) handles apart.1 (λ k there.
      let e = first-other h handles apart k there in
      subst (λ x. 0 < x.operations) (sym (settled-other table h (left_holders table h) k e)) (held k (has-other k h handles e ∙ there))),
)

-- An operation may join handles that are distinct, are held, and are held by fewer operations than the bound.
pub can-join : (table : Table) (handles : List ℕ) → Distinct handles → ((k : ℕ) → has_number k handles ≡ true → IsHeld table k) →
    ((k : ℕ) → has_number k handles ≡ true → (holders_at table k).operations < MAX_HOLDS) → CanJoin table handles
can-join table [] apart held few = tt
can-join table (h ∷ handles) apart held few = (
  held h (has-first h handles),
  few h (has-first h handles),
  can-join (with_holders table h (with_operation (holders_at table h))) handles apart.1
      (λ k there.
      let e = first-other h handles apart k there in
      subst (λ o. IsSome o) (sym (put-other table.holders h (with_operation (holders_at table h)) k e))
      (held k (has-other k h handles e ∙ there)))
      (λ k there.
      let e = first-other h handles apart k there in
      subst (λ x. x.operations < MAX_HOLDS) (sym (with-other table h (with_operation (holders_at table h)) k e))
      (few k (has-other k h handles e ∙ there))),
)

-- How often operations hold a handle of those that are distinct, once an operation joined.
pub ops-joined : (table : Table) (handles : List ℕ) → Distinct handles → (k : ℕ) →
    (holders_at (with_ops table handles) k).operations ≡ (holders_at table k).operations + one_if (has_number k handles)
ops-joined table handles apart k = by (has_number k handles) refl
  where
    by : (b : Bool) → has_number k handles ≡ b →
        (holders_at (with_ops table handles) k).operations ≡ (holders_at table k).operations + one_if b
    by true is = ap (λ x. x.operations) (joined-one table handles apart k is)
    by false is = (let a = ap (λ x. x.operations) (joined-other table handles k is) in omega (arith, a))

-- And once one left that held them.
pub ops-left : (table : Table) (handles : List ℕ) → Distinct handles →
    ((k : ℕ) → has_number k handles ≡ true → 0 < (holders_at table k).operations) → (k : ℕ) →
    (holders_at (without_ops table handles) k).operations + one_if (has_number k handles) ≡ (holders_at table k).operations
ops-left table handles apart held k = by (has_number k handles) refl
  where
    by : (b : Bool) → has_number k handles ≡ b →
        (holders_at (without_ops table handles) k).operations + one_if b ≡ (holders_at table k).operations
    by true is = (let a = ap (λ x. x.operations) (left-one table handles apart k is) in let b = held k is in omega (arith, a, b))
    by false is = (let a = ap (λ x. x.operations) (left-other table handles k is) in omega (arith, a))

-- How often operations hold a handle, once one of them handed it, or another one, over.
pub ops-handed : (table : Table) (h : ℕ) → 0 < (holders_at table h).operations → (k : ℕ) →
    (holders_at (with_holders table h (handed (holders_at table h))) k).operations + one_if (k == h) ≡ (holders_at table k).operations
ops-handed table h some k = elim (same-or-not k h) [
  | inl e ↦ (
      let a = ap (λ x. (holders_at (with_holders table h (handed (holders_at table h))) x).operations) e
      ∙ ap (λ x. x.operations) (with-same table h (handed (holders_at table h))) in
      let b = ap (λ x. (holders_at table x).operations) e in
      let c = ap one_if (equal-is k h e) in
      omega (arith, a, b, c, some))
  | inr e ↦ (
      let a = ap (λ x. x.operations) (with-other table h (handed (holders_at table h)) k e) in
      let b = ap one_if (equal-other k h e) in
      omega (arith, a, b))
]

-- A handle that somebody holds has an entry.
entry-of : (o : Option Holders) → 0 < (unwrap_or o nobody).user + (unwrap_or o nobody).operations → (x : Holders) × (o ≡ Some x)
entry-of None some = absurd (omega arith)
entry-of (Some x) some = (x, refl)

-- So many handles are in the table as before, once an operation joined.
pub len-joined : (table : Table) (handles : List ℕ) → CanJoin table handles → len (with_ops table handles).holders ≡ len table.holders
len-joined table [] may = refl
len-joined table (h ∷ handles) may =
    let was = some-holders (get table.holders h) may.0 in
    len-joined (with_holders table h (with_operation (holders_at table h))) handles may.2
    ∙ len-put table.holders h (with_operation (holders_at table h)) was.0 was.1
  where
    some-holders : (o : Option Holders) → IsSome o → (x : Holders) × (o ≡ Some x)
    some-holders None h = (let f : ⊥ = cc in absurd f)
    some-holders (Some x) h = (x, refl)

-- So many handles are in the table once one settled on holders: one fewer where that is nobody.
len-settled : (table : Table) (h : ℕ) (held x : Holders) (b : Bool) (handles : List ℕ) → get table.holders h ≡ Some x →
    0 < len table.holders → len (settle_if b table h held).holders + length (front_if b h handles) ≡ len table.holders + length handles
len-settled table h held x true handles there some = (let a = len-gone table.holders h x there in omega (arith, a, some))
len-settled table h held x false handles there some = (let a = len-put table.holders h held x there in omega (arith, a))

-- Once an operation left, so many handles fewer are in the table as nobody holds any more.
pub len-left : (table : Table) (handles : List ℕ) → CanLeave table handles →
    len (without_ops table handles).holders + length (unheld_by table handles) ≡ len table.holders
len-left table [] may = omega arith
len-left table (h ∷ handles) may =
    let was = entry-of (get table.holders h) (omega (arith, may.0)) in
    let some = len-some table.holders h (ap is_some was.1) in
    let rest = len-left (settled table h (left_holders table h)) handles may.1 in
    let here = len-settled table h (left_holders table h) was.0 (is_nobody (left_holders table h))
    (unheld_by (settled table h (left_holders table h)) handles) was.1 some in
    omega (arith, rest, here)

-- So many handles are in the table as before, once an operation handed one over.
pub len-handed : (table : Table) (h : ℕ) → 0 < (holders_at table h).operations →
    len (with_holders table h (handed (holders_at table h))).holders ≡ len table.holders
len-handed table h some =
    let was = entry-of (get table.holders h) (omega (arith, some)) in
    len-put table.holders h (handed (holders_at table h)) was.0 was.1

-- A handle that somebody holds is in the table.
pub held-some : (table : Table) (h : ℕ) → 0 < (holders_at table h).user + (holders_at table h).operations →
    is_some (get table.holders h) ≡ true
held-some table h some = by (get table.holders h) some
  where
    by : (o : Option Holders) → 0 < (unwrap_or o nobody).user + (unwrap_or o nobody).operations → is_some o ≡ true
    by None h = absurd (omega arith)
    by (Some x) h = refl

-- So is one that an operation holds.
pub held-op : (table : Table) (h : ℕ) → 0 < (holders_at table h).operations → is_some (get table.holders h) ≡ true
held-op table h some = held-some table h (omega (arith, some))

-- And one that its user holds.
pub held-user : (table : Table) (h : ℕ) → nat_lt 0 (holders_at table h).user ≡ true → is_some (get table.holders h) ≡ true
held-user table h users = (let a = ltb-true 0 (holders_at table h).user users in held-some table h (omega (arith, a)))
