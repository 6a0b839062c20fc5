-- A table of holders that counts the operations in slots, after each call that changes the table or the slots.
use Rattle.std.proofs.Common.{◌≡◌, ◌≢◌, inl, inr, ℕ, ◌+◌, ◌<◌, Bool, true, false, List, [], ◌∷◌, Option, Some, None, refl, sym, ◌∙◌}
use Rattle.std.proofs.Common.{ap, subst, arith}
use Rattle.std.specs.Prelude.{IsSome, is_some, nat_lt, unwrap_or}
use Rattle.std.specs.Ordering.{nat_cmp}
use Rattle.std.specs.FinMap.{FinMap, get, insert, empty, get-empty}
use Rattle.handle_core.specs.declared.table.Holders.{Holders}
use Rattle.handle_core.specs.Table.{Table, IsHeld, holders_at, by_user, nobody, with_holders}
use Rattle.op_slots.specs.declared.lifecycle.Lifecycle.{Lifecycle}
use Rattle.op_slots.specs.declared.lifecycle.Lifecycle.TheVariants.{Submitted, Waiting, Ignored, Completed}
use Rattle.machine.specs.declared.request.TheConstants.{CANCELED}
use Rattle.machine.specs.declared.request.Outcome.{Outcome}
use Rattle.machine.specs.declared.request.Request.{Request}
use Rattle.machine.specs.declared.request.Outcome.TheVariants.{Fail}
use Rattle.machine.specs.Lists.{has_number}
use Rattle.machine.specs.Lists.{one_if}
use Rattle.machine.specs.Request.{named}
use Rattle.machine.proofs.Leaving.{named-ascends, has-other}
use Rattle.machine.proofs.Numbers.{same-or-not, and-left, and-right}
use Rattle.driver_core.specs.declared.operations.TheConstants.{MOST_GIVEN}
use Rattle.driver_core.specs.declared.slot.Slot.{Slot}
use Rattle.driver_core.specs.Holds.{named_in, made_in, settled, with_ops, without_ops, CanJoin, CanLeave}
use Rattle.driver_core.specs.Groups.{AreInSlots}
use Rattle.driver_core.specs.Members.{Membership}
use Rattle.driver_core.specs.Op.{KeepsTokens}
use Rattle.driver_core.specs.Ops.{Ops}
use Rattle.driver_core.specs.Slot.{is_flying, with_life}
use Rattle.driver_core.proofs.Counted.{named-distinct}
use Rattle.driver_core.proofs.Distinct.{ascends-distinct, one-most}
use Rattle.driver_core.proofs.Holds.{with-same, with-other, settled-same, settled-other, can-leave, can-join, ops-joined, ops-left}
use Rattle.driver_core.proofs.Holds.{held-op, held-user}
use Rattle.driver_core.proofs.Maps.{put-same, put-other}
use Rattle.driver_core.proofs.Passing.{number-none, number-some, number-kept, number-changed}
use Rattle.ready_driver.specs.LegacyState.{holds_all}
use Rattle.ready_driver.specs.Named.{IsOnlyCanceledLife, IsOnlyCanceled, IsCompleted, KeepsSlot, canceled_if, canceled_in, canceled_slots}
use Rattle.ready_driver.specs.Named.{AreNaming}
use Rattle.ready_driver.specs.Registry.{is_known, is_users}

-- The test of a slot for a handle that its operation names.
abbrev names_it : {B : Type 0} → ℕ → Option (Slot B) → Bool
names_it h slot = has_number h (named_in slot)

-- No operation holds a handle.
pub naming-none : {B : Type 0} (table : Table) (slots : FinMap nat_cmp (Slot B)) (given : ℕ) → table.holders ≡ empty → slots ≡ empty →
    AreNaming table slots given
naming-none {B} table slots given none is = record {
  counted = λ h. number-none (names_it {B = B} h) slots (holders_at table h).operations refl is (nobody-there h);
  few = λ h. (let a = nobody-there h in omega (arith, a));
  unmade = λ key. ap (λ m. made_in (get m key)) is ∙ ap made_in (get-empty {X = Slot B} nat_cmp key);
  canceled = λ key. subst IsOnlyCanceled (sym (ap (λ m. get m key) is ∙ get-empty {X = Slot B} nat_cmp key)) tt;
}
  where
    nobody-there : (h : ℕ) → (holders_at table h).operations ≡ 0
    nobody-there h = ap (λ m. (unwrap_or (get m h) nobody).operations) none
        ∙ ap (λ o. (unwrap_or o nobody).operations) (get-empty {X = Holders} nat_cmp h)

-- Another table, by which as many operations hold each handle.
pub naming-table : {B : Type 0} (table table' : Table) (slots : FinMap nat_cmp (Slot B)) (given : ℕ) → AreNaming table slots given →
    ((h : ℕ) → (holders_at table' h).operations ≡ (holders_at table h).operations) → AreNaming table' slots given
naming-table {B} table table' slots given are same = record {
  counted = λ h. record {
    keys = (are.counted h).keys;
    few = (are.counted h).few ∙ sym (same h);
    each = (are.counted h).each;
  };
  few = λ h. (let a = are.few h in let b = same h in omega (arith, a, b));
  unmade = are.unmade;
  canceled = are.canceled;
}

-- A table with the same holders.
pub naming-room : {B : Type 0} (table table' : Table) (slots : FinMap nat_cmp (Slot B)) (given : ℕ) → AreNaming table slots given →
    table'.holders ≡ table.holders → AreNaming table' slots given
naming-room table table' slots given are same =
    naming-table table table' slots given are (λ h. ap (λ m. (unwrap_or (get m h) nobody).operations) same)

-- A handle has other holders, of which as many are operations.
pub naming-written : {B : Type 0} (table : Table) (slots : FinMap nat_cmp (Slot B)) (given h : ℕ) (held : Holders) →
    AreNaming table slots given → held.operations ≡ (holders_at table h).operations → AreNaming (with_holders table h held) slots given
naming-written table slots given h held are same = naming-table table (with_holders table h held) slots given are (λ k.
    elim (same-or-not k h) [
      | inl e ↦ ap (λ x. (holders_at (with_holders table h held) x).operations) e ∙ ap (λ x. x.operations) (with-same table h held)
          ∙ same ∙ ap (λ x. (holders_at table x).operations) (sym e)
      | inr e ↦ ap (λ x. x.operations) (with-other table h held k e)
    ])

-- A handle settled on other holders, of which as many are operations.
pub naming-settled : {B : Type 0} (table : Table) (slots : FinMap nat_cmp (Slot B)) (given h : ℕ) (held : Holders) →
    AreNaming table slots given → held.operations ≡ (holders_at table h).operations → AreNaming (settled table h held) slots given
naming-settled table slots given h held are same = naming-table table (settled table h held) slots given are (λ k.
    elim (same-or-not k h) [
      | inl e ↦ ap (λ x. (holders_at (settled table h held) x).operations) e ∙ ap (λ x. x.operations) (settled-same table h held)
          ∙ same ∙ ap (λ x. (holders_at table x).operations) (sym e)
      | inr e ↦ ap (λ x. x.operations) (settled-other table h held k e)
    ])

-- Nobody holds a handle that isn't known.
unknown-nobody : (table : Table) (h : ℕ) → is_known table h ≡ false → holders_at table h ≡ nobody
unknown-nobody table h new = by (get table.holders h) new
  where
    by : (x : Option Holders) → is_some x ≡ false → unwrap_or x nobody ≡ nobody
    by None e = refl
    by (Some held) e = (let f : ⊥ = cc in absurd f)

-- The user holds one handle more.
pub naming-given : {B : Type 0} (table table' : Table) (slots : FinMap nat_cmp (Slot B)) (given h : ℕ) → AreNaming table slots given →
    is_known table h ≡ false → table'.holders ≡ insert table.holders h by_user → AreNaming table' slots given
naming-given table table' slots given h are new is =
    naming-room (with_holders table h by_user) table' slots given
    (naming-written table slots given h by_user are (sym (ap (λ x. x.operations) (unknown-nobody table h new)))) is

-- What is only completed by a cancel is completed with the error of one.
pub completed-only : {B : Type 0} (slot : Option (Slot B)) (outcome : Outcome) → IsOnlyCanceled slot → IsCompleted slot outcome →
    outcome ≡ Fail CANCELED
completed-only None outcome only is = absurd is
completed-only (Some slot) outcome only is = subst IsOnlyCanceledLife is only

-- What is completed with nothing else is only completed by a cancel.
only-completed : {B : Type 0} (slot : Option (Slot B)) → ((outcome : Outcome) → IsCompleted slot outcome → outcome ≡ Fail CANCELED) →
    IsOnlyCanceled slot
only-completed None only = tt
only-completed (Some slot) only = by slot.life refl
  where
    by : (life : Lifecycle Outcome) → slot.life ≡ life → IsOnlyCanceledLife slot.life
    by Submitted is = subst IsOnlyCanceledLife (sym is) tt
    by (Waiting task) is = subst IsOnlyCanceledLife (sym is) tt
    by Ignored is = subst IsOnlyCanceledLife (sym is) tt
    by (Completed outcome) is = subst IsOnlyCanceledLife (sym is) (only outcome is)

-- An operation names what it named, made none if it had made none, and is only completed by a cancel if it was. All other slots stay.
record KeepsNames {B : Type 0} (old : FinMap nat_cmp (Slot B)) (key : ℕ) (new : FinMap nat_cmp (Slot B)) : Type 0 where
  pub others : (k : ℕ) → k ≢ key → get new k ≡ get old k
  pub names : named_in (get new key) ≡ named_in (get old key)
  pub unmade : made_in (get old key) ≡ None → made_in (get new key) ≡ None
  pub canceled : IsOnlyCanceled (get old key) → IsOnlyCanceled (get new key)

-- The operation at a key stays, and names what it named.
naming-named : {B : Type 0} (table : Table) (slots slots' : FinMap nat_cmp (Slot B)) (given key : ℕ) → AreNaming table slots given →
    KeepsNames slots key slots' → AreNaming table slots' given
naming-named {B} table slots slots' given key are keeps = record {
  counted = λ h. number-kept (names_it {B = B} h) (are.counted h) (λ k. ap (has_number h) (same k));
  few = are.few;
  unmade = λ k. elim (same-or-not k key) [
    | inl e ↦ ap (λ x. made_in (get slots' x)) e ∙ keeps.unmade (are.unmade key)
    | inr e ↦ ap made_in (keeps.others k e) ∙ are.unmade k
  ];
  canceled = λ k. elim (same-or-not k key) [
    | inl e ↦ subst (λ x. IsOnlyCanceled (get slots' x)) (sym e) (keeps.canceled (are.canceled key))
    | inr e ↦ subst IsOnlyCanceled (sym (keeps.others k e)) (are.canceled k)
  ];
}
  where
    same : (k : ℕ) → named_in (get slots' k) ≡ named_in (get slots k)
    same k = elim (same-or-not k key) [
      | inl e ↦ ap (λ x. named_in (get slots' x)) e ∙ keeps.names ∙ ap (λ x. named_in (get slots x)) (sym e)
      | inr e ↦ ap named_in (keeps.others k e)
    ]

-- An operation that is polled, and stays.
pub naming-kept : {B : Type 0} (table : Table) (slots slots' : FinMap nat_cmp (Slot B)) (given key : ℕ) → AreNaming table slots given →
    KeepsSlot slots key slots' → AreNaming table slots' given
naming-kept table slots slots' given key are keeps =
    naming-named table slots slots' given key are (record {
      others = keeps.others;
      names = keeps.names;
      unmade = keeps.unmade;
      canceled = λ was. only-completed (get slots' key) (λ outcome is. completed-only (get slots key) outcome was
          ((keeps.completed outcome).0 is));
    })

-- A slot whose operation's cancel is asked for keeps its names.
canceled-keeps : {B : Type 0} (slots : FinMap nat_cmp (Slot B)) (key : ℕ) → KeepsNames slots key (canceled_slots slots key)
canceled-keeps {B} slots key = by (get slots key) refl
  where
    flies : (b : Bool) (s : Slot B) → get slots key ≡ Some s → KeepsNames slots key (canceled_if b slots key s)
    flies true s there =
        let t : Slot B = with_life s (Completed (Fail CANCELED)) in
        record {
          others = λ k e. put-other slots key t k e;
          names = ap named_in (put-same slots key t) ∙ sym (ap named_in there);
          unmade = λ none. ap made_in (put-same slots key t);
          canceled = λ was. subst IsOnlyCanceled (sym (put-same slots key t)) refl;
        }
    flies false s there = record { others = λ k e. refl; names = refl; unmade = λ none. none; canceled = λ was. was }

    by : (x : Option (Slot B)) → get slots key ≡ x → KeepsNames slots key (canceled_in slots key x)
    by None there = record { others = λ k e. refl; names = refl; unmade = λ none. none; canceled = λ was. was }
    by (Some s) there = flies (is_flying s.life) s there

-- The cancel of an operation is asked for.
pub naming-canceled : {B : Type 0} (table : Table) (slots : FinMap nat_cmp (Slot B)) (given key : ℕ) → AreNaming table slots given →
    AreNaming table (canceled_slots slots key) given
naming-canceled table slots given key are = naming-named table slots (canceled_slots slots key) given key are (canceled-keeps slots key)

-- A new operation joins, in a slot that was free.
pub naming-joined : {B : Type 0} (table : Table) (slots slots' : FinMap nat_cmp (Slot B)) (given key : ℕ) (s : Slot B) →
    AreNaming table slots given → get slots key ≡ None → slots' ≡ insert slots key s → s.life ≡ Submitted →
    AreNaming (with_ops table (named s.request)) slots' (given + 1)
naming-joined {B} table slots slots' given key s are free is life =
    let now : get slots' key ≡ Some s = ap (λ m. get m key) is ∙ put-same slots key s in
    let ops = ops-joined table (named s.request) (ascends-distinct 0 (named s.request) (named-ascends s.request)) in
    record {
      counted = λ h. number-changed (names_it {B = B} h) (are.counted h) key
          (λ k e. ap (names_it h) (ap (λ m. get m k) is ∙ put-other slots key s k e))
          (holders_at (with_ops table (named s.request)) h).operations
          (let a = ops h in
          let b = ap (λ o. one_if (names_it h o)) free in
          let c = ap (λ o. one_if (names_it h o)) now in
          omega (arith, a, b, c));
      few = λ h. (let a = ops h in let b = are.few h in let c = one-most (has_number h (named s.request)) in omega (arith, a, b, c));
      unmade = λ k. elim (same-or-not k key) [
        | inl e ↦ ap (λ x. made_in (get slots' x)) e ∙ ap made_in now ∙ made-none s.life life
        | inr e ↦ ap (λ m. made_in (get m k)) is ∙ ap made_in (put-other slots key s k e) ∙ are.unmade k
      ];
      canceled = λ k. elim (same-or-not k key) [
        | inl e ↦ subst IsOnlyCanceled (sym (ap (get slots') e ∙ now)) (subst IsOnlyCanceledLife (sym life) tt)
        | inr e ↦ subst IsOnlyCanceled (sym (ap (λ m. get m k) is ∙ put-other slots key s k e)) (are.canceled k)
      ];
    }
  where
    made-none : (l : Lifecycle Outcome) → l ≡ Submitted → made_in (Some (record s { life = l })) ≡ None
    made-none l e = ap (λ x. made_in (Some (record s { life = x }))) e

module _ {B : Type 0} (table : Table) (slots : FinMap nat_cmp (Slot B)) (given key : ℕ) (are : AreNaming table slots given) where
  -- A handle that the operation at a key names is held by an operation.
  names-held : (h : ℕ) → has_number h (named_in (get slots key)) ≡ true → 0 < (holders_at table h).operations
  names-held h there = number-some (names_it {B = B} h) (are.counted h) key there

  -- So somebody holds it.
  pub naming-known : (h : ℕ) → has_number h (named_in (get slots key)) ≡ true → is_known table h ≡ true
  naming-known h there = held-op table h (names-held h there)

  -- The operation may leave.
  pub naming-leave : CanLeave table (named_in (get slots key))
  naming-leave = can-leave table (named_in (get slots key)) (named-distinct (get slots key)) names-held

  -- It left.
  pub naming-left : (slots' : FinMap nat_cmp (Slot B)) → ((k : ℕ) → k ≢ key → get slots' k ≡ get slots k) → get slots' key ≡ None →
      AreNaming (without_ops table (named_in (get slots key))) slots' given
  naming-left slots' others free =
      let ops = ops-left table (named_in (get slots key)) (named-distinct (get slots key)) names-held in
      record {
        counted = λ h. number-changed (names_it {B = B} h) (are.counted h) key
            (λ k e. ap (names_it h) (others k e))
            (holders_at (without_ops table (named_in (get slots key))) h).operations
            (let a = ops h in let b = ap (λ o. one_if (names_it h o)) free in omega (arith, a, b));
        few = λ h. (let a = ops h in let b = are.few h in omega (arith, a, b));
        unmade = λ k. elim (same-or-not k key) [
          | inl e ↦ ap (λ x. made_in (get slots' x)) e ∙ ap made_in free
          | inr e ↦ ap made_in (others k e) ∙ are.unmade k
        ];
        canceled = λ k. elim (same-or-not k key) [
          | inl e ↦ subst IsOnlyCanceled (sym (ap (get slots') e ∙ free)) tt
          | inr e ↦ subst IsOnlyCanceled (sym (others k e)) (are.canceled k)
        ];
      }

-- The user holds each of handles that it holds all of.
pub all-users : (table : Table) (handles : List ℕ) → holds_all table handles ≡ true → (h : ℕ) → has_number h handles ≡ true →
    is_users table h ≡ true
all-users table [] all h there = (let f : ⊥ = cc in absurd f)
all-users table (k ∷ handles) all h there = elim (same-or-not h k) [
  | inl e ↦ ap (is_users table) e ∙ and-left (is_users table k) (holds_all table handles) all
  | inr e ↦ all-users table handles (and-right (is_users table k) (holds_all table handles) all) h (sym (has-other h k handles e) ∙ there)
]

-- A handle that its user holds is in the table.
pub users-held : (table : Table) (h : ℕ) → is_users table h ≡ true → IsHeld table h
users-held table h user = by (get table.holders h) user
  where
    by : (x : Option Holders) → nat_lt 0 (unwrap_or x nobody).user ≡ true → IsSome x
    by None e = (let f : ⊥ = cc in absurd f)
    by (Some held) e = refl

-- Each handle of those that the user holds all of is known.
pub all-known : (table : Table) (handles : List ℕ) → holds_all table handles ≡ true → (h : ℕ) → has_number h handles ≡ true →
    is_known table h ≡ true
all-known table handles all h there = held-user table h (all-users table handles all h there)

-- A request's operation may join handles that the user holds.
pub naming-join : {B V C : Type 0} (table table' : Table) (slots : FinMap nat_cmp (Slot B)) (given : ℕ) (request : Request C V) →
    AreNaming table slots given → holds_all table (named request) ≡ true → given < MOST_GIVEN → table' ≡ table →
    CanJoin table' (named request)
naming-join table table' slots given request are all few same =
    subst (λ t. CanJoin t (named request)) (sym same)
    (can-join table (named request) (ascends-distinct 0 (named request) (named-ascends request))
    (λ k there. users-held table k (all-users table (named request) all k there))
    (λ k there. (let a = are.few k in omega (arith, a, few))))

-- Places of operations under groups are in slots, where a call keeps every token.
pub in-slots-tokens : {B : Type 0} (m : Membership) (old new : Ops B) → KeepsTokens old new → AreInSlots m old.slots.values →
    AreInSlots m new.slots.values
in-slots-tokens m old new keeps are = λ number place there. (keeps (record { number = number; key = place.key })).0 (are number place there)
