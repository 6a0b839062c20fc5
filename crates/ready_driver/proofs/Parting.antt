-- Holders and keys that are those of a driver as plain data, once an operation or the user let handles go.
use Rattle.std.proofs.Common.{◌≡◌, ◌≢◌, ◌∙◌, inl, inr, ℕ, ◌+◌, ◌-◌, ◌<◌, Bool, true, false, List, [], ◌∷◌, length, Option, Some, None}
use Rattle.std.proofs.Common.{refl, sym, ap, arith, slice_get}
use Rattle.std.specs.Prelude.{is_some, nat_lt, option_map}
use Rattle.std.proofs.lemmas.Bool.{ltb-true}
use Rattle.std.proofs.lemmas.Bool.Decides.{nat_tests}
use Rattle.handle_core.specs.declared.table.Holders.{Holders}
use Rattle.handle_core.specs.Table.{Table, holders_at, without_user}
use Rattle.machine.specs.Lists.{amended, numbers_where, has_number, passes}
use Rattle.machine.specs.Lists.{one_if}
use Rattle.machine.specs.Request.{named}
use Rattle.machine.proofs.Numbers.{same-or-not}
use Rattle.machine.proofs.Amended.{get-amended, get-amended-other, length-amended}
use Rattle.machine.proofs.Leaving.{named-ascends}
use Rattle.machine.proofs.Where.{where-kept, where-left}
use Rattle.driver_core.specs.Holds.{is_nobody, settle_if, settled, left_holders, without_ops, front_if, unheld_by, CanLeave}
use Rattle.driver_core.proofs.Distinct.{ascends-distinct}
use Rattle.driver_core.proofs.Holds.{settled-same, settled-other, user-left, ops-left, can-leave, held-op, held-user}
use Rattle.driver_core.proofs.Maps.{gone-same, gone-other}
use Rattle.ready_driver.specs.HandlesStand.{HandlesStand}
use Rattle.ready_driver.specs.Legacy.{Legacy, LegacyOp, holds_at, is_on, slot_in, slot_at}
use Rattle.ready_driver.specs.LegacyStep.{freed}
use Rattle.ready_driver.specs.Registry.{is_known, is_users, unheld_if, without_keys}
use Rattle.ready_driver.specs.Reports.{has_key, is_keyed, with_key}
use Rattle.ready_driver.proofs.Registering.{keys-kept}

-- As many handles have a key, or none, as before.
pub length-without : (handles : List ℕ) (keys : List (Option ℕ)) → length (without_keys keys handles) ≡ length keys
length-without [] keys = refl
length-without (h ∷ handles) keys = length-without handles (with_key keys h None) ∙ length-amended (λ old. None) keys h

-- A handle that is held once another settled was held before, and isn't one that left.
pub settled-known : (table : Table) (h : ℕ) (held : Holders) (b : Bool) → is_known table h ≡ true → (k : ℕ) →
    is_known (settle_if b table h held) k ≡ true → (is_known table k ≡ true) × (b ≡ true → k ≢ h)
settled-known table h held true there k known = elim (same-or-not k h) [
  | inl e ↦ (
      let f : ◌≡◌ {A = Bool} true false = sym known ∙ ap (λ q. is_known (settle_if true table h held) q) e
      ∙ ap is_some (gone-same table.holders h) in
      let g : ⊥ = cc in absurd g)
  | inr e ↦ (sym (ap is_some (gone-other table.holders h k e)) ∙ known, λ b. e)
]
settled-known table h held false there k known =
    (sym (keys-kept table.holders h held there k) ∙ known, λ b. (let g : ⊥ = cc in absurd g))

-- One handle settles in front of others: what holds of a handle behind it holds of all.
left-front : (table : Table) (h : ℕ) (b : Bool) (rest : List ℕ) (keys : List (Option ℕ)) (k : ℕ) →
    (is_known table k ≡ true) × (b ≡ true → k ≢ h) →
    ((keys : List (Option ℕ)) → slice_get (without_keys keys rest) k ≡ slice_get keys k) →
    (is_known table k ≡ true) × (slice_get (without_keys keys (front_if b h rest)) k ≡ slice_get keys k)
left-front table h true rest keys k was same =
    (was.0, same (with_key keys h None) ∙ get-amended-other (λ old. None) keys h k (was.1 refl))
left-front table h false rest keys k was same = (was.0, same keys)

-- What is held once an operation left was held before, and its key stays.
pub left-known : (handles : List ℕ) (table : Table) (keys : List (Option ℕ)) (k : ℕ) → CanLeave table handles →
    is_known (without_ops table handles) k ≡ true →
    (is_known table k ≡ true) × (slice_get (without_keys keys (unheld_by table handles)) k ≡ slice_get keys k)
left-known [] table keys k may known = (known, refl)
left-known (h ∷ handles) table keys k may known =
    let next = settled table h (left_holders table h) in
    let before : (ks : List (Option ℕ)) → (is_known next k ≡ true) ×
    (slice_get (without_keys ks (unheld_by next handles)) k ≡ slice_get ks k) = λ ks. left-known handles next ks k may.1 known in
    left-front table h (is_nobody (left_holders table h)) (unheld_by next handles) keys k
    (settled-known table h (left_holders table h) (is_nobody (left_holders table h)) (held-op table h may.0) k (before keys).0)
    (λ ks. (before ks).1)

-- What was looked up, where the slot is there.
pub slot-there : (x : Option (Option LegacyOp)) (op : LegacyOp) → slot_in x ≡ Some op → x ≡ Some (Some op)
slot-there None op is = (let f : ⊥ = cc in absurd f)
slot-there (Some slot) op is = ap Some is

-- Of a table and keys that are those of a driver.
module _ (table : Table) (keys : List (Option ℕ)) (D : Legacy) (st : HandlesStand table keys D) where
  -- An operation is gone: as many name a handle as before without it.
  freed-count : (n : ℕ) (op : LegacyOp) → slot_at D n ≡ Some op → (k : ℕ) →
      length (numbers_where (is_on k) 0 (amended D.slots n (λ slot. None))) + one_if (has_number k (named op.request))
      ≡ length (numbers_where (is_on k) 0 D.slots)
  freed-count n op there k = by (has_number k (named op.request)) refl
    where
      at : slice_get D.slots n ≡ Some (Some op)
      at = slot-there (slice_get D.slots n) op there

      by : (b : Bool) → has_number k (named op.request) ≡ b →
          length (numbers_where (is_on k) 0 (amended D.slots n (λ slot. None))) + one_if b ≡ length (numbers_where (is_on k) 0 D.slots)
      by true is = where-left (is_on k) (λ slot. None) D.slots n 0 (Some op) at is refl
      by false is =
          let same = ap length (where-kept (is_on k) (λ slot. None) D.slots n 0 (λ x e.
          let f : x ≡ Some op = (let g : ◌≡◌ {A = Option (Option LegacyOp)} (Some x) (Some (Some op)) = sym e ∙ at in cc) in
          sym (ap (is_on k) f ∙ is))) in
          omega (arith, same)

  -- Operations hold each handle that one names.
  pub named-held : (n : ℕ) (op : LegacyOp) → slot_at D n ≡ Some op → (k : ℕ) → has_number k (named op.request) ≡ true →
      0 < (holders_at table k).operations
  named-held n op there k is =
      let count = freed-count n op there k in
      let one = ap one_if is in
      let was = st.operations k in
      omega (arith, count, one, was)

  -- An operation may leave.
  pub named-leave : (n : ℕ) (op : LegacyOp) → slot_at D n ≡ Some op → CanLeave table (named op.request)
  named-leave n op there =
      can-leave table (named op.request) (ascends-distinct 0 (named op.request) (named-ascends op.request)) (named-held n op there)

  -- It leaves, and is gone.
  pub standing-left : (n : ℕ) (op : LegacyOp) → slot_at D n ≡ Some op →
      HandlesStand (without_ops table (named op.request)) (without_keys keys (unheld_by table (named op.request))) (freed D n)
  standing-left n op there = record {
    users = λ k. ap (nat_lt 0) (user-left table (named op.request) k) ∙ st.users k;
    operations = λ k.
        let less = ops-left table (named op.request) (ascends-distinct 0 (named op.request) (named-ascends op.request))
        (named-held n op there) k in
        let was = st.operations k in
        let count = freed-count n op there k in
        omega (arith, less, was, count);
    keyed = λ k known.
        let before = left-known (named op.request) table keys k (named-leave n op there) known in
        ap has_key before.1 ∙ st.keyed k before.0;
    counted = st.counted;
    sized = length-without (unheld_by table (named op.request)) keys ∙ st.sized;
  }

  -- The user dropped one of its holds of a handle: another driver's users are the same but for that handle.
  standing-dropped : (h : ℕ) → is_users table h ≡ true → (users : List Bool) → length users ≡ length D.users →
      ((k : ℕ) → k ≢ h → passes (λ u. u) (slice_get users k) ≡ holds_at D k) →
      nat_lt 0 ((holders_at table h).user - 1) ≡ passes (λ u. u) (slice_get users h) →
      HandlesStand (settled table h (without_user (holders_at table h)))
      (without_keys keys (unheld_if (is_nobody (without_user (holders_at table h))) h)) (record D { users = users })
  standing-dropped h held users long others own = record {
    users = λ k. elim (same-or-not k h) [
      | inl e ↦ (
          ap (λ q. is_users (settled table h (without_user (holders_at table h))) q) e
          ∙ ap (λ (x : Holders). nat_lt 0 x.user) (settled-same table h (without_user (holders_at table h)))
          ∙ own ∙ ap (λ q. passes (λ u. u) (slice_get users q)) (sym e))
      | inr e ↦ (
          ap (λ (x : Holders). nat_lt 0 x.user) (settled-other table h (without_user (holders_at table h)) k e)
          ∙ st.users k ∙ sym (others k e))
    ];
    operations = λ k. elim (same-or-not k h) [
      | inl e ↦ (
          ap (λ q. (holders_at (settled table h (without_user (holders_at table h))) q).operations) e
          ∙ ap (λ (x : Holders). x.operations) (settled-same table h (without_user (holders_at table h)))
          ∙ ap (λ q. (holders_at table q).operations) (sym e) ∙ st.operations k)
      | inr e ↦ (
          ap (λ (x : Holders). x.operations) (settled-other table h (without_user (holders_at table h)) k e) ∙ st.operations k)
    ];
    keyed = λ k known. by (is_nobody (without_user (holders_at table h))) refl k known;
    counted = long ∙ st.counted;
    sized = length-without (unheld_if (is_nobody (without_user (holders_at table h))) h) keys ∙ st.sized;
  }
    where
      by : (b : Bool) → is_nobody (without_user (holders_at table h)) ≡ b → (k : ℕ) →
          is_known (settled table h (without_user (holders_at table h))) k ≡ true →
          is_keyed (without_keys keys (unheld_if b h)) k ≡ true
      by true is k known =
          let was = settled-known table h (without_user (holders_at table h)) (is_nobody (without_user (holders_at table h)))
          (held-user table h held) k known in
          ap has_key (get-amended-other (λ old. None) keys h k (was.1 is)) ∙ st.keyed k was.0
      by false is k known =
          let was = settled-known table h (without_user (holders_at table h)) (is_nobody (without_user (holders_at table h)))
          (held-user table h held) k known in
          st.keyed k was.0

  -- It was the user's only hold: the user holds the handle no more.
  pub standing-closed : (h : ℕ) → (holders_at table h).user ≡ 1 →
      HandlesStand (settled table h (without_user (holders_at table h)))
      (without_keys keys (unheld_if (is_nobody (without_user (holders_at table h))) h))
      (record D { users = amended D.users h (λ is_user. false) })
  standing-closed h only =
      standing-dropped h (ap (nat_lt 0) only) (amended D.users h (λ is_user. false)) (length-amended (λ is_user. false) D.users h)
      (λ k e. ap (passes (λ u. u)) (get-amended-other (λ is_user. false) D.users h k e))
      (ap (λ n. nat_lt 0 (n - 1)) only ∙ sym (ap (passes (λ u. u)) (get-amended (λ is_user. false) D.users h) ∙ none (slice_get D.users h)))
    where
      none : (x : Option Bool) → passes (λ u. u) (option_map (λ is_user. false) x) ≡ false
      none None = refl
      none (Some b) = refl

  -- It wasn't: the driver is as it was.
  pub standing-released : (h : ℕ) → is_users table h ≡ true → (holders_at table h).user ≢ 1 →
      HandlesStand (settled table h (without_user (holders_at table h)))
      (without_keys keys (unheld_if (is_nobody (without_user (holders_at table h))) h)) D
  standing-released h held more =
      standing-dropped h held D.users refl (λ k e. refl)
      (two (holders_at table h).user (ltb-true 0 (holders_at table h).user held) more ∙ sym held ∙ st.users h)
    where
      two : (n : ℕ) → 0 < n → n ≢ 1 → nat_lt 0 (n - 1) ≡ true
      two n some more = grind (arith, nat_tests)
