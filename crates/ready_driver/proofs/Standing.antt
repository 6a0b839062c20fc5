-- Holders and keys that are those of a driver as plain data, through what each call makes of them.
use Rattle.std.proofs.Common.{◌≡◌, ◌≢◌, ◌∙◌, inl, inr, ℕ, ◌+◌, Bool, true, false, List, [], ◌∷◌, ◌++◌, length, Option}
use Rattle.std.proofs.Common.{Some, None, refl, sym, ap, arith, slice_get, length-append}
use Rattle.std.specs.Prelude.{is_some, unwrap_or, nat_lt, if◌then◌else◌}
use Rattle.std.proofs.lemmas.Option.{slice_get_past}
use Rattle.std.specs.Ordering.{nat_cmp}
use Rattle.std.specs.FinMap.{get, empty, insert, get-empty}
use Rattle.std.proofs.lemmas.Bool.{lt-ltb}
use Rattle.handle_core.specs.declared.table.Holders.{Holders}
use Rattle.handle_core.specs.Table.{Table, holders_at, with_holders, nobody, by_user, with_user, with_operation}
use Rattle.rent_buf.specs.Buffer.{Buffer}
use Rattle.rent_buf.specs.Parts.{Parts}
use Rattle.machine.specs.declared.request.Request.{Request}
use Rattle.machine.specs.declared.world.HandleState.{HandleState}
use Rattle.machine.specs.Lists.{numbers_where, has_number, passes}
use Rattle.machine.specs.Lists.{one_if}
use Rattle.machine.specs.Request.{named}
use Rattle.machine.proofs.Numbers.{same-or-not, none-of}
use Rattle.machine.proofs.Amended.{get-amended-same, get-amended-other, length-amended, joined-cases}
use Rattle.machine.proofs.Appended.{get-append-end}
use Rattle.machine.proofs.Leaving.{named-ascends, has-first, has-later}
use Rattle.machine.proofs.Where.{where-joined}
use Rattle.driver_core.specs.Holds.{with_ops, CanJoin}
use Rattle.driver_core.proofs.Distinct.{ascends-distinct}
use Rattle.driver_core.proofs.Maps.{put-same, put-other}
use Rattle.driver_core.proofs.Holds.{with-same, with-other, user-joined, ops-joined}
use Rattle.ready_driver.specs.HandlesStand.{HandlesStand}
use Rattle.ready_driver.specs.Legacy.{Legacy, idle, is_on}
use Rattle.ready_driver.specs.LegacyStep.{new_op}
use Rattle.ready_driver.specs.Polling.{joined_at}
use Rattle.ready_driver.specs.Registry.{is_known, is_users, keyed_by, keyed_each}
use Rattle.ready_driver.specs.declared.records.Record.{Record}
use Rattle.ready_driver.specs.Records.{Kept, record_at, changed, with_registered}
use Rattle.ready_driver.specs.Reports.{has_key, is_keyed, with_key}
use Rattle.driver_core.proofs.Holds.{held-user}
use Rattle.ready_driver.proofs.Registering.{keys-kept}
use Rattle.ready_driver.proofs.Shown.{keyed-key}

-- What was looked up in a table: the user holds it.
abbrev users_in : Option Holders → Bool
users_in o = nat_lt 0 (unwrap_or o nobody).user

-- Nobody holds a handle in a new driver.
pub standing-none : (table : Table) → table.holders ≡ empty → HandlesStand table [] idle
standing-none table none = record {
  users = λ h. ap users_in (gone h);
  operations = λ h. ap (λ o. (unwrap_or o nobody).operations) (gone h);
  keyed = λ h known. (
      let f : ◌≡◌ {A = Bool} true false = sym known ∙ ap is_some (gone h) in
      let g : ⊥ = cc in absurd g);
  counted = refl;
  sized = refl;
}
  where
    gone : (h : ℕ) → get table.holders h ≡ None
    gone h = ap (λ m. get m h) none ∙ get-empty {X = Holders} nat_cmp h

-- Two drivers with the same users and operations, and as many handles.
pub standing-like : (table : Table) (keys : List (Option ℕ)) (D new : Legacy) → HandlesStand table keys D → new.users ≡ D.users →
    ((h : ℕ) → length (numbers_where (is_on h) 0 new.slots) ≡ length (numbers_where (is_on h) 0 D.slots)) →
    length new.world ≡ length D.world → HandlesStand table keys new
standing-like table keys D new st users slots world = record {
  users = λ h. st.users h ∙ sym (ap (λ us. passes (λ u. u) (slice_get us h)) users);
  operations = λ h. st.operations h ∙ sym (slots h);
  keyed = st.keyed;
  counted = ap length users ∙ st.counted ∙ sym world;
  sized = st.sized ∙ sym world;
}

-- A number, where a test passes.
abbrev one_of : Bool → ℕ → List ℕ
one_of b n = if b then n ∷ [] else []

-- It is listed once, or not at all.
length-one : (b : Bool) (n : ℕ) → length (one_of b n) ≡ one_if b
length-one true n = refl
length-one false n = refl

-- A handle is held before an operation joins, where it is held then.
pub joined-known : (table : Table) (handles : List ℕ) → CanJoin table handles → (k : ℕ) → is_known (with_ops table handles) k ≡ true →
    is_known table k ≡ true
joined-known table [] may k known = known
joined-known table (h ∷ handles) may k known =
    sym (keys-kept table.holders h (with_operation (holders_at table h)) may.0 k)
    ∙ joined-known (with_holders table h (with_operation (holders_at table h))) handles may.2 k known

-- Of a table and keys that are those of a driver.
module _ (table : Table) (keys : List (Option ℕ)) (D : Legacy) (st : HandlesStand table keys D) where
  -- Nobody holds a handle that the world hasn't.
  pub fresh-unknown : is_known table (length D.world) ≡ false
  fresh-unknown = by (is_known table (length D.world)) refl
    where
      by : (b : Bool) → is_known table (length D.world) ≡ b → b ≡ false
      by true is =
          let there = st.keyed (length D.world) is in
          let size = st.sized in
          let none = slice_get_past keys (length D.world) (omega (arith, size)) in
          let f : ◌≡◌ {A = Bool} false true = sym (ap has_key none) ∙ there in
          let g : ⊥ = cc in absurd g
      by false is = refl

  -- No operation names it.
  pub fresh-unnamed : length (numbers_where (is_on (length D.world)) 0 D.slots) ≡ 0
  fresh-unnamed =
      sym (st.operations (length D.world))
      ∙ ap (λ o. (unwrap_or o nobody).operations) (none-of (get table.holders (length D.world)) fresh-unknown)

  -- A new handle of the world, which the user got, and which is registered.
  module _ (new : Table) (now : List (Option ℕ)) (world : List HandleState) (key : ℕ)
      (held : new.holders ≡ insert table.holders (length D.world) by_user)
      (keyed : now ≡ with_key (keys ++ None ∷ []) (length D.world) (Some key))
      (longer : length world ≡ length D.world + 1) where
    got : get new.holders (length D.world) ≡ Some by_user
    got = ap (λ m. get m (length D.world)) held ∙ put-same table.holders (length D.world) by_user

    beside : (k : ℕ) → k ≢ length D.world → get new.holders k ≡ get table.holders k
    beside k e = ap (λ m. get m k) held ∙ put-other table.holders (length D.world) by_user k e

    users-given : (h : ℕ) → is_users new h ≡ passes (λ u. u) (slice_get (D.users ++ true ∷ []) h)
    users-given h = elim (joined-cases D.users true h) [
      | inl e ↦ (
          ap (λ k. users_in (get new.holders k)) (e.0 ∙ st.counted) ∙ ap users_in got ∙ sym (ap (passes (λ u. u)) e.2))
      | inr e ↦ (
          ap users_in (beside h (λ s. e.0 (s ∙ sym st.counted))) ∙ st.users h ∙ sym (ap (passes (λ u. u)) e.1))
    ]

    operations-given : (h : ℕ) → (holders_at new h).operations ≡ length (numbers_where (is_on h) 0 D.slots)
    operations-given h = elim (same-or-not h (length D.world)) [
      | inl e ↦ (
          ap (λ k. (holders_at new k).operations) e ∙ ap (λ o. (unwrap_or o nobody).operations) got ∙ sym fresh-unnamed
          ∙ ap (λ k. length (numbers_where (is_on k) 0 D.slots)) (sym e))
      | inr e ↦ ap (λ o. (unwrap_or o nobody).operations) (beside h e) ∙ st.operations h
    ]

    end : slice_get (keys ++ None ∷ []) (length D.world) ≡ Some None
    end = ap (slice_get (keys ++ None ∷ [])) (sym st.sized) ∙ get-append-end keys None

    keyed-given : (h : ℕ) → is_known new h ≡ true → is_keyed now h ≡ true
    keyed-given h known = elim (same-or-not h (length D.world)) [
      | inl e ↦
          ap has_key (ap (λ ks. slice_get ks h) keyed ∙ ap (slice_get (with_key (keys ++ None ∷ []) (length D.world) (Some key))) e
          ∙ get-amended-same (λ old. Some key) (keys ++ None ∷ []) (length D.world) None end)
      | inr e ↦
          ap has_key (ap (λ ks. slice_get ks h) keyed
          ∙ get-amended-other (λ old. Some key) (keys ++ None ∷ []) (length D.world) h e
          ∙ within (λ s. e (s ∙ st.sized))) ∙ st.keyed h (sym (ap is_some (beside h e)) ∙ known)
    ]
      where
        within : h ≢ length keys → slice_get (keys ++ None ∷ []) h ≡ slice_get keys h
        within apart = elim (joined-cases keys None h) [
          | inl e ↦ absurd (apart e.0)
          | inr e ↦ e.1
        ]

    pub standing-given : HandlesStand new now (record D { world = world; users = D.users ++ true ∷ [] })
    standing-given = record {
      users = users-given;
      operations = operations-given;
      keyed = keyed-given;
      counted = (let a = length-append D.users (true ∷ []) in let b = st.counted in omega (arith, a, b, longer));
      sized = (
          let a = ap length keyed ∙ length-amended (λ old. Some key) (keys ++ None ∷ []) (length D.world) in
          let b = length-append keys (None ∷ []) in let c = st.sized in omega (arith, a, b, c, longer));
    }

  -- The user holds a handle that it holds once more.
  pub standing-held : (h : ℕ) → is_users table h ≡ true → HandlesStand (with_holders table h (with_user (holders_at table h))) keys D
  standing-held h held = record {
    users = λ k. elim (same-or-not k h) [
      | inl e ↦ (
          ap (λ q. is_users (with_holders table h (with_user (holders_at table h))) q) e
          ∙ ap (λ (x : Holders). nat_lt 0 x.user) (with-same table h (with_user (holders_at table h)))
          ∙ lt-ltb 0 ((holders_at table h).user + 1) (omega arith) ∙ sym held ∙ ap (is_users table) (sym e) ∙ st.users k)
      | inr e ↦ ap (λ (x : Holders). nat_lt 0 x.user) (with-other table h (with_user (holders_at table h)) k e) ∙ st.users k
    ];
    operations = λ k. elim (same-or-not k h) [
      | inl e ↦ (
          ap (λ q. (holders_at (with_holders table h (with_user (holders_at table h))) q).operations) e
          ∙ ap (λ (x : Holders). x.operations) (with-same table h (with_user (holders_at table h)))
          ∙ ap (λ q. (holders_at table q).operations) (sym e) ∙ st.operations k)
      | inr e ↦ ap (λ (x : Holders). x.operations) (with-other table h (with_user (holders_at table h)) k e) ∙ st.operations k
    ];
    keyed = λ k known. st.keyed k (sym (keys-kept table.holders h (with_user (holders_at table h)) (held-user table h held) k) ∙ known);
    counted = st.counted;
    sized = st.sized;
  }

  -- A new operation holds the handles that it names, of which each is held.
  pub standing-joined : (request : Request Buffer Parts) (group : Option ℕ) → CanJoin table (named request) →
      HandlesStand (with_ops table (named request)) keys (joined_at D request group)
  standing-joined request group may = record {
    users = λ k. ap (nat_lt 0) (user-joined table (named request) k) ∙ st.users k;
    operations = λ k.
        let more = ops-joined table (named request) (ascends-distinct 0 (named request) (named-ascends request)) k in
        let was = st.operations k in
        let joins = ap length (where-joined (is_on k) D.slots (Some (new_op request group)) 0)
        ∙ length-append (numbers_where (is_on k) 0 D.slots) (one_of (has_number k (named request)) (0 + length D.slots)) in
        let one = length-one (has_number k (named request)) (0 + length D.slots) in
        omega (arith, more, was, joins, one);
    keyed = λ k known. st.keyed k (joined-known table (named request) may k known);
    counted = st.counted;
    sized = st.sized;
  }

  -- A handle that is registered, with whatever key, is registered again.
  pub standing-keyed : (h : ℕ) (key : ℕ) → is_known table h ≡ true → HandlesStand table (with_key keys h (Some key)) D
  standing-keyed h key known = record {
    users = st.users;
    operations = st.operations;
    keyed = λ k there. elim (same-or-not k h) [
      | inl e ↦
          let had = keyed-key keys h (st.keyed h known) in
          ap has_key (ap (slice_get (with_key keys h (Some key))) e
          ∙ get-amended-same (λ old. Some key) keys h (Some had.0) had.1)
      | inr e ↦ ap has_key (get-amended-other (λ old. Some key) keys h k e) ∙ st.keyed k there
    ];
    counted = st.counted;
    sized = length-amended (λ old. Some key) keys h ∙ st.sized;
  }

  -- The same by its record, if it has one and that isn't registered.
  pub standing-by : (h : ℕ) (one : Option Record) → is_known table h ≡ true → HandlesStand table (keyed_by one keys h) D
  standing-by h None known = st
  standing-by h (Some one) known = by one.registered
    where
      by : (b : Bool) → HandlesStand table (if◌then◌else◌ {A = List (Option ℕ)} b keys (with_key keys h (Some one.key))) D
      by true = st
      by false = standing-keyed h one.key known

-- The same of several handles, one after another.
pub standing-ready : (table : Table) (D : Legacy) (handles : List ℕ) (records : Kept) (keys : List (Option ℕ)) →
    HandlesStand table keys D → ((h : ℕ) → has_number h handles ≡ true → is_known table h ≡ true) →
    HandlesStand table (keyed_each records keys handles) D
standing-ready table D [] records keys st known = st
standing-ready table D (h ∷ handles) records keys st known =
    standing-ready table D handles (changed records h (with_registered true)) (keyed_by (record_at records h) keys h)
    (standing-by table keys D st h (record_at records h) (known h (has-first h handles)))
    (λ k there. known k (has-later k h handles there))
