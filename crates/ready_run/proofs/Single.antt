-- The user of a session holds each handle once at most: what each call of its driver makes of that.
use Rattle.std.proofs.Common.{◌≡◌, ◌∙◌, ◌<◌, ◌≤◌, inl, inr, ℕ, Bool, true, false, List, [], ◌∷◌, Option, Some, None, refl, sym, ap}
use Rattle.std.proofs.Common.{subst, slice_get, length, arith}
use Rattle.std.proofs.lemmas.Bool.Decides.{nat_tests}
use Rattle.std.proofs.lemmas.Option.{slice_get_within}
use Rattle.std.specs.Prelude.{◌==◌, ◌&&◌, nat_lt, unwrap_or}
use Rattle.std.specs.FinMap.{get, insert}
use Rattle.handle_core.specs.Table.{Table, holders_at, by_user, without_user, nobody}
use Rattle.handle_core.specs.declared.table.Holders.{Holders}
use Rattle.rent_buf.specs.Buf.{built}
use Rattle.rent_buf.specs.declared.plain.Buf.{Buf}
use Rattle.machine.specs.Lists.{passes}
use Rattle.machine.proofs.Numbers.{same-or-not}
use Rattle.driver_core.specs.Holds.{with_ops, without_ops, settled}
use Rattle.driver_core.specs.Members.{Membership, key_at}
use Rattle.driver_core.proofs.Holds.{user-joined, user-left, settled-same, settled-other}
use Rattle.driver_core.proofs.Maps.{put-same, put-other}
use Rattle.ready_driver.specs.Legacy.{Legacy, holds_at}
use Rattle.ready_driver.specs.LegacyCalls.{Asking, asks_in, asks_each}
use Rattle.ready_driver.specs.LegacyStands.{LegacyStands}
use Rattle.ready_driver.specs.LegacyState.{LegacyState}
use Rattle.ready_driver.specs.MemIo.{Memory, memory_view}
use Rattle.ready_driver.specs.Registry.{is_users}
use Rattle.ready_run.specs.ReadySession.{AreSingle}

-- A table with the same holders.
pub single-same : (old new : Table) → new.holders ≡ old.holders → AreSingle old → AreSingle new
single-same old new same single h = subst (λ m. (unwrap_or (get m h) nobody).user ≤ 1) (sym same) (single h)

-- One of which the user got one handle.
pub single-given : (old new : Table) (h : ℕ) → new.holders ≡ insert old.holders h by_user → AreSingle old → AreSingle new
single-given old new h given single k =
    let is = ap (λ m. (unwrap_or (get m k) nobody).user) given in
    elim (same-or-not k h) [
      | inl e ↦ (
          let a = is ∙ ap (λ x. (unwrap_or (get (insert old.holders h by_user) x) nobody).user) e
          ∙ ap (λ o. (unwrap_or o nobody).user) (put-same old.holders h by_user) in
          omega (arith, a))
      | inr e ↦ (
          let a = is ∙ ap (λ o. (unwrap_or o nobody).user) (put-other old.holders h by_user k e) in
          let b = single k in
          omega (arith, a, b))
    ]

-- One that a new operation joined.
pub single-joined : (table : Table) (handles : List ℕ) → AreSingle table → AreSingle (with_ops table handles)
single-joined table handles single h = subst (λ k. k ≤ 1) (sym (user-joined table handles h)) (single h)

-- One that an operation left.
pub single-left : (table : Table) (handles : List ℕ) → AreSingle table → AreSingle (without_ops table handles)
single-left table handles single h = subst (λ k. k ≤ 1) (sym (user-left table handles h)) (single h)

-- One of which the user dropped a hold.
pub single-released : (table : Table) (h : ℕ) → AreSingle table → AreSingle (settled table h (without_user (holders_at table h)))
single-released table h single k =
    let held : Holders = without_user (holders_at table h) in
    elim (same-or-not k h) [
      | inl e ↦ (
          let a = ap (λ x. (holders_at (settled table h held) x).user) e ∙ ap (λ x. x.user) (settled-same table h held) in
          let b = single h in
          omega (arith, a, b))
      | inr e ↦ (
          let a = ap (λ x. x.user) (settled-other table h held k e) in
          let b = single k in
          omega (arith, a, b))
    ]

-- A count that is at most one, and some, is one.
pub once-counted : (k : ℕ) → k ≤ 1 → nat_lt 0 k ≡ true → (k == 1) ≡ true
once-counted k few some = grind (arith, nat_tests)

-- A handle that the user holds is held once by it.
pub once-held : (table : Table) (h : ℕ) → AreSingle table → is_users table h ≡ true → ((holders_at table h).user == 1) ≡ true
once-held table h single holds = once-counted (holders_at table h).user (single h) holds

-- Asking for the cancel of an operation leaves who holds the handles, whether it has a place or not.
asks-table_in : {I B : Type 0} (a : Asking I B) (number : ℕ) (key : Option ℕ) → (asks_in a number key).handling.table ≡ a.handling.table
asks-table_in a number None = refl
asks-table_in a number (Some key) = refl

-- So does asking for the cancels of several.
pub asks-table : {I B : Type 0} (m : Membership) (a : Asking I B) (numbers : List ℕ) →
    (asks_each m a numbers).handling.table ≡ a.handling.table
asks-table m a [] = refl
asks-table m a (number ∷ numbers) =
    asks-table m (asks_in a number (key_at m number)) numbers ∙ asks-table_in a number (key_at m number)

-- What is true of an element that was looked up.
found-within : (users : List Bool) (h : ℕ) (found : Option Bool) → slice_get users h ≡ found → passes (λ is_user. is_user) found ≡ true →
    h < length users
found-within users h None is holds = (let f : ⊥ = cc in absurd f)
found-within users h (Some b) is holds = slice_get_within users h b is

-- The test finds a number that is less than another less than it.
pub less-test : (a b : ℕ) → a < b → nat_lt a b ≡ true
less-test a b order = grind (arith, nat_tests)

-- The user holds a handle of the world exactly when it does as plain data.
pub has-held : (driver : LegacyState Memory Buf) (D : Legacy) (h : ℕ) → LegacyStands memory_view built driver D →
    (is_users driver.handling.table h && nat_lt h (length driver.handling.io.world)) ≡ holds_at D h
has-held driver D h stands = at (holds_at D h) refl (is_users driver.handling.table h) (stands.handles.users h) (λ holds.
    let a = found-within D.users h (slice_get D.users h) refl holds in
    let b = stands.handles.counted in
    let c = ap (λ w. length w) stands.parts.handles in
    less-test h (length driver.handling.io.world) (omega (arith, a, b, c)))
  where
    at : (b : Bool) → holds_at D h ≡ b → (held : Bool) → held ≡ holds_at D h →
        (holds_at D h ≡ true → nat_lt h (length driver.handling.io.world) ≡ true) →
        (held && nat_lt h (length driver.handling.io.world)) ≡ holds_at D h
    at true is held same within = ap (λ x. x && nat_lt h (length driver.handling.io.world)) (same ∙ is) ∙ within is ∙ sym is
    at false is held same within = ap (λ x. x && nat_lt h (length driver.handling.io.world)) (same ∙ is) ∙ sym is
