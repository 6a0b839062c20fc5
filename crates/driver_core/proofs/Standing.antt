-- A table stands for the holders of a ledger once operations joined or left, and which closes that queues.
use Rattle.std.proofs.Common.{◌≡◌, ◌∙◌, ℕ, ◌+◌, ◌<◌, Bool, true, false, not, ◌==◌, [], ◌∷◌, ◌++◌, length}
use Rattle.std.proofs.Common.{Some, None, refl, sym, ap, arith, if◌then◌else◌}
use Rattle.std.specs.Prelude.{◌&&◌, nat_lt, slice_get}
use Rattle.std.proofs.Common.{length-append}
use Rattle.std.proofs.lemmas.Bool.Decides.{nat_tests}
use Rattle.handle_core.specs.declared.table.Holders.{Holders}
use Rattle.handle_core.specs.Table.{Table, holders_at}
use Rattle.machine.specs.Lists.{has_number}
use Rattle.machine.specs.Lists.{one_if}
use Rattle.machine.specs.Request.{named}
use Rattle.machine.specs.Ledger.{Ledger, Operation, Gone, is_live, holding_ops, user_holds, with_made}
use Rattle.machine.specs.Queue.{with_op, at_place, with_gone, is_unheld}
use Rattle.machine.specs.Step.{with_new_op}
use Rattle.machine.proofs.Where.{where-kept, where-left, where-joined}
use Rattle.machine.proofs.Holders.{unheld-count}
use Rattle.machine.proofs.Leaving.{named-ascends}
use Rattle.driver_core.specs.Slots.{life_at}
use Rattle.driver_core.specs.Holds.{made_life, seen, is_seen, seen_ops, is_nobody, with_ops, without_ops}
use Rattle.driver_core.specs.Holds.{HoldersStand}
use Rattle.driver_core.proofs.Distinct.{Distinct, ascends-distinct}
use Rattle.driver_core.proofs.Holds.{user-joined, user-left, ops-joined, ops-left}
use Rattle.driver_core.proofs.Counts.{where-changed}
use Rattle.driver_core.proofs.Seen.{SameSeen}

-- A table stands for the holders of a ledger in which each handle is seen to have the same ones.
pub holders-stand-same : {table : Table} {L M : Ledger} → HoldersStand table L → SameSeen L M → HoldersStand table M
holders-stand-same stand same = record {
  users = λ h. stand.users h ∙ sym (same.users h);
  operations = λ h. stand.operations h ∙ sym (ap length (same.ops h));
}

-- A table stands for a ledger in which one operation changed, and how often operations hold each handle with it.
pub holders-stand-changed : (table table' : Table) (L : Ledger) (n : ℕ) (o : Operation) (f : Operation → Operation) →
    HoldersStand table L → slice_get L.ops n ≡ Some o →
    ((h : ℕ) → nat_lt 0 (holders_at table' h).user ≡ nat_lt 0 (holders_at table h).user) →
    ((h : ℕ) → (holders_at table' h).operations + one_if (is_seen h o) ≡ (holders_at table h).operations + one_if (is_seen h (f o))) →
    HoldersStand table' (with_op L n f)
holders-stand-changed table table' L n o f stand there users counts = record {
  users = λ h. users h ∙ stand.users h;
  operations = λ h. (
      let a = where-changed (is_seen h) f L.ops n 0 o there in
      let b = stand.operations h in
      let c = counts h in
      omega (arith, a, b, c));
}

-- A new operation is seen to hold what it names.
seen-new_op : (L : Ledger) (o : Operation) (h : ℕ) → length (seen_ops (with_new_op L o) h) ≡ length (seen_ops L h) + one_if (is_seen h o)
seen-new_op L o h = ap length (where-joined (is_seen h) L.ops o 0) ∙ by (is_seen h o)
  where
    by : (b : Bool) → length (seen_ops L h ++ (if b then (0 + length L.ops) ∷ [] else [])) ≡ length (seen_ops L h) + one_if b
    by true = length-append (seen_ops L h) ((0 + length L.ops) ∷ [])
    by false = length-append {A = ℕ} (seen_ops L h) []

-- An operation that is gone isn't seen any more.
pub seen-gone : (L : Ledger) (n h : ℕ) (o : Operation) → slice_get L.ops n ≡ Some o →
    length (seen_ops (with_gone L n) h) + one_if (is_seen h o) ≡ length (seen_ops L h)
seen-gone L n h o there = by (is_seen h o) refl
  where
    by : (b : Bool) → is_seen h o ≡ b → length (seen_ops (with_gone L n) h) + one_if b ≡ length (seen_ops L h)
    by true is = where-left (is_seen h) (at_place Gone) L.ops n 0 o there is refl
    by false is =
        let a = ap length (where-kept (is_seen h) (at_place Gone) L.ops n 0 (λ p at.
        (let q : o ≡ p = (let w = sym there ∙ at in cc) in sym is ∙ ap (is_seen h) q))) in
        omega (arith, a)

-- Once an operation joined that made nothing, its table stands for the ledger with the new operation.
pub holders-stand-joined : (table : Table) (L : Ledger) (o : Operation) → HoldersStand table L → is_live o ≡ true →
    made_life (life_at o) ≡ None → HoldersStand (with_ops table (named o.request)) (with_new_op L o)
holders-stand-joined table L o stand live none = record {
  users = λ h. ap (nat_lt 0) (user-joined table (named o.request) h) ∙ stand.users h;
  operations = λ h. (
      let a = ops-joined table (named o.request) (ascends-distinct 0 (named o.request) (named-ascends o.request)) h in
      let b = stand.operations h in
      let c = seen-new_op L o h in
      let d : one_if (is_seen h o) ≡ one_if (has_number h (named o.request)) = ap one_if (ap (λ b. b && has_number h (seen o)) live
      ∙ ap (λ m. has_number h (with_made m (named o.request))) none) in
      omega (arith, a, b, c, d));
}

module _ (table : Table) (L : Ledger) (n : ℕ) (o : Operation) (stand : HoldersStand table L) (there : slice_get L.ops n ≡ Some o)
    (live : is_live o ≡ true) where
  -- The operation is seen to hold each handle that it holds as a driver sees it.
  is-seen : (h : ℕ) → is_seen h o ≡ has_number h (seen o)
  is-seen h = ap (λ b. b && has_number h (seen o)) live

  -- So operations hold it.
  pub seen-some : (h : ℕ) → has_number h (seen o) ≡ true → 0 < (holders_at table h).operations
  seen-some h names =
      let a = seen-gone L n h o there in
      let b = ap one_if (is-seen h ∙ names) in
      let c = stand.operations h in
      omega (arith, a, b, c)

  -- Once an operation left, its table stands for the ledger in which it is gone.
  pub holders-stand-left : Distinct (seen o) → HoldersStand (without_ops table (seen o)) (with_gone L n)
  holders-stand-left apart = record {
    users = λ h. ap (nat_lt 0) (user-left table (seen o) h) ∙ stand.users h;
    operations = λ h. (
        let a = ops-left table (seen o) apart seen-some h in
        let b = stand.operations h in
        let c = seen-gone L n h o there in
        let d = ap one_if (is-seen h) in
        omega (arith, a, b, c, d));
  }

-- Nobody is among holders exactly where its user doesn't hold the handle, and no operation does.
pub nobody-counts : (held : Holders) → is_nobody held ≡ (not (nat_lt 0 held.user) && (held.operations == 0))
nobody-counts held = ap (λ b. b && (held.operations == 0)) (zero-not held.user) where
  zero-not : (k : ℕ) → (k == 0) ≡ not (nat_lt 0 k)
  zero-not k = grind (arith, nat_tests)

-- Nobody holds a handle in a table exactly where nobody does in the ledger that it stands for, where all that hold it are seen.
pub nobody-unheld : {table : Table} {L : Ledger} → HoldersStand table L → (h : ℕ) → seen_ops L h ≡ holding_ops L h →
    is_nobody (holders_at table h) ≡ is_unheld L h
nobody-unheld {table} {L} stand h all =
    nobody-counts (holders_at table h) ∙ ap (λ b. not b && ((holders_at table h).operations == 0)) (stand.users h)
    ∙ ap (λ k. not (user_holds L h) && (k == 0)) (stand.operations h ∙ ap length all) ∙ sym (unheld-count L h)
