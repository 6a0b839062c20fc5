-- What a table's body keeps true, through each change of its map.
use Rattle.std.proofs.Common.{◌≡◌, ◌∙◌, ℕ, [], Option, Some, None, Bool, true, false, cond, nat_eq, refl, sym, ap, subst, arith}
use Rattle.std.specs.Prelude.{◌+◌, ◌-◌, ◌<◌, ◌≤◌, unwrap_or}
use Rattle.std.specs.Ordering.{nat_cmp}
use Rattle.std.specs.Cmp.{nat_cmp_total}
use Rattle.std.specs.HashMap.{HashMap, get_by, spare, Updates, WritesThrough}
use Rattle.std.specs.FinMap.{get, get-insert, get-remove, get-empty}
use Rattle.handle_core.specs.declared.table.Holders.{Holders}
use Rattle.handle_core.specs.Table.{Table, table_of, with_holders, without_handle, AreHeld, IsKept}
use Rattle.handle_core.proofs.Tables.{updated, written, removed, reordered}

-- What a map has at a key with another value is that value, or what it had.
pub one-of : (b : Bool) (was : Option Holders) (held found : Holders) → 0 < held.user + held.operations
    → (was ≡ Some found → 0 < found.user + found.operations) → cond b (Some held) was ≡ Some found → 0 < found.user + found.operations
one-of true was held found some others is =
    subst (λ (h : Holders). 0 < h.user + h.operations) (ap (λ o. unwrap_or o held) is) some
one-of false was held found some others is = others is

-- What a map has without a key it had with it.
pub if-there : (b : Bool) (was : Option Holders) (found : Holders) → (was ≡ Some found → 0 < found.user + found.operations)
    → cond b None was ≡ Some found → 0 < found.user + found.operations
if-there true was found others is = cc
if-there false was found others is = others is

-- Each handle has a holder still, where one has these.
pub held-with : (table : Table) (h : ℕ) (held : Holders) → AreHeld table → 0 < held.user + held.operations
    → AreHeld (with_holders table h held)
held-with table h held all some = λ q found is. one-of _ (get table.holders q) held found some (all q found)
    (sym (get-insert nat_cmp_total table.holders h held q) ∙ is)

-- Each handle has a holder still, where one is gone.
pub held-without : (table : Table) (h : ℕ) → AreHeld table → AreHeld (without_handle table h)
held-without table h all = λ q found is. if-there _ (get table.holders q) found (all q found)
    (sym (get-remove nat_cmp_total table.holders h q) ∙ is)

module _ {S : Type 0} where
  -- A map with no entries keeps it.
  pub kept-empty : (m : HashMap ℕ Holders S) → m.entries ≡ [] → IsKept m 0
  kept-empty m none = record {
    room = omega arith;
    held = subst (λ es. AreHeld (table_of es 0)) (sym none) (λ q found is. let e = get-empty {X = Holders} nat_cmp q in cc);
  }

module _ {S : Type 0} (m : HashMap ℕ Holders S) (reserved : ℕ) (kept : IsKept m reserved) where
  -- A map in another order, with this room.
  pub kept-reordered : (n : HashMap ℕ Holders S) (room : ℕ) → ((q : ℕ) → get_by (nat_eq q) n ≡ get_by (nat_eq q) m) → room ≤ spare n
      → IsKept n room
  kept-reordered n room alike fits = record {
    room = fits;
    held = subst AreHeld (sym (reordered m reserved _ refl n room alike)) kept.held;
  }

  -- A map with one more handle takes one place of the room.
  pub kept-updated : (n : HashMap ℕ Holders S) (h : ℕ) (held : Holders) → Updates nat_eq m n h (Some held) → spare m ≤ spare n + 1
      → 0 < held.user + held.operations → IsKept n (reserved - 1)
  kept-updated n h held put fits some = record {
    room = omega (arith, kept.room, fits);
    held = subst AreHeld (sym (updated m reserved _ refl n h held put)) (held-with (table_of m.entries reserved) h held kept.held some);
  }

  -- A map in which a look-up's find was overwritten by some holders.
  pub kept-written : (n : HashMap ℕ Holders S) (h : ℕ) (was held : Holders) → Some was ≡ get_by (nat_eq h) m
      → WritesThrough nat_eq (nat_eq h) m held n → 0 < held.user + held.operations → IsKept n reserved
  kept-written n h was held there writes some = record {
    room = omega (arith, kept.room, writes.6);
    held = subst AreHeld (sym (written m reserved _ refl n h was held there writes))
        (held-with (table_of m.entries reserved) h held kept.held some);
  }

  -- A map that lost a find that was overwritten.
  pub kept-removed : (n k : HashMap ℕ Holders S) (h : ℕ) (was held : Holders) → Some was ≡ get_by (nat_eq h) m
      → WritesThrough nat_eq (nat_eq h) m held n → Updates nat_eq n k h None → spare n ≤ spare k → IsKept k reserved
  kept-removed n k h was held there writes taken fits = record {
    room = omega (arith, kept.room, writes.6, fits);
    held = subst AreHeld (sym (removed m reserved _ refl n k h was held there writes taken))
        (held-without (table_of m.entries reserved) h kept.held);
  }
