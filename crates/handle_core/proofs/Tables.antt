-- The map of a hash map's entries: what it answers, and what it is after the entries changed at one key.
use Rattle.std.proofs.Common.{◌≡◌, ◌∙◌, ℕ, List, [], ◌∷◌, length, Some, None, Bool, true, false, cond, nat_eq, refl, sym, ap, subst, arith}
use Rattle.std.proofs.lemmas.Bool.Decides.{nat_tests}
use Rattle.std.proofs.lemmas.Map.{lookup-none}
use Rattle.std.proofs.lemmas.Map.Entries.{none_past_head}
use Rattle.std.specs.Ordering.{nat_cmp, eq_by_cmp}
use Rattle.std.specs.Cmp.{nat_cmp_total, nat_eq_equiv}
use Rattle.std.specs.List.{IsDistinct}
use Rattle.std.specs.Prelude.{◌+◌, ◌<◌, IsSome, IsOk, OnOk, is_err, Result, Ok, Err}
use Rattle.std.specs.Map.{lookup, keys_of}
use Rattle.std.specs.HashMap.{HashMap, get_by, Updates, WritesThrough}
use Rattle.std.specs.FinMap.{find, get, insert, remove, len, from_entries, same_map, nat_cmp-IsAntisymmetric}
use Rattle.std.specs.FinMap.{get-from_entries, get-insert, get-remove, len-empty, len-insert}
use Rattle.handle_core.specs.declared.table.Holders.{Holders}
use Rattle.handle_core.specs.declared.table.Released.TheVariants.{Held, Last}
use Rattle.handle_core.specs.Table.{Table, table_of, IsHeld, holders_at, with_holders, without_handle, nobody}

-- Two numbers tie by their order exactly where they are equal.
pub tied-equal : (a b : ℕ) → eq_by_cmp nat_cmp a b ≡ nat_eq a b
tied-equal a b = grind (arith, nat_tests)

-- Equality of numbers has no order.
pub equal-swapped : (a b : ℕ) → nat_eq a b ≡ nat_eq b a
equal-swapped a b = grind (arith, nat_tests)

-- What is said of an answer that is Ok holds where it is.
pub ok-says : {T E P : Type 0} (r : Result T E) → IsOk r → OnOk r P → P
ok-says (Ok x) ok says = says
ok-says (Err e) ok says = cc

-- An answer that is tested not to be an error is Ok.
pub is-ok : {T E : Type 0} (r : Result T E) {test : Bool} → test ≡ is_err r → test ≡ false → IsOk r
is-ok (Ok x) tested not = refl
is-ok (Err e) tested not = cc

-- Of two choices by one test the outer one counts.
pub outermost : {A : Type 0} (b : Bool) (x y z : A) → cond b x (cond b y z) ≡ cond b x z
outermost true x y z = refl
outermost false x y z = refl

module _ {X : Type 0} where
  -- A look-up by the order finds what one by equality does.
  pub find-lookup : (q : ℕ) (es : List (ℕ × X)) → find nat_cmp q es ≡ lookup (nat_eq q) es
  find-lookup q [] = refl
  find-lookup q (e ∷ es) = rw (tied-equal q e.0, find-lookup q es)

  -- The map of entries has at a key what a look-up in the entries finds.
  pub get-lookup : (es : List (ℕ × X)) (q : ℕ) → get (from_entries {R = nat_cmp} es) q ≡ lookup (nat_eq q) es
  get-lookup es q = get-from_entries nat_cmp_total es q ∙ find-lookup q es

  -- The map of entries whose keys differ has as many.
  pub len-from_entries : (es : List (ℕ × X)) → IsDistinct nat_eq (keys_of es) → len (from_entries {R = nat_cmp} es) ≡ length es
  unfolding IsDistinct
  len-from_entries [] apart = len-empty nat_cmp X
  len-from_entries (e ∷ es) apart =
      let unknown : lookup (nat_eq e.0) es ≡ None = lookup-none _ es (none_past_head nat_eq_equiv e.0 e es apart (nat_eq_equiv.refl e.0)) in
      let fresh : get (from_entries {R = nat_cmp} es) e.0 ≡ None = get-lookup es e.0 ∙ unknown in
      len-insert nat_cmp_total (from_entries es) e.0 e.1 ∙ rw fresh (omega (arith, len-from_entries es apart.1))

  -- Entries that answer alike make one map.
  pub same-entries : (es fs : List (ℕ × X)) → ((q : ℕ) → lookup (nat_eq q) fs ≡ lookup (nat_eq q) es)
      → from_entries {R = nat_cmp} fs ≡ from_entries es
  same-entries es fs alike = same_map nat_cmp_total nat_cmp-IsAntisymmetric _ _ (λ q. get-lookup fs q ∙ alike q ∙ sym (get-lookup es q))

  -- Entries that answer alike but for a value at one key make the map with that value.
  pub inserted-entries : (es fs : List (ℕ × X)) (k : ℕ) (v : X)
      → ((q : ℕ) → lookup (nat_eq q) fs ≡ cond (nat_eq k q) (Some v) (lookup (nat_eq q) es))
      → from_entries {R = nat_cmp} fs ≡ insert (from_entries es) k v
  inserted-entries es fs k v put = same_map nat_cmp_total nat_cmp-IsAntisymmetric _ _ (λ q. get-lookup fs q ∙ put q
      ∙ sym (get-insert nat_cmp_total _ k v q ∙ rw (tied-equal q k, equal-swapped q k, get-lookup es q)))

  -- Entries that answer alike but for one key, at which they have none, make the map without it.
  pub removed-entries : (es fs : List (ℕ × X)) (k : ℕ)
      → ((q : ℕ) → lookup (nat_eq q) fs ≡ cond (nat_eq k q) None (lookup (nat_eq q) es))
      → from_entries {R = nat_cmp} fs ≡ remove (from_entries es) k
  removed-entries es fs k taken = same_map nat_cmp_total nat_cmp-IsAntisymmetric _ _ (λ q. get-lookup fs q ∙ taken q
      ∙ sym (get-remove nat_cmp_total _ k q ∙ rw (tied-equal q k, equal-swapped q k, get-lookup es q)))

module _ {S : Type 0} (m : HashMap ℕ Holders S) (spare : ℕ) (table : Table) (is : table_of m.entries spare ≡ table) where
  -- The entries have at a handle what the table has.
  pub answered : (h : ℕ) → get_by (nat_eq h) m ≡ get table.holders h
  answered h = sym (get-lookup m.entries h) ∙ ap (λ t. get t.holders h) is

  -- What a look-up finds is who holds the handle.
  pub found : (h : ℕ) (held : Holders) → Some held ≡ get_by (nat_eq h) m → holders_at table h ≡ held
  found h held there = rw (← answered h, ← there) refl

  -- Nobody holds a handle that a look-up doesn't find.
  pub unfound : (h : ℕ) → None ≡ get_by (nat_eq h) m → holders_at table h ≡ nobody
  unfound h none = rw (← answered h, ← none) refl

  -- A look-up finds a handle of the table.
  pub not-unfound : (h : ℕ) → IsHeld table h → None ≡ get_by (nat_eq h) m → ⊥
  not-unfound h known none = let e = rw (← answered h, ← none) at known in cc

  -- Entries with these holders of one handle, and all else the same, make the table with them.
  pub updated : (n : HashMap ℕ Holders S) (h : ℕ) (held : Holders) → Updates nat_eq m n h (Some held)
      → table_of n.entries spare ≡ with_holders table h held
  updated n h held put = ap (λ k. record { holders = k; spare = spare }) (inserted-entries m.entries n.entries h held put.0)
      ∙ ap (λ t. with_holders t h held) is

  -- So do those in which a look-up's find was overwritten.
  pub written : (n : HashMap ℕ Holders S) (h : ℕ) (was held : Holders) → Some was ≡ get_by (nat_eq h) m
      → WritesThrough nat_eq (nat_eq h) m held n → table_of n.entries spare ≡ with_holders table h held
  written n h was held there writes = updated n h held (writes.3 (subst IsSome there refl))

  -- Entries that lost the handle of a find that was overwritten make the table without it.
  pub removed : (n k : HashMap ℕ Holders S) (h : ℕ) (was held : Holders) → Some was ≡ get_by (nat_eq h) m
      → WritesThrough nat_eq (nat_eq h) m held n → Updates nat_eq n k h None
      → table_of k.entries spare ≡ without_handle table h
  removed n k h was held there writes taken =
      let put = writes.3 (subst IsSome there refl) in
      let once : (q : ℕ) → lookup (nat_eq q) k.entries ≡ cond (nat_eq h q) None (lookup (nat_eq q) m.entries) =
      λ q. taken.0 q ∙ ap (cond (nat_eq h q) None) (put.0 q) ∙ outermost (nat_eq h q) _ _ _ in
      ap (λ l. record { holders = l; spare = spare }) (removed-entries m.entries k.entries h once) ∙ ap (λ t. without_handle t h) is

  -- Entries in another order, with more room, make the table with that room.
  pub reordered : (n : HashMap ℕ Holders S) (room : ℕ) → ((q : ℕ) → get_by (nat_eq q) n ≡ get_by (nat_eq q) m)
      → table_of n.entries room ≡ record table { spare = room }
  reordered n room alike = ap (λ k. record { holders = k; spare = room }) (same-entries m.entries n.entries alike ∙ ap (λ t. t.holders) is)

-- While somebody holds a handle, its holders aren't nobody.
pub held-last : (left : Holders) → 0 < left.user + left.operations → (Held ≡ Last → left ≡ nobody) × (left ≡ nobody → Held ≡ Last)
held-last left some = (
  λ e. cc,
  λ none. absurd (omega (arith, some, ap (λ (h : Holders). h.user) none, ap (λ (h : Holders). h.operations) none)),
)

-- Where no hold is left, the holders are nobody.
pub last-last : (left : Holders) → (0 < left.user + left.operations → ⊥)
    → (Last ≡ Last → left ≡ nobody) × (left ≡ nobody → Last ≡ Last)
last-last left none = (
  λ e.
      let user : left.user ≡ 0 = omega (arith, none) in
      let operations : left.operations ≡ 0 = omega (arith, none) in
      λ i. record { user = user i; operations = operations i },
  λ e. refl,
)
