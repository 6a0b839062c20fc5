-- A tree of numbers and values, as the finite map of its entries.
use Rattle.std.proofs.Common.{◌≡◌, ℕ, cond, List, [], ◌∷◌, Some, None, IsSome, BTreeMap, refl, sym, ◌∙◌, ap, nat_cmp}
use Rattle.std.specs.Ordering.{eq_by_cmp}
use Rattle.std.specs.Cmp.{nat_cmp_total, eq_by_cmp_equiv}
use Rattle.std.specs.FinMap.{find, from_entries, insert, remove, get-from_entries, get-insert, get-remove, same_map}
use Rattle.std.specs.FinMap.{nat_cmp-IsAntisymmetric}
use Rattle.std.specs.FinMap as map
use Rattle.std.specs.Map.{lookup}
use Rattle.std.specs.BTreeMap.{get_by, is_at, UpdatesBy, WritesThrough}
use Rattle.std.specs.BTreeMap as tree

-- The first entry at a number is the same by a test as by the order.
lookup-find : {X : Type 0} (es : List (ℕ × X)) (q : ℕ) → lookup (is_at (nat_cmp q)) es ≡ find nat_cmp q es
lookup-find [] q = refl
lookup-find (e ∷ es) q = ap (cond (is_at (nat_cmp q) e.0) (Some e.1)) (lookup-find es q)

-- A tree has at a number what its map has there.
pub tree_get : {X : Type 0} (m : BTreeMap ℕ X) (q : ℕ) → get_by (nat_cmp q) m ≡ map.get (from_entries {R = nat_cmp} m.entries) q
tree_get m q = lookup-find m.entries q ∙ sym (get-from_entries nat_cmp_total m.entries q)

-- A tree with another value at a number is the map with that value put there.
pub tree_put : {X : Type 0} (old new : BTreeMap ℕ X) (k : ℕ) (v : X) → UpdatesBy nat_cmp (nat_cmp k) old new (Some v)
    → from_entries {R = nat_cmp} new.entries ≡ insert (from_entries old.entries) k v
tree_put old new k v updates = same_map nat_cmp_total nat_cmp-IsAntisymmetric _ _ (λ q. sym (tree_get new q) ∙ updates.0 q
    ∙ ap (λ b. cond b (Some v) (tree.get nat_cmp old q)) ((eq_by_cmp_equiv nat_cmp_total).symm k q)
    ∙ ap (cond (eq_by_cmp nat_cmp q k) (Some v)) (tree_get old q) ∙ sym (get-insert nat_cmp_total (from_entries old.entries) k v q))

-- A tree without the value at a number is the map without it.
pub tree_removed : {X : Type 0} (old new : BTreeMap ℕ X) (k : ℕ) → UpdatesBy nat_cmp (nat_cmp k) old new None
    → from_entries {R = nat_cmp} new.entries ≡ remove (from_entries old.entries) k
tree_removed old new k updates = same_map nat_cmp_total nat_cmp-IsAntisymmetric _ _ (λ q. sym (tree_get new q) ∙ updates.0 q
    ∙ ap (λ b. cond b None (tree.get nat_cmp old q)) ((eq_by_cmp_equiv nat_cmp_total).symm k q)
    ∙ ap (cond (eq_by_cmp nat_cmp q k) None) (tree_get old q) ∙ sym (get-remove nat_cmp_total (from_entries old.entries) k q))

-- A tree with another value written at a number that it has is the map with that value put there.
pub tree_written : {X : Type 0} (old new : BTreeMap ℕ X) (k : ℕ) (v : X) → IsSome (get_by (nat_cmp k) old) →
    WritesThrough nat_cmp (nat_cmp k) old v new → from_entries {R = nat_cmp} new.entries ≡ insert (from_entries old.entries) k v
tree_written old new k v there writes = tree_put old new k v (writes.3 there)
