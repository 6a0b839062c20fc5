-- Removing a number from numbers in order.
use Rattle.std.proofs.Common.{◌≡◌, ◌∙◌, ℕ, ◌<◌, List, [], ◌∷◌, true, false, refl, sym, ap, subst, arith, eqb-true, eq-eqb, ne_eqb}
use Rattle.std.specs.Prelude.{◌==◌}
use Rattle.std.specs.List.{AllByRecursion}
use Rattle.std.specs.List.Sorted.{IsStrictlySortedBy}
use Rattle.std.specs.Ordering.{nat_cmp}
use Rattle.std.specs.declared.cmp.Ordering.TheVariants.{Less}
use Rattle.std.specs.Cmp.{ranked, unsigned_tied}
use Rattle.std.specs.BTreeMap.{is_at}
use Rattle.std.specs.Set.{remove_key}
use Rattle.std.proofs.lemmas.Bool.{eqb-false}
use Rattle.std.proofs.lemmas.Map.Keys.{sorted_head, sorted_tail}
use Rattle.cancel_core.specs.Group.{without}

-- Numbers that are all greater than one are the same without it.
without-above : (ks : List ℕ) (n : ℕ) → AllByRecursion (λ k. nat_cmp n k ≡ Less) ks → without ks n ≡ ks
without-above [] n above = refl
without-above (k ∷ ks) n above =
    let more : n < k = ranked n k Less (sym above.0) in
    let apart : (k == n) ≡ false = ne_eqb k n (λ same. omega (arith, same, more)) in
    rw apart (ap (λ l. k ∷ l) (without-above ks n above.1))

-- Numbers in order without the first that is equal to one are those without it.
pub removed_from_sorted : (ks : List ℕ) (n : ℕ) → IsStrictlySortedBy nat_cmp ks → remove_key (is_at (nat_cmp n)) ks ≡ without ks n
removed_from_sorted [] n sorted = refl
removed_from_sorted (k ∷ ks) n sorted =
    let rest = removed_from_sorted ks n (sorted_tail nat_cmp k ks sorted) in
    elim (k == n) as (λ b. (k == n) ≡ b → remove_key (is_at (nat_cmp n)) (k ∷ ks) ≡ without (k ∷ ks) n) [
      | true ↦ λ e.
          let same : k ≡ n = eqb-true k n e in
          let found : is_at (nat_cmp n) k ≡ true = unsigned_tied n k ∙ eq-eqb n k (sym same) in
          rw (found, e) (sym (without-above ks n
          (subst (λ m. AllByRecursion (λ y. nat_cmp m y ≡ Less) ks) same (sorted_head nat_cmp k ks sorted))))
      | false ↦ λ e.
          let apart : is_at (nat_cmp n) k ≡ false = unsigned_tied n k ∙ ne_eqb n k (λ same. eqb-false k n e (sym same)) in
          rw (apart, e) (ap (λ l. k ∷ l) rest)
    ] refl
