-- How many tasks have no mark, where one entry of a map changes.
use Rattle.std.proofs.Common.{ℕ, ◌≡◌, ◌+◌, ◌∙◌, ap, sym, refl, subst, Bool, true, false, cond, List, [], ◌∷◌, Some, None, arith}
use Rattle.std.specs.Prelude.{Option, length, ◌≤◌, nat_eq}
use Rattle.std.specs.Map.{lookup, set_value, remove_entry}
use Rattle.std.specs.List.{sum_by}
use Rattle.std.specs.List.Sorted.{IsPermutation}
use Rattle.std.specs.HashMap.{HashMap, get_by, WritesThrough}
use Rattle.std.proofs.lemmas.List.Sorted.{sum_by-IsPermutation}
use Rattle.std.proofs.lemmas.List.Sums.{sum_by-cons}
use Rattle.core_exec.specs.declared.table.Task.{Task}
use Rattle.core_exec.specs.Tasks.{cost, unmarked}

-- None is no value.
pub not_some : {X : Type 0} {x : X} → ◌≡◌ {A = Option X} None (Some x) → ⊥
not_some {X} e = subst (λ (o : Option X). elim o as (λ _. Type 0) [ None ↦ Unit {0} | Some y ↦ ⊥ ]) e tt

-- They are counted one by one.
unmarked_sum : {J : Type 0} (es : List (ℕ × Task J)) → unmarked es ≡ sum_by (λ e. cost (Some e.1)) es
unmarked_sum [] = refl
unmarked_sum (e ∷ es) = ap (λ n. cost (Some e.1) + n) (unmarked_sum es) ∙ sym (sum_by-cons (λ e. cost (Some e.1)) e es)

-- A task is written over another.
pub unmarked-set_value : {J : Type 0} (test : ℕ → Bool) (es : List (ℕ × Task J)) (old new : Task J) → lookup test es ≡ Some old
    → unmarked (set_value test es new) + cost (Some old) ≡ unmarked es + cost (Some new)
unmarked-set_value test [] old new found = absurd (not_some found)
unmarked-set_value test (e ∷ es) old new found = elim (test e.0)
    as (λ b. cond b (Some e.1) (lookup test es) ≡ Some old
    → unmarked (cond b ((e.0, new) ∷ es) (e ∷ set_value test es new)) + cost (Some old) ≡ unmarked (e ∷ es) + cost (Some new)) [
      | true ↦ λ same. let costs : cost (Some e.1) ≡ cost (Some old) = ap cost same in omega (arith, costs)
      | false ↦ λ there. let rest = unmarked-set_value test es old new there in omega (arith, rest)
    ] found

-- A task is taken out.
pub unmarked-remove_entry : {J : Type 0} (test : ℕ → Bool) (es : List (ℕ × Task J)) (old : Task J) → lookup test es ≡ Some old
    → unmarked (remove_entry test es) + cost (Some old) ≡ unmarked es
unmarked-remove_entry test [] old found = absurd (not_some found)
unmarked-remove_entry test (e ∷ es) old found = elim (test e.0)
    as (λ b. cond b (Some e.1) (lookup test es) ≡ Some old
    → unmarked (cond b es (e ∷ remove_entry test es)) + cost (Some old) ≡ unmarked (e ∷ es)) [
      | true ↦ λ same. let costs : cost (Some e.1) ≡ cost (Some old) = ap cost same in omega (arith, costs)
      | false ↦ λ there. let rest = unmarked-remove_entry test es old there in omega (arith, rest)
    ] found

-- In another order as many have no mark.
pub unmarked_permuted : {J : Type 0} (es fs : List (ℕ × Task J)) → IsPermutation es fs → unmarked fs ≡ unmarked es
unmarked_permuted es fs moved =
    unmarked_sum fs ∙ sum_by-IsPermutation (λ e. cost (Some e.1)) es fs moved ∙ sym (unmarked_sum es)

-- No more tasks have no mark than there are.
pub unmarked_within : {J : Type 0} (es : List (ℕ × Task J)) → unmarked es ≤ length es
unmarked_within [] = omega arith
unmarked_within (e ∷ es) = let rest = unmarked_within es in let one : cost (Some e.1) ≤ 1 = elim (e.1.marked) as (λ b. cond b 0 1 ≤ 1)
    [ true ↦ omega arith | false ↦ omega arith ] in omega (arith, rest, one)

-- A task of a map is written over another.
pub unmarked_written : {J S : Type 0} (old new : HashMap ℕ (Task J) S) (t : ℕ) (was now : Task J) → get_by (nat_eq t) old ≡ Some was
    → WritesThrough nat_eq (nat_eq t) old now new → unmarked new.entries + cost (Some was) ≡ unmarked old.entries + cost (Some now)
unmarked_written old new t was now found writes =
    ap (λ es. unmarked es + cost (Some was)) writes.0 ∙ unmarked-set_value (nat_eq t) old.entries was now found

-- A task of a map is taken out.
pub unmarked_removed : {J S : Type 0} (old new : HashMap ℕ (Task J) S) (t : ℕ) (was : Task J) → get_by (nat_eq t) old ≡ Some was
    → IsPermutation (remove_entry (nat_eq t) old.entries) new.entries → unmarked new.entries + cost (Some was) ≡ unmarked old.entries
unmarked_removed old new t was found moved =
    ap (λ n. n + cost (Some was)) (unmarked_permuted _ new.entries moved) ∙ unmarked-remove_entry (nat_eq t) old.entries was found

-- A task is added to a map.
pub unmarked_added : {J S : Type 0} (old new : HashMap ℕ (Task J) S) (t : ℕ) (now : Task J)
    → IsPermutation ((t, now) ∷ old.entries) new.entries → unmarked new.entries ≡ unmarked old.entries + cost (Some now)
unmarked_added old new t now moved = let same = unmarked_permuted ((t, now) ∷ old.entries) new.entries moved in omega (arith, same)
