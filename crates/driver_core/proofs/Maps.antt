-- A finite map by numbers after a write and after a removal.
use Rattle.std.proofs.Common.{◌≡◌, ◌≢◌, inl, inr, ℕ, zero, suc, ◌+◌, ◌-◌, ◌<◌, Bool, true, false, cond, Some, None, refl, sym, ◌∙◌, ap}
use Rattle.std.proofs.Common.{arith}
use Rattle.std.specs.Prelude.{is_some}
use Rattle.std.specs.Ordering.{nat_cmp}
use Rattle.std.specs.Cmp.{nat_cmp_total}
use Rattle.std.specs.FinMap.{FinMap, get, insert, remove, len, get-empty, empty_of_len, get-insert, get-remove, len-insert, len-remove}
use Rattle.std.specs.FinMap.{same_map}
use Rattle.std.specs.FinMap.{nat_cmp-IsAntisymmetric}
use Rattle.op_slots.proofs.Places.{same, differ}
use Rattle.machine.proofs.Numbers.{same-or-not}

-- What was written at a key is there, and all else stays.
pub put-same : {X : Type 0} (m : FinMap nat_cmp X) (k : ℕ) (v : X) → get (insert m k v) k ≡ Some v
put-same m k v = get-insert nat_cmp_total m k v k ∙ ap (λ b. cond b (Some v) (get m k)) (same k k refl)

-- A write at a key leaves every other key.
pub put-other : {X : Type 0} (m : FinMap nat_cmp X) (k : ℕ) (v : X) (q : ℕ) → q ≢ k → get (insert m k v) q ≡ get m q
put-other m k v q h = get-insert nat_cmp_total m k v q ∙ ap (λ b. cond b (Some v) (get m q)) (differ q k h)

-- What was removed isn't there, and all else stays.
pub gone-same : {X : Type 0} (m : FinMap nat_cmp X) (k : ℕ) → get (remove m k) k ≡ None
gone-same m k = get-remove nat_cmp_total m k k ∙ ap (λ b. cond b None (get m k)) (same k k refl)

-- A removal of a key leaves every other key.
pub gone-other : {X : Type 0} (m : FinMap nat_cmp X) (k q : ℕ) → q ≢ k → get (remove m k) q ≡ get m q
gone-other m k q h = get-remove nat_cmp_total m k q ∙ ap (λ b. cond b None (get m q)) (differ q k h)

-- How many keys there are.
pub len-put : {X : Type 0} (m : FinMap nat_cmp X) (k : ℕ) (v w : X) → get m k ≡ Some w → len (insert m k v) ≡ len m
len-put m k v w h = len-insert nat_cmp_total m k v ∙ ap (λ o. cond (is_some o) (len m) (len m + 1)) h

-- A write at a new key makes them one more.
pub len-new : {X : Type 0} (m : FinMap nat_cmp X) (k : ℕ) (v : X) → get m k ≡ None → len (insert m k v) ≡ len m + 1
len-new m k v h = len-insert nat_cmp_total m k v ∙ ap (λ o. cond (is_some o) (len m) (len m + 1)) h

-- A removal of a key that is there makes them one less.
pub len-gone : {X : Type 0} (m : FinMap nat_cmp X) (k : ℕ) (w : X) → get m k ≡ Some w → len (remove m k) ≡ len m - 1
len-gone m k w h = len-remove nat_cmp_total m k ∙ ap (λ o. cond (is_some o) (len m - 1) (len m)) h

-- A number that isn't 0 is above 0.
pub above : (k : ℕ) → (k ≡ 0 → ⊥) → 0 < k
above zero h = absurd (h refl)
above (suc k) h = omega arith

-- A map with something at a key has at least one key.
pub len-some : {X : Type 0} (m : FinMap nat_cmp X) (k : ℕ) → is_some (get m k) ≡ true → 0 < len m
len-some {X} m k h = above (len m) (λ z.
    let e = ap (λ (x : FinMap nat_cmp X). is_some (get x k)) (empty_of_len m z) ∙ ap is_some (get-empty {X = X} nat_cmp k) in
    let f : ◌≡◌ {A = Bool} true false = sym h ∙ e in cc)

-- What is written at a key that is removed then doesn't matter.
pub remove-put : {X : Type 0} (m : FinMap nat_cmp X) (k : ℕ) (v : X) → remove (insert m k v) k ≡ remove m k
remove-put m k v = same_map nat_cmp_total nat_cmp-IsAntisymmetric _ _ (λ q. elim (same-or-not q k) [
  | inl e ↦ ap (get (remove (insert m k v) k)) e ∙ gone-same (insert m k v) k ∙ sym (gone-same m k) ∙ ap (get (remove m k)) (sym e)
  | inr e ↦ gone-other (insert m k v) k q e ∙ put-other m k v q e ∙ sym (gone-other m k q e)
])

-- What is written twice at a key is written once.
pub put-twice : {X : Type 0} (m : FinMap nat_cmp X) (k : ℕ) (v w : X) → insert (insert m k v) k w ≡ insert m k w
put-twice m k v w = same_map nat_cmp_total nat_cmp-IsAntisymmetric _ _ (λ q. elim (same-or-not q k) [
  | inl e ↦ ap (get (insert (insert m k v) k w)) e ∙ put-same (insert m k v) k w ∙ sym (put-same m k w) ∙ ap (get (insert m k w)) (sym e)
  | inr e ↦ put-other (insert m k v) k w q e ∙ put-other m k v q e ∙ sym (put-other m k w q e)
])

-- What is there is written again.
pub put-self : {X : Type 0} (m : FinMap nat_cmp X) (k : ℕ) (v : X) → get m k ≡ Some v → insert m k v ≡ m
put-self m k v h = same_map nat_cmp_total nat_cmp-IsAntisymmetric _ _ (λ q. elim (same-or-not q k) [
  | inl e ↦ ap (get (insert m k v)) e ∙ put-same m k v ∙ sym (ap (get m) e ∙ h)
  | inr e ↦ put-other m k v q e
])
