-- Whether nobody holds a handle, once an operation is gone, a new one came, or its user gave it up.
use Rattle.std.proofs.Common.{◌≡◌, ◌≢◌, inl, inr, ℕ, ◌<◌, Bool, true, false, [], ◌∷◌, ◌++◌, length, map}
use Rattle.std.proofs.Common.{Option, None, Some, option_map, slice_get, refl, sym, ◌∙◌, ap, arith}
use Rattle.std.proofs.Common.{◌⊎◌, ◌≤◌, get_or}
use Rattle.std.specs.Prelude.{if◌then◌else◌}
use Rattle.std.proofs.lemmas.List.{append-nil}
use Rattle.std.proofs.lemmas.Option.{slice_get_cases}
use Rattle.machine.specs.Lists.{is_empty, passes}
use Rattle.machine.specs.Ledger.{Ledger, Operation, Owner, Gone}
use Rattle.machine.specs.Ledger.{user_holds, User, ByOp, is_holding, holding_ops}
use Rattle.machine.specs.Queue.{at_place}
use Rattle.machine.specs.Queue.{is_unheld, with_gone}
use Rattle.machine.specs.Step.{as_user, with_user, with_new_op}
use Rattle.machine.proofs.Numbers.{same-or-not}
use Rattle.machine.proofs.Amended.{changed-cases, there-before, get-amended, get-amended-other}
use Rattle.machine.proofs.Holders.{unheld-is, is-unheld, holding-new_op}

-- What nobody held nobody holds once an operation is gone.
pub unheld-gone : (L : Ledger) (n h : ℕ) → is_unheld L h ≡ true → is_unheld (with_gone L n) h ≡ true
unheld-gone L n h is =
    let u = unheld-is L h is in is-unheld (with_gone L n) h (record {
      user = u.user;
      ops = λ m o there. elim (changed-cases (at_place Gone) L.ops n m) [
        | inl e ↦ (let b = there-before (at_place Gone) (slice_get L.ops n) o (sym e.1 ∙ there) in ap (is_holding h) b.2)
        | inr e ↦ u.ops m o (sym e.1 ∙ there)
      ];
    })

-- A handle that a new operation doesn't hold has the same holders.
pub unheld-new_op : (L : Ledger) (o : Operation) (h : ℕ) → is_holding h o ≡ false → is_unheld (with_new_op L o) h ≡ is_unheld L h
unheld-new_op L o h other =
    ap (λ ns. is_empty ((if user_holds L h then User ∷ [] else []) ++ map ByOp ns))
    (holding-new_op L o h ∙ ap (λ b. holding_ops L h ++ (if b then length L.ops ∷ [] else [])) other ∙ append-nil (holding_ops L h))

-- A handle that nobody holds stays so once an operation came that holds no such handle.
pub unheld-stays : (L : Ledger) (o : Operation) → ((h : ℕ) → is_holding h o ≡ true → is_unheld L h ≡ false) → (h : ℕ) →
    is_unheld L h ≡ true → is_unheld (with_new_op L o) h ≡ true
unheld-stays L o names h is = by (is_holding h o) refl
  where
    by : (b : Bool) → is_holding h o ≡ b → is_unheld (with_new_op L o) h ≡ true
    by true e = (let f : false ≡ true = sym (names h e) ∙ is in let g : ⊥ = cc in absurd g)
    by false e = unheld-new_op L o h e ∙ is

-- Whether the user holds a handle, after it was said of it.
pub user-with_user : (L : Ledger) (h : ℕ) (is_user : Bool) → h < length L.owners → user_holds (with_user L h is_user) h ≡ is_user
user-with_user L h is_user within =
    ap (passes (λ owner. owner.is_user)) (get-amended (as_user is_user) L.owners h) ∙ at (slice_get_cases L.owners h).1
  where
    at : ((o : Owner) × (h < length L.owners) × (slice_get L.owners h ≡ Some o) × (get_or L.owners h o ≡ o))
        ⊎ ((length L.owners ≤ h) × (slice_get L.owners h ≡ None)) →
        passes (λ owner. owner.is_user) (option_map (as_user is_user) (slice_get L.owners h)) ≡ is_user
    at (inl e) = ap (λ x. passes (λ owner. owner.is_user) (option_map (as_user is_user) x)) e.2
    at (inr e) = absurd (let p = e.0 in omega (arith, p, within))

-- After it was said of another one.
pub user-with_user-other : (L : Ledger) (h k : ℕ) (is_user : Bool) → k ≢ h → user_holds (with_user L h is_user) k ≡ user_holds L k
user-with_user-other L h k is_user other = ap (passes (λ owner. owner.is_user)) (get-amended-other (as_user is_user) L.owners h k other)

-- What nobody held nobody holds once a user left.
pub unheld-left : (L : Ledger) (h k : ℕ) → is_unheld L k ≡ true → is_unheld (with_user L h false) k ≡ true
unheld-left L h k is =
    let u = unheld-is L k is in is-unheld (with_user L h false) k (record {
      user = elim (same-or-not k h) [
        | inl e ↦ ap (passes (λ owner. owner.is_user))
            (ap (slice_get (with_user L h false).owners) e ∙ get-amended (as_user false) L.owners h)
            ∙ nobody (slice_get L.owners h)
        | inr e ↦ user-with_user-other L h k false e ∙ u.user
      ];
      ops = u.ops;
    })
  where
    nobody : (x : Option Owner) → passes (λ owner. owner.is_user) (option_map (as_user false) x) ≡ false
    nobody None = refl
    nobody (Some o) = refl
