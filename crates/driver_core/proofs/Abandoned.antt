-- An operation that is dropped and gone leaves what one leaves that is gone.
use Rattle.std.proofs.Common.{◌≡◌, ◌∙◌, ℕ, zero, suc, Bool, cond, not, List, [], ◌∷◌, length, refl, ap, if◌then◌else◌}
use Rattle.std.specs.Prelude.{◌&&◌, filter}
use Rattle.machine.specs.Lists.{amended, numbers_where, numbers_below}
use Rattle.machine.specs.Ledger.{Ledger, Operation, Gone, is_holding}
use Rattle.machine.specs.Queue.{at_place, with_op, with_gone, is_unheld, became_unheld}
use Rattle.machine.specs.Step.{with_drop}
use Rattle.machine.proofs.Where.{where-kept}
use Rattle.machine.proofs.Holders.{unheld-at}
use Rattle.driver_core.specs.Holds.{is_seen}
use Rattle.driver_core.proofs.Seen.{SameSeen}

-- Two changes of one element after which it passes a test alike.
where-twice : (test : Operation → Bool) (f g : Operation → Operation) (xs : List Operation) (n k : ℕ) →
    ((x : Operation) → test (g (f x)) ≡ test (g x)) →
    numbers_where test k (amended (amended xs n f) n g) ≡ numbers_where test k (amended xs n g)
where-twice test f g [] n k alike = refl
where-twice test f g (x ∷ xs) zero k alike =
    ap (λ b. if b then k ∷ numbers_where test (suc k) xs else numbers_where test (suc k) xs) (alike x)
where-twice test f g (x ∷ xs) (suc n) k alike =
    ap (λ ns. if test x then k ∷ ns else ns) (where-twice test f g xs n (suc k) alike)

-- Tests that agree let the same ones pass.
filter-agree : (p q : ℕ → Bool) (xs : List ℕ) → ((x : ℕ) → p x ≡ q x) → filter p xs ≡ filter q xs
filter-agree p q [] agree = refl
filter-agree p q (x ∷ xs) agree =
    ap (λ b. cond b (x ∷ filter p xs) (filter p xs)) (agree x) ∙ ap (λ ys. cond (q x) (x ∷ ys) ys) (filter-agree p q xs agree)

module _ (L : Ledger) (n : ℕ) where
  -- The same are seen to hold each handle.
  pub seen-abandoned : SameSeen (with_gone L n) (with_gone (with_op L n with_drop) n)
  seen-abandoned = record { users = λ h. refl; ops = λ h. where-twice (is_seen h) with_drop (at_place Gone) L.ops n 0 (λ x. refl) }

  -- Nobody holds a handle where nobody would.
  pub unheld-abandoned : (h : ℕ) → is_unheld (with_gone (with_op L n with_drop) n) h ≡ is_unheld (with_gone L n) h
  unheld-abandoned h = unheld-at (with_gone L n) (with_gone (with_op L n with_drop) n) h refl
      (where-twice (is_holding h) with_drop (at_place Gone) L.ops n 0 (λ x. refl))

  -- A drop alone leaves who holds what.
  unheld-dropped : (h : ℕ) → is_unheld (with_op L n with_drop) h ≡ is_unheld L h
  unheld-dropped h = unheld-at L (with_op L n with_drop) h refl (where-kept (is_holding h) with_drop L.ops n 0 (λ x there. refl))

  -- The holders of the same handles became none.
  pub became-abandoned : became_unheld (with_op L n with_drop) (with_gone (with_op L n with_drop) n) ≡ became_unheld L (with_gone L n)
  became-abandoned = filter-agree
      (λ h. not (is_unheld (with_op L n with_drop) h) && is_unheld (with_gone (with_op L n with_drop) n) h)
      (λ h. not (is_unheld L h) && is_unheld (with_gone L n) h) (numbers_below (length L.owners))
      (λ h. ap (λ b. not b && is_unheld (with_gone (with_op L n with_drop) n) h) (unheld-dropped h)
      ∙ ap (λ b. not (is_unheld L h) && b) (unheld-abandoned h))
