-- Who holds a handle once an operation was executed, and once a handle that was made is handed over.
use Rattle.std.proofs.Common.{◌≡◌, ◌≢◌, inl, inr, ℕ, ◌<◌, true, false, [], ◌∷◌, ◌++◌, length, Option}
use Rattle.std.proofs.Common.{None, Some, slice_get, refl, sym, ◌∙◌, ap, arith, true≢false, length-append}
use Rattle.machine.specs.declared.request.Told.{Told}
use Rattle.machine.specs.Lists.{has_number, passes}
use Rattle.machine.specs.Request.{named}
use Rattle.machine.specs.Effect.{Effect, made_by}
use Rattle.machine.specs.Ledger.{Ledger, Operation, is_live, user_holds, holds, with_made, is_holding}
use Rattle.machine.specs.Queue.{is_unheld}
use Rattle.machine.specs.Turn.{with_result, with_effect, made_owners}
use Rattle.machine.specs.Step.{as_user, with_user, handed_over}
use Rattle.machine.specs.Closes.{AreKnown}
use Rattle.machine.proofs.Numbers.{same-or-not, below-or-not, and-right}
use Rattle.machine.proofs.Amended.{length-amended, get-amended-same, changed-cases}
use Rattle.machine.proofs.Holders.{unheld-is, is-unheld, unheld-at, held-by_op, held-by_user, holders-own}
use Rattle.machine.proofs.Users.{user-with_user, user-with_user-other}
use Rattle.machine.proofs.Leaving.{holds-named, has-last}
use Rattle.machine.proofs.Turning.{Grows, owner-before}
use Rattle.machine.proofs.Unheld.{Closing, closing-same}
use Rattle.machine.proofs.Alone.{fails-by}

-- A handle that somebody holds, and that its user comes to hold.
closing-user : (L : Ledger) (h : ℕ) → h < length L.owners → is_unheld L h ≡ false → Closing L (with_user L h true)
closing-user L h within held = record {
  count = length-amended (as_user true) L.owners h;
  stays = λ k is. same k (λ e. true≢false (sym is ∙ ap (is_unheld L) e ∙ held)) ∙ is;
  closes = λ k is. refl;
  comes = λ k inside somebody nobody. elim (same-or-not k h) [
    | inl e ↦ absurd (true≢false (sym nobody
        ∙ held-by_user (with_user L h true) k (ap (user_holds (with_user L h true)) e ∙ user-with_user L h true within)))
    | inr e ↦ absurd (true≢false (sym nobody ∙ same k e ∙ somebody))
  ];
}
  where
    same : (k : ℕ) → k ≢ h → is_unheld (with_user L h true) k ≡ is_unheld L k
    same k apart = unheld-at L (with_user L h true) k (user-with_user-other L h k true apart) refl

-- A handle that was made and that somebody holds, where there is one, is handed over.
pub closing-handed : (L : Ledger) (made : Option ℕ) → ((h : ℕ) → made ≡ Some h → (h < length L.owners) × (is_unheld L h ≡ false)) →
    Closing L (handed_over L made)
closing-handed L None held = closing-same L L refl (holders-own L) (λ h. refl)
closing-handed L (Some h) held = closing-user L h (held h refl).0 (held h refl).1

-- An operation that made nothing yet, and isn't gone, is executed.
module _ (L : Ledger) (n : ℕ) (o : Operation) (told : Told) (result : Effect) (grows : Grows L.world result) (known : AreKnown L)
    (there : slice_get L.ops n ≡ Some o) (live : is_live o ≡ true) (none : o.made ≡ None) where
  -- It is there, with its result.
  result-there : slice_get (with_effect L n told result).ops n ≡ Some (with_result told result o)
  result-there = get-amended-same (with_result told result) L.ops n o there

  -- What it held it holds still.
  result-keeps : (h : ℕ) → is_holding h (with_result told result o) ≡ false → is_holding h o ≡ false
  result-keeps h other = fails-by (is_holding h o) (λ is.
      let names : has_number h (named o.request) ≡ true = ap (λ m. has_number h (with_made m (named o.request))) (sym none)
      ∙ and-right (is_live o) (has_number h (holds o)) is in
      true≢false (sym (holds-named h (made_by result.outcome) (named o.request) names) ∙ other))

  -- A handle that nobody holds after it was there before.
  before : (h : ℕ) → (made : Option ℕ) → made_by result.outcome ≡ made → h < length (with_effect L n told result).owners →
      is_unheld (with_effect L n told result) h ≡ true → h < length L.owners
  before h None e within is =
      let count = length-append L.owners (made_owners (made_by result.outcome)) in
      let zero : length (made_owners (made_by result.outcome)) ≡ 0 = ap (λ m. length (made_owners m)) e in
      omega (arith, count, zero, within)
  before h (Some k) e within is = elim (below-or-not h (length L.owners)) [
    | inl lt ↦ lt
    | inr past ↦ (
        let count = length-append L.owners (made_owners (made_by result.outcome)) in
        let one : length (made_owners (made_by result.outcome)) ≡ 1 = ap (λ m. length (made_owners m)) e in
        let last = grows.last k e in
        let t = known.together in
        let at : h ≡ k = omega (arith, count, one, within, past, last, t) in
        let holding : is_holding h (with_result told result o) ≡ true =
        ap (λ m. has_number h (with_made m (named o.request))) e ∙ ap (λ j. has_number h (named o.request ++ j ∷ [])) (sym at)
        ∙ has-last h (named o.request) in
        absurd (true≢false (sym is ∙ held-by_op (with_effect L n told result) h n (with_result told result o) result-there holding)))
  ]

  -- Nobody held it before.
  pub unheld-before : (h : ℕ) → h < length (with_effect L n told result).owners → is_unheld (with_effect L n told result) h ≡ true →
      (h < length L.owners) × (is_unheld L h ≡ true)
  unheld-before h within is =
      let lt = before h (made_by result.outcome) refl within is in
      let u = unheld-is (with_effect L n told result) h is in (
        lt,
        is-unheld L h (record {
          user = ap (passes (λ owner. owner.is_user)) (sym (owner-before L.owners (made_by result.outcome) h lt)) ∙ u.user;
          ops = λ m q at. elim (changed-cases (with_result told result) L.ops n m) [
            | inl e ↦ (
                let q' : o ≡ q = (let w = sym there ∙ ap (slice_get L.ops) (sym e.0) ∙ at in cc) in
                ap (is_holding h) (sym q') ∙ result-keeps h (u.ops n (with_result told result o) result-there))
            | inr e ↦ u.ops m q (e.1 ∙ at)
          ];
        }),
      )
