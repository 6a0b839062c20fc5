-- A close is named only after each operation on its handle, and the one that made it, was over.
use Rattle.std.proofs.Common.{◌≡◌, inl, inr, ℕ, zero, suc, ◌+◌, ◌-◌, ◌≤◌, ◌<◌, Bool, true, false, ◌&&◌, List, length, Option}
use Rattle.std.proofs.Common.{None, Some, slice_get, refl, sym, ◌∙◌, ap, subst, arith}
use Rattle.std.proofs.lemmas.Option.{slice_get_cases, slice_get_within}
use Rattle.machine.specs.declared.ledger.Event.{Event}
use Rattle.machine.specs.declared.ledger.Refusal.{Refusal}
use Rattle.machine.specs.declared.ledger.Event.TheVariants.{Submit}
use Rattle.machine.specs.declared.ledger.Reply.TheVariants.{Submitted, Refused}
use Rattle.machine.specs.Lists.{has_number}
use Rattle.machine.specs.Request.{named}
use Rattle.machine.specs.Ledger.{Ledger, Operation, Place, InQueue, InFlight, InDone, Reaped, Gone, empty, is_kept, holds}
use Rattle.machine.specs.Queue.{is_unheld}
use Rattle.machine.specs.Refusal.{cause}
use Rattle.machine.specs.Run.{ledger_before, IsGiven}
use Rattle.run_laws.specs.Moments.{IsReapedBefore}
use Rattle.run_laws.specs.Closes.{IsGivenOn, IsOverBefore}
use Rattle.run_laws.specs.Closes.{ClosedWhenOver, ClosedWhenMakerOver}
use Rattle.machine.proofs.Numbers.{same-or-not, below-or-above}
use Rattle.machine.proofs.Holders.{unheld-is}
use Rattle.machine.proofs.Leaving.{holds-named}
use Rattle.machine.proofs.Stepping.{step-refused, submitted-held}
use Rattle.run_laws.proofs.Replies.{reply-at, after-next}
use Rattle.run_laws.proofs.Moments.{Placed, Owned, History}
use Rattle.run_laws.proofs.Polls.{traced, given-once}
use Rattle.run_laws.proofs.Made.{over-by, made-before, maker-over}
use Rattle.run_laws.proofs.Closed.{answers, ends, event-of, Named, named-at}

module _ (capacity : ℕ) (events : List Event) where
  -- A place other than Gone, by the test that isn't passed.
  gone-by : (n i : ℕ) (o : Operation) (p : Place) → is_kept p ≡ false → Placed capacity events i n o.buffer p →
      IsReapedBefore capacity events n i
  gone-by n i o InQueue left placed = (let f : ⊥ = cc in absurd f)
  gone-by n i o InFlight left placed = (let f : ⊥ = cc in absurd f)
  gone-by n i o (InDone outcome) left placed = (let f : ⊥ = cc in absurd f)
  gone-by n i o (Reaped outcome) left placed = (let f : ⊥ = cc in absurd f)
  gone-by n i o Gone left placed = placed

  -- A test that passes beside another one that fails as a whole.
  and-fails : (a b : Bool) → (a && b) ≡ false → b ≡ true → a ≡ false
  and-fails true b both passes = (let f : true ≡ false = sym passes ∙ both in let g : ⊥ = cc in absurd g)
  and-fails false b both passes = refl

  module _ (h n i j : ℕ) (x : IsGivenOn capacity events n h j) where
    -- An operation that was submitted before is over where nobody holds a handle that it names.
    over-at : (y : Option Operation) → slice_get (ledger_before capacity events i).ops n ≡ y → j < i → History capacity events i n y →
        is_unheld (ledger_before capacity events i) h ≡ true → IsOverBefore capacity events (answers capacity events) n i
    over-at None there lt past unheld = absurd (past.ungiven j lt x.given)
    over-at (Some o) there lt past unheld =
        let g : IsGiven capacity events n past.given.at =
        record {
          request = o.request;
          under = past.given.under;
          linked = past.given.linked;
          event = past.given.event;
          reply = past.given.reply;
        } in
        let same : past.given.at ≡ j = given-once capacity events n past.given.at j g x.given in
        let request : o.request ≡ x.given.request =
        (let q = sym past.given.event ∙ ap (slice_get events) same ∙ x.given.event in cc) in
        let names : has_number h (named o.request) ≡ true = ap (λ r. has_number h (named r)) request ∙ x.names in
        let holding = (unheld-is (ledger_before capacity events i) h unheld).ops n o there in
        let left : is_kept o.place ≡ false = and-fails (is_kept o.place) (has_number h (holds o)) holding
        (holds-named h o.made (named o.request) names) in
        over-by capacity events n i o.dropped (subst (Owned capacity events i n o.dropped) left past.owned)
        (gone-by n i o o.place left past.placed)

  -- A handle that nobody holds, and is there, is so before each later event.
  unheld-later : (h i count : ℕ) → i + count ≤ length events → h < length (ledger_before capacity events i).owners →
      is_unheld (ledger_before capacity events i) h ≡ true →
      (h < length (ledger_before capacity events (i + count)).owners) × (is_unheld (ledger_before capacity events (i + count)) h ≡ true)
  unheld-later h i zero inside within is =
      let same : i ≡ i + 0 = omega arith in
      subst (λ k. (h < length (ledger_before capacity events k).owners) × (is_unheld (ledger_before capacity events k) h ≡ true)) same
      (within, is)
  unheld-later h i (suc count) inside within is =
      let before = unheld-later h i count (omega (arith, inside)) within is in
      let k : ℕ = i + count in
      let next : suc k ≡ i + suc count = omega arith in
      elim (slice_get_cases events k).1 [
        | inl e ↦ (
            let one = ends capacity events k e.0 e.2 in
            subst (λ m. (h < length (ledger_before capacity events m).owners) × (is_unheld (ledger_before capacity events m) h ≡ true)) next
            (subst (λ K. (h < length K.owners) × (is_unheld K h ≡ true)) (sym (after-next (empty capacity) events k e.0 e.2))
            ((let m = one.more in let w = before.0 in omega (arith, m, w)), one.stays h before.0 before.1)))
        | inr e ↦ absurd (let l = e.0 in omega (arith, l, inside))
      ]

  -- What was answered with a number wasn't refused.
  given-unrefused : (i n : ℕ) (e : Event) (c : Option Refusal) → slice_get events i ≡ Some e →
      slice_get (answers capacity events) i ≡ Some (Submitted n) → cause (ledger_before capacity events i) e ≡ c →
      cause (ledger_before capacity events i) e ≡ None
  given-unrefused i n e None here reply is = is
  given-unrefused i n e (Some refusal) here reply is =
      let refused = reply-at (empty capacity) events i e here
      ∙ ap (λ s. Some s.1) (step-refused (ledger_before capacity events i) e refusal is) in
      (let q : Some (Submitted n) ≡ Some (Refused refusal) = sym reply ∙ refused in let f : ⊥ = cc in absurd f)

  -- No operation is submitted on a handle that nobody holds, and that is there.
  unheld-ungiven : (h n i j : ℕ) → i < j → h < length (ledger_before capacity events i).owners →
      is_unheld (ledger_before capacity events i) h ≡ true → IsGivenOn capacity events n h j → ⊥
  unheld-ungiven h n i j lt within is x =
      let inside = slice_get_within events j (Submit x.given.request x.given.under x.given.linked) x.given.event in
      let at : i + (j - i) ≡ j = omega arith in
      let later = unheld-later h i (j - i) (omega (arith, at, inside)) within is in
      let L : Ledger = ledger_before capacity events j in
      let unheld : is_unheld L h ≡ true = subst (λ k. is_unheld (ledger_before capacity events k) h ≡ true) at later.1 in
      let e : Event = Submit x.given.request x.given.under x.given.linked in
      let unrefused = given-unrefused j n e (cause L e) x.given.event x.given.reply refl in
      let f : true ≡ false = sym (submitted-held L x.given.request x.given.under x.given.linked unrefused h x.names)
      ∙ (unheld-is L h unheld).user in
      cc

  -- A Turn names the close of a handle only after each operation on it was over.
  pub closed-when-over : ClosedWhenOver capacity events (answers capacity events)
  closed-when-over h n i j place x y =
      let e = event-of capacity events h i place x in
      let N : Named capacity events i e.0 e.1 h = named-at capacity events h i place x e.0 e.1 in
      elim (same-or-not j i) [
        | inl same ↦ (let q = sym y.given.reply ∙ ap (slice_get (answers capacity events)) same ∙ x.reply in
            let f : ⊥ = cc in absurd f)
        | inr apart ↦ elim (below-or-above j i apart) [
          | inl lt ↦ over-at h n i j y (slice_get (ledger_before capacity events i).ops n) refl lt
              ((traced capacity events i e.0 e.1).history n) N.unheld
          | inr gt ↦ absurd (unheld-ungiven h n i j gt N.within N.unheld y)
        ]
      ]

  -- Nor before the operation that made it was over.
  pub closed-when-maker-over : ClosedWhenMakerOver capacity events (answers capacity events)
  closed-when-maker-over h n i place x m =
      let e = event-of capacity events h i place x in
      let N : Named capacity events i e.0 e.1 h = named-at capacity events h i place x e.0 e.1 in
      maker-over capacity events n h m i (made-before capacity events n h m i N.within)
      (let l = slice_get_within events i e.0 e.1 in omega (arith, l)) N.unheld
