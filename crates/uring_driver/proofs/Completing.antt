-- What completing a slot comes to, by what was read of it before.
use Rattle.std.proofs.Common.{◌≡◌, ℕ, ◌<◌, ◌≤◌, Bool, true, false, List, length, map, Option, Some, None, refl, sym, ◌∙◌, ap, subst, arith}
use Rattle.std.specs.Prelude.{not, ◌||◌}
use Rattle.std.specs.Ordering.{nat_cmp}
use Rattle.std.specs.FinMap.{FinMap, get}
use Rattle.std.proofs.lemmas.List.{length-map}
use Rattle.machine.specs.declared.completion.Completion.{Completion}
use Rattle.machine.specs.Effect.{made_by}
use Rattle.ring_core.specs.Entry.{close_entry}
use Rattle.machine.specs.Lists.{one_if}
use Rattle.ring_core.specs.Ring.{RingView}
use Rattle.driver_core.specs.declared.slot.Slot.{Slot}
use Rattle.driver_core.specs.Holds.{is_maker, is_dropped, dropped_in}
use Rattle.driver_core.specs.Ops.{AreNumbered}
use Rattle.driver_core.specs.Slot.{CompletesSlot, KeepsNumbers, flies_in, is_flying, named_by, named_if}
use Rattle.uring_driver.specs.Holding.{Holding, places}
use Rattle.uring_driver.specs.Making.{kept_if, lost_if, op_closes, op_ended, refuses_made}
use Rattle.uring_driver.specs.Pending.{Pending}
use Rattle.uring_driver.specs.Reap.{is_refused, holding_after, closes_after}
use Rattle.uring_driver.specs.State.{IsSound, AreHolding}
use Rattle.uring_driver.specs.Submissions.{PostsEach}
use Rattle.uring_driver.proofs.Holdings.{holding-treated, places-treated, makers-some}
use Rattle.uring_driver.proofs.Lefts.{posts-room}
use Rattle.uring_driver.proofs.Treating.{sound-treated}

-- What was read of a slot before its completion, and of the completion.
pub record ReadsSlot {B : Type 0} (slots : FinMap nat_cmp (Slot B)) (c : Completion) (names : List ℕ) (maker dropped : Bool)
    (made : Option ℕ) : Type 0 where
  pub leaving : names ≡ dropped_in (get slots c.word)
  pub making : maker ≡ is_maker (get slots c.word)
  pub dropping : dropped ≡ is_dropped (get slots c.word)
  pub outcome : made ≡ made_by c.outcome

-- It was read by the key that the completion's word is.
pub reads-slot : {B : Type 0} (slots : FinMap nat_cmp (Slot B)) (c : Completion) (key : ℕ) (names : List ℕ) (maker dropped : Bool)
    (made : Option ℕ) → key ≡ c.word → names ≡ dropped_in (get slots key) → maker ≡ is_maker (get slots key) →
    dropped ≡ is_dropped (get slots key) → made ≡ made_by c.outcome → ReadsSlot slots c names maker dropped made
reads-slot slots c key names maker dropped made word leaving making dropping outcome = record {
  leaving = leaving ∙ ap (λ k. dropped_in (get slots k)) word;
  making = making ∙ ap (λ k. is_maker (get slots k)) word;
  dropping = dropping ∙ ap (λ k. is_dropped (get slots k)) word;
  outcome = outcome;
}

-- Whom a completion names is in flight.
named-flies : {B : Type 0} (slot : Option (Slot B)) (who : ℕ × Option ℕ) → named_by slot ≡ Some who → flies_in slot ≡ true
named-flies None who named = (let f : ⊥ = cc in absurd f)
named-flies (Some s) who named = by (is_flying s.life) named
  where
    by : (b : Bool) → named_if b s ≡ Some who → b ≡ true
    by true e = refl
    by false e = (let f : ⊥ = cc in absurd f)

module _ {B : Type 0} (slots : FinMap nat_cmp (Slot B)) (holding : Holding) (given : ℕ) (c : Completion) (names : List ℕ)
    (maker dropped : Bool)
    (made : Option ℕ) (reads : ReadsSlot slots c names maker dropped made) where
  -- The completion isn't refused that names an operation, and what that made isn't refused.
  pub not-refused : (who : ℕ × Option ℕ) → refuses_made holding maker made ≡ false → named_by (get slots c.word) ≡ Some who →
      is_refused holding c.outcome (get slots c.word) ≡ false
  not-refused who takes named =
      ap (λ b. not b || refuses_made holding (is_maker (get slots c.word)) (made_by c.outcome)) (named-flies (get slots c.word) who named)
      ∙ sym (ap (λ m. refuses_made holding m made) reads.making
      ∙ ap (refuses_made holding (is_maker (get slots c.word))) reads.outcome) ∙ takes

  -- What is refused to be made makes the completion refused.
  pub refused-made : refuses_made holding maker made ≡ true → is_refused holding c.outcome (get slots c.word) ≡ true
  refused-made refuses = last (not (flies_in (get slots c.word)))
      (sym (ap (λ m. refuses_made holding m made) reads.making
      ∙ ap (refuses_made holding (is_maker (get slots c.word))) reads.outcome) ∙ refuses)
    where
      last : (a : Bool) → refuses_made holding (is_maker (get slots c.word)) (made_by c.outcome) ≡ true →
          (a || refuses_made holding (is_maker (get slots c.word)) (made_by c.outcome)) ≡ true
      last true is = refl
      last false is = is

  -- These closes are queued.
  pub closes-read : op_closes holding.table names (lost_if dropped made) ≡ closes_after holding c.outcome (get slots c.word)
  closes-read =
      ap (λ ns. op_closes holding.table ns (lost_if dropped made)) reads.leaving
      ∙ ap (λ d. op_closes holding.table (dropped_in (get slots c.word)) (lost_if d made)) reads.dropping
      ∙ ap (λ m. op_closes holding.table (dropped_in (get slots c.word)) (lost_if (is_dropped (get slots c.word)) m)) reads.outcome

  -- So are handles held then.
  pub ended-read : op_ended holding names maker (kept_if dropped made) (lost_if dropped made)
      ≡ holding_after holding c.outcome (get slots c.word)
  ended-read =
      let slot = get slots c.word in
      ap (λ ns. op_ended holding ns maker (kept_if dropped made) (lost_if dropped made)) reads.leaving
      ∙ ap (λ m. op_ended holding (dropped_in slot) m (kept_if dropped made) (lost_if dropped made)) reads.making
      ∙ ap (λ d. op_ended holding (dropped_in slot) (is_maker slot) (kept_if d made) (lost_if d made)) reads.dropping
      ∙ ap (λ m. op_ended holding (dropped_in slot) (is_maker slot) (kept_if (is_dropped slot) m) (lost_if (is_dropped slot) m))
      reads.outcome

  -- Of a driver as it should be, what an operation in flight needs to end is there.
  module _ (are : AreHolding holding slots given) where
    pub end-some : maker ≡ true → 0 < holding.makers
    end-some makes =
        let a = makers-some slots holding.makers c.word are.making in
        let b = ap one_if (sym reads.making ∙ makes) in
        omega (arith, a, b)

    module _ (takes : is_refused holding c.outcome (get slots c.word) ≡ false) where
      pub end-room : (room : ℕ) → IsSound room slots (places holding) → length (op_closes holding.table names (lost_if dropped made)) ≤ room
      end-room room sound =
          let a = places-treated holding slots given c are takes in
          let b = ap length closes-read in
          let d = sound.few in
          omega (arith, a, b, d)

      -- What holds of every driver holds once the closes were posted.
      module _ {R : Type 0} (view : R → RingView) (tells steady : Bool) (old new : Pending R) (slots' : FinMap nat_cmp (Slot B))
          (result : Option (ℕ × Option ℕ)) (completes : CompletesSlot slots c slots' result) (after : Holding)
          (ended : after ≡ op_ended holding names maker (kept_if dropped made) (lost_if dropped made)) where
        pub sound-ended : IsSound old.room slots (places holding) → KeepsNumbers slots slots' →
            PostsEach view tells steady old new (map close_entry (op_closes holding.table names (lost_if dropped made))) →
            IsSound new.room slots' (places after)
        sound-ended sound keeps posts =
            let us = op_closes holding.table names (lost_if dropped made) in
            let few = end-room old.room sound in
            let long = length-map us close_entry in
            let used = posts-room view tells steady old new (map close_entry us) (omega (arith, few, long)) posts in
            let fewer = places-treated holding slots given c are takes in
            let same = ap length closes-read in
            let now = ap (λ h. places h) (ended ∙ ended-read) in
            sound-treated old.room new.room (places holding) (places after) (length us) slots slots' sound keeps (omega (arith, used, long))
            (omega (arith, fewer, same, now))

        pub holding-ended : (given' : ℕ) → AreNumbered slots given → given' ≡ given → AreHolding after slots' given'
        holding-ended given' numbered same =
            subst (λ h. AreHolding h slots' given') (sym (ended ∙ ended-read))
            (subst (λ n. AreHolding (holding_after holding c.outcome (get slots c.word)) slots' n) (sym same)
            (subst (λ m. AreHolding (holding_after holding c.outcome (get slots c.word)) m given) (sym completes.slots)
            (holding-treated holding slots given c are numbered takes)))
