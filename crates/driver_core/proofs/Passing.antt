-- How many slots pass a test, after a change of one slot.
use Rattle.std.proofs.Common.{◌≡◌, ◌≢◌, ◌∙◌, inl, inr, ℕ, ◌+◌, ◌-◌, ◌<◌, Bool, true, false, Option, None, refl, sym, ap, subst, arith}
use Rattle.std.specs.Prelude.{is_some}
use Rattle.std.specs.Ordering.{nat_cmp}
use Rattle.std.specs.FinMap.{FinMap, get, insert, remove, empty, get-empty, len-empty}
use Rattle.machine.specs.Lists.{one_if}
use Rattle.machine.proofs.Numbers.{same-or-not, some-of, none-of}
use Rattle.driver_core.specs.declared.slot.Slot.{Slot}
use Rattle.driver_core.specs.Holds.{Number}
use Rattle.driver_core.proofs.Maps.{put-same, put-other, gone-same, gone-other, len-new, len-gone, len-some}

module _ {B : Type 0} (passes : Option (Slot B) → Bool) where
  -- No slot does.
  pub number-none : (slots : FinMap nat_cmp (Slot B)) (count : ℕ) → passes None ≡ false → slots ≡ empty → count ≡ 0 →
      Number passes slots count
  number-none slots count fails is none = record {
    keys = empty;
    few = len-empty nat_cmp ℕ ∙ sym none;
    each = λ key. ap is_some (get-empty {X = ℕ} nat_cmp key)
        ∙ sym (ap (λ m. passes (get m key)) is ∙ ap passes (get-empty {X = Slot B} nat_cmp key) ∙ fails);
  }

  -- One does at least where a slot does.
  pub number-some : {slots : FinMap nat_cmp (Slot B)} {count : ℕ} → Number passes slots count → (key : ℕ) →
      passes (get slots key) ≡ true → 0 < count
  number-some is key there =
      let a = len-some is.keys key (is.each key ∙ there) in
      let b = is.few in
      omega (arith, a, b)

  -- Slots of which the same pass.
  pub number-kept : {slots slots' : FinMap nat_cmp (Slot B)} {count : ℕ} → Number passes slots count →
      ((key : ℕ) → passes (get slots' key) ≡ passes (get slots key)) → Number passes slots' count
  number-kept is same = record { keys = is.keys; few = is.few; each = λ key. is.each key ∙ sym (same key) }

  module _ {slots slots' : FinMap nat_cmp (Slot B)} {count : ℕ} (is : Number passes slots count) (key : ℕ)
      (others : (k : ℕ) → k ≢ key → passes (get slots' k) ≡ passes (get slots k)) where
    -- One more.
    number-more : passes (get slots key) ≡ false → passes (get slots' key) ≡ true → Number passes slots' (count + 1)
    number-more was now = record {
      keys = insert is.keys key key;
      few = len-new is.keys key key (none-of (get is.keys key) (is.each key ∙ was)) ∙ ap (λ n. n + 1) is.few;
      each = λ k. elim (same-or-not k key) [
        | inl e ↦ ap (λ x. is_some (get (insert is.keys key key) x)) e ∙ ap is_some (put-same is.keys key key) ∙ sym now
            ∙ ap (λ x. passes (get slots' x)) (sym e)
        | inr e ↦ ap is_some (put-other is.keys key key k e) ∙ is.each k ∙ sym (others k e)
      ];
    }

    -- One less.
    number-less : passes (get slots key) ≡ true → passes (get slots' key) ≡ false → Number passes slots' (count - 1)
    number-less was now =
        let there = some-of (get is.keys key) (is.each key ∙ was) in
        record {
          keys = remove is.keys key;
          few = len-gone is.keys key there.0 there.1 ∙ ap (λ n. n - 1) is.few;
          each = λ k. elim (same-or-not k key) [
            | inl e ↦ ap (λ x. is_some (get (remove is.keys key) x)) e ∙ ap is_some (gone-same is.keys key) ∙ sym now
                ∙ ap (λ x. passes (get slots' x)) (sym e)
            | inr e ↦ ap is_some (gone-other is.keys key k e) ∙ is.each k ∙ sym (others k e)
          ];
        }

    -- As many.
    number-same : passes (get slots' key) ≡ passes (get slots key) → Number passes slots' count
    number-same same = number-kept is (λ k. elim (same-or-not k key) [
      | inl e ↦ ap (λ x. passes (get slots' x)) e ∙ same ∙ ap (λ x. passes (get slots x)) (sym e)
      | inr e ↦ others k e
    ])

    -- So many as are counted with the slot that was and the slot that is.
    pub number-changed : (now : ℕ) → now + one_if (passes (get slots key)) ≡ count + one_if (passes (get slots' key)) →
        Number passes slots' now
    number-changed now count_is = by (passes (get slots key)) (passes (get slots' key)) refl refl count_is
      where
        by : (a b : Bool) → passes (get slots key) ≡ a → passes (get slots' key) ≡ b → now + one_if a ≡ count + one_if b →
            Number passes slots' now
        by true true was is' e = subst (Number passes slots') (let q : count ≡ now = omega (arith, e) in q) (number-same (is' ∙ sym was))
        by true false was is' e = subst (Number passes slots') (let q : count - 1 ≡ now = omega (arith, e) in q) (number-less was is')
        by false true was is' e = subst (Number passes slots') (let q : count + 1 ≡ now = omega (arith, e) in q) (number-more was is')
        by false false was is' e = subst (Number passes slots') (let q : count ≡ now = omega (arith, e) in q) (number-same (is' ∙ sym was))
