-- Where treating ends at a stray completion.
use Rattle.std.proofs.Common.{◌≡◌, ◌≤◌, ℕ, Bool, true, false, List, [], ◌∷◌, ◌++◌, length, Option, Some, None, refl, sym, ◌∙◌, ap}
use Rattle.std.proofs.Common.{subst, arith}
use Rattle.std.specs.Ordering.{nat_cmp}
use Rattle.std.specs.FinMap.{FinMap, get}
use Rattle.machine.specs.declared.completion.Completion.{Completion}
use Rattle.ring_core.specs.declared.entry.Target.{Target}
use Rattle.ring_core.specs.declared.entry.Target.TheVariants.{Slot as Keyed, Handle, Reserved}
use Rattle.ring_core.specs.Entry.{target}
use Rattle.driver_core.specs.declared.slot.Slot.{Slot}
use Rattle.driver_core.specs.Slot.{is_flying, flies_in, named_by, named_if}
use Rattle.driver_core.specs.Holds.{is_maker}
use Rattle.machine.specs.Effect.{made_by}
use Rattle.std.specs.Prelude.{not, ◌||◌}
use Rattle.uring_driver.specs.Holding.{Holding, closes}
use Rattle.uring_driver.specs.Making.{refuses_made}
use Rattle.uring_driver.specs.Reap.{IsStrayFor, HasStray, Treated, is_refused, named_unless, names_in, treats_slot}
use Rattle.uring_driver.specs.Reap.{treats_close, treat_one, behind, goes_on, treat_each}

module _ {B : Type 0} (slots : FinMap nat_cmp (Slot B)) (holding : Holding) (c : Completion) where
  -- A slot that names nobody isn't in flight, so its completion is refused.
  unnamed-refused : (x : Option (Slot B)) → names_in holding c.outcome x ≡ None → is_refused holding c.outcome x ≡ true
  unnamed-refused x none = by (is_refused holding c.outcome x) refl none
    where
      unflown : (y : Option (Slot B)) → named_by y ≡ None → flies_in y ≡ false
      unflown None h = refl
      unflown (Some s) h = by_flight (is_flying s.life) h
        where
          by_flight : (b : Bool) → named_if b s ≡ None → b ≡ false
          by_flight true e = (let f : ⊥ = cc in absurd f)
          by_flight false e = refl

      by : (b : Bool) → is_refused holding c.outcome x ≡ b → named_unless b (named_by x) ≡ None → b ≡ true
      by true is h = refl
      by false is h =
          let q : ◌≡◌ {A = Bool} true false =
          sym (ap (λ f. not f || refuses_made holding (is_maker x) (made_by c.outcome)) (unflown x h)) ∙ is in
          (let f : ⊥ = cc in absurd f)

  -- A completion that is stray changed nothing, and is refused by the slot that its word names, or names no handle that is closing.
  slot-stray : (who : Option (ℕ × Option ℕ)) (word : ℕ) → names_in holding c.outcome (get slots c.word) ≡ who →
      (treats_slot who slots holding c).bad ≡ Some word → (c.word ≡ word) × (is_refused holding c.outcome (get slots c.word) ≡ true)
      × ((treats_slot who slots holding c).slots ≡ slots) × ((treats_slot who slots holding c).holding ≡ holding)
  slot-stray None word none bad = (cc, unnamed-refused (get slots c.word) none, refl, refl)
  slot-stray (Some who) word some bad = (let f : ⊥ = cc in absurd f)

  close-stray : (b : Bool) (h word : ℕ) → closes holding h ≡ b → (treats_close b slots holding c.word h).bad ≡ Some word →
      (c.word ≡ word) × (closes holding h ≡ false) × ((treats_close b slots holding c.word h).slots ≡ slots)
      × ((treats_close b slots holding c.word h).holding ≡ holding)
  close-stray true h word is bad = (let f : ⊥ = cc in absurd f)
  close-stray false h word is bad = (cc, is, refl, refl)

  one-stray : (t : Target) (word : ℕ) → target c.word ≡ t → (treat_one t slots holding c).bad ≡ Some word →
      HasStray (treat_one t slots holding c).slots (treat_one t slots holding c).holding word
  one-stray (Keyed key) word is bad =
      let s = slot-stray (names_in holding c.outcome (get slots c.word)) word refl bad in
      subst (λ m. HasStray m (treat_one (Keyed key) slots holding c).holding word) (sym s.2)
      (subst (λ h. HasStray slots h word) (sym s.3)
      (record { completion = c; words = s.0; stray = subst (λ t. IsStrayFor slots holding c t) (sym is) s.1 }))
  one-stray (Handle h) word is bad =
      let s = close-stray (closes holding h) h word refl bad in
      subst (λ m. HasStray m (treat_one (Handle h) slots holding c).holding word) (sym s.2)
      (subst (λ k. HasStray slots k word) (sym s.3)
      (record { completion = c; words = s.0; stray = subst (λ t. IsStrayFor slots holding c t) (sym is) s.1 }))
  one-stray (Reserved w) word is bad = (let f : ⊥ = cc in absurd f)

-- The first completion is stray, or one of the rest is.
stray-first : {B : Type 0} (one rest : Treated B) (xs : List Completion) (word : ℕ) (b : Option ℕ) → one.bad ≡ b →
    (one.bad ≡ Some word → HasStray one.slots one.holding word) → (rest.bad ≡ Some word → HasStray rest.slots rest.holding word) →
    (goes_on b one xs rest).bad ≡ Some word → HasStray (goes_on b one xs rest).slots (goes_on b one xs rest).holding word
stray-first one rest xs word None is first more bad = more bad
stray-first one rest xs word (Some w) is first more bad = first bad

-- The word of the completion at which treating ends is stray.
pub treats-stray : {B : Type 0} (slots : FinMap nat_cmp (Slot B)) (holding : Holding) (cs : List Completion) (word : ℕ) →
    (treat_each slots holding cs).bad ≡ Some word → HasStray (treat_each slots holding cs).slots (treat_each slots holding cs).holding word
treats-stray slots holding [] word bad = (let f : ⊥ = cc in absurd f)
treats-stray slots holding (c ∷ cs) word bad =
    let one = treat_one (target c.word) slots holding c in
    stray-first one (treat_each one.slots one.holding cs) cs word one.bad refl
    (λ h. one-stray slots holding c (target c.word) word refl h) (treats-stray one.slots one.holding cs word) bad

-- What stands behind a stray completion changes nothing of what is treated.
ended-first : {B : Type 0} (one rest all : Treated B) (xs ys : List Completion) (word : ℕ) (b : Option ℕ) → one.bad ≡ b →
    (rest.bad ≡ Some word → all ≡ record rest { left = rest.left ++ ys }) → (goes_on b one xs rest).bad ≡ Some word →
    goes_on b one (xs ++ ys) all ≡ record (goes_on b one xs rest) { left = (goes_on b one xs rest).left ++ ys }
ended-first one rest all xs ys word None is more h = ap (behind one) (more h)
ended-first one rest all xs ys word (Some w) is more h = refl

-- Where a stray one ended treating, what stands behind is left.
pub treats-ended : {B : Type 0} (slots : FinMap nat_cmp (Slot B)) (holding : Holding) (xs ys : List Completion) (word : ℕ) →
    (treat_each slots holding xs).bad ≡ Some word →
    treat_each slots holding (xs ++ ys) ≡ record (treat_each slots holding xs) { left = (treat_each slots holding xs).left ++ ys }
treats-ended slots holding [] ys word bad = (let f : ⊥ = cc in absurd f)
treats-ended slots holding (c ∷ xs) ys word bad =
    let one = treat_one (target c.word) slots holding c in
    ended-first one (treat_each one.slots one.holding xs) (treat_each one.slots one.holding (xs ++ ys)) xs ys word one.bad refl
    (treats-ended one.slots one.holding xs ys word) bad

-- Of two joined lists that are equal the shorter first one is a prefix of the longer one.
pub record Split {A : Type 0} (xs more taken ys : List A) : Type 0 where
  pub rest : List A
  pub front : xs ≡ taken ++ rest
  pub back : ys ≡ rest ++ more

-- Such lists are split so.
pub split : {A : Type 0} (xs more taken ys : List A) → xs ++ more ≡ taken ++ ys → length taken ≤ length xs → Split xs more taken ys
split xs more [] ys same few = record { rest = xs; front = refl; back = sym same }
split [] more (t ∷ taken) ys same few = absurd (omega (arith, few))
split (x ∷ xs) more (t ∷ taken) ys same few =
    let s = split xs more taken ys (let e : xs ++ more ≡ taken ++ ys = cc in e) (omega (arith, few)) in
    let first : x ≡ t = cc in
    record { rest = s.rest; front = ap (λ z. z ∷ xs) first ∙ ap (λ zs. t ∷ zs) s.front; back = s.back }
