-- Entries in the order of their numbers: how an operation's is found, and what keeps the order.
use Rattle.std.proofs.Common.{◌≡◌, ◌≢◌, ◌∙◌, ℕ, suc, zero, ◌<◌, ◌≤◌, ◌++◌, Bool, true, false, cond, eqb, ◌||◌}
use Rattle.std.proofs.Common.{List, [], ◌∷◌, length, get_or, set, Result, Ok, Err, refl, sym, ap, subst, inl, inr, arith, eq-eqb}
use Rattle.std.specs.Prelude.{filter, IfOk, IfErr}
use Rattle.std.specs.Ordering.{nat_cmp, ordering_index}
use Rattle.std.specs.List.Sorted.{IsSearchInRange, IsBinarySearchResult, IsNonDecreasingBy}
use Rattle.std.proofs.lemmas.Bool.{eqb-true}
use Rattle.std.proofs.lemmas.Bool.Decides.{nat_tests}
use Rattle.std.proofs.lemmas.Cmp.{ranked}
use Rattle.std.proofs.lemmas.List.Sorted.{IsNonDecreasingBy-from_default}
use Rattle.ready_driver.specs.declared.scheduled_io.Waiter.{Waiter}
use Rattle.ready_driver.specs.declared.scheduled_io.wait_list.Entry.{Entry}
use Rattle.ready_driver.specs.declared.scheduled_io.wait_list.Entry.TheVariants.{Waits, Gap}
use Rattle.machine.proofs.Numbers.{same-or-not}
use Rattle.ready_driver.specs.WaitList.{number_of, is_of, IsAscendingFrom, IsInOrder, IsBehind, IsPlace, IsAway, IsSpot}
use Rattle.ready_driver.proofs.Places.{place-first, place-later, away-empty, away-later, not-of}

-- An entry that stands for none that is there.
nobody : Entry
nobody = Gap 0

-- Numbers that aren't below one aren't below a lesser one.
lower : (m n : ℕ) (es : List Entry) → m ≤ n → IsAscendingFrom n es → IsAscendingFrom m es
lower m n [] less order = tt
lower m n (e ∷ es) less order = (omega (arith, less, order.0), order.1)

-- No number is below the least.
least_at : (n : ℕ) (es : List Entry) → IsAscendingFrom n es → (j : ℕ) (d : Entry) → j < length es → n ≤ number_of (get_or es j d)
least_at n [] order j d inside = absurd (omega (arith, inside))
least_at n (e ∷ es) order zero d inside = order.0
least_at n (e ∷ es) order (suc j) d inside =
    let later = least_at (suc (number_of e)) es order.1 j d (omega (arith, inside)) in
    omega (arith, order.0, later)

-- The numbers rise.
rises : (n : ℕ) (es : List Entry) → IsAscendingFrom n es → (i j : ℕ) (d : Entry) → i < j → j < length es →
    number_of (get_or es i d) < number_of (get_or es j d)
rises n [] order i j d before inside = absurd (omega (arith, inside))
rises n (e ∷ es) order i zero d before inside = absurd (omega (arith, before))
rises n (e ∷ es) order zero (suc j) d before inside = least_at (suc (number_of e)) es order.1 j d (omega (arith, inside))
rises n (e ∷ es) order (suc i) (suc j) d before inside =
    rises (suc (number_of e)) es order.1 i j d (omega (arith, before)) (omega (arith, inside))

-- An operation that waits at a place, and has no entry before it.
placed : (n : ℕ) (es : List Entry) (i : ℕ) (w : Waiter) (d : Entry) → i < length es → get_or es i d ≡ Waits w → w.serial ≡ n →
    ((j : ℕ) → j < i → number_of (get_or es j nobody) ≢ n) → IsPlace es n i w
placed n [] i w d inside is own before = absurd (omega (arith, inside))
placed n (e ∷ es) zero w d inside is own before =
    subst (λ x. IsPlace (x ∷ es) n 0 w) (sym is) (place-first n w es (eq-eqb w.serial n own))
placed n (e ∷ es) (suc i) w d inside is own before =
    place-later n e es i w (not-of n e (before 0 (omega arith)))
    (placed n es i w d (omega (arith, inside)) is own (λ j lt. before (suc j) (omega (arith, lt))))

-- An operation that has no entry, or a gap.
unplaced : (n : ℕ) (es : List Entry) → ((j : ℕ) → j < length es → is_of n (get_or es j nobody) ≡ false) → IsAway es n
unplaced n [] none = away-empty n
unplaced n (e ∷ es) none =
    away-later n e es (none 0 (omega arith)) (unplaced n es (λ j lt. none (suc j) (omega (arith, lt))))

-- A place inside has the same entry whatever stands for none.
inside-same : (es : List Entry) (i : ℕ) (c d : Entry) → i < length es → get_or es i c ≡ get_or es i d
inside-same [] i c d inside = absurd (omega (arith, inside))
inside-same (e ∷ es) zero c d inside = refl
inside-same (e ∷ es) (suc i) c d inside = inside-same es i c d (omega (arith, inside))

module _ (es : List Entry) (order : IsAscendingFrom 0 es) (n : ℕ) where
  -- The comparisons with a number rise, as a search by halves asks.
  compared : IsNonDecreasingBy (λ e. ordering_index (nat_cmp (number_of e) n)) es
  compared = IsNonDecreasingBy-from_default (λ e. ordering_index (nat_cmp (number_of e) n)) es nobody (λ i j le inside.
      let keys : number_of (get_or es i nobody) ≤ number_of (get_or es j nobody) =
      grind (arith, rises 0 es order i j nobody, λ (same : i ≡ j). ap (λ k. number_of (get_or es k nobody)) same) in
      grind (arith, nat_tests))

  -- The entry at a place of that number is the operation's, or a gap that it left.
  spot : (at : ℕ) → at < length es → number_of (get_or es at nobody) ≡ n → IsSpot es n at
  spot at inside here = record {
    within = inside;
    waits = λ w d is. placed n es at w d inside is
        (sym (ap number_of (inside-same es at nobody d inside ∙ is)) ∙ here)
        (λ j lt same. (let before = rises 0 es order j at nobody lt inside in omega (arith, before, here, same)));
    gone = λ m d is. unplaced n es (λ j lt. other at inside here m d is j lt);
  }
    where
      other : (at : ℕ) → at < length es → number_of (get_or es at nobody) ≡ n → (m : ℕ) (d : Entry) → get_or es at d ≡ Gap m →
          (j : ℕ) → j < length es → is_of n (get_or es j nobody) ≡ false
      other at inside here m d is j lt = elim (same-or-not j at) [
        | inl same ↦ ap (is_of n) (ap (λ k. get_or es k nobody) same ∙ inside-same es at nobody d inside ∙ is)
        | inr apart ↦ not-of n (get_or es j nobody) (λ equal. (
            let up = rises 0 es order j at nobody in
            let down = rises 0 es order at j nobody in
            grind (arith, up, down, lt, inside, here, equal, apart)))
      ]

  -- A search by halves finds an operation's place, or that it doesn't wait.
  pub searched : (r : Result ℕ ℕ) → IsSearchInRange r (length es) → IsBinarySearchResult (λ e. nat_cmp (number_of e) n) es r →
      IfOk r (λ at. IsSpot es n at) × IfErr r (λ at. IsAway es n)
  searched (Ok at) inside equal = (spot at inside (ranked _ n _ (sym (equal nobody))), tt)
  searched (Err at) inside parted = (
    tt,
    unplaced n es (λ j lt. not-of n (get_or es j nobody) (λ same. (grind (
      arith,
      (λ (below : j < at). ranked _ n _ (sym ((parted compared).0 j nobody (omega arith) below))),
      (λ (above : at ≤ j). ranked _ n _ (sym ((parted compared).1 j nobody above lt))),
      same,
    )))),
  )

-- A filter keeps the order.
filtered : (p : Entry → Bool) (n : ℕ) (es : List Entry) → IsAscendingFrom n es → IsAscendingFrom n (filter p es)
filtered p n [] order = tt
filtered p n (e ∷ es) order = by-test (p e) (filtered p (suc (number_of e)) es order.1)
  where
    by-test : (b : Bool) → IsAscendingFrom (suc (number_of e)) (filter p es) →
        IsAscendingFrom n (cond b (e ∷ filter p es) (filter p es))
    by-test true rest = (order.0, rest)
    by-test false rest = lower n (suc (number_of e)) (filter p es) (omega (arith, order.0)) rest

-- So does an entry of the same number at a place.
put : (n : ℕ) (es : List Entry) (i : ℕ) (e : Entry) → number_of (get_or es i e) ≡ number_of e → IsAscendingFrom n es →
    IsAscendingFrom n (set es i e)
put n [] i e same order = tt
put n (x ∷ es) zero e same order =
    (subst (λ k. n ≤ k) same order.0, subst (λ k. IsAscendingFrom (suc k) es) same order.1)
put n (x ∷ es) (suc i) e same order = (order.0, put (suc (number_of x)) es i e same order.1)

-- So does an entry behind the last one.
joined : (n : ℕ) (es : List Entry) (e : Entry) → n ≤ number_of e → IsBehind es (number_of e) → IsAscendingFrom n es →
    IsAscendingFrom n (es ++ e ∷ [])
joined n [] e least behind order = (least, tt)
joined n (x ∷ []) e least behind order = (order.0, (behind 0 x refl, tt))
joined n (x ∷ y ∷ es) e least behind order = (
  order.0,
  joined (suc (number_of x)) (y ∷ es) e (let last = behind (suc (length es)) x refl in
      let low = least_at (suc (number_of x)) (y ∷ es) order.1 (length es) x (omega arith) in omega (arith, last, low))
      (λ last d is. behind (suc last) d (ap suc is)) order.1,
)

-- An entry of the same number at an operation's place keeps the order.
pub order_put : (b : Bool) (es ys : List Entry) (e : Entry) (n i : ℕ) (w : Waiter) → ys ≡ set es i e → IsPlace es n i w →
    number_of e ≡ n → IsInOrder b es → IsInOrder b ys
order_put b es ys e n i w is there same order = λ so. subst (IsAscendingFrom 0) (sym is)
    (put 0 es i e (ap number_of (there.is e) ∙ there.own ∙ sym same) (order so))

-- One that joined keeps it, where its number is above that of the last.
pub order_joined : (b stays : Bool) (es ys : List Entry) (e : Entry) → ys ≡ es ++ e ∷ [] →
    (stays ≡ true → (b ≡ true) × IsBehind es (number_of e)) → IsInOrder b es → IsInOrder stays ys
order_joined b stays es ys e is behind order = λ stay. subst (IsAscendingFrom 0) (sym is)
    (joined 0 es e (omega arith) (behind stay).1 (order (behind stay).0))

-- Some of the entries are in order where all are.
pub order_filtered : (b : Bool) (p : Entry → Bool) (es ys : List Entry) → ys ≡ filter p es → IsInOrder b es → IsInOrder b ys
order_filtered b p es ys is order = λ so. subst (IsAscendingFrom 0) (sym is) (filtered p 0 es (order so))

-- Where there is none, they are in order.
pub order_none : (b empty : Bool) (es : List Entry) → empty ≡ eqb (length es) 0 → IsInOrder b es → IsInOrder (b || empty) es
order_none b empty [] is order = λ same. tt
order_none true empty (e ∷ es) is order = λ same. order refl
order_none false empty (e ∷ es) is order = λ same. (
    let none = eqb-true (length (e ∷ es)) 0 (sym is ∙ same) in
    absurd (omega (arith, none)))
