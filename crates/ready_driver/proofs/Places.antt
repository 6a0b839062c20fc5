-- What waits on a handle, by place: where an operation's entry is, and what a change at that place leaves.
use Rattle.std.proofs.Common.{◌≡◌, ◌≢◌, ◌∙◌, ℕ, suc, Bool, true, false, cond, eqb, not, Option, Some, None, List, [], ◌∷◌}
use Rattle.std.proofs.Common.{refl, sym, ap, subst, arith}
use Rattle.std.proofs.lemmas.Bool.{eqb-true, ne_eqb}
use Rattle.std.specs.Prelude.{option_map, IfSome, IfNone}
use Rattle.ready_driver.specs.declared.scheduled_io.Waiter.{Waiter}
use Rattle.ready_driver.specs.declared.scheduled_io.wait_list.Entry.{Entry}
use Rattle.ready_driver.specs.declared.scheduled_io.wait_list.Entry.TheVariants.{Waits, Gap}
use Rattle.ready_driver.specs.ScheduledIo.{waiter_of, kept, forgotten}
use Rattle.ready_driver.specs.WaitList.{live, is_of, number_of, spot_in, IsPlace, IsAway, IsSpot}
use Rattle.ready_driver.proofs.Waiting.{forgotten-none}

-- The first entry is that of an operation: there it is found, renewed and forgotten.
pub place-first : (n : ℕ) (w : Waiter) (es : List Entry) → eqb w.serial n ≡ true → IsPlace (Waits w ∷ es) n 0 w
place-first n w es same = record {
  within = omega arith;
  is = λ d. refl;
  own = eqb-true w.serial n same;
  found = ap (λ b. cond b (Some w) (waiter_of (live es) n)) same;
  keeps = λ v is. sym (ap (λ b. cond b (v ∷ live es) (w ∷ kept (live es) v)) (ap (eqb w.serial) is ∙ same));
  forgets = λ once. sym (ap (λ b. cond (not b) (w ∷ forgotten (live es) n) (forgotten (live es) n)) same
      ∙ forgotten-none (live es) n (subst (λ m. waiter_of (live es) m ≡ None) (eqb-true w.serial n same) once.0));
}

-- The first entry isn't the operation's: its place is one further.
pub place-later : (n : ℕ) (e : Entry) (es : List Entry) (i : ℕ) (w : Waiter) → is_of n e ≡ false → IsPlace es n i w →
    IsPlace (e ∷ es) n (suc i) w
place-later n (Waits v) es i w other there = record {
  within = omega (arith, there.within);
  is = there.is;
  own = there.own;
  found = ap (λ b. cond b (Some v) (waiter_of (live es) n)) other ∙ there.found;
  keeps = λ u is. ap (λ us. v ∷ us) (there.keeps u is)
      ∙ sym (ap (λ b. cond b (u ∷ live es) (v ∷ kept (live es) u)) (ap (eqb v.serial) is ∙ other));
  forgets = λ once. ap (λ us. v ∷ us) (there.forgets once.1)
      ∙ sym (ap (λ b. cond (not b) (v ∷ forgotten (live es) n) (forgotten (live es) n)) other);
}
place-later n (Gap m) es i w other there = record {
  within = omega (arith, there.within);
  is = there.is;
  own = there.own;
  found = there.found;
  keeps = there.keeps;
  forgets = there.forgets;
}

-- Nothing waits.
pub away-empty : (n : ℕ) → IsAway [] n
away-empty n = refl

-- The first entry isn't the operation's: it doesn't wait where it doesn't behind that.
pub away-later : (n : ℕ) (e : Entry) (es : List Entry) → is_of n e ≡ false → IsAway es n → IsAway (e ∷ es) n
away-later n (Waits v) es other away = ap (λ b. cond b (Some v) (waiter_of (live es) n)) other ∙ away
away-later n (Gap m) es other away = away

-- An entry of another number isn't the operation's.
pub not-of : (n : ℕ) (e : Entry) → number_of e ≢ n → is_of n e ≡ false
not-of n (Waits v) other = ne_eqb v.serial n other
not-of n (Gap m) other = refl

-- What waits at a place is what is there.
same-waiter : (v w : Waiter) → ◌≡◌ {A = Entry} (Waits v) (Waits w) → v ≡ w
same-waiter v w is = cc

-- A gap isn't what waits.
no-gap : (w : Waiter) (m : ℕ) → ◌≡◌ {A = Entry} (Waits w) (Gap m) → ⊥
no-gap w m is = cc

-- The first entry is that of an operation, which waits.
spot-first : (n : ℕ) (e : Entry) (es : List Entry) → is_of n e ≡ true → IsSpot (e ∷ es) n 0
spot-first n (Waits v) es same = record {
  within = omega arith;
  waits = λ w d is. subst (IsPlace (Waits v ∷ es) n 0) (same-waiter v w is) (place-first n v es same);
  gone = λ m d is. absurd (no-gap v m is);
}
spot-first n (Gap m) es same = (let f : ⊥ = cc in absurd f)

-- The spot is one further behind an entry that isn't the operation's.
pub spot-later : (n : ℕ) (e : Entry) (es : List Entry) (i : ℕ) → is_of n e ≡ false → IsSpot es n i → IsSpot (e ∷ es) n (suc i)
spot-later n e es i other there = record {
  within = omega (arith, there.within);
  waits = λ w d is. place-later n e es i w other (there.waits w d is);
  gone = λ m d is. away-later n e es other (there.gone m d is);
}

-- Where a table has an operation, its entry is found, renewed and forgotten.
spot-there : (n : ℕ) (es : List Entry) (i : ℕ) → spot_in n es ≡ Some i → IsSpot es n i
spot-there n [] i is = (let f : ⊥ = cc in absurd f)
spot-there n (e ∷ es) i is = by-first (is_of n e) refl (spot_in n es) (λ j at. spot-there n es j at) is
  where
    by-first : (b : Bool) → is_of n e ≡ b → (o : Option ℕ) → ((j : ℕ) → o ≡ Some j → IsSpot es n j)
        → cond b (Some 0) (option_map suc o) ≡ Some i → IsSpot (e ∷ es) n i
    by-first true same o later at = let is_first : 0 ≡ i = cc in subst (IsSpot (e ∷ es) n) is_first (spot-first n e es same)
    by-first false other None later at = (let f : ⊥ = cc in absurd f)
    by-first false other (Some j) later at =
        let is_next : suc j ≡ i = cc in subst (IsSpot (e ∷ es) n) is_next (spot-later n e es j other (later j refl))

-- One that it doesn't have doesn't wait.
away-there : (n : ℕ) (es : List Entry) → spot_in n es ≡ None → IsAway es n
away-there n [] is = refl
away-there n (e ∷ es) is = by-first (is_of n e) refl (spot_in n es) (λ at. away-there n es at) is
  where
    by-first : (b : Bool) → is_of n e ≡ b → (o : Option ℕ) → (o ≡ None → IsAway es n)
        → cond b (Some 0) (option_map suc o) ≡ None → IsAway (e ∷ es) n
    by-first true same o later at = (let f : ⊥ = cc in absurd f)
    by-first false other None later at = away-later n e es other (later refl)
    by-first false other (Some j) later at = (let f : ⊥ = cc in absurd f)

-- So what a look-up found is an operation's place.
pub spot_is : (n : ℕ) (es : List Entry) (o : Option ℕ) → o ≡ spot_in n es → IfSome o (λ at. IsSpot es n at)
spot_is n es None is = tt
spot_is n es (Some i) is = spot-there n es i (sym is)

-- Where it found nothing, the operation doesn't wait.
pub away_is : (n : ℕ) (es : List Entry) (o : Option ℕ) → o ≡ spot_in n es → IfNone o (IsAway es n)
away_is n es None is = away-there n es (sym is)
away_is n es (Some i) is = tt

-- An operation that doesn't wait has no place.
pub spot-away : (n : ℕ) (es : List Entry) → IsAway es n → spot_in n es ≡ None
spot-away n [] away = refl
spot-away n (Gap m ∷ es) away = ap (option_map suc) (spot-away n es away)
spot-away n (Waits v ∷ es) away = by-first (eqb v.serial n) (spot-away n es) away
  where
    by-first : (b : Bool) → (IsAway es n → spot_in n es ≡ None) → cond b (Some v) (waiter_of (live es) n) ≡ None
        → cond b (Some 0) (option_map suc (spot_in n es)) ≡ None
    by-first true later at = (let f : ⊥ = cc in absurd f)
    by-first false later at = ap (option_map suc) (later at)
