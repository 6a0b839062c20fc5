-- The table of the places of operations that wait, through each change of their entries.
use Rattle.std.proofs.Common.{◌≡◌, ◌∙◌, ℕ, suc, zero, ◌<◌, ◌≤◌, ◌+◌, ◌++◌, Bool, true, false, not, cond, eqb, nat_eq, Option, Some, None}
use Rattle.std.proofs.Common.{List, [], ◌∷◌, length, get_or, set, take, refl, sym, ap, subst, inl, inr, arith}
use Rattle.std.specs.Prelude.{filter, option_map, is_some, Result, Ok, Err, IsOk, IfOk, OnOk}
use Rattle.std.specs.HashMap.{HashMap, hash_map_len, get_by, Updates}
use Rattle.std.proofs.lemmas.Bool.{eqb-true}
use Rattle.std.proofs.lemmas.List.{take_more, length-take-le}
use Rattle.std.proofs.lemmas.Bool.Decides.{eqb_tells}
use Rattle.ready_driver.specs.declared.scheduled_io.Waiter.{Waiter}
use Rattle.ready_driver.specs.declared.scheduled_io.wait_list.Entry.{Entry}
use Rattle.ready_driver.specs.declared.scheduled_io.wait_list.Entry.TheVariants.{Waits, Gap}
use Rattle.ready_driver.specs.ScheduledIo.{waiter_of, is_met, IsOnceEach}
use Rattle.ready_driver.specs.WaitList.{live, is_live, is_left, is_of, spot_in, spare_of, IsIndexed, IsPlace, IsAway}
use Rattle.ready_driver.proofs.Waiting.{forgotten-own, once-filtered, filtered-fits}
use Rattle.ready_driver.proofs.Places.{spot-away, away_is}
use Rattle.ready_driver.proofs.Gaps.{live_left, gap-set, waits-set}

-- One entry more at the end is its operation's place, where that had none.
pub spot-joined : (n : ℕ) (es : List Entry) (e : Entry) → (is_of n e ≡ true → spot_in n es ≡ None) →
    spot_in n (es ++ e ∷ []) ≡ cond (is_of n e) (Some (length es)) (spot_in n es)
spot-joined n [] e fresh = refl
spot-joined n (x ∷ es) e fresh = by-first (is_of n x) (is_of n e) (spot_in n es) (spot_in n (es ++ e ∷ [])) fresh (spot-joined n es e)
  where
    by-last : (c : Bool) (o : Option ℕ) →
        option_map suc (cond c (Some (length es)) o) ≡ cond c (Some (suc (length es))) (option_map suc o)
    by-last true o = refl
    by-last false o = refl

    none-suc : (o : Option ℕ) → option_map suc o ≡ None → o ≡ None
    none-suc None is = refl
    none-suc (Some j) is = (let f : ⊥ = cc in absurd f)

    by-first : (b c : Bool) (o p : Option ℕ) → (c ≡ true → cond b (Some 0) (option_map suc o) ≡ None) →
        ((c ≡ true → o ≡ None) → p ≡ cond c (Some (length es)) o) →
        cond b (Some 0) (option_map suc p) ≡ cond c (Some (suc (length es))) (cond b (Some 0) (option_map suc o))
    by-first true true o p none later = (let is : ◌≡◌ {A = Option ℕ} (Some 0) None = none refl in let f : ⊥ = cc in absurd f)
    by-first true false o p none later = refl
    by-first false c o p none later = ap (option_map suc) (later (λ same. none-suc o (none same))) ∙ by-last c o

-- An entry of the same operations at a place leaves their places.
pub spot-set : (n : ℕ) (es : List Entry) (i : ℕ) (e : Entry) → is_of n (get_or es i e) ≡ is_of n e → spot_in n (set es i e) ≡ spot_in n es
spot-set n [] i e same = refl
spot-set n (x ∷ es) zero e same = ap (λ b. cond b (Some 0) (option_map suc (spot_in n es))) (sym same)
spot-set n (x ∷ es) (suc i) e same = ap (λ o. cond (is_of n x) (Some 0) (option_map suc o)) (spot-set n es i e same)

-- An operation with an entry isn't one that doesn't wait.
apart-at : (es : List Entry) (i n : ℕ) (d : Entry) (w : Waiter) → i < length es → get_or es i d ≡ Waits w → waiter_of (live es) n ≡ None →
    eqb n w.serial ≡ false
apart-at [] i n d w inside is away = absurd (omega (arith, inside))
apart-at (Gap m ∷ es) zero n d w inside is away = (let f : ⊥ = cc in absurd f)
apart-at (Gap m ∷ es) (suc i) n d w inside is away = apart-at es i n d w (omega (arith, inside)) is away
apart-at (Waits v ∷ es) zero n d w inside is away = elim (eqb_tells n w.serial) [
  | inl same ↦ (
      let own : v ≡ w = cc in
      let there : eqb v.serial n ≡ true = ap (λ (u : Waiter). eqb u.serial n) own ∙ ap (λ k. eqb w.serial k) same.1 ∙ self w.serial in
      let none : ◌≡◌ {A = Option Waiter} (Some v) None = sym (ap (λ b. cond b (Some v) (waiter_of (live es) n)) there) ∙ away in
      let f : ⊥ = cc in absurd f)
  | inr apart ↦ apart.0
]
  where
    self : (k : ℕ) → eqb k k ≡ true
    self k = elim (eqb_tells k k) [ inl e ↦ e.0 | inr e ↦ absurd (e.1 refl) ]
apart-at (Waits v ∷ es) (suc i) n d w inside is away =
    by-first (eqb v.serial n) (λ rest. apart-at es i n d w (omega (arith, inside)) is rest) away
  where
    by-first : (b : Bool) → (waiter_of (live es) n ≡ None → eqb n w.serial ≡ false) → cond b (Some v) (waiter_of (live es) n) ≡ None →
        eqb n w.serial ≡ false
    by-first true later at = (let f : ⊥ = cc in absurd f)
    by-first false later at = later at

-- No operation has an entry in front of its own.
pub away-before : (es : List Entry) (i : ℕ) (d : Entry) (w : Waiter) → IsOnceEach (live es) → i < length es → get_or es i d ≡ Waits w →
    IsAway (take i es) w.serial
away-before [] i d w once inside is = absurd (omega (arith, inside))
away-before (e ∷ es) zero d w once inside is = refl
away-before (Gap m ∷ es) (suc i) d w once inside is = away-before es i d w once (omega (arith, inside)) is
away-before (Waits v ∷ es) (suc i) d w once inside is =
    ap (λ b. cond b (Some v) (waiter_of (live (take i es)) w.serial)) (apart-at es i v.serial d w (omega (arith, inside)) is once.0)
    ∙ away-before es i d w once.1 (omega (arith, inside)) is

-- So the operation of an entry has no place among the entries in front of it.
pub fresh-before : (es : List Entry) (i : ℕ) (d e : Entry) (n : ℕ) → IsOnceEach (live es) → i < length es → get_or es i d ≡ e →
    is_of n e ≡ true → spot_in n (take i es) ≡ None
fresh-before es i d (Gap m) n once inside is own = (let f : ⊥ = cc in absurd f)
fresh-before es i d (Waits w) n once inside is own =
    spot-away n (take i es) (subst (IsAway (take i es)) (eqb-true w.serial n own) (away-before es i d w once inside is))

-- Its entry is one operation more, or a gap.
pub live-more : (es : List Entry) (e : Entry) → length (live (es ++ e ∷ [])) ≡ length (live es) + cond (is_live e) 1 0
live-more [] (Waits w) = refl
live-more [] (Gap m) = refl
live-more (Waits v ∷ es) e = (let more = live-more es e in omega (arith, more))
live-more (Gap m ∷ es) e = live-more es e

-- The first entries are no more operations than all.
pub live-fewer : (es : List Entry) (i : ℕ) → length (live (take i es)) ≤ length (live es)
live-fewer [] zero = omega arith
live-fewer [] (suc i) = omega arith
live-fewer (e ∷ es) zero = omega arith
live-fewer (Waits v ∷ es) (suc i) = (let fewer = live-fewer es i in omega (arith, fewer))
live-fewer (Gap m ∷ es) (suc i) = live-fewer es i

-- So where a table has memory for all operations, it has it for the next one.
pub room_next : (es : List Entry) (i : ℕ) (d : Entry) (len spare most : ℕ) → i < length es → len ≡ length (live (take i es)) →
    most ≤ len + spare → length (live es) ≤ most → cond (is_live (get_or es i d)) 1 0 ≤ spare
room_next es i d len spare most inside count room all =
    let next = ap (λ xs. length (live xs)) (take_more es i d inside) in
    let more = live-more (take i es) (get_or es i d) in
    let fewer = live-fewer es (i + 1) in
    omega (arith, next, more, fewer, count, room, all)

-- Where there is memory for one operation more, there is for its place, but where it is the first one.
pub spare_there : (b stays : Bool) (es : List Entry) (entries most : ℕ) → 0 < spare_of b es entries most →
    (b ≡ true → es ≡ [] → stays ≡ true) → stays ≡ false → length (live es) + 1 ≤ most
spare_there true stays [] entries most room first breaks =
    (let two : true ≡ false = sym (first refl refl) ∙ breaks in let f : ⊥ = cc in absurd f)
spare_there false stays [] entries most room first breaks = omega (arith, room)
spare_there true stays (e ∷ es) entries most room first breaks = omega (arith, room)
spare_there false stays (e ∷ es) entries most room first breaks = omega (arith, room)

-- None waits twice once one is forgotten by a gap.
pub once_gap : (es ys : List Entry) (n i : ℕ) (w : Waiter) → ys ≡ set es i (Gap n) → IsPlace es n i w → IsOnceEach (live es) →
    IsOnceEach (live ys)
once_gap es ys n i w is there once =
    subst IsOnceEach (sym (ap live is ∙ there.forgets once)) (once-filtered (λ v. not (eqb v.serial n)) (live es) once)

-- It waits no more then.
pub away_gap : (es ys : List Entry) (n i : ℕ) (w : Waiter) → ys ≡ set es i (Gap n) → IsPlace es n i w → IsOnceEach (live es) → IsAway ys n
away_gap es ys n i w is there once = ap (λ ws. waiter_of ws n) (ap live is ∙ there.forgets once) ∙ forgotten-own (live es) n

-- None waits twice among those that a wake leaves.
pub once_left : (ready : ℕ) (es ys : List Entry) → ys ≡ filter (is_left ready) es → IsOnceEach (live es) → IsOnceEach (live ys)
once_left ready es ys is once =
    subst IsOnceEach (sym (live_left ready es ys is)) (once-filtered (λ w. not (is_met ready w)) (live es) once)

-- They are no more than all.
pub fewer_left : (ready : ℕ) (es ys : List Entry) → ys ≡ filter (is_left ready) es → length (live ys) ≤ length (live es)
fewer_left ready es ys is =
    let same = ap length (live_left ready es ys is) in
    let fewer = filtered-fits (λ w. not (is_met ready w)) (live es) in
    omega (arith, same, fewer)

module _ {S : Type 0} (old new : HashMap ℕ ℕ S) (es : List Entry) where
  -- The table with one place more is that of one entry more.
  pub indexed_joined : (e : Entry) (at : ℕ) → IsIndexed old es → at ≡ length es → ((n : ℕ) → is_of n e ≡ true → spot_in n es ≡ None) →
      ((n : ℕ) → get_by (nat_eq n) new ≡ cond (is_of n e) (Some at) (get_by (nat_eq n) old)) →
      hash_map_len new ≡ hash_map_len old + cond (is_live e) 1 0 → IsIndexed new (es ++ e ∷ [])
  indexed_joined e at index end fresh gets len = record {
    at = λ n. gets n ∙ ap (cond (is_of n e) (Some at)) (index.at n)
        ∙ ap (λ k. cond (is_of n e) (Some k) (spot_in n es)) end ∙ sym (spot-joined n es e (fresh n));
    count = (let more = live-more es e in omega (arith, len, index.count, more));
  }

  -- So is that with an operation put into it which doesn't wait.
  pub indexed_put : {E : Type 0} (result : Result (Option ℕ) E) (serial at : ℕ) → IsOk result →
      OnOk result (Updates nat_eq old new serial (Some at)) → IfOk result (λ was. was ≡ get_by (nat_eq serial) old) →
      IfOk result (λ was. hash_map_len new ≡ hash_map_len old + cond (is_some was) 0 1) → IsIndexed old es → IsAway es serial →
      at ≡ length es → (w : Waiter) → w.serial ≡ serial → IsIndexed new (es ++ Waits w ∷ [])
  indexed_put (Err error) serial at some updates was len index away end w own = absurd (cc)
  indexed_put (Ok was) serial at some updates is len index away end w own =
      indexed_joined (Waits w) at index end
      (λ n same. spot-away n es (subst (IsAway es) (sym own ∙ eqb-true w.serial n same) away))
      (λ n. updates.0 n ∙ ap (λ k. cond (nat_eq k n) (Some at) (get_by (nat_eq n) old)) (sym own))
      (len ∙ ap (λ o. hash_map_len old + cond (is_some o) 0 1) (is ∙ index.at serial ∙ spot-away serial es away))

  -- And that with the next entry's operation, if one waits with it.
  pub indexed_next : (i : ℕ) (d : Entry) → IsOnceEach (live es) → i < length es → IsIndexed old (take i es) →
      ((n : ℕ) → get_by (nat_eq n) new ≡ cond (is_of n (get_or es i d)) (Some i) (get_by (nat_eq n) old)) →
      (((n : ℕ) → is_of n (get_or es i d) ≡ true → get_by (nat_eq n) old ≡ None) →
      hash_map_len new ≡ hash_map_len old + cond (is_live (get_or es i d)) 1 0) →
      IsIndexed new (take (i + 1) es) × (hash_map_len new ≡ hash_map_len old + cond (is_live (get_or es i d)) 1 0)
  indexed_next i d once inside index gets len =
      let fresh = λ (n : ℕ) (own : is_of n (get_or es i d) ≡ true). fresh-before es i d (get_or es i d) n once inside refl own in
      let more = len (λ n own. index.at n ∙ fresh n own) in (
        subst (IsIndexed new) (sym (take_more es i d inside))
            (next (get_or es i d) index fresh gets more),
        more,
      )
    where
      next : (e : Entry) → IsIndexed old (take i es) → ((n : ℕ) → is_of n e ≡ true → spot_in n (take i es) ≡ None) →
          ((n : ℕ) → get_by (nat_eq n) new ≡ cond (is_of n e) (Some i) (get_by (nat_eq n) old)) →
          hash_map_len new ≡ hash_map_len old + cond (is_live e) 1 0 → IsIndexed new (take i es ++ e ∷ [])
      next e index fresh gets more = record {
        at = λ n. gets n ∙ ap (cond (is_of n e) (Some i)) (index.at n)
            ∙ ap (λ k. cond (is_of n e) (Some k) (spot_in n (take i es))) (sym (length-take-le i es (omega (arith, inside))))
            ∙ sym (spot-joined n (take i es) e (fresh n));
        count = (let one = live-more (take i es) e in omega (arith, more, index.count, one));
      }

  -- A table that has the same places, of entries that have the same operations at them.
  pub indexed_set : (ys : List Entry) (i n : ℕ) (v w : Waiter) → IsIndexed old es → ys ≡ set es i (Waits v) → IsPlace es n i w →
      v.serial ≡ n → IsIndexed old ys
  indexed_set ys i n v w index is there own = record {
    at = λ m. index.at m ∙ sym (ap (spot_in m) is ∙ spot-set m es i (Waits v)
        (ap (is_of m) (there.is (Waits v)) ∙ ap (λ k. eqb k m) (there.own ∙ sym own)));
    count = index.count ∙ sym (ap (λ xs. length (live xs)) is ∙ waits-set es i v w there.within (there.is (Waits v)));
  }

  -- The table without an operation is that of the entries with a gap at its place.
  pub indexed_gap : (ys : List Entry) (i n : ℕ) (w : Waiter) → IsIndexed old es → ys ≡ set es i (Gap n) → IsPlace es n i w →
      IsAway ys n → ((m : ℕ) → get_by (nat_eq m) new ≡ cond (nat_eq n m) None (get_by (nat_eq m) old)) →
      hash_map_len new + cond (is_some (get_by (nat_eq n) old)) 1 0 ≡ hash_map_len old → IsIndexed new ys
  indexed_gap ys i n w index is there away gone len = record {
    at = λ m. gone m ∙ by-number m;
    count = (
        let some = ap (λ o. cond (is_some o) 1 0) (index.at n) ∙ is-there (spot_in n es) (λ none. away_is n es None (sym none)) in
        let one = gap-set es i n w there.within (there.is (Gap n)) in
        let same = ap (λ xs. length (live xs)) is in
        omega (arith, some, one, same, len, index.count));
  }
    where
      is-there : (o : Option ℕ) → (o ≡ None → IsAway es n) → ◌≡◌ {A = ℕ} (cond (is_some o) 1 0) 1
      is-there None none = (let gone : ◌≡◌ {A = Option Waiter} None (Some w) = sym (none refl) ∙ there.found in let f : ⊥ = cc in absurd f)
      is-there (Some j) none = refl

      by-number : (m : ℕ) → cond (nat_eq n m) None (get_by (nat_eq m) old) ≡ spot_in m ys
      by-number m = elim (eqb_tells n m) [
        | inl same ↦ ap (λ b. cond b None (get_by (nat_eq m) old)) same.0 ∙ sym (ap (λ k. spot_in k ys) (sym same.1) ∙ spot-away n ys away)
        | inr apart ↦ ap (λ b. cond b None (get_by (nat_eq m) old)) apart.0 ∙ index.at m
            ∙ sym (ap (spot_in m) is ∙ spot-set m es i (Gap n) (ap (is_of m) (there.is (Gap n)) ∙ ap (λ k. eqb k m) there.own ∙ apart.0))
      ]
