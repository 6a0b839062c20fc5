-- What holds of every driver's handles, after a change of one slot.
use Rattle.std.proofs.Common.{◌≡◌, ◌≢◌, ◌∙◌, inl, inr, ℕ, ◌+◌, ◌-◌, ◌<◌, ◌≤◌, Bool, true, false, List, [], Option, Some, None, refl, sym}
use Rattle.std.proofs.Common.{ap, subst, arith, length, ◌==◌, if◌then◌else◌}
use Rattle.std.specs.Prelude.{◌&&◌, ◌||◌, not, unwrap_or, option_to_list}
use Rattle.std.specs.Ordering.{nat_cmp}
use Rattle.std.specs.FinMap.{FinMap, get, insert, remove}
use Rattle.handle_core.specs.Table.{holders_at, nobody}
use Rattle.op_slots.specs.declared.lifecycle.Lifecycle.{Lifecycle}
use Rattle.op_slots.specs.declared.lifecycle.Lifecycle.TheVariants.{Submitted, Waiting, Ignored, Completed}
use Rattle.machine.specs.declared.completion.Completion.{Completion}
use Rattle.machine.specs.declared.request.Outcome.{Outcome}
use Rattle.machine.specs.Effect.{made_by}
use Rattle.machine.specs.Lists.{has_number}
use Rattle.machine.specs.Lists.{one_if}
use Rattle.machine.specs.Request.{named, makes}
use Rattle.machine.specs.Ledger.{with_made}
use Rattle.machine.proofs.Numbers.{same-or-not, equal-other}
use Rattle.machine.proofs.Leaving.{named-ascends, holds-named}
use Rattle.driver_core.specs.declared.slot.Slot.{Slot}
use Rattle.driver_core.specs.Slot.{with_life, is_flying, is_owned_life, flies_in, slots_completed, slots_if, slots_after}
use Rattle.driver_core.specs.Ops.{AreNumbered}
use Rattle.driver_core.specs.Holds.{named_in, made_life, made_in, held_in, is_maker, is_dropped_life, is_dropped, if_dropped, dropped_in}
use Rattle.driver_core.specs.Holds.{without_ops, AreMaking, CanLeave}
use Rattle.driver_core.proofs.Counted.{counted-some, counted-changed, making-some, making-changed, apart-changed, flying-made, flying-held}
use Rattle.driver_core.proofs.Distinct.{one-more, one-most, ascends-distinct}
use Rattle.driver_core.proofs.Holds.{nobody-is, ops-left, can-leave}
use Rattle.driver_core.proofs.Numbers.{slot-number}
use Rattle.driver_core.proofs.Maps.{put-same, put-other, gone-same, gone-other}
use Rattle.uring_driver.specs.Holding.{Holding, IsSameHolding, closes, places, with_added, reaped_if, close_reaped}
use Rattle.uring_driver.specs.Making.{kept_if, lost_if, op_closes, op_ended, refuses_made}
use Rattle.uring_driver.specs.Reap.{is_refused, holding_after, lost_in}
use Rattle.uring_driver.specs.State.{AreHolding}
use Rattle.uring_driver.proofs.Ended.{not-old, not-refused, ops-added, made-few, kept-or-lost, places-ended}

-- One slot changed, and with it how often operations hold each handle, and how many make one.
pub record SlotChanges {B : Type 0} (old new : Holding) (slots slots' : FinMap nat_cmp (Slot B)) (given key : ℕ) : Type 0 where
  pub others : (k : ℕ) → k ≢ key → get slots' k ≡ get slots k
  pub counts : (h : ℕ) → (holders_at new.table h).operations + one_if (has_number h (held_in (get slots key)))
      ≡ (holders_at old.table h).operations + one_if (has_number h (held_in (get slots' key)))
  pub makers : new.makers + one_if (is_maker (get slots key)) ≡ old.makers + one_if (is_maker (get slots' key))
  pub apart : (h : ℕ) → made_in (get slots' key) ≡ Some h → has_number h (named_in (get slots' key)) ≡ false
  pub few : (h : ℕ) → (holders_at new.table h).operations ≤ given

-- Then it holds of them again.
pub holding-changes : {B : Type 0} (old new : Holding) (slots slots' : FinMap nat_cmp (Slot B)) (given given' key : ℕ) →
    AreHolding old slots given → SlotChanges old new slots slots' given' key → AreHolding new slots' given'
holding-changes old new slots slots' given given' key are change = record {
  counted = counted-changed old.table new.table slots slots' key are.counted change.others change.counts;
  few = change.few;
  making = making-changed slots slots' old.makers new.makers key are.making change.others change.makers;
  apart = apart-changed slots slots' key are.apart change.others change.apart;
}

-- More memory is reserved.
pub holding-reserved : {B : Type 0} (old new : Holding) (slots : FinMap nat_cmp (Slot B)) (given : ℕ) → IsSameHolding old new →
    AreHolding old slots given → AreHolding new slots given
holding-reserved old new slots given same are =
    let ops : (h : ℕ) → (holders_at new.table h).operations ≡ (holders_at old.table h).operations = λ h.
    ap (λ m. (unwrap_or (get m h) nobody).operations) same.table in
    record {
      counted = λ h. record { keys = (are.counted h).keys; few = (are.counted h).few ∙ sym (ops h); each = (are.counted h).each };
      few = λ h. (let a = ops h in let b = are.few h in omega (arith, a, b));
      making = record { keys = are.making.keys; few = are.making.few ∙ sym same.makers; each = are.making.each };
      apart = are.apart;
    }

-- An operation joined, in a slot that was free.
pub holding-joined : {B : Type 0} (old new : Holding) (slots slots' : FinMap nat_cmp (Slot B)) (given key : ℕ) (s : Slot B) →
    AreHolding old slots given → get slots key ≡ None → slots' ≡ insert slots key s → is_flying s.life ≡ true →
    ((h : ℕ) → (holders_at new.table h).operations ≡ (holders_at old.table h).operations + one_if (has_number h (named s.request))) →
    new.makers ≡ old.makers + one_if (makes s.request) → AreHolding new slots' (given + 1)
holding-joined old new slots slots' given key s are free is flies ops makers =
    let now : get slots' key ≡ Some s = ap (λ m. get m key) is ∙ put-same slots key s in
    holding-changes old new slots slots' given (given + 1) key are (record {
      others = λ k e. ap (λ m. get m k) is ∙ put-other slots key s k e;
      counts = λ h. (
          let a = ops h in
          let b = ap (λ o. one_if (has_number h (held_in o))) free in
          let c = ap (λ o. one_if (has_number h (held_in o))) now ∙ ap (λ hs. one_if (has_number h hs)) (flying-held s flies) in
          omega (arith, a, b, c));
      makers = (
          let a = ap (λ o. one_if (is_maker o)) free in
          let b = ap (λ o. one_if (is_maker o)) now ∙ ap (λ f. one_if (f && makes s.request)) flies in
          omega (arith, makers, a, b));
      apart = λ h made. (
          let f : None ≡ Some h = sym (flying-made s.life flies) ∙ ap made_in (sym now) ∙ made in let g : ⊥ = cc in absurd g);
      few = λ h. (let a = ops h in let b = are.few h in let c = one-most (has_number h (named s.request)) in omega (arith, a, b, c));
    })

module _ {B : Type 0} (holding : Holding) (slots slots' : FinMap nat_cmp (Slot B)) (given key : ℕ) (s : Slot B)
    (are : AreHolding holding slots given) (there : get slots key ≡ Some s) where
  -- The operation of a slot is in flight, and has another life in which it is.
  pub holding-changed : (l : Lifecycle Outcome) → is_flying s.life ≡ true → is_flying l ≡ true → slots' ≡ insert slots key (with_life s l) →
      AreHolding holding slots' given
  holding-changed l was flies is =
      let now : get slots' key ≡ Some (with_life s l) = ap (λ m. get m key) is ∙ put-same slots key (with_life s l) in
      holding-changes holding holding slots slots' given given key are (record {
        others = λ k e. ap (λ m. get m k) is ∙ put-other slots key (with_life s l) k e;
        counts = λ h. (
            let a = ap (λ o. one_if (has_number h (held_in o))) there ∙ ap (λ hs. one_if (has_number h hs)) (flying-held s was) in
            let b = ap (λ o. one_if (has_number h (held_in o))) now
            ∙ ap (λ hs. one_if (has_number h hs)) (flying-held (with_life s l) flies) in
            omega (arith, a, b));
        makers = (
            let a = ap (λ o. one_if (is_maker o)) there ∙ ap (λ f. one_if (f && makes s.request)) was in
            let b = ap (λ o. one_if (is_maker o)) now ∙ ap (λ f. one_if (f && makes s.request)) flies in
            omega (arith, a, b));
        apart = λ h made. (
            let f : None ≡ Some h = sym (flying-made l flies) ∙ ap made_in (sym now) ∙ made in let g : ⊥ = cc in absurd g);
        few = are.few;
      })

  -- A slot whose operation is reaped is freed, and the operation holds nothing any more.
  pub holding-freed : (new : Holding) → is_flying s.life ≡ false → slots' ≡ remove slots key → new.makers ≡ holding.makers →
      ((h : ℕ) → (holders_at new.table h).operations + one_if (has_number h (held_in (Some s))) ≡ (holders_at holding.table h).operations) →
      AreHolding new slots' given
  holding-freed new reaped is makers ops =
      let now : get slots' key ≡ None = ap (λ m. get m key) is ∙ gone-same slots key in
      holding-changes holding new slots slots' given given key are (record {
        others = λ k e. ap (λ m. get m k) is ∙ gone-other slots key k e;
        counts = λ h. (
            let a = ap (λ o. one_if (has_number h (held_in o))) there in
            let b = ap (λ o. one_if (has_number h (held_in o))) now in
            let c = ops h in
            omega (arith, a, b, c));
        makers = (
            let a = ap (λ o. one_if (is_maker o)) there ∙ ap (λ f. one_if (f && makes s.request)) reaped in
            let b = ap (λ o. one_if (is_maker o)) now in
            omega (arith, makers, a, b));
        apart = λ h made. (let f : None ≡ Some h = ap made_in (sym now) ∙ made in let g : ⊥ = cc in absurd g);
        few = λ h. (let a = ops h in let b = are.few h in omega (arith, a, b));
      })

-- A slot that is completed leaves the others.
completed-others : {B : Type 0} (l : Lifecycle Outcome) (slots : FinMap nat_cmp (Slot B)) (key : ℕ) (t : Slot B) (k : ℕ) → k ≢ key →
    get (slots_completed l slots key t) k ≡ get slots k
completed-others Submitted slots key t k e = put-other slots key t k e
completed-others (Waiting task) slots key t k e = put-other slots key t k e
completed-others Ignored slots key t k e = gone-other (insert slots key t) key k e ∙ put-other slots key t k e
completed-others (Completed outcome) slots key t k e = put-other slots key t k e

-- It stays with its outcome, unless its operation was dropped.
completed-here : {B : Type 0} (l : Lifecycle Outcome) (slots : FinMap nat_cmp (Slot B)) (key : ℕ) (t : Slot B) →
    get (slots_completed l slots key t) key ≡ (if is_dropped_life l then None else Some t)
completed-here Submitted slots key t = put-same slots key t
completed-here (Waiting task) slots key t = put-same slots key t
completed-here Ignored slots key t = gone-same (insert slots key t) key
completed-here (Completed outcome) slots key t = put-same slots key t

-- The handles that a dropped operation names.
dropped-names : (l : Lifecycle Outcome) (names : List ℕ) → if_dropped l names ≡ (if is_dropped_life l then names else [])
dropped-names Submitted names = refl
dropped-names (Waiting task) names = refl
dropped-names Ignored names = refl
dropped-names (Completed outcome) names = refl

-- The slot of a completion that isn't refused is in flight, and what it made isn't refused.
pub unrefused : {B : Type 0} (holding : Holding) (outcome : Outcome) (slot : Option (Slot B)) → is_refused holding outcome slot ≡ false →
    (flies_in slot ≡ true) × (refuses_made holding (is_maker slot) (made_by outcome) ≡ false)
unrefused holding outcome slot takes = by (flies_in slot) (refuses_made holding (is_maker slot) (made_by outcome)) takes
  where
    by : (a b : Bool) → (not a || b) ≡ false → (a ≡ true) × (b ≡ false)
    by true b e = (refl, e)
    by false b e = (let f : ⊥ = cc in absurd f)

-- A slot that was looked up is in flight, so it is there.
pub flies-there : {B : Type 0} (x : Option (Slot B)) → flies_in x ≡ true → (s : Slot B) × (x ≡ Some s) × (is_flying s.life ≡ true)
flies-there None flies = (let f : ⊥ = cc in absurd f)
flies-there (Some s) flies = (s, refl, flies)

-- A slot that wasn't dropped is its user's.
owned-not : (l : Lifecycle Outcome) → is_dropped_life l ≡ false → is_owned_life l ≡ true
owned-not Submitted h = refl
owned-not (Waiting task) h = refl
owned-not Ignored h = (let f : ⊥ = cc in absurd f)
owned-not (Completed outcome) h = refl

-- The slot of a completion is completed.
module _ {B : Type 0} (slots : FinMap nat_cmp (Slot B)) (c : Completion) (s : Slot B) (there : get slots c.word ≡ Some s)
    (flies : is_flying s.life ≡ true) where
  pub after-is : slots_after slots c (get slots c.word) ≡ slots_completed s.life slots c.word (with_life s (Completed c.outcome))
  after-is = ap (slots_after slots c) there ∙ ap (λ b. slots_if b slots c s) flies

  -- It may have made a handle.
  pub maker-is : is_maker (get slots c.word) ≡ makes s.request
  maker-is = ap is_maker there ∙ ap (λ b. b && makes s.request) flies

  -- It doesn't any more.
  pub maker-not : (b : Bool) → is_dropped_life s.life ≡ b →
      is_maker (get (slots_completed s.life slots c.word (with_life s (Completed c.outcome))) c.word) ≡ false
  maker-not true is = ap is_maker (completed-here s.life slots c.word (with_life s (Completed c.outcome))
      ∙ ap (λ b. if b then None else Some (with_life s (Completed c.outcome))) is)
  maker-not false is = ap is_maker (completed-here s.life slots c.word (with_life s (Completed c.outcome))
      ∙ ap (λ b. if b then None else Some (with_life s (Completed c.outcome))) is)

-- There are no more makers than are counted.
pub makers-some : {B : Type 0} (slots : FinMap nat_cmp (Slot B)) (makers key : ℕ) → AreMaking slots makers →
    one_if (is_maker (get slots key)) ≤ makers
makers-some slots makers key making = by (is_maker (get slots key)) refl
  where
    by : (b : Bool) → is_maker (get slots key) ≡ b → one_if b ≤ makers
    by true is = (let a = making-some slots makers key making is in omega (arith, a))
    by false is = omega arith

-- As many operations make handles as are left once one ended.
pub making-after : {B : Type 0} (slots : FinMap nat_cmp (Slot B)) (makers : ℕ) (c : Completion) → AreMaking slots makers →
    flies_in (get slots c.word) ≡ true → AreMaking (slots_after slots c (get slots c.word)) (makers - one_if (is_maker (get slots c.word)))
making-after slots makers c making flies =
    let here = flies-there (get slots c.word) flies in
    let s = here.0 in
    subst (λ m. AreMaking m (makers - one_if (is_maker (get slots c.word)))) (sym (after-is slots c s here.1 here.2))
    (making-changed slots (slots_completed s.life slots c.word (with_life s (Completed c.outcome))) makers
    (makers - one_if (is_maker (get slots c.word))) c.word making
    (completed-others s.life slots c.word (with_life s (Completed c.outcome)))
    (let b = ap one_if (maker-not slots c s here.1 here.2 (is_dropped_life s.life) refl) in
    let some = makers-some slots makers c.word making in
    omega (arith, b, some)))

-- What holds of handles holds once the slot of a completion is completed.
module _ {B : Type 0} (holding : Holding) (slots : FinMap nat_cmp (Slot B)) (given : ℕ) (c : Completion) (s : Slot B)
    (are : AreHolding holding slots given) (there : get slots c.word ≡ Some s) (flies : is_flying s.life ≡ true) where
  abbrev t : Slot B
  t = with_life s (Completed c.outcome)

  abbrev after : FinMap nat_cmp (Slot B)
  after = slots_completed s.life slots c.word t

  maker-some : one_if (makes s.request) ≤ holding.makers
  maker-some =
      (let a = makers-some slots holding.makers c.word are.making in
      let b = ap one_if (maker-is slots c s there flies) in omega (arith, a, b))

  module _ (fits : refuses_made holding (makes s.request) (made_by c.outcome) ≡ false) where
    -- A handle that it made it doesn't name.
    not-named : (h : ℕ) → made_by c.outcome ≡ Some h → has_number h (named s.request) ≡ false
    not-named h made = by (has_number h (named s.request)) refl
      where
        by : (b : Bool) → has_number h (named s.request) ≡ b → b ≡ false
        by true is =
            let new = not-old holding h (not-refused holding (makes s.request) h
            (ap (refuses_made holding (makes s.request)) (sym made) ∙ fits)).1 in
            let none = ap (λ x. x.operations) (nobody-is (holders_at holding.table h) new.0) in
            let some = counted-some holding.table slots c.word are.counted h
            (ap (λ o. has_number h (held_in o)) there ∙ ap (has_number h) (flying-held s flies) ∙ is) in
            absurd (omega (arith, none, some))
        by false is = refl

    held-was : (h : ℕ) → one_if (has_number h (held_in (get slots c.word))) ≡ one_if (has_number h (named s.request))
    held-was h = ap (λ o. one_if (has_number h (held_in o))) there ∙ ap (λ hs. one_if (has_number h hs)) (flying-held s flies)

    -- An operation that was dropped is gone, and leaves what it names.
    gone-treated : is_dropped_life s.life ≡ true → AreHolding
        (op_ended holding (named s.request) (makes s.request) [] (lost_if true (made_by c.outcome))) after given
    gone-treated dropped =
        let now : get after c.word ≡ None = completed-here s.life slots c.word t ∙ ap (λ b. if b then None else Some t) dropped in
        let ops : (h : ℕ) → (holders_at (without_ops holding.table (named s.request)) h).operations
        + one_if (has_number h (named s.request))
        ≡ (holders_at holding.table h).operations =
        ops-left holding.table (named s.request) (ascends-distinct 0 (named s.request) (named-ascends s.request)) (λ h is.
        counted-some holding.table slots c.word are.counted h
        (ap (λ o. has_number h (held_in o)) there ∙ ap (has_number h) (flying-held s flies) ∙ is)) in
        holding-changes holding (op_ended holding (named s.request) (makes s.request) [] (lost_if true (made_by c.outcome))) slots after
        given given c.word are (record {
          others = completed-others s.life slots c.word t;
          counts = λ h. (
              let a = ops h in
              let b = held-was h in
              let d = ap (λ o. one_if (has_number h (held_in o))) now in
              omega (arith, a, b, d));
          makers = (
              let a = ap one_if (maker-is slots c s there flies) in
              let b = ap one_if (maker-not slots c s there flies true dropped) in
              let some = maker-some in
              omega (arith, a, b, some));
          apart = λ h made. (let f : None ≡ Some h = ap made_in (sym now) ∙ made in let g : ⊥ = cc in absurd g);
          few = λ h. (let a = ops h in let b = are.few h in omega (arith, a, b));
        })

    -- Another one holds what it made.
    kept-treated : AreNumbered slots given → is_dropped_life s.life ≡ false → (made : Option ℕ) → made_by c.outcome ≡ made → AreHolding
        (op_ended holding [] (makes s.request) (option_to_list made) []) after given
    kept-treated numbered kept made is =
        let now : get after c.word ≡ Some t = completed-here s.life slots c.word t ∙ ap (λ b. if b then None else Some t) kept in
        let below = (numbered c.word s.serial (slot-number slots c.word s there (owned-not s.life kept))).number_below in
        let held-now : (h : ℕ) → one_if (has_number h (held_in (get after c.word)))
        ≡ one_if (has_number h (with_made made (named s.request))) =
        λ h. ap (λ o. one_if (has_number h (held_in o))) now ∙ ap (λ m. one_if (has_number h (with_made m (named s.request)))) is in
        holding-changes holding (op_ended holding [] (makes s.request) (option_to_list made) []) slots after given given c.word are
        (record {
          others = completed-others s.life slots c.word t;
          counts = λ h. (
              let a = added made is h in
              let b = held-was h in
              let d = held-now h in
              omega (arith, a, b, d));
          makers = (
              let a = ap one_if (maker-is slots c s there flies) in
              let b = ap one_if (maker-not slots c s there flies false kept) in
              let some = maker-some in
              omega (arith, a, b, some));
          apart = λ h made'. ap (λ o. has_number h (named_in o)) now ∙ not-named h (ap made_in (sym now) ∙ made');
          few = λ h. few-added made is h below;
        })
      where
        -- How often operations hold a handle then.
        added : (made : Option ℕ) → made_by c.outcome ≡ made → (h : ℕ) →
            (holders_at (with_added holding.table (option_to_list made)) h).operations + one_if (has_number h (named s.request))
            ≡ (holders_at holding.table h).operations + one_if (has_number h (with_made made (named s.request)))
        added None is h = refl
        added (Some m) is h =
            let new = not-old holding m (not-refused holding (makes s.request) m
            (ap (refuses_made holding (makes s.request)) (sym is) ∙ fits)).1 in
            let a = ops-added holding.table m new.0 h in
            let b = one-more h m (named s.request) (not-named m is) in
            omega (arith, a, b)

        few-added : (made : Option ℕ) → made_by c.outcome ≡ made → (h : ℕ) → s.serial < given →
            (holders_at (with_added holding.table (option_to_list made)) h).operations ≤ given
        few-added None is h below = are.few h
        few-added (Some m) is h below = elim (same-or-not h m) [
          | inl e ↦ (
              let new = not-old holding m (not-refused holding (makes s.request) m
              (ap (refuses_made holding (makes s.request)) (sym is) ∙ fits)).1 in
              let a = ops-added holding.table m new.0 h in
              let b = ap (λ x. (holders_at holding.table x).operations) e
              ∙ ap (λ x. x.operations) (nobody-is (holders_at holding.table m) new.0) in
              let d = one-most (h == m) in
              omega (arith, a, b, d, below))
          | inr e ↦ (
              let new = not-old holding m (not-refused holding (makes s.request) m
              (ap (refuses_made holding (makes s.request)) (sym is) ∙ fits)).1 in
              let a = ops-added holding.table m new.0 h in
              let b = ap one_if (equal-other h m e) in
              let d = are.few h in
              omega (arith, a, b, d))
        ]

    -- Either way it holds of them again.
    pub slot-treated : AreNumbered slots given → AreHolding (holding_after holding c.outcome (Some s)) after given
    slot-treated numbered = by (is_dropped_life s.life) refl
      where
        by : (b : Bool) → is_dropped_life s.life ≡ b → AreHolding (holding_after holding c.outcome (Some s)) after given
        by true dropped =
            subst (λ d. AreHolding (op_ended holding (if_dropped s.life (named s.request)) (is_flying s.life && makes s.request)
            (kept_if d (made_by c.outcome)) (lost_if d (made_by c.outcome))) after given) (sym dropped)
            (subst (λ f. AreHolding (op_ended holding (if_dropped s.life (named s.request)) (f && makes s.request) []
            (lost_if true (made_by c.outcome))) after given) (sym flies)
            (subst (λ ns. AreHolding (op_ended holding ns (makes s.request) [] (lost_if true (made_by c.outcome))) after given)
            (sym (dropped-names s.life (named s.request) ∙ ap (λ b. if b then named s.request else []) dropped)) (gone-treated dropped)))
        by false kept =
            subst (λ d. AreHolding (op_ended holding (if_dropped s.life (named s.request)) (is_flying s.life && makes s.request)
            (kept_if d (made_by c.outcome)) (lost_if d (made_by c.outcome))) after given) (sym kept)
            (subst (λ f. AreHolding (op_ended holding (if_dropped s.life (named s.request)) (f && makes s.request)
            (option_to_list (made_by c.outcome)) []) after given) (sym flies)
            (subst (λ ns. AreHolding (op_ended holding ns (makes s.request) (option_to_list (made_by c.outcome)) []) after given)
            (sym (dropped-names s.life (named s.request) ∙ ap (λ b. if b then named s.request else []) kept))
            (kept-treated numbered kept (made_by c.outcome) refl)))

-- The handles still are as they should be once a completion was treated that isn't refused.
pub holding-treated : {B : Type 0} (holding : Holding) (slots : FinMap nat_cmp (Slot B)) (given : ℕ) (c : Completion) →
    AreHolding holding slots given → AreNumbered slots given → is_refused holding c.outcome (get slots c.word) ≡ false →
    AreHolding (holding_after holding c.outcome (get slots c.word)) (slots_after slots c (get slots c.word)) given
holding-treated holding slots given c are numbered takes =
    let both = unrefused holding c.outcome (get slots c.word) takes in
    let here = flies-there (get slots c.word) both.0 in
    let s = here.0 in
    let fits = ap (λ b. refuses_made holding b (made_by c.outcome)) (sym (maker-is slots c s here.1 here.2)) ∙ both.1 in
    subst (λ m. AreHolding (holding_after holding c.outcome (get slots c.word)) m given)
    (sym (after-is slots c s here.1 here.2))
    (subst (λ x. AreHolding (holding_after holding c.outcome x) (slots_completed s.life slots c.word (with_life s (Completed c.outcome)))
    given)
    (sym here.1) (slot-treated holding slots given c s are here.1 here.2 fits numbered))

-- An operation that was dropped may leave the handles that it names.
pub dropped-leave : {B : Type 0} (holding : Holding) (slots : FinMap nat_cmp (Slot B)) (given key : ℕ) → AreHolding holding slots given →
    CanLeave holding.table (dropped_in (get slots key))
dropped-leave {B} holding slots given key are = of_slot (get slots key) refl
  where
    names-leave : (s : Slot B) → get slots key ≡ Some s → CanLeave holding.table (named s.request)
    names-leave s there =
        can-leave holding.table (named s.request) (ascends-distinct 0 (named s.request) (named-ascends s.request)) (λ h is.
        counted-some holding.table slots key are.counted h
        (ap (λ o. has_number h (held_in o)) there ∙ holds-named h (made_life s.life) (named s.request) is))

    by_life : (s : Slot B) (l : Lifecycle Outcome) → CanLeave holding.table (named s.request) →
        CanLeave holding.table (if_dropped l (named s.request))
    by_life s Submitted may = tt
    by_life s (Waiting task) may = tt
    by_life s Ignored may = may
    by_life s (Completed outcome) may = tt

    of_slot : (x : Option (Slot B)) → get slots key ≡ x → CanLeave holding.table (dropped_in x)
    of_slot None there = tt
    of_slot (Some s) there = by_life s s.life (names-leave s there)

-- No more handles are held or may be made once a completion was treated that isn't refused, with those whose closes that queues.
pub places-treated : {B : Type 0} (holding : Holding) (slots : FinMap nat_cmp (Slot B)) (given : ℕ) (c : Completion) →
    AreHolding holding slots given → is_refused holding c.outcome (get slots c.word) ≡ false →
    places (holding_after holding c.outcome (get slots c.word))
    + length (op_closes holding.table (dropped_in (get slots c.word)) (lost_in (get slots c.word) c.outcome)) ≤ places holding
places-treated holding slots given c are takes =
    let both = unrefused holding c.outcome (get slots c.word) takes in
    let slot = get slots c.word in
    places-ended holding (dropped_in slot) (is_maker slot) (kept_if (is_dropped slot) (made_by c.outcome)) (lost_in slot c.outcome)
    (dropped-leave holding slots given c.word are) (makers-some slots holding.makers c.word are.making)
    (let a = kept-or-lost (is_dropped slot) (made_by c.outcome) in
    let b = made-few holding (is_maker slot) (made_by c.outcome) both.1 in
    omega (arith, a, b))

-- What closes counts for nothing: the reap of a close keeps what holds of handles.
pub holding-reaped : {B : Type 0} (holding : Holding) (slots : FinMap nat_cmp (Slot B)) (given h : ℕ) → AreHolding holding slots given →
    AreHolding (close_reaped holding h) slots given
holding-reaped holding slots given h are = by (closes holding h)
  where
    by : (b : Bool) → AreHolding (reaped_if b holding h) slots given
    by true = record { counted = are.counted; few = are.few; making = are.making; apart = are.apart }
    by false = are
