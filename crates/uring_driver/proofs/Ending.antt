-- A whole turn from its begin and its end, over any ring.
use Rattle.std.proofs.Common.{◌≡◌, ◌≤◌, ◌<◌, ℕ, Bool, true, false, List, [], ◌∷◌, ◌++◌, length, Option, Some, None, refl, sym, ◌∙◌, ap}
use Rattle.std.proofs.Common.{subst}
use Rattle.std.proofs.Common.{arith, append_assoc, length-append}
use Rattle.std.proofs.lemmas.Bool.Decides.{nat_tests}
use Rattle.std.specs.Prelude.{◌||◌, IsTrue, nat_lt, take, drop}
use Rattle.std.proofs.lemmas.List.{take-append-drop}
use Rattle.std.specs.Ordering.{nat_cmp}
use Rattle.std.specs.FinMap.{FinMap}
use Rattle.machine.specs.declared.completion.Completion.{Completion}
use Rattle.ring_core.specs.Ring.{RingView}
use Rattle.driver_core.specs.declared.op.Stop.TheVariants.{BadCompletion}
use Rattle.driver_core.specs.declared.op.Turned.{Turned}
use Rattle.driver_core.specs.declared.slot.Slot.{Slot}
use Rattle.driver_core.proofs.Lists.{emptied}
use Rattle.driver_core.proofs.Rising.{rose-later}
use Rattle.uring_driver.specs.declared.uring.IoUringDriver.{IoUringDriver}
use Rattle.uring_driver.specs.declared.uring.turn.Begun.{Begun}
use Rattle.uring_driver.specs.declared.uring.turn.Named.{Named}
use Rattle.uring_driver.specs.Holding.{Holding}
use Rattle.uring_driver.specs.Uring.{ring_in, pending, whole_ring}
use Rattle.uring_driver.specs.Submissions.{Arrives, EnteredFor}
use Rattle.uring_driver.specs.Reap.{HasStray, Treated, treat_each}
use Rattle.uring_driver.specs.Reaps.{closes_of, PendingJoins, Treats, Reaps, ReapsAll, midway_of}
use Rattle.uring_driver.specs.Turned.{StopsFor, TreatsTaken, TreatsFor}
use Rattle.uring_driver.specs.Begun.{HasBegun, TookReady, is_at_hand, why_stopped}
use Rattle.uring_driver.proofs.Strays.{treats-stray, Split, split}

-- What is told of what was treated, where nobody was named before.
abbrev told : {B : Type 0} → FinMap nat_cmp (Slot B) → Holding → List ℕ → List ℕ → List ℕ → List ℕ → Option ℕ → Treated B
told slots holding reaped closed woken queued bad = record {
  slots = slots;
  holding = holding;
  reaped = reaped;
  closed = closed;
  woken = woken;
  queued = queued;
  bad = bad;
  left = [];
}

-- Lists that had nothing are what joined them.
joined-none : (before after all : List ℕ) → before ≡ [] → after ≡ before ++ all → all ≡ after
joined-none before after all none is = sym (is ∙ ap (λ xs. xs ++ all) none)

-- What was treated is what is told of it.
treats-told : {B : Type 0} (all : Treated B) (slots : FinMap nat_cmp (Slot B)) (holding : Holding) (before after : Named) (bad : Option ℕ) →
    Treats all slots holding before after bad → before.reaped.items ≡ [] → before.closed.items ≡ [] → before.woken.items ≡ [] →
    all ≡ told slots holding after.reaped.items after.closed.items after.woken.items all.queued bad
treats-told all slots holding before after bad t reaped closed woken =
    ap (λ x. record all { slots = x }) t.slots
    ∙ ap (λ x. record all { slots = slots; holding = x }) t.holding
    ∙ ap (λ x. record all { slots = slots; holding = holding; reaped = x })
    (joined-none before.reaped.items after.reaped.items all.reaped reaped t.reaped)
    ∙ ap (λ x. record all { slots = slots; holding = holding; reaped = after.reaped.items; closed = x })
    (joined-none before.closed.items after.closed.items all.closed closed t.closed)
    ∙ ap (λ x. record all {
      slots = slots;
      holding = holding;
      reaped = after.reaped.items;
      closed = after.closed.items;
      woken = x;
    }) (joined-none before.woken.items after.woken.items all.woken woken t.woken)
    ∙ ap (λ x. record (told slots holding after.reaped.items after.closed.items after.woken.items all.queued x) { left = all.left }) t.bad
    ∙ ap (λ x. record (told slots holding after.reaped.items after.closed.items after.woken.items all.queued bad) { left = x }) t.left

-- What the reaps of a turn did: as many as completions were ready, or up to a stray one.
pub record Ends {R B : Type 0} (view : R → RingView) (tells steady : Bool) (mid new : IoUringDriver R B) (before after : Named)
    (bad : Option ℕ) : Type 0 where
  pub count : ℕ
  pub within : count ≤ length (view (ring_in mid)).done
  pub all : bad ≡ None → count ≡ length (view (ring_in mid)).done
  pub reaps : Reaps view tells steady (midway_of mid) (midway_of new) before after count bad

-- How far the reaps of a turn went.
pub ends-of : {R B : Type 0} (view : R → RingView) (tells steady : Bool) (mid new : IoUringDriver R B) (before after : Named)
    (bad : Option ℕ) → ReapsAll view tells steady (midway_of mid) (midway_of new) before after bad →
    Ends view tells steady mid new before after bad
ends-of view tells steady mid new before after None reaps = record {
  count = length (view (ring_in mid)).done;
  within = omega arith;
  all = λ none. refl;
  reaps = reaps;
}
ends-of view tells steady mid new before after (Some word) reaps = record {
  count = reaps.0;
  within = reaps.1;
  all = λ none. (let f : ⊥ = cc in absurd f);
  reaps = reaps.2;
}

module _ {R B : Type 0} (view : R → RingView) (tells steady : Bool) (old mid new : IoUringDriver R B) (begun : Begun) (turned : Turned)
    (named : Named) (bad : Option ℕ) (has : HasBegun view tells steady old mid begun)
    (ends : Ends view tells steady mid new begun.named named bad)
    (reaped : turned.reaped ≡ named.reaped.items) (closed : turned.closed ≡ named.closed.items)
    (woken : turned.woken ≡ named.woken.items) where
  -- The completions that were taken off, and what they came to.
  abbrev taken : List Completion
  taken = ends.reaps.taken

  abbrev all : Treated B
  all = treat_each mid.slots.values mid.holding taken

  -- What the enter of a turn did to what was pending.
  enters-by : (busy : Bool) → EnteredFor view tells steady old.ring mid.ring busy → Arrives view tells old.ring mid.ring
  enters-by false enter = enter.0
  enters-by true enter = enter.0

  pub enters : Arrives view tells old.ring mid.ring
  enters = enters-by begun.busy has.entered

  -- What was treated is what the turn tells.
  pub told-is : all ≡ told new.slots.values new.holding turned.reaped turned.closed turned.woken all.queued bad
  told-is =
      treats-told all new.slots.values new.holding begun.named named bad ends.reaps.treats has.none_reaped has.none_closed has.none_woken
      ∙ ap (λ xs. told new.slots.values new.holding xs named.closed.items named.woken.items all.queued bad) (sym reaped)
      ∙ ap (λ xs. told new.slots.values new.holding turned.reaped xs named.woken.items all.queued bad) (sym closed)
      ∙ ap (λ xs. told new.slots.values new.holding turned.reaped turned.closed xs all.queued bad) (sym woken)

  -- Over a ring that shows its lists the completions that were taken off are the first of what was ready.
  pub cut : (shows : IsTrue tells) →
      Split (view (ring_in mid)).done (ends.reaps.ring.told shows).more taken (view (ring_in new)).done
  cut shows =
      let told = ends.reaps.ring.told shows in
      split (view (ring_in mid)).done told.more taken (view (ring_in new)).done told.done
      (let n = ends.reaps.counted in let w = ends.within in omega (arith, n, w))

  -- Where none is stray they are all of it.
  pub all-cut : (shows : IsTrue tells) → bad ≡ None → (cut shows).rest ≡ []
  all-cut shows none = emptied (cut shows).rest (
      let long = ap length (cut shows).front ∙ length-append taken (cut shows).rest in
      let n = ends.reaps.counted ∙ ends.all none in
      omega (arith, long, n))

  -- What it treated, by the word of a bad completion.
  treats-as : (b : Option ℕ) → bad ≡ b → TreatsTaken view tells old new turned all.queued b
  treats-as b is = record {
    taken = taken;
    treated = ap (λ m. treat_each m old.holding taken) (sym has.same.slots)
        ∙ ap (λ h. treat_each mid.slots.values h taken) (sym has.same.holding) ∙ told-is
        ∙ ap (λ x. told new.slots.values new.holding turned.reaped turned.closed turned.woken all.queued x) is;
    few = (let a = ends.reaps.ring.few_to_come in let b = enters.few_to_come in omega (arith, a, b));
    shown = λ shows. record {
      mid = whole_ring view mid;
      front = enters.told shows;
      rest = (cut shows).rest;
      ready = (cut shows).front;
      all = λ none. all-cut shows (is ∙ none);
      more = (ends.reaps.ring.told shows).more;
      left = (cut shows).back;
    };
  }

  -- Only these closes join what is pending.
  pub moves : IsTrue tells → PendingJoins (pending view old) (closes_of all.queued) (pending view new)
  moves shows =
      let front = enters.told shows in
      let joins = (ends.reaps.ring.told shows).pending in
      let head = take front.count (pending view old) in
      record {
        entered = head ++ joins.entered;
        moved = ap (λ xs. xs ++ closes_of all.queued) (sym (take-append-drop front.count (pending view old)))
            ∙ append_assoc head (drop front.count (pending view old)) (closes_of all.queued)
            ∙ ap (λ xs. head ++ (xs ++ closes_of all.queued)) (sym front.took.queue) ∙ ap (λ xs. head ++ xs) joins.moved
            ∙ sym (append_assoc head joins.entered (pending view new));
      }

  -- The word of a bad completion is stray.
  stray : (word : ℕ) → bad ≡ Some word → StopsFor view old new turned all.queued (Some (BadCompletion word))
  stray word is =
      subst (λ m. HasStray m new.holding word) ends.reaps.treats.slots
      (subst (λ h. HasStray all.slots h word) ends.reaps.treats.holding
      (treats-stray mid.slots.values mid.holding taken word (ends.reaps.treats.bad ∙ is)))

  -- Why it stopped, by how its enter went.
  stops-by : (busy : Bool) (b : Option ℕ) → EnteredFor view tells steady old.ring mid.ring busy → bad ≡ b →
      StopsFor view old new turned all.queued (why_stopped b busy)
  stops-by false None enter none = (
      let few = ends.reaps.ring.few in
      let n = ends.reaps.counted ∙ ends.all none in
      let q = ap length enter.1 in
      let d = ap length enter.2 in
      omega (arith, few, n, q, d))
  stops-by true None enter none = (
    rose-later _ _ _ enter.1 ends.reaps.ring.later.more_busies,
    λ unqueued. emptied (view (ring_in new)).done (
        let same = (ends.reaps.ring.same unqueued).done in
        let n = ends.reaps.counted ∙ ends.all none in
        omega (arith, same, n)),
  )
  stops-by busy (Some word) enter is = stray word is

  pub stops : StopsFor view old new turned all.queued (why_stopped bad begun.busy)
  stops = stops-by begun.busy bad has.entered refl

  -- What it treated, by how its enter went.
  treats-by : (busy : Bool) (b : Option ℕ) → bad ≡ b → TreatsFor view tells old new turned all.queued (why_stopped b busy)
  treats-by false None is = treats-as None is
  treats-by true None is = treats-as None is
  treats-by busy (Some word) is = treats-as (Some word) is

  pub treats : TreatsFor view tells old new turned all.queued (why_stopped bad begun.busy)
  treats = treats-by begun.busy bad refl

  -- A bad completion was ready.
  some-bad : (ts : List Completion) (word : ℕ) → (treat_each mid.slots.values mid.holding ts).bad ≡ Some word → 0 < length ts
  some-bad [] word is = (let f : ⊥ = cc in absurd f)
  some-bad (c ∷ cs) word is = omega arith

  -- Where completions are ready, it needs no wait.
  at-hand : (busy : Bool) (ready : ℕ) → 0 < ready → (busy || nat_lt 0 ready) ≡ true
  at-hand true ready some = refl
  at-hand false ready some = grind (arith, nat_tests, some)

  -- It treated what was ready, by how its enter went.
  took-by : (busy : Bool) (b : Option ℕ) → (is : bad ≡ b) →
      TookReady view tells old new turned all.queued (why_stopped b busy) (treats-by busy b is)
      (busy || nat_lt 0 (length (view (ring_in mid)).done))
  unfolding treats-by treats-as
  took-by false None is = ap (nat_lt 0) (ends.reaps.counted ∙ ends.all is)
  took-by true None is = refl
  took-by busy (Some word) is = at-hand busy (length (view (ring_in mid)).done) (
      let some = some-bad taken word (ends.reaps.treats.bad ∙ is) in
      let n = ends.reaps.counted in
      let w = ends.within in
      omega (arith, some, n, w))

  pub took : TookReady view tells old new turned all.queued (why_stopped bad begun.busy) treats (is_at_hand view mid begun)
  unfolding treats
  took = took-by begun.busy bad refl
