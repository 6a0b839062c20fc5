-- What completions that are treated one after another come to.
use Rattle.std.proofs.Common.{◌≡◌, inl, inr, ℕ, ◌+◌, ◌<◌, true, List, [], ◌∷◌, ◌++◌, length, Bool, Option, Some, None, refl, sym}
use Rattle.std.proofs.Common.{◌∙◌, ap, subst}
use Rattle.std.proofs.Common.{append_assoc, append-nil, length-append}
use Rattle.std.specs.Ordering.{nat_cmp}
use Rattle.std.specs.FinMap.{FinMap}
use Rattle.machine.specs.declared.world.TheConstants.{MOST_HANDLES}
use Rattle.machine.specs.declared.completion.Completion.{Completion}
use Rattle.ring_core.specs.Entry.{target}
use Rattle.machine.specs.Lists.{has_number}
use Rattle.ring_core.specs.Ring.{RingView, IsTakenOff}
use Rattle.machine.proofs.Leaving.{has-first, has-later, has-other}
use Rattle.machine.proofs.Numbers.{same-or-not}
use Rattle.driver_core.specs.declared.slot.Slot.{Slot}
use Rattle.uring_driver.specs.declared.uring.turn.Named.{Named}
use Rattle.uring_driver.specs.Holding.{Holding}
use Rattle.uring_driver.specs.Reap.{Treated, treats_none, treat_one, behind, goes_on, treat_each}
use Rattle.uring_driver.specs.Reaps.{Treats, PostsAll, Midway, Reaps, ReapsRing}
use Rattle.uring_driver.proofs.Posted.{ring-on, ring-taken, ring-posts, ring-none}

-- A completion with none behind it.
alone-by : {B : Type 0} (first : Treated B) (b : Option ℕ) → first.bad ≡ b →
    goes_on b first [] (treats_none first.slots first.holding) ≡ record first { left = [] }
alone-by first None is =
    ap (λ xs. record first {
      reaped = xs;
      closed = first.closed ++ [];
      woken = first.woken ++ [];
      queued = first.queued ++ [];
      bad = None;
      left = [];
    }) (append-nil first.reaped)
    ∙ ap (λ xs. record first { closed = xs; woken = first.woken ++ []; queued = first.queued ++ []; bad = None; left = [] })
    (append-nil first.closed)
    ∙ ap (λ xs. record first { woken = xs; queued = first.queued ++ []; bad = None; left = [] }) (append-nil first.woken)
    ∙ ap (λ xs. record first { queued = xs; bad = None; left = [] }) (append-nil first.queued)
    ∙ ap (λ b. record first { bad = b; left = [] }) (sym is)
alone-by first (Some word) is = refl

-- One completion is treated as it is alone.
pub treats-alone : {B : Type 0} (slots : FinMap nat_cmp (Slot B)) (holding : Holding) (c : Completion) →
    treat_each slots holding (c ∷ []) ≡ record (treat_one (target c.word) slots holding c) { left = [] }
treats-alone slots holding c =
    alone-by (treat_one (target c.word) slots holding c) (treat_one (target c.word) slots holding c).bad refl

-- What is behind two that follow one another.
behind-both : {B : Type 0} (a b c : Treated B) → behind a (behind b c) ≡ behind (behind a b) c
behind-both a b c =
    ap (λ xs. record c {
      reaped = xs;
      closed = a.closed ++ (b.closed ++ c.closed);
      woken = a.woken ++ (b.woken ++ c.woken);
      queued = a.queued ++ (b.queued ++ c.queued);
    }) (sym (append_assoc a.reaped b.reaped c.reaped))
    ∙ ap (λ xs. record c {
      reaped = (a.reaped ++ b.reaped) ++ c.reaped;
      closed = xs;
      woken = a.woken ++ (b.woken ++ c.woken);
      queued = a.queued ++ (b.queued ++ c.queued);
    }) (sym (append_assoc a.closed b.closed c.closed))
    ∙ ap (λ xs. record c {
      reaped = (a.reaped ++ b.reaped) ++ c.reaped;
      closed = (a.closed ++ b.closed) ++ c.closed;
      woken = xs;
      queued = a.queued ++ (b.queued ++ c.queued);
    }) (sym (append_assoc a.woken b.woken c.woken))
    ∙ ap (λ xs. record c {
      reaped = (a.reaped ++ b.reaped) ++ c.reaped;
      closed = (a.closed ++ b.closed) ++ c.closed;
      woken = (a.woken ++ b.woken) ++ c.woken;
      queued = xs;
    }) (sym (append_assoc a.queued b.queued c.queued))

-- The first completion, with the rest and with more behind it.
append-first : {B : Type 0} (first rest all : Treated B) (xs ys : List Completion) (b : Option ℕ) → first.bad ≡ b →
    (rest.bad ≡ None → all ≡ behind rest (treat_each rest.slots rest.holding ys)) → (goes_on b first xs rest).bad ≡ None →
    goes_on b first (xs ++ ys) all
    ≡ behind (goes_on b first xs rest) (treat_each (goes_on b first xs rest).slots (goes_on b first xs rest).holding ys)
append-first first rest all xs ys None is more h =
    ap (behind first) (more h) ∙ behind-both first rest (treat_each rest.slots rest.holding ys)
append-first first rest all xs ys (Some word) is more h =
    (let z : Some word ≡ None = sym is ∙ h in let f : ⊥ = cc in absurd f)

-- Completions behind others of which none is stray are treated where those ended.
pub treats-append : {B : Type 0} (slots : FinMap nat_cmp (Slot B)) (holding : Holding) (xs ys : List Completion) →
    (treat_each slots holding xs).bad ≡ None →
    treat_each slots holding (xs ++ ys)
    ≡ behind (treat_each slots holding xs) (treat_each (treat_each slots holding xs).slots (treat_each slots holding xs).holding ys)
treats-append slots holding [] ys none = refl
treats-append slots holding (c ∷ xs) ys none =
    let first = treat_one (target c.word) slots holding c in
    append-first first (treat_each first.slots first.holding xs) (treat_each first.slots first.holding (xs ++ ys)) xs ys first.bad refl
    (treats-append first.slots first.holding xs ys) none

-- What is in two lists joined is in the first or in the second.
pub below-both : (xs ys : List ℕ) (h : ℕ) → ((k : ℕ) → has_number k xs ≡ true → k < MOST_HANDLES) →
    ((k : ℕ) → has_number k ys ≡ true → k < MOST_HANDLES) → has_number h (xs ++ ys) ≡ true → h < MOST_HANDLES
below-both [] ys h first second among = second h among
below-both (x ∷ xs) ys h first second among = elim (same-or-not h x) [
  | inl e ↦ subst (λ k. k < MOST_HANDLES) (sym e) (first x (has-first x xs))
  | inr e ↦ below-both xs ys h (λ k is. first k (has-later k x xs is)) second (sym (has-other h x (xs ++ ys) e) ∙ among)
]

-- What is in the first of two lists is in both joined.
pub below-first : (xs ys : List ℕ) → ((k : ℕ) → has_number k (xs ++ ys) ≡ true → k < MOST_HANDLES) → (k : ℕ) → has_number k xs ≡ true →
    k < MOST_HANDLES
below-first [] ys below k among = (let f : ⊥ = cc in absurd f)
below-first (x ∷ xs) ys below k among = elim (same-or-not k x) [
  | inl e ↦ subst (λ n. n < MOST_HANDLES) (sym e) (below x (has-first x (xs ++ ys)))
  | inr e ↦ below-first xs ys (λ n is. below n (has-later n x (xs ++ ys) is)) k (sym (has-other k x xs e) ∙ among)
]

-- So is what is in the second.
pub below-second : (xs ys : List ℕ) → ((k : ℕ) → has_number k (xs ++ ys) ≡ true → k < MOST_HANDLES) → (k : ℕ) → has_number k ys ≡ true →
    k < MOST_HANDLES
below-second [] ys below k among = below k among
below-second (x ∷ xs) ys below k among = below-second xs ys (λ n is. below n (has-later n x (xs ++ ys) is)) k among

module _ {R B : Type 0} (view : R → RingView) (tells steady : Bool) where
  -- A completion that was taken off and treated is a reap.
  pub reaps-one : (old new mid : Midway R B) (before after : Named) (c : Completion) (bad : Option ℕ) →
      IsTakenOff tells (view old.ring.ring) (view mid.ring.ring) c → mid.ring.due ≡ old.ring.due → mid.ring.room ≡ old.ring.room →
      PostsAll view tells steady mid.ring new.ring (treat_one (target c.word) old.slots.values old.holding c).queued →
      Treats (treat_one (target c.word) old.slots.values old.holding c) new.slots.values new.holding before after bad →
      Reaps view tells steady old new before after 1 bad
  reaps-one old new mid before after c bad off due room posts treats =
      let one = treat_one (target c.word) old.slots.values old.holding c in
      let is = sym (treats-alone old.slots.values old.holding c) in
      record {
        taken = c ∷ [];
        counted = refl;
        below = subst (λ hs. (h : ℕ) → has_number h hs ≡ true → h < MOST_HANDLES) (ap (λ all. all.queued) is) posts.below;
        ring = subst (λ hs. ReapsRing view tells steady old.ring new.ring (c ∷ []) hs) (ap (λ all. all.queued) is)
            (ring-on view tells steady old.ring mid.ring new.ring (c ∷ []) [] [] one.queued
            (ring-taken view tells steady old.ring mid.ring c off due room)
            (ring-posts view tells steady mid.ring new.ring one.queued posts));
        treats = subst (λ all. Treats all new.slots.values new.holding before after bad) is (record {
          slots = treats.slots;
          holding = treats.holding;
          reaped = treats.reaped;
          closed = treats.closed;
          woken = treats.woken;
          bad = treats.bad;
          left = refl;
        });
      }

  -- No reap.
  pub reaps-none : (old : Midway R B) (named : Named) → Reaps view tells steady old old named named 0 None
  reaps-none old named = record {
    taken = [];
    counted = refl;
    below = λ h among. (let f : ⊥ = cc in absurd f);
    ring = ring-none view tells steady old.ring;
    treats = record {
      slots = refl;
      holding = refl;
      reaped = sym (append-nil named.reaped.items);
      closed = sym (append-nil named.closed.items);
      woken = sym (append-nil named.woken.items);
      bad = refl;
      left = refl;
    };
  }

  -- Reaps, and then more.
  pub reaps-on : (a b c : Midway R B) (n0 n1 n2 : Named) (i j : ℕ) (bad : Option ℕ) → Reaps view tells steady a b n0 n1 i None →
      Reaps view tells steady b c n1 n2 j bad → Reaps view tells steady a c n0 n2 (i + j) bad
  reaps-on a b c n0 n1 n2 i j bad f g =
      let first = treat_each a.slots.values a.holding f.taken in
      let more = treat_each b.slots.values b.holding g.taken in
      let is : treat_each a.slots.values a.holding (f.taken ++ g.taken) ≡ behind first more =
      treats-append a.slots.values a.holding f.taken g.taken f.treats.bad
      ∙ ap (λ m. behind first (treat_each m first.holding g.taken)) f.treats.slots
      ∙ ap (λ h. behind first (treat_each b.slots.values h g.taken)) f.treats.holding in
      record {
        taken = f.taken ++ g.taken;
        counted = length-append f.taken g.taken ∙ ap (λ n. n + length g.taken) f.counted ∙ ap (λ n. i + n) g.counted;
        below = subst (λ hs. (h : ℕ) → has_number h hs ≡ true → h < MOST_HANDLES) (sym (ap (λ all. all.queued) is))
            (λ h among. below-both first.queued more.queued h f.below g.below among);
        ring = subst (λ hs. ReapsRing view tells steady a.ring c.ring (f.taken ++ g.taken) hs) (sym (ap (λ all. all.queued) is))
            (ring-on view tells steady a.ring b.ring c.ring f.taken g.taken first.queued more.queued f.ring g.ring);
        treats = subst (λ all. Treats all c.slots.values c.holding n0 n2 bad) (sym is) (record {
          slots = g.treats.slots;
          holding = g.treats.holding;
          reaped = g.treats.reaped ∙ ap (λ xs. xs ++ more.reaped) f.treats.reaped
              ∙ append_assoc n0.reaped.items first.reaped more.reaped;
          closed = g.treats.closed ∙ ap (λ xs. xs ++ more.closed) f.treats.closed
              ∙ append_assoc n0.closed.items first.closed more.closed;
          woken = g.treats.woken ∙ ap (λ xs. xs ++ more.woken) f.treats.woken ∙ append_assoc n0.woken.items first.woken more.woken;
          bad = g.treats.bad;
          left = g.treats.left;
        });
      }
