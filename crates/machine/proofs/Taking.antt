-- That the lists hold what the places say, and what taking does to the operations and the lists.
use Rattle.std.proofs.Common.{◌≡◌, inl, inr, ℕ, ◌+◌, Bool, false, List, [], ◌∷◌, Option, Some, None, option_map, slice_get, refl}
use Rattle.std.proofs.Common.{sym, ◌∙◌, ap, subst, arith}
use Rattle.machine.specs.Lists.{amended}
use Rattle.machine.specs.Ledger.{Ledger, Operation, Place, InQueue, InFlight, InDone, Reaped, Gone, Queued, Req, Cancel, Item, Op}
use Rattle.machine.specs.Queue.{canceled_at, with_take, with_cancel, take_one, leader_behind, take_behind, take_each, take_all}
use Rattle.machine.proofs.Amended.{get-amended-other, get-amended}
use Rattle.machine.proofs.Taken.{queue-take_each, done-take_each}
use Rattle.machine.proofs.Occurring.{same-cases, queued, listed, listed-append}

-- 1 at the place, else 0.
abbrev pub in_queue : Place → ℕ
in_queue InQueue = 1
in_queue _ = 0

-- 1 in flight, else 0.
abbrev pub in_flight : Place → ℕ
in_flight InFlight = 1
in_flight _ = 0

-- 1 where it is done, else 0.
abbrev pub in_done : Place → ℕ
in_done (InDone outcome) = 1
in_done _ = 0

-- The same of an operation that was looked up.
abbrev pub queue_mark : Option Operation → ℕ
queue_mark None = 0
queue_mark (Some o) = in_queue o.place

-- 1 for an operation in flight, else 0.
abbrev pub flight_mark : Option Operation → ℕ
flight_mark None = 0
flight_mark (Some o) = in_flight o.place

-- 1 for an operation that is done, else 0.
abbrev pub done_mark : Option Operation → ℕ
done_mark None = 0
done_mark (Some o) = in_done o.place

-- Each list holds the operations of its place, each once; beside them the queue holds cancels, and each list holds closes.
pub record Listed (L : Ledger) : Type 0 where
  pub waiting : (n : ℕ) → queued n L.queue ≡ queue_mark (slice_get L.ops n)
  pub flown : (n : ℕ) → listed n L.flying ≡ flight_mark (slice_get L.ops n)
  pub standing : (n : ℕ) → listed n L.done ≡ done_mark (slice_get L.ops n)

-- The place of what is taken.
abbrev pub taken_place : Place → Place
taken_place InQueue = InFlight
taken_place place = place

-- An operation after the queue was taken; its cancel was taken by then, or wasn't, and it waits for another by then, or doesn't.
abbrev pub with_taking : Bool → Option ℕ → Operation → Operation
with_taking canceled waits_for o = record o { waits_for = waits_for; canceled = canceled; place = taken_place o.place }

-- Taking changed no more than that.
pub record Took (old new : Option Operation) : Type 0 where
  pub canceled : Bool
  pub waits_for : Option ℕ
  pub is : new ≡ option_map (with_taking canceled waits_for) old

-- What doesn't stand in the queue isn't taken.
untaken-place : (p : Place) → in_queue p ≡ 0 → taken_place p ≡ p
untaken-place InQueue h = absurd (omega (arith, h))
untaken-place InFlight h = refl
untaken-place (InDone outcome) h = refl
untaken-place (Reaped outcome) h = refl
untaken-place Gone h = refl

-- What isn't in the queue is as if it were taken.
untaken : (x : Option Operation) → queue_mark x ≡ 0 → Took x x
untaken None h = record { canceled = false; waits_for = None; is = refl }
untaken (Some o) h = record {
  canceled = o.canceled;
  waits_for = o.waits_for;
  is = ap (λ p. Some (record o { place = p })) (sym (untaken-place o.place h));
}

-- What stands in the queue is taken, and stands there once.
taken-place : (p : Place) (k : ℕ) → 1 + k ≡ in_queue p → (taken_place p ≡ InFlight) × (k ≡ 0)
taken-place InQueue k h = (refl, omega (arith, h))
taken-place InFlight k h = absurd (omega (arith, h))
taken-place (InDone outcome) k h = absurd (omega (arith, h))
taken-place (Reaped outcome) k h = absurd (omega (arith, h))
taken-place Gone k h = absurd (omega (arith, h))

-- What stands in the queue is taken as one entry is.
taken-once : (leader : Option ℕ) (x y : Option Operation) (k : ℕ) → 1 + k ≡ queue_mark x →
    (Took (option_map (with_take leader) x) y → Took x y) × (k ≡ queue_mark (option_map (with_take leader) x))
taken-once leader None y k h = absurd (omega (arith, h))
taken-once leader (Some o) y k h = let t = taken-place o.place k h in (
  λ took. record {
    canceled = took.canceled;
    waits_for = took.waits_for;
    is = took.is ∙ ap (λ p. Some (record o { waits_for = took.waits_for; canceled = took.canceled; place = p })) (sym t.0);
  },
  t.1,
)

-- A cancel that is taken leaves the place, and is part of taking all.
pub canceled-place : (p : Place) (o : Operation) → (canceled_at p o).place ≡ o.place
canceled-place InQueue o = refl
canceled-place InFlight o = refl
canceled-place (InDone outcome) o = refl
canceled-place (Reaped outcome) o = refl
canceled-place Gone o = refl

-- Taking an operation after its cancel is taking it.
canceled-taken : (canceled : Bool) (waits_for : Option ℕ) (p : Place) (o : Operation) →
    with_taking canceled waits_for (canceled_at p o) ≡ with_taking canceled waits_for o
canceled-taken canceled waits_for InQueue o = refl
canceled-taken canceled waits_for InFlight o = refl
canceled-taken canceled waits_for (InDone outcome) o = refl
canceled-taken canceled waits_for (Reaped outcome) o = refl
canceled-taken canceled waits_for Gone o = refl

-- What is taken after its cancel was, was taken, and the other way round.
canceled-once : (x y : Option Operation) → (Took (option_map with_cancel x) y → Took x y)
    × (queue_mark (option_map with_cancel x) ≡ queue_mark x)
canceled-once None y = (λ took. took, refl)
canceled-once (Some o) y = (
  λ took. record {
    canceled = took.canceled;
    waits_for = took.waits_for;
    is = took.is ∙ ap Some (canceled-taken took.canceled took.waits_for o.place o);
  },
  ap in_queue (canceled-place o.place o),
)

module _ (leader : Option ℕ) (ops : List Operation) (m : ℕ) (entries : List Queued)
    (fits : (n : ℕ) → queued n (Req m ∷ entries) ≡ queue_mark (slice_get ops n)) where
  -- By number: taking the first entry is part of taking all, and the rest of the queue holds what isn't yet taken.
  pub one-taken : (n : ℕ) (y : Option Operation) → (Took (slice_get (amended ops m (with_take leader)) n) y → Took (slice_get ops n) y)
      × (queued n entries ≡ queue_mark (slice_get (amended ops m (with_take leader)) n))
  one-taken n y = elim (same-cases n m) [
    | inl e ↦ (
        let at : slice_get (amended ops m (with_take leader)) n ≡ option_map (with_take leader) (slice_get ops n) = subst
        (λ k. slice_get (amended ops k (with_take leader)) n ≡ option_map (with_take leader) (slice_get ops n)) e.0
        (get-amended (with_take leader) ops n) in
        let f : 1 + queued n entries ≡ queue_mark (slice_get ops n) = ap (λ k. k + queued n entries) (sym e.1) ∙ fits n in
        let t = taken-once leader (slice_get ops n) y (queued n entries) f in
        (λ took. t.0 (subst (λ x. Took x y) at took), t.1 ∙ ap queue_mark (sym at)))
    | inr e ↦ (
        let at : slice_get (amended ops m (with_take leader)) n ≡ slice_get ops n = get-amended-other (with_take leader) ops m n e.0 in
        let f : queued n entries ≡ queue_mark (slice_get ops n) = (let g = fits n in let z = e.1 in omega arith) in
        (λ took. subst (λ x. Took x y) at took, f ∙ ap queue_mark (sym at)))
  ]

module _ (ops : List Operation) (m : ℕ) where
  -- By number: taking a cancel is part of taking all, and takes no operation.
  pub one-canceled : (n : ℕ) (y : Option Operation) → (Took (slice_get (amended ops m with_cancel) n) y → Took (slice_get ops n) y)
      × (queue_mark (slice_get (amended ops m with_cancel) n) ≡ queue_mark (slice_get ops n))
  one-canceled n y = elim (same-cases n m) [
    | inl e ↦ (
        let at : slice_get (amended ops m with_cancel) n ≡ option_map with_cancel (slice_get ops n) = subst
        (λ k. slice_get (amended ops k with_cancel) n ≡ option_map with_cancel (slice_get ops n)) e.0
        (get-amended with_cancel ops n) in
        let t = canceled-once (slice_get ops n) y in
        (λ took. t.0 (subst (λ x. Took x y) at took), ap queue_mark at ∙ t.1))
    | inr e ↦ (
        let at : slice_get (amended ops m with_cancel) n ≡ slice_get ops n = get-amended-other with_cancel ops m n e.0 in
        (λ took. subst (λ x. Took x y) at took, ap queue_mark at))
  ]

-- Taking entries takes each operation whose request is among them, whatever the first of them follows, and leaves the others.
take-ops_behind : (leader : Option ℕ) (L : Ledger) (entries : List Queued) →
    ((n : ℕ) → queued n entries ≡ queue_mark (slice_get L.ops n)) → (n : ℕ) →
    Took (slice_get L.ops n) (slice_get (take_behind leader L entries).ops n)
take-ops_behind leader L [] h n = untaken (slice_get L.ops n) (sym (h n))
take-ops_behind leader L (Req m ∷ entries) h n =
    let next = leader_behind L (Req m) in
    let y : Option Operation = slice_get (take_behind next (take_one leader L (Req m)) entries).ops n in
    (one-taken leader L.ops m entries h n y).0
    (take-ops_behind next (take_one leader L (Req m)) entries (λ k. (one-taken leader L.ops m entries h k None).1) n)
take-ops_behind leader L (Cancel m ∷ entries) h n =
    let y : Option Operation = slice_get (take_behind None (take_one leader L (Cancel m)) entries).ops n in
    (one-canceled L.ops m n y).0
    (take-ops_behind None (take_one leader L (Cancel m)) entries (λ k. h k ∙ sym (one-canceled L.ops m k None).1) n)
take-ops_behind leader L (Queued.Close m ∷ entries) h n = take-ops_behind None (take_one leader L (Queued.Close m)) entries h n

-- Taking the queue takes each operation that stands in it, and leaves the others.
pub take-ops : (L : Ledger) (entries : List Queued) → ((n : ℕ) → queued n entries ≡ queue_mark (slice_get L.ops n)) → (n : ℕ) →
    Took (slice_get L.ops n) (slice_get (take_each L entries).ops n)
take-ops L entries h n = take-ops_behind None L entries h n

-- What was queued is in flight, whatever the first entry follows.
take-flying_behind : (leader : Option ℕ) (L : Ledger) (entries : List Queued) (n : ℕ) →
    listed n (take_behind leader L entries).flying ≡ listed n L.flying + queued n entries
take-flying_behind leader L [] n = omega arith
take-flying_behind leader L (Req m ∷ entries) n =
    let r = take-flying_behind (leader_behind L (Req m)) (take_one leader L (Req m)) entries n in
    let a = listed-append n L.flying (Op m ∷ []) in
    omega arith
take-flying_behind leader L (Cancel m ∷ entries) n = take-flying_behind None (take_one leader L (Cancel m)) entries n
take-flying_behind leader L (Queued.Close m ∷ entries) n =
    let r = take-flying_behind None (take_one leader L (Queued.Close m)) entries n in
    let a = listed-append n L.flying (Item.Close m ∷ []) in
    omega arith

-- What was queued is in flight.
take-flying : (L : Ledger) (entries : List Queued) (n : ℕ) → listed n (take_each L entries).flying ≡ listed n L.flying + queued n entries
take-flying L entries n = take-flying_behind None L entries n

-- The marks of what was taken.
taken-marks-at : (p : Place) → (in_queue (taken_place p) ≡ 0) × (in_flight (taken_place p) ≡ in_flight p + in_queue p)
    × (in_done (taken_place p) ≡ in_done p)
taken-marks-at InQueue = (refl, refl, refl)
taken-marks-at InFlight = (refl, refl, refl)
taken-marks-at (InDone outcome) = (refl, refl, refl)
taken-marks-at (Reaped outcome) = (refl, refl, refl)
taken-marks-at Gone = (refl, refl, refl)

-- The marks of what was taken, of an operation that was looked up.
taken-marks-of : (canceled : Bool) (waits_for : Option ℕ) (x : Option Operation) →
    (queue_mark (option_map (with_taking canceled waits_for) x) ≡ 0)
    × (flight_mark (option_map (with_taking canceled waits_for) x) ≡ flight_mark x + queue_mark x)
    × (done_mark (option_map (with_taking canceled waits_for) x) ≡ done_mark x)
taken-marks-of canceled waits_for None = (refl, refl, refl)
taken-marks-of canceled waits_for (Some o) = taken-marks-at o.place

-- The same of an operation that was looked up.
taken-marks : (x y : Option Operation) → Took x y → (queue_mark y ≡ 0) × (flight_mark y ≡ flight_mark x + queue_mark x)
    × (done_mark y ≡ done_mark x)
taken-marks x y took =
    let m = taken-marks-of took.canceled took.waits_for x in
    (ap queue_mark took.is ∙ m.0, ap flight_mark took.is ∙ m.1, ap done_mark took.is ∙ m.2)

-- Taking all takes each operation that stands in the queue.
pub take_all-ops : (L : Ledger) → Listed L → (n : ℕ) → Took (slice_get L.ops n) (slice_get (take_all L).ops n)
take_all-ops L h n = take-ops (record L { queue = [] }) L.queue h.waiting n

-- The lists hold what the places say after taking.
pub listed-take_all : (L : Ledger) → Listed L → Listed (take_all L)
listed-take_all L h =
    let E : Ledger = record L { queue = [] } in
    let marks = λ (n : ℕ). taken-marks (slice_get L.ops n) (slice_get (take_all L).ops n) (take_all-ops L h n) in
    record {
      waiting = λ n. ap (queued n) (queue-take_each E L.queue) ∙ sym (marks n).0;
      flown = λ n. take-flying E L.queue n ∙ (let a = h.flown n in let b = h.waiting n in let c = (marks n).1 in omega arith);
      standing = λ n. ap (listed n) (done-take_each E L.queue) ∙ h.standing n ∙ sym (marks n).2;
    }
