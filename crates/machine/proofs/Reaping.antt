-- What reaping does to the operations, where the queue holds closes alone, as it does in a turn.
use Rattle.std.proofs.Common.{◌≡◌, ◌≢◌, inl, inr, ℕ, ◌+◌, ◌≤◌, Bool, true, false, List, [], ◌∷◌, ◌++◌, length, map, Option, Some, None}
use Rattle.std.proofs.Common.{option_map}
use Rattle.std.proofs.Common.{slice_get, refl, sym, ◌∙◌, ap, subst, arith, if◌then◌else◌, ◌==◌}
use Rattle.machine.specs.declared.request.Outcome.{Outcome}
use Rattle.machine.specs.Ledger.{Ledger, Operation, Place, InQueue, InFlight, InDone, Reaped, Gone, Queued, Req, Cancel, Item, Op}
use Rattle.machine.specs.Queue.{at_place, take_one, take_each, take_all, make_room, push, push_each, became_unheld, with_gone, leave}
use Rattle.machine.specs.Turn.{reaped_place, with_reap, reap_if, reap_op, reap_one, reap_each, reap_all}
use Rattle.machine.proofs.Amended.{get-amended-other, get-amended}
use Rattle.machine.proofs.Occurring.{same-cases, listed}
use Rattle.machine.proofs.Taken.{queue-take_each}
use Rattle.machine.proofs.Taking.{in_done, done_mark, Listed}
use Rattle.machine.proofs.Ending.{done-there}

-- Where an operation that was done is after its reap: a dropped one is gone, another is at its user.
abbrev pub place_after : Bool → Outcome → Place
place_after true outcome = Gone
place_after false outcome = Reaped outcome

-- The place after all that is done was reaped.
abbrev pub ended_place : Bool → Place → Place
ended_place dropped (InDone outcome) = place_after dropped outcome
ended_place dropped place = place

-- The same of an operation.
abbrev pub with_end : Operation → Operation
with_end o = record o { place = ended_place o.dropped o.place }

-- What isn't done isn't reaped.
unreaped-place : (dropped : Bool) (p : Place) → in_done p ≡ 0 → ended_place dropped p ≡ p
unreaped-place dropped InQueue h = refl
unreaped-place dropped InFlight h = refl
unreaped-place dropped (InDone outcome) h = absurd (omega (arith, h))
unreaped-place dropped (Reaped outcome) h = refl
unreaped-place dropped Gone h = refl

-- The same of an operation that was looked up.
unreaped : (x : Option Operation) → done_mark x ≡ 0 → option_map with_end x ≡ x
unreaped None h = refl
unreaped (Some o) h = ap (λ p. Some (record o { place = p })) (unreaped-place o.dropped o.place h)

-- What was reaped isn't reaped again.
ended-after : (dropped : Bool) (outcome : Outcome) → ended_place dropped (place_after dropped outcome) ≡ place_after dropped outcome
ended-after true outcome = refl
ended-after false outcome = refl

-- A place that was ended is ended once.
ended-twice : (dropped : Bool) (p : Place) → ended_place dropped (ended_place dropped p) ≡ ended_place dropped p
ended-twice dropped InQueue = refl
ended-twice dropped InFlight = refl
ended-twice dropped (InDone outcome) = ended-after dropped outcome
ended-twice dropped (Reaped outcome) = refl
ended-twice dropped Gone = refl

-- What is done is reaped, once.
reaped-place : (dropped : Bool) (p : Place) (k : ℕ) → 1 + k ≡ in_done p → k ≡ in_done (ended_place dropped p)
reaped-place dropped InQueue k h = absurd (omega (arith, h))
reaped-place dropped InFlight k h = absurd (omega (arith, h))
reaped-place true (InDone outcome) k h = omega (arith, h)
reaped-place false (InDone outcome) k h = omega (arith, h)
reaped-place dropped (Reaped outcome) k h = absurd (omega (arith, h))
reaped-place dropped Gone k h = absurd (omega (arith, h))

-- The same of an operation that was looked up.
reaped-once : (x : Option Operation) (k : ℕ) → 1 + k ≡ done_mark x → (option_map with_end (option_map with_end x) ≡ option_map with_end x)
    × (k ≡ done_mark (option_map with_end x))
reaped-once None k h = absurd (omega (arith, h))
reaped-once (Some o) k h = (ap (λ p. Some (record o { place = p })) (ended-twice o.dropped o.place), reaped-place o.dropped o.place k h)

-- Each of these entries is the close of a handle.
abbrev pub AreCloses : List Queued → Type 0
AreCloses [] = Unit {0}
AreCloses (Req n ∷ entries) = ⊥
AreCloses (Cancel n ∷ entries) = ⊥
AreCloses (Queued.Close h ∷ entries) = AreCloses entries

-- From a ledger to another one the operations stayed, and the queue holds closes alone.
pub record Closed (L M : Ledger) : Type 0 where
  pub ops : M.ops ≡ L.ops
  pub queue : AreCloses M.queue

-- Closes that are taken change no operation.
pub ops-take_closes : (L : Ledger) (entries : List Queued) → AreCloses entries → (take_each L entries).ops ≡ L.ops
ops-take_closes L [] h = refl
ops-take_closes L (Req n ∷ entries) h = absurd h
ops-take_closes L (Cancel n ∷ entries) h = absurd h
ops-take_closes L (Queued.Close k ∷ entries) h = ops-take_closes (take_one None L (Queued.Close k)) entries h

-- One close more.
are_closes-append : (entries : List Queued) (k : ℕ) → AreCloses entries → AreCloses (entries ++ Queued.Close k ∷ [])
are_closes-append [] k h = tt
are_closes-append (Req n ∷ entries) k h = h
are_closes-append (Cancel n ∷ entries) k h = h
are_closes-append (Queued.Close j ∷ entries) k h = are_closes-append entries k h

-- A queue that was taken holds nothing.
pub closed-take_all : (L : Ledger) → AreCloses (take_all L).queue
closed-take_all L = subst AreCloses (sym (queue-take_each (record L { queue = [] }) L.queue)) tt

-- Room that is made, or not.
closed-room : (b : Bool) (L : Ledger) → AreCloses L.queue → Closed L (if b then take_all L else L)
closed-room true L h =
    let E : Ledger = record L { queue = [] } in
    record { ops = ops-take_closes E L.queue h; queue = closed-take_all L }
closed-room false L h = record { ops = refl; queue = h }

-- A close pushed.
pub closed-push : (L : Ledger) (k : ℕ) → AreCloses L.queue → Closed L (push L (Queued.Close k))
closed-push L k h =
    let r = closed-room (length L.queue == L.capacity) L h in
    record { ops = r.ops; queue = are_closes-append (make_room L).queue k r.queue }

-- Closes pushed.
pub closed-push_each : (L : Ledger) (handles : List ℕ) → AreCloses L.queue → Closed L (push_each L (map Queued.Close handles))
closed-push_each L [] h = record { ops = refl; queue = h }
closed-push_each L (k ∷ handles) h =
    let one = closed-push L k h in
    let rest = closed-push_each (push L (Queued.Close k)) handles one.queue in
    record { ops = rest.ops ∙ one.ops; queue = rest.queue }

-- An operation that leaves is gone, and no other one changes.
pub closed-leave : (L : Ledger) (n : ℕ) → AreCloses L.queue → Closed (with_gone L n) (leave L n)
closed-leave L n h = closed-push_each (with_gone L n) (became_unheld L (with_gone L n)) h

-- The queue holds closes alone after a completion was reaped.
closed-if : (dropped : Bool) (L : Ledger) (n : ℕ) → AreCloses L.queue → AreCloses (reap_if dropped L n).queue
closed-if true L n h = (closed-leave L n h).queue
closed-if false L n h = h

-- The same of an operation that was looked up.
closed-op : (L : Ledger) (n : ℕ) (x : Option Operation) → AreCloses L.queue → AreCloses (reap_op L n x).queue
closed-op L n None h = h
closed-op L n (Some o) h = closed-if o.dropped L n h

-- The queue holds closes alone after a completion was reaped.
pub closed-reap_one : (L : Ledger) (item : Item) → AreCloses L.queue → AreCloses (reap_one L item).queue
closed-reap_one L (Op n) h = closed-op L n (slice_get L.ops n) h
closed-reap_one L (Item.Close k) h = h

-- The completion of an operation that is done ends it.
reap_if-same : (dropped : Bool) (L : Ledger) (n : ℕ) (o : Operation) (outcome : Outcome) → AreCloses L.queue → slice_get L.ops n ≡ Some o →
    o.place ≡ InDone outcome → slice_get (reap_if dropped L n).ops n ≡ Some (record o { place = place_after dropped outcome })
reap_if-same true L n o outcome closes there done =
    ap (λ ops. slice_get ops n) (closed-leave L n closes).ops ∙ get-amended (at_place Gone) L.ops n ∙ ap (option_map (at_place Gone)) there
reap_if-same false L n o outcome closes there done =
    get-amended with_reap L.ops n ∙ ap (option_map with_reap) there ∙ ap (λ p. Some (record o { place = reaped_place p })) done

-- A completion ends its operation.
reap_one-same : (L : Ledger) (n : ℕ) → AreCloses L.queue → 1 ≤ done_mark (slice_get L.ops n) →
    slice_get (reap_one L (Op n)).ops n ≡ option_map with_end (slice_get L.ops n)
reap_one-same L n closes h =
    let d = done-there (slice_get L.ops n) h in
    ap (λ x. slice_get (reap_op L n x).ops n) d.2
    ∙ reap_if-same d.0.dropped L n d.0 d.1 closes d.2 d.3
    ∙ sym (ap (option_map with_end) d.2 ∙ ap (λ p. Some (record d.0 { place = ended_place d.0.dropped p })) d.3)

-- It leaves the others.
reap_if-other : (dropped : Bool) (L : Ledger) (m n : ℕ) → AreCloses L.queue → n ≢ m →
    slice_get (reap_if dropped L m).ops n ≡ slice_get L.ops n
reap_if-other true L m n closes other =
    ap (λ ops. slice_get ops n) (closed-leave L m closes).ops ∙ get-amended-other (at_place Gone) L.ops m n other
reap_if-other false L m n closes other = get-amended-other with_reap L.ops m n other

-- The completion of one operation leaves every other one.
reap_op-other : (L : Ledger) (m : ℕ) (x : Option Operation) (n : ℕ) → AreCloses L.queue → n ≢ m →
    slice_get (reap_op L m x).ops n ≡ slice_get L.ops n
reap_op-other L m None n closes other = refl
reap_op-other L m (Some o) n closes other = reap_if-other o.dropped L m n closes other

module _ (L : Ledger) (m : ℕ) (items : List Item) (closes : AreCloses L.queue)
    (fits : (n : ℕ) → listed n (Op m ∷ items) ≡ done_mark (slice_get L.ops n)) where
  -- By number: reaping the first completion is part of reaping all, and the rest holds what isn't yet reaped.
  pub one-reaped : (n : ℕ) → (option_map with_end (slice_get (reap_one L (Op m)).ops n) ≡ option_map with_end (slice_get L.ops n))
      × (listed n items ≡ done_mark (slice_get (reap_one L (Op m)).ops n))
  one-reaped n = elim (same-cases n m) [
    | inl e ↦ (
        let f : 1 + listed n items ≡ done_mark (slice_get L.ops n) = ap (λ k. k + listed n items) (sym e.1) ∙ fits n in
        let at : slice_get (reap_one L (Op m)).ops n ≡ option_map with_end (slice_get L.ops n) = subst
        (λ k. slice_get (reap_one L (Op k)).ops n ≡ option_map with_end (slice_get L.ops n)) e.0
        (reap_one-same L n closes (omega (arith, f))) in
        let t = reaped-once (slice_get L.ops n) (listed n items) f in
        (ap (option_map with_end) at ∙ t.0, t.1 ∙ ap done_mark (sym at)))
    | inr e ↦ (
        let at : slice_get (reap_one L (Op m)).ops n ≡ slice_get L.ops n = reap_op-other L m (slice_get L.ops m) n closes e.0 in
        let f : listed n items ≡ done_mark (slice_get L.ops n) = (let g = fits n in let z = e.1 in omega arith) in
        (ap (option_map with_end) at, f ∙ ap done_mark (sym at)))
  ]

-- Reaping the completions ends each operation that is done, and leaves the others.
pub reap-ops : (L : Ledger) (items : List Item) → AreCloses L.queue → ((n : ℕ) → listed n items ≡ done_mark (slice_get L.ops n)) → (n : ℕ) →
    slice_get (reap_each L items).ops n ≡ option_map with_end (slice_get L.ops n)
reap-ops L [] closes h n = sym (unreaped (slice_get L.ops n) (sym (h n)))
reap-ops L (Op m ∷ items) closes h n =
    reap-ops (reap_one L (Op m)) items (closed-reap_one L (Op m) closes) (λ k. (one-reaped L m items closes h k).1) n
    ∙ (one-reaped L m items closes h n).0
reap-ops L (Item.Close k ∷ items) closes h n = reap-ops L items closes h n

-- Reaping all ends each operation that is done.
pub reap_all-ops : (L : Ledger) → AreCloses L.queue → Listed L → (n : ℕ) →
    slice_get (reap_all L).0.ops n ≡ option_map with_end (slice_get L.ops n)
reap_all-ops L closes h n = reap-ops (record L { done = [] }) L.done closes h.standing n
