-- The lists hold what the places say once operations leave, and what is done is reaped.
use Rattle.std.proofs.Common.{◌≡◌, inl, inr, ℕ, ◌+◌, ◌≤◌, Bool, true, false, List, [], ◌∷◌, Option}
use Rattle.std.proofs.Common.{Some, None, option_map, slice_get, refl, sym, ◌∙◌, ap, subst, arith}
use Rattle.machine.specs.declared.request.Outcome.{Outcome}
use Rattle.machine.specs.Lists.{amended}
use Rattle.machine.specs.Ledger.{Ledger, Operation, Place, InQueue, InFlight, InDone, Reaped, Gone, Item, Op}
use Rattle.machine.specs.Queue.{with_op, at_place}
use Rattle.machine.specs.Queue.{became_unheld, with_gone, leave}
use Rattle.machine.specs.Turn.{reaped_place, with_reap, reap_if, reap_op, reap_one, reap_each, reap_all}
use Rattle.machine.proofs.Amended.{get-amended-other, get-amended}
use Rattle.machine.proofs.Staying.{stays-reap_one, beside-reap_one}
use Rattle.machine.proofs.Occurring.{same-cases, same, queued, listed}
use Rattle.machine.proofs.Taking.{in_queue, in_flight, in_done, queue_mark, flight_mark, done_mark, Listed}
use Rattle.machine.proofs.Listed.{listed-changed, listed-push_closes}

-- No list tells of a place: it is neither in the queue, nor in flight, nor done.
pub record Unmarked (p : Place) : Type 0 where
  pub queue : in_queue p ≡ 0
  pub flight : in_flight p ≡ 0
  pub done : in_done p ≡ 0

-- The lists hold what the places say after an operation that is in none of them is gone.
pub listed-gone : (L : Ledger) (n : ℕ) (o : Operation) → Listed L → slice_get L.ops n ≡ Some o → Unmarked o.place → Listed (with_gone L n)
listed-gone L n o h there none =
    listed-changed L n (at_place Gone) o h there
    (record { queue = sym none.queue; flight = sym none.flight; done = sym none.done })

-- So they do after it left.
pub listed-leave : (L : Ledger) (n : ℕ) (o : Operation) → Listed L → slice_get L.ops n ≡ Some o → Unmarked o.place → Listed (leave L n)
listed-leave L n o h there none =
    listed-push_closes (with_gone L n) (became_unheld L (with_gone L n)) (listed-gone L n o h there none)

-- What has the mark of what is done is done.
done-place : (p : Place) → 1 ≤ in_done p → (outcome : Outcome) × (p ≡ InDone outcome)
done-place InQueue h = absurd (omega (arith, h))
done-place InFlight h = absurd (omega (arith, h))
done-place (InDone outcome) h = (outcome, refl)
done-place (Reaped outcome) h = absurd (omega (arith, h))
done-place Gone h = absurd (omega (arith, h))

-- What counts as done is an operation that is done.
pub done-there : (x : Option Operation) → 1 ≤ done_mark x →
    (o : Operation) × (outcome : Outcome) × (x ≡ Some o) × (o.place ≡ InDone outcome)
done-there None h = absurd (omega (arith, h))
done-there (Some o) h = let p = done-place o.place h in (o, p.0, refl, p.1)

-- The first of what is done is reaped: its operation ends, at a place of which no list tells.
module _ (L : Ledger) (n : ℕ) (items : List Item) (o : Operation) (outcome : Outcome) (change : Operation → Operation)
    (h : Listed L) (first : L.done ≡ Op n ∷ items) (there : slice_get L.ops n ≡ Some o) (done : o.place ≡ InDone outcome)
    (ends : Unmarked (change o).place) where
  -- By number: what each list holds, and the mark of the operation.
  ended-at : (k : ℕ) → (queued k L.queue ≡ queue_mark (slice_get (amended L.ops n change) k))
      × (listed k L.flying ≡ flight_mark (slice_get (amended L.ops n change) k))
      × (listed k items ≡ done_mark (slice_get (amended L.ops n change) k))
  ended-at k =
      let d : listed k L.done ≡ same k n + listed k items = ap (listed k) first in
      let w = h.waiting k in
      let f = h.flown k in
      let s = h.standing k in
      elim (same-cases k n) [
        | inl e ↦ (
            let old : slice_get L.ops k ≡ Some o = ap (slice_get L.ops) e.0 ∙ there in
            let new : slice_get (amended L.ops n change) k ≡ Some (change o) = ap (slice_get (amended L.ops n change)) e.0
            ∙ get-amended change L.ops n ∙ ap (option_map change) there in
            let one = e.1 in
            let w0 : queue_mark (slice_get L.ops k) ≡ 0 = ap queue_mark old ∙ ap in_queue done in
            let f0 : flight_mark (slice_get L.ops k) ≡ 0 = ap flight_mark old ∙ ap in_flight done in
            let s1 : done_mark (slice_get L.ops k) ≡ 1 = ap done_mark old ∙ ap in_done done in
            let w' : queue_mark (slice_get (amended L.ops n change) k) ≡ 0 = ap queue_mark new ∙ ends.queue in
            let f' : flight_mark (slice_get (amended L.ops n change) k) ≡ 0 = ap flight_mark new ∙ ends.flight in
            let s' : done_mark (slice_get (amended L.ops n change) k) ≡ 0 = ap done_mark new ∙ ends.done in
            (omega arith, omega arith, omega arith))
        | inr e ↦ (
            let new : slice_get (amended L.ops n change) k ≡ slice_get L.ops k = get-amended-other change L.ops n k e.0 in
            let none = e.1 in
            let w' : queue_mark (slice_get (amended L.ops n change) k) ≡ queue_mark (slice_get L.ops k) = ap queue_mark new in
            let f' : flight_mark (slice_get (amended L.ops n change) k) ≡ flight_mark (slice_get L.ops k) = ap flight_mark new in
            let s' : done_mark (slice_get (amended L.ops n change) k) ≡ done_mark (slice_get L.ops k) = ap done_mark new in
            (omega arith, omega arith, omega arith))
      ]

  -- The lists hold what the places say after it.
  listed-ended : Listed (with_op (record L { done = items }) n change)
  listed-ended = record { waiting = λ k. (ended-at k).0; flown = λ k. (ended-at k).1; standing = λ k. (ended-at k).2 }

-- The completion of an operation that was dropped, or wasn't.
listed-reap_if : (dropped : Bool) (L : Ledger) (n : ℕ) (items : List Item) (o : Operation) (outcome : Outcome) → Listed L →
    L.done ≡ Op n ∷ items → slice_get L.ops n ≡ Some o → o.place ≡ InDone outcome →
    Listed (reap_if dropped (record L { done = items }) n)
listed-reap_if true L n items o outcome h first there done =
    let E : Ledger = record L { done = items } in
    listed-push_closes (with_gone E n) (became_unheld E (with_gone E n))
    (listed-ended L n items o outcome (at_place Gone) h first there done (record { queue = refl; flight = refl; done = refl }))
listed-reap_if false L n items o outcome h first there done =
    let p : reaped_place o.place ≡ Reaped outcome = ap reaped_place done in
    listed-ended L n items o outcome with_reap h first there done
    (record { queue = ap in_queue p; flight = ap in_flight p; done = ap in_done p })

-- The lists hold what the places say after the first of what is done was reaped.
pub listed-reap_one : (L : Ledger) (item : Item) (items : List Item) → Listed L → L.done ≡ item ∷ items →
    Listed (reap_one (record L { done = items }) item)
listed-reap_one L (Op n) items h first =
    let mark : done_mark (slice_get L.ops n) ≡ same n n + listed n items = sym (h.standing n) ∙ ap (listed n) first in
    elim (same-cases n n) [
      | inr e ↦ absurd (e.0 refl)
      | inl e ↦ (
          let d = done-there (slice_get L.ops n) (let one = e.1 in omega (arith, mark, one)) in
          subst (λ x. Listed (reap_op (record L { done = items }) n x)) (sym d.2)
          (listed-reap_if d.0.dropped L n items d.0 d.1 h first d.2 d.3))
    ]
listed-reap_one L (Item.Close k) items h first = record {
  waiting = h.waiting;
  flown = h.flown;
  standing = λ n. sym (ap (listed n) first) ∙ h.standing n;
}

-- The lists hold what the places say after completions were reaped, in order.
listed-reap_each : (L : Ledger) (items : List Item) → Listed L → L.done ≡ items → Listed (reap_each (record L { done = [] }) items)
listed-reap_each L [] h first = record { waiting = h.waiting; flown = h.flown; standing = λ n. sym (ap (listed n) first) ∙ h.standing n }
listed-reap_each L (item ∷ items) h first =
    let E : Ledger = reap_one (record L { done = items }) item in
    let done : E.done ≡ items = (stays-reap_one (record L { done = items }) item).done in
    subst (λ K. Listed (reap_each K items))
    (sym (beside-reap_one (record L { done = items }) [] item))
    (listed-reap_each E items (listed-reap_one L item items h first) done)

-- So they do after all that was done was reaped.
pub listed-reap_all : (L : Ledger) → Listed L → Listed (reap_all L).0
listed-reap_all L h = listed-reap_each L L.done h refl
