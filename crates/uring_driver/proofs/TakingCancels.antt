-- What taking a cancel off the queue does to a ring and slots that mean a ledger.
use Rattle.std.proofs.Common.{◌≡◌, ◌<◌, inl, inr, ℕ, suc, true, false, List, [], ◌∷◌, ◌++◌, map, Option, Some, None, refl, sym, ◌∙◌}
use Rattle.std.proofs.Common.{ap, subst, arith}
use Rattle.std.specs.Prelude.{slice_get, is_some, ◌||◌}
use Rattle.std.specs.Ordering.{nat_cmp}
use Rattle.std.specs.FinMap.{FinMap}
use Rattle.std.proofs.Math.Bool.{or-true, or-false}
use Rattle.rent_buf.specs.Buffer.{Buffer}
use Rattle.ring_core.specs.Ring.{RingView, marked_by}
use Rattle.machine.specs.Lists.{amended}
use Rattle.machine.specs.declared.request.Outcome.TheVariants.{Count as Counted}
use Rattle.ring_core.specs.declared.entry.Body.TheVariants.{Cancel as Cancels}
use Rattle.ring_core.specs.declared.entry.Entry.{Entry}
use Rattle.ring_core.specs.declared.entry.Flight.{Flight}
use Rattle.machine.specs.declared.completion.Completion.{Completion}
use Rattle.ring_core.specs.declared.entry.TheConstants.{CANCEL_WORD, FIRST_CLOSE}
use Rattle.ring_core.specs.declared.entry.Target.TheVariants.{Reserved}
use Rattle.ring_core.specs.Entry.{target}
use Rattle.ring_core.proofs.Targets.{target-cancel}
use Rattle.machine.specs.Ledger.{Ledger, Cancel, Operation, Place, InQueue, InFlight, InDone, Reaped, Gone, is_live, is_owned}
use Rattle.machine.specs.Queue.{take_one, canceled_at, with_cancel}
use Rattle.machine.proofs.Amended.{get-amended-same, get-amended-other}
use Rattle.driver_core.specs.declared.slot.Slot.{Slot}
use Rattle.driver_core.specs.Slots.{SlotFor, SlotsStand}
use Rattle.uring_driver.specs.Lists.{IsAt, IsQueued, IsFlown, FlightFor, DoneFor, Meets, ListsStand, is_call, names_slot, queued_of}
use Rattle.uring_driver.specs.Lists.{item_of}
use Rattle.uring_driver.proofs.Means.{Means}
use Rattle.machine.proofs.Numbers.{equal-other, same-or-not}
use Rattle.driver_core.proofs.Distinct.{equal-is}
use Rattle.driver_core.proofs.Lists.{map-get, get-pushed, amended-absent}
use Rattle.uring_driver.proofs.Kept.{cancel-queued, close-flown, queued-kept, flight-kept, done-kept, done-reserved}
use Rattle.driver_core.proofs.Slots.{slots-amended}
use Rattle.uring_driver.proofs.Heads.{at-head, behind-head, once-behind, cancels-left}

-- The taking of a cancel changes whether it was taken, and nothing else.
cancel-same : (p : Place) (o : Operation) → canceled_at p o ≡ record o { canceled = (canceled_at p o).canceled }
cancel-same InQueue o = refl
cancel-same InFlight o = refl
cancel-same (InDone r) o = refl
cancel-same (Reaped r) o = refl
cancel-same Gone o = refl

-- It leaves to whom the operation belongs.
pub cancel-owned : (o : Operation) → is_owned (with_cancel o) ≡ is_owned o
cancel-owned o = ap is_owned (cancel-same o.place o)

-- It leaves whether the operation is gone.
cancel-live : (o : Operation) → is_live (with_cancel o) ≡ is_live o
cancel-live o = ap is_live (cancel-same o.place o)

-- Marks change nothing of what is in flight means.
same-flying : (key : ℕ) (fs : List Flight) → map item_of (map (marked_by key) fs) ≡ map item_of fs
same-flying key [] = refl
same-flying key (f ∷ fs) = ap (λ xs. item_of f ∷ xs) (same-flying key fs)

-- A cancel is taken: what is in flight with its key is marked, and it leaves a completion that means nothing.
module _ {B : Type 0} (buffer : B → Buffer) (v : RingView) (slots : FinMap nat_cmp (Slot B)) (L : Ledger) (e : Entry) (rest : List Entry)
    (old : Means buffer v slots L) (first : v.queue ≡ e ∷ rest) (leader : Option ℕ) (key : ℕ) (body : e.body ≡ Cancels key) where
  abbrev marked_ops : List Operation
  marked_ops = amended L.ops e.serial with_cancel

  abbrev answer : Completion
  answer = record { word = e.word; serial = e.serial; outcome = Counted 0 }

  is-cancel : (e.word ≡ CANCEL_WORD) × (key < FIRST_CLOSE) × (e.linked ≡ false)
  is-cancel = cancel-queued buffer slots L.ops e e.body (old.in_lists.in_queue 0 e (at-head v.queue e rest first)) key body

  -- The word of its completion is reserved, and names no slot.
  reserved : target e.word ≡ Reserved CANCEL_WORD
  reserved = ap target is-cancel.0 ∙ target-cancel

  not-named : (c : Completion) → c ≡ answer → names_slot (target c.word) ≡ true → ⊥
  not-named c h q = (let z : false ≡ true = sym (ap (λ x. names_slot (target x.word)) h ∙ ap names_slot reserved) ∙ q in cc)

  -- An operation stays where it was.
  stays-at : (m : ℕ) (p : Place) → IsAt L.ops m p → IsAt marked_ops m p
  stays-at m p a = elim (same-or-not m e.serial) [
    | inl q ↦ record {
      operation = with_cancel a.operation;
      there = ap (slice_get marked_ops) q
          ∙ get-amended-same with_cancel L.ops e.serial a.operation (ap (slice_get L.ops) (sym q) ∙ a.there);
      stays = ap (λ x. x.place) (cancel-same a.operation.place a.operation) ∙ a.stays;
    }
    | inr q ↦ record { operation = a.operation; there = get-amended-other with_cancel L.ops e.serial m q ∙ a.there; stays = a.stays }
  ]

  -- A call that is queued stays there, linked as it was.
  queued-stays : (x : Entry) → IsQueued L.ops x → IsQueued marked_ops x
  queued-stays x a = elim (same-or-not x.serial e.serial) [
    | inl q ↦ record {
      operation = with_cancel a.operation;
      there = ap (slice_get marked_ops) q
          ∙ get-amended-same with_cancel L.ops e.serial a.operation (ap (slice_get L.ops) (sym q) ∙ a.there);
      stays = ap (λ o. o.place) (cancel-same a.operation.place a.operation) ∙ a.stays;
      linked = a.linked ∙ sym (ap (λ o. o.linked) (cancel-same a.operation.place a.operation));
    }
    | inr q ↦ record {
      operation = a.operation;
      there = get-amended-other with_cancel L.ops e.serial x.serial q ∙ a.there;
      stays = a.stays;
      linked = a.linked;
    }
  ]

  -- The central step: the ring compares words alone, and marks just the entry of the number that the cancel was pushed for.
  flown-marked : (i : ℕ) (f : Flight) → slice_get v.flying i ≡ Some f → is_call f.entry.body ≡ true → IsFlown L.ops f →
      IsFlown marked_ops (marked_by key f)
  flown-marked i f h c a =
      let meets = old.in_lists.cancels.flown i 0 f e key h (at-head v.queue e rest first) body c in
      elim (same-or-not f.entry.serial e.serial) [
        | inl q ↦ record {
          operation = with_cancel a.operation;
          there = ap (slice_get marked_ops) q
              ∙ get-amended-same with_cancel L.ops e.serial a.operation (ap (slice_get L.ops) (sym q) ∙ a.there);
          stays = ap (λ x. x.place) (cancel-same a.operation.place a.operation) ∙ a.stays;
          marked = ap (λ b. f.marked || b) (equal-is f.entry.word key (meets.by_serial q)) ∙ or-true f.marked
              ∙ sym (ap (λ p. (canceled_at p a.operation).canceled) a.stays);
          bound = a.bound ∙ sym (ap (λ o. is_some o.waits_for) (cancel-same a.operation.place a.operation));
        }
        | inr q ↦ record {
          operation = a.operation;
          there = get-amended-other with_cancel L.ops e.serial f.entry.serial q ∙ a.there;
          stays = a.stays;
          marked = ap (λ b. f.marked || b) (equal-other f.entry.word key (λ w. q (meets.by_word w))) ∙ or-false f.marked ∙ a.marked;
          bound = a.bound;
        }
      ]

  -- It has no close's word, so no close is marked.
  close-unmarked : (i : ℕ) (f : Flight) → slice_get v.flying i ≡ Some f → is_call f.entry.body ≡ false →
      (marked_by key f).marked ≡ f.marked
  close-unmarked i f h c =
      let below = is-cancel.1 in
      let above = close-flown buffer slots L.ops f f.entry.body (old.in_lists.in_flight i f h) c in
      ap (λ b. f.marked || b) (equal-other f.entry.word key (λ q. omega (arith, below, above, q))) ∙ or-false f.marked

  marked-fits : (t : Slot B) → t.serial ≡ e.serial → SlotFor buffer L.ops t → SlotFor buffer marked_ops t
  marked-fits t q m = record {
    operation = record m.operation { canceled = (canceled_at m.operation.place m.operation).canceled };
    there = ap (slice_get (amended L.ops e.serial with_cancel)) q
        ∙ get-amended-same with_cancel L.ops e.serial m.operation (ap (slice_get L.ops) (sym q) ∙ m.there)
        ∙ ap (λ x. Some x) (cancel-same m.operation.place m.operation);
    live = m.live;
    request = m.request;
    life = m.life;
    fresh = m.fresh;
    uncanceled = λ z. ap (λ p. (canceled_at p m.operation).canceled) z ∙ m.uncanceled z;
  }

  slots-marked : (x : Option Operation) → slice_get L.ops e.serial ≡ x → SlotsStand buffer slots marked_ops
  slots-marked None h = subst (λ ops. SlotsStand buffer slots ops) (sym (amended-absent L.ops e.serial with_cancel h)) old.in_slots
  slots-marked (Some o) h = slots-amended buffer slots L.ops e.serial with_cancel o old.in_slots h (cancel-live o) marked-fits

  lists-cancel : ListsStand buffer slots (record v { queue = rest; flying = map (marked_by key) v.flying; done = v.done ++ answer ∷ [] })
      (take_one leader (record L { queue = map queued_of rest }) (Cancel e.serial))
  lists-cancel = record {
    queue = refl;
    flying = old.in_lists.flying ∙ sym (same-flying key v.flying);
    done = old.in_lists.done ∙ sym (done-reserved v.done answer CANCEL_WORD reserved);
    in_queue = λ i x h. queued-kept buffer slots slots L.ops marked_ops x x.body (λ c a. (a.0, queued-stays x a.1))
        (old.in_lists.in_queue (suc i) x (behind-head v.queue e rest first i x h));
    in_flight = λ i f h. (
        let g = map-get (marked_by key) v.flying i f h in
        subst (λ y. FlightFor buffer slots marked_ops y y.entry.body) (sym g.2)
        (flight-kept buffer slots slots L.ops marked_ops g.0 (marked_by key g.0).marked g.0.entry.body (close-unmarked i g.0 g.1)
        (λ c a. (a.0, flown-marked i g.0 g.1 c a.1))
        (old.in_lists.in_flight i g.0 g.1)));
    in_done = λ i c h. elim (get-pushed v.done answer i c h) [
      | inl r ↦ done-kept slots slots L.ops marked_ops c (target c.word) (λ _ a. (a.0, stays-at c.serial (InDone c.outcome) a.1))
          (old.in_lists.in_done i c r)
      | inr r ↦ subst (λ y. DoneFor slots marked_ops y (target y.word)) (sym r.1)
          (subst (λ t. DoneFor slots marked_ops answer t) (sym reserved) tt)
    ];
    queue_once = once-behind _ _ v.queue e rest first old.in_lists.queue_once;
    flight_once = λ i j x y h k c d q. (
        let a = map-get (marked_by key) v.flying i x h in
        let b = map-get (marked_by key) v.flying j y k in
        let is_call_of = λ (z : Flight). is_call z.entry.body in
        old.in_lists.flight_once i j a.0 b.0 a.1 b.1 (ap is_call_of (sym a.2) ∙ c) (ap is_call_of (sym b.2) ∙ d)
        (ap (λ z. z.entry.serial) (sym a.2) ∙ q ∙ ap (λ z. z.entry.serial) b.2));
    done_once = λ i j x y h k c d q. elim (get-pushed v.done answer i x h) [
      | inl a ↦ elim (get-pushed v.done answer j y k) [
        | inl b ↦ old.in_lists.done_once i j x y a b c d q
        | inr b ↦ absurd (not-named y b.1 d)
      ]
      | inr a ↦ absurd (not-named x a.1 c)
    ];
    cancels = cancels-left v e rest first old.in_lists.cancels (map (marked_by key) v.flying) (λ i j f c k h l b q. (
        let g = map-get (marked_by key) v.flying i f h in
        subst (λ y. Meets y.entry k c.serial) (sym g.2)
        (old.in_lists.cancels.flown i (suc j) g.0 c k g.1 (behind-head v.queue e rest first j c l) b
        (ap (λ z. is_call z.entry.body) (sym g.2) ∙ q))));
  }

  pub means-cancel : Means buffer (record v { queue = rest; flying = map (marked_by key) v.flying; done = v.done ++ answer ∷ [] }) slots
      (take_one leader (record L { queue = map queued_of rest }) (Cancel e.serial))
  means-cancel = record {
    capacity = old.capacity;
    world = old.world;
    in_slots = slots-marked (slice_get L.ops e.serial) refl;
    in_lists = lists-cancel;
  }
