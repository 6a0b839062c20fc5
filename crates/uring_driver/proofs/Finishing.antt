-- What an execution leaves of a ring's lists: what was in flight at a place is the last completion.
use Rattle.std.proofs.Common.{◌≡◌, ◌≢◌, inl, inr, ℕ, true, List, ◌++◌, [], ◌∷◌, Some, refl, sym, ◌∙◌, ap, subst, arith}
use Rattle.std.proofs.Common.{flat_map}
use Rattle.std.specs.Prelude.{slice_get, remove}
use Rattle.std.specs.Ordering.{nat_cmp}
use Rattle.std.specs.FinMap.{FinMap, get}
use Rattle.std.proofs.lemmas.List.Concat.{flat_map-append}
use Rattle.rent_buf.specs.Buffer.{Buffer}
use Rattle.ring_core.specs.Ring.{RingView}
use Rattle.ring_core.specs.Entry.{target}
use Rattle.ring_core.specs.MemRing.{completion_of}
use Rattle.ring_core.specs.declared.entry.Entry.{Entry}
use Rattle.ring_core.specs.declared.entry.Flight.{Flight}
use Rattle.machine.specs.declared.completion.Completion.{Completion}
use Rattle.ring_core.specs.declared.entry.Target.TheVariants.{Slot as Keyed}
use Rattle.machine.specs.declared.request.Outcome.{Outcome}
use Rattle.machine.specs.declared.world.HandleState.{HandleState}
use Rattle.machine.specs.Lists.{amended}
use Rattle.machine.specs.Ledger.{Ledger, Operation, Owner, Place, InQueue, InFlight, InDone, Item, Op}
use Rattle.machine.specs.Turn.{complete_at}
use Rattle.machine.proofs.Amended.{get-amended-same, get-amended-other}
use Rattle.ring_core.proofs.Targets.{target-slot}
use Rattle.driver_core.specs.declared.slot.Slot.{Slot}
use Rattle.driver_core.specs.Slots.{SlotsStand}
use Rattle.driver_core.proofs.Lists.{some, skip, skip-not, skip-one, get-removed, map-removed, get-pushed}
use Rattle.uring_driver.specs.Lists.{EntryFor, CompletionFor, DoneFor, IsAt, IsQueued, IsFlown, ListsStand, is_call, names_slot, item_of}
use Rattle.uring_driver.specs.Lists.{done_items_in, done_items_of}
use Rattle.uring_driver.proofs.Means.{Means}
use Rattle.uring_driver.proofs.Kept.{queued-kept, flight-kept, done-kept, queued-at, slot-done}
use Rattle.uring_driver.proofs.Flights.{o, s, slot-there, which, flies}

-- A ring in which what was in flight at a place is the last completion, with other handles.
abbrev pub ended : RingView → ℕ → Completion → List HandleState → RingView
ended v place c world = record v { flying = remove v.flying place; done = v.done ++ c ∷ []; world = world }

-- A ring's lists mean those of a ledger with other owners too.
pub lists-owners : {B : Type 0} (buffer : B → Buffer) (slots : FinMap nat_cmp (Slot B)) (v : RingView) (L : Ledger) (owners : List Owner) →
    ListsStand buffer slots v L → ListsStand buffer slots v (record L { owners = owners })
lists-owners buffer slots v L owners l = record {
  queue = l.queue;
  flying = l.flying;
  done = l.done;
  in_queue = l.in_queue;
  in_flight = l.in_flight;
  in_done = l.in_done;
  queue_once = l.queue_once;
  flight_once = l.flight_once;
  done_once = l.done_once;
  cancels = record { before = l.cancels.before; flown = l.cancels.flown };
}

-- Those of a ledger with other handles too.
pub lists-world : {B : Type 0} (buffer : B → Buffer) (slots : FinMap nat_cmp (Slot B)) (v : RingView) (L : Ledger)
    (world : List HandleState) → ListsStand buffer slots v L → ListsStand buffer slots v (record L { world = world })
lists-world buffer slots v L world l = record {
  queue = l.queue;
  flying = l.flying;
  done = l.done;
  in_queue = l.in_queue;
  in_flight = l.in_flight;
  in_done = l.in_done;
  queue_once = l.queue_once;
  flight_once = l.flight_once;
  done_once = l.done_once;
  cancels = record { before = l.cancels.before; flown = l.cancels.flown };
}

module _ {B : Type 0} (buffer : B → Buffer) (slots slots' : FinMap nat_cmp (Slot B)) (v : RingView) (place : ℕ) (c : Completion)
    (handles : List HandleState) (L : Ledger) (ops' : List Operation) (world : List HandleState) (item : Item)
    (old : ListsStand buffer slots v L) where
  flew : (i : ℕ) (x : Flight) → slice_get (remove v.flying place) i ≡ Some x → slice_get v.flying (skip place i) ≡ Some x
  flew i x h = sym (get-removed v.flying place i) ∙ h

  -- The lists mean the ledger's once the item at the place is completed, where all that is queued, in flight or done is kept, and the
  -- last completion means that item and is of no other operation.
  pub lists-finished : done_items_of c ≡ item ∷ [] →
      ((x : Entry) → EntryFor buffer slots x × IsQueued L.ops x → EntryFor buffer slots' x × IsQueued ops' x) →
      ((i : ℕ) (x : Flight) → slice_get v.flying (skip place i) ≡ Some x → is_call x.entry.body ≡ true →
      EntryFor buffer slots x.entry × IsFlown L.ops x → EntryFor buffer slots' x.entry × IsFlown ops' x) →
      ((x : Completion) → CompletionFor slots x × IsAt L.ops x.serial (InDone x.outcome) →
      CompletionFor slots' x × IsAt ops' x.serial (InDone x.outcome)) →
      DoneFor slots' ops' c (target c.word) →
      ((i : ℕ) (x : Completion) → slice_get v.done i ≡ Some x → names_slot (target x.word) ≡ true → names_slot (target c.word) ≡ true →
      x.serial ≢ c.serial) →
      ListsStand buffer slots' (ended v place c handles) (record (complete_at L place item) { ops = ops'; world = world })
  lists-finished means in_queue in_flight in_done last other = record {
    queue = old.queue;
    flying = ap (λ x. remove x place) old.flying ∙ sym (map-removed item_of v.flying place);
    done = ap (λ x. x ++ item ∷ []) old.done ∙ ap (λ x. flat_map done_items_of v.done ++ (x ++ [])) (sym means)
        ∙ sym (flat_map-append done_items_of v.done (c ∷ []));
    in_queue = λ i x h. queued-kept buffer slots slots' L.ops ops' x x.body (λ _ a. in_queue x a) (old.in_queue i x h);
    in_flight = λ i x h. flight-kept buffer slots slots' L.ops ops' x x.marked x.entry.body (λ _. refl)
        (in_flight i x (flew i x h)) (old.in_flight (skip place i) x (flew i x h));
    in_done = λ i x h. elim (get-pushed v.done c i x h) [
      | inl r ↦ done-kept slots slots' L.ops ops' x (target x.word) (λ _ a. in_done x a) (old.in_done i x r)
      | inr r ↦ subst (λ y. DoneFor slots' ops' y (target y.word)) (sym r.1) last
    ];
    queue_once = old.queue_once;
    flight_once = λ i j x y h k a b r. skip-one place i j
        (old.flight_once (skip place i) (skip place j) x y (flew i x h) (flew j y k) a b r);
    done_once = λ i j x y h k p q r. elim (get-pushed v.done c i x h) [
      | inl a ↦ elim (get-pushed v.done c j y k) [
        | inl b ↦ old.done_once i j x y a b p q r
        | inr b ↦ absurd (other i x a p (ap (λ z. names_slot (target z.word)) (sym b.1) ∙ q) (r ∙ ap (λ z. z.serial) b.1))
      ]
      | inr a ↦ elim (get-pushed v.done c j y k) [
        | inl b ↦ absurd (other j y b q (ap (λ z. names_slot (target z.word)) (sym a.1) ∙ p) (sym r ∙ ap (λ z. z.serial) a.1))
        | inr b ↦ a.0 ∙ sym b.0
      ]
    ];
    cancels = record {
      before = old.cancels.before;
      flown = λ i j x y key h k b q. old.cancels.flown (skip place i) j x y key (flew i x h) k b q;
    };
  }

-- A call in flight ended with an outcome: its operation is done with it, its slot still has its number, and the slots of other numbers are
-- kept.
module _ {B : Type 0} (buffer : B → Buffer) (v : RingView) (slots slots' : FinMap nat_cmp (Slot B)) (L : Ledger) (place : ℕ)
    (flight : Flight) (old : Means buffer v slots L) (there : slice_get v.flying place ≡ Some flight)
    (calls : is_call flight.entry.body ≡ true) (f : Operation → Operation) (outcome : Outcome)
    (done : (f (o buffer v slots L place flight old there calls)).place ≡ InDone outcome)
    (stand : SlotsStand buffer slots' (amended L.ops flight.entry.serial f))
    (has : CompletionFor slots' (completion_of flight.entry outcome))
    (slot-kept : (k : ℕ) (u : Slot B) → get slots k ≡ Some u → u.serial ≢ flight.entry.serial → get slots' k ≡ Some u)
    (world : List HandleState) where
  abbrev n : ℕ
  n = flight.entry.serial

  abbrev c : Completion
  c = completion_of flight.entry outcome

  abbrev op : Operation
  op = o buffer v slots L place flight old there calls

  abbrev ops' : List Operation
  ops' = amended L.ops n f

  at-kept : (m : ℕ) (p : Place) → IsAt L.ops m p → m ≢ n → IsAt ops' m p
  at-kept m p a q = record { operation = a.operation; there = get-amended-other f L.ops n m q ∙ a.there; stays = a.stays }

  link-kept : (x : Entry) → IsQueued L.ops x → x.serial ≢ n → IsQueued ops' x
  link-kept x a q = record {
    operation = a.operation;
    there = get-amended-other f L.ops n x.serial q ∙ a.there;
    stays = a.stays;
    linked = a.linked;
  }

  flown-kept : (x : Flight) → IsFlown L.ops x → x.entry.serial ≢ n → IsFlown ops' x
  flown-kept x a q = record {
    operation = a.operation;
    there = get-amended-other f L.ops n x.entry.serial q ∙ a.there;
    stays = a.stays;
    marked = a.marked;
    bound = a.bound;
  }

  entry-kept : (x : Entry) → EntryFor buffer slots x → x.serial ≢ n → EntryFor buffer slots' x
  entry-kept x E q =
      record { slot = E.slot; there = slot-kept x.word E.slot E.there (λ r. q (sym E.serial ∙ r)); serial = E.serial; call = E.call }

  completion-kept : (x : Completion) → CompletionFor slots x → x.serial ≢ n → CompletionFor slots' x
  completion-kept x E q = record { slot = E.slot; there = slot-kept x.word E.slot E.there (λ r. q (sym E.serial ∙ r)); serial = E.serial }

  not-this : (m : ℕ) (p : Place) → IsAt L.ops m p → p ≢ InFlight → m ≢ n
  not-this m p a h e =
      h (sym a.stays ∙ ap (λ x. x.place)
      (some a.operation op (slice_get L.ops m) a.there (ap (slice_get L.ops) e
      ∙ which buffer v slots L place flight old there calls)) ∙ flies buffer v slots L place flight old there calls)

  new-place : IsAt ops' n (InDone outcome)
  new-place = record {
    operation = f op;
    there = get-amended-same f L.ops n op (which buffer v slots L place flight old there calls);
    stays = done;
  }

  keyed : target c.word ≡ Keyed c.word
  keyed =
      let slot = s buffer v slots L place flight old there calls in
      let below = old.in_slots.below flight.entry.word slot (slot-there buffer v slots L place flight old there calls) in
      target-slot flight.entry.word (omega (arith, below))

  -- What was done before is of another operation.
  done-other : (i : ℕ) (x : Completion) → slice_get v.done i ≡ Some x → names_slot (target x.word) ≡ true → x.serial ≢ n
  done-other i x h q = not-this x.serial (InDone x.outcome) (slot-done slots L.ops x (target x.word) (old.in_lists.in_done i x h) q).1
      (λ z. cc)

  lists-stand : ListsStand buffer slots' (ended v place c world) (record (complete_at L place (Op n)) { ops = ops'; world = world })
  lists-stand = lists-finished buffer slots slots' v place c world L ops' world (Op n) old.in_lists (ap (done_items_in c) keyed)
      (λ x a. (let q = not-this x.serial InQueue (queued-at L.ops x a.1) (λ r. cc) in (entry-kept x a.0 q, link-kept x a.1 q)))
      (λ i x at b a. (
      let q : x.entry.serial ≢ n = λ r. skip-not place i
      (old.in_lists.flight_once (skip place i) place x flight at there b calls r) in
      (entry-kept x.entry a.0 q, flown-kept x a.1 q)))
      (λ x a. (
      let q = not-this x.serial (InDone x.outcome) a.1 (λ y. cc) in
      (completion-kept x a.0 q, at-kept x.serial (InDone x.outcome) a.1 q)))
      (subst (λ t. DoneFor slots' ops' c t) (sym keyed) (has, new-place))
      (λ i x h p _ r. done-other i x h p r)

  -- The ring and the slots mean the ledger in which the operation is done.
  pub means-ended : Means buffer (ended v place (completion_of flight.entry outcome) world) slots'
      (record (complete_at L place (Op flight.entry.serial)) { ops = amended L.ops flight.entry.serial f; world = world })
  means-ended = record { capacity = old.capacity; world = refl; in_slots = stand; in_lists = lists-stand }
