-- What taking a call off the queue does to a ring and slots that mean a ledger.
use Rattle.std.proofs.Common.{◌≡◌, ◌≢◌, inl, inr, ℕ, suc, Bool, true, false, List, [], ◌∷◌, ◌++◌, length, map, Option, Some, refl, sym, ◌∙◌}
use Rattle.std.proofs.Common.{ap, subst, arith}
use Rattle.std.specs.Prelude.{slice_get, is_some, ◌&&◌, not}
use Rattle.std.specs.Ordering.{nat_cmp}
use Rattle.std.specs.FinMap.{FinMap}
use Rattle.std.proofs.lemmas.List.{map-append}
use Rattle.rent_buf.specs.Buffer.{Buffer}
use Rattle.ring_core.specs.Ring.{RingView}
use Rattle.machine.specs.Lists.{amended, numbers_where}
use Rattle.machine.specs.declared.request.Call.{Call}
use Rattle.ring_core.specs.declared.entry.Body.TheVariants.{Call as Calls}
use Rattle.ring_core.specs.declared.entry.Entry.{Entry}
use Rattle.ring_core.specs.declared.entry.Flight.{Flight}
use Rattle.ring_core.specs.Entry.{target}
use Rattle.machine.specs.Ledger.{Ledger, Req, Op, Operation, Place, InQueue, InFlight, InDone, is_live, is_kept, is_owned}
use Rattle.machine.specs.Queue.{take_one, with_take}
use Rattle.machine.proofs.Amended.{get-amended-same, get-amended-other}
use Rattle.driver_core.specs.declared.slot.Slot.{Slot}
use Rattle.driver_core.specs.Slots.{SlotFor, life_of, is_early}
use Rattle.uring_driver.specs.Lists.{EntryFor, IsAt, IsQueued, IsFlown, FlightFor, Meets, ListsStand, is_call, queued_of, item_in, item_of}
use Rattle.uring_driver.proofs.Means.{Means}
use Rattle.driver_core.proofs.Lists.{some, get-pushed}
use Rattle.driver_core.proofs.Counts.{where-same}
use Rattle.uring_driver.proofs.Kept.{call-queued, call-flown, queued-kept, flight-kept, done-kept, flown-at}
use Rattle.driver_core.proofs.Slots.{slots-amended}
use Rattle.uring_driver.proofs.Heads.{at-head, behind-head, once-behind, cancels-left}

-- A slot has one stage of life while its operation is queued and in flight.
early-life : (d : Bool) (t : Option ℕ) → life_of d InQueue t ≡ life_of d InFlight t
early-life true t = refl
early-life false t = refl

-- A call is taken, behind a leader or behind none: it is in flight, not marked, and bound where there is a leader.
module _ {B : Type 0} (buffer : B → Buffer) (v : RingView) (slots : FinMap nat_cmp (Slot B)) (L : Ledger) (e : Entry) (rest : List Entry)
    (old : Means buffer v slots L) (first : v.queue ≡ e ∷ rest) (leader : Option ℕ) (b : Bool) (binds : b ≡ is_some leader) (call : Call)
    (body : e.body ≡ Calls call) where
  here : EntryFor buffer slots e × IsQueued L.ops e
  here = call-queued buffer slots L.ops e e.body (old.in_lists.in_queue 0 e (at-head v.queue e rest first)) (ap is_call body)

  abbrev ops' : List Operation
  ops' = amended L.ops e.serial (with_take leader)

  abbrev f' : Flight
  f' = record { entry = e; marked = false; bound = b }

  not-this : (m : ℕ) (p : Place) → IsAt L.ops m p → p ≢ InQueue → m ≢ e.serial
  unfolding here
  not-this m p a h q = h (sym a.stays
      ∙ ap (λ x. x.place) (some a.operation here.1.operation (slice_get L.ops m) a.there (ap (slice_get L.ops) q ∙ here.1.there))
      ∙ here.1.stays)

  -- A call behind it has another number.
  behind : (i : ℕ) (x : Entry) → slice_get rest i ≡ Some x → is_call x.body ≡ true → x.serial ≢ e.serial
  behind i x h c q =
      let z = old.in_lists.queue_once (suc i) 0 x e (behind-head v.queue e rest first i x h) (at-head v.queue e rest first) c
      (ap is_call body) q in
      cc

  stays : (m : ℕ) (p : Place) → m ≢ e.serial → IsAt L.ops m p → IsAt ops' m p
  stays m p h a = record {
    operation = a.operation;
    there = get-amended-other (with_take leader) L.ops e.serial m h ∙ a.there;
    stays = a.stays;
  }

  queued-stays : (x : Entry) → x.serial ≢ e.serial → IsQueued L.ops x → IsQueued ops' x
  queued-stays x h a = record {
    operation = a.operation;
    there = get-amended-other (with_take leader) L.ops e.serial x.serial h ∙ a.there;
    stays = a.stays;
    linked = a.linked;
  }

  flown-stays : (f : Flight) → IsFlown L.ops f → IsFlown ops' f
  flown-stays f a = record {
    operation = a.operation;
    there = get-amended-other (with_take leader) L.ops e.serial f.entry.serial
        (not-this f.entry.serial InFlight (flown-at L.ops f a) (λ q. cc)) ∙ a.there;
    stays = a.stays;
    marked = a.marked;
    bound = a.bound;
  }

  fits : (t : Slot B) → t.serial ≡ e.serial → SlotFor buffer L.ops t → SlotFor buffer ops' t
  unfolding here
  fits t q m =
      let same : m.operation ≡ here.1.operation = some m.operation here.1.operation (slice_get L.ops t.serial) m.there
      (ap (slice_get L.ops) q ∙ here.1.there) in
      let at : m.operation.place ≡ InQueue = ap (λ x. x.place) same ∙ here.1.stays in
      record {
        operation = with_take leader m.operation;
        there = ap (slice_get (amended L.ops e.serial (with_take leader))) q
            ∙ get-amended-same (with_take leader) L.ops e.serial m.operation (ap (slice_get L.ops) (sym q) ∙ m.there);
        live = refl;
        request = m.request;
        life = m.life ∙ ap (λ p. life_of m.operation.dropped p m.operation.task) at ∙ early-life m.operation.dropped m.operation.task;
        fresh = λ _. m.fresh (ap is_early at);
        uncanceled = λ z. cc;
      }

  lives : is_live (with_take leader here.1.operation) ≡ is_live here.1.operation
  unfolding here
  lives = sym (ap is_kept here.1.stays)

  owned : is_owned (with_take leader here.1.operation) ≡ is_owned here.1.operation
  unfolding here
  owned = ap (λ p. is_kept p && not here.1.operation.dropped) (sym here.1.stays)

  -- No cancel of an operation that is queued was taken.
  uncanceled : false ≡ here.1.operation.canceled
  unfolding here
  uncanceled =
      let m = old.in_slots.holds e.word here.0.slot here.0.there in
      let same : m.operation ≡ here.1.operation = some m.operation here.1.operation (slice_get L.ops e.serial)
      (ap (slice_get L.ops) (sym here.0.serial) ∙ m.there) here.1.there in
      sym (m.uncanceled (ap (λ x. x.place) same ∙ here.1.stays)) ∙ ap (λ x. x.canceled) same

  now-flown : IsFlown ops' f'
  unfolding here uncanceled
  now-flown = record {
    operation = with_take leader here.1.operation;
    there = get-amended-same (with_take leader) L.ops e.serial here.1.operation here.1.there;
    stays = refl;
    marked = uncanceled;
    bound = binds;
  }

  -- A call in flight has another number.
  apart-lists : (i : ℕ) (x : Flight) → slice_get v.flying i ≡ Some x → is_call x.entry.body ≡ true → x.entry.serial ≢ e.serial
  apart-lists i x h c = not-this x.entry.serial InFlight
      (flown-at L.ops x (call-flown buffer slots L.ops x x.entry.body (old.in_lists.in_flight i x h) c).1) (λ q. cc)

  lists-call : ListsStand buffer slots (record v { queue = rest; flying = v.flying ++ f' ∷ [] })
      (take_one leader (record L { queue = map queued_of rest }) (Req e.serial))
  unfolding here
  lists-call = record {
    queue = refl;
    flying = ap (λ x. x ++ Op e.serial ∷ []) old.in_lists.flying ∙ ap (λ b. map item_of v.flying ++ item_in e b ∷ []) (sym body)
        ∙ sym (map-append item_of v.flying (f' ∷ []));
    done = old.in_lists.done;
    in_queue = λ i x h. queued-kept buffer slots slots L.ops ops' x x.body (λ c a. (a.0, queued-stays x (behind i x h c) a.1))
        (old.in_lists.in_queue (suc i) x (behind-head v.queue e rest first i x h));
    in_flight = λ i x h. elim (get-pushed v.flying f' i x h) [
      | inl r ↦ flight-kept buffer slots slots L.ops ops' x x.marked x.entry.body (λ _. refl) (λ _ a. (a.0, flown-stays x a.1))
          (old.in_lists.in_flight i x r)
      | inr r ↦ subst (λ y. FlightFor buffer slots ops' y y.entry.body) (sym r.1)
          (subst (λ b. FlightFor buffer slots ops' f' b) (sym body) (here.0, now-flown))
    ];
    in_done = λ i c h. done-kept slots slots L.ops ops' c (target c.word)
        (λ _ a. (a.0, stays c.serial (InDone c.outcome) (not-this c.serial (InDone c.outcome) a.1 (λ q. cc)) a.1))
        (old.in_lists.in_done i c h);
    queue_once = once-behind _ _ v.queue e rest first old.in_lists.queue_once;
    flight_once = λ i j x y h k c d q. elim (get-pushed v.flying f' i x h) [
      | inl a ↦ elim (get-pushed v.flying f' j y k) [
        | inl b ↦ old.in_lists.flight_once i j x y a b c d q
        | inr b ↦ absurd (apart-lists i x a c (q ∙ ap (λ z. z.entry.serial) b.1))
      ]
      | inr a ↦ elim (get-pushed v.flying f' j y k) [
        | inl b ↦ absurd (apart-lists j y b d (sym q ∙ ap (λ z. z.entry.serial) a.1))
        | inr b ↦ a.0 ∙ sym b.0
      ]
    ];
    done_once = old.in_lists.done_once;
    -- A cancel that is left stood behind the call that is in flight now.
    cancels = cancels-left v e rest first old.in_lists.cancels (v.flying ++ f' ∷ [])
        (λ i j f c key h k b q. elim (get-pushed v.flying f' i f h) [
          | inl r ↦ old.in_lists.cancels.flown i (suc j) f c key r (behind-head v.queue e rest first j c k) b q
          | inr r ↦ subst (λ y. Meets y.entry key c.serial) (sym r.1)
              (old.in_lists.cancels.before 0 (suc j) e c key (at-head v.queue e rest first) (behind-head v.queue e rest first j c k) b
              (omega arith) (ap is_call body))
        ]);
  }

  pub means-call : Means buffer (record v { queue = rest; flying = v.flying ++ f' ∷ [] }) slots
      (take_one leader (record L { queue = map queued_of rest }) (Req e.serial))
  unfolding here
  means-call = record {
    capacity = old.capacity;
    world = old.world;
    in_slots = slots-amended buffer slots L.ops e.serial (with_take leader) here.1.operation old.in_slots here.1.there lives fits;
    in_lists = lists-call;
  }

  pub owned-call : length (numbers_where is_owned 0 ops') ≡ length (numbers_where is_owned 0 L.ops)
  unfolding here
  owned-call = where-same is_owned (with_take leader) L.ops e.serial here.1.operation here.1.there owned
