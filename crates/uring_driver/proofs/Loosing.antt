-- What an execution that didn't fail releases in a ring and slots that mean a ledger: the operation that waits for it waits no more.
use Rattle.std.proofs.Common.{◌≡◌, ◌≢◌, inl, inr, ℕ, zero, suc, ◌≤◌, Bool, true, false, List, [], ◌∷◌, length, map, take, drop, Option}
use Rattle.std.proofs.Common.{None}
use Rattle.std.proofs.Common.{Some, slice_get, refl, sym, ◌∙◌, ap, subst, arith}
use Rattle.std.specs.Prelude.{if◌then◌else◌, ◌==◌, is_some}
use Rattle.std.specs.Ordering.{nat_cmp}
use Rattle.std.specs.FinMap.{FinMap}
use Rattle.rent_buf.specs.Buffer.{Buffer}
use Rattle.ring_core.specs.Ring.{RingView}
use Rattle.ring_core.specs.Entry.{target}
use Rattle.ring_core.specs.Bound.{unbound}
use Rattle.machine.specs.Lists.{amended, passes}
use Rattle.ring_core.specs.declared.entry.Body.{Body}
use Rattle.ring_core.specs.declared.entry.Body.TheVariants.{Call as Calls, Cancel as Cancels, Close as Closes}
use Rattle.ring_core.specs.declared.entry.Entry.{Entry}
use Rattle.ring_core.specs.declared.entry.Flight.{Flight}
use Rattle.machine.specs.Ledger.{Ledger, Operation, Place, InDone, Item, Op, is_live}
use Rattle.machine.specs.Turn.{without_wait, waits_on, unless_waits}
use Rattle.machine.proofs.Numbers.{equal-other}
use Rattle.machine.proofs.Amended.{changed-cases, there-before, map-amended}
use Rattle.machine.proofs.Where.{where-map}
use Rattle.machine.proofs.Occurring.{listed}
use Rattle.machine.proofs.Releasing.{with_waits, unless-keeps, let_go}
use Rattle.machine.proofs.Behind.{awaited, awaited_by, op_of, AreBehind, unless-awaits, listed-here}
use Rattle.machine.proofs.Parting.{Parted}
use Rattle.driver_core.specs.declared.slot.Slot.{Slot}
use Rattle.driver_core.specs.Slots.{SlotFor, SlotsStand}
use Rattle.driver_core.proofs.Lists.{some, get-map, map-get}
use Rattle.uring_driver.specs.Lists.{IsAt, IsQueued, IsFlown, FlightFor, Meets, ListsStand, is_call, item_in, item_of}
use Rattle.uring_driver.proofs.Means.{Means}
use Rattle.uring_driver.proofs.Kept.{queued-kept, done-kept}
use Rattle.uring_driver.proofs.Flights.{flying-at}

-- An operation that may wait no more differs in whom it waits for alone.
unless-with : (n : ℕ) (o : Operation) → unless_waits n o ≡ with_waits (unless_waits n o).waits_for o
unless-with n o = by (waits_on n o)
  where
    by : (b : Bool) → (if b then without_wait o else o) ≡ with_waits (if b then without_wait o else o).waits_for o
    by true = refl
    by false = refl

-- One that waits for none but n waits for none from now on.
unless-none : (n : ℕ) (o : Operation) → ((m : ℕ) → o.waits_for ≡ Some m → n ≡ m) → (unless_waits n o).waits_for ≡ None
unless-none n o alone = by (unless_waits n o).waits_for refl
  where
    by : (w : Option ℕ) → (unless_waits n o).waits_for ≡ w → w ≡ None
    by None at = refl
    by (Some j) at = (let a = unless-awaits n j (Some o) at in absurd (a.1 (sym (alone j a.0))))

-- One that waits for another, or for none, waits as it did.
unless-other : (n : ℕ) (o : Operation) → (o.waits_for ≡ Some n → ⊥) → (unless_waits n o).waits_for ≡ o.waits_for
unless-other n o other = ap (λ b. (if b then without_wait o else o).waits_for) (by o.waits_for refl)
  where
    by : (w : Option ℕ) → o.waits_for ≡ w → passes (λ leader. leader == n) w ≡ false
    by None at = refl
    by (Some j) at = equal-other j n (λ e. other (at ∙ ap Some e))

-- A number that isn't among items isn't that of the first.
not-first : (n : ℕ) (item : Item) (items : List Item) → listed n (item ∷ items) ≡ 0 → op_of item ≡ Some n → ⊥
not-first n (Op x) items none is =
    let e : x ≡ n = cc in
    let z : listed n (Op n ∷ items) ≡ 0 = subst (λ j. listed n (Op j ∷ items) ≡ 0) e none in
    let q : 1 ≤ listed n (Op n ∷ items) = listed-here n items in
    omega (arith, z, q)
not-first n (Item.Close h) items none is = (let f : ⊥ = cc in f)

-- Nor is it among those behind the first.
rest-none : (n : ℕ) (item : Item) (items : List Item) → listed n (item ∷ items) ≡ 0 → listed n items ≡ 0
rest-none n (Op x) items none = omega (arith, none)
rest-none n (Item.Close h) items none = none

-- None of items waits for what is neither among them nor before them.
none-awaits : (ops : List Operation) (n : ℕ) (before : Option ℕ) (items : List Item) → AreBehind ops before items → (before ≡ Some n → ⊥) →
    listed n items ≡ 0 → (i : ℕ) (item : Item) → slice_get items i ≡ Some item → awaited_by ops item ≡ Some n → ⊥
none-awaits ops n before [] b other none i item there is = (let f : ⊥ = cc in f)
none-awaits ops n before (x ∷ items) b other none zero item there is =
    let e : x ≡ item = cc in other (b.0 n (ap (awaited_by ops) e ∙ is))
none-awaits ops n before (x ∷ items) b other none (suc i) item there is =
    none-awaits ops n (op_of x) items b.1 (not-first n x items none) (rest-none n x items none) i item there is

-- None but the item at a place waits for the operation that left that place.
away-awaits : (ops : List Operation) (n : ℕ) (before : Option ℕ) (items : List Item) (place : ℕ) → AreBehind ops before (take place items) →
    (before ≡ Some n → ⊥) → AreBehind ops (Some n) (drop place items) → listed n items ≡ 0 → (i : ℕ) (item : Item) →
    slice_get items i ≡ Some item → i ≢ place → awaited_by ops item ≡ Some n → ⊥
away-awaits ops n before [] place up other on none i item there away is = (let f : ⊥ = cc in f)
away-awaits ops n before (x ∷ items) zero up other on none zero item there away is = away refl
away-awaits ops n before (x ∷ items) zero up other on none (suc i) item there away is =
    none-awaits ops n (op_of x) items on.1 (not-first n x items none) (rest-none n x items none) i item there is
away-awaits ops n before (x ∷ items) (suc place) up other on none zero item there away is =
    let e : x ≡ item = cc in other (up.0 n (ap (awaited_by ops) e ∙ is))
away-awaits ops n before (x ∷ items) (suc place) up other on none (suc i) item there away is =
    away-awaits ops n (op_of x) items place up.1 (not-first n x items none) on (rest-none n x items none) i item there
    (λ e. away (ap suc e)) is

-- The item at a place waits for none but the operation that left that place.
place-awaits : (ops : List Operation) (n : ℕ) (items : List Item) (place : ℕ) → AreBehind ops (Some n) (drop place items) → (item : Item) →
    slice_get items place ≡ Some item → (m : ℕ) → awaited_by ops item ≡ Some m → n ≡ m
place-awaits ops n [] place on item there m is = (let f : ⊥ = cc in absurd f)
place-awaits ops n (x ∷ items) zero on item there m is =
    let e : x ≡ item = cc in
    let q : Some n ≡ Some m = on.0 m (ap (awaited_by ops) e ∙ is) in cc
place-awaits ops n (x ∷ items) (suc place) on item there m is = place-awaits ops n items place on item there m is

-- The operation that waits for n waits no more, and what is in flight at the place is bound no more.
module _ {B : Type 0} (buffer : B → Buffer) (v : RingView) (slots : FinMap nat_cmp (Slot B)) (L : Ledger) (n place : ℕ)
    (old : Means buffer v slots L) (p : Parted L n place) where
  abbrev ops' : List Operation
  ops' = map (unless_waits n) L.ops

  abbrev waiting : Operation → Option ℕ
  waiting o = (unless_waits n o).waits_for

  -- Each operation stays, but for whom it waits for.
  there-still : (k : ℕ) (o : Operation) → slice_get L.ops k ≡ Some o → slice_get ops' k ≡ Some (with_waits (waiting o) o)
  there-still k o h = get-map (unless_waits n) L.ops k o h ∙ ap Some (unless-with n o)

  slot-still : (t : Slot B) → SlotFor buffer L.ops t → SlotFor buffer ops' t
  slot-still t m = record {
    operation = with_waits (waiting m.operation) m.operation;
    there = there-still t.serial m.operation m.there;
    live = m.live;
    request = m.request;
    life = m.life;
    fresh = m.fresh;
    uncanceled = m.uncanceled;
  }

  slots-still : SlotsStand buffer slots ops'
  slots-still = record {
    holds = λ k t h. slot-still t (old.in_slots.holds k t h);
    one = old.in_slots.one;
    each = λ k o h l. (
        let g = map-get (unless_waits n) L.ops k o h in
        old.in_slots.each k g.0 g.1 (sym (unless-keeps is_live n g.0 refl) ∙ ap is_live (sym g.2) ∙ l));
    counted = old.in_slots.counted ∙ ap length (sym (where-map is_live (unless_waits n) L.ops 0 (λ o. unless-keeps is_live n o refl)));
    below = old.in_slots.below;
  }

  at-still : (k : ℕ) (q : Place) → IsAt L.ops k q → IsAt ops' k q
  at-still k q a = record {
    operation = with_waits (waiting a.operation) a.operation;
    there = there-still k a.operation a.there;
    stays = a.stays;
  }

  queued-still : (e : Entry) → IsQueued L.ops e → IsQueued ops' e
  queued-still e a = record {
    operation = with_waits (waiting a.operation) a.operation;
    there = there-still e.serial a.operation a.there;
    stays = a.stays;
    linked = a.linked;
  }

  -- What is in flight is bound where its operation waits now.
  flown-still : (f : Flight) (b : Bool) → IsFlown L.ops f →
      ((o : Operation) → slice_get L.ops f.entry.serial ≡ Some o → b ≡ is_some (waiting o)) → IsFlown ops' (record f { bound = b })
  flown-still f b a is = record {
    operation = with_waits (waiting a.operation) a.operation;
    there = there-still f.entry.serial a.operation a.there;
    stays = a.stays;
    marked = a.marked;
    bound = is a.operation a.there;
  }

  -- What is at the place is bound no more.
  flight-loose : (f : Flight) → slice_get v.flying place ≡ Some f → (b : Body) → f.entry.body ≡ b → FlightFor buffer slots L.ops f b →
      FlightFor buffer slots ops' (unbound f) b
  flight-loose f at (Calls call) is q = (
    q.0,
    flown-still f false q.1 (λ o there.
        sym (ap is_some (unless-none n o (λ m waits.
        place-awaits L.ops n L.flying place p.after (Op f.entry.serial)
        (flying-at buffer v slots L place f (Op f.entry.serial) old at (ap (item_in f.entry) is)) m (ap awaited there ∙ waits))))),
  )
  flight-loose f at (Cancels key) is q = q
  flight-loose f at (Closes h) is q = (q.0, q.1, q.2, refl)

  -- What is elsewhere is bound as it was.
  flight-away : (i : ℕ) (f : Flight) → slice_get v.flying i ≡ Some f → i ≢ place → (b : Body) → f.entry.body ≡ b →
      FlightFor buffer slots L.ops f b → FlightFor buffer slots ops' f b
  flight-away i f at away (Calls call) is q = (
    q.0,
    flown-still f f.bound q.1 (λ o there.
        q.1.bound
        ∙ ap (λ x. is_some x.waits_for) (some q.1.operation o (slice_get L.ops f.entry.serial) q.1.there there)
        ∙ ap is_some (sym (unless-other n o (λ waits.
        away-awaits L.ops n None L.flying place p.before (λ z. (let e : ⊥ = cc in e)) p.after p.gone i (Op f.entry.serial)
        (flying-at buffer v slots L i f (Op f.entry.serial) old at (ap (item_in f.entry) is)) away (ap awaited there ∙ waits))))),
  )
  flight-away i f at away (Cancels key) is q = q
  flight-away i f at away (Closes h) is q = q

  -- What is in flight was there before, with its entry.
  flew : (i : ℕ) (f : Flight) → slice_get (amended v.flying place unbound) i ≡ Some f →
      (g : Flight) × (slice_get v.flying i ≡ Some g) × (f.entry ≡ g.entry)
  flew i f h = elim (changed-cases unbound v.flying place i) [
    | inl e ↦ (
        let b = there-before unbound (slice_get v.flying place) f (sym e.1 ∙ h) in
        (b.0, ap (slice_get v.flying) e.0 ∙ b.1, ap (λ x. x.entry) b.2))
    | inr e ↦ (f, sym e.1 ∙ h, refl)
  ]

  flies-still : (i : ℕ) (f : Flight) → slice_get (amended v.flying place unbound) i ≡ Some f →
      FlightFor buffer slots ops' f f.entry.body
  flies-still i f h = elim (changed-cases unbound v.flying place i) [
    | inl e ↦ (
        let b = there-before unbound (slice_get v.flying place) f (sym e.1 ∙ h) in
        subst (λ x. FlightFor buffer slots ops' x x.entry.body) (sym b.2)
        (flight-loose b.0 b.1 b.0.entry.body refl (old.in_lists.in_flight place b.0 b.1)))
    | inr e ↦ (
        let at = sym e.1 ∙ h in
        flight-away i f at e.0 f.entry.body refl (old.in_lists.in_flight i f at))
  ]

  lists-loose : ListsStand buffer slots (record v { flying = amended v.flying place unbound }) (let_go L n)
  lists-loose = record {
    queue = old.in_lists.queue;
    flying = old.in_lists.flying ∙ sym (map-amended item_of unbound v.flying place (λ f. refl));
    done = old.in_lists.done;
    in_queue = λ i e h. queued-kept buffer slots slots L.ops ops' e e.body (λ _ a. (a.0, queued-still e a.1)) (old.in_lists.in_queue i e h);
    in_flight = flies-still;
    in_done = λ i c h. done-kept slots slots L.ops ops' c (target c.word) (λ _ a. (a.0, at-still c.serial (InDone c.outcome) a.1))
        (old.in_lists.in_done i c h);
    queue_once = old.in_lists.queue_once;
    flight_once = λ i j x y h k a b r. (
        let f = flew i x h in
        let g = flew j y k in
        old.in_lists.flight_once i j f.0 g.0 f.1 g.1 (ap (λ e. is_call e.body) (sym f.2) ∙ a) (ap (λ e. is_call e.body) (sym g.2) ∙ b)
        (ap (λ e. e.serial) (sym f.2) ∙ r ∙ ap (λ e. e.serial) g.2));
    done_once = old.in_lists.done_once;
    cancels = record {
      before = old.in_lists.cancels.before;
      flown = λ i j f c key h k b q. (
          let g = flew i f h in
          let m = old.in_lists.cancels.flown i j g.0 c key g.1 k b (ap (λ e. is_call e.body) (sym g.2) ∙ q) in
          subst (λ e. Meets e key c.serial) (sym g.2) m);
    };
  }

  pub means-loose : Means buffer (record v { flying = amended v.flying place unbound }) slots (let_go L n)
  means-loose = record { capacity = old.capacity; world = old.world; in_slots = slots-still; in_lists = lists-loose }
