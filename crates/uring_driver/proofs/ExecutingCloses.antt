-- What the execution of a handle's close does to a ring and slots that mean a ledger: nothing moves.
use Rattle.std.proofs.Common.{◌≡◌, ◌<◌, ℕ, true, false, List, [], ◌∷◌, drop, remove, Option, None, Some, refl, sym, ◌∙◌, ap, subst}
use Rattle.std.specs.Prelude.{slice_get, is_some, if◌then◌else◌}
use Rattle.std.specs.Ordering.{nat_cmp}
use Rattle.std.specs.FinMap.{FinMap}
use Rattle.rent_buf.specs.Buffer.{Buffer}
use Rattle.machine.specs.declared.world.TheConstants.{MOST_HANDLES}
use Rattle.ring_core.specs.Ring.{RingView}
use Rattle.ring_core.specs.Entry.{target, close_entry}
use Rattle.ring_core.specs.declared.entry.Target.TheVariants.{Handle}
use Rattle.ring_core.proofs.Targets.{target-close}
use Rattle.machine.specs.Effect.{close_effect}
use Rattle.ring_core.specs.MemRing.{IsFinished, body_effect, is_allowed_body, is_bound}
use Rattle.machine.specs.Outcome.{may_close}
use Rattle.machine.specs.Payloads.{StoresIf}
use Rattle.ring_core.specs.Bodies.{body_comes}
use Rattle.ring_core.specs.declared.entry.Body.TheVariants.{Close as Closes}
use Rattle.ring_core.specs.declared.entry.Flight.{Flight}
use Rattle.machine.specs.declared.completion.Completion.{Completion}
use Rattle.machine.specs.declared.request.Told.{Told}
use Rattle.machine.specs.declared.request.Told.TheVariants.{Count, Fail}
use Rattle.machine.specs.declared.world.HandleState.{HandleState}
use Rattle.machine.specs.Ledger.{Ledger, Operation, Item, Op}
use Rattle.machine.specs.Turn.{complete_at}
use Rattle.machine.proofs.Behind.{awaited, AreBehind, waiting_front, behind-drop, behind-after}
use Rattle.driver_core.specs.declared.slot.Slot.{Slot}
use Rattle.uring_driver.specs.Lists.{FlightFor, DoneFor, names_slot, item_in, done_items_in}
use Rattle.uring_driver.proofs.Means.{Means}
use Rattle.uring_driver.proofs.Flights.{flying-at}
use Rattle.uring_driver.proofs.Finishing.{ended, lists-finished}
use Rattle.uring_driver.proofs.Releasing.{front-unbound, finished-alone}

-- An executed close leaves what stands on the handles.
close-world : (world : List HandleState) (told : Told) → (close_effect world told).world ≡ world
close-world world (Count k) = refl
close-world world (Fail e) = refl

-- Items before which there is no operation don't begin with one that waits.
no-front : (ops : List Operation) (items : List Item) → AreBehind ops None items → [] ≡ waiting_front ops items
no-front ops [] behind = refl
no-front ops (Op x ∷ items) behind = by (awaited (slice_get ops x)) refl
  where
    by : (w : Option ℕ) → awaited (slice_get ops x) ≡ w → [] ≡ waiting_front ops (Op x ∷ items)
    by None at = sym (ap (λ w. if is_some w then x ∷ waiting_front ops items else []) at)
    by (Some m) at = (let q : None ≡ Some m = behind.0 m at in let f : ⊥ = cc in absurd f)
no-front ops (Item.Close h ∷ items) behind = refl

-- A close in flight at a place, in a ring and slots that mean a ledger.
module _ {B : Type 0} (buffer : B → Buffer) (v : RingView) (slots : FinMap nat_cmp (Slot B)) (L : Ledger) (place : ℕ) (flight : Flight)
    (k : ℕ) (old : Means buffer v slots L) (there : slice_get v.flying place ≡ Some flight) (closes : flight.entry.body ≡ Closes k) where
  here : (flight.entry ≡ close_entry k) × (k < MOST_HANDLES) × (flight.marked ≡ false) × (flight.bound ≡ false)
  here = subst (λ b. FlightFor buffer slots L.ops flight b) closes (old.in_lists.in_flight place flight there)

  -- Its word names the handle.
  pub close-target : target flight.entry.word ≡ Handle k
  close-target = ap (λ e. target e.word) here.0 ∙ target-close k here.1

-- Its outcome is allowed exactly where it is to a close.
pub close-allows : (world : List HandleState) (flight : Flight) (k : ℕ) (told : Told) → flight.entry.body ≡ Closes k →
    is_allowed_body world flight.marked flight.entry.body told ≡ may_close told
close-allows world flight k told closes = ap (λ b. is_allowed_body world flight.marked b told) closes

module _ {B : Type 0} (buffer : B → Buffer) (v : RingView) (slots : FinMap nat_cmp (Slot B)) (L : Ledger) (place : ℕ) (told : Told)
    (sent : List ℕ) (v' : RingView) (got : List ℕ) (c : Completion) (k : ℕ) (old : Means buffer v slots L)
    (fin : IsFinished v place told sent v' got c) (closes : fin.flight.entry.body ≡ Closes k)
    (behind : AreBehind L.ops None L.flying) where
  -- Its completion's word names the handle.
  pub close-named : target c.word ≡ Handle k
  close-named = ap (λ x. target x.word) fin.answer ∙ close-target buffer v slots L place fin.flight k old fin.there closes

  -- So does its serial.
  close-serial : c.serial ≡ k
  close-serial = ap (λ x. x.serial) fin.answer ∙ ap (λ e. e.serial) (here buffer v slots L place fin.flight k old fin.there closes).0

  not-slot : names_slot (target c.word) ≡ true → ⊥
  not-slot q = (let z : false ≡ true = sym (ap names_slot close-named) ∙ q in cc)

  abbrev closed : Ledger
  closed = complete_at L place (Item.Close k)

  means-close-ended : Means buffer (ended v place c v.world) slots closed
  means-close-ended = record {
    capacity = old.capacity;
    world = old.world;
    in_slots = old.in_slots;
    in_lists = lists-finished buffer slots slots v place c v.world L L.ops L.world (Item.Close k) old.in_lists
        (ap (done_items_in c) close-named) (λ x a. a) (λ i x h q a. a) (λ x a. a)
        (subst (λ t. DoneFor slots L.ops c t) (sym close-named) close-serial) (λ i x h p q. absurd (not-slot q));
  }

  there : slice_get L.flying place ≡ Some (Item.Close k)
  there = flying-at buffer v slots L place fin.flight (Item.Close k) old fin.there (ap (item_in fin.flight.entry) closes)

  -- Nothing that is bound is behind it.
  none-behind : is_bound (remove v.flying place) place ≡ false
  none-behind =
      let d = behind-drop L.ops None L.flying place behind in
      front-unbound buffer (ended v place c v.world) slots closed means-close-ended place
      (no-front L.ops (drop place (remove L.flying place)) (behind-after L.ops d.0 L.flying place (Item.Close k) there d.1))

  -- So it ends alone.
  ring-is : v' ≡ ended v place c v.world
  ring-is =
      let result = body_effect v.world fin.flight.entry.body sent told in
      fin.ring ∙ finished-alone v place fin.flight.entry result none-behind ∙ ap (λ x. ended v place x result.world) (sym fin.answer)
      ∙ ap (ended v place c) (ap (λ b. (body_effect v.world b sent told).world) closes ∙ close-world v.world told)

  pub means-close-executed : Means buffer v' slots (complete_at L place (Item.Close k))
  means-close-executed = subst (λ x. Means buffer x slots closed) (sym ring-is) means-close-ended

-- An executed close changes no payload.
pub close-stores : {P : Type 0} (stores : P → ℕ → List ℕ → P → Type 0) (flight : Flight) (told : Told) (k word : ℕ) (got : List ℕ)
    (before after : P) → flight.entry.body ≡ Closes k → StoresIf stores (body_comes flight.entry.body told) before word got after →
    after ≡ before
close-stores stores flight told k word got before after closes stored =
    subst (λ b. StoresIf stores (body_comes b told) before word got after) closes stored
