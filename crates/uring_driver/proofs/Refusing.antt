-- Why an execution was refused, of a driver that stands for a ledger.
use Rattle.std.proofs.Common.{◌≡◌, ℕ, Bool, true, List, Option, None, Some, Err, refl, sym, ◌∙◌, ap, arith, length}
use Rattle.std.specs.Prelude.{slice_get, is_some}
use Rattle.std.proofs.lemmas.List.{length-map}
use Rattle.rent_buf.specs.Buffer.{Buffer}
use Rattle.ring_core.specs.Ring.{RingView}
use Rattle.ring_core.specs.MemRing.{ExecutesFor, is_allowed_body}
use Rattle.ring_core.specs.declared.entry.Body.{Body}
use Rattle.ring_core.specs.declared.entry.Body.TheVariants.{Call as Calls, Cancel as Cancels, Close as Closes}
use Rattle.ring_core.specs.declared.entry.Flight.{Flight}
use Rattle.machine.specs.declared.request.Told.{Told}
use Rattle.ring_core.specs.declared.mem_ring.ExecRefusal.{ExecRefusal}
use Rattle.ring_core.specs.declared.mem_ring.ExecRefusal.TheVariants.{NotFlying, Waiting, BadOutcome, OutOfMemory}
use Rattle.machine.specs.Ledger.{Ledger, Item, Op}
use Rattle.machine.specs.Lists.{passes}
use Rattle.machine.specs.declared.ledger.Event.TheVariants.{Exec}
use Rattle.machine.specs.declared.ledger.Refusal.TheVariants.{Waiting as Waits}
use Rattle.machine.specs.Refusal.{allowed, waits, cause}
use Rattle.uring_driver.specs.declared.uring.IoUringDriver.{IoUringDriver}
use Rattle.uring_driver.specs.Uring.{ring_in, whole_ring}
use Rattle.uring_driver.specs.Lists.{FlightFor, is_call, item_in, item_of}
use Rattle.uring_driver.specs.Executed.{RefusedFor}
use Rattle.uring_driver.specs.Stands.{Stands}
use Rattle.uring_driver.proofs.Means.{means-of}
use Rattle.uring_driver.proofs.Kept.{call-item}
use Rattle.uring_driver.proofs.Steps.{unrefused-exec, cause-flying, cause-waiting, cause-outcome, allowed-op}
use Rattle.uring_driver.proofs.Flights.{o, which, bound-of, allows-is, flying-at}
use Rattle.uring_driver.proofs.ExecutingCloses.{close-allows}

-- A refused execution leaves what holds the bytes.
pub refused-keeps : {P : Type 0} (offers : P → ℕ → List ℕ) (stores : P → ℕ → List ℕ → P → Type 0) (takes : ℕ → Bool) (old new : RingView)
    (place : ℕ) (told : Told) (before after : P) (why : ExecRefusal) →
    ExecutesFor offers stores takes old place told new before after (Err why) → after ≡ before
refused-keeps offers stores takes old new place told before after NotFlying refused = refused.2
refused-keeps offers stores takes old new place told before after Waiting refused = refused.2
refused-keeps offers stores takes old new place told before after BadOutcome refused = refused.2
refused-keeps offers stores takes old new place told before after OutOfMemory refused = refused.2

module _ {B : Type 0} (buffer : B → Buffer) (d : IoUringDriver RingView B) (L : Ledger) (place : ℕ) (told : Told)
    (old : Stands (λ r. r) buffer d L) where
  -- What is in flight is the ledger's item, which waits where it is bound, and an outcome is allowed to it as it is to that, by its body.
  record AllowsFor (flight : Flight) : Type 0 where
    item : Item
    there : slice_get L.flying place ≡ Some item
    waiting : waits L item ≡ flight.bound
    allows : allowed L item told ≡ is_allowed_body (ring_in d).world flight.marked flight.entry.body told

  allows-by : (flight : Flight) → slice_get (ring_in d).flying place ≡ Some flight → (b : Body) → flight.entry.body ≡ b →
      FlightFor buffer d.slots.values L.ops flight b → AllowsFor flight
  allows-by flight at (Calls call) is _ =
      let v = whole_ring (λ r. r) d in
      let before = means-of old in
      let slots = d.slots.values in
      let calls = ap is_call is in
      let n = flight.entry.serial in
      let wh = which buffer v slots L place flight before at calls in
      record {
        item = Op n;
        there = flying-at buffer v slots L place flight (Op n) before at (call-item flight.entry flight.entry.body calls);
        waiting = ap (passes (λ operation. is_some operation.waits_for)) wh
            ∙ sym (bound-of buffer v slots L place flight before at calls);
        allows = allowed-op L n told (o buffer v slots L place flight before at calls) wh
            ∙ sym (allows-is buffer v slots L place flight before at calls told);
      }
  allows-by flight at (Cancels key) is never = absurd never
  allows-by flight at (Closes k) is here = record {
    item = Item.Close k;
    there = flying-at buffer (whole_ring (λ r. r) d) d.slots.values L place flight (Item.Close k) (means-of old) at
        (ap (item_in flight.entry) is);
    waiting = sym here.3;
    allows = sym (close-allows (ring_in d).world flight k told is);
  }

  allows-at : (flight : Flight) → slice_get (ring_in d).flying place ≡ Some flight → AllowsFor flight
  allows-at flight at = allows-by flight at flight.entry.body refl (old.ring.in_lists.in_flight place flight at)

  -- What is at a place that is bound is there, by what is looked up.
  bound-waits : (x : Option Flight) → slice_get (ring_in d).flying place ≡ x → passes (λ flight. flight.bound) x ≡ true →
      cause L (Exec place told) ≡ Some Waits
  bound-waits None at bound = (let f : ⊥ = cc in absurd f)
  bound-waits (Some flight) at bound =
      let a = allows-at flight at in cause-waiting L place told a.item a.there (a.waiting ∙ bound)

  -- A refused execution has its cause; one that ran out of memory has none.
  pub refuses-executes : {P : Type 0} (offers : P → ℕ → List ℕ) (stores : P → ℕ → List ℕ → P → Type 0) (new : RingView) (before after : P)
      (takes : ℕ → Bool) (why : ExecRefusal) →
      ExecutesFor offers stores takes (ring_in d) place told new before after (Err why) → RefusedFor L place told why
  refuses-executes offers stores new before after takes NotFlying past =
      cause-flying L place told (omega (arith, ap length old.ring.in_lists.flying, length-map (ring_in d).flying item_of, past.0))
  refuses-executes offers stores new before after takes Waiting waits =
      bound-waits (slice_get (ring_in d).flying place) refl waits.0
  refuses-executes offers stores new before after takes BadOutcome bad =
      let a = allows-at bad.0.flight bad.0.there in
      cause-outcome L place told a.item a.there (a.waiting ∙ bad.0.free) (a.allows ∙ bad.0.forbids)
  refuses-executes offers stores new before after takes OutOfMemory short =
      let a = allows-at short.0.flight short.0.there in
      unrefused-exec L place told a.item a.there (a.waiting ∙ short.0.free) (a.allows ∙ short.0.allows)
