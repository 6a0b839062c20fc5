-- A call in flight at a place, of a ring and slots that mean a ledger, and what executing it gives.
use Rattle.std.proofs.Common.{◌≡◌, ℕ, true, List, Some, sym, ◌∙◌, ap, subst}
use Rattle.std.specs.Prelude.{slice_get, is_some}
use Rattle.std.specs.Ordering.{nat_cmp}
use Rattle.std.specs.FinMap.{FinMap, get}
use Rattle.rent_buf.specs.Buffer.{Buffer}
use Rattle.ring_core.specs.Ring.{RingView}
use Rattle.ring_core.specs.MemRing.{body_effect, is_allowed_body}
use Rattle.machine.specs.Outcome.{is_allowed}
use Rattle.machine.specs.Effect.{effect}
use Rattle.machine.specs.Request.{call_of, sent_of, shown_by, plain_request, IsHolding}
use Rattle.ring_core.specs.declared.entry.Flight.{Flight}
use Rattle.machine.specs.declared.request.Told.{Told}
use Rattle.machine.specs.Ledger.{Ledger, Operation, InFlight, Item}
use Rattle.machine.specs.Payloads.{comes}
use Rattle.ring_core.specs.Bodies.{body_comes}
use Rattle.machine.proofs.Requests.{holding-same, effect-shown}
use Rattle.driver_core.specs.declared.slot.Slot.{Slot}
use Rattle.driver_core.specs.Slots.{SlotFor, is_early, life_of}
use Rattle.uring_driver.specs.Lists.{EntryFor, IsFlown, is_call, item_of}
use Rattle.uring_driver.proofs.Means.{Means}
use Rattle.driver_core.proofs.Lists.{some, get-map}
use Rattle.uring_driver.proofs.Kept.{call-flown}

-- What is in flight is the ledger's item.
pub flying-at : {B : Type 0} (buffer : B → Buffer) (v : RingView) (slots : FinMap nat_cmp (Slot B)) (L : Ledger) (place : ℕ)
    (flight : Flight) (item : Item) → Means buffer v slots L → slice_get v.flying place ≡ Some flight → item_of flight ≡ item →
    slice_get L.flying place ≡ Some item
flying-at buffer v slots L place flight item old there is = ap (λ x. slice_get x place) old.in_lists.flying
    ∙ get-map item_of v.flying place flight there ∙ ap (λ x. Some x) is

-- A call in flight at a place, in a ring and slots that mean a ledger.
module _ {B : Type 0} (buffer : B → Buffer) (v : RingView) (slots : FinMap nat_cmp (Slot B)) (L : Ledger) (place : ℕ) (flight : Flight)
    (old : Means buffer v slots L) (there : slice_get v.flying place ≡ Some flight) (calls : is_call flight.entry.body ≡ true) where
  pub here : EntryFor buffer slots flight.entry × IsFlown L.ops flight
  here = call-flown buffer slots L.ops flight flight.entry.body (old.in_lists.in_flight place flight there) calls

  pub s : Slot B
  unfolding here
  s = here.0.slot

  pub slot-there : get slots flight.entry.word ≡ Some s
  unfolding s here
  slot-there = here.0.there

  pub n-is : s.serial ≡ flight.entry.serial
  unfolding s here
  n-is = here.0.serial

  abbrev pub mine : SlotFor buffer L.ops s
  mine = old.in_slots.holds flight.entry.word s slot-there

  abbrev pub o : Operation
  o = mine.operation

  pub which : slice_get L.ops flight.entry.serial ≡ Some o
  which = ap (slice_get L.ops) (sym n-is) ∙ mine.there

  pub flies : o.place ≡ InFlight
  unfolding here
  flies = ap (λ x. x.place) (some o here.1.operation (slice_get L.ops flight.entry.serial) which here.1.there) ∙ here.1.stays

  -- Its slot's request is the one that was submitted, with its buffer.
  pub request-is : plain_request buffer s.request ≡ o.request
  request-is = holding-same mine.operation.request (plain_request buffer s.request)
      (subst (λ h. IsHolding mine.operation.request h (plain_request buffer s.request)) (mine.fresh (ap is_early flies)) mine.request)

  pub life-is : s.life ≡ life_of o.dropped InFlight o.task
  life-is = mine.life ∙ ap (λ p. life_of mine.operation.dropped p mine.operation.task) flies

  -- It is marked where its operation's cancel was taken.
  pub marked-is : flight.marked ≡ o.canceled
  unfolding here
  marked-is = here.1.marked ∙ ap (λ x. x.canceled) (some here.1.operation o (slice_get L.ops flight.entry.serial) here.1.there which)

  -- It is bound where its operation waits.
  pub bound-of : flight.bound ≡ is_some o.waits_for
  unfolding here
  bound-of = here.1.bound
      ∙ ap (λ x. is_some x.waits_for) (some here.1.operation o (slice_get L.ops flight.entry.serial) here.1.there which)

  pub allows-is : (told : Told) →
      is_allowed_body v.world flight.marked flight.entry.body told ≡ is_allowed L.world o.canceled (call_of o.request) told
  unfolding s here
  allows-is told = ap (λ b. is_allowed_body v.world flight.marked b told) here.0.call
      ∙ ap (λ r. is_allowed v.world flight.marked (call_of r) told) request-is
      ∙ ap (λ w. is_allowed w flight.marked (call_of o.request) told) old.world
      ∙ ap (λ m. is_allowed L.world m (call_of o.request) told) marked-is

  -- What executing it leaves, whatever there is to send.
  effect-of : (told : Told) (sent : List ℕ) → body_effect v.world flight.entry.body sent told ≡ effect L.world (call_of o.request) sent told
  unfolding s here
  effect-of told sent = ap (λ b. body_effect v.world b sent told) here.0.call ∙ ap (λ r. effect v.world (call_of r) sent told) request-is
      ∙ ap (λ w. effect w (call_of o.request) sent told) old.world

  -- Bytes come to it as they come to its operation's call.
  pub comes-is : (told : Told) → comes (call_of o.request) told ≡ body_comes flight.entry.body told
  unfolding s here
  comes-is told = sym (ap (λ b. body_comes b told) here.0.call ∙ ap (λ r. comes (call_of r) told) request-is)

  -- Executing it with the bytes that its slot shows leaves what the machine does.
  pub effect-sends : (told : Told) → is_allowed_body v.world flight.marked flight.entry.body told ≡ true →
      body_effect v.world flight.entry.body (shown_by (plain_request buffer s.request)) told ≡ effect L.world (call_of o.request)
      (sent_of o.request) told
  effect-sends told allows =
      ap (λ r. body_effect v.world flight.entry.body (shown_by r) told) request-is ∙ effect-of told (shown_by o.request)
      ∙ effect-shown L.world o.canceled o.request told (sym (allows-is told) ∙ allows)
