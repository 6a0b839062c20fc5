-- What an execution does to a ring and slots that mean a ledger, before it releases what waits.
use Rattle.std.proofs.Common.{◌≡◌, ◌≢◌, ℕ, ◌≤◌, Bool, true, false, Option, List, ◌++◌, Some, refl, sym, ◌∙◌}
use Rattle.std.proofs.Common.{ap, subst, length}
use Rattle.std.specs.Prelude.{slice_get}
use Rattle.std.specs.Ordering.{nat_cmp}
use Rattle.std.specs.FinMap.{FinMap, get, insert}
use Rattle.rent_buf.specs.Buffer.{Buffer}
use Rattle.rent_buf.specs.Parts.{Parts}
use Rattle.ring_core.specs.Ring.{RingView}
use Rattle.machine.specs.Lists.{amended}
use Rattle.ring_core.specs.MemRing.{IsFinished, body_effect, completion_of}
use Rattle.machine.specs.Outcome.{is_allowed}
use Rattle.machine.specs.Effect.{Effect, effect, made_by}
use Rattle.machine.specs.Payloads.{comes, StoresIf}
use Rattle.ring_core.specs.Bodies.{body_comes}
use Rattle.machine.specs.Request.{call_of, sent_of, plain_request, room_of, held, held_of, held_after, IsHolding}
use Rattle.machine.specs.declared.completion.Completion.{Completion}
use Rattle.machine.specs.declared.request.Request.{Request}
use Rattle.machine.specs.declared.request.Told.{Told}
use Rattle.machine.specs.declared.request.Outcome.{Outcome}
use Rattle.machine.specs.Ledger.{Ledger, Operation, InFlight, InDone, Op, is_live, is_kept}
use Rattle.machine.specs.Turn.{with_result, with_effect, made_owners, complete_at}
use Rattle.machine.proofs.Amended.{get-amended-same}
use Rattle.machine.proofs.Requests.{holding-own, held-comes, held-stays, got-fits}
use Rattle.driver_core.specs.declared.slot.Slot.{Slot}
use Rattle.driver_core.specs.Ops.{Ops}
use Rattle.driver_core.specs.Slot.{KeepsNumbers}
use Rattle.driver_core.specs.Slots.{SlotFor, SlotsStand, life_of}
use Rattle.driver_core.specs.Operations.{StoresAt}
use Rattle.uring_driver.specs.Lists.{CompletionFor, is_call}
use Rattle.uring_driver.proofs.Means.{Means}
use Rattle.driver_core.proofs.Maps.{put-same, put-self}
use Rattle.driver_core.proofs.Slots.{slots-replaced, other-slot}
use Rattle.driver_core.proofs.Filling.{filled-where-fits}
use Rattle.uring_driver.proofs.Finishing.{ended, lists-owners, means-ended}
use Rattle.uring_driver.proofs.Flights.{o, s, slot-there, n-is, mine, flies, request-is, life-is, allows-is, comes-is}

-- An operation that was executed keeps its stage of life.
pub done-life : (b : Bool) (r : Outcome) (t : Option ℕ) → life_of b InFlight t ≡ life_of b (InDone r) t
done-life true r t = refl
done-life false r t = refl

-- A slot after its operation was executed: its request holds what the outcome leaves, and nothing else of it changed.
record IsExecutedSlot {B : Type 0} (buffer : B → Buffer) (before after : FinMap nat_cmp (Slot B)) (key : ℕ) (r : Request Buffer Parts)
    (told : Told) (got : List ℕ) (old : Slot B) : Type 0 where
  now : Slot B
  changed : after ≡ insert before key now
  serial : now.serial ≡ old.serial
  life : now.life ≡ old.life
  request : IsHolding r (held r told got) (plain_request buffer now.request)

-- What an execution stores, where bytes come, is what its outcome leaves.
executed-slot : {B : Type 0} (buffer : B → Buffer) (before after : Ops B) (key : ℕ) (r : Request Buffer Parts) (told : Told) (got : List ℕ)
    (slot : Slot B) →
    get before.slots.values key ≡ Some slot → plain_request buffer slot.request ≡ r → length got ≤ room_of r →
    (b : Bool) → comes (call_of r) told ≡ b → StoresIf (StoresAt buffer) b before key got after →
    IsExecutedSlot buffer before.slots.values after.slots.values key r told got slot
executed-slot buffer before after key r told got slot there is fits true brings stored =
    let filled = filled-where-fits buffer before.slots.values after.slots.values key got slot stored.fills there
    (subst (λ x. length got ≤ room_of x) (sym is) fits) in
    record {
      now = filled.after;
      changed = filled.slots;
      serial = filled.serial;
      life = filled.life;
      request = subst (λ h. IsHolding r h (plain_request buffer filled.after.request)) (sym (held-comes r told got brings))
          (subst (λ x. IsHolding x (held_after x got) (plain_request buffer filled.after.request)) is filled.request);
    }
executed-slot buffer before after key r told got slot there is fits false brings same = record {
  now = slot;
  changed = ap (λ x. x.slots.values) same ∙ sym (put-self before.slots.values key slot there);
  serial = refl;
  life = refl;
  request = subst (λ h. IsHolding r h (plain_request buffer slot.request)) (sym (held-stays r told got brings))
      (subst (λ x. IsHolding r (held_of r) x) (sym is) (holding-own r));
}

-- An execution changes no number, and gives none.
pub executed-numbers : {B : Type 0} (buffer : B → Buffer) (before after : Ops B) (key : ℕ) (got : List ℕ) (b : Bool) →
    StoresIf (StoresAt buffer) b before key got after →
    KeepsNumbers before.slots.values after.slots.values × (after.given ≡ before.given)
executed-numbers buffer before after key got true stored = (stored.numbers, stored.given)
executed-numbers buffer before after key got false same =
    (subst (λ x. KeepsNumbers before.slots.values x.slots.values) (sym same) (λ k. refl), ap (λ x. x.given) same)

module _ {B : Type 0} (buffer : B → Buffer) (v : RingView) (before after : Ops B) (L : Ledger) (place : ℕ) (told : Told) (sent : List ℕ)
    (v' : RingView) (got : List ℕ) (c : Completion)
    (old : Means buffer v before.slots.values L) (fin : IsFinished v place told sent v' got c)
    (calls : is_call fin.flight.entry.body ≡ true)
    (stores : StoresIf (StoresAt buffer) (body_comes fin.flight.entry.body told) before c.word got after)
    (eff : body_effect v.world fin.flight.entry.body sent told ≡ effect L.world
    (call_of (o buffer v before.slots.values L place fin.flight old fin.there calls).request)
    (sent_of (o buffer v before.slots.values L place fin.flight old fin.there calls).request) told) where
  abbrev slots : FinMap nat_cmp (Slot B)
  slots = before.slots.values

  abbrev slots' : FinMap nat_cmp (Slot B)
  slots' = after.slots.values

  abbrev n : ℕ
  n = fin.flight.entry.serial

  abbrev op : Operation
  op = o buffer v slots L place fin.flight old fin.there calls

  abbrev slot : Slot B
  slot = s buffer v slots L place fin.flight old fin.there calls

  abbrev result : Effect
  result = effect L.world (call_of op.request) (sent_of op.request) told

  abbrev f : Operation → Operation
  f = with_result told result

  abbrev ops' : List Operation
  ops' = amended L.ops n f

  abbrev L' : Ledger
  L' = with_effect (complete_at L place (Op n)) n told result

  word : c.word ≡ fin.flight.entry.word
  word = ap (λ x. x.word) fin.answer

  got-is : got ≡ result.got
  got-is = fin.bytes ∙ ap (λ x. x.got) eff

  stored-is : IsExecutedSlot buffer slots slots' c.word op.request told got slot
  stored-is =
      let allows : is_allowed L.world op.canceled (call_of op.request) told ≡ true =
      sym (allows-is buffer v slots L place fin.flight old fin.there calls told) ∙ fin.allows in
      let fit : length got ≤ room_of op.request = subst (λ x. length x ≤ room_of op.request) (sym got-is)
      (got-fits L.world op.canceled op.request told (sent_of op.request) allows) in
      executed-slot buffer before after c.word op.request told got slot (ap (get slots) word
      ∙ slot-there buffer v slots L place fin.flight old fin.there calls)
      (request-is buffer v slots L place fin.flight old fin.there calls) fit
      (body_comes fin.flight.entry.body told) (comes-is buffer v slots L place fin.flight old fin.there calls told) stores

  abbrev t : Slot B
  t = stored-is.now

  lives : is_live (f op) ≡ is_live op
  lives = sym (ap is_kept (flies buffer v slots L place fin.flight old fin.there calls))

  fits-t : SlotFor buffer (amended L.ops slot.serial f) t
  unfolding stored-is
  fits-t = record {
    operation = f op;
    there = ap (slice_get (amended L.ops slot.serial f)) stored-is.serial
        ∙ get-amended-same f L.ops slot.serial op (mine buffer v slots L place fin.flight old fin.there calls).there;
    live = refl;
    request = subst (λ x. IsHolding op.request (held op.request told x) (plain_request buffer t.request)) got-is stored-is.request;
    life = stored-is.life ∙ life-is buffer v slots L place fin.flight old fin.there calls ∙ done-life op.dropped result.outcome op.task;
    fresh = λ h. (let z : false ≡ true = h in cc);
    uncanceled = λ h. cc;
  }

  slots-stand : SlotsStand buffer slots' ops'
  unfolding stored-is
  slots-stand =
      let a = slots-replaced buffer slots L.ops fin.flight.entry.word slot t f op old.in_slots
      (slot-there buffer v slots L place fin.flight old fin.there calls) stored-is.serial
      (mine buffer v slots L place fin.flight old fin.there calls).there lives fits-t in
      subst (λ x. SlotsStand buffer x ops') (sym (stored-is.changed ∙ ap (λ k. insert slots k t) word))
      (subst (λ x. SlotsStand buffer (insert slots fin.flight.entry.word t) (amended L.ops x f))
      (n-is buffer v slots L place fin.flight old fin.there calls) a)

  -- The slots of other numbers are kept.
  slot-kept : (k : ℕ) (u : Slot B) → get slots k ≡ Some u → u.serial ≢ n → get slots' k ≡ Some u
  unfolding stored-is
  slot-kept k u h q =
      let a = other-slot buffer slots L.ops fin.flight.entry.word slot t f op old.in_slots
      (slot-there buffer v slots L place fin.flight old fin.there calls) stored-is.serial
      (mine buffer v slots L place fin.flight old fin.there calls).there lives fits-t k u h
      (λ r. q (r ∙ n-is buffer v slots L place fin.flight old fin.there calls)) in
      ap (λ m. get m k) (stored-is.changed ∙ ap (λ x. insert slots x t) word) ∙ a

  new-completion : CompletionFor slots' (completion_of fin.flight.entry result.outcome)
  unfolding stored-is
  new-completion = record {
    slot = t;
    there = ap (λ m. get m fin.flight.entry.word) (stored-is.changed ∙ ap (λ k. insert slots k t) word)
        ∙ put-same slots fin.flight.entry.word t;
    serial = stored-is.serial ∙ n-is buffer v slots L place fin.flight old fin.there calls;
  }

  completion : completion_of fin.flight.entry result.outcome ≡ c
  completion = sym (fin.answer ∙ ap (λ x. completion_of fin.flight.entry x.outcome) eff)

  done-with : Means buffer (ended v place (completion_of fin.flight.entry result.outcome) result.world) slots'
      (record (complete_at L place (Op n)) { ops = ops'; world = result.world })
  done-with = means-ended buffer v slots slots' L place fin.flight old fin.there calls f result.outcome refl slots-stand new-completion
      slot-kept result.world

  -- The operation is done, and what waits for it waits still.
  pub means-executed : Means buffer (ended v place c (effect L.world
      (call_of (o buffer v before.slots.values L place fin.flight old fin.there calls).request)
      (sent_of (o buffer v before.slots.values L place fin.flight old fin.there calls).request) told).world) after.slots.values
      (with_effect (complete_at L place (Op fin.flight.entry.serial)) fin.flight.entry.serial told
      (effect L.world (call_of (o buffer v before.slots.values L place fin.flight old fin.there calls).request)
      (sent_of (o buffer v before.slots.values L place fin.flight old fin.there calls).request) told))
  means-executed =
      let m = done-with in
      let w = result.world in
      subst (λ x. Means buffer (ended v place x w) slots' L') completion (record {
        capacity = m.capacity;
        world = refl;
        in_slots = m.in_slots;
        in_lists = lists-owners buffer slots' (ended v place (completion_of fin.flight.entry result.outcome) w)
            (record (complete_at L place (Op n)) { ops = ops'; world = w }) (L.owners ++ made_owners (made_by result.outcome)) m.in_lists;
      })
