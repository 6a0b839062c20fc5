-- What an execution answers, of a driver that stands for a ledger.
use Rattle.std.proofs.Common.{◌≡◌, ◌≤◌, ℕ, true, false, List, [], ◌∷◌, ◌++◌, Some, refl, sym, ◌∙◌, ap, subst, arith, length}
use Rattle.std.specs.Prelude.{slice_get, is_some, ◌&&◌, not, Ok}
use Rattle.std.specs.FinMap.{get}
use Rattle.rent_buf.specs.Buffer.{Buffer}
use Rattle.ring_core.specs.Ring.{RingView}
use Rattle.ring_core.specs.MemRing.{IsFinished, IsExecuted, body_effect, completion_of, finished}
use Rattle.ring_core.specs.Bodies.{body_comes}
use Rattle.ring_core.specs.Entry.{target}
use Rattle.machine.specs.Request.{call_of, sent_of, shown_by, plain_request}
use Rattle.machine.specs.Effect.{effect}
use Rattle.ring_core.specs.declared.entry.Body.{Body}
use Rattle.ring_core.specs.declared.entry.Body.TheVariants.{Call as Calls, Cancel as Cancels, Close as Closes}
use Rattle.ring_core.specs.declared.entry.Entry.{Entry}
use Rattle.machine.specs.declared.world.TheConstants.{MOST_HANDLES}
use Rattle.machine.specs.declared.completion.Completion.{Completion}
use Rattle.machine.specs.declared.request.Told.{Told}
use Rattle.machine.specs.declared.ledger.Event.TheVariants.{Exec}
use Rattle.machine.specs.declared.ledger.Reply.TheVariants.{ExecutedOp, ExecutedClose}
use Rattle.machine.specs.declared.ledger.Reply.{Reply}
use Rattle.machine.specs.Lists.{numbers_where, passes}
use Rattle.machine.specs.Ledger.{Ledger, Operation, Item, Op, is_kept, is_owned}
use Rattle.machine.specs.Refusal.{allowed, waits}
use Rattle.machine.specs.Step.{step}
use Rattle.ring_core.proofs.Targets.{target-slot}
use Rattle.machine.specs.Turn.{effect_of, with_result, with_effect, exec_op, complete_at, released}
use Rattle.machine.proofs.Taking.{Listed}
use Rattle.machine.proofs.Lawful.{lawful-executed}
use Rattle.machine.proofs.Releasing.{released-beside, released-count}
use Rattle.machine.proofs.Parting.{Parted, parted-executed}
use Rattle.machine.specs.Run.{ledger}
use Rattle.machine.proofs.Amended.{length-amended}
use Rattle.driver_core.specs.Groups.{GroupsStand}
use Rattle.driver_core.specs.Slots.{is_early}
use Rattle.driver_core.specs.Slot.{shown_in, number_at, KeepsNumbers}
use Rattle.driver_core.proofs.Grouping.{groups-kept}
use Rattle.machine.proofs.Grouped.{groups-step}
use Rattle.driver_core.specs.Operations.{offered, StoresAt}
use Rattle.uring_driver.specs.declared.uring.IoUringDriver.{IoUringDriver}
use Rattle.uring_driver.specs.Uring.{ring_in, due_in, room_in, whole_ring}
use Rattle.uring_driver.specs.Op.{ops_in}
use Rattle.uring_driver.specs.Submissions.{with_due}
use Rattle.uring_driver.specs.Lists.{FlightFor, is_call, item_in}
use Rattle.uring_driver.specs.Holding.{places, HandlesStand}
use Rattle.uring_driver.specs.Executed.{ExecutesFor, executed_as}
use Rattle.uring_driver.specs.Stands.{Stands, Answers}
use Rattle.driver_core.proofs.Lists.{some}
use Rattle.uring_driver.proofs.Means.{Means, means-of, ring-of}
use Rattle.uring_driver.proofs.Kept.{call-item}
use Rattle.uring_driver.proofs.Steps.{reached-more, step-exec, allowed-op}
use Rattle.driver_core.proofs.Counts.{where-same}
use Rattle.uring_driver.proofs.Flights.{o, s, slot-there, which, flies, bound-of, allows-is, effect-sends, flying-at}
use Rattle.uring_driver.proofs.Answering.{lawful-of, follows-of}
use Rattle.uring_driver.proofs.Finishing.{ended}
use Rattle.uring_driver.proofs.Releasing.{let_behind, IsOutcome, effect-ends, means-released, finished-parts, leaves-released}
use Rattle.uring_driver.proofs.Executing.{means-executed, executed-numbers}
use Rattle.uring_driver.proofs.ExecutingCloses.{means-close-executed, close-named, close-allows, close-stores}
use Rattle.uring_driver.proofs.Holders.{handles-same, handles-executed, handles-closed}

-- What an execution does to a ring it does to it with more behind its queue.
finished-behind : (v w : RingView) (place : ℕ) (told : Told) (sent got : List ℕ) (c : Completion) (due : List Entry) →
    IsFinished v place told sent w got c → IsFinished (with_due v due) place told sent (with_due w due) got c
finished-behind v w place told sent got c due fin = record {
  flight = fin.flight;
  there = fin.there;
  free = fin.free;
  allows = fin.allows;
  answer = fin.answer;
  ring = ap (λ x. with_due x due) fin.ring;
  bytes = fin.bytes;
}

module _ {B : Type 0} (buffer : B → Buffer) (d : IoUringDriver RingView B) (L : Ledger) (place : ℕ) (told : Told)
    (old : Stands (λ r. r) buffer d L) where
  -- A driver that executed what is in flight at the place stands for the next ledger, which the machine's step comes to.
  stands-next : (new : IoUringDriver RingView B) (c : Completion) (sent got : List ℕ) (M : Ledger) (reply : Reply) →
      IsFinished (ring_in d) place told sent (ring_in new) got c → step L (Exec place told) ≡ (M, reply) →
      Means buffer (with_due (ring_in new) (due_in d)) new.slots.values M → HandlesStand d.holding M →
      length M.ops ≡ length L.ops → length (numbers_where is_owned 0 M.ops) ≡ length (numbers_where is_owned 0 L.ops) →
      new.given ≡ d.given → due_in new ≡ due_in d → room_in new ≡ room_in d → new.holding ≡ d.holding → new.members ≡ d.members →
      KeepsNumbers d.slots.values new.slots.values → length (ring_in new).world ≤ MOST_HANDLES →
      Answers (λ r. r) buffer L (Exec place told) reply new
  stands-next new c sent got M reply fin e next handles long owned given due room holding members numbers few =
      let means = subst (λ K. Means buffer (whole_ring (λ r. r) new) new.slots.values K) (sym (ap (λ x. x.0) e))
      (subst (λ xs. Means buffer (with_due (ring_in new) xs) new.slots.values M) (sym due) next) in
      record {
        reply_is = ap (λ x. x.1) e;
        stands = record {
          events = old.events ++ Exec place told ∷ [];
          reached = reached-more L (ring_in new).capacity old.events (Exec place told) (old.reached
              ∙ ap (λ x. ledger x old.events) (sym (ap (λ x. x.capacity) fin.ring)));
          operations = record {
            numbered = given ∙ old.operations.numbered ∙ sym long ∙ ap (λ x. length x.0.ops) (sym e);
            in_slots = means.in_slots;
          };
          handles = subst (λ K. HandlesStand new.holding K) (sym (ap (λ x. x.0) e))
              (subst (λ h. HandlesStand h M) (sym holding) handles);
          groups = subst (λ m. GroupsStand m (step L (Exec place told)).0) (sym members)
              (groups-kept buffer d.slots.values new.slots.values L (step L (Exec place told)).0 d.members old.operations.in_slots
              means.in_slots numbers (groups-step L (Exec place told) refl) old.groups);
          room = (
              let b = ap (λ x. length (numbers_where is_owned 0 x.0.ops)) e in
              let h = ap places holding in
              let r = old.room in
              omega (arith, owned, b, h, r, room));
          fits = (let a = ap (λ x. length (x.queue ++ due_in new)) fin.ring in
              let b = ap (λ xs. length ((ring_in d).queue ++ xs)) due in let k = ap (λ x. x.capacity) fin.ring in let f = old.fits in
              omega (arith, a, b, k, f));
          few = (let a = ap length means.world in omega (arith, a, few));
          ring = ring-of means;
        };
      }

  -- The step of an operation that is executed.
  step-op : (n : ℕ) (op : Operation) (m : ℕ) → slice_get L.flying place ≡ Some (Op n) → slice_get L.ops n ≡ Some op →
      waits L (Op n) ≡ false → allowed L (Op n) told ≡ true → n ≡ m →
      step L (Exec place told)
      ≡ (released told (with_effect (complete_at L place (Op n)) n told (effect_of L op.request told)) n, ExecutedOp m)
  step-op n op m there which free allows same = step-exec L place told (Op n) there free allows
      ∙ ap (λ x. (released told (exec_op (complete_at L place (Op n)) n told x) n, ExecutedOp n)) which
      ∙ ap (λ x. (released told (with_effect (complete_at L place (Op n)) n told (effect_of L op.request told)) n, ExecutedOp x)) same

  -- A call was executed.
  executes-call : (new : IoUringDriver RingView B) (c : Completion)
      (executed : IsExecuted (offered buffer) (StoresAt buffer) (ring_in d) place told (ring_in new) (ops_in d) (ops_in new) c) →
      is_call executed.finishes.flight.entry.body ≡ true → due_in new ≡ due_in d → room_in new ≡ room_in d → new.holding ≡ d.holding →
      new.members ≡ d.members → length (ring_in new).world ≤ MOST_HANDLES →
      ExecutesFor buffer L place told new (Ok (executed_as c (target c.word)))
  unfolding finished-behind
  executes-call new c executed calls due room holding members few =
      let sent = offered buffer (ops_in d) c.word in
      let got = executed.got in
      let finishes = executed.finishes in
      let v = whole_ring (λ r. r) d in
      let before = means-of old in
      let w = with_due (ring_in new) d.ring.due in
      let fin = finished-behind (ring_in d) (ring_in new) place told sent got c d.ring.due finishes in
      let slots = d.slots.values in
      let stays = executed-numbers buffer (ops_in d) (ops_in new) c.word got (body_comes finishes.flight.entry.body told)
      executed.stored in
      let slot = s buffer v slots L place fin.flight before fin.there calls in
      let here = slot-there buffer v slots L place fin.flight before fin.there calls in
      let word : c.word ≡ fin.flight.entry.word = ap (λ x. x.word) fin.answer in
      let shown : sent ≡ shown_by (plain_request buffer slot.request) = ap (λ x. shown_in buffer (get slots x)) word
      ∙ ap (shown_in buffer) here in
      let eff = ap (λ x. body_effect v.world fin.flight.entry.body x told) shown
      ∙ effect-sends buffer v slots L place fin.flight before fin.there calls told fin.allows in
      let n = fin.flight.entry.serial in
      let op = o buffer v slots L place fin.flight before fin.there calls in
      let wh = which buffer v slots L place fin.flight before fin.there calls in
      let at = flies buffer v slots L place fin.flight before fin.there calls in
      let there = flying-at buffer v slots L place fin.flight (Op n) before fin.there
      (call-item fin.flight.entry fin.flight.entry.body calls) in
      let result = effect L.world (call_of op.request) (sent_of op.request) told in
      let N = with_effect (complete_at L place (Op n)) n told result in
      let M = released told N n in
      let serial : n ≡ c.serial = sym (ap (λ x. x.serial) fin.answer) in
      let allows : allowed L (Op n) told ≡ true = allowed-op L n told op wh
      ∙ sym (allows-is buffer v slots L place fin.flight before fin.there calls told) ∙ fin.allows in
      let free : waits L (Op n) ≡ false = ap (passes (λ operation. is_some operation.waits_for)) wh
      ∙ sym (bound-of buffer v slots L place fin.flight before fin.there calls) ∙ fin.free in
      let e : step L (Exec place told) ≡ (M, ExecutedOp c.serial) = step-op n op c.serial there wh free allows serial in
      let is : exec_op (complete_at L place (Op n)) n told (slice_get L.ops n) ≡ N = ap (exec_op (complete_at L place (Op n)) n told) wh in
      let lawful = lawful-of old in
      let listed : Listed N = subst Listed is (lawful-executed L place told n there lawful).lists in
      let parted : Parted N n place = subst (λ K. Parted K n place) is
      (parted-executed L place told n there free lawful.lists (follows-of old)) in
      let leaves = leaves-released told N n listed in
      let beside = released-beside told N n in
      let ends : IsOutcome told result.outcome = effect-ends L.world (call_of op.request) (sent_of op.request) told in
      let once = means-executed buffer v (ops_in d) (ops_in new) L place told sent w got c before fin calls executed.stored eff in
      let view : w ≡ let_behind result.outcome place (ended v place c result.world) =
      fin.ring ∙ ap (finished v place fin.flight.entry) eff ∙ finished-parts v place fin.flight.entry result
      ∙ ap (λ x. let_behind result.outcome place (ended v place x result.world))
      (sym (fin.answer ∙ ap (λ x. completion_of fin.flight.entry x.outcome) eff)) in
      let after : Means buffer w (ops_in new).slots.values M = subst (λ x. Means buffer x (ops_in new).slots.values M) (sym view)
      (means-released buffer (ended v place c result.world) (ops_in new).slots.values N n place told result.outcome ends once listed
      parted) in
      let early : (p : Operation) → slice_get L.ops n ≡ Some p → is_early p.place ≡ true = λ p h.
      ap (λ x. is_early x.place) (some p op (slice_get L.ops n) h wh) ∙ ap is_early at in
      let below = before.in_slots.below fin.flight.entry.word slot here in
      subst (λ x. ExecutesFor buffer L place told new (Ok x))
      (sym (ap (executed_as c) (target-slot c.word (omega (arith, word, below)))))
      (stands-next new c sent got M (ExecutedOp c.serial) finishes e
      after
      (handles-same d.holding N (handles-executed d.holding L old.handles place n told result there early) M leaves.seen
      (released-count told N n))
      (beside.count ∙ length-amended (with_result told result) L.ops n)
      (leaves.owned ∙ where-same is_owned (with_result told result) L.ops n op wh (sym (ap (λ p. is_kept p && not op.dropped) at)))
      stays.1 due room holding members stays.0 few)

  -- A close was executed.
  executes-close : (new : IoUringDriver RingView B) (c : Completion)
      (executed : IsExecuted (offered buffer) (StoresAt buffer) (ring_in d) place told (ring_in new) (ops_in d) (ops_in new) c) (k : ℕ) →
      executed.finishes.flight.entry.body ≡ Closes k → due_in new ≡ due_in d → room_in new ≡ room_in d → new.holding ≡ d.holding →
      new.members ≡ d.members → length (ring_in new).world ≤ MOST_HANDLES →
      ExecutesFor buffer L place told new (Ok (executed_as c (target c.word)))
  unfolding finished-behind
  executes-close new c executed k closes due room holding members few =
      let sent = offered buffer (ops_in d) c.word in
      let got = executed.got in
      let finishes = executed.finishes in
      let v = whole_ring (λ r. r) d in
      let before = means-of old in
      let w = with_due (ring_in new) d.ring.due in
      let fin = finished-behind (ring_in d) (ring_in new) place told sent got c d.ring.due finishes in
      let slots = d.slots.values in
      let behind = (follows-of old).behind in
      let same = close-stores (StoresAt buffer) finishes.flight told k c.word got (ops_in d) (ops_in new) closes executed.stored in
      let there = flying-at buffer v slots L place fin.flight (Item.Close k) before fin.there (ap (item_in fin.flight.entry) closes) in
      let e = step-exec L place told (Item.Close k) there refl (sym (close-allows v.world fin.flight k told closes) ∙ fin.allows) in
      subst (λ x. ExecutesFor buffer L place told new (Ok x))
      (sym (ap (executed_as c) (close-named buffer v slots L place told sent w got c k before fin closes behind)))
      (stands-next new c sent got (complete_at L place (Item.Close k)) (ExecutedClose k) finishes e
      (subst (λ m. Means buffer w m (complete_at L place (Item.Close k))) (sym (ap (λ x. x.slots.values) same))
      (means-close-executed buffer v slots L place told sent w got c k before fin closes behind))
      (handles-closed d.holding L old.handles place k there) refl refl (ap (λ x. x.given) same) due room holding members
      (λ key. ap (λ x. number_at x.slots.values key) same) few)

  -- What was executed is by its body a call or a close; a cancel is never in flight.
  executes-by : (new : IoUringDriver RingView B) (c : Completion)
      (executed : IsExecuted (offered buffer) (StoresAt buffer) (ring_in d) place told (ring_in new) (ops_in d) (ops_in new) c) →
      (b : Body) → executed.finishes.flight.entry.body ≡ b → FlightFor buffer d.slots.values L.ops executed.finishes.flight b →
      due_in new ≡ due_in d → room_in new ≡ room_in d → new.holding ≡ d.holding → new.members ≡ d.members →
      length (ring_in new).world ≤ MOST_HANDLES → ExecutesFor buffer L place told new (Ok (executed_as c (target c.word)))
  executes-by new c executed (Calls call) is _ = executes-call new c executed (ap is_call is)
  executes-by new c executed (Cancels key) is never = absurd never
  executes-by new c executed (Closes k) is _ = executes-close new c executed k is

  -- A driver that executed stands for the next ledger.
  pub stands-executes : (new : IoUringDriver RingView B) (c : Completion) →
      IsExecuted (offered buffer) (StoresAt buffer) (ring_in d) place told (ring_in new) (ops_in d) (ops_in new) c →
      due_in new ≡ due_in d → room_in new ≡ room_in d → new.holding ≡ d.holding → new.members ≡ d.members →
      (length (ring_in d).world ≤ MOST_HANDLES → length (ring_in new).world ≤ MOST_HANDLES) →
      ExecutesFor buffer L place told new (Ok (executed_as c (target c.word)))
  stands-executes new c executed due room holding members few =
      let flight = executed.finishes.flight in
      executes-by new c executed flight.entry.body refl (old.ring.in_lists.in_flight place flight executed.finishes.there) due room holding
      members (few (let a = ap length old.ring.world in let b = old.few in omega (arith, a, b)))
