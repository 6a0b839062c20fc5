-- Lists that mean the same after a change of slots and of operations that keeps what each entry needs.
use Rattle.std.proofs.Common.{◌≡◌, ◌≤◌, ◌<◌, ℕ, Bool, true, false, List, [], ◌∷◌, ◌++◌, Some, refl, sym, ◌∙◌, ap, subst, append-nil}
use Rattle.std.proofs.Common.{arith, flat_map}
use Rattle.std.proofs.lemmas.List.Concat.{flat_map-append}
use Rattle.std.specs.Prelude.{slice_get, is_some}
use Rattle.std.specs.Ordering.{nat_cmp}
use Rattle.std.specs.FinMap.{FinMap, get}
use Rattle.rent_buf.specs.Buffer.{Buffer}
use Rattle.ring_core.specs.Ring.{RingView}
use Rattle.machine.specs.Request.{call_of, plain_request}
use Rattle.ring_core.specs.declared.entry.Body.{Body}
use Rattle.ring_core.specs.declared.entry.Body.TheVariants.{Call as Calls, Cancel as Cancels, Close as Closes}
use Rattle.ring_core.specs.declared.entry.Entry.{Entry}
use Rattle.machine.specs.declared.completion.Completion.{Completion}
use Rattle.ring_core.specs.declared.entry.Flight.{Flight}
use Rattle.ring_core.specs.declared.entry.Target.{Target}
use Rattle.ring_core.specs.declared.entry.Target.TheVariants.{Slot as Keyed, Handle, Reserved}
use Rattle.ring_core.specs.Entry.{target, close_entry}
use Rattle.machine.specs.Ledger.{Ledger, Op, Operation, Place, InQueue, InFlight, InDone}
use Rattle.driver_core.specs.declared.slot.Slot.{Slot}
use Rattle.uring_driver.specs.Lists.{EntryFor, CompletionFor, IsAt, IsQueued, IsFlown, QueuedFor, FlightFor, DoneFor, ListsStand, is_call}
use Rattle.uring_driver.specs.Lists.{names_slot, item_in, done_items_in, done_items_of}
use Rattle.machine.specs.declared.world.TheConstants.{MOST_HANDLES}
use Rattle.ring_core.specs.declared.entry.TheConstants.{CANCEL_WORD, FIRST_CLOSE}

-- What a call in the queue is.
pub call-queued : {B : Type 0} (buffer : B → Buffer) (slots : FinMap nat_cmp (Slot B)) (ops : List Operation) (e : Entry) (b : Body) →
    QueuedFor buffer slots ops e b → is_call b ≡ true → EntryFor buffer slots e × IsQueued ops e
call-queued buffer slots ops e (Calls call) q h = q
call-queued buffer slots ops e (Cancels key) q h = (let f : ⊥ = cc in absurd f)
call-queued buffer slots ops e (Closes k) q h = (let f : ⊥ = cc in absurd f)

-- What a cancel in the queue is: its word is reserved, and its key is no close's word.
pub cancel-queued : {B : Type 0} (buffer : B → Buffer) (slots : FinMap nat_cmp (Slot B)) (ops : List Operation) (e : Entry) (b : Body) →
    QueuedFor buffer slots ops e b → (key : ℕ) → b ≡ Cancels key → (e.word ≡ CANCEL_WORD) × (key < FIRST_CLOSE)
    × (e.linked ≡ false)
cancel-queued buffer slots ops e b q key h = subst (λ x. QueuedFor buffer slots ops e x) h q

-- What a close in the queue is.
pub close-queued : {B : Type 0} (buffer : B → Buffer) (slots : FinMap nat_cmp (Slot B)) (ops : List Operation) (e : Entry) (b : Body) →
    QueuedFor buffer slots ops e b → (h : ℕ) → b ≡ Closes h → (e ≡ close_entry h) × (h < MOST_HANDLES)
close-queued buffer slots ops e b q h is = subst (λ x. QueuedFor buffer slots ops e x) is q

-- What an entry in the queue means is kept by all that keeps it of a call.
pub queued-kept : {B : Type 0} (buffer : B → Buffer) (slots slots' : FinMap nat_cmp (Slot B)) (ops ops' : List Operation) (e : Entry)
    (b : Body) → (is_call b ≡ true → EntryFor buffer slots e × IsQueued ops e → EntryFor buffer slots' e × IsQueued ops' e) →
    QueuedFor buffer slots ops e b → QueuedFor buffer slots' ops' e b
queued-kept buffer slots slots' ops ops' e (Calls call) go q = go refl q
queued-kept buffer slots slots' ops ops' e (Cancels key) go q = q
queued-kept buffer slots slots' ops ops' e (Closes h) go q = q

-- Where what is queued is.
pub queued-at : (ops : List Operation) (e : Entry) → IsQueued ops e → IsAt ops e.serial InQueue
queued-at ops e a = record { operation = a.operation; there = a.there; stays = a.stays }

-- Where what is in flight is.
pub flown-at : (ops : List Operation) (f : Flight) → IsFlown ops f → IsAt ops f.entry.serial InFlight
flown-at ops f a = record { operation = a.operation; there = a.there; stays = a.stays }

-- What a call in flight is.
pub call-flown : {B : Type 0} (buffer : B → Buffer) (slots : FinMap nat_cmp (Slot B)) (ops : List Operation) (f : Flight) (b : Body) →
    FlightFor buffer slots ops f b → is_call b ≡ true → EntryFor buffer slots f.entry × IsFlown ops f
call-flown buffer slots ops f (Calls call) q h = q
call-flown buffer slots ops f (Cancels key) q h = absurd q
call-flown buffer slots ops f (Closes k) q h = (let f : ⊥ = cc in absurd f)

-- What is in flight and isn't a call has the word of a close.
pub close-flown : {B : Type 0} (buffer : B → Buffer) (slots : FinMap nat_cmp (Slot B)) (ops : List Operation) (f : Flight) (b : Body) →
    FlightFor buffer slots ops f b → is_call b ≡ false → FIRST_CLOSE ≤ f.entry.word
close-flown buffer slots ops f (Calls call) q h = (let f : ⊥ = cc in absurd f)
close-flown buffer slots ops f (Cancels key) q h = absurd q
close-flown buffer slots ops f (Closes k) q h = (let w = ap (λ e. e.word) q.0 in omega (arith, w))

-- What an entry in flight means is kept by all that keeps it of a call, also where the mark of a call changes.
pub flight-kept : {B : Type 0} (buffer : B → Buffer) (slots slots' : FinMap nat_cmp (Slot B)) (ops ops' : List Operation) (f : Flight)
    (m : Bool) (b : Body) → (is_call b ≡ false → m ≡ f.marked) → (is_call b ≡ true → EntryFor buffer slots f.entry × IsFlown ops f →
    EntryFor buffer slots' f.entry × IsFlown ops' (record f { marked = m })) →
    FlightFor buffer slots ops f b → FlightFor buffer slots' ops' (record f { marked = m }) b
flight-kept buffer slots slots' ops ops' f m (Calls call) stays go q = go refl q
flight-kept buffer slots slots' ops ops' f m (Cancels key) stays go q = q
flight-kept buffer slots slots' ops ops' f m (Closes h) stays go q = (q.0, q.1, stays refl ∙ q.2, q.3)

-- A call in flight is an operation.
pub call-item : (e : Entry) (b : Body) → is_call b ≡ true → item_in e b ≡ Op e.serial
call-item e (Calls call) h = refl
call-item e (Cancels key) h = (let f : ⊥ = cc in absurd f)
call-item e (Closes k) h = (let f : ⊥ = cc in absurd f)

-- What a completion is whose word names a slot.
pub slot-done : {B : Type 0} (slots : FinMap nat_cmp (Slot B)) (ops : List Operation) (c : Completion) (t : Target) →
    DoneFor slots ops c t → names_slot t ≡ true → CompletionFor slots c × IsAt ops c.serial (InDone c.outcome)
slot-done slots ops c (Keyed key) q h = q
slot-done slots ops c (Handle k) q h = (let f : ⊥ = cc in absurd f)
slot-done slots ops c (Reserved word) q h = (let f : ⊥ = cc in absurd f)

-- What a completion means is kept by all that keeps it where its word names a slot.
pub done-kept : {B : Type 0} (slots slots' : FinMap nat_cmp (Slot B)) (ops ops' : List Operation) (c : Completion) (t : Target) →
    (names_slot t ≡ true → CompletionFor slots c × IsAt ops c.serial (InDone c.outcome) →
    CompletionFor slots' c × IsAt ops' c.serial (InDone c.outcome)) → DoneFor slots ops c t → DoneFor slots' ops' c t
done-kept slots slots' ops ops' c (Keyed key) go q = go refl q
done-kept slots slots' ops ops' c (Handle h) go q = q
done-kept slots slots' ops ops' c (Reserved word) go q = q

-- The last completion means nothing where its word is reserved.
pub done-reserved : (xs : List Completion) (c : Completion) (word : ℕ) → target c.word ≡ Reserved word →
    flat_map done_items_of (xs ++ c ∷ []) ≡ flat_map done_items_of xs
done-reserved xs c word h = flat_map-append done_items_of xs (c ∷ []) ∙ ap (λ t. flat_map done_items_of xs ++ (done_items_in c t ++ [])) h
    ∙ append-nil (flat_map done_items_of xs)

-- An operation is at the place where the other is, its cancel was taken exactly where the other's was, it is linked exactly where the other
-- is, and it waits for the same one.
pub record StaysOp (o p : Operation) : Type 0 where
  pub place : p.place ≡ o.place
  pub canceled : p.canceled ≡ o.canceled
  pub linked : p.linked ≡ o.linked
  pub waits_for : p.waits_for ≡ o.waits_for

-- It and itself.
pub stays-own : (o : Operation) → StaysOp o o
stays-own o = record { place = refl; canceled = refl; linked = refl; waits_for = refl }

-- The operation of a number stays so.
abbrev pub KeepsOp : List Operation → List Operation → ℕ → Type 0
KeepsOp ops ops' n = (o : Operation) → slice_get ops n ≡ Some o → (p : Operation) × (slice_get ops' n ≡ Some p) × StaysOp o p

-- A slot of a number stays at its key, with its number and its request.
abbrev pub KeepsSlot : {B : Type 0} → FinMap nat_cmp (Slot B) → FinMap nat_cmp (Slot B) → ℕ → Type 0
KeepsSlot {B} slots slots' n = (k : ℕ) (t : Slot B) → get slots k ≡ Some t → t.serial ≡ n →
    (u : Slot B) × (get slots' k ≡ Some u) × (u.serial ≡ t.serial) × (u.request ≡ t.request)

module _ {B : Type 0} (buffer : B → Buffer) (slots slots' : FinMap nat_cmp (Slot B)) (ops ops' : List Operation) where
  pub entry-kept : (e : Entry) → KeepsSlot slots slots' e.serial → EntryFor buffer slots e → EntryFor buffer slots' e
  entry-kept e keeps E = (let u = keeps e.word E.slot E.there E.serial in
      record {
        slot = u.0;
        there = u.1;
        serial = u.2 ∙ E.serial;
        call = E.call ∙ ap (λ r. Calls (call_of (plain_request buffer r))) (sym u.3);
      })

  pub at-kept : (n : ℕ) (p : Place) → KeepsOp ops ops' n → IsAt ops n p → IsAt ops' n p
  at-kept n p keeps a = (let o = keeps a.operation a.there in record { operation = o.0; there = o.1; stays = o.2.place ∙ a.stays })

  pub link-kept : (e : Entry) → KeepsOp ops ops' e.serial → IsQueued ops e → IsQueued ops' e
  link-kept e keeps a = (let o = keeps a.operation a.there in
      record { operation = o.0; there = o.1; stays = o.2.place ∙ a.stays; linked = a.linked ∙ sym o.2.linked })

  pub flown-kept : (f : Flight) → KeepsOp ops ops' f.entry.serial → IsFlown ops f → IsFlown ops' f
  flown-kept f keeps a = (let o = keeps a.operation a.there in
      record {
        operation = o.0;
        there = o.1;
        stays = o.2.place ∙ a.stays;
        marked = a.marked ∙ sym o.2.canceled;
        bound = a.bound ∙ ap is_some (sym o.2.waits_for);
      })

  pub completion-kept : (c : Completion) → KeepsSlot slots slots' c.serial → CompletionFor slots c → CompletionFor slots' c
  completion-kept c keeps C = (let u = keeps c.word C.slot C.there C.serial in record { slot = u.0; there = u.1; serial = u.2 ∙ C.serial })

  -- What is queued, in flight or done is kept, so the lists mean what they meant.
  pub lists-kept : (v : RingView) (L : Ledger) → L.ops ≡ ops →
      ((n : ℕ) → IsAt ops n InQueue → KeepsSlot slots slots' n × KeepsOp ops ops' n) →
      ((n : ℕ) → IsAt ops n InFlight → KeepsSlot slots slots' n × KeepsOp ops ops' n) →
      ((i : ℕ) (c : Completion) → slice_get v.done i ≡ Some c → names_slot (target c.word) ≡ true → IsAt ops c.serial (InDone c.outcome) →
      KeepsSlot slots slots' c.serial × KeepsOp ops ops' c.serial) →
      ListsStand buffer slots v L → ListsStand buffer slots' v (record L { ops = ops' })
  lists-kept v L same in_queue in_flight in_done old =
      let at : (n : ℕ) (p : Place) → IsAt L.ops n p → IsAt ops n p = λ n p a. subst (λ x. IsAt x n p) same a in
      record {
        queue = old.queue;
        flying = old.flying;
        done = old.done;
        in_queue = λ i e h. queued-kept buffer slots slots' L.ops ops' e e.body
            (λ q a. (let b = subst (λ x. IsQueued x e) same a.1 in let k = in_queue e.serial (queued-at ops e b) in
            (entry-kept e k.0 a.0, link-kept e k.1 b))) (old.in_queue i e h);
        in_flight = λ i f h. flight-kept buffer slots slots' L.ops ops' f f.marked f.entry.body (λ _. refl)
            (λ q a. (let b = subst (λ x. IsFlown x f) same a.1 in let k = in_flight f.entry.serial (flown-at ops f b) in
            (entry-kept f.entry k.0 a.0, flown-kept f k.1 b))) (old.in_flight i f h);
        in_done = λ i c h. done-kept slots slots' L.ops ops' c (target c.word)
            (λ q a. (let b = at c.serial (InDone c.outcome) a.1 in let k = in_done i c h q b in
            (completion-kept c k.0 a.0, at-kept c.serial (InDone c.outcome) k.1 b))) (old.in_done i c h);
        queue_once = old.queue_once;
        flight_once = old.flight_once;
        done_once = old.done_once;
        cancels = old.cancels;
      }
