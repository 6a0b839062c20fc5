-- Steps that calls are made of: a slot's life changes with its operation, an operation leaves with its slot, and a cancel or a close
-- joins the queue's end.
use Rattle.std.proofs.Common.{◌≡◌, ◌≢◌, inl, inr, ℕ, true, false, [], ◌∷◌, ◌++◌, Some, refl, sym, ◌∙◌, ap, subst, arith}
use Rattle.std.proofs.lemmas.List.{map-append}
use Rattle.std.specs.Prelude.{slice_get}
use Rattle.std.specs.Ordering.{nat_cmp}
use Rattle.std.specs.FinMap.{FinMap, get, insert, remove}
use Rattle.rent_buf.specs.Buffer.{Buffer}
use Rattle.op_slots.specs.declared.lifecycle.Lifecycle.{Lifecycle}
use Rattle.ring_core.specs.Ring.{RingView}
use Rattle.machine.specs.Lists.{amended}
use Rattle.machine.specs.declared.request.Outcome.{Outcome}
use Rattle.ring_core.specs.declared.entry.Body.TheVariants.{Cancel as Cancels}
use Rattle.ring_core.specs.declared.entry.Entry.{Entry}
use Rattle.machine.specs.Ledger.{Ledger, Cancel, Operation, Place, InQueue, InFlight, InDone, Reaped, is_live, is_kept}
use Rattle.machine.specs.Queue.{with_op, append}
use Rattle.machine.proofs.Amended.{get-amended-same, get-amended-other}
use Rattle.driver_core.specs.declared.slot.Slot.{Slot}
use Rattle.driver_core.specs.Slot.{with_life}
use Rattle.driver_core.specs.Slots.{SlotFor}
use Rattle.uring_driver.specs.Lists.{EntryFor, IsAt, QueuedFor, Meets, CancelsMean, is_call, queued_of}
use Rattle.ring_core.specs.Entry.{cancel_entry}
use Rattle.uring_driver.proofs.Means.{Means}
use Rattle.machine.proofs.Numbers.{same-or-not}
use Rattle.driver_core.proofs.Lists.{some, get-pushed}
use Rattle.driver_core.proofs.Maps.{put-same, put-other}
use Rattle.driver_core.proofs.Slots.{slots-replaced, slots-freed, other-left}
use Rattle.uring_driver.proofs.Kept.{StaysOp, stays-own, KeepsOp, KeepsSlot, call-queued, call-flown, lists-kept}

-- A slot's life changes, and its operation with it, where it stands.
module _ {B : Type 0} (buffer : B → Buffer) (v : RingView) (slots : FinMap nat_cmp (Slot B)) (L : Ledger) (key : ℕ) (s : Slot B)
    (life : Lifecycle Outcome) (f : Operation → Operation) (o : Operation)
    (old : Means buffer v slots L) (there : get slots key ≡ Some s) (which : slice_get L.ops s.serial ≡ Some o)
    (stays : (p : Operation) → StaysOp p (f p))
    (fits : SlotFor buffer (amended L.ops s.serial f) (with_life s life)) where
  abbrev t : Slot B
  t = with_life s life

  op-kept : (n : ℕ) → KeepsOp L.ops (amended L.ops s.serial f) n
  op-kept n p h = elim (same-or-not n s.serial) [
    | inl e ↦ (
      f p,
      ap (slice_get (amended L.ops s.serial f)) e
          ∙ get-amended-same f L.ops s.serial p (ap (slice_get L.ops) (sym e) ∙ h),
      stays p,
    )
    | inr e ↦ (p, get-amended-other f L.ops s.serial n e ∙ h, stays-own p)
  ]

  slot-kept : (n : ℕ) → KeepsSlot slots (insert slots key t) n
  slot-kept n k u h q = elim (same-or-not k key) [
    | inl e ↦ (
      t,
      ap (get (insert slots key t)) e ∙ put-same slots key t,
      ap (λ x. x.serial) (some s u (get slots key) there (ap (get slots) (sym e) ∙ h)),
      ap (λ x. x.request) (some s u (get slots key) there (ap (get slots) (sym e) ∙ h)),
    )
    | inr e ↦ (u, put-other slots key t k e ∙ h, refl, refl)
  ]

  pub means-changed : Means buffer v (insert slots key (with_life s life)) (with_op L s.serial f)
  means-changed = record {
    capacity = old.capacity;
    world = old.world;
    in_slots = slots-replaced buffer slots L.ops key s t f o old.in_slots there refl which (ap is_kept (stays o).place) fits;
    in_lists = lists-kept buffer slots (insert slots key t) L.ops (amended L.ops s.serial f) v L refl (λ n a. (slot-kept n, op-kept n))
        (λ n a. (slot-kept n, op-kept n)) (λ i c h q a. (slot-kept c.serial, op-kept c.serial)) old.in_lists;
  }

-- An operation that was reaped leaves, and its slot is freed.
module _ {B : Type 0} (buffer : B → Buffer) (v : RingView) (slots : FinMap nat_cmp (Slot B)) (L : Ledger) (key : ℕ) (s : Slot B)
    (f : Operation → Operation) (o : Operation) (r : Outcome)
    (old : Means buffer v slots L) (there : get slots key ≡ Some s) (which : slice_get L.ops s.serial ≡ Some o)
    (at_user : o.place ≡ Reaped r) (gone : is_live (f o) ≡ false) where
  other : (n : ℕ) (p : Place) → IsAt L.ops n p → p ≢ Reaped r → n ≢ s.serial
  other n p a h e = h (sym a.stays ∙ ap (λ x. x.place) (some a.operation o (slice_get L.ops n) a.there (ap (slice_get L.ops) e ∙ which))
      ∙ at_user)

  both : (n : ℕ) (p : Place) → p ≢ Reaped r → IsAt L.ops n p →
      KeepsSlot slots (remove slots key) n × KeepsOp L.ops (amended L.ops s.serial f) n
  both n p h a = (
    λ k u q i. (
      u,
      other-left buffer slots L.ops key s f o old.in_slots there which (ap is_kept at_user) gone k u q
          (λ e. other n p a h (sym i ∙ e)),
      refl,
      refl,
    ),
    λ q i. (q, get-amended-other f L.ops s.serial n (other n p a h) ∙ i, stays-own q),
  )

  pub means-freed : Means buffer v (remove slots key) (with_op L s.serial f)
  means-freed = record {
    capacity = old.capacity;
    world = old.world;
    in_slots = slots-freed buffer slots L.ops key s f o old.in_slots there which (ap is_kept at_user) gone;
    in_lists = lists-kept buffer slots (remove slots key) L.ops (amended L.ops s.serial f) v L refl (λ n a. both n InQueue (λ q. cc) a)
        (λ n a. both n InFlight (λ q. cc) a) (λ i c h b a. both c.serial (InDone c.outcome) (λ q. cc) a) old.in_lists;
  }

-- An entry that isn't a call joins the queue's end. A cancel of a key means the same of each call that is there.
module _ {B : Type 0} (buffer : B → Buffer) (w : RingView) (slots : FinMap nat_cmp (Slot B)) (M : Ledger) (new : Entry)
    (old : Means buffer w slots M) (not_call : is_call new.body ≡ false) (queued : QueuedFor buffer slots M.ops new new.body)
    (meets : (key : ℕ) → new.body ≡ Cancels key → (e : Entry) → EntryFor buffer slots e → Meets e key new.serial) where
  meets-last : (e c : Entry) (key : ℕ) → EntryFor buffer slots e → c ≡ new → c.body ≡ Cancels key → Meets e key c.serial
  meets-last e c key E h b = subst (λ x. Meets e key x.serial) (sym h) (meets key (ap (λ x. x.body) (sym h) ∙ b) e E)

  no-call : (x : Entry) → x ≡ new → is_call x.body ≡ true → ⊥
  no-call x h q = (let z : false ≡ true = sym (ap (λ y. is_call y.body) h ∙ not_call) ∙ q in cc)

  cancels-more : CancelsMean (w.queue ++ new ∷ []) w.flying
  cancels-more = record {
    before = λ i j e c k h l b less q. elim (get-pushed w.queue new i e h) [
      | inl a ↦ elim (get-pushed w.queue new j c l) [
        | inl d ↦ old.in_lists.cancels.before i j e c k a d b less q
        | inr d ↦ meets-last e c k (call-queued buffer slots M.ops e e.body (old.in_lists.in_queue i e a) q).0 d.1 b
      ]
      | inr a ↦ absurd (no-call e a.1 q)
    ];
    flown = λ i j f c k h l b q. elim (get-pushed w.queue new j c l) [
      | inl d ↦ old.in_lists.cancels.flown i j f c k h d b q
      | inr d ↦ meets-last f.entry c k (call-flown buffer slots M.ops f f.entry.body (old.in_lists.in_flight i f h) q).0 d.1 b
    ];
  }

  pub means-joined : Means buffer (record w { queue = w.queue ++ new ∷ [] }) slots (append M (queued_of new))
  means-joined = record {
    capacity = old.capacity;
    world = old.world;
    in_slots = old.in_slots;
    in_lists = (let l = old.in_lists in record {
      queue = ap (λ x. x ++ queued_of new ∷ []) l.queue ∙ sym (map-append queued_of w.queue (new ∷ []));
      flying = l.flying;
      done = l.done;
      in_queue = λ i x h. elim (get-pushed w.queue new i x h) [
        | inl a ↦ l.in_queue i x a
        | inr a ↦ subst (λ y. QueuedFor buffer slots M.ops y y.body) (sym a.1) queued
      ];
      in_flight = l.in_flight;
      in_done = l.in_done;
      queue_once = λ i j x y h k a b q. elim (get-pushed w.queue new i x h) [
        | inl d ↦ elim (get-pushed w.queue new j y k) [ inl e ↦ l.queue_once i j x y d e a b q | inr e ↦ absurd (no-call y e.1 b) ]
        | inr d ↦ absurd (no-call x d.1 a)
      ];
      flight_once = l.flight_once;
      done_once = l.done_once;
      cancels = cancels-more;
    });
  }

-- A cancel of the operation of a live slot.
module _ {B : Type 0} (buffer : B → Buffer) (w : RingView) (slots : FinMap nat_cmp (Slot B)) (M : Ledger) (key : ℕ) (s : Slot B)
    (number : ℕ)
    (old : Means buffer w slots M) (there : get slots key ≡ Some s) (serial : s.serial ≡ number) where
  -- Its key is no close's word.
  pub cancel-queues : QueuedFor buffer slots M.ops (cancel_entry key number) (Cancels key)
  cancel-queues = (refl, (let below = old.in_slots.below key s there in omega (arith, below)), refl)

  -- Its key is that of its number alone.
  pub cancel-meets : (k : ℕ) → Cancels key ≡ Cancels k → (e : Entry) → EntryFor buffer slots e → Meets e k number
  cancel-meets k same e E =
      let q : key ≡ k = cc in
      subst (λ x. Meets e x number) q (record {
        by_word = λ h. sym E.serial ∙ ap (λ x. x.serial) (some E.slot s (get slots e.word) E.there (ap (get slots) h ∙ there)) ∙ serial;
        by_serial = λ h. old.in_slots.one e.word key E.slot s E.there there (E.serial ∙ h ∙ sym serial);
      })

  -- It joins the queue's end.
  pub means-canceled : Means buffer (record w { queue = w.queue ++ cancel_entry key number ∷ [] }) slots (append M (Cancel number))
  means-canceled = means-joined buffer w slots M (cancel_entry key number) old refl cancel-queues cancel-meets
