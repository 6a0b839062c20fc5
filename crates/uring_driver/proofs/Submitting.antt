-- What a new operation and its entry do to a ring and slots that mean a ledger.
use Rattle.std.proofs.Common.{◌≡◌, ◌≢◌, ◌⊎◌, inl, inr, ℕ, ◌+◌, ◌<◌, Bool, true, List, [], ◌∷◌, ◌++◌, length, Option, Some, None, refl, sym}
use Rattle.std.proofs.Common.{◌∙◌, ap, subst, arith}
use Rattle.std.specs.Prelude.{slice_get}
use Rattle.std.specs.Ordering.{nat_cmp}
use Rattle.std.specs.FinMap.{FinMap, get, insert}
use Rattle.std.proofs.lemmas.List.{map-append}
use Rattle.std.proofs.lemmas.Option.{slice_get_within}
use Rattle.rent_buf.specs.Buffer.{Buffer}
use Rattle.rent_buf.specs.Parts.{Parts}
use Rattle.op_slots.specs.declared.slab.TheConstants.{MAX_LIVE}
use Rattle.op_slots.specs.declared.lifecycle.Lifecycle.TheVariants.{Submitted as Fresh}
use Rattle.ring_core.specs.Ring.{RingView, pushed}
use Rattle.machine.specs.Request.{call_of, plain_request}
use Rattle.ring_core.specs.declared.entry.Entry.{Entry}
use Rattle.machine.specs.declared.completion.Completion.{Completion}
use Rattle.ring_core.specs.declared.entry.Flight.{Flight}
use Rattle.machine.specs.declared.request.Request.{Request}
use Rattle.ring_core.specs.declared.entry.Body.TheVariants.{Cancel as Cancels}
use Rattle.ring_core.specs.Entry.{target, call_entry}
use Rattle.machine.specs.Ledger.{Ledger, Req, Operation, Place, InDone, is_live, new_operation}
use Rattle.machine.specs.Queue.{append}
use Rattle.machine.specs.Step.{with_new_op}
use Rattle.driver_core.specs.declared.slot.Slot.{Slot}
use Rattle.driver_core.specs.Slots.{SlotFor, SlotsStand}
use Rattle.uring_driver.specs.Lists.{EntryFor, CompletionFor, IsAt, IsQueued, IsFlown, QueuedFor, CancelsMean, ListsStand, is_call}
use Rattle.uring_driver.specs.Lists.{queued_of}
use Rattle.uring_driver.proofs.Means.{Means}
use Rattle.machine.proofs.Numbers.{same-or-not}
use Rattle.machine.proofs.Appended.{get-append-end}
use Rattle.driver_core.proofs.Lists.{some, get-pushed, get-front}
use Rattle.driver_core.proofs.Maps.{put-same, put-other, len-new}
use Rattle.driver_core.proofs.Counts.{where-more}
use Rattle.uring_driver.proofs.Kept.{queued-kept, flight-kept, done-kept, call-queued}
use Rattle.machine.proofs.Requests.{holding-own}

module _ {B : Type 0} (buffer : B → Buffer) (w : RingView) (slots : FinMap nat_cmp (Slot B)) (M : Ledger) (given key : ℕ)
    (request : Request B Parts) (group : Option ℕ) (linked : Bool)
    (old : Means buffer w slots M) (numbered : given ≡ length M.ops) (free : get slots key ≡ None) (below : key < MAX_LIVE) where
  abbrev t : Slot B
  t = record { serial = given; request = request; life = Fresh }

  abbrev e : Entry
  e = call_entry key given linked (call_of (plain_request buffer request))

  abbrev new : Operation
  new = new_operation (plain_request buffer request) group linked

  abbrev ops' : List Operation
  ops' = M.ops ++ new ∷ []

  there-new : slice_get ops' given ≡ Some new
  there-new = ap (slice_get ops') numbered ∙ get-append-end M.ops new

  -- A number that was given is another.
  other : (n : ℕ) (o : Operation) → slice_get M.ops n ≡ Some o → n ≢ given
  other n o h q = (let l = slice_get_within M.ops n o h in omega (arith, l, q, numbered))

  -- A slot that was there is kept.
  kept : (k : ℕ) (u : Slot B) → get slots k ≡ Some u → get (insert slots key t) k ≡ Some u
  kept k u h = elim (same-or-not k key) [
    | inl q ↦ (let n : Some u ≡ None = sym h ∙ ap (get slots) q ∙ free in cc)
    | inr q ↦ put-other slots key t k q ∙ h
  ]

  at-kept : (n : ℕ) (p : Place) → IsAt M.ops n p → IsAt ops' n p
  at-kept n p a = record { operation = a.operation; there = get-front M.ops (new ∷ []) n a.operation a.there; stays = a.stays }

  queued-stays : (x : Entry) → IsQueued M.ops x → IsQueued ops' x
  queued-stays x a = record {
    operation = a.operation;
    there = get-front M.ops (new ∷ []) x.serial a.operation a.there;
    stays = a.stays;
    linked = a.linked;
  }

  flown-kept : (x : Flight) → IsFlown M.ops x → IsFlown ops' x
  flown-kept x a = record {
    operation = a.operation;
    there = get-front M.ops (new ∷ []) x.entry.serial a.operation a.there;
    stays = a.stays;
    marked = a.marked;
    bound = a.bound;
  }

  entry-kept : (x : Entry) → EntryFor buffer slots x → EntryFor buffer (insert slots key t) x
  entry-kept x E = record { slot = E.slot; there = kept x.word E.slot E.there; serial = E.serial; call = E.call }

  completion-kept : (c : Completion) → CompletionFor slots c → CompletionFor (insert slots key t) c
  completion-kept c C = record { slot = C.slot; there = kept c.word C.slot C.there; serial = C.serial }

  slot-kept : (u : Slot B) → SlotFor buffer M.ops u → SlotFor buffer ops' u
  slot-kept u m = record {
    operation = m.operation;
    there = get-front M.ops (new ∷ []) u.serial m.operation m.there;
    live = m.live;
    request = m.request;
    life = m.life;
    fresh = m.fresh;
    uncanceled = m.uncanceled;
  }

  new-slot : SlotFor buffer ops' t
  new-slot = record {
    operation = new;
    there = there-new;
    live = refl;
    request = holding-own (plain_request buffer request);
    life = refl;
    fresh = λ _. refl;
    uncanceled = λ _. refl;
  }

  -- Each slot is the new one, or was there.
  which : (k : ℕ) (u : Slot B) → get (insert slots key t) k ≡ Some u → ((k ≡ key) × (t ≡ u)) ⊎ (get slots k ≡ Some u)
  which k u h = elim (same-or-not k key) [
    | inl q ↦ inl (q, some t u (get (insert slots key t) key) (put-same slots key t) (ap (get (insert slots key t)) (sym q) ∙ h))
    | inr q ↦ inr (sym (put-other slots key t k q) ∙ h)
  ]

  slots-pushed : SlotsStand buffer (insert slots key t) ops'
  slots-pushed = record {
    holds = λ k u h. elim (which k u h) [
      | inl q ↦ subst (λ x. SlotFor buffer ops' x) q.1 new-slot
      | inr q ↦ slot-kept u (old.in_slots.holds k u q)
    ];
    one = λ k j u x h i q. elim (which k u h) [
      | inl a ↦ elim (which j x i) [
        | inl b ↦ a.0 ∙ sym b.0
        | inr b ↦ (let m = old.in_slots.holds j x b in absurd (other x.serial m.operation m.there (sym q ∙ ap (λ z. z.serial) (sym a.1))))
      ]
      | inr a ↦ elim (which j x i) [
        | inl b ↦ (let m = old.in_slots.holds k u a in absurd (other u.serial m.operation m.there (q ∙ ap (λ z. z.serial) (sym b.1))))
        | inr b ↦ old.in_slots.one k j u x a b q
      ]
    ];
    each = λ n o h l. elim (get-pushed M.ops new n o h) [
      | inl a ↦ (let m = old.in_slots.each n o a l in
          record { key = m.key; slot = m.slot; there = kept m.key m.slot m.there; serial = m.serial })
      | inr a ↦ record { key = key; slot = t; there = put-same slots key t; serial = numbered ∙ sym a.0 }
    ];
    counted = len-new slots key t free ∙ ap (λ n. n + 1) old.in_slots.counted ∙ sym (where-more is_live M.ops new refl);
    below = λ k u h. elim (which k u h) [
      | inl q ↦ subst (λ x. x < MAX_LIVE) (sym q.0) below
      | inr q ↦ old.in_slots.below k u q
    ];
  }

  -- The number of a call that is queued is another.
  queued-other : (i : ℕ) (x : Entry) → slice_get w.queue i ≡ Some x → is_call x.body ≡ true → x.serial ≢ given
  queued-other i x h q = (let m = (call-queued buffer slots M.ops x x.body (old.in_lists.in_queue i x h) q).1 in
      other x.serial m.operation m.there)

  no-cancel : (x : Entry) (k : ℕ) → x ≡ e → x.body ≡ Cancels k → ⊥
  no-cancel x k h b = (let z = sym (ap (λ y. y.body) h) ∙ b in cc)

  -- The cancels that stood there stand before it.
  cancels-stay : CancelsMean (w.queue ++ e ∷ []) w.flying
  cancels-stay = record {
    before = λ i j x c k h l b less q. elim (get-pushed w.queue e j c l) [
      | inl d ↦ elim (get-pushed w.queue e i x h) [
        | inl a ↦ old.in_lists.cancels.before i j x c k a d b less q
        | inr a ↦ absurd (let z = slice_get_within w.queue j c d in let y = a.0 in omega (arith, z, y, less))
      ]
      | inr d ↦ absurd (no-cancel c k d.1 b)
    ];
    flown = λ i j f c k h l b q. elim (get-pushed w.queue e j c l) [
      | inl d ↦ old.in_lists.cancels.flown i j f c k h d b q
      | inr d ↦ absurd (no-cancel c k d.1 b)
    ];
  }

  lists-pushed : ListsStand buffer (insert slots key t) (pushed w e) (append (with_new_op M new) (Req given))
  lists-pushed = (let l = old.in_lists in record {
    queue = ap (λ x. x ++ Req given ∷ []) l.queue ∙ sym (map-append queued_of w.queue (e ∷ []));
    flying = l.flying;
    done = l.done;
    in_queue = λ i x h. elim (get-pushed w.queue e i x h) [
      | inl a ↦ queued-kept buffer slots (insert slots key t) M.ops ops' x x.body (λ _ m. (entry-kept x m.0, queued-stays x m.1))
          (l.in_queue i x a)
      | inr a ↦ subst (λ y. QueuedFor buffer (insert slots key t) ops' y y.body) (sym a.1) (
        record { slot = t; there = put-same slots key t; serial = refl; call = refl },
        record {
          operation = new;
          there = there-new;
          stays = refl;
          linked = refl;
        },
      )
    ];
    in_flight = λ i x h. flight-kept buffer slots (insert slots key t) M.ops ops' x x.marked x.entry.body (λ _. refl)
        (λ _ m. (entry-kept x.entry m.0, flown-kept x m.1)) (l.in_flight i x h);
    in_done = λ i c h. done-kept slots (insert slots key t) M.ops ops' c (target c.word)
        (λ _ m. (completion-kept c m.0, at-kept c.serial (InDone c.outcome) m.1)) (l.in_done i c h);
    queue_once = λ i j x y h k b c q. elim (get-pushed w.queue e i x h) [
      | inl a ↦ elim (get-pushed w.queue e j y k) [
        | inl f ↦ l.queue_once i j x y a f b c q
        | inr f ↦ absurd (queued-other i x a b (q ∙ ap (λ z. z.serial) f.1))
      ]
      | inr a ↦ elim (get-pushed w.queue e j y k) [
        | inl f ↦ absurd (queued-other j y f c (sym q ∙ ap (λ z. z.serial) a.1))
        | inr f ↦ a.0 ∙ sym f.0
      ]
    ];
    flight_once = l.flight_once;
    done_once = l.done_once;
    cancels = cancels-stay;
  })

  pub means-pushed : Means buffer (pushed w (call_entry key given linked (call_of (plain_request buffer request))))
      (insert slots key (record { serial = given; request = request; life = Fresh }))
      (append (with_new_op M (new_operation (plain_request buffer request) group linked)) (Req given))
  means-pushed = record {
    capacity = old.capacity;
    world = old.world;
    in_slots = slots-pushed;
    in_lists = lists-pushed;
  }
