-- A fresh driver, a new handle, and bytes that arrive.
use Rattle.std.proofs.Common.{◌≡◌, ◌≤◌, ◌<◌, ℕ, true, false, List, [], ◌∷◌, ◌++◌, length}
use Rattle.std.proofs.Common.{Option, Some, None, refl, sym, ◌∙◌, ap, subst, arith, length-append}
use Rattle.std.specs.Prelude.{IsTrue, IfOk, Result, Ok, Err, slice_get}
use Rattle.std.specs.Ordering.{nat_cmp}
use Rattle.std.specs.FinMap as finite
use Rattle.rent_buf.specs.Buffer.{Buffer}
use Rattle.ring_core.specs.Ring.{RingView}
use Rattle.ring_core.specs.MemRing.{fresh_ring}
use Rattle.ring_core.specs.Lends.{with_world}
use Rattle.machine.specs.Lists.{amended, numbers_where, passes}
use Rattle.machine.specs.World.{fresh, with_input, with_message, with_end, look_at, refuses_feed, refuses_message, refuses_end}
use Rattle.machine.specs.World.{WorldFeeds, WorldFeedsMessage, WorldEnds}
use Rattle.machine.specs.declared.world.TheConstants.{MOST_HANDLES}
use Rattle.machine.specs.declared.world.HandleKind.{HandleKind}
use Rattle.machine.specs.declared.world.HandleState.{HandleState}
use Rattle.machine.specs.declared.world.Look.{Look}
use Rattle.machine.specs.declared.world.WorldError.{WorldError}
use Rattle.machine.specs.declared.world.WorldError.TheVariants.{BadHandleEvent, OutOfMemory}
use Rattle.machine.specs.declared.ledger.Event.{Event}
use Rattle.machine.specs.declared.ledger.Event.TheVariants.{Give, Feed, FeedMessage, End}
use Rattle.machine.specs.declared.ledger.Reply.{Reply}
use Rattle.machine.specs.declared.ledger.Reply.TheVariants.{Handle, Fed, Ended}
use Rattle.machine.specs.Ledger.{Ledger, Owner, empty, is_owned}
use Rattle.machine.specs.Step.{step, new_owner, give_step, with_handle, look_reply}
use Rattle.machine.specs.Run.{ledger}
use Rattle.machine.proofs.Amended.{length-amended}
use Rattle.handle_core.specs.declared.table.Holders.{Holders}
use Rattle.driver_core.specs.Groups.{GroupsStand}
use Rattle.driver_core.specs.Members.{none}
use Rattle.driver_core.proofs.Grouping.{groups-none}
use Rattle.driver_core.specs.declared.slot.Slot.{Slot}
use Rattle.uring_driver.specs.declared.uring.IoUringDriver.{IoUringDriver}
use Rattle.uring_driver.specs.Uring.{ring_in, due_in, room_in, pending, whole_ring, holds_handle}
use Rattle.uring_driver.specs.Holding.{places, IsSameHolding, HandlesStand}
use Rattle.uring_driver.specs.Submissions.{IsIdle, with_spare, with_due, pending_ring}
use Rattle.uring_driver.specs.Handles.{RefusedFor, LooksFor}
use Rattle.uring_driver.specs.Stands.{owed, Stands, Answers}
use Rattle.uring_driver.proofs.Means.{Means, means-of, ring-of}
use Rattle.uring_driver.proofs.Holders.{handles-none, handles-room, handles-world}
use Rattle.uring_driver.proofs.Steps.{reached-more, step-give, step-feed, step-message, step-end, step-look}
use Rattle.uring_driver.proofs.Steps.{cause-feed, cause-message, cause-end}
use Rattle.uring_driver.proofs.Heads.{means-view}

-- No slot is there.
none-there : {B : Type 0} (k : ℕ) (s : Slot B) → finite.get (finite.empty {X = Slot B} {R = nat_cmp}) k ≡ Some s → ⊥
none-there {B} k s h = (let z : ◌≡◌ {A = Option (Slot B)} None (Some s) = sym (finite.get-empty {X = Slot B} nat_cmp k) ∙ h in cc)

-- Nothing means the empty ledger.
means-empty : {B : Type 0} (buffer : B → Buffer) (capacity : ℕ) → Means buffer (fresh_ring capacity)
    (finite.empty {X = Slot B} {R = nat_cmp}) (empty capacity)
means-empty {B} buffer capacity = record {
  capacity = refl;
  world = refl;
  in_slots = record {
    holds = λ k s h. absurd (none-there k s h);
    one = λ k j s t h i e. absurd (none-there k s h);
    each = λ n o h l. cc;
    counted = finite.len-empty nat_cmp (Slot B);
    below = λ k s h. absurd (none-there k s h);
  };
  in_lists = record {
    queue = refl;
    flying = refl;
    done = refl;
    in_queue = λ i e h. cc;
    in_flight = λ i e h. cc;
    in_done = λ i c h. cc;
    queue_once = λ i j x y h k a b e. cc;
    flight_once = λ i j x y h k a b e. cc;
    done_once = λ i j x y h k a b e. cc;
    cancels = record { before = λ i j e c key h k b l q. cc; flown = λ i j f c key h k b q. cc };
  };
}

-- A driver over an idle ring with no handles stands for the empty ledger.
pub stands-empty : {R B : Type 0} (view : R → RingView) (buffer : B → Buffer) (d : IoUringDriver R B) (ring : R) →
    d.ring ≡ record { ring = ring; due = []; room = 0 } → d.slots.values ≡ finite.empty {X = Slot B} {R = nat_cmp} → d.given ≡ 0 →
    d.holding.table.holders ≡ finite.empty {X = Holders} {R = nat_cmp} →
    d.holding.closing.holders ≡ finite.empty {X = Holders} {R = nat_cmp} → d.holding.makers ≡ 0 → d.members ≡ none →
    IsIdle (view ring) → (view ring).world ≡ [] → Stands view buffer d (empty (view ring).capacity)
stands-empty {R} {B} view buffer d ring is slots given nobody closed makers groups idle world =
    let means = subst (λ x. Means buffer (pending_ring view x) d.slots.values (empty (view ring).capacity)) (sym is)
    (subst (λ (m : finite.FinMap nat_cmp (Slot B)). Means buffer (with_due (view ring) []) m (empty (view ring).capacity)) (sym slots)
    (means-view buffer (fresh_ring (view ring).capacity) (with_due (view ring) []) (finite.empty {X = Slot B} {R = nat_cmp})
    (empty (view ring).capacity) refl (ap (λ xs. xs ++ []) idle.queue) idle.flying idle.done world
    (means-empty buffer (view ring).capacity))) in
    record {
      events = [];
      reached = ap (λ x. empty (view x.ring).capacity) (sym is);
      operations = record { numbered = given; in_slots = means.in_slots };
      handles = handles-none d.holding (view ring).capacity nobody closed;
      groups = groups-none (view ring).capacity d.members groups;
      room = (let a = ap finite.len nobody in let b = finite.len-empty nat_cmp Holders in omega (arith, a, b, makers));
      fits = (let a = ap (λ x. length ((view x.ring).queue ++ x.due)) is in let b = ap (λ xs. length (xs ++ [])) idle.queue in
          omega (arith, a, b));
      few = omega arith;
      ring = ring-of means;
    }

-- A driver that differs in memory alone, with room for what is owed, stands for the same ledger.
pub stands-reserved : {R B : Type 0} (view : R → RingView) (buffer : B → Buffer) (d new : IoUringDriver R B) (L : Ledger) (spare : ℕ) →
    view (ring_in new) ≡ with_spare (view (ring_in d)) spare → due_in new ≡ due_in d → owed L new.holding ≤ room_in new →
    new.slots.values ≡ d.slots.values → new.given ≡ d.given → IsSameHolding d.holding new.holding → new.members ≡ d.members →
    Stands view buffer d L → Stands view buffer new L
stands-reserved view buffer d new L spare ring due room slots given holding members old =
    let means = subst (λ m. Means buffer (whole_ring view new) m L) (sym slots)
    (means-view buffer (whole_ring view d) (whole_ring view new) d.slots.values L (ap (λ x. x.capacity) ring)
    (ap (λ x. x.queue ++ due_in new) ring ∙ ap (λ xs. (view (ring_in d)).queue ++ xs) due) (ap (λ x. x.flying) ring)
    (ap (λ x. x.done) ring) (ap (λ x. x.world) ring) (means-of old)) in
    record {
      events = old.events;
      reached = old.reached ∙ ap (λ x. ledger x.capacity old.events) (sym ring);
      operations = record { numbered = given ∙ old.operations.numbered; in_slots = means.in_slots };
      handles = handles-room d.holding new.holding L holding old.handles;
      groups = subst (λ m. GroupsStand m L) (sym members) old.groups;
      room = room;
      fits = (let a = ap (λ x. length (x.queue ++ due_in new)) ring in let b = ap (λ xs. length ((view (ring_in d)).queue ++ xs)) due in
          let k = ap (λ x. x.capacity) ring in let f = old.fits in omega (arith, a, b, k, f));
      few = old.few;
      ring = ring-of means;
    }

-- A driver that differs in memory alone stands for the same ledger.
pub stands-same : {R B : Type 0} (view : R → RingView) (buffer : B → Buffer) (d new : IoUringDriver R B) (L : Ledger) (spare : ℕ) →
    view (ring_in new) ≡ with_spare (view (ring_in d)) spare → due_in new ≡ due_in d → room_in d ≤ room_in new →
    new.slots.values ≡ d.slots.values → new.given ≡ d.given → IsSameHolding d.holding new.holding → new.members ≡ d.members →
    Stands view buffer d L → Stands view buffer new L
stands-same view buffer d new L spare ring due room slots given holding members old =
    stands-reserved view buffer d new L spare ring due
    (let r = old.room in let h = ap finite.len holding.table in let m = holding.makers in omega (arith, r, h, m, room))
    slots given holding members old

-- What stands on the handles changes in both, and whose they are in the ledger.
pub means-world : {B : Type 0} (buffer : B → Buffer) (v : RingView) (slots : finite.FinMap nat_cmp (Slot B)) (L : Ledger)
    (world world' : List HandleState) (owners : List Owner) → world ≡ world' → Means buffer v slots L →
    Means buffer (with_world v world) slots (record L { world = world'; owners = owners })
means-world buffer v slots L world world' owners same old = record {
  capacity = old.capacity;
  world = same;
  in_slots = old.in_slots;
  in_lists = (let l = old.in_lists in record {
    queue = l.queue;
    flying = l.flying;
    done = l.done;
    in_queue = l.in_queue;
    in_flight = l.in_flight;
    in_done = l.in_done;
    queue_once = l.queue_once;
    flight_once = l.flight_once;
    done_once = l.done_once;
    cancels = l.cancels;
  });
}

module _ {B : Type 0} (buffer : B → Buffer) (d new : IoUringDriver RingView B) (L : Ledger) (old : Stands (λ r. r) buffer d L)
    (slots : new.slots ≡ d.slots) (due : due_in new ≡ due_in d) (given : new.given ≡ d.given) (members : new.members ≡ d.members) where
  -- The handles alone change in the ring.
  fits-still : (world : List HandleState) → ring_in new ≡ with_world (ring_in d) world →
      length (pending (λ r. r) new) ≤ (ring_in new).capacity
  fits-still world ring = (let a = ap (λ x. length (x.queue ++ due_in new)) ring in
      let b = ap (λ xs. length ((ring_in d).queue ++ xs)) due in let k = ap (λ x. x.capacity) ring in let f = old.fits in
      omega (arith, a, b, k, f))

  -- A new handle of the ring, of which its holders and the memory that is owed say the same.
  pub stands-gives : (kind : HandleKind) (fd : ℕ) → fd ≡ length (ring_in d).world → length (ring_in d).world < MOST_HANDLES →
      ring_in new ≡ with_world (ring_in d) ((ring_in d).world ++ fresh kind ∷ []) → HandlesStand new.holding (give_step L (fresh kind)) →
      owed L new.holding ≤ room_in new →
      Answers (λ r. r) buffer L (Give kind) (Handle fd) new
  stands-gives kind fd number few ring handles room =
      let m = means-of old in
      let e = step-give L kind in
      let count : fd ≡ length L.world = number ∙ ap length m.world in
      let means = subst (λ K. Means buffer (whole_ring (λ r. r) new) new.slots.values K) (sym (ap (λ y. y.0) e))
      (subst (λ r. Means buffer (with_due r (due_in new)) new.slots.values (give_step L (fresh kind))) (sym ring)
      (subst (λ xs. Means buffer (with_due (with_world (ring_in d) ((ring_in d).world ++ fresh kind ∷ [])) xs) new.slots.values
      (give_step L (fresh kind))) (sym due)
      (subst (λ s. Means buffer (with_due (with_world (ring_in d) ((ring_in d).world ++ fresh kind ∷ [])) (due_in d)) s.values
      (give_step L (fresh kind))) (sym slots)
      (means-world buffer (whole_ring (λ r. r) d) d.slots.values L ((ring_in d).world ++ fresh kind ∷ []) (L.world ++ fresh kind ∷ [])
      (L.owners ++ new_owner ∷ []) (ap (λ w. w ++ fresh kind ∷ []) m.world) m)))) in
      record {
        reply_is = ap (λ y. y.1) e ∙ ap (λ n. Handle n) (sym count);
        stands = record {
          events = old.events ++ Give kind ∷ [];
          reached = reached-more L (ring_in new).capacity old.events (Give kind)
              (old.reached ∙ ap (λ x. ledger x.capacity old.events) (sym ring));
          operations = record { numbered = given ∙ old.operations.numbered ∙ ap (λ x. length x.0.ops) (sym e); in_slots = means.in_slots };
          handles = subst (λ K. HandlesStand new.holding K) (sym (ap (λ y. y.0) e)) handles;
          groups = subst (λ K. GroupsStand new.members K) (sym (ap (λ y. y.0) e)) (subst (λ x. GroupsStand x (give_step L (fresh kind)))
              (sym members) (record { marks = old.groups.marks; members = old.groups.members }));
          room = (let b = ap (λ x. length (numbers_where is_owned 0 x.0.ops)) e in omega (arith, b, room));
          fits = fits-still ((ring_in d).world ++ fresh kind ∷ []) ring;
          few = (let a = ap (λ x. length x.0.world) e in let b = length-append L.world (fresh kind ∷ []) in let w = ap length m.world in
              omega (arith, a, b, w, few));
          ring = ring-of means;
        };
      }

  -- What stands on a handle changes: the step of the machine is this change.
  stands-changes : (event : Event) (reply : Reply) (h : ℕ) (change : HandleState → HandleState) →
      step L event ≡ (with_handle L h change, reply) → ring_in new ≡ with_world (ring_in d) (amended (ring_in d).world h change) →
      new.holding ≡ d.holding → room_in new ≡ room_in d →
      Answers (λ r. r) buffer L event reply new
  stands-changes event reply h change e ring holding room =
      let m = means-of old in
      let means = subst (λ K. Means buffer (whole_ring (λ r. r) new) new.slots.values K) (sym (ap (λ y. y.0) e))
      (subst (λ r. Means buffer (with_due r (due_in new)) new.slots.values (with_handle L h change)) (sym ring)
      (subst (λ xs. Means buffer (with_due (with_world (ring_in d) (amended (ring_in d).world h change)) xs) new.slots.values
      (with_handle L h change)) (sym due)
      (subst (λ s. Means buffer (with_due (with_world (ring_in d) (amended (ring_in d).world h change)) (due_in d)) s.values
      (with_handle L h change)) (sym slots)
      (means-world buffer (whole_ring (λ r. r) d) d.slots.values L (amended (ring_in d).world h change) (amended L.world h change)
      L.owners (ap (λ w. amended w h change) m.world) m)))) in
      record {
        reply_is = ap (λ y. y.1) e;
        stands = record {
          events = old.events ++ event ∷ [];
          reached = reached-more L (ring_in new).capacity old.events event (old.reached
              ∙ ap (λ x. ledger x.capacity old.events) (sym ring));
          operations = record { numbered = given ∙ old.operations.numbered ∙ ap (λ x. length x.0.ops) (sym e); in_slots = means.in_slots };
          handles = subst (λ K. HandlesStand new.holding K) (sym (ap (λ y. y.0) e))
              (subst (λ x. HandlesStand x (with_handle L h change)) (sym holding)
              (handles-world d.holding L old.handles (amended L.world h change)));
          groups = subst (λ K. GroupsStand new.members K) (sym (ap (λ y. y.0) e)) (subst (λ x. GroupsStand x (with_handle L h change))
              (sym members) (record { marks = old.groups.marks; members = old.groups.members }));
          room = (let b = ap (λ x. length (numbers_where is_owned 0 x.0.ops)) e in let k = ap places holding in
              let r = old.room in omega (arith, b, k, r, room));
          fits = fits-still (amended (ring_in d).world h change) ring;
          few = (let a = ap (λ x. length x.0.world) e in let b = length-amended change L.world h in let f = old.few in
              omega (arith, a, b, f));
          ring = ring-of means;
        };
      }

  -- Bytes arrive at a handle of the user.
  pub stands-feeds : (h : ℕ) (bytes : List ℕ) → IsTrue (holds_handle d h) → passes refuses_feed (slice_get (ring_in d).world h) ≡ false →
      ring_in new ≡ with_world (ring_in d) (amended (ring_in d).world h (with_input bytes)) → new.holding ≡ d.holding →
      room_in new ≡ room_in d → Answers (λ r. r) buffer L (Feed h bytes) Fed new
  stands-feeds h bytes user takes ring holding room = stands-changes (Feed h bytes) Fed h (with_input bytes)
      (step-feed L h bytes (sym (old.handles.holders.users h) ∙ user)
      (ap (λ w. passes refuses_feed (slice_get w h)) (sym old.ring.world) ∙ takes)) ring holding room

  -- A message arrives at a handle of the user.
  pub stands-messages : (h addr : ℕ) (bytes : List ℕ) → IsTrue (holds_handle d h) →
      passes refuses_message (slice_get (ring_in d).world h) ≡ false →
      ring_in new ≡ with_world (ring_in d) (amended (ring_in d).world h (with_message addr bytes)) → new.holding ≡ d.holding →
      room_in new ≡ room_in d → Answers (λ r. r) buffer L (FeedMessage h addr bytes) Fed new
  stands-messages h addr bytes user takes ring holding room = stands-changes (FeedMessage h addr bytes) Fed h (with_message addr bytes)
      (step-message L h addr bytes (sym (old.handles.holders.users h) ∙ user)
      (ap (λ w. passes refuses_message (slice_get w h)) (sym old.ring.world) ∙ takes)) ring holding room

  -- The end of what arrives at a handle of the user.
  pub stands-ends : (h : ℕ) → IsTrue (holds_handle d h) → passes refuses_end (slice_get (ring_in d).world h) ≡ false →
      ring_in new ≡ with_world (ring_in d) (amended (ring_in d).world h with_end) → new.holding ≡ d.holding →
      room_in new ≡ room_in d → Answers (λ r. r) buffer L (End h) Ended new
  stands-ends h user takes ring holding room = stands-changes (End h) Ended h with_end
      (step-end L h (sym (old.handles.holders.users h) ∙ user)
      (ap (λ w. passes refuses_end (slice_get w h)) (sym old.ring.world) ∙ takes)) ring holding room

module _ {B : Type 0} (buffer : B → Buffer) (d : IoUringDriver RingView B) (L : Ledger) (old : Stands (λ r. r) buffer d L) (h : ℕ)
    (user : IsTrue (holds_handle d h)) where
  -- What didn't arrive has its cause.
  pub refuses-feed : (bytes : List ℕ) (world : List HandleState) (why : WorldError) → WorldFeeds bytes (ring_in d).world h world (Err why) →
      RefusedFor L (Feed h bytes) why
  refuses-feed bytes world BadHandleEvent at = cause-feed L h bytes true (sym (old.handles.holders.users h) ∙ user)
      (ap (λ w. passes refuses_feed (slice_get w h)) (sym old.ring.world) ∙ at.0)
  refuses-feed bytes world OutOfMemory at = cause-feed L h bytes false (sym (old.handles.holders.users h) ∙ user)
      (ap (λ w. passes refuses_feed (slice_get w h)) (sym old.ring.world) ∙ at.0)

  -- A message that didn't arrive has its cause.
  pub refuses-arrival : (addr : ℕ) (bytes : List ℕ) (world : List HandleState) (why : WorldError) →
      WorldFeedsMessage addr bytes (ring_in d).world h world (Err why) → RefusedFor L (FeedMessage h addr bytes) why
  refuses-arrival addr bytes world BadHandleEvent at = cause-message L h addr bytes true (sym (old.handles.holders.users h) ∙ user)
      (ap (λ w. passes refuses_message (slice_get w h)) (sym old.ring.world) ∙ at.0)
  refuses-arrival addr bytes world OutOfMemory at = cause-message L h addr bytes false (sym (old.handles.holders.users h) ∙ user)
      (ap (λ w. passes refuses_message (slice_get w h)) (sym old.ring.world) ∙ at.0)

  -- An end that wasn't marked has its cause.
  pub refuses-end : (world : List HandleState) (why : WorldError) → WorldEnds (ring_in d).world h world (Err why) → RefusedFor L (End h) why
  refuses-end world BadHandleEvent at = cause-end L h true (sym (old.handles.holders.users h) ∙ user)
      (ap (λ w. passes refuses_end (slice_get w h)) (sym old.ring.world) ∙ at.0)
  refuses-end world OutOfMemory at = absurd at

  -- A look shows what the machine replies.
  pub looks : (look : Look) → look ≡ look_at (ring_in d).world h → LooksFor L h look
  looks look is = subst (λ x. LooksFor L h x) (sym is) (step-look L h (sym (old.handles.holders.users h) ∙ user)
      ∙ ap (λ w. (L, look_reply (look_at w h))) (sym old.ring.world))

-- A look that comes back shows what the machine replies, for every ledger that the driver stands for.
pub looks-if : {B : Type 0} (buffer : B → Buffer) (d : IoUringDriver RingView B) (h : ℕ) → IsTrue (holds_handle d h) →
    {E : Type 0} (result : Result Look E) → IfOk result (λ look. look ≡ look_at (ring_in d).world h) →
    IfOk result (λ look. (L : Ledger) → Stands (λ r. r) buffer d L → LooksFor L h look)
looks-if buffer d h user (Ok look) is = λ L old. looks buffer d L old h user look is
looks-if buffer d h user (Err e) is = tt
