-- A ledger between two spellings, what each push keeps of it, and when a readiness driver as plain data shows it.
use Rattle.std.proofs.Common.{◌≡◌, ℕ, ◌+◌, Bool, true, false, List, [], ◌∷◌, ◌++◌, length, map, Option, None, Some}
use Rattle.std.proofs.Common.{slice_get, refl, sym, ◌∙◌, ap, subst, if◌then◌else◌}
use Rattle.rent_buf.specs.Buffer.{Buffer}
use Rattle.rent_buf.specs.Parts.{Parts}
use Rattle.machine.specs.declared.request.Request.{Request}
use Rattle.machine.specs.declared.world.HandleState.{HandleState}
use Rattle.machine.specs.declared.ledger.Event.TheVariants.{Turn}
use Rattle.machine.specs.Ledger.{Ledger, Operation, Owner, Queued, Cancel, Item, Op, new_operation}
use Rattle.machine.specs.Queue.{with_op, with_take, take_all, make_room, push, push_each}
use Rattle.machine.specs.Step.{submit_step}
use Rattle.machine.specs.Run.{after}
use Rattle.machine.proofs.Occurring.{same, listed}
use Rattle.machine.proofs.Taking.{in_queue, in_flight, in_done, Listed, listed-take_all}
use Rattle.machine.proofs.Listed.{submit-joined, listed-make_room, listed-push_cancel, listed-push_close, listed-joined, listed-changed}
use Rattle.machine.proofs.Staying.{Stays, stays-take_all, stays-make_room, stays-push}
use Rattle.ready_driver.specs.Spelled.{has_close, close_execs, closes_behind}
use Rattle.ready_driver.specs.Legacy.{LegacyOp, Legacy}
use Rattle.ready_driver.specs.Readiness.{slot_of}
use Rattle.ready_driver.proofs.Free.{AllFree, free-changed, free-joined, free-taken, free-room}
use Rattle.ready_driver.proofs.Flat.{take-none, flat-queue, flat-room, flat-push, flat-joined, Unmoved, flat-changed, beside, flat-beside}
use Rattle.ready_driver.proofs.Closes.{ops_only, closes_only, flat-done, still, closes-end, no-closes, none-left, close-there}
use Rattle.ready_driver.proofs.Asks.{Calm, AllCalm, calm-changed, calm-joined, calm-canceled, canceled_in, Asks, asks-empty, asks-room}
use Rattle.ready_driver.proofs.Asks.{Flies}
use Rattle.ready_driver.proofs.Asks.{asks-cancel, asks-close, asks-joined, asks-changed}

-- A ledger behind a spelling, before the closes that follow it: nothing is done, each operation is in flight or gone once the queue is
-- taken, no operation is linked or waits for another, and each handle has its owner.
pub record Half (L : Ledger) : Type 0 where
  pub lists : Listed L
  pub idle : L.done ≡ []
  pub calm : AllCalm (take_all L).ops
  pub asks : Asks L
  pub free : AllFree L.ops
  pub counted : length L.owners ≡ length L.world

-- A close that is in flight once the queue is taken is followed by one in the queue.
abbrev pub Tidy : Ledger → Type 0
Tidy L = has_close L.queue ≡ false → closes_only (take_all L).flying ≡ []

-- A ledger between two spellings: no close is in its queue or in flight.
pub record Settled (L : Ledger) : Type 0 where
  pub half : Half L
  pub closed : closes_only (take_all L).flying ≡ []

-- The slot of an operation whose cancel is asked for exactly where it was taken.
abbrev pub shown : Operation → Option LegacyOp
shown o = slot_of o.canceled o

-- Whether the user holds each handle.
abbrev pub is_users : List Owner → List Bool
is_users owners = map (λ owner. owner.is_user) owners

-- A driver shows a ledger: its operations are those of the ledger once the queue is taken; all else is the same.
pub record Shown (D : Legacy) (L : Ledger) : Type 0 where
  pub slots : D.slots ≡ map shown (take_all L).ops
  pub users : D.users ≡ is_users L.owners
  pub world : D.world ≡ L.world
  pub cancellers : D.cancellers ≡ L.cancellers
  pub cancel_handles : D.cancel_handles ≡ L.cancel_handles
  pub groups : D.groups ≡ L.groups

-- A driver stands for a ledger between two spellings.
pub record Stands (D : Legacy) (L : Ledger) : Type 0 where
  pub settled : Settled L
  pub shows : Shown D L

-- What a driver shows of what stayed, with the operations that are there once the queue is taken.
pub shows-stays : (D : Legacy) (L M : Ledger) (slots : List (Option LegacyOp)) → Stays L M → slots ≡ map shown (take_all M).ops →
    Shown D L → Shown (record D { slots = slots }) M
shows-stays D L M slots stays is s = record {
  slots = is;
  users = s.users ∙ ap is_users (sym stays.owners);
  world = s.world ∙ sym stays.world;
  cancellers = s.cancellers ∙ ap (λ g. g.cancellers) (sym stays.groups);
  cancel_handles = s.cancel_handles ∙ ap (λ g. g.cancel_handles) (sym stays.groups);
  groups = s.groups ∙ ap (λ g. g.groups) (sym stays.groups);
}

-- As many owners as handles stay.
counted-stays : {L M : Ledger} → Stays L M → length L.owners ≡ length L.world → length M.owners ≡ length M.world
counted-stays s counted = ap length s.owners ∙ counted ∙ ap length (sym s.world)

-- Making room keeps it.
pub half-room : (L : Ledger) → Half L → Half (make_room L)
half-room L s = record {
  lists = listed-make_room L s.lists;
  idle = (stays-make_room L).done ∙ s.idle;
  calm = subst (λ K. AllCalm K.ops) (sym (flat-room L)) s.calm;
  asks = asks-room L s.asks;
  free = free-room L s.free;
  counted = counted-stays (stays-make_room L) s.counted;
}

-- What is in flight is so once room was made.
room-flies : (L : Ledger) (n : ℕ) → Flies (take_all L) n → Flies (take_all (make_room L)) n
room-flies L n f = subst (λ K. Flies K n) (sym (flat-room L)) f

-- So does the cancel of what is in flight.
pub half-canceled : (L : Ledger) (n : ℕ) → Flies (take_all L) n → Half L → Half (push L (Cancel n))
half-canceled L n f s = record {
  lists = listed-push_cancel L n s.lists;
  idle = (stays-push L (Cancel n)).done ∙ s.idle;
  calm = subst (λ K. AllCalm K.ops) (sym (flat-push L (Cancel n) s.free)) (calm-canceled (take_all L).ops n s.calm);
  asks = asks-cancel (make_room L) n (room-flies L n f) (free-room L s.free) (half-room L s).asks;
  free = free-room L s.free;
  counted = counted-stays (stays-push L (Cancel n)) s.counted;
}

-- So does the close of a handle.
pub half-closed : (L : Ledger) (h : ℕ) → Half L → Half (push L (Queued.Close h))
half-closed L h s = record {
  lists = listed-push_close L h s.lists;
  idle = (stays-push L (Queued.Close h)).done ∙ s.idle;
  calm = subst (λ K. AllCalm K.ops) (sym (flat-push L (Queued.Close h) s.free)) s.calm;
  asks = asks-close (make_room L) h (free-room L s.free) (half-room L s).asks;
  free = free-room L s.free;
  counted = counted-stays (stays-push L (Queued.Close h)) s.counted;
}

-- So do closes.
pub half-closes : (L : Ledger) (handles : List ℕ) → Half L → Half (push_each L (map Queued.Close handles))
half-closes L [] s = s
half-closes L (h ∷ handles) s = half-closes (push L (Queued.Close h)) handles (half-closed L h s)

-- So does a new operation that isn't linked.
pub half-joined : (L : Ledger) (request : Request Buffer Parts) (group : Option ℕ) → Half L → Half (submit_step L request group false)
half-joined L request group s =
    let M : Ledger = make_room L in
    let h : Half M = half-room L s in
    let o : Operation = new_operation request group false in
    subst Half (sym (submit-joined L request group false s.lists)) (record {
      lists = listed-joined M o refl h.lists;
      idle = h.idle;
      calm = subst AllCalm (sym (flat-joined M o refl (refl, refl) h.lists h.free))
          (calm-joined (take_all M).ops (with_take None o) (refl, refl) h.calm);
      asks = asks-joined M o refl refl (refl, refl) h.lists h.free h.asks;
      free = free-joined M.ops o (refl, refl) h.free;
      counted = h.counted;
    })

-- So do other handles, cancellers, cancel handles and groups.
pub half-beside : (L : Ledger) (world : List HandleState) (owners : List Owner) (cancellers handles : List ℕ) (groups : List Bool) →
    length owners ≡ length world → Half L → Half (beside L world owners cancellers handles groups)
half-beside L world owners cancellers handles groups counted s =
    let e = flat-beside L world owners cancellers handles groups in
    record {
      lists = record { waiting = s.lists.waiting; flown = s.lists.flown; standing = s.lists.standing };
      idle = s.idle;
      calm = subst (λ K. AllCalm K.ops) (sym e) s.calm;
      asks = λ n. s.asks n ∙ ap (λ K. canceled_in (slice_get K.ops n)) (sym e);
      free = s.free;
      counted = counted;
    }

-- So does a change of one operation that no list sees.
pub half-changed : (L : Ledger) (n : ℕ) (f : Operation → Operation) (o : Operation) → Unmoved f →
    ((x : Operation) → ((f x).canceled ≡ x.canceled) × ((f x).place ≡ x.place) × (Calm x → Calm (f x))) → slice_get L.ops n ≡ Some o →
    Half L → Half (with_op L n f)
half-changed L n f o u same there s =
    let e : (take_all (with_op L n f)).ops ≡ (with_op (take_all L) n f).ops = ap (λ K. K.ops) (flat-changed L n f u s.free) in
    record {
      lists = listed-changed L n f o s.lists there
          (record { queue = ap in_queue (same o).1; flight = ap in_flight (same o).1; done = ap in_done (same o).1 });
      idle = s.idle;
      calm = subst AllCalm (sym e) (calm-changed (take_all L).ops n f (λ x at c. (same x).2 c) s.calm);
      asks = asks-changed L n f u (λ x. (same x).0) s.free s.asks;
      free = free-changed L.ops n f u.free s.free;
      counted = s.counted;
    }

-- A ledger whose queue is empty, as it is between two spellings.
pub record Flat (T : Ledger) : Type 0 where
  pub lists : Listed T
  pub queue : T.queue ≡ []
  pub done : T.done ≡ []
  pub calm : AllCalm T.ops
  pub free : AllFree T.ops
  pub counted : length T.owners ≡ length T.world

-- It is so once the queue is taken.
pub half-flat : (L : Ledger) → Half L → Flat (take_all L)
half-flat L s = record {
  lists = listed-take_all L s.lists;
  queue = flat-queue L;
  done = flat-done L s.idle;
  calm = s.calm;
  free = free-taken L s.free;
  counted = counted-stays (stays-take_all L) s.counted;
}

-- And then it is behind a spelling.
pub flat-half : (T : Ledger) → Flat T → Half T
flat-half T f = record {
  lists = f.lists;
  idle = f.done;
  calm = subst (λ K. AllCalm K.ops) (sym (take-none T f.queue)) f.calm;
  asks = asks-empty T f.queue;
  free = f.free;
  counted = f.counted;
}

-- An operation is among the operations as often as among all items.
listed-ops : (n : ℕ) (items : List Item) → listed n (ops_only items) ≡ listed n items
listed-ops n [] = refl
listed-ops n (Op m ∷ items) = ap (λ k. same n m + k) (listed-ops n items)
listed-ops n (Item.Close h ∷ items) = listed-ops n items

-- Without its closes the ledger is so too.
still-flat : (L : Ledger) → Half L → Flat (still L)
still-flat L s =
    let f : Flat (take_all L) = half-flat L s in
    record {
      lists = record {
        waiting = f.lists.waiting;
        flown = λ n. listed-ops n (take_all L).flying ∙ f.lists.flown n;
        standing = f.lists.standing;
      };
      queue = f.queue;
      done = f.done;
      calm = f.calm;
      free = f.free;
      counted = f.counted;
    }

-- What is left of a ledger once its closes are executed.
pub record Ends (L M : Ledger) : Type 0 where
  pub settled : Settled M
  pub flat : take_all M ≡ still L

-- By whether a close is in the queue.
settle-by : (b : Bool) (L : Ledger) → Half L → (b ≡ false → closes_only (take_all L).flying ≡ []) →
    Ends L (after L (if b then Turn ∷ close_execs 0 (after L (Turn ∷ [])).flying ++ Turn ∷ [] else []))
settle-by true L s tidy =
    let f : Flat (still L) = still-flat L s in
    subst (Ends L) (sym (closes-end L s.idle)) (record {
      settled = record {
        half = flat-half (still L) f;
        closed = ap (λ K. closes_only K.flying) (take-none (still L) f.queue) ∙ none-left (take_all L).flying;
      };
      flat = take-none (still L) f.queue;
    })
settle-by false L s tidy = record {
  settled = record { half = s; closed = tidy refl };
  flat = ap (λ items. record (take_all L) { flying = items }) (sym (no-closes (take_all L).flying (tidy refl)));
}

-- The closes that follow a spelling settle a tidy ledger.
pub settle : (L : Ledger) → Half L → Tidy L → Ends L (after L (closes_behind L))
settle L s tidy = settle-by (has_close L.queue) L s tidy

-- A driver that shows a ledger before its closes shows it after them.
pub ended-shows : (D : Legacy) (L M : Ledger) → Ends L M → Shown D L → Shown D M
ended-shows D L M e s =
    let a = stays-take_all L in
    let b = stays-take_all M in
    record {
      slots = s.slots ∙ ap (λ K. map shown K.ops) (sym e.flat);
      users = s.users ∙ ap is_users (sym a.owners ∙ ap (λ K. K.owners) (sym e.flat) ∙ b.owners);
      world = s.world ∙ sym a.world ∙ ap (λ K. K.world) (sym e.flat) ∙ b.world;
      cancellers = s.cancellers ∙ ap (λ g. g.cancellers) (sym a.groups) ∙ ap (λ K. K.cancellers) (sym e.flat)
          ∙ ap (λ g. g.cancellers) b.groups;
      cancel_handles = s.cancel_handles ∙ ap (λ g. g.cancel_handles) (sym a.groups) ∙ ap (λ K. K.cancel_handles) (sym e.flat)
          ∙ ap (λ g. g.cancel_handles) b.groups;
      groups = s.groups ∙ ap (λ g. g.groups) (sym a.groups) ∙ ap (λ K. K.groups) (sym e.flat) ∙ ap (λ g. g.groups) b.groups;
    }

-- Pushing the close of a handle is tidy.
pub tidy-close : (L : Ledger) (h : ℕ) → Tidy (push L (Queued.Close h))
tidy-close L h none = (let e : true ≡ false = sym (close-there (make_room L).queue h) ∙ none in let f : ⊥ = cc in absurd f)

-- A close is in the queue once closes were pushed behind one.
closes-there : (L : Ledger) (handles : List ℕ) → has_close L.queue ≡ true → has_close (push_each L (map Queued.Close handles)).queue ≡ true
closes-there L [] h = h
closes-there L (k ∷ handles) h = closes-there (push L (Queued.Close k)) handles (close-there (make_room L).queue k)

-- Pushing closes is tidy.
pub tidy-closes : (L : Ledger) (handles : List ℕ) → closes_only (take_all L).flying ≡ [] → Tidy (push_each L (map Queued.Close handles))
tidy-closes L [] h none = h
tidy-closes L (k ∷ handles) h none =
    (let e : true ≡ false = sym (closes-there (push L (Queued.Close k)) handles (close-there (make_room L).queue k)) ∙ none in
    let f : ⊥ = cc in
    absurd f)
