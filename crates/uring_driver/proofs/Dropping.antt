-- What a drop and a cancel do to a driver that stands for a ledger.
use Rattle.std.proofs.Common.{◌≡◌, ℕ, ◌+◌, ◌≤◌, ◌<◌, Bool, true, false, IsTrue}
use Rattle.std.proofs.Math.Bool.{and-false}
use Rattle.std.proofs.Common.{length, Option, Some, refl, sym, ◌∙◌, ap, subst, arith}
use Rattle.std.specs.Prelude.{slice_get}
use Rattle.std.specs.FinMap.{get, insert, remove}
use Rattle.rent_buf.specs.Buffer.{Buffer}
use Rattle.op_slots.specs.declared.lifecycle.AfterDrop.TheVariants.{Left}
use Rattle.op_slots.specs.declared.lifecycle.Lifecycle.TheVariants.{Completed}
use Rattle.op_slots.specs.Lifecycle.{dropped, after_drop}
use Rattle.ring_core.specs.Ring.{RingView}
use Rattle.machine.specs.Lists.{amended, numbers_where}
use Rattle.machine.specs.Closes.{made_at}
use Rattle.machine.specs.Request.{named}
use Rattle.machine.specs.declared.request.Outcome.{Outcome}
use Rattle.machine.specs.declared.ledger.Event.TheVariants.{Drop, Cancel as Asks}
use Rattle.machine.specs.declared.ledger.Reply.TheVariants.{Dropped, Asked}
use Rattle.machine.specs.Ledger.{Ledger, Cancel, Operation, Place, InQueue, InFlight, InDone}
use Rattle.machine.specs.Ledger.{Reaped, Gone, is_live, is_kept, is_owned, with_made}
use Rattle.machine.specs.Queue.{with_op, with_gone, at_place, push}
use Rattle.machine.specs.Step.{with_drop}
use Rattle.machine.proofs.Amended.{get-amended-same, length-amended}
use Rattle.driver_core.specs.declared.slot.Slot.{Slot}
use Rattle.uring_driver.specs.declared.uring.IoUringDriver.{IoUringDriver}
use Rattle.uring_driver.specs.Uring.{room_in}
use Rattle.uring_driver.specs.Holding.{ops_left, places, HandlesStand}
use Rattle.ring_core.specs.Entry.{cancel_entry}
use Rattle.uring_driver.specs.Submissions.{pending_ring, Posts}
use Rattle.driver_core.specs.Holds.{made_life, held_in, seen, unheld_by, HoldersStand}
use Rattle.driver_core.proofs.Holds.{len-left}
use Rattle.driver_core.specs.Slot.{with_life, is_owned_life, number_at}
use Rattle.driver_core.specs.Slots.{SlotFor, life_of, life_at, owned_life}
use Rattle.uring_driver.specs.Stands.{Stands, Answers}
use Rattle.driver_core.proofs.Lists.{some, amended-twice}
use Rattle.driver_core.proofs.Seen.{SeenAlike, AreEarly, seen-op, made-waiting, early-changed}
use Rattle.driver_core.proofs.Early.{listed-early, early-gone}
use Rattle.driver_core.proofs.Standing.{holders-stand-same, holders-stand-left}
use Rattle.driver_core.proofs.Seeing.{seen-distinct, unheld-became}
use Rattle.driver_core.proofs.Abandoned.{seen-abandoned, became-abandoned}
use Rattle.driver_core.proofs.Maps.{put-same}
use Rattle.driver_core.proofs.Counts.{where-less}
use Rattle.uring_driver.proofs.Steps.{is_waiting, step-drop-waiting, step-drop-reaped, step-cancel}
use Rattle.driver_core.proofs.Numbers.{slot-number}
use Rattle.driver_core.proofs.Owned.{Owned, owned-slot, owned-names, owned-reaped}
use Rattle.uring_driver.proofs.Means.{Means, means-of}
use Rattle.uring_driver.proofs.Changing.{means-changed, means-freed}
use Rattle.uring_driver.proofs.Posting.{posts-cancel}
use Rattle.uring_driver.proofs.Holders.{handles-same, handles-push}
use Rattle.uring_driver.proofs.Answering.{LeavesGroup, lawful-of, alone-of, fits-of, groups-still, groups-less, answers-parts}
use Rattle.uring_driver.proofs.Lefts.{owned-push}
use Rattle.uring_driver.proofs.Leaving.{TakesParts}
use Rattle.uring_driver.proofs.Departing.{Departs, stands-departs}
use Rattle.machine.proofs.Taken.{length-make_room}
use Rattle.machine.proofs.Taking.{in_queue}
use Rattle.machine.proofs.Turning.{live-gone}
use Rattle.machine.proofs.Lawful.{listed-live, listed-unasked}
use Rattle.machine.proofs.Staying.{stays-push}
use Rattle.machine.proofs.Holders.{AreLive, live-changed}
use Rattle.driver_core.proofs.Polling.{ignored-left}

-- An operation whose slot is left isn't reaped.
left-waits : (p : Place) (t : Option ℕ) → is_kept p ≡ true → after_drop (owned_life p t) ≡ Left → is_waiting p ≡ true
left-waits InQueue t h e = refl
left-waits InFlight t h e = refl
left-waits (InDone r) t h e = refl
left-waits (Reaped r) t h e = (let f : ⊥ = cc in absurd f)
left-waits Gone t h e = (let f : ⊥ = cc in absurd f)

-- A drop of an operation that isn't reaped leaves what is seen.
drop-seen : (o : Operation) → is_waiting o.place ≡ true → SeenAlike o (with_drop o)
drop-seen o waits = record { request = refl; made = by o.dropped o.place o.task waits; live = refl }
  where
    by : (b : Bool) (p : Place) (t : Option ℕ) → is_waiting p ≡ true → made_life (life_of true p t) ≡ made_life (life_of b p t)
    by true p t waits = refl
    by false InQueue t waits = sym (made-waiting t)
    by false InFlight t waits = sym (made-waiting t)
    by false (InDone r) t waits = sym (made-waiting t)
    by false (Reaped r) t waits = (let f : ⊥ = cc in absurd f)
    by false Gone t waits = (let f : ⊥ = cc in absurd f)

module _ {R B : Type 0} (view : R → RingView) (buffer : B → Buffer) (tells steady : Bool) (always : IsTrue steady)
    (d new : IoUringDriver R B) (L : Ledger) (key : ℕ) (s : Slot B) (old : Stands view buffer d L) (there : get d.slots.values key ≡ Some s)
    (mine : is_owned_life s.life ≡ true) (given : new.given ≡ d.given) where
  -- The operation of the slot, which its user may still drop.
  abbrev my : Owned buffer L s
  my = owned-slot buffer L s (old.operations.in_slots.holds key s there) mine

  -- Of each operation that its user may drop, the cancel has room.
  pub has-room : 0 < room_in d
  has-room = (let a = where-less is_owned (at_place Gone) L.ops s.serial my.fit.operation my.fit.there my.owned refl in let r = old.room in
      omega (arith, a, r))

  -- The ledger once the operation was dropped.
  abbrev M : Ledger
  M = with_op L s.serial with_drop

  -- Requests in its queue are of operations that aren't gone.
  requests : AreLive M.ops M.queue
  requests = live-changed L.ops L.queue s.serial with_drop (λ o live. live) (listed-live L (lawful-of old).lists)

  -- They weren't executed.
  asks : AreEarly M.ops M.queue
  asks = early-changed L.ops L.queue s.serial with_drop (λ o early. early) (listed-early L (lawful-of old).lists)

  -- The drop of an operation that isn't reaped.
  module _ (left : after_drop s.life ≡ Left) where
    -- The slot once it was dropped.
    abbrev t : Slot B
    t = with_life s (dropped s.life)

    -- The slot that is left is that of the dropped operation.
    fits : SlotFor buffer (amended L.ops s.serial with_drop) t
    fits = record {
      operation = with_drop my.fit.operation;
      there = get-amended-same with_drop L.ops s.serial my.fit.operation my.fit.there;
      live = my.fit.live;
      request = my.fit.request;
      life = ignored-left s.life left;
      fresh = my.fit.fresh;
      uncanceled = my.fit.uncanceled;
    }

    -- Its slot stays, and its cancel joins the queue.
    pub stands-leaves : LeavesGroup d new (record { number = s.serial; key = key }) →
        new.slots.values ≡ insert d.slots.values key (with_life s (dropped s.life)) → new.holding ≡ d.holding →
        Posts view tells steady d.ring new.ring (cancel_entry key s.serial) → Answers view buffer L (Drop s.serial) Dropped new
    unfolding has-room requests asks
    stands-leaves leaves_it put holding posts =
        let o = my.fit.operation in
        let waits = left-waits o.place o.task my.fit.live (sym (ap after_drop my.life) ∙ left) in
        let a = subst (λ x. Means buffer (pending_ring view d.ring) x M) (sym put)
        (means-changed buffer (pending_ring view d.ring) d.slots.values L key s (dropped s.life) with_drop o (means-of old) there
        my.fit.there
        (λ p. record { place = refl; canceled = refl; linked = refl; waits_for = refl }) fits) in
        let c = posts-cancel view buffer tells steady new.slots.values always d.ring new.ring M key t s.serial a
        (ap (λ m. get m key) put ∙ put-same d.slots.values key t) refl has-room (fits-of view d old) posts in
        let e = step-drop-waiting L s.serial o my.fit.there my.owned waits in
        answers-parts view buffer d new L (push M (Cancel s.serial)) (Drop s.serial) Dropped old e c.capacity c.means
        (given ∙ old.operations.numbered ∙ sym (length-make_room M ∙ length-amended with_drop L.ops s.serial))
        (subst (λ x. HandlesStand x (push M (Cancel s.serial))) (sym holding)
        (handles-push d.holding M
        (handles-same d.holding L old.handles M (seen-op L s.serial with_drop (λ p q.
        drop-seen p (ap (λ x. is_waiting x.place) (some p o (slice_get L.ops s.serial) q my.fit.there) ∙ waits))) (λ h. refl))
        (Cancel s.serial) (λ h. refl) asks))
        (groups-less view buffer d new L (push M (Cancel s.serial)) (Drop s.serial) Dropped old e c.capacity refl c.means.in_slots
        (record { number = s.serial; key = key }) (slot-number d.slots.values key s there mine) leaves_it)
        (let x = where-less is_owned with_drop L.ops s.serial o my.fit.there my.owned (and-false (is_live o)) in
        let y = ap length (owned-push M (Cancel s.serial) requests) in
        let z = ap (λ x. places x) holding in
        let w = c.room in
        let r = old.room in
        omega (arith, x, y, z, w, r))
        c.fits (stays-push M (Cancel s.serial)).world

  -- The drop of one that is.
  module _ (r : Outcome) (life : s.life ≡ Completed r) (gone : new.slots.values ≡ remove d.slots.values key)
      (parts : TakesParts view tells steady d new d.holding (held_in (Some s))) where
    -- What its slot holds is what it is seen to hold.
    seen-is : held_in (Some s) ≡ seen my.fit.operation
    seen-is =
        ap (λ hs. with_made (made_life s.life) hs) (sym (owned-names buffer L s my))
        ∙ ap (λ m. with_made m (named my.fit.operation.request)) (ap made_life my.fit.life)

    -- All that it made is seen.
    all-seen : made_life (life_at my.fit.operation) ≡ my.fit.operation.made
    all-seen =
        ap made_life (sym my.fit.life ∙ life)
        ∙ sym ((alone-of old).agrees s.serial my.fit.operation my.fit.there my.fit.live ∙ ap made_at (owned-reaped buffer L s my r life))

    departs : Departs view buffer tells steady d new L M s.serial (unheld_by d.holding.table (held_in (Some s)))
    unfolding requests asks
    departs =
        let o = my.fit.operation in
        let f : Operation → Operation = λ x. at_place Gone (with_drop x) in
        let lawful = lawful-of old in
        let distinct = seen-distinct d.holding.table L s.serial o old.handles.holders my.fit.there my.fit.live lawful.known
        (alone-of old) in
        let twice : with_op L s.serial f ≡ with_gone M s.serial =
        ap (λ ops. record L { ops = ops }) (sym (amended-twice L.ops s.serial with_drop (at_place Gone))) in
        let holding = parts.holding ∙ ap (ops_left d.holding) seen-is in
        let unasked = listed-unasked L s.serial o lawful.lists my.fit.there (ap in_queue (owned-reaped buffer L s my r life)) in
        record {
          means = subst (λ x. Means buffer (pending_ring view d.ring) x (with_gone M s.serial)) (sym gone)
              (subst (λ K. Means buffer (pending_ring view d.ring) (remove d.slots.values key) K) twice
              (means-freed buffer (pending_ring view d.ring) d.slots.values L key s f o r (means-of old) there my.fit.there
              (owned-reaped buffer L s my r life) refl));
          closing = old.handles.closing;
          stand = subst (λ t. HoldersStand t (with_gone M s.serial)) (sym (ap (λ x. x.table) holding))
              (holders-stand-same
              (holders-stand-left d.holding.table L s.serial o old.handles.holders my.fit.there my.fit.live distinct)
              (seen-abandoned L s.serial));
          became = ap (unheld_by d.holding.table) seen-is
              ∙ unheld-became d.holding.table L s.serial o old.handles.holders my.fit.there my.fit.live lawful.known (alone-of old) all-seen
              ∙ sym (became-abandoned L s.serial);
          closed = ap (λ x. x.closing) parts.holding;
          early = early-gone M.ops M.queue s.serial unasked asks;
          live = live-gone M.ops M.queue s.serial unasked requests;
          below = parts.below;
          room = parts.room;
          posts = parts.posts;
          owned = (
              let a = where-less is_owned f L.ops s.serial o my.fit.there my.owned refl in
              let k = ap (λ (K : Ledger). length (numbers_where is_owned 0 K.ops)) twice in
              omega (arith, a, k));
          count = length-amended (at_place Gone) M.ops s.serial ∙ length-amended with_drop L.ops s.serial;
          world = refl;
          places = (
              let a = len-left d.holding.table (held_in (Some s)) parts.may in
              let b = ap (λ x. places x) parts.holding in
              omega (arith, a, b));
        }

    pub stands-frees : LeavesGroup d new (record { number = s.serial; key = key }) → Answers view buffer L (Drop s.serial) Dropped new
    stands-frees leaves_it =
        stands-departs view buffer tells steady d new L M s.serial (unheld_by d.holding.table (held_in (Some s))) (Drop s.serial) Dropped
        always old departs
        (step-drop-reaped L s.serial my.fit.operation my.fit.there my.owned r (owned-reaped buffer L s my r life)) given refl
        (record { number = s.serial; key = key }) (slot-number d.slots.values key s there mine) leaves_it

  -- Its cancel is asked for.
  pub stands-asks : new.slots.values ≡ d.slots.values → new.holding ≡ d.holding → new.members ≡ d.members →
      length (numbers_where is_owned 0 L.ops) + places d.holding ≤ room_in new → 0 < room_in d →
      Posts view tells steady d.ring new.ring (cancel_entry key s.serial) → Answers view buffer L (Asks s.serial) Asked new
  stands-asks same holding members room some posts =
      let o = my.fit.operation in
      let live = listed-live L (lawful-of old).lists in
      let early = listed-early L (lawful-of old).lists in
      let c = posts-cancel view buffer tells steady new.slots.values always d.ring new.ring L key s s.serial
      (subst (λ x. Means buffer (pending_ring view d.ring) x L) (sym same) (means-of old)) (ap (λ m. get m key) same ∙ there) refl some
      (fits-of view d old) posts in
      let e = step-cancel L s.serial o my.fit.there my.owned in
      answers-parts view buffer d new L (push L (Cancel s.serial)) (Asks s.serial) Asked old e c.capacity c.means
      (given ∙ old.operations.numbered ∙ sym (length-make_room L))
      (subst (λ x. HandlesStand x (push L (Cancel s.serial))) (sym holding)
      (handles-push d.holding L old.handles (Cancel s.serial) (λ h. refl) early))
      (groups-still view buffer d new L (push L (Cancel s.serial)) (Asks s.serial) Asked old e c.capacity refl c.means.in_slots
      (λ k. ap (λ m. number_at m k) same) members)
      (let y = ap length (owned-push L (Cancel s.serial) live) in
      let z = ap (λ x. places x) holding in
      omega (arith, y, z, room))
      c.fits (stays-push L (Cancel s.serial)).world
