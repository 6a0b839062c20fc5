-- What taking the queue does to a ring and slots that mean a ledger: one entry at a time, each behind a leader or behind none.
use Rattle.std.proofs.Common.{◌≡◌, ℕ, ◌≤◌, Bool, true, false, Option, Some, None, List, [], ◌∷◌, ◌++◌, length}
use Rattle.std.proofs.Common.{map, take, drop, refl, sym, ◌∙◌, ap, subst, arith, append-nil}
use Rattle.std.specs.Prelude.{◌==◌, if◌then◌else◌, is_some}
use Rattle.std.specs.Ordering.{nat_cmp}
use Rattle.std.specs.FinMap.{FinMap}
use Rattle.std.proofs.lemmas.List.{length-map, length-drop, take-map, drop-map, take-append-drop, take_all as take-all}
use Rattle.rent_buf.specs.Buffer.{Buffer}
use Rattle.ring_core.specs.Ring.{RingView, entered, flying_after_entry, flying_bound, flying_after, binds_next, done_after_entry}
use Rattle.ring_core.specs.Ring.{done_after, IsLater}
use Rattle.machine.specs.Lists.{numbers_where, passes}
use Rattle.ring_core.specs.declared.entry.Body.{Body}
use Rattle.ring_core.specs.declared.entry.Body.TheVariants.{Call as Calls, Cancel as Cancels, Close as Closes}
use Rattle.ring_core.specs.declared.entry.Entry.{Entry}
use Rattle.machine.specs.Ledger.{Ledger, Queued, Req, Cancel, is_owned}
use Rattle.machine.specs.Queue.{take_one, leader_behind, take_behind, take_each, take_all, make_room, with_cancel}
use Rattle.driver_core.specs.declared.slot.Slot.{Slot}
use Rattle.uring_driver.specs.Lists.{QueuedFor, queued_of, queued_in}
use Rattle.uring_driver.specs.Submissions.{room_made, TookEach}
use Rattle.uring_driver.proofs.Means.{Means}
use Rattle.uring_driver.specs.Turned.{taken_front}
use Rattle.driver_core.proofs.Counts.{where-all}
use Rattle.uring_driver.proofs.Heads.{means-view, at-head}
use Rattle.uring_driver.proofs.TakingCalls.{means-call, owned-call}
use Rattle.uring_driver.proofs.TakingCancels.{cancel-owned, means-cancel}
use Rattle.uring_driver.proofs.TakingCloses.{means-close}

-- An operation is the leader of what is behind it, by a test.
leads-by : (b : Bool) (n : ℕ) → is_some (if b then Some n else None) ≡ b
leads-by true n = refl
leads-by false n = refl

-- The entry that is taken next is bound where the ledger has a leader for it, by the body of the entry before it.
binds-by : {B : Type 0} (buffer : B → Buffer) (slots : FinMap nat_cmp (Slot B)) (L : Ledger) (e : Entry) (b : Body) →
    QueuedFor buffer slots L.ops e b → binds_next e b ≡ is_some (leader_behind L (queued_in e b))
binds-by buffer slots L e (Calls call) q =
    q.1.linked ∙ sym (ap (λ o. is_some (if passes (λ operation. operation.linked) o then Some e.serial else None)) q.1.there
    ∙ leads-by q.1.operation.linked e.serial)
binds-by buffer slots L e (Cancels key) q = refl
binds-by buffer slots L e (Closes k) q = refl

module _ {B : Type 0} (buffer : B → Buffer) (v : RingView) (slots : FinMap nat_cmp (Slot B)) (L : Ledger) (e : Entry) (rest : List Entry)
    (old : Means buffer v slots L) (first : v.queue ≡ e ∷ rest) (leader : Option ℕ) (bound : Bool) (is : bound ≡ is_some leader) where
  -- One entry is taken, by its body.
  by_body : (b : Body) → e.body ≡ b → Means buffer (record v {
    queue = rest;
    flying = flying_after_entry bound v.flying e b;
    done = done_after_entry v.done e b;
  }) slots (take_one leader (record L { queue = map queued_of rest }) (queued_in e b))
  by_body (Calls call) h = means-call buffer v slots L e rest old first leader bound is call h
  by_body (Cancels key) h = means-cancel buffer v slots L e rest old first leader key h
  by_body (Closes k) h = means-close buffer v slots L e rest old first leader k h

  -- One entry is taken: by its word in the ring, and by its number in the ledger.
  pub means-took : Means buffer (record v {
    queue = rest;
    flying = flying_after_entry bound v.flying e e.body;
    done = done_after_entry v.done e e.body;
  }) slots (take_one leader (record L { queue = map queued_of rest }) (queued_of e))
  unfolding by_body
  means-took = by_body e.body refl

  -- It binds the one behind it where the ledger has it wait.
  pub binds-is : binds_next e e.body ≡ is_some (leader_behind L (queued_of e))
  binds-is = binds-by buffer slots L e e.body (old.in_lists.in_queue 0 e (at-head v.queue e rest first))

  -- Its operation belongs to whom it did, by its body.
  owned-body : (b : Body) → e.body ≡ b → length (numbers_where is_owned 0 (take_one leader (record L { queue = map queued_of rest })
      (queued_in e b)).ops) ≡ length (numbers_where is_owned 0 L.ops)
  owned-body (Calls call) h = owned-call buffer v slots L e rest old first leader bound is call h
  owned-body (Cancels key) h = where-all is_owned with_cancel L.ops e.serial cancel-owned
  owned-body (Closes k) h = refl

  -- Its operation belongs to whom it did.
  pub owned-took : length (numbers_where is_owned 0 (take_one leader (record L { queue = map queued_of rest }) (queued_of e)).ops)
      ≡ length (numbers_where is_owned 0 L.ops)
  owned-took = owned-body e.body refl

-- Taking one entry leaves the rest of the queue as it is.
take-queue : (leader : Option ℕ) (L : Ledger) (q : Queued) (qs : List Queued) →
    record (take_one leader L q) { queue = qs } ≡ take_one leader (record L { queue = qs }) q
take-queue leader L (Req n) qs = refl
take-queue leader L (Cancel n) qs = refl
take-queue leader L (Queued.Close h) qs = refl

-- Whom an entry leads isn't read of the queue.
leader-queue : (L : Ledger) (q : Queued) (qs : List Queued) → leader_behind (record L { queue = qs }) q ≡ leader_behind L q
leader-queue L (Req n) qs = refl
leader-queue L (Cancel n) qs = refl
leader-queue L (Queued.Close h) qs = refl

-- A prefix of the queue is taken, in order, the first of it behind a leader or behind none.
means-front : {B : Type 0} (buffer : B → Buffer) (slots : FinMap nat_cmp (Slot B)) (leader : Option ℕ) (b : Bool) → b ≡ is_some leader →
    (es rest : List Entry) (v : RingView) (L : Ledger) → Means buffer v slots L → v.queue ≡ es ++ rest →
    Means buffer (record v { queue = rest; flying = flying_bound b v.flying es; done = done_after v.done es }) slots
    (take_behind leader (record L { queue = map queued_of rest }) (map queued_of es))
means-front buffer slots leader b is [] rest v L old h =
    subst (λ qs. Means buffer (record v { queue = rest }) slots (record L { queue = qs })) (old.in_lists.queue ∙ ap (map queued_of) h)
    (subst (λ xs. Means buffer (record v { queue = xs }) slots L) h old)
means-front buffer slots leader b is (e ∷ es) rest v L old h =
    let K : Ledger = record L { queue = map queued_of rest } in
    let M : Ledger = record L { queue = map queued_of (es ++ rest) } in
    let next : Option ℕ = leader_behind K (queued_of e) in
    let w : RingView = record v {
      queue = es ++ rest;
      flying = flying_after_entry b v.flying e e.body;
      done = done_after_entry v.done e e.body;
    } in
    subst (λ N. Means buffer (record w {
      queue = rest;
      flying = flying_bound (binds_next e e.body) w.flying es;
      done = done_after w.done es;
    }) slots (take_behind next N (map queued_of es)))
    (take-queue leader M (queued_of e) (map queued_of rest))
    (means-front buffer slots next (binds_next e e.body)
    (binds-is buffer v slots L e (es ++ rest) old h leader b is ∙ ap is_some (sym (leader-queue L (queued_of e) (map queued_of rest))))
    es rest w (take_one leader M (queued_of e)) (means-took buffer v slots L e (es ++ rest) old h leader b is) refl)

-- Operations belong to whom they did.
owned-front : {B : Type 0} (buffer : B → Buffer) (slots : FinMap nat_cmp (Slot B)) (leader : Option ℕ) (b : Bool) → b ≡ is_some leader →
    (es rest : List Entry) (v : RingView) (L : Ledger) → Means buffer v slots L → v.queue ≡ es ++ rest →
    length (numbers_where is_owned 0 (take_behind leader (record L { queue = map queued_of rest }) (map queued_of es)).ops)
    ≡ length (numbers_where is_owned 0 L.ops)
owned-front buffer slots leader b is [] rest v L old h = refl
owned-front buffer slots leader b is (e ∷ es) rest v L old h =
    let K : Ledger = record L { queue = map queued_of rest } in
    let M : Ledger = record L { queue = map queued_of (es ++ rest) } in
    let next : Option ℕ = leader_behind K (queued_of e) in
    ap (λ N. length (numbers_where is_owned 0 (take_behind next N (map queued_of es)).ops))
    (sym (take-queue leader M (queued_of e) (map queued_of rest)))
    ∙ owned-front buffer slots next (binds_next e e.body)
    (binds-is buffer v slots L e (es ++ rest) old h leader b is ∙ ap is_some (sym (leader-queue L (queued_of e) (map queued_of rest))))
    es rest (record v {
      queue = es ++ rest;
      flying = flying_after_entry b v.flying e e.body;
      done = done_after_entry v.done e e.body;
    }) (take_one leader M (queued_of e)) (means-took buffer v slots L e (es ++ rest) old h leader b is) refl
    ∙ owned-took buffer v slots L e (es ++ rest) old h leader b is

module _ {B : Type 0} (buffer : B → Buffer) (v : RingView) (slots : FinMap nat_cmp (Slot B)) (L : Ledger)
    (old : Means buffer v slots L) where
  -- The whole queue is taken.
  pub means-taken : Means buffer (entered v) slots (take_all L)
  means-taken = subst (λ qs. Means buffer (entered v) slots (take_each (record L { queue = [] }) qs)) (sym old.in_lists.queue)
      (means-front buffer slots None false refl v.queue [] v L old (sym (append-nil v.queue)))

  -- Operations belong to whom they did.
  pub owned-taken : length (numbers_where is_owned 0 (take_all L).ops) ≡ length (numbers_where is_owned 0 L.ops)
  owned-taken = ap (λ qs. length (numbers_where is_owned 0 (take_each (record L { queue = [] }) qs).ops)) old.in_lists.queue
      ∙ owned-front buffer slots None false refl v.queue [] v L old (sym (append-nil v.queue))

  -- The whole queue is taken, or nothing is.
  by_test : (b : Bool) → Means buffer (if b then entered v else v) slots (if b then take_all L else L)
  by_test true = means-taken
  by_test false = old

  -- Operations belong to whom they did in both cases.
  owned_by_test : (b : Bool) → length (numbers_where is_owned 0 (if b then take_all L else L).ops) ≡ length (numbers_where is_owned 0 L.ops)
  owned_by_test true = owned-taken
  owned_by_test false = refl

  -- Room is made in both.
  pub means-room : Means buffer (room_made v) slots (make_room L)
  means-room =
      let e : length v.queue ≡ length L.queue = sym (ap length old.in_lists.queue ∙ length-map v.queue queued_of) in
      subst (λ b. Means buffer (room_made v) slots (if b then take_all L else L))
      (ap (λ n. n == v.capacity) e ∙ ap (λ n. length L.queue == n) old.capacity) (by_test (length v.queue == v.capacity))

  -- Operations belong to whom they did once room is made.
  pub owned-room : length (numbers_where is_owned 0 (make_room L).ops) ≡ length (numbers_where is_owned 0 L.ops)
  owned-room = owned_by_test (length L.queue == L.capacity)

  -- A prefix of the queue is taken in both. One enter took it, since the queue fits.
  pub means-took-front : (w : RingView) (count : ℕ) (takings : List (List Entry)) → length v.queue ≤ v.capacity → IsLater v w →
      TookEach takings count v w → Means buffer w slots (taken_front count L)
  means-took-front w count takings fits later took =
      let rest : map queued_of (drop count v.queue) ≡ drop count L.queue = sym (ap (drop count) old.in_lists.queue
      ∙ drop-map queued_of count v.queue) in
      let front : map queued_of (take count v.queue) ≡ take count L.queue = sym (ap (take count) old.in_lists.queue
      ∙ take-map queued_of count v.queue) in
      subst (λ qs. Means buffer w slots (take_each (record L { queue = drop count L.queue }) qs)) front
      (subst (λ qs. Means buffer w slots (take_each (record L { queue = qs }) (map queued_of (take count v.queue)))) rest
      (means-view buffer (record v {
        queue = drop count v.queue;
        flying = flying_after v.flying (take count v.queue);
        done = done_after v.done (take count v.queue);
      }) w slots _ later.same_capacity took.queue (took.once fits) took.done took.world
      (means-front buffer slots None false refl (take count v.queue) (drop count v.queue) v L old (sym (take-append-drop count v.queue)))))

  -- All of it is taken where none is left.
  pub means-took-all : (w : RingView) (count : ℕ) (takings : List (List Entry)) → length v.queue ≤ v.capacity → IsLater v w →
      TookEach takings count v w → w.queue ≡ [] → Means buffer w slots (take_all L)
  means-took-all w count takings fits later took none =
      let all : take count v.queue ≡ v.queue = take-all count v.queue (let l = length-drop count v.queue in
      let n = ap length (sym took.queue ∙ none) in omega (arith, l, n)) in
      means-view buffer (entered v) w slots (take_all L) later.same_capacity none
      (took.once fits ∙ ap (flying_after v.flying) all)
      (took.done ∙ ap (done_after v.done) all) took.world means-taken
