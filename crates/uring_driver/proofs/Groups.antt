-- What the calls on cancel groups do to a driver that stands for a ledger.
use Rattle.std.proofs.Common.{◌≡◌, ℕ, zero, suc, ◌+◌, ◌<◌, ◌≤◌, Bool, true, false, List, [], ◌∷◌, ◌++◌, map, length, take, Option, None}
use Rattle.std.proofs.Common.{Some, IsTrue, refl, sym, ◌∙◌, ap, subst, arith, append_assoc, append-nil, option_map, option_to_list}
use Rattle.std.specs.Prelude.{IsSome, slice_get, slice_index_or, drop, Result, Ok, Err, IfOk, OnOk}
use Rattle.std.specs.Ordering.{nat_cmp}
use Rattle.std.specs.FinMap.{FinMap, get, len}
use Rattle.std.proofs.Math.Seq.{take-suc}
use Rattle.std.proofs.lemmas.List.{take-append-drop, length-map}
use Rattle.std.proofs.lemmas.List.Concat.{flat_map-append}
use Rattle.std.proofs.lemmas.List.Elements.{All-contains}
use Rattle.std.specs.Result.{is_err}
use Rattle.rent_buf.specs.Buffer.{Buffer}
use Rattle.cancel_core.specs.Group.{group_at}
use Rattle.ring_core.specs.declared.entry.Entry.{Entry}
use Rattle.machine.specs.declared.ledger.Event.TheVariants.{NewCanceller, NewHandle, CancelAll}
use Rattle.machine.specs.declared.ledger.Reply.TheVariants.{Canceller, CancelHandle, Cancels}
use Rattle.ring_core.specs.Entry.{cancel_entry}
use Rattle.machine.specs.Ledger.{Ledger, Queued, Cancel, is_marked, members}
use Rattle.machine.specs.Lists.{has_number}
use Rattle.machine.specs.Queue.{push, push_each}
use Rattle.ring_core.specs.Ring.{RingView}
use Rattle.machine.specs.Step.{new_canceller_step, new_handle_step, with_mark, cancel_all_step}
use Rattle.machine.proofs.Leaving.{has-first, has-later}
use Rattle.machine.proofs.Staying.{stays-length, stays-push_each}
use Rattle.driver_core.specs.declared.members.places.Place.{Place}
use Rattle.driver_core.specs.declared.slot.Slot.{Slot}
use Rattle.driver_core.specs.Answers.{CancellerFor, HandleFor, CancelsFor}
use Rattle.driver_core.specs.Groups.{AreInSlots, GroupsStand, is_canceled}
use Rattle.driver_core.specs.Members.{Membership, HaveKeys, key_at, with_fresh, cancels}
use Rattle.driver_core.proofs.Early.{listed-early}
use Rattle.driver_core.proofs.Seen.{AreEarly, early-push}
use Rattle.driver_core.proofs.Grouping.{groups-fresh, groups-handle, groups-canceled, stands-marked}
use Rattle.driver_core.proofs.Joining.{has-contains}
use Rattle.driver_core.proofs.Numbers.{owner}
use Rattle.uring_driver.specs.declared.uring.IoUringDriver.{IoUringDriver}
use Rattle.uring_driver.specs.Groups.{cancel_at, cancels_of}
use Rattle.uring_driver.specs.Holding.{Holding, places, HandlesStand}
use Rattle.uring_driver.specs.Pending.{Pending}
use Rattle.uring_driver.specs.Reaps.{FitsQueue, PendingJoins}
use Rattle.uring_driver.specs.Stands.{Stands, Answers}
use Rattle.uring_driver.specs.Submissions.{pending_ring, Posts, PostsEach}
use Rattle.uring_driver.specs.Uring.{room_in, whole_ring}
use Rattle.uring_driver.proofs.Answering.{lawful-of, fits-of, answers-parts}
use Rattle.uring_driver.proofs.Giving.{owed-room}
use Rattle.uring_driver.proofs.Holders.{handles-push}
use Rattle.uring_driver.proofs.Means.{Means, means-of}
use Rattle.uring_driver.proofs.Posting.{ArePushed, posts-cancel}
use Rattle.uring_driver.proofs.Steps.{step-canceller, step-handle, step-cancel_all}

-- A ledger with other groups, cancellers and cancel handles.
abbrev regrouped : Ledger → List ℕ → List ℕ → List Bool → Ledger
regrouped L cancellers handles groups = record L { cancellers = cancellers; cancel_handles = handles; groups = groups }

-- A ring and slots mean it as they meant the ledger.
means-regrouped : {B : Type 0} (buffer : B → Buffer) (v : RingView) (slots : FinMap nat_cmp (Slot B)) (L : Ledger)
    (cancellers handles : List ℕ) (groups : List Bool) → Means buffer v slots L →
    Means buffer v slots (regrouped L cancellers handles groups)
means-regrouped buffer v slots L cancellers handles groups old = record {
  capacity = old.capacity;
  world = old.world;
  in_slots = old.in_slots;
  in_lists = (let l = old.in_lists in record {
    queue = l.queue;
    flying = l.flying;
    done = l.done;
    in_queue = l.in_queue;
    in_flight = l.in_flight;
    in_done = l.in_done;
    queue_once = l.queue_once;
    flight_once = l.flight_once;
    done_once = l.done_once;
    cancels = l.cancels;
  });
}

-- So do holders and closes.
handles-regrouped : (holding : Holding) (L : Ledger) (cancellers handles : List ℕ) (groups : List Bool) → HandlesStand holding L →
    HandlesStand holding (regrouped L cancellers handles groups)
handles-regrouped holding L cancellers handles groups old =
    record { holders = record { users = old.holders.users; operations = old.holders.operations }; closing = old.closing }

-- How many groups a ledger has for which groups stand.
count-groups : (m : Membership) (L : Ledger) → GroupsStand m L → length m.groups ≡ length L.groups
count-groups m L stand = sym (length-map m.groups (λ g. g.canceled)) ∙ ap length stand.marks

module _ {R B : Type 0} (view : R → RingView) (buffer : B → Buffer) where
  -- A driver with one more group stands for the ledger with a new canceller.
  makes-canceller : (d : IoUringDriver R B) (L : Ledger) → Stands view buffer d L → (c : ℕ) → c ≡ length d.members.groups →
      CancellerFor (Stands view buffer) L c (record d { members = with_fresh d.members })
  makes-canceller d L old c is =
      let new : IoUringDriver R B = record d { members = with_fresh d.members } in
      let M : Ledger = new_canceller_step L in
      record {
        answers = answers-parts view buffer d new L M NewCanceller (Canceller (length L.cancellers)) old (step-canceller L) refl
            (means-regrouped buffer (whole_ring view d) d.slots.values L M.cancellers M.cancel_handles M.groups (means-of old))
            old.operations.numbered
            (handles-regrouped d.holding L M.cancellers M.cancel_handles M.groups old.handles)
            (groups-fresh d.members L old.groups) old.room (fits-of view d old) refl;
        fresh = is ∙ count-groups d.members L old.groups;
      }

  -- What a new canceller answers.
  pub canceller-made : {E : Type 0} (result : Result ℕ E) (d : IoUringDriver R B) (m : Membership) →
      IfOk result (λ c. c ≡ length d.members.groups) → OnOk result (m ≡ with_fresh d.members) →
      IfOk result (λ c. (L : Ledger) → Stands view buffer d L → CancellerFor (Stands view buffer) L c (record d { members = m }))
  canceller-made (Ok c) d m number made = λ L old.
      subst (λ x. CancellerFor (Stands view buffer) L c (record d { members = x })) (sym made) (makes-canceller d L old c number)
  canceller-made (Err e) d m number made = tt

  -- A driver stands for the ledger with a new cancel handle too.
  pub handle-made : (d : IoUringDriver R B) (L : Ledger) → Stands view buffer d L → (g : ℕ) → HandleFor (Stands view buffer) L g d
  handle-made d L old g = λ k there.
      let M : Ledger = new_handle_step L k in
      answers-parts view buffer d d L M (NewHandle k) (CancelHandle (length L.cancel_handles)) old (step-handle L k g there) refl
      (means-regrouped buffer (whole_ring view d) d.slots.values L M.cancellers M.cancel_handles M.groups (means-of old))
      old.operations.numbered
      (handles-regrouped d.holding L M.cancellers M.cancel_handles M.groups old.handles)
      (groups-handle d.members L k old.groups) old.room (fits-of view d old) refl

  -- A group is canceled exactly where it is marked in the ledger.
  pub canceled-marked : (d : IoUringDriver R B) (L : Ledger) → Stands view buffer d L → (g : ℕ) → g < length d.members.groups →
      is_canceled d.members g ≡ is_marked L g
  canceled-marked d L old g within = sym (stands-marked d.members L old.groups g within)

-- The cancel of an operation that has a key.
one-cancel : (m : Membership) (n key : ℕ) (numbers : List ℕ) → key_at m n ≡ Some key →
    cancels_of m (n ∷ numbers) ≡ cancel_entry key n ∷ cancels_of m numbers
one-cancel m n key numbers at = ap (λ x. option_to_list (option_map (λ k. cancel_entry k n) x) ++ cancels_of m numbers) at

-- The key of an operation that has one, and its place.
place-of : (m : Membership) (n : ℕ) → IsSome (key_at m n) → (place : Place) × (get m.places n ≡ Some place)
place-of m n some = by (get m.places n) refl some
  where
    by : (x : Option Place) → get m.places n ≡ x → IsSome (option_map (λ place. place.key) x) →
        (place : Place) × (get m.places n ≡ Some place)
    by (Some place) at h = (place, at)
    by None at h = (let f : ⊥ = cc in absurd f)

-- There is a cancel for each of these operations, at most.
pub few-cancels : (m : Membership) (numbers : List ℕ) → length (cancels_of m numbers) ≤ length numbers
few-cancels m [] = omega arith
few-cancels m (n ∷ numbers) = by (key_at m n) (few-cancels m numbers)
  where
    by : (x : Option ℕ) → length (cancels_of m numbers) ≤ length numbers →
        length (option_to_list (option_map (λ k. cancel_entry k n) x) ++ cancels_of m numbers) ≤ suc (length numbers)
    by None rest = omega (arith, rest)
    by (Some k) rest = omega (arith, rest)

-- The first so many are no more.
pub few-taken : (i : ℕ) (xs : List ℕ) → length (take i xs) ≤ i
few-taken zero xs = omega arith
few-taken (suc i) [] = omega arith
few-taken (suc i) (x ∷ xs) = (let rest = few-taken i xs in omega (arith, rest))

-- The cancels of one operation more.
pub more-cancels : (m : Membership) (numbers : List ℕ) (i key : ℕ) → i < length numbers → key_at m (slice_index_or numbers i 0) ≡ Some key →
    cancels_of m (take (i + 1) numbers) ≡ cancels_of m (take i numbers) ++ cancel_entry key (slice_index_or numbers i 0) ∷ []
more-cancels m numbers i key within at =
    let n : ℕ = slice_index_or numbers i 0 in
    let next : i + 1 ≡ suc i = omega arith in
    ap (λ j. cancels_of m (take j numbers)) next ∙ ap (cancels_of m) (take-suc numbers i 0 within)
    ∙ flat_map-append (cancel_at m) (take i numbers) (n ∷ [])
    ∙ ap (λ es. cancels_of m (take i numbers) ++ es) (one-cancel m n key [] at)

-- There is a cancel for each of these operations.
pub many-cancels : (m : Membership) (numbers : List ℕ) → ((n : ℕ) → has_number n numbers ≡ true → IsSome (key_at m n)) →
    length (cancels_of m numbers) ≡ length numbers
many-cancels m [] keys = refl
many-cancels m (n ∷ numbers) keys =
    let p = place-of m n (keys n (has-first n numbers)) in
    ap length (one-cancel m n p.0.key numbers (ap (option_map (λ place. place.key)) p.1))
    ∙ ap suc (many-cancels m numbers (λ k h. keys k (has-later k n numbers h)))

module _ {R : Type 0} (view : R → RingView) (tells steady : Bool) where
  -- One more entry was posted behind others.
  pub posts-more : (old mid new : Pending R) (es : List Entry) (e : Entry) → PostsEach view tells steady old mid es →
      Posts view tells steady mid new e → PostsEach view tells steady old new (es ++ e ∷ [])
  posts-more old mid new [] e same last = (new, subst (λ p. Posts view tells steady p new e) same last, refl)
  posts-more old mid new (x ∷ es) e posts last = (posts.0, posts.1, posts-more posts.0 mid new es e posts.2 last)

  -- What was posted took so much of the room that was reserved.
  pub posts-room : (old new : Pending R) (es : List Entry) → length es ≤ old.room → PostsEach view tells steady old new es →
      new.room + length es ≡ old.room
  posts-room old new [] few same = (let r = ap (λ p. p.room) same in omega (arith, r))
  posts-room old new (e ∷ es) few posts =
      let one = posts.1.room (omega (arith, few)) in
      let rest = posts-room posts.0 new es (omega (arith, few, one)) posts.2 in
      omega (arith, one, rest)

  -- What was posted joined what is pending, of which only the first entries were taken.
  pub posts-join : IsTrue tells → (old new : Pending R) (es : List Entry) → length es ≤ old.room → PostsEach view tells steady old new es →
      PendingJoins (pending_ring view old).queue es (pending_ring view new).queue
  posts-join shows old new [] few same = record {
    entered = [];
    moved = append-nil (pending_ring view old).queue ∙ sym (ap (λ p. (pending_ring view p).queue) same);
  }
  posts-join shows old new (e ∷ es) few posts =
      let mid = posts.0 in
      let told = posts.1.told (omega (arith, few)) shows in
      let front : List Entry = take told.1.count (pending_ring view old).queue in
      let rest = drop told.1.count (pending_ring view old).queue in
      let one = posts.1.room (omega (arith, few)) in
      let more = posts-join shows mid new es (omega (arith, few, one)) posts.2 in
      let next : (pending_ring view mid).queue ≡ rest ++ e ∷ [] = ap (λ v. v.queue) told.2 ∙ ap (λ q. q ++ e ∷ []) told.1.took.queue in
      record {
        entered = front ++ more.entered;
        moved =
            ap (λ q. q ++ (e ∷ es)) (sym (take-append-drop told.1.count (pending_ring view old).queue))
            ∙ append_assoc front rest (e ∷ es) ∙ ap (λ q. front ++ q) (sym (append_assoc rest (e ∷ []) es))
            ∙ ap (λ q. front ++ (q ++ es)) (sym next) ∙ ap (λ q. front ++ q) more.moved
            ∙ sym (append_assoc front more.entered (pending_ring view new).queue);
      }

module _ {R B : Type 0} (view : R → RingView) (buffer : B → Buffer) (tells steady : Bool) (slots : FinMap nat_cmp (Slot B))
    (always : IsTrue steady) (m : Membership) (in_slots : AreInSlots m slots) where
  -- The cancels of operations that are in slots are posted, one after another.
  posts-cancels : (old new : Pending R) (L : Ledger) (numbers : List ℕ) → Means buffer (pending_ring view old) slots L →
      ((n : ℕ) → has_number n numbers ≡ true → IsSome (key_at m n)) → length numbers ≤ old.room → FitsQueue view old →
      PostsEach view tells steady old new (cancels_of m numbers) →
      ArePushed view buffer slots old new (length numbers) (push_each L (map Queued.Cancel numbers))
  posts-cancels old new L [] means keys room fits same =
      subst (λ p. ArePushed view buffer slots old p 0 L) (sym same)
      (record { means = means; room = omega arith; fits = fits; capacity = refl })
  posts-cancels old new L (n ∷ numbers) means keys room fits posts =
      let p = place-of m n (keys n (has-first n numbers)) in
      let own = owner slots p.0.key n (in_slots n p.0 p.1) in
      let each = subst (λ es. PostsEach view tells steady old new es)
      (one-cancel m n p.0.key numbers (ap (option_map (λ place. place.key)) p.1)) posts in
      let one = posts-cancel view buffer tells steady slots always old each.0 L p.0.key own.slot n means own.there own.serial
      (omega (arith, room)) fits each.1 in
      let left = one.room in
      let rest = posts-cancels each.0 new (push L (Cancel n)) numbers one.means (λ k h. keys k (has-later k n numbers h))
      (omega (arith, room, left)) one.fits each.2 in
      record {
        means = rest.means;
        room = (let r = rest.room in omega (arith, left, r));
        fits = rest.fits;
        capacity = rest.capacity ∙ one.capacity;
      }

-- The cancels of operations leave who holds handles.
handles-cancels : (holding : Holding) (L : Ledger) (numbers : List ℕ) → HandlesStand holding L → AreEarly L.ops L.queue →
    HandlesStand holding (push_each L (map Queued.Cancel numbers))
handles-cancels holding L [] stand early = stand
handles-cancels holding L (n ∷ numbers) stand early =
    handles-cancels holding (push L (Cancel n)) numbers (handles-push holding L stand (Cancel n) (λ h. refl) early)
    (early-push L (Cancel n) (λ k e. (let f : ⊥ = cc in f)) early)

-- A driver whose group was canceled, and the cancels of whose members were posted over a steady ring.
module _ {R B : Type 0} (view : R → RingView) (buffer : B → Buffer) (tells steady : Bool) (always : IsTrue steady)
    (d new : IoUringDriver R B) (L : Ledger) (c : ℕ) (numbers : List ℕ) (old : Stands view buffer d L)
    (within : c < length d.members.groups)
    (in_slots : AreInSlots d.members d.slots.values) (keys : (n : ℕ) → has_number n numbers ≡ true → IsSome (key_at d.members n))
    (is : numbers ≡ (group_at d.members.groups c).members) (few : length numbers ≤ room_in d)
    (posts : PostsEach view tells steady d.ring new.ring (cancels_of d.members numbers))
    (room : len d.slots.values + places d.holding ≤ room_in new) (same : new.slots.values ≡ d.slots.values)
    (given : new.given ≡ d.given) (holding : new.holding ≡ d.holding) (marked : new.members ≡ cancels d.members c) where
  abbrev marked_ledger : Ledger
  marked_ledger = with_mark L c

  -- The cancels were pushed in the ledger in which the group is marked.
  pushed-all : ArePushed view buffer d.slots.values d.ring new.ring (length numbers)
      (push_each marked_ledger (map Queued.Cancel numbers))
  pushed-all = posts-cancels view buffer tells steady d.slots.values always d.members in_slots d.ring new.ring marked_ledger numbers
      (means-regrouped buffer (whole_ring view d) d.slots.values L L.cancellers L.cancel_handles marked_ledger.groups (means-of old))
      keys few (fits-of view d old) posts

  answers-all : (k : ℕ) → slice_get L.cancellers k ≡ Some c → Answers view buffer L (CancelAll k) (Cancels numbers) new
  answers-all k there =
      let M : Ledger = cancel_all_step L k c in
      let named : numbers ≡ members L c = is ∙ old.groups.members c in
      let e = step-cancel_all L k c there ∙ ap (λ ns. (M, Cancels ns)) (sym named) in
      let means = subst (λ ns. Means buffer (whole_ring view new) d.slots.values (push_each marked_ledger (map Queued.Cancel ns))) named
      pushed-all.means in
      let N : Ledger = push_each marked_ledger (map Queued.Cancel (members L c)) in
      let now = subst (λ s. Means buffer (whole_ring view new) s M) (sym same)
      (means-regrouped buffer (whole_ring view new) d.slots.values N M.cancellers M.cancel_handles M.groups means) in
      answers-parts view buffer d new L M (CancelAll k) (Cancels numbers) old e pushed-all.capacity now
      (given ∙ old.operations.numbered ∙ sym (stays-length (stays-push_each marked_ledger (map Queued.Cancel (members L c)))))
      (subst (λ h. HandlesStand h M) (sym holding)
      (handles-regrouped d.holding N M.cancellers M.cancel_handles M.groups
      (handles-cancels d.holding marked_ledger (members L c)
      (handles-regrouped d.holding L L.cancellers L.cancel_handles marked_ledger.groups old.handles)
      (listed-early L (lawful-of old).lists))))
      (subst (λ m. GroupsStand m M) (sym marked)
      (groups-canceled buffer d.slots.values L d.members k c old.operations.in_slots
      (subst (λ s. Means buffer (whole_ring view new) s M) same now).in_slots within old.groups))
      (owed-room buffer new.slots.values M new.holding (room_in new) now.in_slots
      (let a = ap len same in let b = ap places holding in omega (arith, a, b, room)))
      pushed-all.fits (stays-push_each marked_ledger (map Queued.Cancel (members L c))).world

  -- It answers what the machine does.
  pub cancels-all : (fresh : ℕ) → fresh ≡ length d.members.groups → CancelsFor (Stands view buffer) L c numbers fresh new
  cancels-all fresh number = record { answers = answers-all; renewed = number ∙ count-groups d.members L old.groups }

-- What an Ok shows holds where there is no error.
pub unfailed : {T E P : Type 0} (r : Result T E) → OnOk r P → is_err r ≡ false → P
unfailed (Ok t) shows none = shows
unfailed (Err e) shows none = (let f : ⊥ = cc in absurd f)

-- Operations that have keys after their group was canceled had them before.
pub keyed-before : (m m' : Membership) (c : ℕ) (numbers : List ℕ) → m' ≡ cancels m c → HaveKeys m' numbers → (n : ℕ) →
    has_number n numbers ≡ true → IsSome (key_at m n)
keyed-before m m' c numbers is keys n there =
    subst (λ x. IsSome (key_at x n)) is
    (All-contains (λ k. IsSome (key_at m' k)) numbers n keys (has-contains n numbers there))
