-- Holders and closes stand for those of a ledger, once an operation or a user left.
use Rattle.std.proofs.Common.{◌≡◌, ◌∙◌, inl, inr, ℕ, zero, suc, ◌+◌, ◌-◌, ◌<◌, ◌≤◌, Bool, true, false, not, ◌==◌}
use Rattle.std.proofs.Common.{List, [], ◌∷◌, length, map, Some, refl, sym, ap, subst, arith, IsTrue, if◌then◌else◌, Option, None}
use Rattle.std.specs.Prelude.{◌||◌, ◌&&◌, is_some, nat_lt, slice_get}
use Rattle.std.proofs.Math.Bool.{or-false, or_assoc}
use Rattle.std.proofs.lemmas.Bool.{or_right}
use Rattle.std.proofs.lemmas.Bool.Decides.{nat_tests}
use Rattle.std.specs.Ordering.{nat_cmp}
use Rattle.std.specs.FinMap.{FinMap, get, insert}
use Rattle.handle_core.specs.Table.{Table, with_holders, by_operation}
use Rattle.rent_buf.specs.Buffer.{Buffer}
use Rattle.machine.specs.declared.world.TheConstants.{MOST_HANDLES}
use Rattle.machine.specs.Lists.{has_number, numbers_where}
use Rattle.machine.specs.Lists.{one_if}
use Rattle.ring_core.specs.Entry.{close_entry}
use Rattle.ring_core.specs.Ring.{RingView}
use Rattle.machine.specs.Ledger.{Ledger, Operation, Queued, Req, Cancel, Place, InQueue, InFlight, InDone, Reaped, Gone}
use Rattle.machine.specs.Ledger.{is_live, is_owned}
use Rattle.machine.specs.Queue.{canceled_at, with_take, with_cancel, take_one, leader_behind, take_behind, take_all, push, push_each}
use Rattle.machine.specs.Queue.{with_gone, leave, became_unheld}
use Rattle.machine.specs.Closes.{close_count, closes_queued, is_closing}
use Rattle.machine.proofs.Numbers.{same-or-not, equal-other}
use Rattle.machine.proofs.Closing.{count-push_each}
use Rattle.machine.proofs.Numbers.{or-false as or-left}
use Rattle.machine.proofs.Holders.{AreLive, live-take_one, live-push_close}
use Rattle.machine.proofs.Lawful.{Lawful, listed-live, listed-unasked}
use Rattle.machine.proofs.Taking.{in_queue}
use Rattle.machine.proofs.Turning.{live-gone}
use Rattle.ring_core.specs.declared.entry.Entry.{Entry}
use Rattle.machine.proofs.Where.{where-kept}
use Rattle.machine.proofs.Staying.{stays-length, stays-push_each}
use Rattle.driver_core.specs.Holds.{HoldersStand}
use Rattle.driver_core.proofs.Seen.{AreEarly, seen-push_closes}
use Rattle.driver_core.proofs.Early.{early-gone, listed-early}
use Rattle.driver_core.proofs.Standing.{holders-stand-same}
use Rattle.driver_core.specs.declared.slot.Slot.{Slot}
use Rattle.driver_core.proofs.Maps.{put-same, put-other}
use Rattle.uring_driver.specs.Pending.{Pending}
use Rattle.uring_driver.specs.Submissions.{pending_ring, PostsEach}
use Rattle.uring_driver.proofs.Means.{Means}
use Rattle.uring_driver.proofs.Posting.{ArePushed, posts-closes}
use Rattle.driver_core.proofs.Distinct.{equal-is}
use Rattle.uring_driver.specs.Reaps.{FitsQueue}
use Rattle.uring_driver.specs.Holding.{Holding, closes, with_added, HandlesStand}

-- A close that joined what is closing is there, and all else stays.
closing-one : (closing : Table) (h k spare : ℕ) →
    is_some (get (record (with_holders closing h by_operation) { spare = spare }).holders k) ≡ (is_some (get closing.holders k) || (k == h))
closing-one closing h k spare = elim (same-or-not k h) [
  | inl e ↦ (
      ap (λ x. is_some (get (insert closing.holders h by_operation) x)) e ∙ ap is_some (put-same closing.holders h by_operation)
      ∙ sym (or_right (is_some (get closing.holders k)) (k == h) (equal-is k h e)))
  | inr e ↦ (
      ap is_some (put-other closing.holders h by_operation k e)
      ∙ sym (or-left (is_some (get closing.holders k)) (k == h) (equal-other k h e)))
]

-- What is closing once closes joined: what was, and these.
pub closing-joined : (closing : Table) (handles : List ℕ) (k : ℕ) →
    is_some (get (with_added closing handles).holders k) ≡ (is_some (get closing.holders k) || has_number k handles)
closing-joined closing [] k = sym (or-false (is_some (get closing.holders k)))
closing-joined closing (h ∷ handles) k =
    closing-joined (record (with_holders closing h by_operation) { spare = closing.spare - 1 }) handles k
    ∙ ap (λ b. b || has_number k handles) (closing-one closing h k (closing.spare - 1))
    ∙ or_assoc (is_some (get closing.holders k)) (k == h) (has_number k handles)

-- A count to which none comes is above zero where it was.
none-more : (a : ℕ) → nat_lt 0 (a + 0) ≡ (nat_lt 0 a || false)
none-more a = (let same : nat_lt 0 (a + 0) ≡ nat_lt 0 a = grind (arith, nat_tests) in same) ∙ sym (or-false (nat_lt 0 a))

-- A handle is closing where it was, or its close is among those that were pushed.
pub closes-pushed : (a k : ℕ) (handles : List ℕ) →
    nat_lt 0 (a + closes_queued k (map Queued.Close handles)) ≡ (nat_lt 0 a || has_number k handles)
closes-pushed a k [] = none-more a
closes-pushed a k (h ∷ handles) =
    ap (nat_lt 0) (regrouped a (one_if (k == h)) (closes_queued k (map Queued.Close handles)))
    ∙ closes-pushed (a + one_if (k == h)) k handles
    ∙ ap (λ b. b || has_number k handles) (one-more a (k == h))
    ∙ or_assoc (nat_lt 0 a) (k == h) (has_number k handles)
  where
    regrouped : (a b c : ℕ) → a + (b + c) ≡ (a + b) + c
    regrouped a b c = omega arith

    one-more : (a : ℕ) (b : Bool) → nat_lt 0 (a + one_if b) ≡ (nat_lt 0 a || b)
    one-more a true = above a (nat_lt 0 a) refl where
      above : (a : ℕ) (b : Bool) → nat_lt 0 a ≡ b → nat_lt 0 (a + 1) ≡ (b || true)
      above a true h = grind (arith, nat_tests)
      above a false h = grind (arith, nat_tests)
    one-more a false = none-more a

-- Once an operation left, whose handles had no close before, holders and closes stand for the ledger that it left: its table stands for
-- that in which it is gone, and these are the handles whose holders became none.
pub handles-left : (holding new : Holding) (L : Ledger) (n : ℕ) (us : List ℕ) → ((h : ℕ) → closes holding h ≡ is_closing L h) →
    HoldersStand new.table (with_gone L n) → us ≡ became_unheld L (with_gone L n) →
    new.closing ≡ with_added holding.closing us → AreEarly (with_gone L n).ops L.queue → HandlesStand new (leave L n)
handles-left holding new L n us closing stand are is requests =
    let cs = became_unheld L (with_gone L n) in
    record {
      holders = holders-stand-same stand (seen-push_closes (with_gone L n) cs requests);
      closing = λ h.
          ap (λ t. is_some (get t.holders h)) is ∙ ap (λ xs. is_some (get (with_added holding.closing xs).holders h)) are
          ∙ closing-joined holding.closing cs h ∙ ap (λ b. b || has_number h cs) (closing h)
          ∙ sym (ap (nat_lt 0) (count-push_each (with_gone L n) (map Queued.Close cs) h) ∙ closes-pushed (close_count L h) h cs);
    }

-- A cancel that was taken leaves whether its operation is its user's.
owned-canceled : (p : Place) (o : Operation) → is_owned (canceled_at p o) ≡ is_owned o
owned-canceled InQueue o = refl
owned-canceled InFlight o = refl
owned-canceled (InDone outcome) o = refl
owned-canceled (Reaped outcome) o = refl
owned-canceled Gone o = refl

-- Taking one entry leaves which operations are their user's.
owned-take_one : (leader : Option ℕ) (L : Ledger) (entry : Queued) → AreLive L.ops (entry ∷ []) →
    numbers_where is_owned 0 (take_one leader L entry).ops ≡ numbers_where is_owned 0 L.ops
owned-take_one leader L (Req n) requests =
    where-kept is_owned (with_take leader) L.ops n 0 (λ o there. ap (λ b. b && not o.dropped) (sym (requests.live 0 n o refl there)))
owned-take_one leader L (Cancel n) requests = where-kept is_owned with_cancel L.ops n 0 (λ o there. owned-canceled o.place o)
owned-take_one leader L (Queued.Close h) requests = refl

-- Taking entries does, whatever the first of them follows.
owned-take_behind : (leader : Option ℕ) (L : Ledger) (entries : List Queued) → AreLive L.ops entries →
    numbers_where is_owned 0 (take_behind leader L entries).ops ≡ numbers_where is_owned 0 L.ops
owned-take_behind leader L [] requests = refl
owned-take_behind leader L (entry ∷ entries) requests =
    owned-take_behind (leader_behind L entry) (take_one leader L entry) entries (live-take_one leader L entry entries requests)
    ∙ owned-take_one leader L entry (record { live = λ place n o asks there. first-live place n o asks there })
  where
    first-live : (place n : ℕ) (o : Operation) → slice_get (entry ∷ []) place ≡ Some (Req n) → slice_get L.ops n ≡ Some o → is_live o ≡ true
    first-live zero n o asks there = requests.live 0 n o asks there
    first-live (suc place) n o asks there = (let f : ⊥ = cc in absurd f)

-- Making room does.
owned-made : (b : Bool) (L : Ledger) → AreLive L.ops L.queue →
    numbers_where is_owned 0 (if b then take_all L else L).ops ≡ numbers_where is_owned 0 L.ops
owned-made true L requests = owned-take_behind None (record L { queue = [] }) L.queue requests
owned-made false L requests = refl

-- Pushing an entry leaves which operations are their user's.
pub owned-push : (L : Ledger) (entry : Queued) → AreLive L.ops L.queue →
    numbers_where is_owned 0 (push L entry).ops ≡ numbers_where is_owned 0 L.ops
owned-push L entry requests = owned-made (length L.queue == L.capacity) L requests

-- Pushing closes leaves which operations are their user's.
pub owned-push_closes : (L : Ledger) (handles : List ℕ) → AreLive L.ops L.queue →
    numbers_where is_owned 0 (push_each L (map Queued.Close handles)).ops ≡ numbers_where is_owned 0 L.ops
owned-push_closes L [] requests = refl
owned-push_closes L (h ∷ handles) requests =
    owned-push_closes (push L (Queued.Close h)) handles (live-push_close L h requests)
    ∙ owned-made (length L.queue == L.capacity) L requests

-- What the leaving of an operation makes of the parts of a driver: they stand for the ledger that it left, which has as many operations of
-- its user's as the one in which it is gone.
pub record LeftParts {R B : Type 0} (view : R → RingView) (buffer : B → Buffer) (slots : FinMap nat_cmp (Slot B)) (old new : Pending R)
    (holding : Holding) (used : ℕ) (K M : Ledger) : Type 0 where
  pub pushed : ArePushed view buffer slots old new used M
  pub handles : HandlesStand holding M
  pub owned : numbers_where is_owned 0 M.ops ≡ numbers_where is_owned 0 K.ops
  pub count : length M.ops ≡ length K.ops
  pub world : M.world ≡ K.world

-- An operation leaves: its slot is free, and the closes of the handles whose holders became none were posted.
pub parts-left : {R B : Type 0} (view : R → RingView) (buffer : B → Buffer) (tells steady : Bool) (slots : FinMap nat_cmp (Slot B))
    (old new : Pending R) (holding after : Holding) (L : Ledger) (n : ℕ) (us : List ℕ) → IsTrue steady →
    Means buffer (pending_ring view old) slots (with_gone L n) → ((h : ℕ) → closes holding h ≡ is_closing L h) →
    HoldersStand after.table (with_gone L n) → us ≡ became_unheld L (with_gone L n) → after.closing ≡ with_added holding.closing us →
    AreEarly (with_gone L n).ops L.queue → AreLive (with_gone L n).ops L.queue → ((h : ℕ) → has_number h us ≡ true → h < MOST_HANDLES) →
    length us ≤ old.room → FitsQueue view old → PostsEach view tells steady old new (map close_entry us) →
    LeftParts view buffer slots old new after (length us) (with_gone L n) (leave L n)
parts-left view buffer tells steady slots old new holding after L n us always means closing stand are is early live below room fits posts =
    let pushed = posts-closes view buffer tells steady slots always old new (with_gone L n) us means below room fits posts in
    subst (λ hs. LeftParts view buffer slots old new after (length us) (with_gone L n)
    (push_each (with_gone L n) (map Queued.Close hs))) are (record {
      pushed = pushed;
      handles = subst (λ hs. HandlesStand after (push_each (with_gone L n) (map Queued.Close hs))) (sym are)
          (handles-left holding after L n us closing stand are is early);
      owned = owned-push_closes (with_gone L n) us live;
      count = stays-length (stays-push_each (with_gone L n) (map Queued.Close us));
      world = (stays-push_each (with_gone L n) (map Queued.Close us)).world;
    })

-- Posts use up the room of one entry each.
pub posts-room : {R : Type 0} (view : R → RingView) (tells steady : Bool) (old new : Pending R) (entries : List Entry) →
    length entries ≤ old.room → PostsEach view tells steady old new entries → new.room + length entries ≡ old.room
posts-room view tells steady old new [] room same = (let a = ap (λ p. p.room) same in omega (arith, a))
posts-room view tells steady old new (entry ∷ entries) room posts =
    let one = posts.1.room (omega (arith, room)) in
    let rest = posts-room view tells steady posts.0 new entries (omega (arith, room, one)) posts.2 in
    omega (arith, one, rest)

-- What an operation that isn't queued leaves asks for no other one.
pub early-left : (L : Ledger) (n : ℕ) (o : Operation) → Lawful L → slice_get L.ops n ≡ Some o → in_queue o.place ≡ 0 →
    AreEarly (with_gone L n).ops L.queue
early-left L n o lawful there out = early-gone L.ops L.queue n (listed-unasked L n o lawful.lists there out) (listed-early L lawful.lists)

-- What it leaves of the queue means operations that aren't gone, or closes and cancels.
pub live-left : (L : Ledger) (n : ℕ) (o : Operation) → Lawful L → slice_get L.ops n ≡ Some o → in_queue o.place ≡ 0 →
    AreLive (with_gone L n).ops L.queue
live-left L n o lawful there out = live-gone L.ops L.queue n (listed-unasked L n o lawful.lists there out) (listed-live L lawful.lists)
