-- What posting a cancel or a close to a ring that always takes all does to a ring and slots that mean a ledger: it is the ledger's push.
use Rattle.std.proofs.Common.{◌≡◌, ◌<◌, ◌≤◌, ◌+◌, ℕ, Bool, true, false, List, [], ◌∷◌, ◌++◌, map, length, Some, IsTrue, refl, sym, ◌∙◌}
use Rattle.std.proofs.Common.{subst, arith}
use Rattle.std.specs.Ordering.{nat_cmp}
use Rattle.std.specs.FinMap.{FinMap, get}
use Rattle.rent_buf.specs.Buffer.{Buffer}
use Rattle.machine.specs.declared.world.TheConstants.{MOST_HANDLES}
use Rattle.ring_core.specs.Ring.{RingView, pushed}
use Rattle.ring_core.specs.Entry.{cancel_entry, close_entry}
use Rattle.ring_core.specs.declared.entry.Body.TheVariants.{Cancel as Cancels}
use Rattle.ring_core.specs.declared.entry.Entry.{Entry}
use Rattle.machine.specs.Lists.{has_number}
use Rattle.machine.specs.Ledger.{Ledger, Queued, Cancel}
use Rattle.machine.specs.Queue.{make_room, push, push_each}
use Rattle.machine.proofs.Leaving.{has-first, has-later}
use Rattle.driver_core.specs.declared.slot.Slot.{Slot}
use Rattle.uring_driver.specs.Pending.{Pending}
use Rattle.uring_driver.specs.Submissions.{with_spare, room_made, pending_ring, Posts, PostsEach}
use Rattle.uring_driver.specs.Reaps.{FitsQueue}
use Rattle.uring_driver.specs.Lists.{EntryFor, QueuedFor, Meets, is_call, queued_of}
use Rattle.uring_driver.proofs.Means.{Means}
use Rattle.uring_driver.proofs.Kept.{queued-kept}
use Rattle.uring_driver.proofs.Heads.{means-view}
use Rattle.uring_driver.proofs.Taking.{means-room}
use Rattle.uring_driver.proofs.Changing.{means-joined, cancel-queues, cancel-meets}

-- An entry that isn't a call joins the end of a ring's queue, once room was made.
pub means-pushed_entry : {B : Type 0} (buffer : B → Buffer) (v w : RingView) (slots : FinMap nat_cmp (Slot B)) (L : Ledger) (e : Entry)
    (spare : ℕ) → Means buffer v slots L → is_call e.body ≡ false → QueuedFor buffer slots L.ops e e.body →
    ((key : ℕ) → e.body ≡ Cancels key → (x : Entry) → EntryFor buffer slots x → Meets x key e.serial) →
    w ≡ with_spare (pushed (room_made v) e) spare → Means buffer w slots (push L (queued_of e))
means-pushed_entry buffer v w slots L e spare old not_call queued meets ring =
    let M = make_room L in
    subst (λ x. Means buffer x slots (push L (queued_of e))) (sym ring)
    (means-view buffer (record (room_made v) { queue = (room_made v).queue ++ e ∷ [] }) (with_spare (pushed (room_made v) e) spare) slots
    (push L (queued_of e)) refl refl refl refl refl
    (means-joined buffer (room_made v) slots M e (means-room buffer v slots L old) not_call
    (queued-kept buffer slots slots L.ops M.ops e e.body (λ q _. absurd (let z : false ≡ true = sym not_call ∙ q in cc)) queued) meets))

-- What posts leave of a ring and slots that mean a ledger: they mean the one after its pushes, so much less room is reserved, and what is
-- pending still fits.
pub record ArePushed {R B : Type 0} (view : R → RingView) (buffer : B → Buffer) (slots : FinMap nat_cmp (Slot B)) (old new : Pending R)
    (count : ℕ) (M : Ledger) : Type 0 where
  pub means : Means buffer (pending_ring view new) slots M
  pub room : new.room + count ≡ old.room
  pub fits : FitsQueue view new
  pub capacity : (view new.ring).capacity ≡ (view old.ring).capacity

module _ {R B : Type 0} (view : R → RingView) (buffer : B → Buffer) (tells steady : Bool) (slots : FinMap nat_cmp (Slot B))
    (always : IsTrue steady) where
  -- An entry that isn't a call is posted.
  pub posts-entry : (old new : Pending R) (L : Ledger) (e : Entry) → Means buffer (pending_ring view old) slots L →
      is_call e.body ≡ false → QueuedFor buffer slots L.ops e e.body →
      ((key : ℕ) → e.body ≡ Cancels key → (x : Entry) → EntryFor buffer slots x → Meets x key e.serial) → 0 < old.room →
      FitsQueue view old → Posts view tells steady old new e → ArePushed view buffer slots old new 1 (push L (queued_of e))
  posts-entry old new L e means not_call queued meets some fits posts =
      let exact = posts.exact some always fits in
      record {
        means = means-pushed_entry buffer (pending_ring view old) (pending_ring view new) slots L e (view new.ring).spare means not_call
            queued meets exact.0;
        room = posts.room some;
        fits = exact.1;
        capacity = posts.later.same_capacity;
      }

  -- The cancel of the operation of a live slot is posted.
  pub posts-cancel : (old new : Pending R) (L : Ledger) (key : ℕ) (s : Slot B) (number : ℕ) → Means buffer (pending_ring view old) slots L →
      get slots key ≡ Some s → s.serial ≡ number → 0 < old.room → FitsQueue view old →
      Posts view tells steady old new (cancel_entry key number) → ArePushed view buffer slots old new 1 (push L (Cancel number))
  posts-cancel old new L key s number means there serial some fits posts =
      posts-entry old new L (cancel_entry key number) means refl
      (cancel-queues buffer (pending_ring view old) slots L key s number means there serial)
      (cancel-meets buffer (pending_ring view old) slots L key s number means there serial) some fits posts

  -- The close of a handle is posted.
  pub posts-close : (old new : Pending R) (L : Ledger) (h : ℕ) → Means buffer (pending_ring view old) slots L → h < MOST_HANDLES →
      0 < old.room → FitsQueue view old → Posts view tells steady old new (close_entry h) →
      ArePushed view buffer slots old new 1 (push L (Queued.Close h))
  posts-close old new L h means below some fits posts =
      posts-entry old new L (close_entry h) means refl (refl, below) (λ key same. cc) some fits posts

  -- The closes of handles are posted, one after another.
  pub posts-closes : (old new : Pending R) (L : Ledger) (handles : List ℕ) → Means buffer (pending_ring view old) slots L →
      ((h : ℕ) → has_number h handles ≡ true → h < MOST_HANDLES) → length handles ≤ old.room → FitsQueue view old →
      PostsEach view tells steady old new (map close_entry handles) →
      ArePushed view buffer slots old new (length handles) (push_each L (map Queued.Close handles))
  posts-closes old new L [] means below room fits same =
      subst (λ p. ArePushed view buffer slots old p 0 L) (sym same)
      (record { means = means; room = omega arith; fits = fits; capacity = refl })
  posts-closes old new L (h ∷ handles) means below room fits posts =
      let one = posts-close old posts.0 L h means (below h (has-first h handles)) (omega (arith, room)) fits posts.1 in
      let left = one.room in
      let rest = posts-closes posts.0 new (push L (Queued.Close h)) handles one.means (λ k q. below k (has-later k h handles q))
      (omega (arith, room, left)) one.fits posts.2 in
      record {
        means = rest.means;
        room = (let r = rest.room in omega (arith, left, r));
        fits = rest.fits;
        capacity = rest.capacity ∙ one.capacity;
      }
