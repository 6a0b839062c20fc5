-- What the calls on a driver's handles leave of what holds of every driver, and of the ledger that it stands for.
use Rattle.std.proofs.Common.{◌≡◌, ◌≢◌, ◌∙◌, inl, inr, ℕ, ◌+◌, ◌-◌, ◌<◌, ◌≤◌, Bool, true, false, ◌==◌, [], ◌∷◌, length, map}
use Rattle.std.proofs.Common.{Some, refl, sym, ap, subst, arith, IsTrue}
use Rattle.std.proofs.lemmas.Bool.{lt-ltb}
use Rattle.std.specs.Prelude.{◌||◌, nat_lt, unwrap_or}
use Rattle.std.proofs.lemmas.Bool.Decides.{nat_tests}
use Rattle.std.specs.Ordering.{nat_cmp}
use Rattle.std.specs.FinMap.{FinMap, get, len}
use Rattle.rent_buf.specs.Buffer.{Buffer}
use Rattle.handle_core.specs.declared.table.Holders.{Holders}
use Rattle.handle_core.specs.declared.table.Released.{Released as Freed}
use Rattle.handle_core.specs.declared.table.Released.TheVariants.{Held, Last}
use Rattle.handle_core.specs.Table.{Table, holders_at, with_holders, nobody, by_user, with_user as held_more, without_user}
use Rattle.machine.specs.declared.world.TheConstants.{MOST_HANDLES}
use Rattle.machine.specs.declared.ledger.Event.TheVariants.{Close}
use Rattle.machine.specs.declared.ledger.Reply.TheVariants.{Released}
use Rattle.machine.specs.Lists.{has_number}
use Rattle.ring_core.specs.Ring.{RingView}
use Rattle.ring_core.specs.Entry.{close_entry}
use Rattle.machine.specs.Ledger.{Ledger, Queued, user_holds}
use Rattle.machine.specs.Queue.{push, is_unheld}
use Rattle.machine.specs.Step.{with_user, close_if}
use Rattle.machine.specs.Closes.{close_count, MadeAlone}
use Rattle.machine.proofs.Numbers.{same-or-not, some-of, none-of}
use Rattle.machine.proofs.Closing.{count-push}
use Rattle.machine.proofs.Holders.{AreLive}
use Rattle.machine.proofs.Users.{user-with_user, user-with_user-other}
use Rattle.machine.proofs.Lawful.{listed-live}
use Rattle.machine.proofs.Staying.{stays-length, stays-push}
use Rattle.machine.proofs.Stepping.{held-there}
use Rattle.driver_core.specs.declared.slot.Slot.{Slot}
use Rattle.driver_core.specs.Slot.{number_at}
use Rattle.driver_core.specs.Holds.{is_nobody, settled, settle_if, seen_ops, AreMaking, HoldersStand}
use Rattle.driver_core.proofs.Early.{listed-early}
use Rattle.driver_core.proofs.Holds.{settled-same, settled-other, with-same, with-other}
use Rattle.driver_core.proofs.Maps.{len-put, len-new, len-gone, len-some}
use Rattle.driver_core.proofs.Seeing.{user-seen}
use Rattle.driver_core.proofs.Seen.{AreEarly, seen-push}
use Rattle.driver_core.proofs.Standing.{holders-stand-same, nobody-unheld}
use Rattle.uring_driver.specs.declared.uring.IoUringDriver.{IoUringDriver}
use Rattle.uring_driver.specs.Holding.{Holding, places, is_users, is_held, user_count, user_left, unheld_if, with_added, HandlesStand}
use Rattle.uring_driver.specs.Pending.{Pending}
use Rattle.uring_driver.specs.Released.{ReleasesIf, ReleasesFor}
use Rattle.uring_driver.specs.Stands.{Stands}
use Rattle.uring_driver.specs.State.{AreHolding, IsSound}
use Rattle.uring_driver.specs.Submissions.{Posts, PendingMoves, pending_ring}
use Rattle.uring_driver.specs.Reaps.{FitsQueue}
use Rattle.uring_driver.specs.Uring.{room_in, whole_ring}
use Rattle.uring_driver.proofs.Answering.{lawful-of, alone-of, fits-of, groups-still, answers-parts, stands-parts}
use Rattle.driver_core.proofs.Holds.{held-user}
use Rattle.uring_driver.proofs.Entering.{moves-join}
use Rattle.uring_driver.proofs.Lefts.{closing-joined, closes-pushed, owned-push}
use Rattle.uring_driver.proofs.Means.{Means, means-of}
use Rattle.uring_driver.proofs.Posting.{posts-close}
use Rattle.uring_driver.proofs.Sound.{sound-keeps, sound-live}
use Rattle.uring_driver.proofs.Starting.{means-world}
use Rattle.uring_driver.proofs.Steps.{step-close}

-- Where a handle's holders changed, but for the operations among them, as many operations hold each handle.
ops-beside : (table table' : Table) (h : ℕ) → (holders_at table' h).operations ≡ (holders_at table h).operations →
    ((k : ℕ) → k ≢ h → holders_at table' k ≡ holders_at table k) → (k : ℕ) →
    (holders_at table' k).operations ≡ (holders_at table k).operations
ops-beside table table' h same other k = elim (same-or-not k h) [
  | inl e ↦ ap (λ x. (holders_at table' x).operations) e ∙ same ∙ ap (λ x. (holders_at table x).operations) (sym e)
  | inr e ↦ ap (λ x. x.operations) (other k e)
]

-- Such a table counts the operations in slots, as before.
pub holding-beside : {B : Type 0} (holding new : Holding) (slots : FinMap nat_cmp (Slot B)) (given h : ℕ) → AreHolding holding slots given →
    new.makers ≡ holding.makers → (holders_at new.table h).operations ≡ (holders_at holding.table h).operations →
    ((k : ℕ) → k ≢ h → holders_at new.table k ≡ holders_at holding.table k) → AreHolding new slots given
holding-beside holding new slots given h old makers same other =
    let ops = ops-beside holding.table new.table h same other in record {
      counted = λ k. record { keys = (old.counted k).keys; few = (old.counted k).few ∙ sym (ops k); each = (old.counted k).each };
      few = λ k. (let a = ops k in let b = old.few k in omega (arith, a, b));
      making = subst (AreMaking slots) (sym makers) old.making;
      apart = old.apart;
    }

-- It stands for the holders of a ledger in which the same operations hold each handle, and whose user holds the handle where it does in
-- the table, and each other one as before.
pub holders-beside : (table table' : Table) (L M : Ledger) (h : ℕ) → HoldersStand table L →
    nat_lt 0 (holders_at table' h).user ≡ user_holds M h → (holders_at table' h).operations ≡ (holders_at table h).operations →
    ((k : ℕ) → k ≢ h → holders_at table' k ≡ holders_at table k) → ((k : ℕ) → k ≢ h → user_holds M k ≡ user_holds L k) →
    ((k : ℕ) → seen_ops M k ≡ seen_ops L k) → HoldersStand table' M
holders-beside table table' L M h old user same other users ops = record {
  users = λ k. elim (same-or-not k h) [
    | inl e ↦ ap (λ x. nat_lt 0 (holders_at table' x).user) e ∙ user ∙ ap (user_holds M) (sym e)
    | inr e ↦ ap (λ x. nat_lt 0 x.user) (other k e) ∙ old.users k ∙ sym (users k e)
  ];
  operations = λ k. ops-beside table table' h same other k ∙ old.operations k ∙ ap length (sym (ops k));
}

-- A driver of which the holders of handles alone changed stands for the same ledger.
stands-holders : {R B : Type 0} (view : R → RingView) (buffer : B → Buffer) (d new : IoUringDriver R B) (L : Ledger) →
    Stands view buffer d L → new.ring ≡ d.ring → new.slots.values ≡ d.slots.values → new.given ≡ d.given → new.members ≡ d.members →
    HandlesStand new.holding L → places new.holding ≤ places d.holding → Stands view buffer new L
stands-holders view buffer d new L old ring slots given members handles few =
    stands-parts view buffer d new L old (ap (λ p. (view p.ring).capacity) ring)
    (subst (λ p. Means buffer (pending_ring view p) new.slots.values L) (sym ring)
    (subst (λ m. Means buffer (pending_ring view d.ring) m L) (sym slots) (means-of old)))
    given handles members
    (let r = old.room in let a = ap (λ p. p.room) ring in omega (arith, r, a, few))
    (subst (λ p. FitsQueue view p) (sym ring) (fits-of view d old))

-- A handle that its user holds has room for its close.
pub room-held : {B : Type 0} (room : ℕ) (slots : FinMap nat_cmp (Slot B)) (holding : Holding) (h : ℕ) →
    IsSound room slots (places holding) → is_users holding h ≡ true → 0 < room
room-held room slots holding h sound user =
    let a = sound.few in let b = len-some holding.table.holders h (held-user holding.table h user) in omega (arith, a, b)

-- The close of a handle joined what is pending.
pub close-moves : {R : Type 0} (view : R → RingView) (tells steady : Bool) (old new : Pending R) (h : ℕ) (b : Bool) → b ≡ true →
    0 < old.room → Posts view tells steady old new (close_entry h) → IsTrue tells →
    PendingMoves (pending_ring view old).queue (pending_ring view new).queue (map close_entry (unheld_if b h))
close-moves view tells steady old new h b is some posts t =
    let j = posts.told some t in
    subst (λ x. PendingMoves (pending_ring view old).queue (pending_ring view new).queue (map close_entry (unheld_if x h))) (sym is)
    (moves-join (pending_ring view old) j.0 (pending_ring view new) (close_entry h) (view new.ring).spare j.1 j.2)

module _ (holding : Holding) (h : ℕ) (user : is_users holding h ≡ true) where
  -- The holders of a handle that its user holds.
  there : (held : Holders) × (get holding.table.holders h ≡ Some held)
  there = some-of (get holding.table.holders h) (held-user holding.table h user)

  -- As many handles are held once such a handle has other holders.
  len-held : (held : Holders) → len (with_holders holding.table h held).holders ≡ len holding.table.holders
  len-held held = len-put holding.table.holders h held there.0 there.1

  -- One fewer is once it is held no more.
  pub len-unheld : (held : Holders) → is_nobody held ≡ true → len (settled holding.table h held).holders + 1 ≡ len holding.table.holders
  len-unheld held none =
      let a = ap (λ b. len (settle_if b holding.table h held).holders) none in
      let b = len-gone holding.table.holders h there.0 there.1 in
      let c = len-some holding.table.holders h (held-user holding.table h user) in
      omega (arith, a, b, c)

  -- As many are where somebody still holds it.
  pub len-still : (held : Holders) → is_nobody held ≡ false → len (settled holding.table h held).holders ≡ len holding.table.holders
  len-still held some = ap (λ b. len (settle_if b holding.table h held).holders) some ∙ len-held held

  -- The holders of a handle that its user holds once more stand for the same ledger.
  handles-more : (L : Ledger) → HandlesStand holding L →
      HandlesStand (record holding { table = with_holders holding.table h (held_more (holders_at holding.table h)) }) L
  handles-more L old =
      let held = held_more (holders_at holding.table h) in record {
        holders = holders-beside holding.table (with_holders holding.table h held) L L h old.holders
            (ap (λ x. nat_lt 0 x.user) (with-same holding.table h held) ∙ lt-ltb 0 (user_count holding h + 1) (omega arith)
            ∙ sym user ∙ old.holders.users h)
            (ap (λ x. x.operations) (with-same holding.table h held)) (with-other holding.table h held) (λ k e. refl) (λ k. refl);
        closing = old.closing;
      }

-- A driver whose user holds a handle once more stands for the same ledger.
pub stands-more : {R B : Type 0} (view : R → RingView) (buffer : B → Buffer) (d new : IoUringDriver R B) (L : Ledger) (h : ℕ) →
    Stands view buffer d L → is_users d.holding h ≡ true → new.ring ≡ d.ring → new.slots.values ≡ d.slots.values → new.given ≡ d.given →
    new.members ≡ d.members →
    new.holding ≡ record d.holding { table = with_holders d.holding.table h (held_more (holders_at d.holding.table h)) } →
    Stands view buffer new L
stands-more view buffer d new L h old user ring slots given members is =
    stands-holders view buffer d new L old ring slots given members
    (subst (λ x. HandlesStand x L) (sym is) (handles-more d.holding h user L old.handles))
    (let a = ap places is in let b = len-held d.holding h user (held_more (holders_at d.holding.table h)) in omega (arith, a, b))

-- Of one hold of its user's, and none of an operation's, nobody is left.
last-hold : (held : Holders) → nat_lt 0 held.user ≡ true → is_nobody (without_user held) ≡ true →
    (held.user ≡ 1) × ((held.user == 1) ≡ true)
last-hold held some none = (grind (arith, nat_tests), grind (arith, nat_tests))

-- A user that holds a handle twice still holds it after a release.
still-holds : (k : ℕ) → nat_lt 0 k ≡ true → (k == 1) ≡ false → nat_lt 0 (k - 1) ≡ true
still-holds k some more = grind (arith, nat_tests)

-- A number that is found to be 1 is.
one-is : (k : ℕ) → (k == 1) ≡ true → k ≡ 1
one-is k is = grind (arith, nat_tests)

module _ (holding : Holding) (L : Ledger) (h : ℕ) (old : HandlesStand holding L) (user : is_users holding h ≡ true) where
  -- The user holds the handle in the ledger.
  user-there : user_holds L h ≡ true
  user-there = sym (old.holders.users h) ∙ user

  -- The table once the user dropped a hold.
  abbrev left_table : Table
  left_table = settled holding.table h (without_user (holders_at holding.table h))

  -- Once the user dropped its only hold, the table stands for the ledger in which it holds the handle no more.
  holders-released : user_count holding h ≡ 1 → HoldersStand left_table (with_user L h false)
  holders-released one =
      let held = without_user (holders_at holding.table h) in
      holders-beside holding.table left_table L (with_user L h false) h old.holders
      (ap (λ x. nat_lt 0 x.user) (settled-same holding.table h held) ∙ ap (λ k. nat_lt 0 (k - 1)) one
      ∙ sym (user-with_user L h false (held-there L h user-there)))
      (ap (λ x. x.operations) (settled-same holding.table h held)) (settled-other holding.table h held)
      (λ k e. user-with_user-other L h k false e) (λ k. refl)

  -- Somebody holds the handle in the table exactly where somebody does in the ledger.
  unheld-released : MadeAlone L → HoldersStand left_table (with_user L h false) →
      is_nobody (without_user (holders_at holding.table h)) ≡ is_unheld (with_user L h false) h
  unheld-released alone stand =
      ap is_nobody (sym (settled-same holding.table h (without_user (holders_at holding.table h))))
      ∙ nobody-unheld stand h (user-seen L alone h user-there)

  -- By whether nobody holds the handle any more: then it is closing, and its close is pushed.
  handles-released : (b : Bool) → HoldersStand left_table (with_user L h false) → AreEarly L.ops L.queue →
      HandlesStand (record holding { table = left_table; closing = with_added holding.closing (unheld_if b h) })
      (close_if b (with_user L h false) h)
  handles-released true stand early =
      let U : Ledger = with_user L h false in record {
        holders = holders-stand-same stand (seen-push U (Queued.Close h) early);
        closing = λ k.
            closing-joined holding.closing (h ∷ []) k ∙ ap (λ b. b || has_number k (h ∷ [])) (old.closing k)
            ∙ sym (ap (nat_lt 0) (count-push U (Queued.Close h) k) ∙ closes-pushed (close_count L k) k (h ∷ []));
      }
  handles-released false stand early = record { holders = stand; closing = old.closing }

  -- A user that holds a handle more than once and drops a hold leaves what its holders stand for.
  handles-fewer : (user_count holding h == 1) ≡ false → HandlesStand (record holding { table = left_table }) L
  handles-fewer more =
      let held = without_user (holders_at holding.table h) in record {
        holders = holders-beside holding.table left_table L L h old.holders
            (ap (λ x. nat_lt 0 x.user) (settled-same holding.table h held) ∙ still-holds (user_count holding h) user more ∙ sym user-there)
            (ap (λ x. x.operations) (settled-same holding.table h held)) (settled-other holding.table h held) (λ k e. refl) (λ k. refl);
        closing = old.closing;
      }

-- A user dropped one of its holds of a handle.
module _ {R B : Type 0} (view : R → RingView) (buffer : B → Buffer) (d new : IoUringDriver R B) (L : Ledger) (h : ℕ)
    (old : Stands view buffer d L) (user : is_users d.holding h ≡ true) (slots : new.slots.values ≡ d.slots.values)
    (given : new.given ≡ d.given) (members : new.members ≡ d.members) (left : new.holding ≡ user_left d.holding h) where
  -- Its ring and slots mean the ledger in which the user holds it no more.
  means-released : Means buffer (pending_ring view d.ring) new.slots.values (with_user L h false)
  means-released = subst (λ m. Means buffer (pending_ring view d.ring) m (with_user L h false)) (sym slots)
      (means-world buffer (whole_ring view d) d.slots.values L (whole_ring view d).world L.world (with_user L h false).owners
      old.ring.world (means-of old))

  -- Somebody still holds it.
  pub releases-held : is_nobody (without_user (holders_at d.holding.table h)) ≡ false → new.ring ≡ d.ring →
      ReleasesFor view buffer L h (user_count d.holding h) new
  releases-held some ring = by (user_count d.holding h == 1) refl
    where
      is-left : new.holding ≡ record d.holding { table = settled d.holding.table h (without_user (holders_at d.holding.table h)) }
      is-left = left ∙ ap (λ b. record d.holding {
        table = settled d.holding.table h (without_user (holders_at d.holding.table h));
        closing = with_added d.holding.closing (unheld_if b h);
      }) some

      count : places new.holding ≡ places d.holding
      count = ap places is-left
          ∙ ap (λ n. n + d.holding.makers) (len-still d.holding h user (without_user (holders_at d.holding.table h)) some)

      by : (b : Bool) → (user_count d.holding h == 1) ≡ b → ReleasesIf view buffer L h b new
      by true one =
          let U : Ledger = with_user L h false in
          let stand = holders-released d.holding L h old.handles user (one-is (user_count d.holding h) one) in
          let held : is_unheld U h ≡ false = sym (unheld-released d.holding L h old.handles user (alone-of old) stand) ∙ some in
          let e = step-close L h (user-there d.holding L h old.handles user) ∙ ap (λ b. (close_if b U h, Released)) held in
          let capacity = ap (λ p. (view p.ring).capacity) ring in
          answers-parts view buffer d new L U (Close h) Released old e capacity
          (subst (λ p. Means buffer (pending_ring view p) new.slots.values U) (sym ring) means-released)
          (given ∙ old.operations.numbered)
          (subst (λ x. HandlesStand x U) (sym is-left)
          (handles-released d.holding L h old.handles user false stand (listed-early L (lawful-of old).lists)))
          (groups-still view buffer d new L U (Close h) Released old e capacity refl means-released.in_slots
          (λ key. ap (λ m. number_at m key) slots) members)
          (let r = old.room in let a = ap (λ p. p.room) ring in let c = count in omega (arith, r, a, c))
          (subst (λ p. FitsQueue view p) (sym ring) (fits-of view d old)) refl
      by false more =
          stands-holders view buffer d new L old ring slots given members
          (subst (λ x. HandlesStand x L) (sym is-left) (handles-fewer d.holding L h old.handles user more))
          (let c = count in omega (arith, c))

  -- Nobody holds it any more, and its close was posted.
  pub releases-last : (tells steady : Bool) → IsTrue steady → is_nobody (without_user (holders_at d.holding.table h)) ≡ true →
      h < MOST_HANDLES → 0 < room_in d → Posts view tells steady d.ring new.ring (close_entry h) →
      ReleasesFor view buffer L h (user_count d.holding h) new
  releases-last tells steady always none below some posts =
      let U : Ledger = with_user L h false in
      let one = last-hold (holders_at d.holding.table h) user none in
      let stand = holders-released d.holding L h old.handles user one.0 in
      let unheld : is_unheld U h ≡ true = sym (unheld-released d.holding L h old.handles user (alone-of old) stand) ∙ none in
      let live : AreLive U.ops U.queue = listed-live L (lawful-of old).lists in
      let pushed = posts-close view buffer tells steady new.slots.values always d.ring new.ring U h means-released below some
      (fits-of view d old) posts in
      let e = step-close L h (user-there d.holding L h old.handles user) ∙ ap (λ b. (close_if b U h, Released)) unheld in
      subst (λ b. ReleasesIf view buffer L h b new) (sym one.1)
      (answers-parts view buffer d new L (push U (Queued.Close h)) (Close h) Released old e pushed.capacity pushed.means
      (given ∙ old.operations.numbered ∙ sym (stays-length (stays-push U (Queued.Close h))))
      (subst (λ x. HandlesStand x (push U (Queued.Close h))) (sym left)
      (subst (λ b. HandlesStand (record d.holding {
        table = settled d.holding.table h (without_user (holders_at d.holding.table h));
        closing = with_added d.holding.closing (unheld_if b h);
      }) (push U (Queued.Close h))) (sym none)
      (handles-released d.holding L h old.handles user true stand (listed-early L (lawful-of old).lists))))
      (groups-still view buffer d new L (push U (Queued.Close h)) (Close h) Released old e pushed.capacity refl pushed.means.in_slots
      (λ key. ap (λ m. number_at m key) slots) members)
      (let r = old.room in
      let p = pushed.room in
      let o = ap length (owned-push U (Queued.Close h) live) in
      let a = ap places left in
      let c = len-unheld d.holding h user (without_user (holders_at d.holding.table h)) none in
      omega (arith, r, p, o, a, c))
      pushed.fits (stays-push U (Queued.Close h)).world)

-- Memory for the close of one handle more is memory for that of a handle that wasn't held.
pub room-new : (room slots : ℕ) (holding new : Holding) (h : ℕ) → new ≡ record holding { table = with_holders holding.table h by_user } →
    is_held holding h ≡ false → slots + places holding + 1 ≤ room → slots + places new ≤ room
room-new room slots holding new h is fresh more =
    let a = ap places is in
    let b = len-new holding.table.holders h by_user (none-of (get holding.table.holders h) fresh) in
    omega (arith, a, b, more)

module _ {B : Type 0} (room : ℕ) (slots : FinMap nat_cmp (Slot B)) (given : ℕ) (holding new : Holding) (h : ℕ)
    (old : IsSound room slots (places holding) × AreHolding holding slots given) where
  -- What holds of every driver holds once the user holds a handle once more.
  pub kept-more : new ≡ record holding { table = with_holders holding.table h (held_more (holders_at holding.table h)) } →
      is_users holding h ≡ true → IsSound room slots (places new) × AreHolding new slots given
  kept-more is user =
      let held = held_more (holders_at holding.table h) in
      let more : Holding = record holding { table = with_holders holding.table h held } in
      subst (λ (x : Holding). IsSound room slots (places x) × AreHolding x slots given) (sym is) (
        sound-keeps room room slots slots (places holding) (places more) old.0
            (let a = len-held holding h user held in omega (arith, a)) (λ key. refl),
        holding-beside holding more slots given h old.1 refl
            (ap (λ x. x.operations) (with-same holding.table h held)) (with-other holding.table h held),
      )

  -- Once the user dropped a hold, with room for one close less where nobody holds the handle any more.
  pub kept-fewer : new ≡ user_left holding h → (room' : ℕ) → room + places new ≤ room' + places holding →
      IsSound room' slots (places new) × AreHolding new slots given
  kept-fewer is room' more =
      let held = without_user (holders_at holding.table h) in
      let few = ap places is in
      let left : Holding = user_left holding h in
      subst (λ (x : Holding). IsSound room' slots (places x) × AreHolding x slots given) (sym is) (
        sound-keeps room room' slots slots (places holding) (places left) old.0 (omega (arith, few, more)) (λ key. refl),
        holding-beside holding left slots given h old.1 refl
            (ap (λ x. x.operations) (settled-same holding.table h held)) (settled-other holding.table h held),
      )

  -- Once the user holds a handle that wasn't held, with room for its close.
  pub kept-new : new ≡ record holding { table = with_holders holding.table h by_user } → is_held holding h ≡ false →
      len slots + places holding + 1 ≤ room → IsSound room slots (places new) × AreHolding new slots given
  kept-new is fresh more =
      let none = none-of (get holding.table.holders h) fresh in (
        sound-live room slots (places new) (room-new room (len slots) holding new h is fresh more),
        subst (λ (x : Holding). AreHolding x slots given) (sym is)
            (holding-beside holding (record holding { table = with_holders holding.table h by_user }) slots given h old.1 refl
            (ap (λ x. x.operations) (with-same holding.table h by_user)
            ∙ ap (λ o. (unwrap_or o nobody).operations) (sym none)) (with-other holding.table h by_user)),
      )

-- A release that wasn't the last one leaves somebody.
pub not-last : (b : Bool) (released : Freed) → released ≡ Held → (b ≡ true → released ≡ Last) → b ≡ false
not-last true released is last = (let e : Last ≡ Held = sym (last refl) ∙ is in let f : ⊥ = cc in absurd f)
not-last false released is last = refl
