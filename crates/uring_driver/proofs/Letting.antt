-- What the leaving of an operation that named several handles comes to: that of one, and then of the rest.
use Rattle.std.proofs.Common.{◌≡◌, ◌≢◌, ℕ, ◌-◌, ◌<◌, Bool, true, false, List, [], ◌∷◌, ◌++◌, map, refl, sym, ◌∙◌, ap}
use Rattle.std.proofs.Common.{subst, arith, length, IsTrue, ◌≤◌}
use Rattle.std.specs.Prelude.{◌||◌}
use Rattle.std.proofs.lemmas.List.{map-append}
use Rattle.handle_core.specs.Table.{Table, holders_at, with_holders, by_operation}
use Rattle.machine.specs.declared.world.TheConstants.{MOST_HANDLES}
use Rattle.ring_core.specs.declared.entry.Entry.{Entry}
use Rattle.ring_core.specs.Entry.{close_entry}
use Rattle.machine.specs.Lists.{has_number}
use Rattle.ring_core.specs.Ring.{RingView}
use Rattle.machine.proofs.Numbers.{equal-other}
use Rattle.driver_core.specs.Holds.{is_nobody, left_holders, settled, front_if, without_ops, unheld_by, CanLeave}
use Rattle.driver_core.proofs.Holds.{nobody-is, settled-other}
use Rattle.uring_driver.specs.Holding.{Holding, closes, with_added, ops_left}
use Rattle.uring_driver.specs.Making.{is_old}
use Rattle.uring_driver.specs.Pending.{Pending}
use Rattle.uring_driver.specs.Submissions.{PostsEach, PendingMovesEach, pending_ring}
use Rattle.uring_driver.proofs.Ended.{not-old, is-new}
use Rattle.uring_driver.proofs.Entering.{moves-join}
use Rattle.uring_driver.proofs.Lefts.{closing-joined}
use Rattle.uring_driver.proofs.Treated.{below-both}

-- A handle in front of others, where nobody holds it, is it alone in front of them.
front-alone : (b : Bool) (h : ℕ) (handles : List ℕ) → front_if b h handles ≡ front_if b h [] ++ handles
front-alone true h handles = refl
front-alone false h handles = refl

-- Those that nobody holds any more are the first one, where nobody does, and those of the rest.
unheld-on : (table : Table) (h : ℕ) (handles : List ℕ) →
    unheld_by table (h ∷ handles) ≡ unheld_by table (h ∷ []) ++ unheld_by (without_ops table (h ∷ [])) handles
unheld-on table h handles =
    front-alone (is_nobody (left_holders table h)) h (unheld_by (settled table h (left_holders table h)) handles)

-- Each of those that nobody holds any more is one of the first, or one of the rest.
pub below-on : (table : Table) (h : ℕ) (handles : List ℕ) → ((k : ℕ) → has_number k (unheld_by table (h ∷ [])) ≡ true → k < MOST_HANDLES) →
    ((k : ℕ) → has_number k (unheld_by (without_ops table (h ∷ [])) handles) ≡ true → k < MOST_HANDLES) →
    (k : ℕ) → has_number k (unheld_by table (h ∷ handles)) ≡ true → k < MOST_HANDLES
below-on table h handles first rest k among =
    below-both (unheld_by table (h ∷ [])) (unheld_by (without_ops table (h ∷ [])) handles) k first rest
    (sym (ap (has_number k) (unheld-on table h handles)) ∙ among)

module _ {R : Type 0} (view : R → RingView) (tells steady : Bool) where
  -- Posts in two parts are one.
  pub posts-append : (old mid new : Pending R) (xs ys : List Entry) → PostsEach view tells steady old mid xs →
      PostsEach view tells steady mid new ys → PostsEach view tells steady old new (xs ++ ys)
  posts-append old mid new [] ys same posts = subst (λ p. PostsEach view tells steady p new ys) same posts
  posts-append old mid new (x ∷ xs) ys first posts = (first.0, first.1, posts-append first.0 mid new xs ys first.2 posts)

  -- The closes of a first handle were posted, and then those of the rest.
  pub posts-on : (old mid new : Pending R) (table : Table) (h : ℕ) (handles : List ℕ) →
      PostsEach view tells steady old mid (map close_entry (unheld_by table (h ∷ []))) →
      PostsEach view tells steady mid new (map close_entry (unheld_by (without_ops table (h ∷ [])) handles)) →
      PostsEach view tells steady old new (map close_entry (unheld_by table (h ∷ handles)))
  posts-on old mid new table h handles first rest =
      let us = unheld_by table (h ∷ []) in
      let vs = unheld_by (without_ops table (h ∷ [])) handles in
      subst (λ es. PostsEach view tells steady old new es)
      (sym (ap (map close_entry) (unheld-on table h handles) ∙ map-append close_entry us vs))
      (posts-append old mid new (map close_entry us) (map close_entry vs) first rest)

-- A table that two operations left, one after the other, is one that the handles of both left.
pub without-both : (table : Table) (xs ys : List ℕ) → without_ops (without_ops table xs) ys ≡ without_ops table (xs ++ ys)
without-both table [] ys = refl
without-both table (h ∷ xs) ys = without-both (settled table h (left_holders table h)) xs ys

-- Of the handles of both, those that nobody holds any more.
pub unheld-both : (table : Table) (xs ys : List ℕ) →
    unheld_by table xs ++ unheld_by (without_ops table xs) ys ≡ unheld_by table (xs ++ ys)
unheld-both table [] ys = refl
unheld-both table (h ∷ xs) ys =
    by (is_nobody (left_holders table h)) (unheld-both (settled table h (left_holders table h)) xs ys)
  where
    by : (b : Bool) → unheld_by (settled table h (left_holders table h)) xs
        ++ unheld_by (without_ops (settled table h (left_holders table h)) xs) ys
        ≡ unheld_by (settled table h (left_holders table h)) (xs ++ ys) →
        front_if b h (unheld_by (settled table h (left_holders table h)) xs)
        ++ unheld_by (without_ops (settled table h (left_holders table h)) xs) ys
        ≡ front_if b h (unheld_by (settled table h (left_holders table h)) (xs ++ ys))
    by true rest = ap (λ zs. h ∷ zs) rest
    by false rest = rest

-- What may leave with the handles of both may leave with those of the first, and then with those of the second.
pub leaves-both : (table : Table) (xs ys : List ℕ) → CanLeave table (xs ++ ys) →
    CanLeave table xs × CanLeave (without_ops table xs) ys
leaves-both table [] ys may = (tt, may)
leaves-both table (h ∷ xs) ys may =
    let rest = leaves-both (settled table h (left_holders table h)) xs ys may.1 in
    ((may.0, rest.0), rest.1)

-- Handles that were added one after the other.
pub added-both : (table : Table) (xs ys : List ℕ) → with_added (with_added table xs) ys ≡ with_added table (xs ++ ys)
added-both table [] ys = refl
added-both table (h ∷ xs) ys = added-both (record (with_holders table h by_operation) { spare = table.spare - 1 }) xs ys

-- Who holds handles once both left.
pub left-both : (holding : Holding) (xs ys : List ℕ) → ops_left (ops_left holding xs) ys ≡ ops_left holding (xs ++ ys)
left-both holding xs ys =
    let us = unheld_by holding.table xs in
    let vs = unheld_by (without_ops holding.table xs) ys in
    ap (λ t. record holding { table = t; closing = with_added (with_added holding.closing us) vs }) (without-both holding.table xs ys)
    ∙ ap (λ c. record holding { table = without_ops holding.table (xs ++ ys); closing = c })
    (added-both holding.closing us vs ∙ ap (with_added holding.closing) (unheld-both holding.table xs ys))

-- A handle that can be new still can be once an operation left that didn't hold it.
pub new-left : (holding : Holding) (names : List ℕ) (h : ℕ) → CanLeave holding.table names → is_old holding h ≡ false →
    is_old (ops_left holding names) h ≡ false
new-left holding [] h may new = new
new-left holding (n ∷ names) h may new =
    subst (λ x. is_old x h ≡ false) (left-both holding (n ∷ []) names) (new-left (ops_left holding (n ∷ [])) names h may.1 (one-left may.0))
  where
    parts : (is_nobody (holders_at holding.table h) ≡ true) × (closes holding h ≡ false) × (h < MOST_HANDLES)
    parts = not-old holding h new

    not-among : (b : Bool) → h ≢ n → has_number h (front_if b n []) ≡ false
    not-among true other = ap (λ b. b || false) (equal-other h n other)
    not-among false other = refl

    another : 0 < (holders_at holding.table n).operations → h ≢ n
    another some is =
        let a = ap (λ x. (holders_at holding.table x).operations) is in
        let b = ap (λ x. x.operations) (nobody-is (holders_at holding.table h) parts.0) in
        omega (arith, a, b, some)

    one-left : 0 < (holders_at holding.table n).operations → is_old (ops_left holding (n ∷ [])) h ≡ false
    one-left some = is-new (ops_left holding (n ∷ [])) h
        (ap is_nobody (settled-other holding.table n (left_holders holding.table n) h (another some)) ∙ parts.0)
        (closing-joined holding.closing (unheld_by holding.table (n ∷ [])) h
        ∙ ap (λ b. b || has_number h (unheld_by holding.table (n ∷ [])))
        parts.1 ∙ not-among (is_nobody (left_holders holding.table n)) (another some)) parts.2

-- What was posted joined what is pending, over a ring that tells it.
pub posts-moves : {R : Type 0} (view : R → RingView) (tells steady : Bool) (old new : Pending R) (entries : List Entry) →
    length entries ≤ old.room → PostsEach view tells steady old new entries → IsTrue tells →
    PendingMovesEach (pending_ring view old).queue (pending_ring view new).queue entries
posts-moves view tells steady old new [] few same shows = ap (λ p. (pending_ring view p).queue) same
posts-moves view tells steady old new (e ∷ entries) few posts shows =
    let mid = posts.0 in
    let told = posts.1.told (omega (arith, few)) shows in
    let one = posts.1.room (omega (arith, few)) in (
      (pending_ring view mid).queue,
      moves-join (pending_ring view old) told.0 (pending_ring view mid) e (view mid.ring).spare told.1 told.2,
      posts-moves view tells steady mid new entries (omega (arith, few, one)) posts.2 shows,
    )
