-- Completions treated one after another, against a ledger in the middle of a turn.
use Rattle.std.proofs.Common.{◌≡◌, ℕ, ◌+◌, ◌<◌, ◌≤◌, true, List, [], ◌∷◌, ◌++◌, length, flat_map, Option, Some, None, refl, sym, ◌∙◌, ap}
use Rattle.std.proofs.Common.{subst}
use Rattle.std.proofs.Common.{arith, append_assoc, length-append}
use Rattle.std.specs.Prelude.{slice_get, option_map}
use Rattle.std.proofs.lemmas.List.{append_cancel_left, map-append}
use Rattle.std.proofs.lemmas.List.Concat.{flat_map-append}
use Rattle.std.specs.Ordering.{nat_cmp}
use Rattle.std.specs.FinMap.{FinMap}
use Rattle.rent_buf.specs.Buffer.{Buffer}
use Rattle.machine.specs.declared.world.TheConstants.{MOST_HANDLES}
use Rattle.machine.specs.declared.completion.Completion.{Completion}
use Rattle.ring_core.specs.Entry.{target, close_entry}
use Rattle.machine.specs.Lists.{has_number}
use Rattle.ring_core.specs.Ring.{RingView, with_done}
use Rattle.machine.specs.Ledger.{Ledger, Operation, Item, Op}
use Rattle.machine.specs.Turn.{reap_one, reap_each, ops_in, closes_in, task_if, task_woken, tasks_woken}
use Rattle.machine.proofs.Amended.{get-map}
use Rattle.machine.proofs.Staying.{Stay, stay_of, Stays, stays-reap_each, beside-reap_one}
use Rattle.driver_core.specs.declared.slot.Slot.{Slot}
use Rattle.uring_driver.specs.Holding.{Holding}
use Rattle.uring_driver.specs.Lists.{done_items_of}
use Rattle.uring_driver.specs.Stands.{owed}
use Rattle.uring_driver.specs.Reap.{Treated, treat_one, goes_on, treat_each}
use Rattle.uring_driver.specs.Reaps.{closes_of, posted}
use Rattle.uring_driver.specs.Turned.{reaped_out}
use Rattle.uring_driver.proofs.Amid.{Amid, TreatsItems}
use Rattle.uring_driver.proofs.AmidOps.{treats-first}
use Rattle.uring_driver.proofs.Posted.{posted-append, posted-done}
use Rattle.uring_driver.proofs.Reaping.{done-first}
use Rattle.uring_driver.proofs.Treated.{below-first, below-second}

-- Items of two lists are reaped in order.
reap-append : (L : Ledger) (xs ys : List Item) → reap_each L (xs ++ ys) ≡ reap_each (reap_each L xs) ys
reap-append L [] ys = refl
reap-append L (x ∷ xs) ys = reap-append (reap_one L x) xs ys

-- What is done beside them stays.
beside-reap : (L : Ledger) (done items : List Item) →
    reap_each (record L { done = done }) items ≡ record (reap_each L items) { done = done }
beside-reap L done [] = refl
beside-reap L done (x ∷ items) =
    ap (λ K. reap_each K items) (beside-reap_one L done x) ∙ beside-reap (reap_one L x) done items

-- The operations of two lists.
ops-append : (xs ys : List Item) → ops_in (xs ++ ys) ≡ ops_in xs ++ ops_in ys
ops-append [] ys = refl
ops-append (Op n ∷ xs) ys = ap (λ ns. n ∷ ns) (ops-append xs ys)
ops-append (Item.Close h ∷ xs) ys = ops-append xs ys

-- Their closes.
closes-append : (xs ys : List Item) → closes_in (xs ++ ys) ≡ closes_in xs ++ closes_in ys
closes-append [] ys = refl
closes-append (Op n ∷ xs) ys = closes-append xs ys
closes-append (Item.Close h ∷ xs) ys = ap (λ hs. h ∷ hs) (closes-append xs ys)

-- The tasks of two lists of operations.
tasks-append : (ops : List Operation) (xs ys : List ℕ) → tasks_woken ops (xs ++ ys) ≡ tasks_woken ops xs ++ tasks_woken ops ys
tasks-append ops [] ys = refl
tasks-append ops (n ∷ xs) ys = ap (λ ts. task_woken (slice_get ops n) ++ ts) (tasks-append ops xs ys)
    ∙ sym (append_assoc (task_woken (slice_get ops n)) (tasks_woken ops xs) (tasks_woken ops ys))

-- The task that is woken, by what stays of an operation.
abbrev woken_by : Option Stay → List ℕ
woken_by None = []
woken_by (Some s) = task_if s.dropped s.task

-- The task that is woken is told by what stays.
task-stay : (x : Option Operation) → task_woken x ≡ woken_by (option_map stay_of x)
task-stay None = refl
task-stay (Some o) = refl

-- The tasks that wait stay.
tasks-stay : {L M : Ledger} → Stays L M → (numbers : List ℕ) → tasks_woken M.ops numbers ≡ tasks_woken L.ops numbers
tasks-stay s [] = refl
tasks-stay {L} {M} s (n ∷ numbers) =
    ap (λ ts. task_woken (slice_get M.ops n) ++ ts) (tasks-stay s numbers)
    ∙ ap (λ ts. ts ++ tasks_woken L.ops numbers) (task-stay (slice_get M.ops n) ∙ ap woken_by (sym (get-map stay_of M.ops n))
    ∙ ap (λ xs. woken_by (slice_get xs n)) s.ops ∙ ap woken_by (get-map stay_of L.ops n) ∙ sym (task-stay (slice_get L.ops n)))

-- All completions of a ledger were treated: none is bad, the machine's operations, closes and tasks are named, and the parts of the driver
-- stand for the ledger once all was reaped. Nothing more is owed than room is left for.
pub record TreatsAll {B : Type 0} (buffer : B → Buffer) (v : RingView) (holding : Holding) (L : Ledger) (all : Treated B) : Type 0 where
  pub no_bad : all.bad ≡ None
  pub amid : Amid buffer (posted v (closes_of all.queued)) all.slots all.holding (reaped_out L)
  pub reaped : all.reaped ≡ ops_in L.done
  pub closed : all.closed ≡ closes_in L.done
  pub woken : all.woken ≡ tasks_woken L.ops (ops_in L.done)
  pub owed : owed (reaped_out L) all.holding + length all.queued ≤ owed L holding

-- One is treated, and then the rest.
module _ {B : Type 0} (buffer : B → Buffer) (v : RingView) (slots : FinMap nat_cmp (Slot B)) (holding : Holding) (L : Ledger)
    (c : Completion) (cs rest : List Completion) (first : v.done ≡ c ∷ (cs ++ rest)) (none : flat_map done_items_of rest ≡ [])
    (begins : L.done ≡ done_items_of c ++ flat_map done_items_of (cs ++ rest)) where
  abbrev one : Treated B
  one = treat_one (target c.word) slots holding c

  abbrev more : Treated B
  more = treat_each one.slots one.holding cs

  abbrev items : List Item
  items = done_items_of c

  abbrev left : List Item
  left = flat_map done_items_of (cs ++ rest)

  abbrev less : Ledger
  less = record L { done = left }

  -- The ledger once it is treated.
  abbrev M : Ledger
  M = reap_each less items

  -- What the closes that it queues add to what is done.
  abbrev added : List Completion
  added = (posted (with_done v []) (closes_of one.queued)).done

  abbrev next : RingView
  next = posted (with_done v (cs ++ rest)) (closes_of one.queued)

  done-next : next.done ≡ cs ++ (rest ++ added)
  done-next = ap (λ w. w.done) (posted-done v (cs ++ rest) (closes_of one.queued)) ∙ append_assoc cs rest added

  done-stays : M.done ≡ left
  done-stays = (stays-reap_each less items).done

  -- It means nothing.
  none-added : Amid buffer next one.slots one.holding M → flat_map done_items_of (rest ++ added) ≡ []
  none-added amid = append_cancel_left (flat_map done_items_of cs) (flat_map done_items_of (rest ++ added)) []
      (sym (flat_map-append done_items_of cs (rest ++ added)) ∙ sym (ap (flat_map done_items_of) done-next)
      ∙ sym amid.means.in_lists.done ∙ done-stays ∙ flat_map-append done_items_of cs rest
      ∙ ap (λ xs. flat_map done_items_of cs ++ xs) none)

  -- The ring with all closes pushed.
  ring-whole : posted (with_done next (rest ++ added)) (closes_of more.queued)
      ≡ posted (with_done v rest) (closes_of (one.queued ++ more.queued))
  ring-whole =
      ap (λ w. posted (with_done w (rest ++ added)) (closes_of more.queued)) (posted-done v (cs ++ rest) (closes_of one.queued))
      ∙ ap (λ w. posted w (closes_of more.queued)) (sym (posted-done v rest (closes_of one.queued)))
      ∙ sym (posted-append (with_done v rest) (closes_of one.queued) (closes_of more.queued))
      ∙ ap (posted (with_done v rest)) (sym (map-append close_entry one.queued more.queued))

  -- The ledger with all completions reaped.
  all-same : reaped_out M ≡ reaped_out L
  all-same = ap (λ K. reap_each K M.done) (sym (beside-reap less [] items))
      ∙ ap (reap_each (reap_each (record L { done = [] }) items)) done-stays
      ∙ sym (reap-append (record L { done = [] }) items left) ∙ ap (reap_each (record L { done = [] })) (sym begins)

  named-ops : ops_in items ++ ops_in M.done ≡ ops_in L.done
  named-ops = ap (λ xs. ops_in items ++ ops_in xs) done-stays ∙ sym (ops-append items left) ∙ ap ops_in (sym begins)

  named-closes : closes_in items ++ closes_in M.done ≡ closes_in L.done
  named-closes = ap (λ xs. closes_in items ++ closes_in xs) done-stays ∙ sym (closes-append items left) ∙ ap closes_in (sym begins)

  named-tasks : tasks_woken L.ops (ops_in items) ++ tasks_woken M.ops (ops_in M.done) ≡ tasks_woken L.ops (ops_in L.done)
  named-tasks = ap (λ ts. tasks_woken L.ops (ops_in items) ++ ts) (tasks-stay (stays-reap_each less items) (ops_in M.done))
      ∙ sym (tasks-append L.ops (ops_in items) (ops_in M.done)) ∙ ap (tasks_woken L.ops) named-ops

  treats-more : TreatsItems buffer (with_done v (cs ++ rest)) holding L M items one →
      TreatsAll buffer (with_done next (rest ++ added)) one.holding M more →
      TreatsAll buffer (with_done v rest) holding L (goes_on one.bad one cs more)
  treats-more t go = subst (λ b. TreatsAll buffer (with_done v rest) holding L (goes_on b one cs more)) (sym t.no_bad) (record {
    no_bad = go.no_bad;
    amid = subst (λ w. Amid buffer w more.slots more.holding (reaped_out L)) ring-whole
        (subst (λ K. Amid buffer (posted (with_done next (rest ++ added)) (closes_of more.queued)) more.slots more.holding K) all-same
        go.amid);
    reaped = ap (λ xs. xs ++ more.reaped) t.reaped ∙ ap (λ xs. ops_in items ++ xs) go.reaped ∙ named-ops;
    closed = ap (λ xs. xs ++ more.closed) t.closed ∙ ap (λ xs. closes_in items ++ xs) go.closed ∙ named-closes;
    woken = ap (λ xs. xs ++ more.woken) t.woken ∙ ap (λ xs. tasks_woken L.ops (ops_in items) ++ xs) go.woken ∙ named-tasks;
    owed = (
        let a = t.owed in
        let b = go.owed in
        let same = ap (λ K. owed K more.holding) all-same in
        let long = length-append one.queued more.queued in
        omega (arith, a, b, same, long));
  })

-- The closes of the first completion are among those of all.
below-begin : {B : Type 0} (first then : Treated B) (cs : List Completion) (b : Option ℕ) →
    ((h : ℕ) → has_number h (goes_on b first cs then).queued ≡ true → h < MOST_HANDLES) → (h : ℕ) →
    has_number h first.queued ≡ true → h < MOST_HANDLES
below-begin first then cs None below = below-first first.queued then.queued below
below-begin first then cs (Some word) below = below

-- Completions that mean those of a ledger are treated as the machine reaps them, where nothing behind them means anything.
pub treats-all : {B : Type 0} (buffer : B → Buffer) (cs rest : List Completion) (v : RingView) (slots : FinMap nat_cmp (Slot B))
    (holding : Holding) (L : Ledger) → Amid buffer v slots holding L → v.done ≡ cs ++ rest → flat_map done_items_of rest ≡ [] →
    ((h : ℕ) → has_number h (treat_each slots holding cs).queued ≡ true → h < MOST_HANDLES) →
    TreatsAll buffer (with_done v rest) holding L (treat_each slots holding cs)
treats-all buffer [] rest v slots holding L old ready none below =
    let e : L.done ≡ [] = old.means.in_lists.done ∙ ap (flat_map done_items_of) ready ∙ none in
    let whole : L ≡ reaped_out L = ap (λ d. record L { done = d }) e ∙ sym (ap (λ d. reap_each (record L { done = [] }) d) e) in
    record {
      no_bad = refl;
      amid = subst (λ K. Amid buffer (with_done v rest) slots holding K) whole
          (subst (λ d. Amid buffer (with_done v d) slots holding L) ready old);
      reaped = sym (ap ops_in e);
      closed = sym (ap closes_in e);
      woken = sym (ap (λ d. tasks_woken L.ops (ops_in d)) e);
      owed = (let same = ap (λ K. owed K holding) whole in omega (arith, same));
    }
treats-all buffer (c ∷ cs) rest v slots holding L old ready none below =
    let begins = done-first buffer v slots L c (cs ++ rest) old.means ready in
    let one = treat_one (target c.word) slots holding c in
    let more = treat_each one.slots one.holding cs in
    let t = treats-first buffer v slots holding L c (cs ++ rest) old ready (below-begin one more cs one.bad below) in
    let here = λ (h : ℕ). below-second one.queued more.queued
    (subst (λ b. (k : ℕ) → has_number k (goes_on b one cs more).queued ≡ true → k < MOST_HANDLES) t.no_bad below) h in
    treats-more buffer v slots holding L c cs rest ready none begins t
    (treats-all buffer cs (rest ++ added buffer v slots holding L c cs rest ready none begins)
    (next buffer v slots holding L c cs rest ready none begins) one.slots one.holding
    (M buffer v slots holding L c cs rest ready none begins) t.amid (done-next buffer v slots holding L c cs rest ready none begins)
    (none-added buffer v slots holding L c cs rest ready none begins t.amid) here)
