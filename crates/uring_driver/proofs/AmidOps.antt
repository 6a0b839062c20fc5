-- What treating the completion of an operation does to the parts of a driver that stand for a ledger, in the middle of a turn.
use Rattle.std.proofs.Common.{◌≡◌, inl, inr, ℕ, ◌+◌, ◌-◌, ◌<◌, ◌≤◌, ◌==◌, Bool, true, false, List, [], ◌∷◌, ◌++◌, length, flat_map}
use Rattle.std.proofs.Common.{Option, Some, None, refl, sym, ◌∙◌, ap, subst, arith, append-nil, if◌then◌else◌}
use Rattle.std.proofs.Math.Bool.{and-false}
use Rattle.std.specs.Prelude.{slice_get, option_to_list, nat_lt, not, ◌&&◌, ◌||◌, map}
use Rattle.std.proofs.lemmas.Bool.Decides.{nat_tests}
use Rattle.std.specs.Ordering.{nat_cmp}
use Rattle.std.specs.FinMap.{FinMap, get}
use Rattle.rent_buf.specs.Buffer.{Buffer}
use Rattle.machine.specs.declared.world.TheConstants.{MOST_HANDLES}
use Rattle.machine.specs.declared.completion.Completion.{Completion}
use Rattle.ring_core.specs.declared.entry.Target.{Target}
use Rattle.ring_core.specs.declared.entry.Target.TheVariants.{Slot as Keyed, Handle, Reserved}
use Rattle.ring_core.specs.Entry.{target, close_entry}
use Rattle.machine.specs.Lists.{has_number, numbers_where}
use Rattle.machine.specs.Request.{named as handles_of, makes}
use Rattle.machine.specs.Lists.{one_if}
use Rattle.machine.specs.Effect.{made_by}
use Rattle.handle_core.specs.Table.{holders_at}
use Rattle.ring_core.specs.Ring.{RingView, pushed, with_done}
use Rattle.machine.specs.Ledger.{Ledger, Operation, Place, InQueue, InFlight, InDone, Reaped, Queued, Op, Gone, is_live, is_kept}
use Rattle.machine.specs.Ledger.{is_owned, with_made}
use Rattle.machine.specs.Queue.{at_place, with_op, push, push_each, is_unheld, became_unheld, with_gone, leave}
use Rattle.machine.specs.Turn.{reaped_place, with_reap, reap_if, reap_op, reap_one, reap_each, task_if, task_woken, tasks_woken}
use Rattle.machine.specs.Closes.{close_count, ClosesOnce, made_at}
use Rattle.machine.proofs.Where.{where-kept}
use Rattle.machine.proofs.Staying.{stays-leave}
use Rattle.machine.proofs.Numbers.{below-or-not}
use Rattle.machine.proofs.Holders.{AreLive, held-by_op}
use Rattle.machine.proofs.Making.{From, ops_from-then, ops_from-op, from-gone}
use Rattle.machine.proofs.Alone.{alone-from, made-there, made-holding}
use Rattle.machine.proofs.Leaving.{named-ascends, has-first, has-later}
use Rattle.machine.proofs.Closing.{count-first, known-stays, known-op}
use Rattle.machine.proofs.Once.{once-first, once-op, once-leave}
use Rattle.machine.proofs.Turning.{reap-holds, reaped-kept}
use Rattle.driver_core.specs.declared.slot.Slot.{Slot}
use Rattle.driver_core.specs.Slots.{life_of, life_at}
use Rattle.driver_core.specs.Holds.{dropped_in, is_maker, is_dropped, made_life, seen, is_seen, is_nobody, without_ops, unheld_by, CanLeave}
use Rattle.driver_core.specs.Holds.{HoldersStand, AreMaking}
use Rattle.driver_core.specs.Slot.{named_by, slots_after}
use Rattle.driver_core.proofs.Counted.{making-some}
use Rattle.driver_core.proofs.Distinct.{Distinct, ascends-distinct, one-more, not-both}
use Rattle.driver_core.proofs.Early.{from-push_closes}
use Rattle.driver_core.proofs.Holds.{can-leave}
use Rattle.driver_core.proofs.Seen.{AreEarly, made-done}
use Rattle.driver_core.proofs.Seeing.{made-unseen, unheld-lost}
use Rattle.driver_core.proofs.Standing.{nobody-counts, holders-stand-changed, holders-stand-left, seen-some}
use Rattle.driver_core.proofs.Lists.{some, length-option}
use Rattle.uring_driver.specs.Holding.{Holding, closes, places, with_added, HandlesStand}
use Rattle.uring_driver.specs.Making.{kept_if, lost_if, op_closes, op_ended, is_old, refuses_made}
use Rattle.uring_driver.specs.Lists.{done_items_of, done_items_in}
use Rattle.uring_driver.specs.Reap.{Treated, is_refused, lost_in, holding_after, named_unless, names_in, treats_slot, treat_one}
use Rattle.uring_driver.specs.Reaps.{closes_of, posted}
use Rattle.uring_driver.specs.Submissions.{room_made}
use Rattle.uring_driver.proofs.Means.{Means}
use Rattle.uring_driver.proofs.Ended.{not-old, is-new, ops-added, users-added, kept-or-lost, made-few, places-ended}
use Rattle.uring_driver.proofs.Holdings.{making-after, unrefused}
use Rattle.uring_driver.proofs.Holders.{means-early, means-live, handles-same}
use Rattle.uring_driver.proofs.Lefts.{handles-left, owned-push_closes}
use Rattle.uring_driver.proofs.Posting.{means-pushed_entry}
use Rattle.uring_driver.proofs.Reaping.{Completes, completes, done-first}
use Rattle.uring_driver.proofs.Amid.{Amid, TreatsItems, less-known, less-alone, reserved, closed}

-- The closes of handles are pushed, in the ring and in the ledger.
means-posted : {B : Type 0} (buffer : B → Buffer) (v : RingView) (slots : FinMap nat_cmp (Slot B)) (L : Ledger) (handles : List ℕ) →
    Means buffer v slots L → ((h : ℕ) → has_number h handles ≡ true → h < MOST_HANDLES) →
    Means buffer (posted v (closes_of handles)) slots (push_each L (map Queued.Close handles))
means-posted buffer v slots L [] means below = means
means-posted buffer v slots L (h ∷ handles) means below =
    means-posted buffer (pushed (room_made v) (close_entry h)) slots (push L (Queued.Close h)) handles
    (means-pushed_entry buffer v (pushed (room_made v) (close_entry h)) slots L (close_entry h) (pushed (room_made v) (close_entry h)).spare
    means refl (refl, below h (has-first h handles)) (λ key same. cc) refl)
    (λ k is. below k (has-later k h handles is))

-- What is reaped comes from what was done.
from-reap : (o : Operation) → From o (with_reap o)
from-reap o = by o.place refl
  where
    same : reaped_place o.place ≡ o.place → From o (with_reap o)
    same e = record { request = refl; made = refl; live = λ l. sym (ap is_kept e) ∙ l; place = λ l. ap made_at e }

    by : (p : Place) → o.place ≡ p → From o (with_reap o)
    by InQueue e = same (ap reaped_place e ∙ sym e)
    by InFlight e = same (ap reaped_place e ∙ sym e)
    by (InDone outcome) e = record {
      request = refl;
      made = refl;
      live = λ l. ap is_kept e;
      place = λ l. ap (λ q. made_at (reaped_place q)) e ∙ sym (ap made_at e);
    }
    by (Reaped outcome) e = same (ap reaped_place e ∙ sym e)
    by Gone e = same (ap reaped_place e ∙ sym e)

module _ {B : Type 0} (buffer : B → Buffer) (v : RingView) (slots : FinMap nat_cmp (Slot B)) (holding : Holding) (L : Ledger)
    (c : Completion) (rest : List Completion) (old : Amid buffer v slots holding L) (first : v.done ≡ c ∷ rest)
    (below : (h : ℕ) → has_number h (treat_one (target c.word) slots holding c).queued ≡ true → h < MOST_HANDLES) where
  -- The ledger without what the first completion means.
  abbrev less : Ledger
  less = record L { done = flat_map done_items_of rest }

  -- The completion of an operation.
  module _ (key : ℕ) (is : target c.word ≡ Keyed key) (this : Completes buffer v slots L c rest) where
    -- It.
    abbrev o : Operation
    o = this.operation

    done-op : L.done ≡ Op c.serial ∷ flat_map done_items_of rest
    done-op = done-first buffer v slots L c rest old.means first ∙ ap (λ t. done_items_in c t ++ flat_map done_items_of rest) is

    -- What it made is what the completion says.
    made-is : o.made ≡ made_by c.outcome
    made-is = old.alone.agrees c.serial o this.there this.live ∙ ap made_at this.done

    -- A driver hasn't seen it yet.
    unseen : made_life (life_at o) ≡ None
    unseen = made-done o.dropped o.place o.task c.outcome this.done

    seen-is : seen o ≡ handles_of o.request
    seen-is = ap (λ m. with_made m (handles_of o.request)) unseen

    -- A handle that it made can be new.
    made-new : (h : ℕ) → made_by c.outcome ≡ Some h → is_old holding h ≡ false
    made-new h says =
        let made : o.made ≡ Some h = made-is ∙ says in
        let alone = old.alone in
        let user = alone.users c.serial h o this.there this.live made in
        let ops = ap length (made-unseen L alone old.known c.serial h o this.there this.live made unseen) in
        let counted = old.handles.holders.operations h in
        let none : is_nobody (holders_at holding.table h) ≡ true =
        nobody-counts (holders_at holding.table h)
        ∙ ap (λ b. not b && ((holders_at holding.table h).operations == 0)) (old.handles.holders.users h ∙ user)
        ∙ ap (λ k. k == 0) (counted ∙ ops) in
        let there = made-there L c.serial h o old.known this.there made in
        let together = old.known.together in
        let few = old.few in
        is-new holding h none (closes-not h (held-by_op L h c.serial o this.there (made-holding h o this.live made)))
        (omega (arith, there, together, few))
      where
        none-found : (k : ℕ) → k ≤ 0 → nat_lt 0 k ≡ false
        none-found k none = grind (arith, nat_tests)

        -- A handle that somebody holds isn't closing.
        closes-not : (h : ℕ) → is_unheld L h ≡ false → closes holding h ≡ false
        closes-not h held = old.handles.closing h ∙ none-found (close_count L h) (elim (below-or-not 0 (close_count L h)) [
          | inl some ↦ absurd (not-both (is_unheld L h) (old.once.unheld h (omega (arith, some))) held)
          | inr none ↦ none
        ])

    -- It isn't refused.
    takes : is_refused holding c.outcome (get slots c.word) ≡ false
    takes =
        ap (λ b. not b || refuses_made holding (is_maker (get slots c.word)) (made_by c.outcome)) this.flies
        ∙ by (made_by c.outcome) refl
      where
        by : (made : Option ℕ) → made_by c.outcome ≡ made → refuses_made holding (is_maker (get slots c.word)) made ≡ false
        by None says = refl
        by (Some h) says =
            ap (λ b. not b || is_old holding h)
            (this.maker ∙ old.alone.makers c.serial h o this.there this.live (made-is ∙ says)) ∙ made-new h says

    -- Without it there are as many closes.
    same-count : (h : ℕ) → close_count less h ≡ close_count L h
    same-count h = (let one = count-first L (Op c.serial) (flat_map done_items_of rest) h done-op in omega (arith, one))

    less-once : ClosesOnce less
    less-once = once-first L (Op c.serial) (flat_map done_items_of rest) done-op old.once

    less-handles : HandlesStand holding less
    less-handles = handles-same holding L old.handles less (record { users = λ h. refl; ops = λ h. refl }) same-count

    -- What its reap leaves of the ledger.
    reaped-is : reap_one less (Op c.serial) ≡ reap_if o.dropped less c.serial
    reaped-is = ap (reap_op less c.serial) this.there

    -- Who holds handles once it is treated, by whether it was dropped.
    abbrev ended : Bool → List ℕ → Holding
    ended dropped names =
        op_ended holding names (makes o.request) (kept_if dropped (made_by c.outcome)) (lost_if dropped (made_by c.outcome))

    ended-is : (b : Bool) → o.dropped ≡ b → (names : List ℕ) → dropped_in (get slots c.word) ≡ names →
        holding_after holding c.outcome (get slots c.word) ≡ ended b names
    ended-is b is names are =
        ap (λ ns. op_ended holding ns (is_maker (get slots c.word)) (kept_if (is_dropped (get slots c.word)) (made_by c.outcome))
        (lost_if (is_dropped (get slots c.word)) (made_by c.outcome))) are
        ∙ ap (λ m. op_ended holding names m (kept_if (is_dropped (get slots c.word)) (made_by c.outcome))
        (lost_if (is_dropped (get slots c.word)) (made_by c.outcome))) this.maker
        ∙ ap (λ d. ended d names) (this.drop ∙ is)

    -- As many operations make handles as are left.
    making-left : AreMaking (slots_after slots c (get slots c.word)) (holding.makers - one_if (makes o.request))
    making-left = subst (λ m. AreMaking (slots_after slots c (get slots c.word)) (holding.makers - one_if m)) this.maker
        (making-after slots holding.makers c old.making this.flies)

    -- An operation that wasn't dropped is reaped, and holds what it held, and what it made.
    abbrev reaped : Ledger
    reaped = with_op less c.serial with_reap

    reaped-life : o.dropped ≡ false → made_life (life_at (with_reap o)) ≡ made_by c.outcome
    reaped-life kept =
        ap (λ b. made_life (life_of b (reaped_place o.place) o.task)) kept
        ∙ ap (λ p. made_life (life_of false (reaped_place p) o.task)) this.done

    reaped-stands : o.dropped ≡ false → (made : Option ℕ) → made_by c.outcome ≡ made →
        HoldersStand (with_added holding.table (option_to_list made)) reaped
    reaped-stands kept made says =
        holders-stand-changed holding.table (with_added holding.table (option_to_list made)) less c.serial o with_reap less-handles.holders
        this.there (λ h. ap (nat_lt 0) (users-added holding.table (option_to_list made) (nobody-made made says) h (length-option made)))
        (counts made says)
      where
        nobody-made : (made : Option ℕ) → made_by c.outcome ≡ made → (h : ℕ) → option_to_list made ≡ h ∷ [] →
            is_nobody (holders_at holding.table h) ≡ true
        nobody-made None says h is = (let f : ⊥ = cc in absurd f)
        nobody-made (Some m) says h is =
            let e : m ≡ h = cc in
            (not-old holding h (made-new h (says ∙ ap Some e))).0

        seen-before : (h : ℕ) → one_if (is_seen h o) ≡ one_if (has_number h (handles_of o.request))
        seen-before h = ap one_if (ap (λ b. b && has_number h (seen o)) this.live ∙ ap (has_number h) seen-is)

        seen-after : (made : Option ℕ) → made_by c.outcome ≡ made → (h : ℕ) →
            one_if (is_seen h (with_reap o)) ≡ one_if (has_number h (with_made made (handles_of o.request)))
        seen-after made says h = ap one_if (ap (λ b. b && has_number h (seen (with_reap o))) (reaped-kept o.place ∙ this.live)
            ∙ ap (λ m. has_number h (with_made m (handles_of o.request))) (reaped-life kept ∙ says))

        counts : (made : Option ℕ) → made_by c.outcome ≡ made → (h : ℕ) →
            (holders_at (with_added holding.table (option_to_list made)) h).operations + one_if (is_seen h o)
            ≡ (holders_at holding.table h).operations + one_if (is_seen h (with_reap o))
        counts None says h = (let a = seen-before h in let b = seen-after None says h in omega (arith, a, b))
        counts (Some m) says h =
            let a = seen-before h in
            let b = seen-after (Some m) says h in
            let d = ops-added holding.table m (not-old holding m (made-new m says)).0 h in
            let e = one-more h m (handles_of o.request) (not-named m says) in
            omega (arith, a, b, d, e)
          where
            not-named : (m : ℕ) → made_by c.outcome ≡ Some m → has_number m (handles_of o.request) ≡ false
            not-named m says = by (has_number m (handles_of o.request)) refl where
              by : (b : Bool) → has_number m (handles_of o.request) ≡ b → b ≡ false
              by true is = absurd (let lt = old.known.above c.serial m m o this.there is (made-is ∙ says) in omega (arith, lt))
              by false is = refl

    reaped-amid : o.dropped ≡ false →
        Amid buffer (with_done v rest) (slots_after slots c (get slots c.word)) (ended false []) reaped
    reaped-amid kept = record {
      means = (this.kept kept).0;
      handles = record {
        holders = reaped-stands kept (made_by c.outcome) refl;
        closing = less-handles.closing;
      };
      known = known-op less c.serial with_reap (λ p. (refl, refl)) (less-known buffer v slots holding L c rest old first);
      once = once-op less c.serial with_reap (λ p there. reap-holds p) less-once;
      alone = alone-from (ops_from-op less c.serial with_reap from-reap) (less-alone buffer v slots holding L c rest old first);
      few = old.few;
      making = making-left;
    }

    owned-reaped : numbers_where is_owned 0 reaped.ops ≡ numbers_where is_owned 0 L.ops
    owned-reaped = where-kept is_owned with_reap L.ops c.serial 0 (λ p there. ap (λ b. b && not p.dropped) (reaped-kept p.place))

    -- One that was dropped is gone, and leaves the handles that it names, and the one that it made.
    abbrev gone : Ledger
    gone = with_gone less c.serial

    abbrev closed_now : List ℕ
    closed_now = op_closes holding.table (handles_of o.request) (lost_if true (made_by c.outcome))

    gone-means : o.dropped ≡ true → Means buffer (with_done v rest) (slots_after slots c (get slots c.word)) gone
    gone-means left = (this.left left).0

    asks-live : o.dropped ≡ true → AreLive gone.ops less.queue
    asks-live left = means-live buffer (with_done v rest) (slots_after slots c (get slots c.word)) gone (gone-means left)

    asks-early : o.dropped ≡ true → AreEarly gone.ops less.queue
    asks-early left = means-early buffer (with_done v rest) (slots_after slots c (get slots c.word)) gone (gone-means left)

    unheld-is : op_closes holding.table (handles_of o.request) (lost_if true (made_by c.outcome)) ≡ became_unheld less gone
    unheld-is =
        ap (λ m. unheld_by holding.table (handles_of o.request) ++ option_to_list m) (sym made-is)
        ∙ unheld-lost holding.table less c.serial o less-handles.holders this.there this.live
        (less-known buffer v slots holding L c rest old first) (less-alone buffer v slots holding L c rest old first) unseen

    -- Their closes are queued.
    queued-is : o.dropped ≡ true → (treat_one (target c.word) slots holding c).queued ≡ became_unheld less gone
    queued-is left =
        ap (λ t. (treat_one t slots holding c).queued) is
        ∙ ap (λ b. (treats_slot (named_unless b (named_by (get slots c.word))) slots holding c).queued) takes
        ∙ ap (λ x. (treats_slot x slots holding c).queued) this.named.is
        ∙ ap (λ ns. op_closes holding.table ns (lost_if (is_dropped (get slots c.word)) (made_by c.outcome))) (this.left left).1
        ∙ ap (λ d. op_closes holding.table (handles_of o.request) (lost_if d (made_by c.outcome))) (this.drop ∙ left) ∙ unheld-is

    gone-amid : o.dropped ≡ true → Amid buffer (posted (with_done v rest) (closes_of closed_now))
        (slots_after slots c (get slots c.word)) (ended true (handles_of o.request)) (leave less c.serial)
    gone-amid left = record {
      means = subst (λ hs. Means buffer (posted (with_done v rest) (closes_of hs)) (slots_after slots c (get slots c.word))
          (leave less c.serial)) (sym unheld-is)
          (means-posted buffer (with_done v rest) (slots_after slots c (get slots c.word)) gone (became_unheld less gone) (gone-means left)
          (subst (λ hs. (h : ℕ) → has_number h hs ≡ true → h < MOST_HANDLES) (queued-is left) below));
      handles = handles-left holding (ended true (handles_of o.request)) less c.serial closed_now less-handles.closing
          (subst (λ hs. HoldersStand (without_ops holding.table hs) gone) seen-is
          (holders-stand-left holding.table less c.serial o less-handles.holders this.there this.live
          (subst Distinct (sym seen-is) (ascends-distinct 0 (handles_of o.request) (named-ascends o.request)))))
          unheld-is refl (asks-early left);
      known = known-stays (stays-leave less c.serial) (less-known buffer v slots holding L c rest old first);
      once = once-leave less c.serial (asks-live left) less-once;
      alone = alone-from (ops_from-then (ops_from-op less c.serial (at_place Gone) from-gone)
          (from-push_closes gone (became_unheld less gone) (asks-early left))) (less-alone buffer v slots holding L c rest old first);
      few = (let a = ap length (stays-leave less c.serial).world in let b = old.few in omega (arith, a, b));
      making = making-left;
    }

    owned-gone : o.dropped ≡ true → numbers_where is_owned 0 (leave less c.serial).ops ≡ numbers_where is_owned 0 L.ops
    owned-gone left = owned-push_closes gone (became_unheld less gone) (asks-live left)
        ∙ where-kept is_owned (at_place Gone) L.ops c.serial 0 (λ p there.
        sym (ap (λ b. is_live p && not b) (ap (λ x. x.dropped) (some p o (slice_get L.ops c.serial) there this.there) ∙ left)
        ∙ and-false (is_live p)))

    -- It may leave: it holds each of them.
    may-leave : CanLeave holding.table (handles_of o.request)
    may-leave = subst (CanLeave holding.table) seen-is (can-leave holding.table (seen o)
        (subst Distinct (sym seen-is) (ascends-distinct 0 (handles_of o.request) (named-ascends o.request)))
        (seen-some holding.table less c.serial o less-handles.holders this.there this.live))

    -- No more is owed.
    places-left : (b : Bool) (names : List ℕ) → CanLeave holding.table names →
        places (ended b names) + length (op_closes holding.table names (lost_if b (made_by c.outcome))) ≤ places holding
    places-left b names may =
        places-ended holding names (makes o.request) (kept_if b (made_by c.outcome)) (lost_if b (made_by c.outcome)) may
        (some (makes o.request) refl)
        (let x = kept-or-lost b (made_by c.outcome) in
        let y = made-few holding (is_maker (get slots c.word)) (made_by c.outcome)
        (unrefused holding c.outcome (get slots c.word) takes).1 in
        let z = ap one_if this.maker in
        omega (arith, x, y, z))
      where
        some : (m : Bool) → makes o.request ≡ m → one_if m ≤ holding.makers
        some true is = (let a = making-some slots holding.makers c.word old.making (this.maker ∙ is) in omega (arith, a))
        some false is = omega arith

    -- What its completion comes to, by the handles that it leaves.
    abbrev said : Option ℕ → Bool → List ℕ → Treated B
    said task dropped names = record {
      slots = slots_after slots c (get slots c.word);
      holding = ended dropped names;
      reaped = c.serial ∷ [];
      closed = [];
      woken = option_to_list task;
      queued = op_closes holding.table names (lost_if dropped (made_by c.outcome));
      bad = None;
      left = [];
    }

    -- The tasks that are woken are the machine's.
    wakes-task : (task : Option ℕ) → option_to_list task ≡ task_if o.dropped o.task →
        option_to_list task ≡ tasks_woken L.ops (c.serial ∷ [])
    wakes-task task woken = woken ∙ sym (append-nil (task_if o.dropped o.task)) ∙ ap (λ x. task_woken x ++ []) (sym this.there)

    -- The handles that it leaves.
    abbrev names_if : Bool → List ℕ
    names_if b = if b then handles_of o.request else []

    names-are : (b : Bool) → o.dropped ≡ b → dropped_in (get slots c.word) ≡ names_if b
    names-are true left = (this.left left).1
    names-are false kept = (this.kept kept).1

    by_drop : (b : Bool) → o.dropped ≡ b → (task : Option ℕ) → option_to_list task ≡ task_if o.dropped o.task →
        TreatsItems buffer (with_done v rest) holding L (reap_if b less c.serial) (Op c.serial ∷ []) (said task b (names_if b))
    by_drop true left task woken = record {
      no_bad = refl;
      amid = gone-amid left;
      reaped = refl;
      closed = refl;
      woken = wakes-task task woken;
      owed = (
          let own = ap length (owned-gone left) in
          let fewer = places-left true (handles_of o.request) may-leave in
          omega (arith, own, fewer));
    }
    by_drop false kept task woken = record {
      no_bad = refl;
      amid = reaped-amid kept;
      reaped = refl;
      closed = refl;
      woken = wakes-task task woken;
      owed = (
          let own = ap length owned-reaped in
          let fewer = places-left false [] tt in
          omega (arith, own, fewer));
    }

    -- What it is said to come to.
    said-is : (task : Option ℕ) → treats_slot (Some (c.serial, task)) slots holding c ≡ said task o.dropped (names_if o.dropped)
    said-is task =
        ap (λ h. record (treats_slot (Some (c.serial, task)) slots holding c) { holding = h })
        (ended-is o.dropped refl (names_if o.dropped) (names-are o.dropped refl))
        ∙ ap (λ ns. record (said task o.dropped (names_if o.dropped)) {
          queued = op_closes holding.table ns (lost_in (get slots c.word) c.outcome);
        })
        (names-are o.dropped refl)
        ∙ ap (λ d. record (said task o.dropped (names_if o.dropped)) {
          queued = op_closes holding.table (names_if o.dropped) (lost_if d (made_by c.outcome));
        }) this.drop

    completed : TreatsItems buffer (with_done v rest) holding L (reap_one less (Op c.serial)) (Op c.serial ∷ [])
        (treats_slot (names_in holding c.outcome (get slots c.word)) slots holding c)
    completed =
        subst (λ M. TreatsItems buffer (with_done v rest) holding L M (Op c.serial ∷ [])
        (treats_slot (names_in holding c.outcome (get slots c.word)) slots holding c)) (sym reaped-is)
        (subst (λ b. TreatsItems buffer (with_done v rest) holding L (reap_if o.dropped less c.serial) (Op c.serial ∷ [])
        (treats_slot (named_unless b (named_by (get slots c.word))) slots holding c)) (sym takes)
        (subst (λ x. TreatsItems buffer (with_done v rest) holding L (reap_if o.dropped less c.serial) (Op c.serial ∷ [])
        (treats_slot x slots holding c)) (sym this.named.is)
        (subst (λ x. TreatsItems buffer (with_done v rest) holding L (reap_if o.dropped less c.serial) (Op c.serial ∷ []) x)
        (sym (said-is this.named.task)) (by_drop o.dropped refl this.named.task this.named.woken))))

  -- What the first completion comes to, by what its word names.
  treats-by : (t : Target) → target c.word ≡ t →
      TreatsItems buffer (with_done v rest) holding L (reap_each less (done_items_in c t)) (done_items_in c t) (treat_one t slots holding c)
  treats-by (Reserved word) is = reserved buffer v slots holding L c rest old first word is
  treats-by (Handle h) is = closed buffer v slots holding L c rest old first h is
  treats-by (Keyed key) is = completed key is (completes buffer v slots L c rest old.means first key is)

  pub treats-first : TreatsItems buffer (with_done v rest) holding L (reap_each less (done_items_of c)) (done_items_of c)
      (treat_one (target c.word) slots holding c)
  treats-first = treats-by (target c.word) refl
