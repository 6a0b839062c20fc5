-- That each operation that waits is in flight, directly behind the one that it waits for: of every ledger that events led to.
use Rattle.std.proofs.Common.{◌≡◌, inl, inr, ℕ, ◌+◌, ◌≤◌, Bool, true, false, List, [], ◌∷◌, ◌++◌, length, map, Option, Some, None}
use Rattle.std.proofs.Common.{option_map}
use Rattle.std.proofs.Common.{slice_get, refl, sym, ◌∙◌, ap, subst, arith}
use Rattle.std.specs.Prelude.{if◌then◌else◌, ◌==◌}
use Rattle.rent_buf.specs.Buffer.{Buffer}
use Rattle.rent_buf.specs.Parts.{Parts}
use Rattle.machine.specs.declared.request.Request.{Request}
use Rattle.machine.specs.declared.request.Told.{Told}
use Rattle.machine.specs.declared.request.Outcome.{Outcome}
use Rattle.machine.specs.declared.ledger.Event.{Event}
use Rattle.machine.specs.declared.ledger.Event.TheVariants.{Give, Feed, FeedMessage, End, Look, Close, Submit, Poll, Drop, Cancel, Turn}
use Rattle.machine.specs.declared.ledger.Event.TheVariants.{Exec}
use Rattle.machine.specs.declared.ledger.Event.TheVariants.{NewCanceller, NewHandle, CancelAll}
use Rattle.machine.specs.declared.ledger.Refusal.{Refusal}
use Rattle.machine.specs.Lists.{amended, passes}
use Rattle.machine.specs.Ledger.{Ledger, Operation, Place, InQueue, InFlight, InDone, Reaped, Gone, Queued, Req, Item, Op, empty}
use Rattle.machine.specs.Ledger.{new_operation, is_under_marked, group_under, members}
use Rattle.machine.specs.Queue.{with_op, at_place, with_flying, canceled_at, with_take, with_cancel, take_one, leader_behind, take_behind}
use Rattle.machine.specs.Queue.{take_all, make_room, push, push_each, is_unheld, became_unheld, with_gone, leave}
use Rattle.machine.specs.Turn.{reaped_place, with_reap, reap_if, reap_op, reap_one, reap_each, turn_step, exec_op, exec_step, complete_at}
use Rattle.machine.specs.Step.{step, row, with_user, close_if, with_new_op, submit_if, with_task, handed_over, poll_at, poll_step}
use Rattle.machine.specs.Step.{with_drop, drop_at, drop_step, group_of, with_mark}
use Rattle.machine.specs.Refusal.{cause, waits}
use Rattle.machine.specs.Run.{after, ledger}
use Rattle.machine.proofs.Amended.{get-amended, get-amended-other, get-amended-same, changed-cases, joined-cases}
use Rattle.machine.proofs.Occurring.{same-cases, queued, listed, listed-append}
use Rattle.machine.proofs.Taking.{in_queue, in_flight, in_done, queue_mark, flight_mark, done_mark, Listed, canceled-place, one-taken}
use Rattle.machine.proofs.Taking.{one-canceled, listed-take_all}
use Rattle.machine.proofs.Listed.{submit-joined, listed-push_cancel, listed-push_close, listed-changed}
use Rattle.machine.proofs.Ending.{Unmarked, listed-gone, done-there}
use Rattle.machine.proofs.Reaping.{AreCloses, closed-take_all, closed-push, closed-reap_one, one-reaped}
use Rattle.machine.proofs.Stepping.{step-refused, step-row, OwnedAt, found, executed-there, executed-free}
use Rattle.machine.proofs.Lawful.{Lawful, handed-there, lawful-executed, lawful-step, lawful-ledger}
use Rattle.machine.proofs.Alone.{listed-handed}
use Rattle.machine.proofs.Behind.{awaited, last_op, no-number, listed-here, same-at, behind-fewer, last-append}
use Rattle.machine.proofs.Behind.{behind-append}
use Rattle.machine.proofs.Parting.{Follows, parted-executed, follows-released, follows-closed}

-- A change of an operation that leaves whom it waits for, and whether it is in flight.
pub follows-op : (L : Ledger) (n : ℕ) (change : Operation → Operation) →
    ((o : Operation) → slice_get L.ops n ≡ Some o → ((change o).waits_for ≡ o.waits_for)
    × (in_flight (change o).place ≡ in_flight o.place)) →
    Follows L → Follows (with_op L n change)
follows-op L n change keeps f = record {
  idle = λ k h. waiting k ∙ f.idle k (sym (same-at flight_mark L.ops n change (λ o there. (keeps o there).1) k) ∙ h);
  behind = behind-fewer L.ops (amended L.ops n change) None L.flying (λ k m some is. sym (waiting k) ∙ is) f.behind;
}
  where
    waiting : (k : ℕ) → awaited (slice_get (amended L.ops n change) k) ≡ awaited (slice_get L.ops k)
    waiting k = same-at awaited L.ops n change (λ o there. (keeps o there).0) k

-- A close that is taken.
follows-closing : (L : Ledger) (h : ℕ) → Follows L → Follows (with_flying L (Item.Close h))
follows-closing L h f = record {
  idle = f.idle;
  behind = behind-append L.ops None L.flying (Item.Close h) f.behind (λ m is. no-number m None refl is);
}

-- What stands in the queue isn't in flight.
queued-place : (p : Place) → 1 ≤ in_queue p → in_flight p ≡ 0
queued-place InQueue h = refl
queued-place InFlight h = absurd (omega (arith, h))
queued-place (InDone outcome) h = refl
queued-place (Reaped outcome) h = refl
queued-place Gone h = refl

-- The same of an operation that was looked up.
queued-mark : (x : Option Operation) → 1 ≤ queue_mark x → flight_mark x ≡ 0
queued-mark None h = refl
queued-mark (Some o) h = queued-place o.place h

-- What is taken is in flight.
taken-mark : (leader : Option ℕ) (x : Option Operation) → 1 ≤ queue_mark x → flight_mark (option_map (with_take leader) x) ≡ 1
taken-mark leader None h = absurd (omega (arith, h))
taken-mark leader (Some o) h = refl

-- What was taken and isn't in flight isn't there.
taken-idle : (leader : Option ℕ) (x : Option Operation) → flight_mark (option_map (with_take leader) x) ≡ 0 →
    awaited (option_map (with_take leader) x) ≡ None
taken-idle leader None h = refl
taken-idle leader (Some o) h = absurd (omega (arith, h))

-- What was taken waits for its leader, or for none.
taken-awaits : (leader : Option ℕ) (x : Option Operation) (k : ℕ) → awaited (option_map (with_take leader) x) ≡ Some k → leader ≡ Some k
taken-awaits leader None k is = (let f : ⊥ = cc in absurd f)
taken-awaits leader (Some o) k is = is

-- The leader behind a request is its operation, where there is one.
leader-is : (linked : Bool) (m k : ℕ) → (if linked then Some m else None) ≡ Some k → Some m ≡ Some k
leader-is true m k is = is
leader-is false m k is = no-number k None refl is

-- A cancel that is taken leaves whom an operation waits for.
pub canceled-waits : (p : Place) (o : Operation) → (canceled_at p o).waits_for ≡ o.waits_for
canceled-waits InQueue o = refl
canceled-waits InFlight o = refl
canceled-waits (InDone outcome) o = refl
canceled-waits (Reaped outcome) o = refl
canceled-waits Gone o = refl

-- A request that is taken from the front of entries that are the queue.
module _ (leader : Option ℕ) (L : Ledger) (m : ℕ) (entries : List Queued)
    (fits : (n : ℕ) → queued n (Req m ∷ entries) ≡ queue_mark (slice_get L.ops n))
    (flown : (n : ℕ) → listed n L.flying ≡ flight_mark (slice_get L.ops n)) where
  -- Its operation stands in the queue.
  first-queued : 1 ≤ queue_mark (slice_get L.ops m)
  first-queued = elim (same-cases m m) [
    | inl e ↦ (let one = e.1 in let q = fits m in omega (arith, one, q))
    | inr e ↦ absurd (e.0 refl)
  ]

  -- It isn't in flight.
  first-unlisted : listed m L.flying ≡ 0
  first-unlisted = flown m ∙ queued-mark (slice_get L.ops m) first-queued

  -- What is in flight is listed there.
  flown-next : (n : ℕ) → listed n (L.flying ++ Op m ∷ []) ≡ flight_mark (slice_get (amended L.ops m (with_take leader)) n)
  flown-next n =
      let a = listed-append n L.flying (Op m ∷ []) in
      let g = flown n in
      elim (same-cases n m) [
        | inl e ↦ (
            let one = e.1 in
            let new : slice_get (amended L.ops m (with_take leader)) n ≡ option_map (with_take leader) (slice_get L.ops m) =
            ap (slice_get (amended L.ops m (with_take leader))) e.0 ∙ get-amended (with_take leader) L.ops m in
            let none : listed n L.flying ≡ 0 = ap (λ j. listed j L.flying) e.0 ∙ first-unlisted in
            let mark : flight_mark (slice_get (amended L.ops m (with_take leader)) n) ≡ 1 =
            ap flight_mark new ∙ taken-mark leader (slice_get L.ops m) first-queued in
            omega (arith, a, one, none, mark))
        | inr e ↦ (
            let other = e.1 in
            let mark : flight_mark (slice_get (amended L.ops m (with_take leader)) n) ≡ flight_mark (slice_get L.ops n) =
            ap flight_mark (get-amended-other (with_take leader) L.ops m n e.0) in
            omega (arith, a, other, g, mark))
      ]

  -- It waits for the last in flight, or for none.
  follows-first : ((k : ℕ) → leader ≡ Some k → last_op None L.flying ≡ Some k) → Follows L → Follows (take_one leader L (Req m))
  follows-first waiting f = record {
    idle = λ n h. elim (changed-cases (with_take leader) L.ops m n) [
      | inl e ↦ ap awaited e.1 ∙ taken-idle leader (slice_get L.ops m) (sym (ap flight_mark e.1) ∙ h)
      | inr e ↦ ap awaited e.1 ∙ f.idle n (sym (ap flight_mark e.1) ∙ h)
    ];
    behind =
        behind-append (amended L.ops m (with_take leader)) None L.flying (Op m)
        (behind-fewer L.ops (amended L.ops m (with_take leader)) None L.flying
        (λ n k some is. elim (changed-cases (with_take leader) L.ops m n) [
          | inl e ↦ (
              let z : listed n L.flying ≡ 0 = ap (λ j. listed j L.flying) e.0 ∙ first-unlisted in
              absurd (omega (arith, some, z)))
          | inr e ↦ sym (ap awaited e.1) ∙ is
        ]) f.behind)
        (λ k is. waiting k (taken-awaits leader (slice_get L.ops m) k (sym (ap awaited (get-amended (with_take leader) L.ops m)) ∙ is)));
  }

-- Taking entries that are the queue, the first of them behind the last in flight, or behind none.
follows-take_behind : (leader : Option ℕ) (L : Ledger) (entries : List Queued) →
    ((n : ℕ) → queued n entries ≡ queue_mark (slice_get L.ops n)) → ((n : ℕ) → listed n L.flying ≡ flight_mark (slice_get L.ops n)) →
    ((k : ℕ) → leader ≡ Some k → last_op None L.flying ≡ Some k) → Follows L → Follows (take_behind leader L entries)
follows-take_behind leader L [] fits flown waiting f = f
follows-take_behind leader L (Req m ∷ entries) fits flown waiting f =
    follows-take_behind (leader_behind L (Req m)) (take_one leader L (Req m)) entries
    (λ n. (one-taken leader L.ops m entries fits n None).1) (flown-next leader L m entries fits flown)
    (λ k is. last-append None L.flying (Op m) ∙ leader-is (passes (λ (operation : Operation). operation.linked) (slice_get L.ops m)) m k is)
    (follows-first leader L m entries fits flown waiting f)
follows-take_behind leader L (Queued.Cancel m ∷ entries) fits flown waiting f =
    follows-take_behind None (take_one leader L (Queued.Cancel m)) entries
    (λ n. fits n ∙ sym (one-canceled L.ops m n None).1)
    (λ n. flown n ∙ sym (same-at flight_mark L.ops m with_cancel (λ o there. ap in_flight (canceled-place o.place o)) n))
    (λ k is. no-number k None refl is)
    (follows-op L m with_cancel (λ o there. (canceled-waits o.place o, ap in_flight (canceled-place o.place o))) f)
follows-take_behind leader L (Queued.Close h ∷ entries) fits flown waiting f =
    follows-take_behind None (take_one leader L (Queued.Close h)) entries fits
    (λ n. (let a = listed-append n L.flying (Item.Close h ∷ []) in let g = flown n in omega (arith, a, g)))
    (λ k is. no-number k None refl is) (follows-closing L h f)

-- The queue is taken.
pub follows-take_all : (L : Ledger) → Listed L → Follows L → Follows (take_all L)
follows-take_all L l f =
    follows-take_behind None (record L { queue = [] }) L.queue l.waiting l.flown (λ k is. no-number k None refl is)
    (record { idle = f.idle; behind = f.behind })

-- Room that is made, or not.
follows-room : (b : Bool) (L : Ledger) → Listed L → Follows L → Follows (if b then take_all L else L)
follows-room true L l f = follows-take_all L l f
follows-room false L l f = f

-- Room is made.
pub follows-make_room : (L : Ledger) → Listed L → Follows L → Follows (make_room L)
follows-make_room L l f = follows-room (length L.queue == L.capacity) L l f

-- An entry is pushed.
pub follows-push : (L : Ledger) (entry : Queued) → Listed L → Follows L → Follows (push L entry)
follows-push L entry l f = let r = follows-make_room L l f in record { idle = r.idle; behind = r.behind }

-- Closes are pushed.
follows-push_closes : (L : Ledger) (handles : List ℕ) → Listed L → Follows L → Follows (push_each L (map Queued.Close handles))
follows-push_closes L [] l f = f
follows-push_closes L (k ∷ handles) l f =
    follows-push_closes (push L (Queued.Close k)) handles (listed-push_close L k l) (follows-push L (Queued.Close k) l f)

-- Cancels are pushed.
follows-cancels : (L : Ledger) (numbers : List ℕ) → Listed L → Follows L → Follows (push_each L (map Queued.Cancel numbers))
follows-cancels L [] l f = f
follows-cancels L (n ∷ numbers) l f =
    follows-cancels (push L (Queued.Cancel n)) numbers (listed-push_cancel L n l) (follows-push L (Queued.Cancel n) l f)

-- An operation in none of the lists leaves.
pub follows-leave : (L : Ledger) (n : ℕ) (o : Operation) → Listed L → slice_get L.ops n ≡ Some o → Unmarked o.place → Follows L →
    Follows (leave L n)
follows-leave L n o l there none f =
    follows-push_closes (with_gone L n) (became_unheld L (with_gone L n)) (listed-gone L n o l there none)
    (follows-op L n (at_place Gone) (λ p at. (
      refl,
      (let q : o ≡ p = (let w = sym there ∙ at in cc) in sym (ap (λ z. in_flight z.place) (sym q) ∙ none.flight)),
    )) f)

-- Closes are taken.
follows-take_closes : (leader : Option ℕ) (L : Ledger) (entries : List Queued) → AreCloses entries → Follows L →
    Follows (take_behind leader L entries)
follows-take_closes leader L [] h f = f
follows-take_closes leader L (Req n ∷ entries) h f = absurd h
follows-take_closes leader L (Queued.Cancel n ∷ entries) h f = absurd h
follows-take_closes leader L (Queued.Close k ∷ entries) h f = follows-take_closes None (with_flying L (Item.Close k)) entries h
    (follows-closing L k f)

-- Room that is made, or not, where the queue holds closes alone.
follows-closed_room : (b : Bool) (L : Ledger) → AreCloses L.queue → Follows L → Follows (if b then take_all L else L)
follows-closed_room true L h f = follows-take_closes None (record L { queue = [] }) L.queue h (record { idle = f.idle; behind = f.behind })
follows-closed_room false L h f = f

-- Closes are pushed where the queue holds closes alone.
follows-closed_each : (L : Ledger) (handles : List ℕ) → AreCloses L.queue → Follows L → Follows (push_each L (map Queued.Close handles))
follows-closed_each L [] h f = f
follows-closed_each L (k ∷ handles) h f =
    let r = follows-closed_room (length L.queue == L.capacity) L h f in
    follows-closed_each (push L (Queued.Close k)) handles (closed-push L k h).queue (record { idle = r.idle; behind = r.behind })

-- What is reaped is in flight exactly where it was.
reaped-flight : (p : Place) → in_flight (reaped_place p) ≡ in_flight p
reaped-flight InQueue = refl
reaped-flight InFlight = refl
reaped-flight (InDone outcome) = refl
reaped-flight (Reaped outcome) = refl
reaped-flight Gone = refl

-- The completion of an operation that was dropped, or wasn't.
follows-reap_if : (dropped : Bool) (L : Ledger) (n : ℕ) (o : Operation) (outcome : Outcome) → AreCloses L.queue →
    slice_get L.ops n ≡ Some o → o.place ≡ InDone outcome → Follows L → Follows (reap_if dropped L n)
follows-reap_if true L n o outcome closes there done f =
    follows-closed_each (with_gone L n) (became_unheld L (with_gone L n)) closes
    (follows-op L n (at_place Gone) (λ p at. (
      refl,
      (let q : o ≡ p = (let w = sym there ∙ at in cc) in sym (ap (λ z. in_flight z.place) (sym q) ∙ ap in_flight done)),
    )) f)
follows-reap_if false L n o outcome closes there done f = follows-op L n with_reap (λ p at. (refl, reaped-flight p.place)) f

-- Completions that are what is done are reaped, where the queue holds closes alone.
follows-reap_each : (L : Ledger) (items : List Item) → AreCloses L.queue → ((n : ℕ) → listed n items ≡ done_mark (slice_get L.ops n)) →
    Follows L → Follows (reap_each L items)
follows-reap_each L [] closes fits f = f
follows-reap_each L (Op m ∷ items) closes fits f =
    let some : 1 ≤ listed m (Op m ∷ items) = listed-here m items in
    let d = done-there (slice_get L.ops m) (let a = fits m in omega (arith, a, some)) in
    follows-reap_each (reap_one L (Op m)) items (closed-reap_one L (Op m) closes) (λ k. (one-reaped L m items closes fits k).1)
    (subst (λ x. Follows (reap_op L m x)) (sym d.2) (follows-reap_if d.0.dropped L m d.0 d.1 closes d.2 d.3 f))
follows-reap_each L (Item.Close k ∷ items) closes fits f = follows-reap_each L items closes fits f

-- A turn.
follows-turn : (L : Ledger) → Listed L → Follows L → Follows (turn_step L).0
follows-turn L l f =
    let T : Ledger = take_all L in
    let t = follows-take_all L l f in
    follows-reap_each (record T { done = [] }) T.done (closed-take_all L) (listed-take_all L l).standing
    (record { idle = t.idle; behind = t.behind })

-- A new operation.
follows-new_op : (L : Ledger) (o : Operation) → o.waits_for ≡ None → Follows L → Follows (with_new_op L o)
follows-new_op L o none f = record {
  idle = λ n h. elim (joined-cases L.ops o n) [
    | inl e ↦ ap awaited e.2 ∙ none
    | inr e ↦ ap awaited e.1 ∙ f.idle n (sym (ap flight_mark e.1) ∙ h)
  ];
  behind = behind-fewer L.ops (L.ops ++ o ∷ []) None L.flying (λ n m some is. elim (joined-cases L.ops o n) [
    | inl e ↦ no-number m (awaited (slice_get (L.ops ++ o ∷ []) n)) (ap awaited e.2 ∙ none) is
    | inr e ↦ sym (ap awaited e.1) ∙ is
  ]) f.behind;
}

-- A submission, under a marked group or not.
follows-submit_if : (b : Bool) (L : Ledger) (request : Request Buffer Parts) (group : Option ℕ) (linked : Bool) → Listed L → Follows L →
    Follows (submit_if b L request group linked).0
follows-submit_if true L request group linked l f = f
follows-submit_if false L request group linked l f =
    let o : Operation = new_operation request group linked in
    let n = follows-new_op (make_room L) o refl (follows-make_room L l f) in
    subst Follows (sym (submit-joined L request group linked l)) (record { idle = n.idle; behind = n.behind })

-- The close of a handle is pushed, or isn't.
follows-close_if : (b : Bool) (L : Ledger) (h : ℕ) → Listed L → Follows L → Follows (close_if b L h)
follows-close_if true L h l f = follows-push L (Queued.Close h) l f
follows-close_if false L h l f = f

-- A handle that is handed over.
follows-handed : (L : Ledger) (made : Option ℕ) → Follows L → Follows (handed_over L made)
follows-handed L None f = f
follows-handed L (Some h) f = record { idle = f.idle; behind = f.behind }

-- A poll, by the place of its operation.
follows-poll : (L : Ledger) (n task : ℕ) (o : Operation) → slice_get L.ops n ≡ Some o → (p : Place) → o.place ≡ p → Listed L → Follows L →
    Follows (poll_at L n task o p).0
follows-poll L n task o there (Reaped outcome) at l f =
    follows-leave (handed_over L o.made) n o (listed-handed L o.made l) (handed-there L o.made n o there)
    (record { queue = ap in_queue at; flight = ap in_flight at; done = ap in_done at }) (follows-handed L o.made f)
follows-poll L n task o there InQueue at l f = follows-op L n (with_task task) (λ p is. (refl, refl)) f
follows-poll L n task o there InFlight at l f = follows-op L n (with_task task) (λ p is. (refl, refl)) f
follows-poll L n task o there (InDone outcome) at l f = follows-op L n (with_task task) (λ p is. (refl, refl)) f
follows-poll L n task o there Gone at l f = follows-op L n (with_task task) (λ p is. (refl, refl)) f

-- A drop, by the place of its operation.
follows-drop : (L : Ledger) (n : ℕ) (o : Operation) → slice_get L.ops n ≡ Some o → (p : Place) → o.place ≡ p → Listed L → Follows L →
    Follows (drop_at L n p)
follows-drop L n o there (Reaped outcome) at l f =
    follows-leave L n o l there (record { queue = ap in_queue at; flight = ap in_flight at; done = ap in_done at }) f
follows-drop L n o there InQueue at l f = follows-push L (Queued.Cancel n) l f
follows-drop L n o there InFlight at l f = follows-push L (Queued.Cancel n) l f
follows-drop L n o there (InDone outcome) at l f = follows-push L (Queued.Cancel n) l f
follows-drop L n o there Gone at l f = follows-push L (Queued.Cancel n) l f

-- An execution of what waits for none.
follows-exec : (L : Ledger) (place : ℕ) (told : Told) (item : Item) → slice_get L.flying place ≡ Some item → waits L item ≡ false →
    Lawful L → Follows L → Follows (exec_step L place told (Some item)).0
follows-exec L place told (Op n) there free l f =
    follows-released told (exec_op (complete_at L place (Op n)) n told (slice_get L.ops n)) n place
    (lawful-executed L place told n there l).lists (parted-executed L place told n there free l.lists f)
follows-exec L place told (Item.Close k) there free l f = follows-closed L place k there f

-- The row of an event that isn't refused.
follows-row : (L : Ledger) (e : Event) → cause L e ≡ None → Lawful L → Follows L → Follows (row L e).0
follows-row L (Give kind) u l f = record { idle = f.idle; behind = f.behind }
follows-row L (Feed h bytes) u l f = record { idle = f.idle; behind = f.behind }
follows-row L (FeedMessage h addr bytes) u l f = record { idle = f.idle; behind = f.behind }
follows-row L (End h) u l f = record { idle = f.idle; behind = f.behind }
follows-row L (Look h) u l f = f
follows-row L (Close h) u l f =
    let U : Ledger = with_user L h false in
    follows-close_if (is_unheld U h) U h
    (record { waiting = l.lists.waiting; flown = l.lists.flown; standing = l.lists.standing }) (record { idle = f.idle; behind = f.behind })
follows-row L (Submit request under linked) u l f =
    follows-submit_if (is_under_marked L under) L request (group_under L under) linked l.lists f
follows-row L (Poll n task) u l f =
    let o : OwnedAt L n = found L n u in
    subst (λ x. Follows (poll_step L n task x).0) (sym o.there)
    (follows-poll L n task o.operation o.there o.operation.place refl l.lists f)
follows-row L (Drop n) u l f =
    let o : OwnedAt L n = found L n u in
    subst (λ x. Follows (drop_step L n x).0) (sym o.there)
    (follows-drop (with_op L n with_drop) n (with_drop o.operation)
    (get-amended-same with_drop L.ops n o.operation o.there) o.operation.place
    refl (listed-changed L n with_drop o.operation l.lists o.there (record { queue = refl; flight = refl; done = refl }))
    (follows-op L n with_drop (λ p is. (refl, refl)) f))
follows-row L (Cancel n) u l f = follows-push L (Queued.Cancel n) l.lists f
follows-row L NewCanceller u l f = record { idle = f.idle; behind = f.behind }
follows-row L (NewHandle c) u l f = record { idle = f.idle; behind = f.behind }
follows-row L (CancelAll c) u l f =
    let g : ℕ = group_of L c in
    let pushed = follows-cancels (with_mark L g) (members L g)
    (record { waiting = l.lists.waiting; flown = l.lists.flown; standing = l.lists.standing })
    (record { idle = f.idle; behind = f.behind }) in
    record { idle = pushed.idle; behind = pushed.behind }
follows-row L Turn u l f = follows-turn L l.lists f
follows-row L (Exec place told) u l f =
    let i = executed-there L place told u in
    subst (λ x. Follows (exec_step L place told x).0) (sym i.1)
    (follows-exec L place told i.0 i.1 (sym (ap (passes (waits L)) i.1) ∙ executed-free L place told u) l f)

-- An event, by its cause.
follows-cause : (L : Ledger) (e : Event) (c : Option Refusal) → cause L e ≡ c → Lawful L → Follows L → Follows (step L e).0
follows-cause L e None h l f = subst (λ s. Follows s.0) (sym (step-row L e h)) (follows-row L e h l f)
follows-cause L e (Some refusal) h l f = subst (λ s. Follows s.0) (sym (step-refused L e refusal h)) f

-- A step keeps all this.
pub follows-step : (L : Ledger) (e : Event) → Lawful L → Follows L → Follows (step L e).0
follows-step L e l f = follows-cause L e (cause L e) refl l f

-- So do events.
pub follows-after : (L : Ledger) (events : List Event) → Lawful L → Follows L → Follows (after L events)
follows-after L [] l f = f
follows-after L (e ∷ events) l f = follows-after (step L e).0 events (lawful-step L e l) (follows-step L e l f)

-- It holds of every ledger that events led to.
pub follows-ledger : (capacity : ℕ) (events : List Event) → Follows (ledger capacity events)
follows-ledger capacity events =
    follows-after (empty capacity) events (lawful-ledger capacity []) (record { idle = λ n h. refl; behind = tt })
