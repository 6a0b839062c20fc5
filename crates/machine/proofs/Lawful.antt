-- What holds of every ledger that events led to: its lists hold what its places say, its handles are known, and each close is there once.
use Rattle.std.proofs.Common.{◌≡◌, inl, inr, ℕ, zero, suc, ◌≤◌, ◌&&◌, Bool, true, false, List, [], ◌∷◌, length, map, Option, Some, None}
use Rattle.std.proofs.Common.{slice_get, refl, sym, ◌∙◌, ap, subst, arith}
use Rattle.rent_buf.specs.Buffer.{Buffer}
use Rattle.rent_buf.specs.Parts.{Parts}
use Rattle.machine.specs.declared.request.Request.{Request}
use Rattle.machine.specs.declared.request.Told.{Told}
use Rattle.machine.specs.declared.request.Told.TheVariants.{Count, Fail}
use Rattle.machine.specs.declared.request.Outcome.{Outcome}
use Rattle.machine.specs.declared.world.HandleState.{HandleState}
use Rattle.machine.specs.declared.ledger.Event.{Event}
use Rattle.machine.specs.declared.ledger.Event.TheVariants.{Give, Feed, FeedMessage, End, Look, Close, Submit, Poll, Drop, Cancel, Turn}
use Rattle.machine.specs.declared.ledger.Event.TheVariants.{Exec}
use Rattle.machine.specs.declared.ledger.Event.TheVariants.{NewCanceller, NewHandle, CancelAll}
use Rattle.machine.specs.declared.ledger.Refusal.{Refusal}
use Rattle.machine.specs.Lists.{amended, has_number}
use Rattle.machine.specs.World.{fresh, with_input, with_message, with_end}
use Rattle.machine.specs.Request.{named}
use Rattle.machine.specs.Effect.{Effect}
use Rattle.machine.specs.Ledger.{Ledger, Operation, Place, InQueue, InFlight, InDone, Reaped, Gone, Queued, Req, Item, Op, empty}
use Rattle.machine.specs.Ledger.{new_operation, with_made, holds, is_kept, is_live, user_holds, is_under_marked, group_under, members}
use Rattle.machine.specs.Queue.{with_op, take_all, make_room, append, push, push_each, is_unheld, leave}
use Rattle.machine.specs.Turn.{turn_step, exec_op, exec_step, complete_at, effect_of, with_result, waiting_on, break_one, break_each}
use Rattle.machine.specs.Turn.{released}
use Rattle.machine.specs.Step.{step, row, give_step, with_handle, with_user, close_if, close_step, with_new_op, submit_step}
use Rattle.machine.specs.Step.{submit_if, new_canceller_step, group_of, new_handle_step, with_mark, renew_group, cancel_all_step}
use Rattle.machine.specs.Step.{with_task, handed_over, poll_at, poll_step, with_drop, drop_at, drop_step}
use Rattle.machine.specs.Refusal.{cause}
use Rattle.machine.specs.Run.{after, ledger}
use Rattle.machine.specs.Closes.{AreKnown, ClosesOnce}
use Rattle.machine.proofs.Amended.{get-amended-same}
use Rattle.machine.proofs.Taken.{queue-take_each}
use Rattle.machine.proofs.Occurring.{same-cases, queued, closes_queued-append}
use Rattle.machine.proofs.Staying.{Stays, stays-take_all, stays-make_room, stays-push, stays-leave, stays-reap_each}
use Rattle.machine.proofs.Holders.{AreLive, live-none, held-by_user, held-by_op}
use Rattle.machine.proofs.Leaving.{has-last}
use Rattle.machine.proofs.Closing.{known-stays, known-lists, known-give, known-with_handle, known-with_user, known-new_op, known-op}
use Rattle.machine.proofs.Once.{once-same, once-fewer, once-push, once-leave, once-op, once-new_op, once-world, once-give, once-user}
use Rattle.machine.proofs.Once.{once-close}
use Rattle.machine.proofs.Once.{once-complete_at, once-take_all, once-make_room}
use Rattle.machine.proofs.Turning.{known-exec_op, once-exec_op, apart-none, live-gone, reapable-each}
use Rattle.machine.proofs.Taking.{in_queue, in_flight, in_done, queue_mark, Listed, listed-take_all}
use Rattle.machine.proofs.Listed.{submit-joined, listed-make_room, listed-push_cancel, listed-push_close, listed-joined}
use Rattle.machine.proofs.Listed.{listed-changed, listed-executed, listed-closed, flying-there}
use Rattle.machine.proofs.Ending.{listed-leave, listed-reap_all}
use Rattle.machine.proofs.Releasing.{AreFlown, waiting-flown, first-flies, rest-flown, listed-break_one, known-break_one, once-break_one}
use Rattle.machine.proofs.Releasing.{listed-let_go, stays-let_go, once-let_go}
use Rattle.machine.proofs.Stepping.{step-refused, step-row, OwnedAt, found, executed-there, closed-held, held-there, submitted-held}

-- What holds of every ledger that events led to.
pub record Lawful (L : Ledger) : Type 0 where
  pub lists : Listed L
  pub known : AreKnown L
  pub closes : ClosesOnce L

-- A request in a queue counts there.
pub queued-there : (n : ℕ) (entries : List Queued) (place : ℕ) → slice_get entries place ≡ Some (Req n) → 1 ≤ queued n entries
queued-there n [] place there = (let f : ⊥ = cc in absurd f)
queued-there n (entry ∷ entries) zero there =
    let e : entry ≡ Req n = cc in
    subst (λ q. 1 ≤ queued n (q ∷ entries)) (sym e) (elim (same-cases n n) [
      | inl s ↦ (let one = s.1 in omega arith)
      | inr s ↦ absurd (s.0 refl)
    ])
queued-there n (Req m ∷ entries) (suc place) there = (let r = queued-there n entries place there in omega arith)
queued-there n (Queued.Cancel m ∷ entries) (suc place) there = queued-there n entries place there
queued-there n (Queued.Close k ∷ entries) (suc place) there = queued-there n entries place there

-- What has the mark of the queue isn't gone.
queued-kept : (p : Place) → 1 ≤ in_queue p → is_kept p ≡ true
queued-kept InQueue h = refl
queued-kept InFlight h = refl
queued-kept (InDone outcome) h = refl
queued-kept (Reaped outcome) h = refl
queued-kept Gone h = absurd (omega (arith, h))

-- Where the lists hold what the places say, each request in the queue is one of an operation that isn't gone.
pub listed-live : (L : Ledger) → Listed L → AreLive L.ops L.queue
listed-live L h = record {
  live = λ place n o asks there. (
      let some = queued-there n L.queue place asks in
      let mark : queued n L.queue ≡ in_queue o.place = h.waiting n ∙ ap queue_mark there in
      queued-kept o.place (omega (arith, some, mark)));
}

-- What isn't in the queue by its place no entry asks for.
pub listed-unasked : (L : Ledger) (n : ℕ) (o : Operation) → Listed L → slice_get L.ops n ≡ Some o → in_queue o.place ≡ 0 → (i : ℕ) →
    slice_get L.queue i ≡ Some (Req n) → ⊥
listed-unasked L n o h there none i asks =
    let some = queued-there n L.queue i asks in
    let mark : queued n L.queue ≡ in_queue o.place = h.waiting n ∙ ap queue_mark there in
    omega (arith, some, mark, none)

-- No events led to the empty ledger.
lawful-empty : (capacity : ℕ) → Lawful (empty capacity)
lawful-empty capacity = record {
  lists = record { waiting = λ n. refl; flown = λ n. refl; standing = λ n. refl };
  known = record {
    known = λ n h o there names. (let f : ⊥ = cc in absurd f);
    above = λ n h m o there names made. (let f : ⊥ = cc in absurd f);
    together = refl;
  };
  closes = record {
    once = λ h. omega arith;
    unheld = λ h some. absurd (omega (arith, some));
    there = λ h some. absurd (omega (arith, some));
  };
}

-- A new handle.
lawful-give : (L : Ledger) (handle : HandleState) → Lawful L → Lawful (give_step L handle)
lawful-give L handle l = record {
  lists = record { waiting = l.lists.waiting; flown = l.lists.flown; standing = l.lists.standing };
  known = known-give L handle l.known;
  closes = once-give L handle l.closes;
}

-- One handle changed.
lawful-handle : (L : Ledger) (h : ℕ) (change : HandleState → HandleState) → Lawful L → Lawful (with_handle L h change)
lawful-handle L h change l = record {
  lists = record { waiting = l.lists.waiting; flown = l.lists.flown; standing = l.lists.standing };
  known = known-with_handle L h change l.known;
  closes = once-world L (amended L.world h change) l.closes;
}

-- The lists hold what the places say after the close of a handle is pushed, or isn't.
listed-close_if : (b : Bool) (L : Ledger) (h : ℕ) → Listed L → Listed (close_if b L h)
listed-close_if true L h l = listed-push_close L h l
listed-close_if false L h l = l

-- The handles stay known by it.
known-close_if : (b : Bool) (L : Ledger) (h : ℕ) → AreKnown L → AreKnown (close_if b L h)
known-close_if true L h k = known-stays (stays-push L (Queued.Close h)) k
known-close_if false L h k = k

-- A handle whose user closes it.
lawful-close : (L : Ledger) (h : ℕ) → user_holds L h ≡ true → Lawful L → Lawful (close_step L h)
lawful-close L h holds l =
    let U : Ledger = with_user L h false in
    record {
      lists =
          listed-close_if (is_unheld U h) U h
          (record { waiting = l.lists.waiting; flown = l.lists.flown; standing = l.lists.standing });
      known = known-close_if (is_unheld U h) U h (known-with_user L h false l.known);
      closes = once-close L h holds (held-there L h holds) (listed-live L l.lists) l.closes;
    }

-- A request in the queue is no close.
once-ask : (M : Ledger) (n : ℕ) → ClosesOnce M → ClosesOnce (append M (Req n))
once-ask M n c =
    once-same M (append M (Req n)) (λ h. (let a = closes_queued-append h M.queue (Req n ∷ []) in omega (arith, a)))
    (record { users = λ h. refl; ops = λ h. refl }) (omega arith) c

-- A new operation on handles that its user holds.
lawful-submit : (L : Ledger) (request : Request Buffer Parts) (group : Option ℕ) (linked : Bool) →
    ((h : ℕ) → has_number h (named request) ≡ true → user_holds L h ≡ true) → Lawful L → Lawful (submit_step L request group linked)
lawful-submit L request group linked holds l =
    let M : Ledger = make_room L in
    let o : Operation = new_operation request group linked in
    let stays : Stays L M = stays-make_room L in
    let holds_there : (h : ℕ) → has_number h (named request) ≡ true → user_holds M h ≡ true = λ h names.
    ap (λ owners. user_holds (record L { owners = owners }) h) stays.owners ∙ holds h names in
    let known : AreKnown M = known-stays stays l.known in
    let new : AreKnown (with_new_op M o) = known-new_op M o (λ h names. held-there M h (holds_there h names)) refl known in
    subst Lawful (sym (submit-joined L request group linked l.lists)) (record {
      lists = listed-joined M o refl (listed-make_room L l.lists);
      known = record { known = new.known; above = new.above; together = new.together };
      closes =
          once-ask (with_new_op M o) (length M.ops)
          (once-new_op M o (λ h names. held-by_user M h (holds_there h names))
          (once-make_room L (listed-live L l.lists) l.closes));
    })

-- A cancel that is pushed.
lawful-cancel : (L : Ledger) (n : ℕ) → Lawful L → Lawful (push L (Queued.Cancel n))
lawful-cancel L n l = record {
  lists = listed-push_cancel L n l.lists;
  known = known-stays (stays-push L (Queued.Cancel n)) l.known;
  closes = once-push L (Queued.Cancel n) (λ h. refl) (listed-live L l.lists) l.closes;
}

-- A submission, under a marked group or not.
lawful-submit_if : (b : Bool) (L : Ledger) (request : Request Buffer Parts) (group : Option ℕ) (linked : Bool) →
    ((h : ℕ) → has_number h (named request) ≡ true → user_holds L h ≡ true) → Lawful L → Lawful (submit_if b L request group linked).0
lawful-submit_if true L request group linked holds l = l
lawful-submit_if false L request group linked holds l = lawful-submit L request group linked holds l

-- Cancels that are pushed.
lawful-cancels : (L : Ledger) (numbers : List ℕ) → Lawful L → Lawful (push_each L (map Queued.Cancel numbers))
lawful-cancels L [] l = l
lawful-cancels L (n ∷ numbers) l = lawful-cancels (push L (Queued.Cancel n)) numbers (lawful-cancel L n l)

-- Other groups.
lawful-groups : (L : Ledger) (cancellers cancel_handles : List ℕ) (groups : List Bool) → Lawful L →
    Lawful (record L { cancellers = cancellers; cancel_handles = cancel_handles; groups = groups })
lawful-groups L cancellers cancel_handles groups l = record {
  lists = record { waiting = l.lists.waiting; flown = l.lists.flown; standing = l.lists.standing };
  known = record { known = l.known.known; above = l.known.above; together = l.known.together };
  closes = record { once = l.closes.once; unheld = l.closes.unheld; there = l.closes.there };
}

-- A group that is canceled.
lawful-cancel_all : (L : Ledger) (c g : ℕ) → Lawful L → Lawful (cancel_all_step L c g)
lawful-cancel_all L c g l =
    let M : Ledger = with_mark L g in
    let N : Ledger = push_each M (map Queued.Cancel (members L g)) in
    lawful-groups N (renew_group N c).cancellers N.cancel_handles (renew_group N c).groups
    (lawful-cancels M (members L g) (lawful-groups L L.cancellers L.cancel_handles M.groups l))

-- A reaped operation that leaves.
lawful-leave : (L : Ledger) (n : ℕ) (o : Operation) (outcome : Outcome) → slice_get L.ops n ≡ Some o → o.place ≡ Reaped outcome → Lawful L →
    Lawful (leave L n)
lawful-leave L n o outcome there reaped l = record {
  lists = listed-leave L n o l.lists there
      (record { queue = ap in_queue reaped; flight = ap in_flight reaped; done = ap in_done reaped });
  known = known-stays (stays-leave L n) l.known;
  closes = once-leave L n
      (live-gone L.ops L.queue n (listed-unasked L n o l.lists there (ap in_queue reaped)) (listed-live L l.lists)) l.closes;
}

-- A change of one operation that no list tells, after which it holds what it held.
lawful-op : (L : Ledger) (n : ℕ) (change : Operation → Operation) (o : Operation) → slice_get L.ops n ≡ Some o →
    ((p : Operation) → (change p).place ≡ p.place) →
    ((p : Operation) → ((change p).request ≡ p.request) × ((change p).made ≡ p.made)) → Lawful L → Lawful (with_op L n change)
lawful-op L n change o there stays asks l = record {
  lists = listed-changed L n change o l.lists there
      (record { queue = ap in_queue (stays o); flight = ap in_flight (stays o); done = ap in_done (stays o) });
  known = known-op L n change asks l.known;
  closes = once-op L n change (λ p at. record { request = (asks p).0; made = (asks p).1; live = ap is_kept (stays p) }) l.closes;
}

-- A handle that is handed over leaves the operations.
pub handed-there : (L : Ledger) (made : Option ℕ) (n : ℕ) (o : Operation) → slice_get L.ops n ≡ Some o →
    slice_get (handed_over L made).ops n ≡ Some o
handed-there L None n o there = there
handed-there L (Some h) n o there = there

-- A handle that an operation made becomes its user's: it has no close, since the operation holds it.
lawful-handed : (L : Ledger) (n : ℕ) (o : Operation) → slice_get L.ops n ≡ Some o → is_live o ≡ true → (made : Option ℕ) → o.made ≡ made →
    Lawful L → Lawful (handed_over L made)
lawful-handed L n o there live None is l = l
lawful-handed L n o there live (Some h) is l = record {
  lists = record { waiting = l.lists.waiting; flown = l.lists.flown; standing = l.lists.standing };
  known = known-with_user L h true l.known;
  closes = once-user L h
      (held-by_op L h n o there
      (ap (λ b. b && has_number h (holds o)) live ∙ ap (λ m. has_number h (with_made m (named o.request))) is
      ∙ has-last h (named o.request)))
      l.closes;
}

-- A poll, by the place of its operation.
lawful-poll : (L : Ledger) (n task : ℕ) (o : Operation) → slice_get L.ops n ≡ Some o → (p : Place) → o.place ≡ p → Lawful L →
    Lawful (poll_at L n task o p).0
lawful-poll L n task o there InQueue at l = lawful-op L n (with_task task) o there (λ q. refl) (λ q. (refl, refl)) l
lawful-poll L n task o there InFlight at l = lawful-op L n (with_task task) o there (λ q. refl) (λ q. (refl, refl)) l
lawful-poll L n task o there (InDone outcome) at l = lawful-op L n (with_task task) o there (λ q. refl) (λ q. (refl, refl)) l
lawful-poll L n task o there (Reaped outcome) at l =
    lawful-leave (handed_over L o.made) n o outcome (handed-there L o.made n o there) at
    (lawful-handed L n o there (ap is_kept at) o.made refl l)
lawful-poll L n task o there Gone at l = lawful-op L n (with_task task) o there (λ q. refl) (λ q. (refl, refl)) l

-- A drop, by the place of its operation.
lawful-drop : (L : Ledger) (n : ℕ) (o : Operation) → slice_get L.ops n ≡ Some o → (p : Place) → o.place ≡ p → Lawful L →
    Lawful (drop_at L n p)
lawful-drop L n o there InQueue at l = lawful-cancel L n l
lawful-drop L n o there InFlight at l = lawful-cancel L n l
lawful-drop L n o there (InDone outcome) at l = lawful-cancel L n l
lawful-drop L n o there (Reaped outcome) at l = lawful-leave L n o outcome there at l
lawful-drop L n o there Gone at l = lawful-cancel L n l

-- A turn.
lawful-turn : (L : Ledger) → Lawful L → Lawful (turn_step L).0
lawful-turn L l =
    let T : Ledger = take_all L in
    let E : Ledger = record T { done = [] } in
    let none : T.queue ≡ [] = queue-take_each (record L { queue = [] }) L.queue in
    let lists : Listed T = listed-take_all L l.lists in
    let closes : ClosesOnce T = once-take_all L (listed-live L l.lists) l.closes in
    let known : AreKnown T = known-stays (stays-take_all L) l.known in
    record {
      lists = listed-reap_all T lists;
      known = known-stays (stays-reap_each E T.done) (record { known = known.known; above = known.above; together = known.together });
      closes = (reapable-each E T.done (record {
        closes = once-fewer T E (λ h. omega arith) (λ h one is. is) (omega arith) closes;
        live = live-none T.ops T.queue none;
        apart = apart-none T.queue T.done none;
      })).closes;
    }

-- An execution of an operation in flight, before those that wait for it are released.
pub lawful-executed : (L : Ledger) (place : ℕ) (told : Told) (m : ℕ) → slice_get L.flying place ≡ Some (Op m) → Lawful L →
    Lawful (exec_op (complete_at L place (Op m)) m told (slice_get L.ops m))
lawful-executed L place told m there l =
    let f = flying-there L place m l.lists there in
    let C : Ledger = complete_at L place (Op m) in
    let result : Effect = effect_of L f.0.request told in
    let lists : Listed (exec_op C m told (Some f.0)) = listed-executed L place m f.0 (with_result told result) result.outcome l.lists there
    f.1 f.2 refl result.world (exec_op C m told (Some f.0)).owners in
    let known : AreKnown C = known-lists L L.queue C.flying C.done l.known in
    subst (λ x. Lawful (exec_op C m told x)) (sym f.1) (record {
      lists = lists;
      known = known-exec_op C m told (Some f.0) known;
      closes =
          once-exec_op C m told (Some f.0)
          (λ o at. (let q : f.0 ≡ o = (let w = sym f.1 ∙ at in cc) in ap is_live (sym q) ∙ ap is_kept f.2)) known
          (once-complete_at L place (Op m) there l.closes);
    })

-- Operations in flight that end with their leaders.
lawful-break_each : (L : Ledger) (numbers : List ℕ) → AreFlown L numbers → Lawful L → Lawful (break_each L numbers)
lawful-break_each L [] a l = l
lawful-break_each L (m ∷ numbers) a l =
    let f = first-flies L m numbers l.lists a in
    lawful-break_each (break_one L m) numbers (rest-flown L m numbers l.lists a) (record {
      lists = listed-break_one L m f l.lists;
      known = known-break_one L m l.known;
      closes = once-break_one L m f l.lists l.closes;
    })

-- Those that wait for an operation that was executed are released.
lawful-released : (told : Told) (L : Ledger) (n : ℕ) → Lawful L → Lawful (released told L n)
lawful-released (Fail e) L n l = lawful-break_each L (waiting_on L.ops n L.flying) (waiting-flown L n) l
lawful-released (Count k) L n l = record {
  lists = listed-let_go L n l.lists;
  known = known-stays (stays-let_go L n) l.known;
  closes = once-let_go L n l.closes;
}

-- An execution of what is in flight.
lawful-exec : (L : Ledger) (place : ℕ) (told : Told) (item : Item) → slice_get L.flying place ≡ Some item → Lawful L →
    Lawful (exec_step L place told (Some item)).0
lawful-exec L place told (Op m) there l =
    lawful-released told (exec_op (complete_at L place (Op m)) m told (slice_get L.ops m)) m (lawful-executed L place told m there l)
lawful-exec L place told (Item.Close k) there l =
    let C : Ledger = complete_at L place (Item.Close k) in
    record {
      lists = listed-closed L place k l.lists there;
      known = known-lists L L.queue C.flying C.done l.known;
      closes = once-complete_at L place (Item.Close k) there l.closes;
    }

-- The row of an event that isn't refused.
lawful-row : (L : Ledger) (e : Event) → cause L e ≡ None → Lawful L → Lawful (row L e).0
lawful-row L (Give kind) u l = lawful-give L (fresh kind) l
lawful-row L (Feed h bytes) u l = lawful-handle L h (with_input bytes) l
lawful-row L (FeedMessage h addr bytes) u l = lawful-handle L h (with_message addr bytes) l
lawful-row L (End h) u l = lawful-handle L h with_end l
lawful-row L (Look h) u l = l
lawful-row L (Close h) u l = lawful-close L h (closed-held L h u) l
lawful-row L (Submit request under linked) u l =
    lawful-submit_if (is_under_marked L under) L request (group_under L under) linked (submitted-held L request under linked u) l
lawful-row L (Poll n task) u l =
    let f : OwnedAt L n = found L n u in
    subst (λ x. Lawful (poll_step L n task x).0) (sym f.there)
    (lawful-poll L n task f.operation f.there f.operation.place refl l)
lawful-row L (Drop n) u l =
    let f : OwnedAt L n = found L n u in
    subst (λ x. Lawful (drop_step L n x).0) (sym f.there)
    (lawful-drop (with_op L n with_drop) n (with_drop f.operation)
    (get-amended-same with_drop L.ops n f.operation f.there) f.operation.place refl
    (lawful-op L n with_drop f.operation f.there (λ q. refl) (λ q. (refl, refl)) l))
lawful-row L (Cancel n) u l = lawful-cancel L n l
lawful-row L NewCanceller u l =
    let N : Ledger = new_canceller_step L in lawful-groups L N.cancellers L.cancel_handles N.groups l
lawful-row L (NewHandle c) u l = lawful-groups L L.cancellers (new_handle_step L c).cancel_handles L.groups l
lawful-row L (CancelAll c) u l = lawful-cancel_all L c (group_of L c) l
lawful-row L Turn u l = lawful-turn L l
lawful-row L (Exec place told) u l =
    let i = executed-there L place told u in
    subst (λ x. Lawful (exec_step L place told x).0) (sym i.1) (lawful-exec L place told i.0 i.1 l)

-- An event, by its cause.
lawful-cause : (L : Ledger) (e : Event) (c : Option Refusal) → cause L e ≡ c → Lawful L → Lawful (step L e).0
lawful-cause L e None h l = subst (λ s. Lawful s.0) (sym (step-row L e h)) (lawful-row L e h l)
lawful-cause L e (Some refusal) h l = subst (λ s. Lawful s.0) (sym (step-refused L e refusal h)) l

-- A step keeps all this.
pub lawful-step : (L : Ledger) (e : Event) → Lawful L → Lawful (step L e).0
lawful-step L e l = lawful-cause L e (cause L e) refl l

-- So do events.
pub lawful-after : (L : Ledger) (events : List Event) → Lawful L → Lawful (after L events)
lawful-after L [] l = l
lawful-after L (e ∷ events) l = lawful-after (step L e).0 events (lawful-step L e l)

-- It holds of every ledger that events led to.
pub lawful-ledger : (capacity : ℕ) (events : List Event) → Lawful (ledger capacity events)
lawful-ledger capacity events = lawful-after (empty capacity) events (lawful-empty capacity)
