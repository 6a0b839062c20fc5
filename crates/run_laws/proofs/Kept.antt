-- What each event that executes nothing keeps of linked operations.
use Rattle.std.proofs.Common.{[], ◌≡◌, inl, inr, ℕ, suc, Bool, true, false, List, ◌∷◌, ◌++◌, length, map}
use Rattle.std.proofs.Common.{Option, Some, None, option_map, slice_get, refl, sym, ◌∙◌, ap, subst, arith, true≢false}
use Rattle.std.specs.Prelude.{if◌then◌else◌, ◌==◌}
use Rattle.rent_buf.specs.Buffer.{Buffer}
use Rattle.rent_buf.specs.Parts.{Parts}
use Rattle.machine.specs.declared.request.Request.{Request}
use Rattle.machine.specs.declared.ledger.Event.{Event}
use Rattle.machine.specs.declared.ledger.Event.TheVariants.{Give, Feed, FeedMessage, End, Look, Close, Submit, Poll, Drop, Cancel, Turn}
use Rattle.machine.specs.declared.ledger.Event.TheVariants.{Exec}
use Rattle.machine.specs.declared.ledger.Event.TheVariants.{NewCanceller, NewHandle, CancelAll}
use Rattle.machine.specs.Lists.{passes}
use Rattle.machine.specs.Ledger.{Ledger, Operation, Place, InQueue, InFlight, InDone, Reaped, Gone, Queued, Req}
use Rattle.machine.specs.Ledger.{new_operation, is_under_marked, group_under, members}
use Rattle.machine.specs.Queue.{with_op, at_place, take_all}
use Rattle.machine.specs.Queue.{make_room, push, push_each, is_unheld, became_unheld, with_gone, leave}
use Rattle.machine.specs.Turn.{turn_step}
use Rattle.machine.specs.Step.{row, with_user, close_if, submit_if, with_task, handed_over, poll_at, poll_step}
use Rattle.machine.specs.Step.{with_drop, drop_at, drop_step, group_of, with_mark}
use Rattle.machine.specs.Refusal.{cause}
use Rattle.machine.proofs.Amended.{get-amended-same, joined-cases}
use Rattle.machine.proofs.Grouped.{get-append-keeps}
use Rattle.machine.proofs.Taking.{in_queue, in_flight, in_done, flight_mark, Listed}
use Rattle.machine.proofs.Taking.{listed-take_all}
use Rattle.machine.proofs.Listed.{flight-there, joined, submit-joined, listed-push_cancel, listed-push_close, listed-changed}
use Rattle.machine.proofs.Ending.{Unmarked, listed-gone}
use Rattle.machine.proofs.Reaping.{closed-take_all, with_end, ended_place, reap_all-ops}
use Rattle.machine.proofs.Stepping.{OwnedAt, found}
use Rattle.machine.proofs.Lawful.{handed-there}
use Rattle.machine.proofs.Alone.{listed-handed}
use Rattle.machine.proofs.Behind.{awaited, no-number}
use Rattle.run_laws.proofs.Moments.{is_exec}
use Rattle.run_laws.proofs.Keeps.{Keeps, Backs, backs-same, keeps-same, keeps-then, Leaves, keeps-op, backs-op, closes-unrequested}
use Rattle.run_laws.proofs.Keeps.{backs-take_all, keeps-take_all}

-- Room is made, or not.
keeps-room : (b : Bool) (L : Ledger) → Listed L → Keeps L (if b then take_all L else L)
keeps-room true L l = keeps-take_all L l
keeps-room false L l = keeps-same L L refl refl

-- The same backwards.
backs-room : (b : Bool) (L : Ledger) → Backs L (if b then take_all L else L)
backs-room true L = backs-take_all L
backs-room false L = λ n leader x. x

-- An entry joins the queue's end.
keeps-append : (L : Ledger) (entry : Queued) → Keeps L (record L { queue = L.queue ++ entry ∷ [] })
keeps-append L entry = record {
  flight = λ n f. (f, refl);
  next = λ n leader x. inl (record {
    place = x.place;
    ahead = get-append-keeps L.queue entry x.place (Req leader) x.ahead;
    next = get-append-keeps L.queue entry (suc x.place) (Req n) x.next;
    linked = x.linked;
  });
  only = λ n leader w. inl w;
}

-- An entry that is no request.
abbrev IsPlain : Queued → Type 0
IsPlain entry = (n : ℕ) → entry ≡ Req n → ⊥

-- A request among joined entries, of which the last is none, is among those before it.
joined-request : (entries : List Queued) (entry : Queued) (place n : ℕ) → IsPlain entry →
    slice_get (entries ++ entry ∷ []) place ≡ Some (Req n) → slice_get entries place ≡ Some (Req n)
joined-request entries entry place n plain there = elim (joined-cases entries entry place) [
  | inl e ↦ absurd (plain n (let w = sym e.2 ∙ there in cc))
  | inr e ↦ sym e.1 ∙ there
]

-- What stands behind a linked one stood so before an entry that is no request was pushed.
backs-push : (L : Ledger) (entry : Queued) → IsPlain entry → Backs L (push L entry)
backs-push L entry plain n leader x =
    let M : Ledger = make_room L in
    backs-room (length L.queue == L.capacity) L n leader (record {
      place = x.place;
      ahead = joined-request M.queue entry x.place leader plain x.ahead;
      next = joined-request M.queue entry (suc x.place) n plain x.next;
      linked = x.linked;
    })

-- An entry is pushed.
keeps-push : (L : Ledger) (entry : Queued) → Listed L → Keeps L (push L entry)
keeps-push L entry l =
    keeps-then L (make_room L) (push L entry) (backs-room (length L.queue == L.capacity) L)
    (keeps-room (length L.queue == L.capacity) L l) (keeps-append (make_room L) entry)

-- Closes are pushed.
keeps-closes : (L : Ledger) (handles : List ℕ) → Listed L → Keeps L (push_each L (map Queued.Close handles))
keeps-closes L [] l = keeps-same L L refl refl
keeps-closes L (h ∷ handles) l =
    let M : Ledger = push L (Queued.Close h) in
    keeps-then L M (push_each M (map Queued.Close handles)) (backs-push L (Queued.Close h) (λ n is. (let f : ⊥ = cc in f)))
    (keeps-push L (Queued.Close h) l)
    (keeps-closes M handles (listed-push_close L h l))

-- Cancels are pushed.
keeps-cancels : (L : Ledger) (numbers : List ℕ) → Listed L → Keeps L (push_each L (map Queued.Cancel numbers))
keeps-cancels L [] l = keeps-same L L refl refl
keeps-cancels L (m ∷ numbers) l =
    let M : Ledger = push L (Queued.Cancel m) in
    keeps-then L M (push_each M (map Queued.Cancel numbers)) (backs-push L (Queued.Cancel m) (λ n is. (let f : ⊥ = cc in f)))
    (keeps-push L (Queued.Cancel m) l) (keeps-cancels M numbers (listed-push_cancel L m l))

-- What stands behind a linked one stood so before cancels were pushed.
backs-cancels : (L : Ledger) (numbers : List ℕ) → Backs L (push_each L (map Queued.Cancel numbers))
backs-cancels L [] = λ n leader x. x
backs-cancels L (m ∷ numbers) = λ n leader x.
    backs-push L (Queued.Cancel m) (λ k is. (let f : ⊥ = cc in f)) n leader (backs-cancels (push L (Queued.Cancel m)) numbers n leader x)

-- An operation in none of the lists leaves.
keeps-leave : (L : Ledger) (m : ℕ) (o : Operation) → Listed L → slice_get L.ops m ≡ Some o → Unmarked o.place → Keeps L (leave L m)
keeps-leave L m o l there none =
    let G : Ledger = with_gone L m in
    let leaves : (p : Operation) → slice_get L.ops m ≡ Some p → Leaves p (at_place Gone p) = λ p at. record {
      waits = refl;
      flies = (let q : o ≡ p = (let w = sym there ∙ at in cc) in sym (ap (λ z. in_flight z.place) (sym q) ∙ none.flight));
      linked = refl;
    } in
    keeps-then L G (leave L m) (backs-op L m (at_place Gone) leaves) (keeps-op L m (at_place Gone) leaves)
    (keeps-closes G (became_unheld L G) (listed-gone L m o l there none))

-- What is done is reaped: what is in flight stays.
ended-flight : (x : Option Operation) → flight_mark x ≡ 1 → flight_mark (option_map with_end x) ≡ 1
ended-flight None f = f
ended-flight (Some o) f =
    let t = flight-there (Some o) (omega (arith, f)) in
    let e : o ≡ t.0 = (let w = t.1 in cc) in
    ap (λ p. in_flight (ended_place o.dropped p)) (ap (λ z. z.place) e ∙ t.2)

-- What is reaped waits for whom it waited.
ended-waits : (x : Option Operation) → awaited (option_map with_end x) ≡ awaited x
ended-waits None = refl
ended-waits (Some o) = refl

-- A turn.
keeps-turn : (L : Ledger) → Listed L → Keeps L (turn_step L).0
keeps-turn L l =
    let T : Ledger = take_all L in
    let N : Ledger = (turn_step L).0 in
    let at : (n : ℕ) → slice_get N.ops n ≡ option_map with_end (slice_get T.ops n) =
    reap_all-ops T (closed-take_all L) (listed-take_all L l) in
    keeps-then L T N (backs-take_all L) (keeps-take_all L l) (record {
      flight = λ n f. (
        ap flight_mark (at n) ∙ ended-flight (slice_get T.ops n) f,
        ap awaited (at n) ∙ ended-waits (slice_get T.ops n),
      );
      only = λ n leader w. inl (sym (ap awaited (at n) ∙ ended-waits (slice_get T.ops n)) ∙ w);
      next = λ n leader x. absurd (closes-unrequested T.queue x.place leader (closed-take_all L) x.ahead);
    })

-- A new operation whose request joins the queue.
keeps-joined : (M : Ledger) (o : Operation) → in_flight o.place ≡ 0 → o.waits_for ≡ None → Keeps M (joined M o)
keeps-joined M o idle free = record {
  flight = λ n f. elim (joined-cases M.ops o n) [
    | inl e ↦ (let q : flight_mark (slice_get M.ops n) ≡ 0 = ap flight_mark e.1 in absurd (omega (arith, q, f)))
    | inr e ↦ (ap flight_mark e.1 ∙ f, ap awaited e.1)
  ];
  next = λ n leader x. inl (record {
    place = x.place;
    ahead = get-append-keeps M.queue (Req (length M.ops)) x.place (Req leader) x.ahead;
    next = get-append-keeps M.queue (Req (length M.ops)) (suc x.place) (Req n) x.next;
    linked = elim (joined-cases M.ops o leader) [
      | inl e ↦ absurd (true≢false (sym x.linked ∙ ap (passes (λ (o : Operation). o.linked)) e.1))
      | inr e ↦ ap (passes (λ (o : Operation). o.linked)) e.1 ∙ x.linked
    ];
  });
  only = λ n leader w. elim (joined-cases M.ops o n) [
    | inl e ↦ no-number leader (awaited (slice_get (M.ops ++ o ∷ []) n)) (ap awaited e.2 ∙ free) w
    | inr e ↦ inl (sym (ap awaited e.1) ∙ w)
  ];
}

-- A submission, under a marked group or not.
keeps-submit_if : (b : Bool) (L : Ledger) (request : Request Buffer Parts) (group : Option ℕ) (linked : Bool) → Listed L →
    Keeps L (submit_if b L request group linked).0
keeps-submit_if true L request group linked l = keeps-same L L refl refl
keeps-submit_if false L request group linked l =
    let o : Operation = new_operation request group linked in
    subst (Keeps L) (sym (submit-joined L request group linked l))
    (keeps-then L (make_room L) (joined (make_room L) o) (backs-room (length L.queue == L.capacity) L)
    (keeps-room (length L.queue == L.capacity) L l) (keeps-joined (make_room L) o refl refl))

-- The close of a handle is pushed, or isn't.
keeps-close_if : (b : Bool) (L : Ledger) (h : ℕ) → Listed L → Keeps L (close_if b L h)
keeps-close_if true L h l = keeps-push L (Queued.Close h) l
keeps-close_if false L h l = keeps-same L L refl refl

-- A handle that is handed over.
keeps-handed : (L : Ledger) (made : Option ℕ) → Keeps L (handed_over L made)
keeps-handed L None = keeps-same L L refl refl
keeps-handed L (Some h) = keeps-same L (handed_over L (Some h)) refl refl

-- The same backwards.
backs-handed : (L : Ledger) (made : Option ℕ) → Backs L (handed_over L made)
backs-handed L None = λ n leader x. x
backs-handed L (Some h) = backs-same L (handed_over L (Some h)) refl refl

-- A poll, by the place of its operation.
keeps-poll : (L : Ledger) (m task : ℕ) (o : Operation) → slice_get L.ops m ≡ Some o → (p : Place) → o.place ≡ p → Listed L →
    Keeps L (poll_at L m task o p).0
keeps-poll L m task o there (Reaped outcome) at l =
    keeps-then L (handed_over L o.made) (leave (handed_over L o.made) m) (backs-handed L o.made) (keeps-handed L o.made)
    (keeps-leave (handed_over L o.made) m o (listed-handed L o.made l) (handed-there L o.made m o there)
    (record { queue = ap in_queue at; flight = ap in_flight at; done = ap in_done at }))
keeps-poll L m task o there InQueue at l = keeps-op L m (with_task task) (λ p is. record { waits = refl; flies = refl; linked = refl })
keeps-poll L m task o there InFlight at l = keeps-op L m (with_task task) (λ p is. record { waits = refl; flies = refl; linked = refl })
keeps-poll L m task o there (InDone outcome) at l =
    keeps-op L m (with_task task) (λ p is. record { waits = refl; flies = refl; linked = refl })
keeps-poll L m task o there Gone at l = keeps-op L m (with_task task) (λ p is. record { waits = refl; flies = refl; linked = refl })

-- A drop, by the place of its operation.
keeps-drop : (L : Ledger) (m : ℕ) (o : Operation) → slice_get L.ops m ≡ Some o → (p : Place) → o.place ≡ p → Listed L →
    Keeps L (drop_at L m p)
keeps-drop L m o there (Reaped outcome) at l =
    keeps-leave L m o l there (record { queue = ap in_queue at; flight = ap in_flight at; done = ap in_done at })
keeps-drop L m o there InQueue at l = keeps-push L (Queued.Cancel m) l
keeps-drop L m o there InFlight at l = keeps-push L (Queued.Cancel m) l
keeps-drop L m o there (InDone outcome) at l = keeps-push L (Queued.Cancel m) l
keeps-drop L m o there Gone at l = keeps-push L (Queued.Cancel m) l

-- The row of an event that isn't refused, and is no Exec.
pub keeps-row : (L : Ledger) (e : Event) → cause L e ≡ None → is_exec e ≡ false → Listed L → Keeps L (row L e).0
keeps-row L (Give kind) u calm l = keeps-same L (row L (Give kind)).0 refl refl
keeps-row L (Feed h bytes) u calm l = keeps-same L (row L (Feed h bytes)).0 refl refl
keeps-row L (FeedMessage h addr bytes) u calm l = keeps-same L (row L (FeedMessage h addr bytes)).0 refl refl
keeps-row L (End h) u calm l = keeps-same L (row L (End h)).0 refl refl
keeps-row L (Look h) u calm l = keeps-same L L refl refl
keeps-row L (Close h) u calm l =
    let U : Ledger = with_user L h false in
    keeps-then L U (close_if (is_unheld U h) U h) (backs-same L U refl refl) (keeps-same L U refl refl)
    (keeps-close_if (is_unheld U h) U h (record { waiting = l.waiting; flown = l.flown; standing = l.standing }))
keeps-row L (Submit request under linked) u calm l =
    keeps-submit_if (is_under_marked L under) L request (group_under L under) linked l
keeps-row L (Poll m task) u calm l =
    let o : OwnedAt L m = found L m u in
    subst (λ x. Keeps L (poll_step L m task x).0) (sym o.there) (keeps-poll L m task o.operation o.there o.operation.place refl l)
keeps-row L (Drop m) u calm l =
    let o : OwnedAt L m = found L m u in
    let D : Ledger = with_op L m with_drop in
    subst (λ x. Keeps L (drop_step L m x).0) (sym o.there)
    (keeps-then L D (drop_at D m o.operation.place)
    (backs-op L m with_drop (λ p is. record { waits = refl; flies = refl; linked = refl }))
    (keeps-op L m with_drop (λ p is. record { waits = refl; flies = refl; linked = refl }))
    (keeps-drop D m (with_drop o.operation) (get-amended-same with_drop L.ops m o.operation o.there) o.operation.place refl
    (listed-changed L m with_drop o.operation l o.there (record { queue = refl; flight = refl; done = refl }))))
keeps-row L (Cancel m) u calm l = keeps-push L (Queued.Cancel m) l
keeps-row L NewCanceller u calm l = keeps-same L (row L NewCanceller).0 refl refl
keeps-row L (NewHandle c) u calm l = keeps-same L (row L (NewHandle c)).0 refl refl
keeps-row L (CancelAll c) u calm l =
    let g : ℕ = group_of L c in
    let M : Ledger = with_mark L g in
    let P : Ledger = push_each M (map Queued.Cancel (members L g)) in
    let pushed : Keeps L P = keeps-then L M P (backs-same L M refl refl) (keeps-same L M refl refl)
    (keeps-cancels M (members L g) (record { waiting = l.waiting; flown = l.flown; standing = l.standing })) in
    keeps-then L P (row L (CancelAll c)).0 (λ n leader x. backs-same L M refl refl n leader (backs-cancels M (members L g) n leader x))
    pushed (keeps-same P (row L (CancelAll c)).0 refl refl)
keeps-row L Turn u calm l = keeps-turn L l
keeps-row L (Exec place told) u calm l = absurd (true≢false calm)
