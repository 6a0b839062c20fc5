-- Each ledger of a run has its trace.
use Rattle.std.proofs.Common.{◌≡◌, ℕ, zero, suc, ◌≤◌, inl, inr, Bool, true, false, List, [], ◌∷◌, length, map, take, Option, Some, None}
use Rattle.std.proofs.Common.{slice_get, refl, sym, ◌∙◌, ap, subst}
use Rattle.std.proofs.Common.{arith}
use Rattle.std.proofs.lemmas.Option.{slice_get_cases}
use Rattle.rent_buf.specs.Buffer.{Buffer}
use Rattle.rent_buf.specs.Parts.{Parts}
use Rattle.machine.specs.declared.request.Request.{Request}
use Rattle.machine.specs.declared.request.Told.{Told}
use Rattle.machine.specs.declared.ledger.Event.{Event}
use Rattle.machine.specs.declared.ledger.Event.TheVariants.{Give, Feed, FeedMessage, End, Look, Close, Submit, Poll, Drop, Cancel, Turn}
use Rattle.machine.specs.declared.ledger.Event.TheVariants.{Exec}
use Rattle.machine.specs.declared.ledger.Event.TheVariants.{NewCanceller, NewHandle, CancelAll}
use Rattle.machine.specs.declared.ledger.Refusal.{Refusal}
use Rattle.machine.specs.declared.ledger.Reply.TheVariants.{Released, Dropped, Asked, ExecutedClose, Refused}
use Rattle.machine.specs.Ledger.{Ledger, Operation, InFlight, Queued, Item, Op, empty, is_under_marked, group_under, members}
use Rattle.machine.specs.Queue.{with_op, push, push_each, is_unheld}
use Rattle.machine.specs.Turn.{effect_of, complete_at, exec_op, exec_step, released}
use Rattle.machine.specs.Lists.{has_number}
use Rattle.machine.specs.Refusal.{cause}
use Rattle.machine.specs.Step.{step, row, poll_at, poll_step, with_drop, drop_at, drop_step, with_user, close_if}
use Rattle.machine.specs.Step.{submit_if, new_canceller_step, group_of, new_handle_step, with_mark, renew_group}
use Rattle.machine.specs.Run.{replies, ledger_before}
use Rattle.machine.proofs.Listed.{flying-there, listed-push_cancel}
use Rattle.machine.proofs.Leaving.{has-first, has-later}
use Rattle.machine.proofs.Taking.{flight_mark, Listed}
use Rattle.machine.proofs.Stepping.{step-refused, step-row, OwnedAt, found, executed-there}
use Rattle.machine.proofs.Lawful.{Lawful, lawful-ledger, lawful-executed}
use Rattle.run_laws.proofs.Replies.{reply-at, after-next, dropped-row}
use Rattle.run_laws.proofs.Trace.{AskedBefore, Trace, trace-closes, trace-world, trace-turn, trace-submit, trace-polled, trace-executed}
use Rattle.run_laws.proofs.Dropped.{trace-pushed, trace-dropped}
use Rattle.run_laws.proofs.Moments.{IsCalm, no-exec}
use Rattle.run_laws.proofs.Executing.{executed-left, left-executed, exec-after}
use Rattle.run_laws.proofs.Looks.{looked}

-- The row of an event passes the trace on.
module _ (capacity : ℕ) (events : List Event) (k : ℕ) (trace : Trace capacity events k (ledger_before capacity events k)) where
  -- The lists of the ledger hold what its places say.
  lists : Listed (ledger_before capacity events k)
  lists = (lawful-ledger capacity (take k events)).lists

  -- An Exec moves what is in flight to what is done: an operation with its outcome, or the close of a handle.
  item-next : (place : ℕ) (told : Told) (item : Item) → slice_get events k ≡ Some (Exec place told) →
      cause (ledger_before capacity events k) (Exec place told) ≡ None →
      slice_get (ledger_before capacity events k).flying place ≡ Some item →
      slice_get (replies (empty capacity) events) k ≡ Some (exec_step (ledger_before capacity events k) place told (Some item)).1 →
      Trace capacity events (suc k) (exec_step (ledger_before capacity events k) place told (Some item)).0
  item-next place told (Op m) here unrefused item reply =
      let L : Ledger = ledger_before capacity events k in
      let f : (o : Operation) × (slice_get L.ops m ≡ Some o) × (o.place ≡ InFlight) = flying-there L place m lists item in
      let N : Ledger = ledger_before capacity events (suc k) in
      let after = exec-after capacity events k place told (Op m) here unrefused item in
      let M : Ledger = (exec_step L place told (Some (Op m))).0 in
      let l : Lawful L = lawful-ledger capacity (take k events) in
      let E : Ledger = exec_op (complete_at L place (Op m)) m told (slice_get L.ops m) in
      let F : Ledger = exec_op (complete_at L place (Op m)) m told (Some f.0) in
      let same : E ≡ F = ap (exec_op (complete_at L place (Op m)) m told) f.1 in
      subst (Trace capacity events (suc k)) after
      (trace-executed capacity events k L lists trace place m told f.0 (effect_of L f.0.request told) N
      (after ∙ ap (λ K. released told K m) same) (subst Listed same (lawful-executed L place told m item l).lists)
      (λ n flew left. left-executed capacity events k place told (Op m) here unrefused item n (record { flew = flew; left = left }))
      (λ n x. (let y = executed-left capacity events n k x.0 x.1 x.2 in (y.flew, y.left))) reply f.1 f.2 refl here)
  item-next place told (Item.Close h) here unrefused item reply =
      let L : Ledger = ledger_before capacity events k in
      let after = exec-after capacity events k place told (Item.Close h) here unrefused item in
      let same : Trace capacity events (suc k) L =
      trace-world capacity events k L lists trace (Exec place told) (ExecutedClose h) here reply
      (λ m. record { gives_none = λ q. cc; hands_none = λ t outcome buffer p q. cc; drops_none = λ p q. cc })
      (λ n x. (
      let y = executed-left capacity events n k x.0 x.1 x.2 in
      let a = y.flew in
      let b : flight_mark (slice_get L.ops n) ≡ 0 = ap (λ K. flight_mark (slice_get K.ops n)) (sym after) ∙ y.left in
      omega (arith, a, b)))
      (λ q. cc) L.world L.owners in
      record { history = same.history; asked = record { waiting = same.asked.waiting; taken = same.asked.taken } }

  -- An Exec.
  exec-next : (place : ℕ) (told : Told) → slice_get events k ≡ Some (Exec place told) →
      cause (ledger_before capacity events k) (Exec place told) ≡ None →
      slice_get (replies (empty capacity) events) k ≡ Some (row (ledger_before capacity events k) (Exec place told)).1 →
      Trace capacity events (suc k) (row (ledger_before capacity events k) (Exec place told)).0
  exec-next place told here unrefused reply =
      let L : Ledger = ledger_before capacity events k in
      let i : (item : Item) × (slice_get L.flying place ≡ Some item) = executed-there L place told unrefused in
      let e : exec_step L place told (slice_get L.flying place) ≡ exec_step L place told (Some i.0) = ap (exec_step L place told) i.1 in
      subst (λ s. Trace capacity events (suc k) s.0) (sym e)
      (item-next place told i.0 here unrefused i.1 (reply ∙ ap (λ s. Some s.1) e))

  -- The close of a handle is pushed, or isn't.
  trace-close_if : (b : Bool) (M : Ledger) (h : ℕ) → Listed M → Trace capacity events (suc k) M →
      Trace capacity events (suc k) (close_if b M h)
  trace-close_if true M h listed traced = trace-closes capacity events (suc k) M (h ∷ []) listed traced
  trace-close_if false M h listed traced = traced

  -- A Close takes the handle from its user.
  close-next : (h : ℕ) → slice_get events k ≡ Some (Close h) → slice_get (replies (empty capacity) events) k ≡ Some Released →
      Trace capacity events (suc k) (row (ledger_before capacity events k) (Close h)).0
  close-next h here reply =
      let L : Ledger = ledger_before capacity events k in
      let U : Ledger = with_user L h false in
      trace-close_if (is_unheld U h) U h (record { waiting = lists.waiting; flown = lists.flown; standing = lists.standing })
      (trace-world capacity events k L lists trace (Close h) Released here reply
      (λ m. record { gives_none = λ q. cc; hands_none = λ t outcome buffer p q. cc; drops_none = λ p q. cc })
      (no-exec capacity events k _ here refl) (λ q. cc) L.world U.owners)

  -- A Poll leaves its operation waiting, or hands it over.
  poll-next : (n task : ℕ) → slice_get events k ≡ Some (Poll n task) → cause (ledger_before capacity events k) (Poll n task) ≡ None →
      slice_get (replies (empty capacity) events) k ≡ Some (row (ledger_before capacity events k) (Poll n task)).1 →
      Trace capacity events (suc k) (row (ledger_before capacity events k) (Poll n task)).0
  poll-next n task here unrefused reply =
      let L : Ledger = ledger_before capacity events k in
      let f : OwnedAt L n = found L n unrefused in
      let o : Operation = f.operation in
      let e : poll_step L n task (slice_get L.ops n) ≡ poll_at L n task o o.place = ap (poll_step L n task) f.there in
      subst (λ s. Trace capacity events (suc k) s.0) (sym e)
      (trace-polled capacity events k L lists trace n task o here f.there o.place refl f.kept f.undropped (reply ∙ ap (λ s. Some s.1) e))

  -- A Drop takes its operation from its user.
  drop-next : (n : ℕ) → slice_get events k ≡ Some (Drop n) → cause (ledger_before capacity events k) (Drop n) ≡ None →
      slice_get (replies (empty capacity) events) k ≡ Some (row (ledger_before capacity events k) (Drop n)).1 →
      Trace capacity events (suc k) (row (ledger_before capacity events k) (Drop n)).0
  drop-next n here unrefused reply =
      let L : Ledger = ledger_before capacity events k in
      let f : OwnedAt L n = found L n unrefused in
      let e : drop_step L n (slice_get L.ops n) ≡ (drop_at (with_op L n with_drop) n f.operation.place, Dropped) = ap
      (drop_step L n) f.there in
      subst (λ s. Trace capacity events (suc k) s.0) (sym e)
      (trace-dropped capacity events k L lists trace n f.operation here f.there (reply ∙ ap Some (dropped-row L n f))
      f.operation.place refl)

  -- A Cancel pushes the cancel of its operation.
  cancel-next : (n : ℕ) → slice_get events k ≡ Some (Cancel n) → slice_get (replies (empty capacity) events) k ≡ Some Asked →
      Trace capacity events (suc k) (row (ledger_before capacity events k) (Cancel n)).0
  cancel-next n here reply =
      let L : Ledger = ledger_before capacity events k in
      let same : Trace capacity events (suc k) L = trace-world capacity events k L lists trace (Cancel n) Asked here reply
      (λ m. record { gives_none = λ q. cc; hands_none = λ t outcome buffer p q. cc; drops_none = λ p q. cc })
      (no-exec capacity events k _ here refl) (λ q. cc) L.world L.owners in
      trace-pushed capacity events (suc k) L n lists same
      (record { ask = k; before = omega arith; asked = inl (record { event = here; reply = reply }) })

  -- Other groups are no event of a history.
  trace-groups : (j : ℕ) (M : Ledger) (cancellers cancel_handles : List ℕ) (groups : List Bool) → Trace capacity events j M →
      Trace capacity events j (record M { cancellers = cancellers; cancel_handles = cancel_handles; groups = groups })
  trace-groups j M cancellers cancel_handles groups t =
      record { history = t.history; asked = record { waiting = t.asked.waiting; taken = t.asked.taken } }

  -- A submission is a new operation, but under a marked group.
  submit-next : (b : Bool) (request : Request Buffer Parts) (under group : Option ℕ) (linked : Bool) →
      slice_get events k ≡ Some (Submit request under linked) →
      slice_get (replies (empty capacity) events) k ≡ Some (submit_if b (ledger_before capacity events k) request group linked).1 →
      Trace capacity events (suc k) (submit_if b (ledger_before capacity events k) request group linked).0
  submit-next true request under group linked here reply =
      trace-world capacity events k (ledger_before capacity events k) lists trace (Submit request under linked) _ here reply
      (λ m. record { gives_none = λ q. cc; hands_none = λ t outcome buffer p q. cc; drops_none = λ p q. cc })
      (no-exec capacity events k _ here refl) (λ q. cc) _ _
  submit-next false request under group linked here reply =
      trace-submit capacity events k (ledger_before capacity events k) lists trace request under group linked here reply

  -- Cancels that were asked for are pushed.
  cancels-next : (j : ℕ) (M : Ledger) (numbers : List ℕ) → Listed M → Trace capacity events j M →
      ((n : ℕ) → has_number n numbers ≡ true → AskedBefore capacity events j n) →
      Trace capacity events j (push_each M (map Queued.Cancel numbers))
  cancels-next j M [] listed t asked = t
  cancels-next j M (n ∷ numbers) listed t asked =
      cancels-next j (push M (Queued.Cancel n)) numbers (listed-push_cancel M n listed)
      (trace-pushed capacity events j M n listed t (asked n (has-first n numbers))) (λ m is. asked m (has-later m n numbers is))

  -- A CancelAll pushes the cancels that it names.
  cancel_all-next : (c : ℕ) → slice_get events k ≡ Some (CancelAll c) →
      slice_get (replies (empty capacity) events) k ≡ Some (row (ledger_before capacity events k) (CancelAll c)).1 →
      Trace capacity events (suc k) (row (ledger_before capacity events k) (CancelAll c)).0
  cancel_all-next c here reply =
      let L : Ledger = ledger_before capacity events k in
      let g : ℕ = group_of L c in
      let M : Ledger = with_mark L g in
      let N : Ledger = push_each M (map Queued.Cancel (members L g)) in
      let same : Trace capacity events (suc k) L = trace-world capacity events k L lists trace (CancelAll c) _ here reply
      (λ m. record { gives_none = λ q. cc; hands_none = λ t outcome buffer p q. cc; drops_none = λ p q. cc })
      (no-exec capacity events k _ here refl) (λ q. cc) L.world L.owners in
      trace-groups (suc k) N (renew_group N c).cancellers N.cancel_handles (renew_group N c).groups
      (cancels-next (suc k) M (members L g) (record { waiting = lists.waiting; flown = lists.flown; standing = lists.standing })
      (trace-groups (suc k) L L.cancellers L.cancel_handles M.groups same)
      (λ n is. record {
        ask = k;
        before = omega arith;
        asked = inr (inr (record { numbers = members L g; reply = reply; named = is }));
      }))

  -- Each row.
  row-next : (e : Event) → slice_get events k ≡ Some e → cause (ledger_before capacity events k) e ≡ None →
      slice_get (replies (empty capacity) events) k ≡ Some (row (ledger_before capacity events k) e).1 →
      Trace capacity events (suc k) (row (ledger_before capacity events k) e).0
  row-next (Give kind) here unrefused reply =
      trace-world capacity events k (ledger_before capacity events k) lists trace (Give kind) _ here reply
      (λ n. record { gives_none = λ q. cc; hands_none = λ t outcome buffer p q. cc; drops_none = λ p q. cc })
      (no-exec capacity events k _ here refl) (λ q. cc) _ _
  row-next (Feed h bytes) here unrefused reply =
      trace-world capacity events k (ledger_before capacity events k) lists trace (Feed h bytes) _ here reply
      (λ n. record { gives_none = λ q. cc; hands_none = λ t outcome buffer p q. cc; drops_none = λ p q. cc })
      (no-exec capacity events k _ here refl) (λ q. cc) _ _
  row-next (FeedMessage h addr bytes) here unrefused reply =
      trace-world capacity events k (ledger_before capacity events k) lists trace (FeedMessage h addr bytes) _ here reply
      (λ n. record { gives_none = λ q. cc; hands_none = λ t outcome buffer p q. cc; drops_none = λ p q. cc })
      (no-exec capacity events k _ here refl) (λ q. cc) _ _
  row-next (End h) here unrefused reply =
      trace-world capacity events k (ledger_before capacity events k) lists trace (End h) _ here reply
      (λ n. record { gives_none = λ q. cc; hands_none = λ t outcome buffer p q. cc; drops_none = λ p q. cc })
      (no-exec capacity events k _ here refl) (λ q. cc) _ _
  row-next (Look h) here unrefused reply =
      trace-world capacity events k (ledger_before capacity events k) lists trace (Look h) _ here reply
      (λ n. looked (λ r. IsCalm (Look h) r n) (ledger_before capacity events k) h
      (λ b. record { gives_none = λ q. cc; hands_none = λ t outcome buffer p q. cc; drops_none = λ p q. cc })
      (λ m. record { gives_none = λ q. cc; hands_none = λ t outcome buffer p q. cc; drops_none = λ p q. cc }))
      (no-exec capacity events k _ here refl) (λ q. cc) _ _
  row-next (Close h) here unrefused reply = close-next h here reply
  row-next (Submit request under linked) here unrefused reply =
      let L : Ledger = ledger_before capacity events k in
      submit-next (is_under_marked L under) request under (group_under L under) linked here reply
  row-next (Poll n task) here unrefused reply = poll-next n task here unrefused reply
  row-next (Drop n) here unrefused reply = drop-next n here unrefused reply
  row-next (Cancel n) here unrefused reply = cancel-next n here reply
  row-next NewCanceller here unrefused reply =
      let L : Ledger = ledger_before capacity events k in
      let N : Ledger = new_canceller_step L in
      trace-groups (suc k) L N.cancellers L.cancel_handles N.groups (trace-world capacity events k L lists trace NewCanceller _ here reply
      (λ m. record { gives_none = λ q. cc; hands_none = λ t outcome buffer p q. cc; drops_none = λ p q. cc })
      (no-exec capacity events k _ here refl) (λ q. cc) L.world L.owners)
  row-next (NewHandle c) here unrefused reply =
      let L : Ledger = ledger_before capacity events k in
      trace-groups (suc k) L L.cancellers (new_handle_step L c).cancel_handles L.groups
      (trace-world capacity events k L lists trace (NewHandle c) _ here reply
      (λ m. record { gives_none = λ q. cc; hands_none = λ t outcome buffer p q. cc; drops_none = λ p q. cc })
      (no-exec capacity events k _ here refl) (λ q. cc) L.world L.owners)
  row-next (CancelAll c) here unrefused reply = cancel_all-next c here reply
  row-next Turn here unrefused reply =
      trace-turn capacity events k (ledger_before capacity events k) lists trace _ here reply
      (λ n. record { gives_none = λ q. cc; hands_none = λ t outcome buffer p q. cc; drops_none = λ p q. cc })
  row-next (Exec place told) here unrefused reply = exec-next place told here unrefused reply

  -- A refused event is no Turn, since no Turn is refused.
  turn-unrefused : (L : Ledger) (e : Event) (refusal : Refusal) → cause L e ≡ Some refusal → e ≡ Turn → ⊥
  turn-unrefused L e refusal h t = (let q : cause L Turn ≡ Some refusal = ap (cause L) (sym t) ∙ h in cc)

  -- A refused event.
  trace-refused : (e : Event) (refusal : Refusal) → slice_get events k ≡ Some e →
      slice_get (replies (empty capacity) events) k ≡ Some (Refused refusal) → cause (ledger_before capacity events k) e ≡ Some refusal →
      Trace capacity events (suc k) (ledger_before capacity events k)
  trace-refused e refusal here reply h =
      trace-world capacity events k (ledger_before capacity events k) lists trace e (Refused refusal) here reply
      (λ n. record { gives_none = λ q. cc; hands_none = λ t outcome buffer p q. cc; drops_none = λ p q. cc })
      (λ n x. (
      let L : Ledger = ledger_before capacity events k in
      let q : Exec x.2.place x.0 ≡ e = (let w = sym x.2.event ∙ here in cc) in
      let f : None ≡ Some refusal = sym x.2.unrefused ∙ ap (cause L) q ∙ h in
      let g : ⊥ = cc in g))
      (turn-unrefused (ledger_before capacity events k) e refusal h) _ _

  -- Each event, by its cause.
  cause-next : (e : Event) (c : Option Refusal) → slice_get events k ≡ Some e → cause (ledger_before capacity events k) e ≡ c →
      Trace capacity events (suc k) (step (ledger_before capacity events k) e).0
  cause-next e None here h =
      let s = step-row (ledger_before capacity events k) e h in
      subst (λ x. Trace capacity events (suc k) x.0) (sym s)
      (row-next e here h (reply-at (empty capacity) events k e here ∙ ap (λ x. Some x.1) s))
  cause-next e (Some refusal) here h =
      let L : Ledger = ledger_before capacity events k in
      let s = step-refused L e refusal h in
      subst (λ x. Trace capacity events (suc k) x.0) (sym s)
      (trace-refused e refusal here (reply-at (empty capacity) events k e here ∙ ap (λ x. Some x.1) s) h)

-- Before the first event nothing was given.
trace-start : (capacity : ℕ) (events : List Event) → Trace capacity events 0 (empty capacity)
trace-start capacity events = record {
  history =
      λ n. record {
        ungiven = λ j lt x. omega (arith, lt);
        unexecuted = λ j lt x. omega (arith, lt);
        unhanded = λ j lt x. omega (arith, lt);
        undropped = λ j lt x. omega (arith, lt);
      };
  asked = record { waiting = λ n place there. (let f : ⊥ = cc in absurd f); taken = λ n o there is. (let f : ⊥ = cc in absurd f) };
}

-- The ledger before each event has its trace.
pub reached : (capacity : ℕ) (events : List Event) (k : ℕ) → k ≤ length events → Trace capacity events k (ledger_before capacity events k)
reached capacity events zero h = trace-start capacity events
reached capacity events (suc k) h = elim (slice_get_cases events k).1 [
  | inl e ↦ subst (Trace capacity events (suc k)) (sym (after-next (empty capacity) events k e.0 e.2))
      (cause-next capacity events k (reached capacity events k (omega arith)) e.0 _ e.2 refl)
  | inr e ↦ absurd (let l = e.0 in omega (arith, h))
]
