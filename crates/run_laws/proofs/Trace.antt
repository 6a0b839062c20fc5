-- Every ledger that events led to has a history of each number, and cancels that were asked for.
use Rattle.std.proofs.Common.{◌≡◌, ◌≢◌, ◌⊎◌, inl, inr, ℕ, suc, Bool, true, false, List, length, map, Option, None, Some, option_map}
use Rattle.std.proofs.Common.{slice_get, refl, sym}
use Rattle.std.proofs.Common.{◌∙◌, ap, subst, arith}
use Rattle.rent_buf.specs.Buffer.{Buffer}
use Rattle.rent_buf.specs.Parts.{Parts}
use Rattle.machine.specs.declared.world.HandleState.{HandleState}
use Rattle.machine.specs.declared.request.Request.{Request}
use Rattle.machine.specs.declared.request.Told.{Told}
use Rattle.machine.specs.declared.request.Outcome.{Outcome}
use Rattle.machine.specs.declared.ledger.Event.{Event}
use Rattle.machine.specs.declared.ledger.Event.TheVariants.{Submit, Poll, Turn, Exec}
use Rattle.machine.specs.declared.ledger.Reply.{Reply}
use Rattle.machine.specs.declared.ledger.Reply.TheVariants.{Submitted, Pending, Handed, ExecutedOp}
use Rattle.machine.specs.declared.request.TheConstants.{CANCELED}
use Rattle.machine.specs.Lists.{amended}
use Rattle.machine.specs.Request.{held, held_of}
use Rattle.machine.specs.Effect.{Effect}
use Rattle.machine.specs.Ledger.{Ledger, Operation, Owner, Place, InQueue, InFlight, InDone, Reaped, Gone, Queued, Op, empty}
use Rattle.machine.specs.Ledger.{new_operation}
use Rattle.machine.specs.Ledger.{is_kept}
use Rattle.machine.specs.Queue.{with_op, at_place, take_all, make_room, push_each, became_unheld, with_gone, leave}
use Rattle.machine.specs.Turn.{turn_step, effect_of, with_result, with_effect, complete_at, with_break, released}
use Rattle.machine.specs.Step.{submit_step, with_task, handed_over, poll_at}
use Rattle.machine.specs.Run.{replies, ledger_before, IsExecuted, own_answer}
use Rattle.machine.proofs.Taken.{length-make_room}
use Rattle.run_laws.specs.Moments.{IsHanded, IsCanceledBefore}
use Rattle.machine.proofs.Numbers.{same-or-not}
use Rattle.machine.proofs.Amended.{get-amended, get-amended-other, changed-cases, joined-cases}
use Rattle.machine.proofs.Releasing.{with_waits, Stayed, Broke, released-ops}
use Rattle.machine.proofs.Taking.{in_queue, in_flight, in_done, flight_mark, Listed, take_all-ops, listed-take_all}
use Rattle.machine.proofs.Reaping.{reap_all-ops, closed-take_all}
use Rattle.machine.proofs.Listed.{joined, submit-joined, MayTake, make_room-ops, push_closes-ops}
use Rattle.machine.proofs.Ending.{listed-gone}
use Rattle.machine.proofs.Lawful.{handed-there}
use Rattle.machine.proofs.Alone.{listed-handed}
use Rattle.run_laws.proofs.Asked.{Asked, asked-more, asked-op, asked-push_closes, asked-take_all, asked-make_room, asked-joined}
use Rattle.run_laws.proofs.Asked.{asked-reap_all, asked-released}
use Rattle.run_laws.proofs.Executing.{own-itself, own-other, stayed-mark}
use Rattle.run_laws.proofs.Moments.{Executes, Hands, Drops, Given, Stands, Placed, Owned, Unknown, History, IsCalm, reaped-before, no-exec}
use Rattle.run_laws.proofs.History.{not-before-next, calm-hands, calm-drops, given-next, owned-next, was_reaped-next, history-next}
use Rattle.run_laws.proofs.History.{history-reaped, history-taken, history-waits}

-- A Cancel or a Drop of n came before the event at k.
abbrev pub AskedBefore : ℕ → List Event → ℕ → ℕ → Type 0
AskedBefore capacity events k n = IsCanceledBefore events (replies (empty capacity) events) n k

-- Before the event at k, each number has its history, and each cancel was asked for.
pub record Trace (capacity : ℕ) (events : List Event) (k : ℕ) (L : Ledger) : Type 0 where
  pub history : (n : ℕ) → History capacity events k n (slice_get L.ops n)
  pub asked : Asked (AskedBefore capacity events k) L

-- What was asked for before k was asked for before the next.
pub asked-next : (capacity : ℕ) (events : List Event) (k n : ℕ) → AskedBefore capacity events k n → AskedBefore capacity events (suc k) n
asked-next capacity events k n h = record { ask = h.ask; before = (let b = h.before in omega arith); asked = h.asked }

-- Taking is no event of a history.
history-may_take : (capacity : ℕ) (events : List Event) (k n : ℕ) (x y : Option Operation) → MayTake x y → History capacity events k n x →
    History capacity events k n y
history-may_take capacity events k n x y (inl e) h = subst (History capacity events k n) (sym e) h
history-may_take capacity events k n x y (inr took) h = history-taken capacity events k n x y took h

-- Nor is the push of closes.
pub trace-closes : (capacity : ℕ) (events : List Event) (k : ℕ) (M : Ledger) (handles : List ℕ) → Listed M → Trace capacity events k M →
    Trace capacity events k (push_each M (map Queued.Close handles))
trace-closes capacity events k M handles lists trace = record {
  history = λ n. history-may_take capacity events k n (slice_get M.ops n) (slice_get (push_each M (map Queued.Close handles)).ops n)
      (push_closes-ops M handles lists n) (trace.history n);
  asked = asked-push_closes (AskedBefore capacity events k) M handles trace.asked;
}

-- Nor is a handle that is handed over, by an operation that leaves.
trace-gone : (capacity : ℕ) (events : List Event) (k : ℕ) (L : Ledger) (made : Option ℕ) (n : ℕ) → Trace capacity events k (with_gone L n) →
    Trace capacity events k (with_gone (handed_over L made) n)
trace-gone capacity events k L None n trace = trace
trace-gone capacity events k L (Some h) n trace =
    record { history = trace.history; asked = record { waiting = trace.asked.waiting; taken = trace.asked.taken } }

module _ (capacity : ℕ) (events : List Event) (k : ℕ) (L : Ledger) (lists : Listed L) (trace : Trace capacity events k L) where
  -- One event more asks for no less.
  pub asked-on : Asked (AskedBefore capacity events (suc k)) L
  asked-on = asked-more (AskedBefore capacity events k) (AskedBefore capacity events (suc k)) L (asked-next capacity events k) trace.asked

  -- An event that changes handles alone, or nothing.
  pub trace-world : (e : Event) (r : Reply) → slice_get events k ≡ Some e → slice_get (replies (empty capacity) events) k ≡ Some r →
      ((n : ℕ) → IsCalm e r n) → ((n : ℕ) → Executes capacity events n k → ⊥) → (e ≡ Turn → ⊥) →
      (world : List HandleState) (owners : List Owner) → Trace capacity events (suc k) (record L { world = world; owners = owners })
  trace-world e r here reply calm none turns world owners = record {
    history = λ n. history-next capacity events k e r here reply n (slice_get L.ops n) (calm n) (none n) turns (trace.history n);
    asked = record { waiting = asked-on.waiting; taken = asked-on.taken };
  }

  -- A Turn takes the queue, then reaps what is done.
  pub trace-turn : (r : Reply) → slice_get events k ≡ Some Turn → slice_get (replies (empty capacity) events) k ≡ Some r →
      ((n : ℕ) → IsCalm Turn r n) → Trace capacity events (suc k) (turn_step L).0
  trace-turn r here reply calm =
      let T : Ledger = take_all L in
      let P : ℕ → Type 0 = AskedBefore capacity events (suc k) in
      record {
        history = λ n. subst (History capacity events (suc k) n) (sym (reap_all-ops T (closed-take_all L) (listed-take_all L lists) n))
            (history-reaped capacity events k Turn r here reply n (slice_get T.ops n) (calm n)
            (no-exec capacity events k Turn here refl n) refl
            (history-taken capacity events k n (slice_get L.ops n) (slice_get T.ops n) (take_all-ops L lists n) (trace.history n)));
        asked = asked-reap_all P T (asked-take_all P L asked-on);
      }

  -- Making room is no event of a history.
  pub history-room : (n : ℕ) → History capacity events k n (slice_get (make_room L).ops n)
  history-room n =
      history-may_take capacity events k n (slice_get L.ops n) (slice_get (make_room L).ops n) (make_room-ops L lists n) (trace.history n)

  module _ (request : Request Buffer Parts) (under group : Option ℕ) (linked : Bool)
      (here : slice_get events k ≡ Some (Submit request under linked))
      (reply : slice_get (replies (empty capacity) events) k ≡ Some (Submitted (length L.ops))) where
    -- A new operation has its history.
    history-new : (n : ℕ) → n ≡ length L.ops → Unknown capacity events k n →
        History capacity events (suc k) n (Some (new_operation request group linked))
    history-new n e h = record {
      given = record {
        at = k;
        before = omega arith;
        under = under;
        linked = linked;
        event = here;
        reply = reply ∙ ap (λ m. Some (Submitted m)) (sym e);
      };
      placed =
          not-before-next (Executes capacity events n) k (no-exec capacity events k (Submit request under linked) here refl n) h.unexecuted;
      owned = (
        not-before-next (Hands capacity events n) k (λ x. (let q = sym reply ∙ x.reply in cc)) h.unhanded,
        not-before-next (Drops capacity events n) k (λ x. (let q = sym reply ∙ x.reply in cc)) h.undropped,
      );
    }

    -- So has each other one.
    history-joined : (n : ℕ) → History capacity events (suc k) n
        (slice_get (joined (make_room L) (new_operation request group linked)).ops n)
    history-joined n = elim (joined-cases (make_room L).ops (new_operation request group linked) n) [
      | inl e ↦ subst (History capacity events (suc k) n) (sym e.2)
          (history-new n (e.0 ∙ length-make_room L) (subst (History capacity events k n) e.1 (history-room n)))
      | inr e ↦ subst (History capacity events (suc k) n) (sym e.1)
          (history-next capacity events k (Submit request under linked) (Submitted (length L.ops)) here reply n
          (slice_get (make_room L).ops n)
          (record {
            gives_none = λ q. e.0 (let p : length L.ops ≡ n = cc in sym p ∙ sym (length-make_room L));
            hands_none = λ task outcome buffer p q. cc;
            drops_none = λ p q. cc;
          })
          (no-exec capacity events k (Submit request under linked) here refl n) (λ q. cc) (history-room n))
    ]

    -- A Submit.
    pub trace-submit : Trace capacity events (suc k) (submit_step L request group linked)
    trace-submit =
        let P : ℕ → Type 0 = AskedBefore capacity events (suc k) in
        subst (Trace capacity events (suc k)) (sym (submit-joined L request group linked lists)) (record {
          history = history-joined;
          asked = asked-joined P (make_room L) (new_operation request group linked) refl (asked-make_room P L asked-on);
        })

  module _ (n task : ℕ) (o : Operation) (here : slice_get events k ≡ Some (Poll n task)) (there : slice_get L.ops n ≡ Some o) where
    -- The history of the operation that is polled.
    had : History capacity events k n (Some o)
    had = subst (History capacity events k n) there (trace.history n)

    -- A Poll that is answered Pending.
    trace-waits : slice_get (replies (empty capacity) events) k ≡ Some Pending →
        Trace capacity events (suc k) (with_op L n (with_task task))
    trace-waits reply =
        let calm : (m : ℕ) → IsCalm (Poll n task) Pending m = λ m. record {
          gives_none = λ q. cc;
          hands_none = λ t outcome buffer p q. cc;
          drops_none = λ p q. cc;
        } in
        record {
          history = λ m. elim (changed-cases (with_task task) L.ops n m) [
            | inl e ↦ subst (History capacity events (suc k) m) (sym (e.1 ∙ ap (option_map (with_task task)) there))
                (history-next capacity events k (Poll n task) Pending here reply m (Some o) (calm m)
                (no-exec capacity events k (Poll n task) here refl m) (λ q. cc)
                (subst (λ x. History capacity events k x (Some o)) (sym e.0) had))
            | inr e ↦ subst (History capacity events (suc k) m) (sym e.1)
                (history-next capacity events k (Poll n task) Pending here reply m (slice_get L.ops m) (calm m)
                (no-exec capacity events k (Poll n task) here refl m) (λ q. cc)
                (trace.history m))
          ];
          asked = asked-op (AskedBefore capacity events (suc k)) L n (with_task task) (λ o. refl) asked-on;
        }

    module _ (outcome : Outcome) (reaped : o.place ≡ Reaped outcome) (undropped : o.dropped ≡ false)
        (reply : slice_get (replies (empty capacity) events) k ≡ Some (Handed outcome o.buffer)) where
      -- The history of the operation that is handed over.
      history-handed : (m : ℕ) → m ≡ n → History capacity events (suc k) m (Some (at_place Gone o))
      history-handed m e =
          let was : History capacity events k m (Some o) = subst (λ x. History capacity events k x (Some o)) (sym e) had in
          let now : IsHanded events (replies (empty capacity) events) m k = record {
            task = task;
            outcome = outcome;
            buffer = o.buffer;
            event = here ∙ ap (λ x. Some (Poll x task)) (sym e);
            reply = reply;
          } in
          record {
            given = given-next capacity events k (Poll n task) (Handed outcome o.buffer) here reply m o.request was.given;
            placed = reaped-before capacity events (suc k) m outcome o.buffer
                (was_reaped-next capacity events k (Poll n task) (Handed outcome o.buffer) here reply m outcome o.buffer
                (subst (Placed capacity events k m o.buffer) reaped was.placed));
            owned =
                subst (λ d. Owned capacity events (suc k) m d false) (sym undropped)
                (record { hand = k; before = omega arith; is_handed = now });
          }

      -- A Poll that hands over.
      trace-handed : Trace capacity events (suc k) (with_gone L n)
      trace-handed = record {
        history = λ m. elim (changed-cases (at_place Gone) L.ops n m) [
          | inl e ↦ subst (History capacity events (suc k) m) (sym (e.1 ∙ ap (option_map (at_place Gone)) there)) (history-handed m e.0)
          | inr e ↦ subst (History capacity events (suc k) m) (sym e.1)
              (history-next capacity events k (Poll n task) (Handed outcome o.buffer) here reply m (slice_get L.ops m)
              (record {
                gives_none = λ q. cc;
                hands_none = λ t out buffer p q. e.0 (let w : n ≡ m = cc in sym w);
                drops_none = λ p q. cc;
              }) (no-exec capacity events k (Poll n task) here refl m) (λ q. cc) (trace.history m))
        ];
        asked = asked-op (AskedBefore capacity events (suc k)) L n (at_place Gone) (λ o. refl) asked-on;
      }

      -- The handles that it held alone are closed.
      trace-hands : Trace capacity events (suc k) (leave (handed_over L o.made) n)
      trace-hands =
          let H : Ledger = handed_over L o.made in
          trace-closes capacity events (suc k) (with_gone H n) (became_unheld H (with_gone H n))
          (listed-gone H n o (listed-handed L o.made lists) (handed-there L o.made n o there)
          (record { queue = ap in_queue reaped; flight = ap in_flight reaped; done = ap in_done reaped }))
          (trace-gone capacity events (suc k) L o.made n trace-handed)

    -- A Poll, by the place of the operation.
    pub trace-polled : (p : Place) → o.place ≡ p → is_kept p ≡ true → o.dropped ≡ false →
        slice_get (replies (empty capacity) events) k ≡ Some (poll_at L n task o p).1 →
        Trace capacity events (suc k) (poll_at L n task o p).0
    trace-polled InQueue e live undropped reply = trace-waits reply
    trace-polled InFlight e live undropped reply = trace-waits reply
    trace-polled (InDone outcome) e live undropped reply = trace-waits reply
    trace-polled (Reaped outcome) e live undropped reply = trace-hands outcome e undropped reply
    trace-polled Gone e live undropped reply = (let f : ⊥ = cc in absurd f)

  module _ (place m : ℕ) (told : Told) (o : Operation) (result : Effect) (N : Ledger)
      (next : N ≡ released told (with_effect (complete_at L place (Op m)) m told result) m)
      (lists_then : Listed (with_effect (complete_at L place (Op m)) m told result))
      (executes : (n : ℕ) → flight_mark (slice_get L.ops n) ≡ 1 → flight_mark (slice_get N.ops n) ≡ 0 →
      IsExecuted capacity events n k told (Op m))
      (leaves : (n : ℕ) → Executes capacity events n k → (flight_mark (slice_get L.ops n) ≡ 1) × (flight_mark (slice_get N.ops n) ≡ 0))
      (reply : slice_get (replies (empty capacity) events) k ≡ Some (ExecutedOp m)) (there : slice_get L.ops m ≡ Some o)
      (flies : o.place ≡ InFlight) (own : result ≡ effect_of (ledger_before capacity events k) o.request told)
      (here : slice_get events k ≡ Some (Exec place told)) where
    -- What an Exec passes on is neither given by it, nor handed over, nor dropped.
    calm-done : (n : ℕ) → IsCalm (Exec place told) (ExecutedOp m) n
    calm-done n = record { gives_none = λ q. cc; hands_none = λ t outcome buffer p q. cc; drops_none = λ p q. cc }

    -- The history of an operation in flight that ends by the Exec, with an outcome and a buffer.
    history-ended : (n : ℕ) (p q : Operation) → slice_get L.ops n ≡ Some p → p.place ≡ InFlight → (outcome : Outcome) →
        q.request ≡ p.request → q.dropped ≡ p.dropped → q.place ≡ InDone outcome → IsExecuted capacity events n k told (Op m) →
        outcome ≡ (own_answer (ledger_before capacity events k) n (Op m) p.request told).0 →
        q.buffer ≡ (own_answer (ledger_before capacity events k) n (Op m) p.request told).1 → History capacity events (suc k) n (Some q)
    history-ended n p q was_there flew outcome request dropped place_is executed outcome_is buffer_is =
        let was : History capacity events k n (Some p) = subst (History capacity events k n) was_there (trace.history n) in
        let g : Given capacity events k n p.request = was.given in
        let stands : Stands capacity events (suc k) n outcome q.buffer = record {
          own = record {
            given = g.at;
            exec = k;
            told = told;
            is_given = record { request = p.request; under = g.under; linked = g.linked; event = g.event; reply = g.reply };
            item = Op m;
            is_executed = executed;
            outcome_is = outcome_is;
            buffer_is = buffer_is;
          };
          given_first = g.before;
          before = omega arith;
          no_turn = λ t after lt turn. omega arith;
        } in
        record {
          given = subst (Given capacity events (suc k) n) (sym request)
              (given-next capacity events k (Exec place told) (ExecutedOp m) here reply n p.request g);
          placed = subst (Placed capacity events (suc k) n q.buffer) (sym place_is) stands;
          owned = subst (λ b. Owned capacity events (suc k) n b (is_kept q.place)) (sym dropped)
              (subst (λ z. Owned capacity events (suc k) n p.dropped (is_kept z)) (sym place_is)
              (owned-next capacity events k (Exec place told) (ExecutedOp m) here reply n p.dropped true
              (calm-hands capacity events k (Exec place told) (ExecutedOp m) here reply n (calm-done n))
              (calm-drops capacity events k (Exec place told) (ExecutedOp m) here reply n (calm-done n))
              (subst (λ z. Owned capacity events k n p.dropped (is_kept z)) flew was.owned)));
        }

    -- What was looked up before those that wait are released, and after it.
    released-at : (n : ℕ) → Stayed (slice_get (amended L.ops m (with_result told result)) n) (slice_get N.ops n)
        ⊎ Broke told (slice_get (amended L.ops m (with_result told result)) n) (slice_get N.ops n)
    released-at n =
        subst (λ K. Stayed (slice_get (amended L.ops m (with_result told result)) n) (slice_get K.ops n)
        ⊎ Broke told (slice_get (amended L.ops m (with_result told result)) n) (slice_get K.ops n)) (sym next)
        (released-ops told (with_effect (complete_at L place (Op m)) m told result) m lists_then n)

    -- The operation that is executed ends with its own outcome.
    history-own : History capacity events (suc k) m (slice_get N.ops m)
    history-own =
        let at : slice_get (amended L.ops m (with_result told result)) m ≡ Some (with_result told result o) =
        get-amended (with_result told result) L.ops m ∙ ap (option_map (with_result told result)) there in
        let answer = own-itself (ledger_before capacity events k) m o.request told in
        elim (released-at m) [
          | inl s ↦ (
              let now : slice_get N.ops m ≡ Some (with_waits s.waits_for (with_result told result o)) =
              s.is ∙ ap (option_map (with_waits s.waits_for)) at in
              let left : flight_mark (slice_get N.ops m) ≡ 0 = ap flight_mark now in
              let flew : flight_mark (slice_get L.ops m) ≡ 1 = ap flight_mark there ∙ ap in_flight flies in
              subst (History capacity events (suc k) m) (sym now)
              (history-ended m o (with_waits s.waits_for (with_result told result o)) there flies result.outcome refl refl refl
              (executes m flew left) (ap (λ r. r.outcome) own ∙ sym (ap (λ a. a.0) answer))
              (ap (λ r. held o.request told r.got) own ∙ sym (ap (λ a. a.1) answer))))
          | inr b ↦ (
              let q : with_result told result o ≡ b.operation = (let w = sym at ∙ b.there in cc) in
              let p : InDone result.outcome ≡ InFlight = ap (λ z. z.place) q ∙ b.place in
              let f : ⊥ = cc in absurd f)
        ]

    -- Each other one stays, or ends with the one that it waits for.
    history-beside : (n : ℕ) → n ≢ m → History capacity events (suc k) n (slice_get N.ops n)
    history-beside n other =
        let at : slice_get (amended L.ops m (with_result told result)) n ≡ slice_get L.ops n =
        get-amended-other (with_result told result) L.ops m n other in
        let answer : (o : Operation) → own_answer (ledger_before capacity events k) n (Op m) o.request told
        ≡ (Outcome.Fail CANCELED, held_of o.request) = λ o. own-other (ledger_before capacity events k) n m o.request told other in
        elim (released-at n) [
          | inl s ↦ (
              let mark : flight_mark (slice_get N.ops n) ≡ flight_mark (slice_get L.ops n) =
              stayed-mark (slice_get (amended L.ops m (with_result told result)) n) (slice_get N.ops n) s ∙ ap flight_mark at in
              subst (History capacity events (suc k) n) (sym (s.is ∙ ap (option_map (with_waits s.waits_for)) at))
              (history-waits capacity events (suc k) n s.waits_for (slice_get L.ops n)
              (history-next capacity events k (Exec place told) (ExecutedOp m) here reply n (slice_get L.ops n) (calm-done n)
              (λ x. (let a = (leaves n x).0 in let b = (leaves n x).1 in omega (arith, a, b, mark))) (λ q. cc) (trace.history n))))
          | inr b ↦ (
              let was : slice_get L.ops n ≡ Some b.operation = sym at ∙ b.there in
              let flew : flight_mark (slice_get L.ops n) ≡ 1 = ap flight_mark was ∙ ap in_flight b.place in
              let left : flight_mark (slice_get N.ops n) ≡ 0 = ap flight_mark b.is in
              subst (History capacity events (suc k) n) (sym b.is)
              (history-ended n b.operation (with_break b.operation) was b.place (Outcome.Fail CANCELED) refl refl refl
              (executes n flew left) (sym (ap (λ a. a.0) (answer b.operation))) (sym (ap (λ a. a.1) (answer b.operation)))))
        ]

    -- An Exec.
    pub trace-executed : Trace capacity events (suc k) N
    trace-executed =
        let P : ℕ → Type 0 = AskedBefore capacity events (suc k) in
        let E : Ledger = with_effect (complete_at L place (Op m)) m told result in
        let kept = asked-op P L m (with_result told result) (λ o. refl) asked-on in
        record {
          history = λ n. elim (same-or-not n m) [
            | inl e ↦ subst (λ x. History capacity events (suc k) x (slice_get N.ops x)) (sym e) history-own
            | inr other ↦ history-beside n other
          ];
          asked = subst (Asked P) (sym next) (asked-released P told E m lists_then (record { waiting = kept.waiting; taken = kept.taken }));
        }
