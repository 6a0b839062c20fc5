-- What a Cancel and a Drop make of the trace of a ledger.
use Rattle.std.proofs.Common.{◌≡◌, inl, inr, ℕ, suc, true, false, List, Some, option_map, slice_get, refl, sym, ◌∙◌, ap, subst, arith}
use Rattle.machine.specs.declared.request.Outcome.{Outcome}
use Rattle.machine.specs.declared.ledger.Event.{Event}
use Rattle.machine.specs.declared.ledger.Event.TheVariants.{Drop}
use Rattle.machine.specs.declared.ledger.Reply.TheVariants.{Dropped}
use Rattle.machine.specs.Ledger.{Ledger, Operation, Place, InQueue, InFlight, InDone, Reaped, Gone, Queued, empty, is_kept}
use Rattle.machine.specs.Queue.{with_op, at_place, make_room, push, became_unheld, with_gone, leave}
use Rattle.machine.specs.Step.{with_drop, drop_at}
use Rattle.machine.specs.Run.{replies}
use Rattle.run_laws.specs.Moments.{IsDropped}
use Rattle.machine.proofs.Amended.{get-amended, changed-cases}
use Rattle.machine.proofs.Taking.{in_queue, in_flight, in_done, Listed}
use Rattle.machine.proofs.Listed.{listed-changed}
use Rattle.machine.proofs.Ending.{listed-gone}
use Rattle.run_laws.proofs.Asked.{asked-op, asked-make_room, asked-appended}
use Rattle.run_laws.proofs.Moments.{Placed, Owned, History, reaped-before, no-exec}
use Rattle.run_laws.proofs.History.{given-next, placed-next, history-next}
use Rattle.run_laws.proofs.Trace.{AskedBefore, Trace, asked-on, history-room, trace-closes}

module _ (capacity : ℕ) (events : List Event) (k : ℕ) where
  -- The cancel of an operation that was asked for is pushed: no history tells it.
  pub trace-pushed : (M : Ledger) (n : ℕ) → Listed M → Trace capacity events k M → AskedBefore capacity events k n →
      Trace capacity events k (push M (Queued.Cancel n))
  trace-pushed M n lists trace asked =
      let P : ℕ → Type 0 = AskedBefore capacity events k in
      record {
        history = history-room capacity events k M lists trace;
        asked = asked-appended P (make_room M) n asked (asked-make_room P M trace.asked);
      }

  -- A dropped operation that is reaped leaves.
  trace-left : (M : Ledger) (n : ℕ) (o : Operation) (outcome : Outcome) → Listed M → Trace capacity events k M →
      slice_get M.ops n ≡ Some o → o.place ≡ Reaped outcome → o.dropped ≡ true → Trace capacity events k (leave M n)
  trace-left M n o outcome lists trace there reaped dropped =
      let was : History capacity events k n (Some o) = subst (History capacity events k n) there (trace.history n) in
      let gone : History capacity events k n (Some (at_place Gone o)) = record {
        given = was.given;
        placed = reaped-before capacity events k n outcome o.buffer (subst (Placed capacity events k n o.buffer) reaped was.placed);
        owned =
            subst (λ d. Owned capacity events k n d false) (sym dropped)
            (subst (λ d. Owned capacity events k n d (is_kept o.place)) dropped was.owned);
      } in
      trace-closes capacity events k (with_gone M n) (became_unheld M (with_gone M n))
      (listed-gone M n o lists there
      (record { queue = ap in_queue reaped; flight = ap in_flight reaped; done = ap in_done reaped })) (record {
        history = λ m. elim (changed-cases (at_place Gone) M.ops n m) [
          | inl e ↦ subst (History capacity events k m) (sym (e.1 ∙ ap (option_map (at_place Gone)) there))
              (subst (λ x. History capacity events k x (Some (at_place Gone o))) (sym e.0) gone)
          | inr e ↦ subst (History capacity events k m) (sym e.1) (trace.history m)
        ];
        asked = asked-op (AskedBefore capacity events k) M n (at_place Gone) (λ o. refl) trace.asked;
      })

module _ (capacity : ℕ) (events : List Event) (k : ℕ) (L : Ledger) (lists : Listed L) (trace : Trace capacity events k L)
    (n : ℕ) (o : Operation) (here : slice_get events k ≡ Some (Drop n)) (there : slice_get L.ops n ≡ Some o)
    (reply : slice_get (replies (empty capacity) events) k ≡ Some Dropped) where
  -- The event drops n.
  drops : IsDropped events (replies (empty capacity) events) n k
  drops = record { event = here; reply = reply }

  -- The history of the operation that is dropped.
  history-dropped : History capacity events (suc k) n (Some (with_drop o))
  history-dropped =
      let was : History capacity events k n (Some o) = subst (History capacity events k n) there (trace.history n) in
      record {
        given = given-next capacity events k (Drop n) Dropped here reply n o.request was.given;
        placed = placed-next capacity events k (Drop n) Dropped here reply n o.buffer o.place
            (no-exec capacity events k (Drop n) here refl n) (λ q. cc) was.placed;
        owned = record { drop = k; before = omega arith; is_dropped = drops };
      }

  -- The operation is dropped, and stays at its place.
  trace-marked : Trace capacity events (suc k) (with_op L n with_drop)
  trace-marked =
      record {
        history = λ m. elim (changed-cases with_drop L.ops n m) [
          | inl e ↦ subst (History capacity events (suc k) m) (sym (e.1 ∙ ap (option_map with_drop) there))
              (subst (λ x. History capacity events (suc k) x (Some (with_drop o))) (sym e.0) history-dropped)
          | inr e ↦ subst (History capacity events (suc k) m) (sym e.1)
              (history-next capacity events k (Drop n) Dropped here reply m (slice_get L.ops m)
              (record {
                gives_none = λ q. cc;
                hands_none = λ t outcome buffer p q. cc;
                drops_none = λ p q. e.0 (let w : n ≡ m = cc in sym w);
              }) (no-exec capacity events k (Drop n) here refl m) (λ q. cc) (trace.history m))
        ];
        asked = asked-op (AskedBefore capacity events (suc k)) L n with_drop (λ o. refl) (asked-on capacity events k L lists trace);
      }

  -- The lists hold what the places say after it was dropped.
  listed-marked : Listed (with_op L n with_drop)
  listed-marked = listed-changed L n with_drop o lists there (record { queue = refl; flight = refl; done = refl })

  -- Its cancel is pushed.
  trace-cancels : Trace capacity events (suc k) (push (with_op L n with_drop) (Queued.Cancel n))
  trace-cancels =
      trace-pushed capacity events (suc k) (with_op L n with_drop) n listed-marked trace-marked
      (record { ask = k; before = omega arith; asked = inr (inl drops) })

  -- A Drop, by the place of the operation.
  pub trace-dropped : (p : Place) → o.place ≡ p → Trace capacity events (suc k) (drop_at (with_op L n with_drop) n p)
  trace-dropped InQueue e = trace-cancels
  trace-dropped InFlight e = trace-cancels
  trace-dropped (InDone outcome) e = trace-cancels
  trace-dropped (Reaped outcome) e =
      trace-left capacity events (suc k) (with_op L n with_drop) n (with_drop o) outcome listed-marked trace-marked
      (get-amended with_drop L.ops n ∙ ap (option_map with_drop) there) e refl
  trace-dropped Gone e = trace-cancels
