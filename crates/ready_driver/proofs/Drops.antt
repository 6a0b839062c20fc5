-- What a readiness driver answers to the drop of an operation, and the ledger behind it as it is spelled.
use Rattle.std.proofs.Common.{◌≡◌, ℕ, true, not, ◌&&◌, [], ◌∷◌, ◌++◌, length, remove, Some, None, option_map}
use Rattle.std.proofs.Common.{slice_get, refl, ◌∙◌, ap, arith}
use Rattle.machine.specs.declared.request.TheConstants.{CANCELED}
use Rattle.machine.specs.declared.request.Told.TheVariants.{Fail}
use Rattle.machine.specs.declared.ledger.Event.TheVariants.{Drop, Turn, Exec}
use Rattle.machine.specs.declared.ledger.Refusal.TheVariants.{NoOp}
use Rattle.machine.specs.declared.ledger.Reply.TheVariants.{Dropped}
use Rattle.machine.specs.Lists.{amended, passes}
use Rattle.machine.specs.Effect.{Effect}
use Rattle.machine.specs.Ledger.{Ledger, Operation, Place, InQueue, InFlight, InDone, Reaped, Gone, Queued, is_kept}
use Rattle.machine.specs.Queue.{with_op, canceled_at, with_cancel, take_one, take_all, push, leave}
use Rattle.machine.specs.Refusal.{refused_if}
use Rattle.machine.specs.Turn.{with_result, effect_of}
use Rattle.machine.specs.Step.{step, with_drop, drop_at, drop_step}
use Rattle.machine.specs.Run.{after}
use Rattle.machine.proofs.Amended.{get-amended}
use Rattle.machine.proofs.Taking.{taken_place}
use Rattle.machine.proofs.Staying.{stays-push}
use Rattle.machine.proofs.Stepping.{step-row, OwnedAt}
use Rattle.driver_core.proofs.Lists.{amended-twice}
use Rattle.ready_driver.specs.Spelled.{place_of, spelled_out, spelled_reply, drop_spelling, row_spelling}
use Rattle.ready_driver.specs.Legacy.{Legacy}
use Rattle.ready_driver.specs.LegacyStep.{freed, legacy_row}
use Rattle.ready_driver.proofs.Free.{AllFree, free-changed, free-canceled}
use Rattle.ready_driver.proofs.Flat.{flat-push, flat-changed}
use Rattle.ready_driver.proofs.Closes.{turn-takes}
use Rattle.ready_driver.proofs.Settled.{Stands}
use Rattle.ready_driver.proofs.Finish.{left, finish-dropped}
use Rattle.ready_driver.proofs.Meets.{meets-same, MeetsSpelled, Taken, taken-flies}
use Rattle.ready_driver.proofs.Polls.{drop-unmoved, hands-alike, left-meets, flying, flat-taken, place, item-there, same-world, same-users}

-- The drop of what isn't reaped pushes its cancel.
drop-pushes : (K : Ledger) (n : ℕ) (p : Place) → taken_place p ≡ InFlight → drop_at K n p ≡ push K (Queued.Cancel n)
drop-pushes K n InQueue h = refl
drop-pushes K n InFlight h = refl
drop-pushes K n (InDone outcome) h = (let f : ⊥ = cc in absurd f)
drop-pushes K n (Reaped outcome) h = (let f : ⊥ = cc in absurd f)
drop-pushes K n Gone h = (let f : ⊥ = cc in absurd f)

-- An operation of its user's, of a driver that stands for a ledger.
module _ (D : Legacy) (L : Ledger) (n : ℕ) (st : Stands D L) (f : OwnedAt L n) (t : Taken L n f.operation) where
  -- The machine's step.
  drop-row : step L (Drop n) ≡ (push (with_op L n with_drop) (Queued.Cancel n), Dropped)
  drop-row =
      step-row L (Drop n) (
      ap (λ x. refused_if (not (passes (λ o. is_kept o.place && not o.dropped) x)) NoOp None) f.there
      ∙ ap (λ b. refused_if (not (b && not f.operation.dropped)) NoOp None) f.kept
      ∙ ap (λ d. refused_if (not (true && not d)) NoOp None) f.undropped)
      ∙ ap (drop_step L n) f.there
      ∙ ap (λ K. (K, Dropped)) (drop-pushes (with_op L n with_drop) n f.operation.place t.place)

  -- The ledger once the cancel is taken.
  abbrev canceled : Ledger
  canceled = with_op (with_op (take_all L) n with_drop) n with_cancel

  -- The drop and the turn behind it.
  drop-taken : after L (Drop n ∷ Turn ∷ []) ≡ canceled
  drop-taken =
      let K : Ledger = with_op L n with_drop in
      ap (λ s. (step s.0 Turn).0) drop-row
      ∙ turn-takes (push K (Queued.Cancel n)) ((stays-push K (Queued.Cancel n)).done ∙ st.settled.half.idle)
      ∙ flat-push K (Queued.Cancel n) (free-changed L.ops n with_drop (λ x g. g) st.settled.half.free)
      ∙ ap (λ M. take_one None M (Queued.Cancel n)) (flat-changed L n with_drop drop-unmoved st.settled.half.free)

  -- The operation then.
  abbrev dropped_op : Operation
  dropped_op = with_cancel (with_drop (flying D L n 0 st f t))

  -- It is there.
  dropped-there : slice_get canceled.ops n ≡ Some dropped_op
  dropped-there =
      get-amended with_cancel (amended (take_all L).ops n with_drop) n
      ∙ ap (option_map with_cancel) (get-amended with_drop (take_all L).ops n ∙ ap (option_map with_drop) t.there)

  -- None of its operations is linked, or waits.
  canceled-free : AllFree canceled.ops
  canceled-free =
      free-changed (amended (take_all L).ops n with_drop) n with_cancel (λ x g. free-canceled x.place x g)
      (free-changed (take_all L).ops n with_drop (λ x g. g) (flat-taken D L n 0 st f t).free)

  -- The error of its cancel, which moves nothing.
  abbrev unmoved : Effect
  unmoved = effect_of canceled dropped_op.request (Fail CANCELED)

  -- What becomes of it.
  abbrev ended_op : Operation → Operation
  ended_op x = with_result (Fail CANCELED) unmoved (with_cancel (with_drop x))

  -- The ledger behind the spelling.
  abbrev ended : Ledger
  ended = leave (left (take_all L) (place D L n 0 st f t) n ended_op (take_all L).world ((take_all L).owners ++ [])) n

  -- It is that.
  drop-left : after L (spelled_out (drop_spelling L n)) ≡ ended
  drop-left =
      let T : Ledger = take_all L in
      let p : ℕ = place D L n 0 st f t in
      let flat = flat-taken D L n 0 st f t in
      let result : Operation → Operation = with_result (Fail CANCELED) unmoved in
      ap (λ X. after X (Exec (place_of n X.flying) (Fail CANCELED) ∷ Turn ∷ [])) drop-taken
      ∙ finish-dropped canceled p n dropped_op (Fail CANCELED) flat.queue flat.done canceled-free (item-there D L n 0 st f t) dropped-there
      (ap (λ at. (canceled_at at (with_drop (flying D L n 0 st f t))).canceled) t.place)
      (ap (λ at. (canceled_at at (with_drop (flying D L n 0 st f t))).dropped) t.place)
      ∙ ap (λ ops. leave (record T {
        flying = remove T.flying p;
        done = [];
        ops = ops;
        owners = T.owners ++ [];
      }) n) (amended-twice (amended T.ops n with_drop) n with_cancel result
      ∙ amended-twice T.ops n with_drop (λ x. result (with_cancel x)))

  -- The drop.
  pub drop-meets : MeetsSpelled (legacy_row D (Drop n)) L (row_spelling L (Drop n))
  drop-meets =
      let T : Ledger = take_all L in
      let flat = flat-taken D L n 0 st f t in
      let users = same-users D L n 0 st f t in
      let m = hands-alike None T.owners D.users (length T.world) (λ h is. (let x : ⊥ = cc in absurd x)) flat.counted users in
      meets-same (freed D n, Dropped) (after L (spelled_out (drop_spelling L n))) ended (spelled_reply L (drop_spelling L n)) Dropped
      drop-left (ap (λ s. s.1) drop-row)
      (left-meets D L (place D L n 0 st f t) n ended_op (λ x g. free-canceled x.place (with_drop x) g) st (item-there D L n 0 st f t)
      (taken-flies L n f.operation t) D.users D.world T.world
      (T.owners ++ []) m.0 (same-world D L n 0 st f t) (let e = m.1 in omega (arith, e)) Dropped)
