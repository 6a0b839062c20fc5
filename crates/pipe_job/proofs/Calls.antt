-- What the call of a poll says of the job whose operation it is.
use Rattle.std.proofs.Common.{ℕ, ◌≡◌, ◌∙◌, ap, sym, refl, subst, Bool, true, false, Option, Some, None, Ok, Err, arith, inl, inr}
use Rattle.std.specs.Prelude.{IsTrue, Result, suc, if◌then◌else◌, unwrap_or, option_map}
use Rattle.std.specs.FinMap as map
use Rattle.machine.specs.declared.request.Outcome.{Outcome}
use Rattle.machine.specs.declared.request.Outcome.TheVariants.{Count, From, Made, Fail}
use Rattle.machine.specs.declared.request.TheConstants.{CANCELED}
use Rattle.machine.specs.declared.request.Request.TheVariants as request
use Rattle.machine.specs.Request.{makes}
use Rattle.machine.specs.Effect.{made_by}
use Rattle.driver_core.specs.declared.op.Done.{Done as Ended}
use Rattle.ready_driver.specs.declared.ready.Direction.{Direction}
use Rattle.ready_driver.specs.Awaits.{IsUnmetAt, IsSlotUnmet, LeavesFor, LeavesIf, TokensFor, is_met_at, slot_awaits, unless, with_waiter}
use Rattle.ready_driver.specs.Errors.{ErrorFor, FailsFor}
use Rattle.ready_driver.specs.LegacyPolls.{EndsFor as PollEndsFor, EndsOp, HandsOver}
use Rattle.ready_driver.specs.LegacyState.{LegacyState, ops_in}
use Rattle.ready_driver.specs.Named.{PollsSlotFor}
use Rattle.ready_driver.specs.Ready.{mask_of, meets}
use Rattle.ready_driver.specs.Records.{Kept, changed, io_at, quiet, with_io}
use Rattle.ready_driver.specs.Registry.{Handling, TriesFor}
use Rattle.ready_driver.specs.ScheduledIo.{entry_of}
use Rattle.ready_driver.proofs.Bearing.{bits-kept}
use Rattle.pipe_job.specs.Causes.{OsFor, WaitsFor}
use Rattle.pipe_job.specs.declared.step.Wait.TheVariants.{Waiting}
use Rattle.rent_buf.specs.Buffer.{Buffer}
use Rattle.rent_buf.specs.Parts.{Parts}
use Rattle.rent_buf.specs.Rent.{Rented, buffer_of_rent}
use Rattle.rent_buf.specs.declared.fault.OutOfMemory.{OutOfMemory as NoMemory}
use Rattle.machine.specs.declared.request.Request.{Request}
use Rattle.machine.specs.Request.{plain_request}
use Rattle.driver_core.specs.declared.op.Op.{Op}
use Rattle.driver_core.specs.declared.op.PollOp.{PollOp}
use Rattle.driver_core.specs.declared.op.PollOp.TheVariants.{Pending, Ready}
use Rattle.driver_core.specs.declared.operations.calls.CallAnswer.{CallAnswer}
use Rattle.driver_core.specs.declared.operations.calls.CallAnswer.TheVariants.{Done, WouldBlock, OutOfMemory}
use Rattle.driver_core.specs.declared.slot.Slot.{Slot}
use Rattle.ready_driver.specs.Calling.{Called, CallsOnce, request_in}
use Rattle.ready_driver.specs.Io.{IoView, CallsFor, EndsFor, IsLater, made_after}
use Rattle.ready_driver.proofs.Still.{later-then}
use Rattle.pipe_job.specs.Course.{Coursed, IsNext}
use Rattle.pipe_job.proofs.Moving.{next_is}
use Rattle.pipe_job.specs.Waits.{FitsWait, IsOwn, NextIf}

-- What an object says of its calls.
abbrev pub Lawful : {I : Type 0} → (I → IoView) → Bool → Bool → Called I → Type 0
Lawful {I} view tells memory called = (old : I) (request : Request Buffer Parts) (new : I) (now : Request Buffer Parts)
    (answer : CallAnswer)
    → called old request new now answer → CallsFor tells memory (view old) request (view new) now answer

module _ {I : Type 0} (view : I → IoView) (tells memory : Bool) (called : Called I) (law : Lawful view tells memory called) where
  -- Counts are no later than themselves.
  pub same_later : (old : IoView) → IsLater old old
  same_later old = record { faults = omega arith; blocks = omega arith; fails = omega arith }

  -- A call that wasn't made leaves what a slot's request moves.
  unmade_moves : (course : Coursed) (slot new : Option (Slot Rented)) (before after : I) (now request : Request Rented Parts)
      → request_in slot ≡ Some request → request_in new ≡ Some now → plain_request buffer_of_rent now ≡ plain_request buffer_of_rent request
      → NextIf course (request_in slot) → NextIf course (request_in new)
  unmade_moves course slot new before after now request asked stays same moves =
      let asks : IsNext course (plain_request buffer_of_rent request) = subst (NextIf course) asked moves in
      let keeps : NextIf course (Some now) = subst (IsNext course) (sym same) asks in
      subst (NextIf course) (sym stays) keeps

  -- A pending poll leaves what its slot's request moves, and the object's counts don't fall.
  pub pending_moves : (b : Bool) (course : Coursed) (slot new : Option (Slot Rented)) (before after : I) (back : Op)
      → CallsOnce b buffer_of_rent called slot before new after (Ok (Pending back)) → NextIf course (request_in slot)
      → NextIf course (request_in new)
  pending_moves false course slot new before after back calls moves = subst (λ s. NextIf course (request_in s)) (sym calls.slot_is) moves
  pending_moves true course slot new before after back calls moves =
      let does = law before (plain_request buffer_of_rent calls.made.request) after (plain_request buffer_of_rent calls.now) WouldBlock
      calls.made.calls in
      unmade_moves course slot new before after calls.now calls.made.request calls.made.asked calls.stays does.0.same moves

  -- So does one for which memory ran out.
  pub starved_moves : (b : Bool) (course : Coursed) (slot new : Option (Slot Rented)) (before after : I) (error : NoMemory × Op)
      → CallsOnce b buffer_of_rent called slot before new after (Err error) → NextIf course (request_in slot)
      → NextIf course (request_in new)
  starved_moves false course slot new before after error calls moves = subst (λ s. NextIf course (request_in s)) (sym calls.slot_is) moves
  starved_moves true course slot new before after error (inl none) moves = subst (λ s. NextIf course (request_in s))
      (sym none.slot_is) moves
  starved_moves true course slot new before after error (inr calls) moves =
      let does = law before (plain_request buffer_of_rent calls.made.request) after (plain_request buffer_of_rent calls.now) OutOfMemory
      calls.made.calls in
      unmade_moves course slot new before after calls.now calls.made.request calls.made.asked calls.stays does.0.same moves

  -- The counts of the object don't fall in a poll's call.
  pub called_later : (b : Bool) (slot new : Option (Slot Rented)) (before after : I) (result : Result (PollOp Rented) (NoMemory × Op))
      → CallsOnce b buffer_of_rent called slot before new after result → IsLater (view before) (view after)
  called_later false slot new before after (Ok (Pending back)) calls =
      subst (λ io. IsLater (view before) (view io)) (sym calls.object) (same_later (view before))
  called_later false slot new before after (Ok (Ready done)) calls = absurd calls
  called_later false slot new before after (Err error) calls =
      subst (λ io. IsLater (view before) (view io)) (sym calls.object) (same_later (view before))
  called_later true slot new before after (Ok (Pending back)) calls =
      (law before (plain_request buffer_of_rent calls.made.request) after (plain_request buffer_of_rent calls.now) WouldBlock
      calls.made.calls).0.later
  called_later true slot new before after (Ok (Ready done)) (inl none) =
      subst (λ io. IsLater (view before) (view io)) (sym none.0) (same_later (view before))
  called_later true slot new before after (Ok (Ready done)) (inr made) =
      (law before (plain_request buffer_of_rent made.request) after (plain_request buffer_of_rent done.request) (Done done.outcome)
      made.calls).later
  called_later true slot new before after (Err error) (inl none) =
      subst (λ io. IsLater (view before) (view io)) (sym none.object) (same_later (view before))
  called_later true slot new before after (Err error) (inr calls) =
      (law before (plain_request buffer_of_rent calls.made.request) after (plain_request buffer_of_rent calls.now) OutOfMemory
      calls.made.calls).0.later

  -- A poll that returns no operation moves no bytes.
  pub pending_world : (b : Bool) (slot new : Option (Slot Rented)) (before after : I) (back : Op)
      → CallsOnce b buffer_of_rent called slot before new after (Ok (Pending back)) → IsTrue tells
      → (view after).world ≡ (view before).world
  pending_world false slot new before after back calls t = ap (λ io. (view io).world) calls.object
  pending_world true slot new before after back calls t =
      (law before (plain_request buffer_of_rent calls.made.request) after (plain_request buffer_of_rent calls.now) WouldBlock
      calls.made.calls).0.world t

  pub starved_world : (b : Bool) (slot new : Option (Slot Rented)) (before after : I) (error : NoMemory × Op)
      → CallsOnce b buffer_of_rent called slot before new after (Err error) → IsTrue tells → (view after).world ≡ (view before).world
  starved_world false slot new before after error calls t = ap (λ io. (view io).world) calls.object
  starved_world true slot new before after error (inl none) t = ap (λ io. (view io).world) none.object
  starved_world true slot new before after error (inr calls) t =
      (law before (plain_request buffer_of_rent calls.made.request) after (plain_request buffer_of_rent calls.now) OutOfMemory
      calls.made.calls).0.world t

  -- A job that waits for its operation fits the driver still.
  pub pending_fit : (files : I → ℕ → Bool) (old new : LegacyState I Rented) (op back : Op) (task : ℕ) (course : Coursed) (cancels : ℕ)
      → PollEndsFor files buffer_of_rent called view tells memory old new op task (Ok (Pending back))
      → PollsSlotFor (ops_in old) (ops_in new) op (Ok (Pending back)) → TokensFor (ops_in old) (ops_in new) op (Ok (Pending back))
      → new.given ≡ old.given → FitsWait (ops_in old) course cancels (Waiting op) → FitsWait (ops_in new) course cancels (Waiting back)
  pending_fit files old new op back task course cancels ends slots tokens given fits =
      subst (λ o. FitsWait (ops_in new) course cancels (Waiting o)) (sym tokens.0) (
        (tokens.1 op).0 fits.0,
        (let below = fits.1 in omega (arith, below, given)),
        record {
          moves = pending_moves (is_met_at old.handling.records
              (unless (files old.handling.io) (slot_awaits (map.get old.slots.values op.key)))) course
              (map.get old.slots.values op.key) (map.get new.slots.values op.key) old.handling.io new.handling.io back ends.2 fits.2.moves;
          asked = λ outcome is. fits.2.asked outcome ((slots.completed outcome).0 is);
        },
      )

  -- So does one for which memory ran out.
  pub starved_fit : (files : I → ℕ → Bool) (old new : LegacyState I Rented) (op : Op) (error : NoMemory
      × Op) (task : ℕ) (course : Coursed) (cancels : ℕ)
      → PollEndsFor files buffer_of_rent called view tells memory old new op task (Err error)
      → PollsSlotFor (ops_in old) (ops_in new) op (Err error) → TokensFor (ops_in old) (ops_in new) op (Err error)
      → new.given ≡ old.given → FitsWait (ops_in old) course cancels (Waiting op) → FitsWait (ops_in new) course cancels (Waiting error.1)
  starved_fit files old new op error task course cancels ends slots tokens given fits =
      subst (λ o. FitsWait (ops_in new) course cancels (Waiting o)) (sym tokens.0) (
        (tokens.1 op).0 fits.0,
        (let below = fits.1 in omega (arith, below, given)),
        record {
          moves = starved_moves (is_met_at old.handling.records
              (unless (files old.handling.io) (slot_awaits (map.get old.slots.values op.key)))) course
              (map.get old.slots.values op.key) (map.get new.slots.values op.key) old.handling.io new.handling.io error ends.2 fits.2.moves;
          asked = λ outcome is. fits.2.asked outcome ((slots.completed outcome).0 is);
        },
      )

  -- No bit of a handle meets the direction still, once its operation waits.
  unmet_by : (b : Bool) (h : ℕ) (dir : Direction) (kept records after : Kept) (number task : ℕ) (back : Op)
      → is_met_at kept (if b then None else Some (h, dir)) ≡ false → records.handles ≡ kept.handles
      → LeavesFor {B = Rented} (if b then None else Some (h, dir)) records number task after (Ok (Pending back))
      → IsUnmetAt after (Some (h, dir))
  unmet_by true h dir kept records after number task back unmet room leaves = absurd cc
  unmet_by false h dir kept records after number task back unmet room leaves =
      let same : io_at records h ≡ io_at kept h = ap (λ hs. unwrap_or (option_map (λ r. r.io) (map.get hs h)) quiet) room in
      let none : meets (io_at records h).ready (mask_of dir) ≡ false = ap (λ io. meets io.ready (mask_of dir)) same ∙ unmet in
      let is : after ≡ changed records h (with_io (with_waiter (entry_of number task dir))) =
      subst (λ b. LeavesIf {B = Rented} b records h (entry_of number task dir) after (Ok (Pending back))) none leaves in
      record {
        handle = h;
        direction = dir;
        awaited_is = refl;
        unmet = ap (λ k. meets (io_at k h).ready (mask_of dir)) is
            ∙ ap (λ r. meets r (mask_of dir)) (bits-kept records h (with_io (with_waiter (entry_of number task dir)))
            (λ one. refl) h) ∙ none;
      }

  unmet_after : (f : ℕ → Bool) (awaited : Option (ℕ × Direction)) (kept records after : Kept) (number task : ℕ) (back : Op)
      → is_met_at kept (unless f awaited) ≡ false → records.handles ≡ kept.handles
      → LeavesFor {B = Rented} (unless f awaited) records number task after (Ok (Pending back)) → IsUnmetAt after awaited
  unmet_after f None kept records after number task back unmet room leaves = absurd cc
  unmet_after f (Some (h, dir)) kept records after number task back unmet room leaves =
      unmet_by (f h) h dir kept records after number task back unmet room leaves

  -- A job that waits: no bit of its operation's handle meets its direction, or its call would have blocked.
  pub pending_waits : (files : I → ℕ → Bool) (old new : LegacyState I Rented) (op back : Op) (task : ℕ)
      → PollEndsFor files buffer_of_rent called view tells memory old new op task (Ok (Pending back)) → back ≡ op
      → WaitsFor view old new (Waiting back)
  pending_waits files old new op back task ends same =
      subst (λ o. WaitsFor view old new (Waiting o)) (sym same)
      (by-met (is_met_at old.handling.records (unless (files old.handling.io) (slot_awaits (map.get old.slots.values op.key)))) refl ends.2)
    where
      by-met : (b : Bool) → is_met_at old.handling.records
          (unless (files old.handling.io) (slot_awaits (map.get old.slots.values op.key))) ≡ b
          → CallsOnce b buffer_of_rent called (map.get old.slots.values op.key) old.handling.io (map.get new.slots.values op.key)
          new.handling.io
          (Ok (Pending back)) → WaitsFor view old new (Waiting op)
      by-met true met calls = inr (law old.handling.io (plain_request buffer_of_rent calls.made.request) new.handling.io
          (plain_request buffer_of_rent calls.now) WouldBlock calls.made.calls).1
      by-met false unmet calls = inl (subst (λ s. IsSlotUnmet new.handling.records s) (sym calls.slot_is)
          (unmet_after (files old.handling.io) (slot_awaits (map.get old.slots.values op.key)) old.handling.records ends.0.records
          new.handling.records op.number task back unmet ends.0.room ends.0.leaves))

-- A job's next request makes no handle.
pub moves_makes : (course : Coursed) (request : Request Rented Parts) → IsNext course (plain_request buffer_of_rent request)
    → makes (plain_request buffer_of_rent request) ≡ false
moves_makes course request next = elim (next_is course request next) [
  | inl receive ↦ ap (λ r. makes (plain_request buffer_of_rent r)) receive.1
  | inr send ↦ ap (λ r. makes (plain_request buffer_of_rent r)) send.1
]

-- Its call leaves how many handles an object made.
made_stays : (course : Coursed) (asked : Request Rented Parts) (now : Request Buffer Parts) (call : Outcome) (made : ℕ)
    → IsNext course (plain_request buffer_of_rent asked) → EndsFor (plain_request buffer_of_rent asked) now call
    → made_after call made ≡ made
made_stays course asked now (Count k) made moves ends = refl
made_stays course asked now (From k addr) made moves ends = refl
made_stays course asked now (Fail e) made moves ends = refl
made_stays course asked now (Made h) made moves ends =
    absurd (let none : true ≡ false = sym ends.0 ∙ moves_makes course asked moves in cc)

module _ {I : Type 0} (view : I → IoView) (tells memory : Bool) (called : Called I) (law : Lawful view tells memory called) where
  -- The call of a job's operation made no handle.
  call_makes : (b : Bool) (course : Coursed) (slot new : Option (Slot Rented)) (before after : I) (done : Ended Rented)
      → NextIf course (request_in slot)
      → CallsOnce b buffer_of_rent called slot before new after (Ok (Ready done)) → (view after).made ≡ (view before).made
  call_makes false course slot new before after done moves calls = absurd calls
  call_makes true course slot new before after done moves (inl none) = ap (λ io. (view io).made) none.0
  call_makes true course slot new before after done moves (inr made) =
      let does = law before (plain_request buffer_of_rent made.request) after (plain_request buffer_of_rent done.request)
      (Done done.outcome) made.calls in
      does.made ∙ made_stays course made.request (plain_request buffer_of_rent done.request) done.outcome
      (view before).made (subst (NextIf course) made.asked moves) does.ends

  -- Nor did the poll in which it failed.
  poll_makes : (files : I → ℕ → Bool) (old new : LegacyState I Rented) (op : Op) (task : ℕ) (course : Coursed) (done : Ended Rented) (e : ℕ)
      → EndsOp files buffer_of_rent called view tells memory old new op task done → done.outcome ≡ Fail e
      → NextIf course (request_in (map.get old.slots.values op.key)) → (view new.handling.io).made ≡ (view old.handling.io).made
  poll_makes files old new op task course done e ends fails moves =
      let none : ends.handed ≡ ends.mid = subst (λ o. HandsOver view tells memory ends.mid (made_by o) ends.handed) fails ends.hands in
      ends.lets.object.made ∙ ap (λ h. (view h.io).made) none
      ∙ call_makes (is_met_at old.handling.records (unless (files old.handling.io) (slot_awaits (map.get old.slots.values op.key)))) course
      (map.get old.slots.values op.key) (map.get new.slots.values op.key) old.handling.io ends.mid.io (record done { outcome = ends.call })
      moves ends.calls

  -- The causes of an error with which a job's operation ends.
  error_by : (old new : LegacyState I Rented) (op : Op) (course : Coursed) (cancels e : ℕ) (own : Type 0)
      → ErrorFor old.handling.table (map.get old.slots.values op.key) (view old.handling.io) (view new.handling.io) (Fail e)
      → (view new.handling.io).made ≡ (view old.handling.io).made → IsOwn course cancels (map.get old.slots.values op.key)
      → OsFor view tells course.pipe cancels own old new e
  error_by old new op course cancels e own (inl rose) made is = inl rose
  error_by old new op course cancels e own (inr (inl asked)) made is = inr (inl (asked.error, (is.asked (Fail CANCELED) asked.asked).0))
  error_by old new op course cancels e own (inr (inr refused)) made is =
      absurd (let more = refused.made in let same : suc (view old.handling.io).made ≡ (view old.handling.io).made = sym more ∙ made in
      omega (arith, same))

  pub error_causes : (files : I → ℕ → Bool) (old new : LegacyState I Rented) (op : Op) (task : ℕ) (course : Coursed) (cancels e : ℕ)
      (own : Type 0) (done : Ended Rented)
      → EndsOp files buffer_of_rent called view tells memory old new op task done → FailsFor view old new op (Ok (Ready done))
      → FitsWait (ops_in old) course cancels (Waiting op) → done.outcome ≡ Fail e
      → OsFor view tells course.pipe cancels own old new e
  error_causes files old new op task course cancels e own done ends fails fits is =
      error_by old new op course cancels e own
      (subst (ErrorFor old.handling.table (map.get old.slots.values op.key) (view old.handling.io) (view new.handling.io)) is fails)
      (poll_makes files old new op task course done e ends is fits.2.moves) fits.2

  -- The object's counts don't fall as a handle that was made becomes its user's.
  tries_later : (taken : Bool) (h key : ℕ) (old new : IoView) → TriesFor tells memory h key old new taken → IsLater old new
  tries_later true h key old new tries = tries.0.later
  tries_later false h key old new tries = tries.0.later

  hands_later : (old new : Handling I) (made : Option ℕ) → HandsOver view tells memory old made new → IsLater (view old.io) (view new.io)
  hands_later old new None hands = subst (λ h. IsLater (view old.io) (view h.io)) (sym hands)
      (same_later view tells memory called law (view old.io))
  hands_later old new (Some h) hands = tries_later hands.1.taken h hands.1.key (view old.io) (view new.io) hands.1.tries

  -- Nor in a poll.
  pub poll_later : (files : I → ℕ → Bool) (old new : LegacyState I Rented) (op : Op) (task : ℕ)
      (result : Result (PollOp Rented) (NoMemory × Op))
      → PollEndsFor files buffer_of_rent called view tells memory old new op task result
      → IsLater (view old.handling.io) (view new.handling.io)
  poll_later files old new op task (Ok (Pending back)) ends =
      called_later view tells memory called law (is_met_at old.handling.records
      (unless (files old.handling.io) (slot_awaits (map.get old.slots.values op.key))))
      (map.get old.slots.values op.key) (map.get new.slots.values op.key) old.handling.io new.handling.io (Ok (Pending back)) ends.2
  poll_later files old new op task (Err error) ends =
      called_later view tells memory called law (is_met_at old.handling.records
      (unless (files old.handling.io) (slot_awaits (map.get old.slots.values op.key))))
      (map.get old.slots.values op.key) (map.get new.slots.values op.key) old.handling.io new.handling.io (Err error) ends.2
  poll_later files old new op task (Ok (Ready done)) ends =
      later-then (view old.handling.io) (view ends.mid.io) (view new.handling.io)
      (called_later view tells memory called law (is_met_at old.handling.records
      (unless (files old.handling.io) (slot_awaits (map.get old.slots.values op.key))))
      (map.get old.slots.values op.key) (map.get new.slots.values op.key) old.handling.io ends.mid.io
      (Ok (Ready (record done { outcome = ends.call }))) ends.calls)
      (later-then (view ends.mid.io) (view ends.handed.io) (view new.handling.io)
      (hands_later ends.mid ends.handed (made_by done.outcome) ends.hands) ends.lets.object.later)
