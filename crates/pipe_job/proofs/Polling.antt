-- What the poll of a job's operation answers, and the step that follows.
use Rattle.std.proofs.Common.{ℕ, ◌≡◌, ◌⊎◌, ap, inl, sym, subst, Bool, Ok, Err}
use Rattle.std.specs.Prelude.{IsTrue, Result, unwrap_or}
use Rattle.std.specs.FinMap as map
use Rattle.handle_core.specs.Table.{Table, nobody}
use Rattle.rent_buf.specs.Rent.{Rented, buffer_of_rent}
use Rattle.rent_buf.specs.declared.fault.OutOfMemory.{OutOfMemory as NoMemory}
use Rattle.machine.specs.Attempt.{is_file_at}
use Rattle.driver_core.specs.Op.{number_of}
use Rattle.driver_core.specs.Ops.{Ops}
use Rattle.driver_core.specs.declared.op.Done.{Done}
use Rattle.driver_core.specs.declared.op.Op.{Op}
use Rattle.driver_core.specs.declared.op.PollOp.{PollOp}
use Rattle.driver_core.specs.declared.op.PollOp.TheVariants as polled
use Rattle.ready_driver.specs.Awaits.{TokensFor, is_met_at, slot_awaits, unless}
use Rattle.ready_driver.specs.Calling.{Called}
use Rattle.ready_driver.specs.Errors.{FailsFor}
use Rattle.ready_driver.specs.Io.{IoView}
use Rattle.ready_driver.specs.LegacyPolls.{EndsFor as PollEndsFor}
use Rattle.ready_driver.specs.LegacyState.{LegacyState, ops_in}
use Rattle.ready_driver.specs.Named.{PollsSlotFor}
use Rattle.ready_driver.specs.Others.{KeepsOthers}
use Rattle.ready_driver.specs.Registry.{AreRecorded}
use Rattle.pipe_job.specs.Awaits.{IsListed, IsUnreported, KeepsWaiting}
use Rattle.pipe_job.specs.Course.{Coursed, IsSameBytes}
use Rattle.pipe_job.specs.Rest.{LeavesRest, SameUsers}
use Rattle.pipe_job.specs.Steps.{StepFor, StepsTo}
use Rattle.pipe_job.specs.Waits.{ApartWaits, FitsWait, StaysApart}
use Rattle.pipe_job.specs.declared.step.Wait.TheVariants.{Room, Waiting}
use Rattle.pipe_job.specs.declared.step.Step.{Step}
use Rattle.pipe_job.specs.declared.step.Step.TheVariants as step
use Rattle.pipe_job.proofs.Awaiting.{pending_listed}
use Rattle.pipe_job.proofs.Calls.{Lawful, pending_fit, pending_waits, pending_world, poll_later, starved_fit, starved_world}
use Rattle.pipe_job.proofs.Frames.{polled_apart}
use Rattle.pipe_job.proofs.Resting.{polled_rest}
use Rattle.pipe_job.proofs.Returned.{brought, ready_causes, returned_users}
use Rattle.pipe_job.proofs.Staying.{HoldsNamed, known_pipe, polled_stays}
use Rattle.pipe_job.proofs.Stepping.{moves_none}

-- The same operation is apart from those that it was apart from.
same_apart : (ops : Ops Rented) (op back : Op) → back ≡ op → StaysApart ops (Waiting op) (Waiting back)
same_apart ops op back same course cancels other fits apart = subst (λ o. ApartWaits (Waiting o) other) (sym same) apart

-- What the driver says of a poll, and behind it.
pub record Polled {I : Type 0} (files : I → ℕ → Bool) (view : I → IoView) (tells memory : Bool) (called : Called I)
    (old new : LegacyState I Rented) (op : Op) (task : ℕ) (result : Result (PollOp Rented) (NoMemory × Op)) : Type 0 where
  pub ends : PollEndsFor files buffer_of_rent called view tells memory old new op task result
  pub fails : FailsFor view old new op result
  pub slots : PollsSlotFor (ops_in old) (ops_in new) op result
  pub tokens : TokensFor (ops_in old) (ops_in new) op result
  pub given : new.given ≡ old.given
  pub others : KeepsOthers old.handling new.handling (number_of op)
  pub asked : new.asked ≡ old.asked
  pub recorded : AreRecorded new.handling.table new.handling.records
  pub held : HoldsNamed new

-- Holders that are the same are the user's as often.
polled_users : (old new : Table) → new.holders ≡ old.holders → SameUsers old new
polled_users old new same = λ h. ap (λ m. (unwrap_or (map.get m h) nobody).user) same

module _ {I : Type 0} (files : I → ℕ → Bool) (view : I → IoView) (tells memory : Bool) (called : Called I)
    (law : Lawful view tells memory called) (filed : IsTrue memory → (io : I) (h : ℕ) → files io h ≡ is_file_at (view io).world h)
    (shows : IsTrue memory → IsTrue tells) (old new : LegacyState I Rented) (op : Op) (task : ℕ) (was : Coursed) (cancels : ℕ)
    (fits : FitsWait (ops_in old) was cancels (Waiting op)) where
  -- The poll, with this answer.
  abbrev Poll : Result (PollOp Rented) (NoMemory × Op) → Type 0
  Poll result = Polled files view tells memory called old new op task result

  -- It leaves the others waiting.
  stays : (result : Result (PollOp Rented) (NoMemory × Op)) → Poll result → KeepsWaiting files memory old new (Waiting op)
  stays result poll = polled_stays files memory old new op result poll.slots poll.given fits.0 poll.others poll.asked poll.held

  -- It is pending.
  pends : (back : Op) → Poll (Ok (polled.Pending back))
      → StepsTo files view tells memory was was cancels old new (Waiting op) (step.Pending (Waiting back))
  pends back poll = record {
    fits = pending_fit view tells memory called law files old new op back task was cancels poll.ends poll.slots poll.tokens poll.given
        fits;
    others = polled_apart (ops_in old) (ops_in new) op (Ok (polled.Pending back)) poll.slots poll.given fits.0;
    apart = same_apart (ops_in old) op back poll.tokens.0;
    stays = stays (Ok (polled.Pending back)) poll;
    later = poll_later view tells memory called law files old new op task (Ok (polled.Pending back)) poll.ends;
    ends = tt;
    waits = pending_waits view tells memory called law files old new op back task poll.ends poll.tokens.0;
    rest = polled_rest old new op (Ok (polled.Pending back)) poll.tokens poll.given
        (polled_users old.handling.table new.handling.table poll.ends.0.table);
    fresh = inl (ap Waiting (sym poll.tokens.0));
    moves = moves_none files view tells memory was old new
        (pending_world view tells memory called law (is_met_at old.handling.records
        (unless (files old.handling.io) (slot_awaits (map.get old.slots.values op.key)))) (map.get old.slots.values op.key)
        (map.get new.slots.values op.key) old.handling.io new.handling.io back poll.ends.2) (poll.others.unmet was.pipe);
  }

  pub pending_steps : (back : Op) (answer : PollOp Rented) → answer ≡ polled.Pending back → Poll (Ok answer)
      → StepsTo files view tells memory was was cancels old new (Waiting op) (step.Pending (Waiting back))
  pending_steps back answer is poll = pends back (subst (λ a. Poll (Ok a)) is poll)

  -- Where the pipe is no file of which nothing is reported, the operation is listed then.
  pub pending_awaits : (back : Op) (answer : PollOp Rented) → answer ≡ polled.Pending back → Poll (Ok answer)
      → IsListed new was.pipe back task ⊎ IsUnreported files memory was.pipe
  pending_awaits back answer is poll =
      let pending = subst (λ a. Poll (Ok a)) is poll in
      pending_listed files view tells memory called law filed old new op back task was pending.ends fits.2.moves pending.slots
      pending.tokens.0 pending.recorded (known_pipe new pending.held was cancels back (pends back pending).fits)

  ended_rest : (done : Done Rented) → Poll (Ok (polled.Ready done)) → LeavesRest old new (Waiting op)
  ended_rest done poll = polled_rest old new op (Ok (polled.Ready done)) poll.tokens poll.given
      (returned_users files view tells memory called law filed shows old new op task was cancels done poll.ends fits)

  -- The operation ended, and this step follows.
  ends : (done : Done Rented) (next : Step) (is : Coursed) → IsSameBytes was is → Poll (Ok (polled.Ready done)) → StepFor was is done next
      → StepsTo files view tells memory was is cancels old new (Waiting op) next
  ends done (step.Again (Room room)) is same poll so = record {
    fits = tt;
    others = polled_apart (ops_in old) (ops_in new) op (Ok (polled.Ready done)) poll.slots poll.given fits.0;
    apart = λ c n other fit apart. tt;
    stays = stays (Ok (polled.Ready done)) poll;
    later = poll_later view tells memory called law files old new op task (Ok (polled.Ready done)) poll.ends;
    ends = tt;
    waits = tt;
    rest = ended_rest done poll;
    fresh = tt;
    moves = brought files view tells memory called law filed shows old new op task was cancels done poll.ends fits is same so.1 poll.others;
  }
  ends done (step.Again (Waiting other)) is same poll so = absurd so.0
  ends done (step.Pending wait) is same poll so = absurd so
  ends done (step.OutOfMemory wait) is same poll so = absurd so
  ends done (step.Ended (Ok whole)) is same poll so = absurd so
  ends done (step.Ended (Err why)) is same poll so = record {
    fits = tt;
    others = polled_apart (ops_in old) (ops_in new) op (Ok (polled.Ready done)) poll.slots poll.given fits.0;
    apart = tt;
    stays = stays (Ok (polled.Ready done)) poll;
    later = poll_later view tells memory called law files old new op task (Ok (polled.Ready done)) poll.ends;
    ends = ready_causes files view tells memory called law filed shows old new op task was cancels done poll.ends fits why poll.fails so;
    waits = tt;
    moves = tt;
    rest = ended_rest done poll;
    fresh = tt;
  }

  pub ended_steps : (done : Done Rented) (answer : PollOp Rented) (next : Step) (is : Coursed) → IsSameBytes was is
      → answer ≡ polled.Ready done → Poll (Ok answer)
      → StepFor was is done next → StepsTo files view tells memory was is cancels old new (Waiting op) next
  ended_steps done answer next is same back poll so = ends done next is same (subst (λ a. Poll (Ok a)) back poll) so

  -- Memory ran out.
  pub starved_steps : (error : NoMemory × Op) → Poll (Err error)
      → StepsTo files view tells memory was was cancels old new (Waiting op) (step.OutOfMemory (Waiting error.1))
  starved_steps error poll = record {
    fits = starved_fit view tells memory called law files old new op error task was cancels poll.ends poll.slots poll.tokens poll.given
        fits;
    others = polled_apart (ops_in old) (ops_in new) op (Err error) poll.slots poll.given fits.0;
    apart = same_apart (ops_in old) op error.1 poll.tokens.0;
    stays = stays (Err error) poll;
    later = poll_later view tells memory called law files old new op task (Err error) poll.ends;
    ends = tt;
    waits = tt;
    rest = polled_rest old new op (Err error) poll.tokens poll.given (polled_users old.handling.table new.handling.table poll.ends.0.table);
    fresh = inl (ap Waiting (sym poll.tokens.0));
    moves = moves_none files view tells memory was old new
        (starved_world view tells memory called law (is_met_at old.handling.records
        (unless (files old.handling.io) (slot_awaits (map.get old.slots.values op.key)))) (map.get old.slots.values op.key)
        (map.get new.slots.values op.key) old.handling.io new.handling.io error poll.ends.2) (poll.others.unmet was.pipe);
  }
