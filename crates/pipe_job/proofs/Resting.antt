-- What calls on operations leave of a driver beside the job that makes them.
use Rattle.std.proofs.Common.{ℕ, ◌≡◌, ◌<◌, ◌≤◌, ◌∙◌, ◌↔◌, ap, sym, refl, subst, arith, inl, inr, Ok, Err, None}
use Rattle.std.specs.Prelude.{Bool, Result}
use Rattle.handle_core.specs.Table.{holders_at}
use Rattle.rent_buf.specs.Parts.{Parts}
use Rattle.rent_buf.specs.Rent.{Rented}
use Rattle.rent_buf.specs.declared.fault.OutOfMemory.{OutOfMemory}
use Rattle.machine.specs.Request.{named}
use Rattle.machine.specs.declared.request.Request.{Request}
use Rattle.driver_core.specs.Holds.{named_in, unheld_by, without_ops}
use Rattle.driver_core.specs.Op.{AddsToken, DropsToken, Holds, KeepsTokens, number_of}
use Rattle.driver_core.specs.Slot.{number_at}
use Rattle.driver_core.specs.declared.op.Op.{Op}
use Rattle.driver_core.specs.declared.op.PollOp.{PollOp}
use Rattle.driver_core.specs.declared.op.PollOp.TheVariants.{Pending, Ready}
use Rattle.driver_core.specs.declared.op.SubmitError.{SubmitError}
use Rattle.driver_core.proofs.Holds.{user-joined, user-left}
use Rattle.std.specs.FinMap as map
use Rattle.ready_driver.specs.Awaits.{TokensFor}
use Rattle.ready_driver.specs.Io.{IoView}
use Rattle.ready_driver.specs.LegacyCalls.{JoinsOp, SubmitRefused, unwaited}
use Rattle.ready_driver.specs.LegacyState.{LegacyState, ops_in}
use Rattle.ready_driver.specs.Registry.{LetsGo}
use Rattle.op_driver.specs.Legacy.{LegacyCancels}
use Rattle.pipe_job.specs.PipeJob.{AsksWait}
use Rattle.pipe_job.specs.Rest.{IsOwnOrNew, LeavesRest, SameUsers}
use Rattle.pipe_job.specs.Waits.{ApartWaits}
use Rattle.pipe_job.specs.declared.step.Wait.{Wait}
use Rattle.pipe_job.specs.declared.step.Wait.TheVariants.{Room, Waiting}

-- No call leaves all.
pub same_rest : {I : Type 0} (driver : LegacyState I Rented) (wait : Wait) → LeavesRest driver driver wait
same_rest driver wait = record {
  users = λ h. refl;
  held = λ op apart below. (λ held. held, λ held. held);
  given = omega arith;
}

-- An operation that is apart from what a job waited for is apart from what it waits for next.
apart_next : (given : ℕ) (wait next : Wait) (op : Op) → IsOwnOrNew given wait next → ApartWaits wait (Waiting op) → number_of op < given
    → ApartWaits next (Waiting op)
apart_next given wait (Room room) op own apart below = tt
apart_next given wait (Waiting next) op (inl same) apart below = subst (λ w. ApartWaits w (Waiting op)) same apart
apart_next given wait (Waiting next) op (inr new) apart below = λ same. omega (arith, new, below, same)

-- Two calls, one behind the other.
pub rest_both : {I : Type 0} (old mid new : LegacyState I Rented) (wait further : Wait) → LeavesRest old mid wait
    → IsOwnOrNew old.given wait further → LeavesRest mid new further → LeavesRest old new wait
rest_both old mid new wait further first own second = record {
  users = λ h. second.users h ∙ first.users h;
  held = λ op apart below.
      let one = first.held op apart below in
      let more = first.given in
      let two = second.held op (apart_next old.given wait further op own apart below) (omega (arith, below, more)) in
      (λ held. two.0 (one.0 held), λ held. one.1 (two.1 held));
  given = let a = first.given in let b = second.given in omega (arith, a, b);
}

-- What a job waits for behind two steps is its own, or new, if it is so behind each.
pub own_both : (given later : ℕ) (wait further next : Wait) → given ≤ later → IsOwnOrNew given wait further
    → IsOwnOrNew later further next → IsOwnOrNew given wait next
own_both given later wait further (Room room) more first second = tt
own_both given later wait further (Waiting next) more first (inl same) = subst (IsOwnOrNew given wait) same first
own_both given later wait further (Waiting next) more first (inr new) = inr (omega (arith, more, new))

-- A poll.
pub polled_rest : {I : Type 0} (old new : LegacyState I Rented) (op : Op) (result : Result (PollOp Rented) (OutOfMemory × Op))
    → TokensFor (ops_in old) (ops_in new) op result → new.given ≡ old.given → SameUsers old.handling.table new.handling.table
    → LeavesRest old new (Waiting op)
polled_rest old new op result tokens given users = record {
  users = users;
  held = λ other apart below. by result tokens other apart;
  given = omega (arith, given);
}
  where
    by : (result : Result (PollOp Rented) (OutOfMemory × Op)) → TokensFor (ops_in old) (ops_in new) op result → (other : Op)
        → ApartWaits (Waiting op) (Waiting other) → Holds (ops_in old) other ↔ Holds (ops_in new) other
    by (Ok (Pending back)) tokens other apart = tokens.1 other
    by (Ok (Ready done)) tokens other apart =
        (λ held. (tokens other).1 (held, λ same. apart (sym (ap number_of same))), λ held. ((tokens other).0 held).0)
    by (Err error) tokens other apart = tokens.1 other

-- A drop.
pub dropped_rest : {I : Type 0} (view : I → IoView) (tells memory : Bool) (old new : LegacyState I Rented) (op : Op)
    → LetsGo view tells memory (unwaited old.handling (number_of op) (map.get old.slots.values op.key))
    (without_ops old.handling.table (named_in (map.get old.slots.values op.key)))
    (unheld_by old.handling.table (named_in (map.get old.slots.values op.key))) new.handling
    → DropsToken (ops_in old) (ops_in new) op → new.given ≡ old.given → LeavesRest old new (Waiting op)
dropped_rest view tells memory old new op lets tokens given = record {
  users = λ h. ap (λ t. (holders_at t h).user) lets.holders
      ∙ user-left old.handling.table (named_in (map.get old.slots.values op.key)) h;
  held = λ other apart below.
      (λ held. (tokens other).1 (held, λ same. apart (sym (ap number_of same))), λ held. ((tokens other).0 held).0);
  given = omega (arith, given);
}

-- A cancel.
canceled_rest : {I : Type 0} (old new : LegacyState I Rented) (op : Op) (result : Result Unit OutOfMemory) → LegacyCancels old new op result
    → KeepsTokens (ops_in old) (ops_in new) → new.given ≡ old.given → LeavesRest old new (Waiting op)
canceled_rest old new op (Ok done) does tokens given = record {
  users = λ h. ap (λ s. (holders_at s.table h).user) does.waits;
  held = λ other apart below. tokens other;
  given = omega (arith, given);
}
canceled_rest old new op (Err error) does tokens given = subst (λ d. LeavesRest old d (Waiting op)) (sym does) (same_rest old (Waiting op))

-- So does asking for a cancel, whatever the job waits for.
pub asked_rest : {I : Type 0} (old new : LegacyState I Rented) (wait : Wait) (result : Result Unit OutOfMemory)
    → AsksWait old new wait result → KeepsTokens (ops_in old) (ops_in new) → new.given ≡ old.given → LeavesRest old new wait
asked_rest old new (Room room) result asks tokens given = subst (λ d. LeavesRest old d (Room room)) (sym asks.0) (same_rest old (Room room))
asked_rest old new (Waiting op) result asks tokens given = canceled_rest old new op result asks tokens given

module _ {I : Type 0} (view : I → IoView) (tells memory : Bool) where
  -- A submission,
  pub submitted_rest : (old new : LegacyState I Rented) (request : Request Rented Parts) (op : Op) (wait : Wait)
      → AddsToken (ops_in old) (ops_in new) op → JoinsOp view tells memory old new request None op → LeavesRest old new wait
  submitted_rest old new request op wait adds joins = record {
    users = λ h. ap (λ s. (holders_at s.table h).user) joins.handling ∙ user-joined joins.mid.table (named request) h
        ∙ ap (λ t. (holders_at t h).user) joins.ready.table;
    held = λ other apart below. (
      adds.kept other,
      λ held. elim (adds.only other held) [
        | inl same ↦ absurd (let number = adds.number in let one = ap number_of same in omega (arith, number, one, below))
        | inr before ↦ before
      ],
    );
    given = (let next = adds.next in omega (arith, next));
  }

  -- and one that is refused.
  pub refused_rest : (old new : LegacyState I Rented) (request : Request Rented Parts) (refused : SubmitError Rented) (wait : Wait)
      → SubmitRefused view tells memory request old new refused → LeavesRest old new wait
  refused_rest old new request refused wait is = record {
    users = λ h. ap (λ t. (holders_at t h).user) is.handles.made.table;
    held = λ op apart below. (
      λ held. ap (λ s. number_at s op.key) is.same.slots ∙ held,
      λ held. ap (λ s. number_at s op.key) (sym is.same.slots) ∙ held,
    );
    given = (let same = is.same.given in omega (arith, same));
  }
