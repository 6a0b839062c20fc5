-- What a submission of a job leaves, and why one is refused.
use Rattle.std.proofs.Common.{◌≡◌, ◌∙◌, ap, sym, subst, Bool, [], ◌∷◌, None, inl, inr}
use Rattle.std.specs.FinMap as map
use Rattle.rent_buf.specs.Parts.{Parts}
use Rattle.rent_buf.specs.Rent.{Rented, buffer_of_rent}
use Rattle.machine.specs.declared.request.Request.{Request}
use Rattle.machine.specs.Request.{named, plain_request}
use Rattle.driver_core.specs.declared.op.Op.{Op}
use Rattle.driver_core.specs.declared.op.SubmitError.{SubmitError}
use Rattle.driver_core.specs.declared.op.SubmitFault.{SubmitFault}
use Rattle.driver_core.specs.declared.op.SubmitFault.TheVariants.{Full, RingFault, Busy, Os, OutOfMemory}
use Rattle.ready_driver.specs.Io.{IoView, IsLater}
use Rattle.ready_driver.specs.LegacyCalls.{JoinsOp, SubmitRefused, WhyRefused}
use Rattle.ready_driver.specs.LegacyState.{LegacyState, live_slots}
use Rattle.pipe_job.proofs.Moving.{next_is}
use Rattle.pipe_job.specs.Causes.{TakesNone}
use Rattle.pipe_job.specs.Course.{Coursed, IsNext}

-- A job's next request names just its pipe.
pub moves_named : (course : Coursed) (request : Request Rented Parts) → IsNext course (plain_request buffer_of_rent request)
    → named request ≡ course.pipe ∷ []
moves_named course request next = elim (next_is course request next) [
  | inl receive ↦ ap named receive.1
  | inr send ↦ ap named send.1
]

module _ {I : Type 0} (view : I → IoView) (tells memory : Bool) where
  -- The object's counts don't fall in a submission.
  pub joined_later : (old new : LegacyState I Rented) (request : Request Rented Parts) (op : Op)
      → JoinsOp view tells memory old new request None op → IsLater (view old.handling.io) (view new.handling.io)
  joined_later old new request op joins =
      subst (λ h. IsLater (view old.handling.io) (view h.io)) (sym joins.handling) joins.ready.object.later

  -- Nor in one that is refused.
  pub refused_later : (old new : LegacyState I Rented) (request : Request Rented Parts) (refused : SubmitError Rented)
      → SubmitRefused view tells memory request old new refused → IsLater (view old.handling.io) (view new.handling.io)
  refused_later old new request refused why = why.handles.made.object.later

  -- A refusal as Full: the driver takes no further operation.
  pub refused_full : (old new : LegacyState I Rented) (request : Request Rented Parts) (refused : SubmitError Rented)
      → SubmitRefused view tells memory request old new refused → refused.why ≡ Full → TakesNone new
  refused_full old new request refused is full = by-why refused.why full is.why
    where
      by-why : (why : SubmitFault) → why ≡ Full → WhyRefused view memory old.handling new.handling (live_slots old) why → TakesNone new
      by-why Full full why = inl (ap map.len is.same.slots ∙ why.0)
      by-why RingFault full why = absurd why
      by-why Busy full why = absurd why
      by-why (Os code) full why = absurd cc
      by-why OutOfMemory full why = absurd cc
