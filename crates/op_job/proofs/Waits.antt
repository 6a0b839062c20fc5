-- Jobs wait for their operations behind calls of others.
use Rattle.std.proofs.Common.{ℕ, ◌≡◌, inl, inr, sym, refl, subst, false, List, [], ◌∷◌, Some}
use Rattle.std.specs.Prelude.{Option, Result}
use Rattle.rent_buf.specs.Parts.{Parts}
use Rattle.rent_buf.specs.declared.fault.OutOfMemory.{OutOfMemory}
use Rattle.machine.specs.declared.request.Request.{Request}
use Rattle.core_exec.specs.declared.job.JobStep.{JobStep}
use Rattle.core_exec.specs.declared.job.JobStep.TheVariants as step
use Rattle.core_exec.specs.declared.table.Task.{Task}
use Rattle.core_exec.specs.Job.{IfPending}
use Rattle.core_exec.specs.Tasks.{AreWaiting, job_in}
use Rattle.core_exec.specs.Marks.{has_number, ready_tasks}
use Rattle.core_exec.proofs.Waiting.{unmarked_unnamed}
use Rattle.driver_core.specs.declared.op.Op.{Op}
use Rattle.driver_core.specs.declared.op.PollOp.{PollOp}
use Rattle.driver_core.specs.declared.op.SubmitError.{SubmitError}
use Rattle.driver_core.specs.declared.op.Turned.{Turned}
use Rattle.driver_core.specs.Op.{KeepsTokens}
use Rattle.driver_core.specs.Ops.{Ops}
use Rattle.ready_driver.specs.Awaits.{TokensFor}
use Rattle.op_job.specs.declared.op_job.OpJob.{OpJob}
use Rattle.op_job.specs.declared.op_job.State.{State}
use Rattle.op_job.specs.declared.op_job.State.TheVariants.{Unsent, Waiting}
use Rattle.op_job.specs.OpJob.{FitsState, PendsJob, PendsState}
use Rattle.op_job.specs.Waits.{IsAwaited, IsBeside, KeepsWaiting, WaitsOps, WaitsState}
use Rattle.op_job.proofs.Frames.{kept_fits, polled_others}

-- The driver holds the operation of each job.
abbrev pub AreFitting : {B F : Type 0} → Ops B → (ℕ → Option (Task (OpJob B F))) → Type 0
AreFitting {B} {F} ops tasks = (t : ℕ) (job : OpJob B F) → job_in (tasks t) ≡ Some job → FitsState ops job.state

module _ {D B : Type 0} (submits : D → D → Request B Parts → Result Op (SubmitError B) → Type 0)
    (polls : D → D → Op → ℕ → Result (PollOp B) (OutOfMemory × Op) → Type 0) (cancels : D → D → Op → Result Unit OutOfMemory → Type 0)
    (turns : D → D → Turned → Type 0) (ops : D → Ops B) where
  -- One more step beside it.
  one_more : (op : Op) (task : ℕ) (old new : D) → IsAwaited submits polls cancels turns ops op task old
      → IsBeside submits polls cancels turns ops op task old new → IsAwaited submits polls cancels turns ops op task new
  one_more op task old new awaited beside = record {
    before = awaited.before;
    behind = awaited.behind;
    pending = awaited.pending;
    mids = old ∷ awaited.mids;
    since = (awaited.since, beside);
  }

  -- A poll leaves the jobs that wait for other operations.
  pub polled_waits : (old new : D) (op : Op) (task : ℕ) (result : Result (PollOp B) (OutOfMemory × Op)) → polls old new op task result
      → TokensFor (ops old) (ops new) op result → (ops new).given ≡ (ops old).given
      → KeepsWaiting submits polls cancels turns ops old new (Waiting op)
  polled_waits old new op task result does tokens given (Unsent request) s fits apart waits = waits
  polled_waits old new op task result does tokens given (Waiting other) s fits apart waits = one_more other s old new waits (record {
    held = fits;
    holds = polled_others (ops old) (ops new) op result tokens given (Waiting other) fits apart;
    step = inr (inl (record { other = op; task = task; result = result; apart = apart; does = does }));
  })

  -- So does a cancel,
  pub canceled_waits : (old new : D) (op : Op) (result : Result Unit OutOfMemory) → cancels old new op result
      → KeepsTokens (ops old) (ops new) → (ops new).given ≡ (ops old).given
      → KeepsWaiting submits polls cancels turns ops old new (Waiting op)
  canceled_waits old new op result does tokens given (Unsent request) s fits apart waits = waits
  canceled_waits old new op result does tokens given (Waiting other) s fits apart waits = one_more other s old new waits (record {
    held = fits;
    holds = kept_fits (ops old) (ops new) tokens given (Waiting other) fits;
    step = inr (inr (inl (record { other = op; result = result; apart = apart; does = does })));
  })

  -- and a submission.
  pub submitted_waits : (old new : D) (request : Request B Parts) (result : Result Op (SubmitError B)) → submits old new request result
      → (other : State B) (s : ℕ) → FitsState (ops old) other → FitsState (ops new) other
      → WaitsState submits polls cancels turns ops old s other → WaitsState submits polls cancels turns ops new s other
  submitted_waits old new request result does (Unsent asked) s held holds waits = waits
  submitted_waits old new request result does (Waiting other) s held holds waits = one_more other s old new waits (record {
    held = held;
    holds = holds;
    step = inl (record { request = request; result = result; does = does });
  })

  -- A job that is pending waits for its operation.
  pending_state : (new : D) (task : ℕ) (state : State B) → PendsState polls new task state
      → WaitsState submits polls cancels turns ops new task state
  pending_state new task (Unsent request) pends = pends
  pending_state new task (Waiting op) pends = record {
    before = pends.0;
    behind = new;
    pending = pends.1;
    mids = [];
    since = refl;
  }

  pub pending_waits : {F O : Type 0} (new : D) (task : ℕ) (result : JobStep (OpJob B F) O) → PendsJob polls new task result
      → IfPending result (WaitsOps submits polls cancels turns ops new task)
  pending_waits new task (step.Done end) pends = tt
  pending_waits new task (step.Pending job) pends = pending_state new task job.state pends
  pending_waits new task (step.OutOfMemory job) pends = tt

  -- A turn of the driver leaves the jobs of tasks that it doesn't name.
  turned_state : (old new : D) (turned : Turned) (task : ℕ) (state : State B) → turns old new turned → has_number task turned.woken ≡ false
      → FitsState (ops old) state → FitsState (ops new) state
      → WaitsState submits polls cancels turns ops old task state → WaitsState submits polls cancels turns ops new task state
  turned_state old new turned task (Unsent request) does unnamed held holds waits = waits
  turned_state old new turned task (Waiting op) does unnamed held holds waits = one_more op task old new waits (record {
    held = held;
    holds = holds;
    step = inr (inr (inr (record { turned = turned; does = does; unnamed = unnamed })));
  })

  -- So each task that isn't ready then waits, where those are ready that the turn names.
  pub turned_waits : {F : Type 0} (now : ℕ) (named : List ℕ) (old new : D) (turned : Turned) (was is : ℕ → Option (Task (OpJob B F)))
      → turns old new turned → is ≡ was → ((t : ℕ) → has_number t named ≡ false → has_number t turned.woken ≡ false)
      → AreFitting (ops old) was → KeepsTokens (ops old) (ops new) → (ops new).given ≡ (ops old).given
      → AreWaiting (WaitsOps submits polls cancels turns ops) old was
      → AreWaiting (WaitsOps submits polls cancels turns ops) new (ready_tasks now named is)
  turned_waits now named old new turned was is does same names fitting tokens given waiting =
      subst (λ tasks. AreWaiting (WaitsOps submits polls cancels turns ops) new (ready_tasks now named tasks)) (sym same)
      (λ t job unmarked own.
      let kept = unmarked_unnamed now named was t job unmarked own in
      let fits : FitsState (ops old) job.state = fitting t job kept.1.0 in
      turned_state old new turned t job.state does (names t kept.1.1) fits
      (kept_fits (ops old) (ops new) tokens given job.state fits) (waiting t job kept.0 kept.1.0))
