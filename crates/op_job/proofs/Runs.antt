-- Runs of a poll, from their parts.
use Rattle.std.proofs.Common.{ℕ, ◌≤◌, ◌<◌, ◌-◌, arith, Bool, List, [], ◌∷◌}
use Rattle.std.specs.Prelude.{Result}
use Rattle.rent_buf.specs.Parts.{Parts}
use Rattle.rent_buf.specs.declared.fault.OutOfMemory.{OutOfMemory}
use Rattle.machine.specs.declared.request.Request.{Request}
use Rattle.core_exec.specs.declared.job.JobStep.{JobStep}
use Rattle.core_exec.specs.declared.job.JobStep.TheVariants as step
use Rattle.driver_core.specs.declared.op.Op.{Op}
use Rattle.driver_core.specs.declared.op.PollOp.{PollOp}
use Rattle.driver_core.specs.declared.op.SubmitError.{SubmitError}
use Rattle.driver_core.specs.Ops.{Ops}
use Rattle.op_job.specs.declared.follow.Next.{Next}
use Rattle.op_job.specs.declared.follow.Next.TheVariants as next
use Rattle.op_job.specs.declared.follow.OpEnd.{OpEnd}
use Rattle.op_job.specs.declared.op_job.State.{State}
use Rattle.op_job.specs.declared.op_job.State.TheVariants.{Unsent}
use Rattle.op_job.specs.Runs.{RunsTo, StepsAs}

module _ {D B F O : Type 0} (submits : D → D → Request B Parts → Result Op (SubmitError B) → Type 0)
    (polls : D → D → Op → ℕ → Result (PollOp B) (OutOfMemory × Op) → Type 0) (held : D → List ℕ → Bool) (ops : D → Ops B) (task : ℕ)
    (canceled : Bool) (follows : F → F → OpEnd B → Next B O → Type 0) (most : ℕ) (some : 0 < most) (old : D) (was : F) (state : State B)
    (end : OpEnd B) where
  -- Behind an end its follower said that the job is done.
  pub ended_run : (new : D) (now : F) (out : O) → StepsAs submits polls held ops task canceled old new state (step.Done end)
      → follows was now end (next.End out)
      → RunsTo submits polls held ops task canceled follows most old was state new now (step.Done (next.End out))
  ended_run new now out ends says = record {
    ends = [];
    runs = (end, record { ends = ends; says = says });
    few = some;
    stops = λ request same. cc;
  }

  -- It said that a request comes, but no more are submitted.
  pub stopped_run : (new : D) (now : F) (request : Request B Parts) → most ≤ 1
      → StepsAs submits polls held ops task canceled old new state (step.Done end) → follows was now end (next.Op request)
      → RunsTo submits polls held ops task canceled follows most old was state new now (step.Done (next.Op request))
  stopped_run new now request last ends says = record {
    ends = [];
    runs = (end, record { ends = ends; says = says });
    few = some;
    stops = λ other same. omega arith;
  }

  -- It went on with that.
  pub further_run : (mid : D) (follow : F) (request : Request B Parts) (new : D) (now : F) (result : JobStep (State B) (Next B O)) → 1 < most
      → StepsAs submits polls held ops task canceled old mid state (step.Done end) → follows was follow end (next.Op request)
      → RunsTo submits polls held ops task canceled follows (most - 1) mid follow (Unsent request) new now result
      → RunsTo submits polls held ops task canceled follows most old was state new now result
  further_run mid follow request new now result more ends says rest = record {
    ends = end ∷ rest.ends;
    runs = record { mid = mid; follow = follow; request = request; told = record { ends = ends; says = says }; rest = rest.runs };
    few = let few = rest.few in omega (arith, few);
    stops = λ other same. let left = rest.stops other same in omega (arith, left);
  }
