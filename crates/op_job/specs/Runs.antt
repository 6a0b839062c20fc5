-- What a poll of a job does: what it waits for is polled; its follower is told how that ended, and says what comes, which is polled so
-- too. Cited by `OpJob` and `Follow`.
use Rattle.std.specs.Prelude.{ℕ, ◌≡◌, ◌≢◌, ◌≤◌, ◌<◌, ◌+◌, ◌⊎◌, Bool, true, false, not, ◌==◌, List, [], ◌∷◌, length, Result, Ok, Err}
use Rattle.rent_buf.specs.Parts.{Parts}
use Rattle.rent_buf.specs.declared.fault.OutOfMemory.{OutOfMemory as NoMemory}
use Rattle.machine.specs.Request.{named}
use Rattle.machine.specs.declared.request.Request.{Request}
use Rattle.core_exec.specs.declared.job.JobStep.{JobStep}
use Rattle.core_exec.specs.declared.job.JobStep.TheVariants as step
use Rattle.driver_core.specs.declared.operations.TheConstants.{MOST_GIVEN}
use Rattle.driver_core.specs.declared.op.Op.{Op}
use Rattle.driver_core.specs.declared.op.PollOp.{PollOp}
use Rattle.driver_core.specs.declared.op.PollOp.TheVariants as polled
use Rattle.driver_core.specs.declared.op.SubmitError.{SubmitError}
use Rattle.driver_core.specs.declared.op.SubmitFault.TheVariants as fault
use Rattle.driver_core.specs.Ops.{Ops}
use Rattle.op_job.specs.declared.op_job.TheConstants.{MOST_ENDS}
use Rattle.op_job.specs.declared.follow.Next.{Next}
use Rattle.op_job.specs.declared.follow.Next.TheVariants as next
use Rattle.op_job.specs.declared.follow.Once.{Once}
use Rattle.op_job.specs.declared.follow.OpEnd.{OpEnd}
use Rattle.op_job.specs.declared.follow.OpEnd.TheVariants.{Done, Refused, NotHeld, Withdrawn}
use Rattle.op_job.specs.declared.op_job.JobEnd.{JobEnd}
use Rattle.op_job.specs.declared.op_job.JobEnd.TheVariants.{Ended, Paused}
use Rattle.op_job.specs.declared.op_job.OpJob.{OpJob}
use Rattle.op_job.specs.declared.op_job.State.{State}
use Rattle.op_job.specs.declared.op_job.State.TheVariants.{Unsent, Waiting}

-- Nothing comes behind an end, with which the job is done.
abbrev pub EndsOnce : {B : Type 0} → Once → Once → OpEnd B → Next B (OpEnd B) → Type 0
EndsOnce old new end coming = coming ≡ next.End end

-- Nothing is known of what a follower says.
abbrev pub SaysAny : {F B O : Type 0} → F → F → OpEnd B → Next B O → Type 0
SaysAny old new end coming = Unit {0}

-- An operation is polled: it ended, or is waited for still.
module _ {D B : Type 0} (polls : D → D → Op → ℕ → Result (PollOp B) (NoMemory × Op) → Type 0) (task : ℕ) (old new : D) (op : Op) where
  abbrev pub PollsAs : JobStep (State B) (OpEnd B) → Type 0
  PollsAs (step.Done (Done done)) = polls old new op task (Ok (polled.Ready done))
  PollsAs (step.Done (Refused refused)) = ⊥
  PollsAs (step.Done (NotHeld request)) = ⊥
  PollsAs (step.Done (Withdrawn request)) = ⊥
  PollsAs (step.Pending state) = (state ≡ Waiting op) × polls old new op task (Ok (polled.Pending op))
  PollsAs (step.OutOfMemory state) = (state ≡ Waiting op) × ((why : NoMemory) × polls old new op task (Err (why, op)))

-- The driver's calls, for the task of a job: what a submission and a poll do, which handles the user holds, and its operations.
module _ {D B : Type 0} (submits : D → D → Request B Parts → Result Op (SubmitError B) → Type 0)
    (polls : D → D → Op → ℕ → Result (PollOp B) (NoMemory × Op) → Type 0) (held : D → List ℕ → Bool) (ops : D → Ops B) (task : ℕ) where
  -- A request is submitted, and its operation polled.
  pub record Entered (old new : D) (request : Request B Parts) (result : JobStep (State B) (OpEnd B)) : Type 0 where
    pub mid : D
    pub op : Op
    pub submitted : submits old mid request (Ok op)
    pub polled : PollsAs polls task mid new op result

  -- Its submission was refused for want of memory, and it comes back.
  pub record IsWanting (old new : D) (request back : Request B Parts) : Type 0 where
    pub refused : SubmitError B
    pub does : submits old new request (Err refused)
    pub why : refused.why ≡ fault.OutOfMemory
    pub same : back ≡ request

  -- Its submission was refused, and not for want of memory.
  pub record IsRefused (old new : D) (request : Request B Parts) (refused : SubmitError B) : Type 0 where
    pub does : submits old new request (Err refused)
    pub why : refused.why ≢ fault.OutOfMemory

  -- It isn't submitted, and comes back: the user doesn't hold each handle that it names, or as many operations were submitted as may be.
  pub record IsNotHeld (old new : D) (request back : Request B Parts) : Type 0 where
    pub kept : new ≡ old
    pub same : back ≡ request
    pub why : (held old (named request) ≡ false) ⊎ (MOST_GIVEN ≤ (ops old).given)

  -- A request is to be submitted: it is, or comes back.
  abbrev pub SubmitsAs : D → D → Request B Parts → JobStep (State B) (OpEnd B) → Type 0
  SubmitsAs old new request (step.Done (Done done)) = Entered old new request (step.Done (Done done))
  SubmitsAs old new request (step.Done (Refused refused)) = IsRefused old new request refused
  SubmitsAs old new request (step.Done (NotHeld back)) = IsNotHeld old new request back
  SubmitsAs old new request (step.Done (Withdrawn back)) = ⊥
  SubmitsAs old new request (step.Pending state) = Entered old new request (step.Pending state)
  SubmitsAs old new request (step.OutOfMemory (Unsent back)) = IsWanting old new request back
  SubmitsAs old new request (step.OutOfMemory (Waiting op)) = Entered old new request (step.OutOfMemory (Waiting op))

  -- A job was canceled, or not. What it waits for is polled: once it was canceled, no request is submitted, but comes back.
  module _ (canceled : Bool) where
    abbrev pub UnlessCanceled : Bool → D → D → Request B Parts → JobStep (State B) (OpEnd B) → Type 0
    UnlessCanceled false old new request result = SubmitsAs old new request result
    UnlessCanceled true old new request result = (new ≡ old) × (result ≡ step.Done (Withdrawn request))

    abbrev pub StepsAs : D → D → State B → JobStep (State B) (OpEnd B) → Type 0
    StepsAs old new (Waiting op) result = PollsAs polls task old new op result
    StepsAs old new (Unsent request) result = UnlessCanceled canceled old new request result

    -- Its follower, by what it says behind an end.
    module _ {F O : Type 0} (follows : F → F → OpEnd B → Next B O → Type 0) where
      -- An operation ended, or a request wasn't submitted; the follower was told so, and said what comes.
      pub record IsTold (old : D) (was : F) (state : State B) (end : OpEnd B) (new : D) (now : F) (coming : Next B O) : Type 0 where
        pub ends : StepsAs old new state (step.Done end)
        pub says : follows was now end coming

      -- The last poll of a run, by what it answers.
      abbrev pub IsLast : D → F → State B → D → F → JobStep (State B) (Next B O) → Type 0
      IsLast old was state new now (step.Done coming) = (end : OpEnd B) × IsTold old was state end new now coming
      IsLast old was state new now (step.Pending back) = (now ≡ was) × StepsAs old new state (step.Pending back)
      IsLast old was state new now (step.OutOfMemory back) = (now ≡ was) × StepsAs old new state (step.OutOfMemory back)

      -- The follower was told an end, and said which request comes. The run went on so with that.
      pub record Goes (old : D) (was : F) (state : State B) (end : OpEnd B) (Rest : D → F → State B → Type 0) : Type 0 where
        pub mid : D
        pub follow : F
        pub request : Request B Parts
        pub told : IsTold old was state end mid follow (next.Op request)
        pub rest : Rest mid follow (Unsent request)

      -- A run: these ends, behind each of which it went on, and then the last poll.
      abbrev pub Runs : List (OpEnd B) → D → F → State B → D → F → JobStep (State B) (Next B O) → Type 0
      Runs [] old was state new now result = IsLast old was state new now result
      Runs (end ∷ ends) old was state new now result =
          Goes old was state end (λ mid follow at. Runs ends mid follow at new now result)

      -- It was told so many ends at most, and as many where it stopped before a request that comes.
      pub record RunsTo (most : ℕ) (old : D) (was : F) (state : State B) (new : D) (now : F) (result : JobStep (State B) (Next B O))
          : Type 0 where
        pub ends : List (OpEnd B)
        pub runs : Runs ends old was state new now result
        pub few : length ends < most
        pub stops : (request : Request B Parts) → result ≡ step.Done (next.Op request) → length ends + 1 ≡ most

  -- A poll of a job is such a run.
  module _ {F O : Type 0} (follows : F → F → OpEnd B → Next B O → Type 0) where
    abbrev pub RunsFrom : D → OpJob B F → D → F → JobStep (State B) (Next B O) → Type 0
    RunsFrom old job new now result = RunsTo (not (job.cancels == 0)) follows MOST_ENDS old job.follow job.state new now result

    abbrev pub RunsJob : D → OpJob B F → D → JobStep (OpJob B F) (JobEnd B F O) → Type 0
    RunsJob old job new (step.Done (Ended out)) = (now : F) × RunsFrom old job new now (step.Done (next.End out))
    RunsJob old job new (step.Done (Paused request now)) = RunsFrom old job new now (step.Done (next.Op request))
    RunsJob old job new (step.Pending back) = RunsFrom old job new back.follow (step.Pending back.state)
    RunsJob old job new (step.OutOfMemory back) = RunsFrom old job new back.follow (step.OutOfMemory back.state)
