-- A job that accepts or serves, and the driver that has its operations. Cited by `NetJob`.
use Rattle.std.specs.Prelude.{ℕ, ◌≡◌, ◌≢◌, ◌⊎◌, List, [], ◌∷◌, ◌++◌, Option, None, Some, Result, Ok, Err}
use Rattle.std.proofs.Common.{sym}
use Rattle.rent_buf.specs.Rent.{Rented}
use Rattle.core_exec.specs.declared.job.JobStep.{JobStep}
use Rattle.core_exec.specs.declared.job.JobStep.TheVariants.{Done, Pending, OutOfMemory}
use Rattle.driver_core.specs.declared.op.Op.{Op}
use Rattle.driver_core.specs.Ops.{Ops}
use Rattle.driver_core.specs.Requests.{request_at}
use Rattle.net_stream.specs.Connection.{AreDifferent, FitsConnection}
use Rattle.net_stream.specs.Drives.{HoldsOp, IsOther}
use Rattle.net_stream.specs.Listener.{FitsListener}
use Rattle.net_server.specs.declared.net_driver.NetDriver.{NetDriver}
use Rattle.net_stream.specs.declared.listener.Accepted.{Accepted as AcceptAnswer}
use Rattle.net_stream.specs.declared.listener.Accepted.TheVariants as accept
use Rattle.driver_core.specs.declared.op.SubmitFault.{SubmitFault}
use Rattle.driver_core.specs.declared.op.SubmitFault.TheVariants as fault
use Rattle.net_server.specs.declared.fault.NetFault.TheVariants.{Io, Refused}
use Rattle.net_server.specs.declared.net_job.AcceptStep.{AcceptStep}
use Rattle.net_server.specs.declared.net_job.AcceptStep.TheVariants as step
use Rattle.net_server.specs.declared.net_job.NetEnd.{NetEnd}
use Rattle.net_server.specs.declared.net_job.NetEnd.TheVariants.{Accepted, NotAccepted}
use Rattle.net_server.specs.declared.net_job.NetJob.{NetJob}
use Rattle.net_server.specs.declared.net_job.State.{State}
use Rattle.net_server.specs.declared.net_job.State.TheVariants.{Accepting, Serving}
use Rattle.net_server.specs.declared.serving.Pass.{Pass}
use Rattle.net_server.specs.declared.serving.Pass.TheVariants.{Moved, Waits, Over}
use Rattle.net_server.specs.declared.serving.Pass.TheVariants as pass

-- The operations that a job waits for: an accept or a receive, and a send.
abbrev pub first_op : {S : Type 0} → State S → Option Op
first_op (Accepting listener) = listener.op
first_op (Serving serving) = serving.value.conn.incoming.op

abbrev pub second_op : {S : Type 0} → State S → Option Op
second_op (Accepting listener) = None
second_op (Serving serving) = serving.value.conn.outgoing.op

-- The driver has the operations that a job waits for.
abbrev pub FitsWaits : {S : Type 0} → Ops Rented → State S → Type 0
FitsWaits ops (Accepting listener) = FitsListener ops listener
FitsWaits ops (Serving serving) = FitsConnection ops serving.value.conn

-- Two jobs wait for no operation together.
pub record WaitApart {S : Type 0} (one other : State S) : Type 0 where
  pub both_first : AreDifferent (first_op one) (first_op other)
  pub first_second : AreDifferent (first_op one) (second_op other)
  pub second_first : AreDifferent (second_op one) (first_op other)
  pub both_second : AreDifferent (second_op one) (second_op other)

-- A job waits for no operation.
abbrev pub NothingWaits : {S : Type 0} → State S → Type 0
NothingWaits state = (first_op state ≡ None) × (second_op state ≡ None)

-- The state of the connection that a job serves, if it serves one.
abbrev pub state_in : {S : Type 0} → State S → Option S
state_in (Accepting listener) = None
state_in (Serving serving) = Some serving.value.state

-- Behind a call that a job comes back from: the driver has the operations that it waits for now, and each other operation that it had, with
-- its request, and the job waits for none of these.
pub record StateLeaves {S : Type 0} (old : Ops Rented) (before : State S) (new : Ops Rented) (now : State S) : Type 0 where
  pub fits : FitsWaits new now
  pub others : (other : Op) → HoldsOp old other → IsOther (first_op before) other → IsOther (second_op before) other →
      HoldsOp new other × (request_at new other ≡ request_at old other) × IsOther (first_op now) other × IsOther (second_op now) other

-- Behind the last call of a job: the driver has each operation that it had and that the job didn't wait for, with its request.
pub record EndLeaves {S : Type 0} (old : Ops Rented) (before : State S) (new : Ops Rented) : Type 0 where
  pub others : (other : Op) → HoldsOp old other → IsOther (first_op before) other → IsOther (second_op before) other →
      HoldsOp new other × (request_at new other ≡ request_at old other)

-- What a poll leaves, by what it answers.
abbrev pub StepLeaves : {S : Type 0} → Ops Rented → State S → Ops Rented → JobStep (State S) (NetEnd S) → Type 0
StepLeaves old before new (Done end) = EndLeaves old before new
StepLeaves old before new (Pending now) = StateLeaves old before new now
StepLeaves old before new (OutOfMemory now) = StateLeaves old before new now

-- What a job does behind what its accept answered: it waits, memory ran out, or it is done, with the handle that was made, or with the
-- fault.
abbrev pub ComesTo : {S : Type 0} → Result AcceptAnswer SubmitFault → AcceptStep S → Type 0
ComesTo (Ok accept.Waits) now = now ≡ step.Waits
ComesTo (Ok (accept.Made fd)) now = now ≡ step.Over (Accepted fd)
ComesTo (Ok (accept.Failed fault)) now = now ≡ step.Over (NotAccepted (Io fault))
ComesTo (Err fault.OutOfMemory) now = now ≡ step.OutOfMemory
ComesTo (Err why) now = now ≡ step.Over (NotAccepted (Refused why))

-- A job is done.
abbrev pub IsEnded : {J O : Type 0} → JobStep J O → Type 0
IsEnded (Done end) = Unit {0}
IsEnded (Pending now) = ⊥
IsEnded (OutOfMemory now) = ⊥

-- What follows passes: where the last moved nothing the job waits; where it moved something the next turn names its task too, or memory ran
-- out, and then the job is ready still; and a connection that is over ends. Tasks that were to be named stay so.
abbrev pub Follows : {S : Type 0} → Pass → ℕ → List ℕ → List ℕ → JobStep (State S) (NetEnd S) → Type 0
Follows Waits task old new (Pending now) = new ≡ old
Follows Moved task old new (Pending now) = new ≡ old ++ task ∷ []
Follows Moved task old new (OutOfMemory now) = new ≡ old
Follows pass.OutOfMemory task old new (OutOfMemory now) = new ≡ old
Follows (Over fault) task old new (Done end) = new ≡ old
Follows _ task old new _ = ⊥

-- The tasks that the next turn is to name are as they were, or the job's own joined them.
abbrev pub NamesOwn : ℕ → List ℕ → List ℕ → Type 0
NamesOwn task old new = (new ≡ old) ⊎ (new ≡ old ++ task ∷ [])

-- How often a job was polled, and how often its cancel was asked for.
abbrev pub polls_of : {S : Type 0} → NetJob S → ℕ
polls_of job = job.polls

abbrev pub cancels_of : {S : Type 0} → NetJob S → ℕ
cancels_of job = job.cancels

-- A job fits a driver whose operations are these, as the task of each number.
abbrev pub FitsJob : {D S : Type 0} → (D → Ops Rented) → NetDriver D → ℕ → NetJob S → Type 0
FitsJob ops driver task job = FitsWaits (ops driver.driver) job.state

-- The cancel of a job was asked for: its deadline came.
abbrev pub IsLate : {S : Type 0} → NetJob S → Type 0
IsLate job = job.cancels ≢ 0

abbrev pub ApartJobs : {S : Type 0} → NetJob S → NetJob S → Type 0
ApartJobs one other = WaitApart one.state other.state

abbrev pub WaitsForNone : {S : Type 0} → NetJob S → Type 0
WaitsForNone job = NothingWaits job.state

-- Nothing is said of an output.
abbrev pub no_aim : {S : Type 0} → NetJob S → List ℕ
no_aim job = []

abbrev pub AnyOutput : {S : Type 0} → List ℕ → NetEnd S → Type 0
AnyOutput aim end = Unit {0}

-- Laws of the trait need these here: operations are apart from either side, and where there is none it is apart from each.
pub ops_swap : (one other : Option Op) → AreDifferent one other → AreDifferent other one
ops_swap None None apart = tt
ops_swap None (Some op) apart = tt
ops_swap (Some op) None apart = tt
ops_swap (Some op) (Some other) apart = λ same. apart (sym same)

pub none_apart : (one other : Option Op) → one ≡ None → AreDifferent one other
none_apart None other none = tt
none_apart (Some op) other none = absurd cc

pub waits_swap : {S : Type 0} (one other : State S) → WaitApart one other → WaitApart other one
waits_swap one other apart = record {
  both_first = ops_swap (first_op one) (first_op other) apart.both_first;
  first_second = ops_swap (second_op one) (first_op other) apart.second_first;
  second_first = ops_swap (first_op one) (second_op other) apart.first_second;
  both_second = ops_swap (second_op one) (second_op other) apart.both_second;
}

pub idle_waits : {S : Type 0} (one other : State S) → NothingWaits one → WaitApart one other
idle_waits one other idle = record {
  both_first = none_apart (first_op one) (first_op other) idle.0;
  first_second = none_apart (first_op one) (second_op other) idle.0;
  second_first = none_apart (second_op one) (first_op other) idle.1;
  both_second = none_apart (second_op one) (second_op other) idle.1;
}
