-- What the answers to events do to a session, and what they say.
use Rattle.std.specs.Prelude.{ℕ, ◌≡◌, ◌<◌, ◌+◌, ◌⊎◌, Bool, true, false, List, [], ◌∷◌, ◌++◌, length, Option, Some, None, Result, Ok, Err, slice_get}
use Rattle.rent_buf.specs.Buf.{built}
use Rattle.rent_buf.specs.Buffer.{Buffer}
use Rattle.rent_buf.specs.Parts.{Parts}
use Rattle.rent_buf.specs.declared.plain.Buf.{Buf}
use Rattle.handle_core.specs.declared.table.Released.{Released as Outcome}
use Rattle.machine.specs.Ledger.{Ledger}
use Rattle.machine.specs.Lists.{amended}
use Rattle.machine.specs.Request.{held_of, named, plain_request}
use Rattle.machine.specs.declared.ledger.Event.{Event}
use Rattle.machine.specs.declared.ledger.Event.TheVariants.{Give, Close, Submit, Poll, Drop, Cancel, NewCanceller, NewHandle, CancelAll, Turn}
use Rattle.machine.specs.declared.ledger.Event.TheVariants.{Feed, FeedMessage, End, Look, Exec}
use Rattle.machine.specs.declared.ledger.Refusal.{Refusal}
use Rattle.machine.specs.declared.ledger.Refusal.TheVariants.{NoOp, NoCanceller, NoHandle, Full as IsFull}
use Rattle.machine.specs.declared.ledger.Reply.TheVariants.{Handle, Released, Submitted as Given, CanceledAtOnce, Pending as Waits, Handed}
use Rattle.machine.specs.declared.ledger.Reply.TheVariants.{Dropped, Asked, Canceller, CancelHandle, Cancels, Turned as Turns, Refused}
use Rattle.machine.specs.declared.request.Request.{Request}
use Rattle.ring_core.specs.declared.ring.EnterError.TheVariants.{Fault, Busy as WasBusy}
use Rattle.driver_core.specs.Answers.{HandleFor}
use Rattle.driver_core.specs.Tokens.{token_at, by_number, cancellers_in, handles_in, KeepsGroups}
use Rattle.driver_core.specs.declared.op.Op.{Op}
use Rattle.driver_core.specs.declared.op.PollOp.{PollOp}
use Rattle.driver_core.specs.declared.op.PollOp.TheVariants.{Pending, Ready}
use Rattle.driver_core.specs.declared.op.Stop.{Stop}
use Rattle.driver_core.specs.declared.op.Stop.TheVariants.{RingFault as Failed, Busy as IsBusy, BadCompletion as IsBad}
use Rattle.driver_core.specs.declared.op.Stop.TheVariants.{Os as Refusing, OutOfMemory as Short}
use Rattle.driver_core.specs.declared.op.SubmitError.{SubmitError}
use Rattle.driver_core.specs.declared.op.SubmitFault.{SubmitFault}
use Rattle.driver_core.specs.declared.op.SubmitFault.TheVariants.{Full, RingFault as RingFailed, Busy as RingBusy, Os, OutOfMemory}
use Rattle.driver_core.specs.declared.op.Submitted.{Submitted}
use Rattle.driver_core.specs.declared.op.Submitted.TheVariants.{Op as New, Canceled}
use Rattle.driver_core.specs.declared.op.Turned.{Turned}
use Rattle.driver_core.specs.declared.tokens.Tokens.{Tokens}
use Rattle.uring_driver.specs.Op.{Holds, number_of}
use Rattle.uring_driver.specs.Uring.{holds_all, holds_handle, group_count}
use Rattle.fault_run.specs.declared.answer.Answer.{Answer}
use Rattle.fault_run.specs.declared.answer.Answer.TheVariants.{Plain, Kept, Stopped}
use Rattle.fault_run.specs.declared.answer.Halt.TheVariants.{RingFault, Busy, BadCompletion}
use Rattle.fault_run.specs.declared.session.FaultSession.{FaultSession}
use Rattle.fault_run.specs.Calls.{Engine, AdoptCall, CloseCall, SubmitCall, PollCall, DropCall, CancelCall, CancellerCall, CancelAllCall}
use Rattle.fault_run.specs.Calls.{TurnCall, EngineStands}

-- The driver of a session.
abbrev pub driver_in : FaultSession → Engine
driver_in session = session.driver

-- The tokens of a session.
abbrev pub tokens_in : FaultSession → Tokens
tokens_in session = session.tokens

-- How many handles were given to a session's user.
abbrev pub given_handles : FaultSession → ℕ
given_handles session = session.handles

-- An event was refused by this name, and changed nothing.
pub record Refuses (old : FaultSession) (refusal : Refusal) (answer : Answer) (new : FaultSession) : Type 0 where
  pub answer_is : answer ≡ Plain (Refused refusal)
  pub same : new ≡ old

-- The session's tokens and handles stay: only its driver may have changed.
pub record KeepsRest (old new : FaultSession) : Type 0 where
  pub ops : by_number (tokens_in new) ≡ by_number (tokens_in old)
  pub groups : KeepsGroups (tokens_in old) (tokens_in new)
  pub handles : given_handles new ≡ given_handles old

-- The user got the next handle.
pub record Gives (old : FaultSession) (answer : Answer) (new : FaultSession) : Type 0 where
  pub answer_is : answer ≡ Plain (Handle (given_handles old))
  pub next : given_handles new ≡ given_handles old + 1
  pub tokens : tokens_in new ≡ tokens_in old
  pub call : AdoptCall (driver_in old) (given_handles old) (driver_in new)

-- The user gave a handle up.
pub record GivesUp (old : FaultSession) (h : ℕ) (answer : Answer) (new : FaultSession) : Type 0 where
  pub answer_is : answer ≡ Plain Released
  pub released : Outcome
  pub call : CloseCall (driver_in old) h (driver_in new) released
  pub rest : KeepsRest old new

-- By whether the user holds the handle.
abbrev pub ClosesIf : Bool → FaultSession → ℕ → Answer → FaultSession → Type 0
ClosesIf false old h answer new = Refuses old NoHandle answer new
ClosesIf true old h answer new = GivesUp old h answer new

-- The token of this operation is kept under a number, and the driver holds it.
pub record HasOp (session : FaultSession) (n : ℕ) (op : Op) : Type 0 where
  pub there : token_at (by_number (tokens_in session)) n ≡ Some op
  pub held : Holds (driver_in session) op

-- The driver holds no token that is kept under a number: the event is refused.
pub record RefusesNoOp (old : FaultSession) (n : ℕ) (answer : Answer) (new : FaultSession) : Type 0 where
  pub none : (op : Op) → HasOp old n op → ⊥
  pub refuses : Refuses old NoOp answer new

-- What a poll answers.
abbrev pub poll_answer : PollOp Buf → Answer
poll_answer (Pending back) = Plain Waits
poll_answer (Ready done) = Plain (Handed done.outcome (held_of (plain_request built done.request)))

-- The tokens behind a poll: that of an operation that was returned is gone.
abbrev pub polled_tokens : List (Option Op) → ℕ → PollOp Buf → List (Option Op)
polled_tokens tokens n (Pending back) = tokens
polled_tokens tokens n (Ready done) = amended tokens n (λ token. None)

-- An operation was polled.
pub record Polls (old : FaultSession) (n task : ℕ) (answer : Answer) (new : FaultSession) : Type 0 where
  pub op : Op
  pub there : HasOp old n op
  pub result : PollOp Buf
  pub call : PollCall (driver_in old) op task (driver_in new) result
  pub answer_is : answer ≡ poll_answer result
  pub ops : by_number (tokens_in new) ≡ polled_tokens (by_number (tokens_in old)) n result
  pub groups : KeepsGroups (tokens_in old) (tokens_in new)
  pub handles : given_handles new ≡ given_handles old

-- An operation was dropped: its token is gone.
pub record Drops (old : FaultSession) (n : ℕ) (answer : Answer) (new : FaultSession) : Type 0 where
  pub op : Op
  pub there : HasOp old n op
  pub call : DropCall (driver_in old) op (driver_in new)
  pub answer_is : answer ≡ Plain Dropped
  pub ops : by_number (tokens_in new) ≡ amended (by_number (tokens_in old)) n (λ token. None)
  pub groups : KeepsGroups (tokens_in old) (tokens_in new)
  pub handles : given_handles new ≡ given_handles old

-- The cancel of an operation was asked for.
pub record Asks (old : FaultSession) (n : ℕ) (answer : Answer) (new : FaultSession) : Type 0 where
  pub op : Op
  pub there : HasOp old n op
  pub call : CancelCall (driver_in old) op (driver_in new)
  pub answer_is : answer ≡ Plain Asked
  pub rest : KeepsRest old new

-- The canceller of a number has this group, which the driver made.
pub record HasGroup (session : FaultSession) (c group : ℕ) : Type 0 where
  pub there : token_at (cancellers_in (tokens_in session)) c ≡ Some group
  pub made : group < group_count (driver_in session)

-- There is no such canceller: the event is refused.
pub record RefusesNoGroup (old : FaultSession) (c : ℕ) (answer : Answer) (new : FaultSession) : Type 0 where
  pub none : (group : ℕ) → HasGroup old c group → ⊥
  pub refuses : Refuses old NoCanceller answer new

-- A canceller was made, of the next number.
pub record MakesCanceller (old : FaultSession) (answer : Answer) (new : FaultSession) : Type 0 where
  pub group : ℕ
  pub call : CancellerCall (driver_in old) group (driver_in new)
  pub answer_is : answer ≡ Plain (Canceller (length (cancellers_in (tokens_in old))))
  pub cancellers : cancellers_in (tokens_in new) ≡ cancellers_in (tokens_in old) ++ Some group ∷ []
  pub cancel_handles : handles_in (tokens_in new) ≡ handles_in (tokens_in old)
  pub ops : by_number (tokens_in new) ≡ by_number (tokens_in old)
  pub handles : given_handles new ≡ given_handles old

-- A cancel handle of a canceller's group was made, of the next number.
pub record MakesHandle (old : FaultSession) (c : ℕ) (answer : Answer) (new : FaultSession) : Type 0 where
  pub group : ℕ
  pub there : HasGroup old c group
  pub answers : (L : Ledger) → EngineStands (driver_in old) L → HandleFor EngineStands L group (driver_in old)
  pub answer_is : answer ≡ Plain (CancelHandle (length (handles_in (tokens_in old))))
  pub cancel_handles : handles_in (tokens_in new) ≡ handles_in (tokens_in old) ++ group ∷ []
  pub cancellers : cancellers_in (tokens_in new) ≡ cancellers_in (tokens_in old)
  pub ops : by_number (tokens_in new) ≡ by_number (tokens_in old)
  pub handles : given_handles new ≡ given_handles old
  pub driver : driver_in new ≡ driver_in old

-- A canceller's group was canceled, and the canceller has a fresh one.
pub record CancelsGroup (old : FaultSession) (c : ℕ) (answer : Answer) (new : FaultSession) : Type 0 where
  pub group : ℕ
  pub there : HasGroup old c group
  pub fresh : ℕ
  pub numbers : List ℕ
  pub call : CancelAllCall (driver_in old) group (driver_in new) fresh numbers
  pub answer_is : answer ≡ Plain (Cancels numbers)
  pub cancellers : cancellers_in (tokens_in new) ≡ amended (cancellers_in (tokens_in old)) c (λ canceller. Some fresh)
  pub cancel_handles : handles_in (tokens_in new) ≡ handles_in (tokens_in old)
  pub ops : by_number (tokens_in new) ≡ by_number (tokens_in old)
  pub handles : given_handles new ≡ given_handles old

-- The group that a request is submitted under: that of the cancel handle of a number, which the driver made, or none.
abbrev pub IsGroupOf : FaultSession → Option ℕ → Option ℕ → Type 0
IsGroupOf session None group = group ≡ None
IsGroupOf session (Some n) None = ⊥
IsGroupOf session (Some n) (Some group) = (slice_get (handles_in (tokens_in session)) n ≡ Some group) × (group < group_count (driver_in session))

-- There is no such cancel handle: the event is refused.
pub record RefusesNoHandleOf (old : FaultSession) (under : Option ℕ) (answer : Answer) (new : FaultSession) : Type 0 where
  pub none : (group : Option ℕ) → IsGroupOf old under group → ⊥
  pub refuses : Refuses old NoCanceller answer new

-- The user doesn't hold a handle that the request names: the event is refused.
pub record RefusesNamed (old : FaultSession) (request : Request Buffer Parts) (answer : Answer) (new : FaultSession) : Type 0 where
  pub unheld : holds_all (driver_in old) (named request) ≡ false
  pub refuses : Refuses old NoHandle answer new

-- What a submission that the driver refused answers; nothing where memory ran out. Os comes of no ring.
abbrev pub refused_answer : SubmitFault → Option Answer
refused_answer Full = Some (Plain (Refused IsFull))
refused_answer RingFailed = Some (Kept Fault)
refused_answer RingBusy = Some (Kept WasBusy)
refused_answer (Os code) = None
refused_answer OutOfMemory = None

-- What a submission answers.
abbrev pub submit_answer : Result (Submitted Buf) (SubmitError Buf) → Option Answer
submit_answer (Ok (New op)) = Some (Plain (Given (number_of op)))
submit_answer (Ok (Canceled back)) = Some (Plain (CanceledAtOnce (held_of (plain_request built back))))
submit_answer (Err refused) = refused_answer refused.why

-- The tokens behind a submission: that of a new operation stands at their end.
abbrev pub submitted_tokens : List (Option Op) → Result (Submitted Buf) (SubmitError Buf) → List (Option Op)
submitted_tokens tokens (Ok (New op)) = tokens ++ Some op ∷ []
submitted_tokens tokens (Ok (Canceled back)) = tokens
submitted_tokens tokens (Err refused) = tokens

-- A request, with its buffer or its parts, was submitted under a group or none.
pub record SubmitsOwn (old : FaultSession) (own : Request Buf Parts) (group : Option ℕ) (answer : Answer) (new : FaultSession)
    : Type 0 where
  pub result : Result (Submitted Buf) (SubmitError Buf)
  pub call : SubmitCall (driver_in old) own group (driver_in new) result
  pub answer_is : submit_answer result ≡ Some answer
  pub ops : by_number (tokens_in new) ≡ submitted_tokens (by_number (tokens_in old)) result
  pub groups : KeepsGroups (tokens_in old) (tokens_in new)
  pub handles : given_handles new ≡ given_handles old

-- The request of an event was submitted, whose handles the user holds, once its buffer or its parts were built.
pub record Submits (old : FaultSession) (request : Request Buffer Parts) (group : Option ℕ) (answer : Answer) (new : FaultSession)
    : Type 0 where
  pub held : holds_all (driver_in old) (named request) ≡ true
  pub own : Request Buf Parts
  pub own_is : plain_request built own ≡ request
  pub submits : SubmitsOwn old own group answer new

-- A submission under a group or none: it was refused by a handle that it names, or the request was submitted.
abbrev pub StepsUnder : FaultSession → Request Buffer Parts → Option ℕ → Answer → FaultSession → Type 0
StepsUnder old request group answer new = RefusesNamed old request answer new ⊎ Submits old request group answer new

-- A submission's event: it was refused by its cancel handle, or is a submission under the group of that, or under none.
abbrev pub StepsSubmit : FaultSession → Request Buffer Parts → Option ℕ → Answer → FaultSession → Type 0
StepsSubmit old request under answer new =
    RefusesNoHandleOf old under answer new
    ⊎ ((group : Option ℕ) × IsGroupOf old under group × StepsUnder old request group answer new)

-- What a turn answers, by why it stopped; nothing where memory ran out. Os comes of no ring.
abbrev pub stopped_answer : Turned → Option Stop → Option Answer
stopped_answer turned None = Some (Plain (Turns turned.reaped turned.closed turned.woken))
stopped_answer turned (Some Failed) = Some (Stopped (Turns turned.reaped turned.closed turned.woken) RingFault)
stopped_answer turned (Some IsBusy) = Some (Stopped (Turns turned.reaped turned.closed turned.woken) Busy)
stopped_answer turned (Some (IsBad word)) = Some (Stopped (Turns turned.reaped turned.closed turned.woken) (BadCompletion word))
stopped_answer turned (Some (Refusing code)) = None
stopped_answer turned (Some Short) = None

-- A turn was made.
pub record MakesTurn (old : FaultSession) (answer : Answer) (new : FaultSession) : Type 0 where
  pub turned : Turned
  pub call : TurnCall (driver_in old) (driver_in new) turned
  pub answer_is : stopped_answer turned turned.stop ≡ Some answer
  pub rest : KeepsRest old new

-- An event was answered so.
abbrev pub StepsEvent : FaultSession → Event → Answer → FaultSession → Type 0
StepsEvent old (Give kind) answer new = Gives old answer new
StepsEvent old (Close h) answer new = ClosesIf (holds_handle (driver_in old) h) old h answer new
StepsEvent old (Submit request under linked) answer new = StepsSubmit old request under answer new
StepsEvent old (Poll n task) answer new = RefusesNoOp old n answer new ⊎ Polls old n task answer new
StepsEvent old (Drop n) answer new = RefusesNoOp old n answer new ⊎ Drops old n answer new
StepsEvent old (Cancel n) answer new = RefusesNoOp old n answer new ⊎ Asks old n answer new
StepsEvent old NewCanceller answer new = MakesCanceller old answer new
StepsEvent old (NewHandle c) answer new = RefusesNoGroup old c answer new ⊎ MakesHandle old c answer new
StepsEvent old (CancelAll c) answer new = RefusesNoGroup old c answer new ⊎ CancelsGroup old c answer new
StepsEvent old Turn answer new = MakesTurn old answer new
StepsEvent old (Feed h bytes) answer new = ⊥
StepsEvent old (FeedMessage h address bytes) answer new = ⊥
StepsEvent old (End h) answer new = ⊥
StepsEvent old (Look h) answer new = ⊥
StepsEvent old (Exec place told) answer new = ⊥
