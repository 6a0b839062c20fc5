-- Worked runs of a readiness driver over handles in memory: a capacity of the machine, the events, and their replies.
use Rattle.std.specs.Prelude.{ℕ, ◌≡◌, false, List, [], ◌∷◌, Some, None}
use Rattle.rent_buf.specs.declared.held.Held.TheVariants.{One}
use Rattle.machine.specs.declared.world.HandleKind.TheVariants.{Stream}
use Rattle.machine.specs.declared.request.TheConstants.{CANCELED}
use Rattle.machine.specs.declared.request.Request.TheVariants.{Recv, Send}
use Rattle.machine.specs.declared.request.Outcome.{Outcome}
use Rattle.machine.specs.declared.ledger.Event.{Event}
use Rattle.machine.specs.declared.ledger.Event.TheVariants.{Give, Feed, End, Look, Close, Submit, Poll, Drop, Cancel}
use Rattle.machine.specs.declared.ledger.Event.TheVariants.{NewCanceller, NewHandle, CancelAll}
use Rattle.machine.specs.declared.ledger.Refusal.TheVariants.{NoOp, NoHandle}
use Rattle.machine.specs.declared.ledger.Reply.{Reply}
use Rattle.machine.specs.declared.ledger.Reply.TheVariants.{Handle, Fed, Ended, Released, Output, Submitted, Pending, Handed, Dropped}
use Rattle.machine.specs.declared.ledger.Reply.TheVariants.{Asked, CanceledAtOnce, Canceller, CancelHandle, Cancels, Refused}
use Rattle.machine.specs.Ledger.{empty}
use Rattle.machine.specs.Rows.{vector}
use Rattle.ready_driver.specs.Spelled.{spelled_replies}
use Rattle.ready_driver.specs.Legacy.{idle}
use Rattle.ready_driver.specs.LegacyStep.{legacy_replies}

-- The machine answers events so, as they are spelled, and so does the driver.
abbrev pub AnswersBoth : ℕ → List Event → List Reply → Type 0
AnswersBoth capacity events replies = (spelled_replies (empty capacity) events ≡ replies) × (legacy_replies idle events ≡ replies)

-- A read that waits is pending until bytes are there; a canceled one ends with the error of a cancel, and is gone.
abbrev pub OneWait : Type 0
OneWait =
    AnswersBoth 1 (
    Give Stream ∷
    Submit (Recv 0 (vector 4 0 4 [])) None false ∷
    Poll 0 7 ∷
    Feed 0 (97 ∷ 98 ∷ []) ∷
    Poll 0 7 ∷
    Submit (Recv 0 (vector 4 0 4 [])) None false ∷
    Poll 1 7 ∷
    Cancel 1 ∷
    Poll 1 7 ∷
    Poll 1 7 ∷ []) (
    Handle 0 ∷
    Submitted 0 ∷
    Pending ∷
    Fed ∷
    Handed (Outcome.Count 2) (One (vector 4 0 4 (97 ∷ 98 ∷ []))) ∷
    Submitted 1 ∷
    Pending ∷
    Asked ∷
    Handed (Outcome.Fail CANCELED) (One (vector 4 0 4 [])) ∷
    Refused NoOp ∷ [])

-- A call is made when its operation is polled, in the order of the polls; a cancel meets its own operation alone, whatever is there to
-- read.
abbrev pub OrderOfPolls : Type 0
OrderOfPolls =
    AnswersBoth 2 (
    Give Stream ∷
    Submit (Recv 0 (vector 2 0 2 [])) None false ∷
    Submit (Recv 0 (vector 2 0 2 [])) None false ∷
    Submit (Recv 0 (vector 2 0 2 [])) None false ∷
    Feed 0 (97 ∷ 98 ∷ 99 ∷ []) ∷
    Cancel 1 ∷
    Poll 2 1 ∷
    Poll 1 1 ∷
    Poll 0 1 ∷
    Submit (Recv 0 (vector 2 0 2 [])) None false ∷
    Poll 3 1 ∷
    End 0 ∷
    Poll 3 1 ∷ []) (
    Handle 0 ∷
    Submitted 0 ∷
    Submitted 1 ∷
    Submitted 2 ∷
    Fed ∷
    Asked ∷
    Handed (Outcome.Count 2) (One (vector 2 0 2 (97 ∷ 98 ∷ []))) ∷
    Handed (Outcome.Fail CANCELED) (One (vector 2 0 2 [])) ∷
    Handed (Outcome.Count 1) (One (vector 2 0 2 (99 ∷ []))) ∷
    Submitted 3 ∷
    Pending ∷
    Ended ∷
    Handed (Outcome.Count 0) (One (vector 2 0 2 [])) ∷ [])

-- What is dropped is gone at once, and a handle that its user closed is still its operations'.
abbrev pub DropAndClose : Type 0
DropAndClose =
    AnswersBoth 1 (
    Give Stream ∷
    Submit (Recv 0 (vector 2 0 2 [])) None false ∷
    Submit (Send 0 (vector 4 0 3 (49 ∷ 50 ∷ 51 ∷ []))) None false ∷
    Drop 0 ∷
    Poll 0 1 ∷
    Feed 0 (97 ∷ []) ∷
    Poll 1 1 ∷
    Look 0 ∷
    Submit (Recv 0 (vector 2 0 2 [])) None false ∷
    Close 0 ∷
    Poll 2 1 ∷
    Submit (Recv 0 (vector 2 0 2 [])) None false ∷ []) (
    Handle 0 ∷
    Submitted 0 ∷
    Submitted 1 ∷
    Dropped ∷
    Refused NoOp ∷
    Fed ∷
    Handed (Outcome.Count 3) (One (vector 4 0 3 (49 ∷ 50 ∷ 51 ∷ []))) ∷
    Output (49 ∷ 50 ∷ 51 ∷ []) ∷
    Submitted 2 ∷
    Released ∷
    Handed (Outcome.Count 1) (One (vector 2 0 2 (97 ∷ []))) ∷
    Refused NoHandle ∷ [])

-- A cancel of a group meets its members: what was dropped is none, and what is submitted under the group later is no operation.
abbrev pub CanceledMembers : Type 0
CanceledMembers =
    AnswersBoth 1 (
    Give Stream ∷
    NewCanceller ∷
    NewHandle 0 ∷
    Submit (Recv 0 (vector 2 0 2 [])) (Some 0) false ∷
    Submit (Recv 0 (vector 2 0 2 [])) (Some 0) false ∷
    Submit (Recv 0 (vector 2 0 2 [])) None false ∷
    Drop 0 ∷
    CancelAll 0 ∷
    Poll 1 1 ∷
    Poll 2 1 ∷
    Submit (Recv 0 (vector 2 0 2 [])) (Some 0) false ∷ []) (
    Handle 0 ∷
    Canceller 0 ∷
    CancelHandle 0 ∷
    Submitted 0 ∷
    Submitted 1 ∷
    Submitted 2 ∷
    Dropped ∷
    Cancels (1 ∷ []) ∷
    Handed (Outcome.Fail CANCELED) (One (vector 2 0 2 [])) ∷
    Pending ∷
    CanceledAtOnce (One (vector 2 0 2 [])) ∷ [])
