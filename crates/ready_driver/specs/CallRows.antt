-- Worked runs of a readiness driver over handles in memory of each kind: a capacity of the machine, the events, and their replies.
use Rattle.std.specs.Prelude.{[], ◌∷◌, true, false, None}
use Rattle.rent_buf.specs.declared.held.Held.TheVariants.{One, Nothing}
use Rattle.machine.specs.declared.world.TheConstants.{MOST_FILE}
use Rattle.machine.specs.declared.world.call.TheConstants.{INVALID, BROKEN_PIPE, FILE_TOO_BIG}
use Rattle.machine.specs.declared.world.HandleKind.TheVariants.{Stream, Datagram, File, Pipe, Listener}
use Rattle.machine.specs.declared.request.Request.TheVariants.{Recv, Send, RecvMsg, SendMsg, Read, Write, SpliceTo, SpliceFrom, Accept}
use Rattle.machine.specs.declared.request.Request.TheVariants.{Open}
use Rattle.machine.specs.declared.request.Request.TheVariants.{PollAdd}
use Rattle.machine.specs.declared.request.Outcome.{Outcome}
use Rattle.machine.specs.declared.ledger.Event.TheVariants.{Give, Feed, FeedMessage, End, Look, Close, Submit, Poll, Drop}
use Rattle.machine.specs.declared.ledger.Refusal.TheVariants.{NoHandle, BadHandleEvent}
use Rattle.machine.specs.declared.ledger.Reply.TheVariants.{Handle, Fed, Ended, Released, Output, Messages, Submitted, Pending, Handed}
use Rattle.machine.specs.declared.ledger.Reply.TheVariants.{Dropped, Refused}
use Rattle.machine.specs.Rows.{vector}
use Rattle.ready_driver.specs.SpelledRows.{AnswersBoth}

-- A receive waits for a message, of which the first bytes come, with its address; a send of one doesn't wait. A read of bytes of a datagram
-- waits as a receive does, and fails then.
abbrev pub DatagramAtOnce : Type 0
DatagramAtOnce =
    AnswersBoth 1 (
    Give Datagram ∷
    Submit (RecvMsg 0 (vector 2 0 2 [])) None false ∷
    Submit (Recv 0 (vector 1 0 1 [])) None false ∷
    Poll 0 7 ∷
    Poll 1 7 ∷
    FeedMessage 0 5 (97 ∷ 98 ∷ 99 ∷ []) ∷
    Poll 1 7 ∷
    Poll 0 7 ∷
    Submit (SendMsg 0 None (vector 1 0 1 (120 ∷ []))) None false ∷
    Poll 2 7 ∷
    Look 0 ∷ []) (
    Handle 0 ∷
    Submitted 0 ∷
    Submitted 1 ∷
    Pending ∷
    Pending ∷
    Fed ∷
    Handed (Outcome.Fail INVALID) (One (vector 1 0 1 [])) ∷
    Handed (Outcome.From 2 5) (One (vector 2 0 2 (97 ∷ 98 ∷ []))) ∷
    Submitted 2 ∷
    Handed (Outcome.Count 1) (One (vector 1 0 1 (120 ∷ []))) ∷
    Messages ((None, 120 ∷ []) ∷ []) ∷ [])

-- Nothing waits on a file: a read at its end has no bytes, and a write behind `MOST_FILE` fails.
abbrev pub FileAtOnce : Type 0
FileAtOnce =
    AnswersBoth 4 (
    Give File ∷
    Feed 0 (97 ∷ 98 ∷ []) ∷
    Submit (Read 0 1 (vector 4 0 4 [])) None false ∷
    Poll 0 1 ∷
    Submit (Read 0 2 (vector 4 0 4 [])) None false ∷
    Poll 1 1 ∷
    Submit (Write 0 1 (vector 1 0 1 (120 ∷ []))) None false ∷
    Poll 2 1 ∷
    Submit (Write 0 MOST_FILE (vector 1 0 1 (120 ∷ []))) None false ∷
    Poll 3 1 ∷
    Look 0 ∷ []) (
    Handle 0 ∷
    Fed ∷
    Submitted 0 ∷
    Handed (Outcome.Count 1) (One (vector 4 0 4 (98 ∷ []))) ∷
    Submitted 1 ∷
    Handed (Outcome.Count 0) (One (vector 4 0 4 [])) ∷
    Submitted 2 ∷
    Handed (Outcome.Count 1) (One (vector 1 0 1 (120 ∷ []))) ∷
    Submitted 3 ∷
    Handed (Outcome.Fail FILE_TOO_BIG) (One (vector 1 0 1 (120 ∷ []))) ∷
    Output (97 ∷ 120 ∷ []) ∷ [])

-- A splice waits for bytes of what it takes from; a pipe whose end is marked takes none, also where none are to be moved, and is spliced to
-- itself by no call.
abbrev pub SplicesAtOnce : Type 0
SplicesAtOnce =
    AnswersBoth 2 (
    Give Stream ∷
    Give Pipe ∷
    Submit (SpliceFrom 1 0 4) None false ∷
    Submit (SpliceTo 0 1 2) None false ∷
    Submit (PollAdd 0 true) None false ∷
    Poll 0 1 ∷
    Poll 1 1 ∷
    Poll 2 1 ∷
    Feed 0 (97 ∷ 98 ∷ 99 ∷ []) ∷
    Poll 2 1 ∷
    Poll 1 1 ∷
    Poll 0 1 ∷
    Look 0 ∷
    End 1 ∷
    Submit (Send 1 (vector 1 0 1 [])) None false ∷
    Poll 3 1 ∷
    Submit (SpliceTo 1 1 1) None false ∷
    Poll 4 1 ∷ []) (
    Handle 0 ∷
    Handle 1 ∷
    Submitted 0 ∷
    Submitted 1 ∷
    Submitted 2 ∷
    Pending ∷
    Pending ∷
    Pending ∷
    Fed ∷
    Handed (Outcome.Count 0) Nothing ∷
    Handed (Outcome.Count 2) Nothing ∷
    Handed (Outcome.Count 2) Nothing ∷
    Output (97 ∷ 98 ∷ []) ∷
    Ended ∷
    Submitted 3 ∷
    Handed (Outcome.Fail BROKEN_PIPE) (One (vector 1 0 1 [])) ∷
    Submitted 4 ∷
    Handed (Outcome.Fail INVALID) Nothing ∷ [])

-- An accept and an open wait for nothing: the poll makes the handle, which is its user's at once. One that is dropped makes none.
abbrev pub MadeAtOnce : Type 0
MadeAtOnce =
    AnswersBoth 1 (
    Give Listener ∷
    Submit (Accept 0) None false ∷
    Feed 1 (97 ∷ []) ∷
    Poll 0 7 ∷
    Feed 1 (97 ∷ []) ∷
    Submit (Recv 1 (vector 1 0 1 [])) None false ∷
    Poll 1 7 ∷
    Submit (Accept 0) None false ∷
    Close 0 ∷
    Drop 2 ∷
    Submit (Open (47 ∷ 97 ∷ []) 0 0) None false ∷
    Poll 3 7 ∷
    End 2 ∷ []) (
    Handle 0 ∷
    Submitted 0 ∷
    Refused NoHandle ∷
    Handed (Outcome.Made 1) Nothing ∷
    Fed ∷
    Submitted 1 ∷
    Handed (Outcome.Count 1) (One (vector 1 0 1 (97 ∷ []))) ∷
    Submitted 2 ∷
    Released ∷
    Dropped ∷
    Submitted 3 ∷
    Handed (Outcome.Made 2) Nothing ∷
    Refused BadHandleEvent ∷ [])
