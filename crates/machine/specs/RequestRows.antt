-- Worked runs of the machine on messages, positions, splices and plain requests.
use Rattle.std.specs.Prelude.{◌≡◌, [], ◌∷◌, None, true, false}
use Rattle.rent_buf.specs.declared.held.Held.TheVariants.{One, Nothing}
use Rattle.machine.specs.declared.world.TheConstants.{MOST_FILE}
use Rattle.machine.specs.declared.world.HandleKind.TheVariants.{Stream, Datagram, File, Pipe}
use Rattle.machine.specs.declared.request.Request.TheVariants.{RecvMsg, SendMsg, Read, Write, SpliceTo, SpliceFrom}
use Rattle.machine.specs.declared.request.Request.TheVariants.{Connect, Fsync, PollAdd, MkDir}
use Rattle.machine.specs.declared.request.Told.TheVariants.{Count, Fail}
use Rattle.machine.specs.declared.request.Outcome.{Outcome}
use Rattle.machine.specs.declared.ledger.Event.TheVariants.{Give, Feed, FeedMessage, End, Look, Submit, Poll, Turn, Exec}
use Rattle.machine.specs.declared.ledger.Refusal.TheVariants.{NoHandle, BadOutcome, BadHandleEvent}
use Rattle.machine.specs.declared.ledger.Reply.TheVariants.{Handle, Fed, Output, Messages, Submitted, Handed, Turned, ExecutedOp, Refused}
use Rattle.machine.specs.Ledger.{empty}
use Rattle.machine.specs.Run.{replies}
use Rattle.machine.specs.Rows.{vector}

-- A message that is longer than the buffer: its first bytes come, with its address, and the rest of it is lost. One that is sent has its
-- address, or none.
abbrev pub MessagesInAndOut : Type 0
MessagesInAndOut =
    replies (empty 8) (
    Give Datagram ∷
    FeedMessage 0 5 (97 ∷ 98 ∷ 99 ∷ []) ∷
    Submit (RecvMsg 0 (vector 2 0 2 [])) None false ∷
    Turn ∷
    Exec 0 (Count 3) ∷
    Exec 0 (Count 2) ∷
    Turn ∷
    Poll 0 1 ∷
    Submit (RecvMsg 0 (vector 2 0 2 [])) None false ∷
    Submit (SendMsg 0 None (vector 1 0 1 (120 ∷ []))) None false ∷
    Turn ∷
    Exec 0 (Count 0) ∷
    Exec 1 (Count 1) ∷
    Look 0 ∷ [])
    ≡ (
    Handle 0 ∷
    Fed ∷
    Submitted 0 ∷
    Turned [] [] [] ∷
    Refused BadOutcome ∷
    ExecutedOp 0 ∷
    Turned (0 ∷ []) [] [] ∷
    Handed (Outcome.From 2 5) (One (vector 2 0 2 (97 ∷ 98 ∷ []))) ∷
    Submitted 1 ∷
    Submitted 2 ∷
    Turned [] [] [] ∷
    Refused BadOutcome ∷
    ExecutedOp 2 ∷
    Messages ((None, 120 ∷ []) ∷ []) ∷ [])

-- A file: a write behind its end leaves a gap of zeros, a read at its end has no bytes, and no write passes `MOST_FILE`.
abbrev pub FilePositions : Type 0
FilePositions =
    replies (empty 8) (
    Give File ∷
    Feed 0 (97 ∷ 98 ∷ []) ∷
    Submit (Write 0 3 (vector 1 0 1 (120 ∷ []))) None false ∷
    Turn ∷
    Exec 0 (Count 1) ∷
    Look 0 ∷
    Submit (Write 0 1 (vector 2 0 2 (121 ∷ 122 ∷ []))) None false ∷
    Submit (Read 0 4 (vector 2 0 2 [])) None false ∷
    Turn ∷
    Exec 0 (Count 2) ∷
    Exec 0 (Count 0) ∷
    Look 0 ∷
    Submit (Write 0 MOST_FILE (vector 1 0 1 (120 ∷ []))) None false ∷
    Turn ∷
    Exec 0 (Count 1) ∷
    Exec 0 (Fail 27) ∷ [])
    ≡ (
    Handle 0 ∷
    Fed ∷
    Submitted 0 ∷
    Turned [] [] [] ∷
    ExecutedOp 0 ∷
    Output (97 ∷ 98 ∷ 0 ∷ 120 ∷ []) ∷
    Submitted 1 ∷
    Submitted 2 ∷
    Turned (0 ∷ []) [] [] ∷
    ExecutedOp 1 ∷
    ExecutedOp 2 ∷
    Output (97 ∷ 121 ∷ 122 ∷ 120 ∷ []) ∷
    Submitted 3 ∷
    Turned (1 ∷ 2 ∷ []) [] [] ∷
    Refused BadOutcome ∷
    ExecutedOp 3 ∷ [])

-- Splices: the bytes of a stream go to a pipe, and from there to a stream's output. No count is allowed from a pipe to itself.
abbrev pub Splices : Type 0
Splices =
    replies (empty 8) (
    Give Stream ∷
    Give Pipe ∷
    Feed 0 (97 ∷ 98 ∷ 99 ∷ []) ∷
    Submit (SpliceTo 0 1 2) None false ∷
    Turn ∷
    Exec 0 (Count 2) ∷
    Look 1 ∷
    Submit (SpliceFrom 1 1 2) None false ∷
    Submit (SpliceFrom 1 0 9) None false ∷
    Turn ∷
    Exec 0 (Count 2) ∷
    Exec 0 (Fail 22) ∷
    Exec 0 (Count 2) ∷
    Look 0 ∷
    Turn ∷
    Poll 2 1 ∷ [])
    ≡ (
    Handle 0 ∷
    Handle 1 ∷
    Fed ∷
    Submitted 0 ∷
    Turned [] [] [] ∷
    ExecutedOp 0 ∷
    Output (97 ∷ 98 ∷ []) ∷
    Submitted 1 ∷
    Submitted 2 ∷
    Turned (0 ∷ []) [] [] ∷
    Refused BadOutcome ∷
    ExecutedOp 1 ∷
    ExecutedOp 2 ∷
    Output (97 ∷ 98 ∷ []) ∷
    Turned (1 ∷ 2 ∷ []) [] [] ∷
    Handed (Outcome.Count 2) Nothing ∷ [])

-- What moves nothing has the count 0, on its kind of handle, or on none; and what a handle doesn't take is refused.
abbrev pub PlainRequests : Type 0
PlainRequests =
    replies (empty 8) (
    Give File ∷
    Give Stream ∷
    Submit (MkDir (98 ∷ []) 511) None false ∷
    Submit (Connect 0 7) None false ∷
    Submit (Fsync 0 true) None false ∷
    Submit (PollAdd 1 false) None false ∷
    Submit (PollAdd 2 false) None false ∷
    Turn ∷
    Exec 0 (Count 1) ∷
    Exec 0 (Count 0) ∷
    Exec 0 (Count 0) ∷
    Exec 1 (Count 0) ∷
    Exec 1 (Count 0) ∷
    End 0 ∷
    FeedMessage 1 5 [] ∷ [])
    ≡ (
    Handle 0 ∷
    Handle 1 ∷
    Submitted 0 ∷
    Submitted 1 ∷
    Submitted 2 ∷
    Submitted 3 ∷
    Refused NoHandle ∷
    Turned [] [] [] ∷
    Refused BadOutcome ∷
    ExecutedOp 0 ∷
    Refused BadOutcome ∷
    ExecutedOp 2 ∷
    ExecutedOp 3 ∷
    Refused BadHandleEvent ∷
    Refused BadHandleEvent ∷ [])
