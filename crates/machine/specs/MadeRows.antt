-- Worked runs of the machine on handles that an operation makes.
use Rattle.std.specs.Prelude.{◌≡◌, [], ◌∷◌, None, false}
use Rattle.rent_buf.specs.declared.held.Held.TheVariants.{One, Nothing}
use Rattle.machine.specs.declared.world.HandleKind.TheVariants.{Listener}
use Rattle.machine.specs.declared.request.Request.TheVariants.{Accept, Open, Recv, Send}
use Rattle.machine.specs.declared.request.Told.TheVariants.{Count}
use Rattle.machine.specs.declared.request.Outcome.{Outcome}
use Rattle.machine.specs.declared.ledger.Event.TheVariants.{Give, Feed, End, Look, Close, Submit, Poll, Drop, Turn, Exec}
use Rattle.machine.specs.declared.ledger.Refusal.TheVariants.{NoHandle, BadHandleEvent}
use Rattle.machine.specs.declared.ledger.Reply.TheVariants.{Handle, Fed, Released, Output, Submitted, Handed, Dropped, Turned}
use Rattle.machine.specs.declared.ledger.Reply.TheVariants.{ExecutedOp, ExecutedClose, Refused}
use Rattle.machine.specs.Ledger.{empty}
use Rattle.machine.specs.Run.{replies}
use Rattle.machine.specs.Rows.{vector}

-- An accept that is dropped in flight: the stream that it made is closed once its completion is reaped.
abbrev pub AbandonedAccept : Type 0
AbandonedAccept =
    replies (empty 4) (
    Give Listener ∷
    Submit (Accept 0) None false ∷
    Turn ∷
    Drop 0 ∷
    Exec 0 (Count 0) ∷
    Turn ∷
    Turn ∷
    Exec 0 (Count 0) ∷
    Turn ∷ [])
    ≡ (
    Handle 0 ∷
    Submitted 0 ∷
    Turned [] [] [] ∷
    Dropped ∷
    ExecutedOp 0 ∷
    Turned (0 ∷ []) [] [] ∷
    Turned [] [] [] ∷
    ExecutedClose 1 ∷
    Turned [] (1 ∷ []) [] ∷ [])

-- An echo server: the stream that an accept made is its user's from the poll that returns it, and not before; it is read, answered in
-- two sends, and closed.
abbrev pub EchoServer : Type 0
EchoServer =
    replies (empty 1024) (
    Give Listener ∷
    Submit (Accept 0) None false ∷
    Turn ∷
    Exec 0 (Count 0) ∷
    Feed 1 (104 ∷ 105 ∷ []) ∷
    Turn ∷
    Poll 0 1 ∷
    Feed 1 (104 ∷ 105 ∷ []) ∷
    Submit (Recv 1 (vector 8192 0 8192 [])) None false ∷
    Turn ∷
    Exec 0 (Count 2) ∷
    Turn ∷
    Poll 1 1 ∷
    Submit (Send 1 (vector 8192 0 2 (104 ∷ 105 ∷ []))) None false ∷
    Turn ∷
    Exec 0 (Count 1) ∷
    Turn ∷
    Poll 2 1 ∷
    Submit (Send 1 (vector 8192 1 2 (104 ∷ 105 ∷ []))) None false ∷
    Turn ∷
    Exec 0 (Count 1) ∷
    Turn ∷
    Poll 3 1 ∷
    Look 1 ∷
    Close 1 ∷
    Turn ∷
    Exec 0 (Count 0) ∷
    Turn ∷ [])
    ≡ (
    Handle 0 ∷
    Submitted 0 ∷
    Turned [] [] [] ∷
    ExecutedOp 0 ∷
    Refused NoHandle ∷
    Turned (0 ∷ []) [] [] ∷
    Handed (Outcome.Made 1) Nothing ∷
    Fed ∷
    Submitted 1 ∷
    Turned [] [] [] ∷
    ExecutedOp 1 ∷
    Turned (1 ∷ []) [] [] ∷
    Handed (Outcome.Count 2) (One (vector 8192 0 8192 (104 ∷ 105 ∷ []))) ∷
    Submitted 2 ∷
    Turned [] [] [] ∷
    ExecutedOp 2 ∷
    Turned (2 ∷ []) [] [] ∷
    Handed (Outcome.Count 1) (One (vector 8192 0 2 (104 ∷ 105 ∷ []))) ∷
    Submitted 3 ∷
    Turned [] [] [] ∷
    ExecutedOp 3 ∷
    Turned (3 ∷ []) [] [] ∷
    Handed (Outcome.Count 1) (One (vector 8192 1 2 (104 ∷ 105 ∷ []))) ∷
    Output (104 ∷ 105 ∷ []) ∷
    Released ∷
    Turned [] [] [] ∷
    ExecutedClose 1 ∷
    Turned [] (1 ∷ []) [] ∷ [])

-- A file that is opened: it has no end to mark.
abbrev pub OpenedFile : Type 0
OpenedFile =
    replies (empty 8) (
    Submit (Open (47 ∷ 97 ∷ []) 0 0) None false ∷
    Turn ∷
    Exec 0 (Count 0) ∷
    Turn ∷
    Poll 0 9 ∷
    End 0 ∷ [])
    ≡ (
    Submitted 0 ∷
    Turned [] [] [] ∷
    ExecutedOp 0 ∷
    Turned (0 ∷ []) [] [] ∷
    Handed (Outcome.Made 0) Nothing ∷
    Refused BadHandleEvent ∷ [])
