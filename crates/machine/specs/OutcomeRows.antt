-- Worked runs of the machine on outcomes: which are allowed, and what an end changes.
use Rattle.std.specs.Prelude.{◌≡◌, ◌+◌, [], ◌∷◌, None, false}
use Rattle.rent_buf.specs.declared.held.Held.TheVariants.{One}
use Rattle.machine.specs.declared.world.HandleKind.TheVariants.{Stream}
use Rattle.machine.specs.declared.request.Request.TheVariants.{Recv}
use Rattle.machine.specs.declared.request.TheConstants.{CANCELED, LAST_ERROR}
use Rattle.machine.specs.declared.request.Told.TheVariants.{Count, Fail}
use Rattle.machine.specs.declared.request.Outcome.{Outcome}
use Rattle.machine.specs.declared.ledger.Event.TheVariants.{Give, Feed, End, Submit, Poll, Turn, Exec}
use Rattle.machine.specs.declared.ledger.Refusal.TheVariants.{BadOutcome, BadHandleEvent}
use Rattle.machine.specs.declared.ledger.Reply.TheVariants.{Handle, Fed, Ended, Submitted, Handed, Turned, ExecutedOp, Refused}
use Rattle.machine.specs.Ledger.{empty}
use Rattle.machine.specs.Run.{replies}
use Rattle.machine.specs.Rows.{vector}

-- A count above the input, a count of 0 that isn't allowed, and one that is.
abbrev pub RefusedOutcomes : Type 0
RefusedOutcomes =
    replies (empty 4) (
    Give Stream ∷
    Submit (Recv 0 (vector 2 0 2 [])) None false ∷
    Turn ∷
    Feed 0 (97 ∷ []) ∷
    Exec 0 (Count 2) ∷
    Exec 0 (Count 0) ∷
    Exec 0 (Count 1) ∷ [])
    ≡ (
    Handle 0 ∷
    Submitted 0 ∷
    Turned [] [] [] ∷
    Fed ∷
    Refused BadOutcome ∷
    Refused BadOutcome ∷
    ExecutedOp 0 ∷ [])

-- Errors: 0 and what is above `LAST_ERROR` aren't any, that of a cancel wants one, and another hands back the submitted buffer.
abbrev pub Errors : Type 0
Errors =
    replies (empty 4) (
    Give Stream ∷
    Feed 0 (97 ∷ []) ∷
    Submit (Recv 0 (vector 2 0 2 (48 ∷ 49 ∷ []))) None false ∷
    Turn ∷
    Exec 0 (Fail 0) ∷
    Exec 0 (Fail (LAST_ERROR + 1)) ∷
    Exec 0 (Fail CANCELED) ∷
    Exec 0 (Fail 104) ∷
    Turn ∷
    Poll 0 1 ∷ [])
    ≡ (
    Handle 0 ∷
    Fed ∷
    Submitted 0 ∷
    Turned [] [] [] ∷
    Refused BadOutcome ∷
    Refused BadOutcome ∷
    Refused BadOutcome ∷
    ExecutedOp 0 ∷
    Turned (0 ∷ []) [] [] ∷
    Handed (Outcome.Fail 104) (One (vector 2 0 2 (48 ∷ 49 ∷ []))) ∷ [])

-- A count of 0 is allowed once the input has ended; then nothing arrives, and no second end.
abbrev pub ReadAtTheEnd : Type 0
ReadAtTheEnd =
    replies (empty 4) (
    Give Stream ∷
    Submit (Recv 0 (vector 4 0 4 (48 ∷ []))) None false ∷
    Turn ∷
    Exec 0 (Count 0) ∷
    End 0 ∷
    Exec 0 (Count 0) ∷
    Turn ∷
    Poll 0 1 ∷
    End 0 ∷
    Feed 0 (97 ∷ []) ∷ [])
    ≡ (
    Handle 0 ∷
    Submitted 0 ∷
    Turned [] [] [] ∷
    Refused BadOutcome ∷
    Ended ∷
    ExecutedOp 0 ∷
    Turned (0 ∷ []) [] [] ∷
    Handed (Outcome.Count 0) (One (vector 4 0 4 [])) ∷
    Refused BadHandleEvent ∷
    Refused BadHandleEvent ∷ [])
