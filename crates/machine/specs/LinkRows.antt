-- Worked runs of the machine on linked submissions: what waits, what ends with its leader, and what is taken apart.
use Rattle.std.specs.Prelude.{◌≡◌, [], ◌∷◌, None, true, false}
use Rattle.rent_buf.specs.declared.held.Held.TheVariants.{One}
use Rattle.machine.specs.declared.world.HandleKind.TheVariants.{Stream}
use Rattle.machine.specs.declared.request.Request.TheVariants.{Recv}
use Rattle.machine.specs.declared.request.TheConstants.{CANCELED}
use Rattle.machine.specs.declared.request.Told.TheVariants.{Count, Fail}
use Rattle.machine.specs.declared.request.Outcome.{Outcome}
use Rattle.machine.specs.declared.ledger.Event.TheVariants.{Give, Feed, Submit, Poll, Drop, Cancel, Turn, Exec}
use Rattle.machine.specs.declared.ledger.Refusal.TheVariants.{NotFlying, Waiting}
use Rattle.machine.specs.declared.ledger.Reply.TheVariants.{Handle, Fed, Submitted, Handed, Dropped, Asked, Turned, ExecutedOp, Refused}
use Rattle.machine.specs.Ledger.{empty}
use Rattle.machine.specs.Run.{replies}
use Rattle.machine.specs.Rows.{vector}

-- A read that waits is executed once its leader succeeded.
abbrev pub LinkedReads : Type 0
LinkedReads =
    replies (empty 8) (
    Give Stream ∷
    Feed 0 (97 ∷ 98 ∷ []) ∷
    Submit (Recv 0 (vector 1 0 1 [])) None true ∷
    Submit (Recv 0 (vector 1 0 1 [])) None false ∷
    Turn ∷
    Exec 1 (Count 1) ∷
    Exec 0 (Count 1) ∷
    Exec 0 (Count 1) ∷
    Turn ∷
    Poll 0 1 ∷
    Poll 1 1 ∷ [])
    ≡ (
    Handle 0 ∷
    Fed ∷
    Submitted 0 ∷
    Submitted 1 ∷
    Turned [] [] [] ∷
    Refused Waiting ∷
    ExecutedOp 0 ∷
    ExecutedOp 1 ∷
    Turned (0 ∷ 1 ∷ []) [] [] ∷
    Handed (Outcome.Count 1) (One (vector 1 0 1 (97 ∷ []))) ∷
    Handed (Outcome.Count 1) (One (vector 1 0 1 (98 ∷ []))) ∷ [])

-- A leader that fails takes its chain with it, in order.
abbrev pub BrokenChain : Type 0
BrokenChain =
    replies (empty 8) (
    Give Stream ∷
    Submit (Recv 0 (vector 1 0 1 [])) None true ∷
    Submit (Recv 0 (vector 1 0 1 [])) None true ∷
    Submit (Recv 0 (vector 1 0 1 [])) None false ∷
    Turn ∷
    Exec 0 (Fail 104) ∷
    Exec 0 (Count 0) ∷
    Turn ∷
    Poll 2 4 ∷ [])
    ≡ (
    Handle 0 ∷
    Submitted 0 ∷
    Submitted 1 ∷
    Submitted 2 ∷
    Turned [] [] [] ∷
    ExecutedOp 0 ∷
    Refused NotFlying ∷
    Turned (0 ∷ 1 ∷ 2 ∷ []) [] [] ∷
    Handed (Outcome.Fail CANCELED) (One (vector 1 0 1 [])) ∷ [])

-- A queue of one entry takes the two requests apart, so nothing waits.
abbrev pub TakenApart : Type 0
TakenApart =
    replies (empty 1) (
    Give Stream ∷
    Feed 0 (97 ∷ []) ∷
    Submit (Recv 0 (vector 1 0 1 [])) None true ∷
    Submit (Recv 0 (vector 1 0 1 [])) None false ∷
    Turn ∷
    Exec 1 (Count 1) ∷ [])
    ≡ (
    Handle 0 ∷
    Fed ∷
    Submitted 0 ∷
    Submitted 1 ∷
    Turned [] [] [] ∷
    ExecutedOp 1 ∷ [])

-- A cancel between two requests parts them; one behind them reaches the one that waits, which then ends by it.
abbrev pub CanceledFollower : Type 0
CanceledFollower =
    replies (empty 8) (
    Give Stream ∷
    Feed 0 (97 ∷ 98 ∷ []) ∷
    Submit (Recv 0 (vector 1 0 1 [])) None true ∷
    Submit (Recv 0 (vector 1 0 1 [])) None true ∷
    Cancel 1 ∷
    Submit (Recv 0 (vector 1 0 1 [])) None false ∷
    Drop 2 ∷
    Turn ∷
    Exec 1 (Fail CANCELED) ∷
    Exec 2 (Fail CANCELED) ∷
    Exec 0 (Count 1) ∷
    Exec 0 (Fail CANCELED) ∷
    Turn ∷
    Poll 1 1 ∷ [])
    ≡ (
    Handle 0 ∷
    Fed ∷
    Submitted 0 ∷
    Submitted 1 ∷
    Asked ∷
    Submitted 2 ∷
    Dropped ∷
    Turned [] [] [] ∷
    Refused Waiting ∷
    ExecutedOp 2 ∷
    ExecutedOp 0 ∷
    ExecutedOp 1 ∷
    Turned (2 ∷ 0 ∷ 1 ∷ []) [] [] ∷
    Handed (Outcome.Fail CANCELED) (One (vector 1 0 1 [])) ∷ [])
