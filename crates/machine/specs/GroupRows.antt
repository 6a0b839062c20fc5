-- Worked runs of the machine on cancellers and their groups.
use Rattle.std.specs.Prelude.{◌≡◌, [], ◌∷◌, Some, None, false}
use Rattle.rent_buf.specs.declared.held.Held.TheVariants.{One}
use Rattle.machine.specs.declared.world.HandleKind.TheVariants.{Stream}
use Rattle.machine.specs.declared.request.Request.TheVariants.{Recv}
use Rattle.machine.specs.declared.request.TheConstants.{CANCELED}
use Rattle.machine.specs.declared.request.Told.TheVariants.{Fail}
use Rattle.machine.specs.declared.request.Outcome.{Outcome}
use Rattle.machine.specs.declared.ledger.Event.TheVariants.{Give, Submit, Poll, Drop, NewCanceller, NewHandle, CancelAll, Turn, Exec}
use Rattle.machine.specs.declared.ledger.Refusal.TheVariants.{NoCanceller, BadOutcome}
use Rattle.machine.specs.declared.ledger.Reply.TheVariants.{Handle, Submitted, CanceledAtOnce, Handed, Dropped, Canceller, CancelHandle}
use Rattle.machine.specs.declared.ledger.Reply.TheVariants.{Cancels, Turned, ExecutedOp, Refused}
use Rattle.machine.specs.Ledger.{empty}
use Rattle.machine.specs.Run.{replies}
use Rattle.machine.specs.Rows.{vector}

-- A group is canceled: each read in it may end with the error of a cancel, and a submission under it comes back at once. A later
-- cancel handle of the same canceller has a group of its own.
abbrev pub CanceledGroup : Type 0
CanceledGroup =
    replies (empty 8) (
    Give Stream ∷
    NewCanceller ∷
    NewHandle 0 ∷
    Submit (Recv 0 (vector 1 0 1 [])) (Some 0) false ∷
    Submit (Recv 0 (vector 1 0 1 [])) (Some 0) false ∷
    CancelAll 0 ∷
    Submit (Recv 0 (vector 1 0 1 [])) (Some 0) false ∷
    Turn ∷
    Exec 0 (Fail CANCELED) ∷
    Exec 0 (Fail CANCELED) ∷
    Turn ∷
    Poll 0 3 ∷
    NewHandle 0 ∷
    Submit (Recv 0 (vector 1 0 1 [])) (Some 1) false ∷ [])
    ≡ (
    Handle 0 ∷
    Canceller 0 ∷
    CancelHandle 0 ∷
    Submitted 0 ∷
    Submitted 1 ∷
    Cancels (0 ∷ 1 ∷ []) ∷
    CanceledAtOnce (One (vector 1 0 1 [])) ∷
    Turned [] [] [] ∷
    ExecutedOp 0 ∷
    ExecutedOp 1 ∷
    Turned (0 ∷ 1 ∷ []) [] [] ∷
    Handed (Outcome.Fail CANCELED) (One (vector 1 0 1 [])) ∷
    CancelHandle 1 ∷
    Submitted 2 ∷ [])

-- A group is canceled over a queue that holds one entry: each cancel takes the queue first, and both reads may end with its error.
abbrev pub FullQueueGroup : Type 0
FullQueueGroup =
    replies (empty 1) (
    Give Stream ∷
    NewCanceller ∷
    NewHandle 0 ∷
    Submit (Recv 0 (vector 1 0 1 [])) (Some 0) false ∷
    Submit (Recv 0 (vector 1 0 1 [])) (Some 0) false ∷
    CancelAll 0 ∷
    Turn ∷
    Exec 0 (Fail CANCELED) ∷
    Exec 0 (Fail CANCELED) ∷
    Turn ∷ [])
    ≡ (
    Handle 0 ∷
    Canceller 0 ∷
    CancelHandle 0 ∷
    Submitted 0 ∷
    Submitted 1 ∷
    Cancels (0 ∷ 1 ∷ []) ∷
    Turned [] [] [] ∷
    ExecutedOp 0 ∷
    ExecutedOp 1 ∷
    Turned (0 ∷ 1 ∷ []) [] [] ∷ [])

-- What isn't in a group is left alone: an operation that was dropped, and one that was submitted under none. A canceller that was
-- never created has no group, and one whose group was canceled has a fresh one.
abbrev pub GroupMembers : Type 0
GroupMembers =
    replies (empty 8) (
    Give Stream ∷
    CancelAll 0 ∷
    Submit (Recv 0 (vector 1 0 1 [])) (Some 0) false ∷
    NewCanceller ∷
    NewHandle 0 ∷
    Submit (Recv 0 (vector 1 0 1 [])) (Some 0) false ∷
    Submit (Recv 0 (vector 1 0 1 [])) None false ∷
    Submit (Recv 0 (vector 1 0 1 [])) (Some 0) false ∷
    Drop 0 ∷
    CancelAll 0 ∷
    CancelAll 0 ∷
    Turn ∷
    Exec 1 (Fail CANCELED) ∷
    Exec 2 (Fail CANCELED) ∷ [])
    ≡ (
    Handle 0 ∷
    Refused NoCanceller ∷
    Refused NoCanceller ∷
    Canceller 0 ∷
    CancelHandle 0 ∷
    Submitted 0 ∷
    Submitted 1 ∷
    Submitted 2 ∷
    Dropped ∷
    Cancels (2 ∷ []) ∷
    Cancels [] ∷
    Turned [] [] [] ∷
    Refused BadOutcome ∷
    ExecutedOp 2 ∷ [])
