-- Worked runs of the machine on operations: a capacity, the events, and their replies.
use Rattle.std.specs.Prelude.{ℕ, ◌≡◌, List, [], ◌∷◌, None, false}
use Rattle.rent_buf.specs.Buffer.{Buffer}
use Rattle.rent_buf.specs.declared.kind.Kind.TheVariants.{Vector}
use Rattle.rent_buf.specs.declared.held.Held.TheVariants.{One}
use Rattle.machine.specs.declared.world.HandleKind.TheVariants.{Stream}
use Rattle.machine.specs.declared.request.Request.TheVariants.{Recv}
use Rattle.machine.specs.declared.request.TheConstants.{CANCELED}
use Rattle.machine.specs.declared.request.Told.TheVariants.{Count, Fail}
use Rattle.machine.specs.declared.request.Outcome.{Outcome}
use Rattle.machine.specs.declared.ledger.Event.TheVariants.{Give, Feed, Look, Close, Submit, Poll, Drop, Cancel, NewHandle, Turn, Exec}
use Rattle.machine.specs.declared.ledger.Refusal.TheVariants.{NoOp, NoCanceller, NoHandle, NotFlying, BadOutcome}
use Rattle.machine.specs.declared.ledger.Reply.TheVariants.{Handle, Fed, Released, Submitted, Pending, Handed, Dropped, Asked, Turned}
use Rattle.machine.specs.declared.ledger.Reply.TheVariants.{ExecutedOp, ExecutedClose}
use Rattle.machine.specs.declared.ledger.Reply.TheVariants.{Refused}
use Rattle.machine.specs.Ledger.{empty}
use Rattle.machine.specs.Run.{replies}

-- A vector buffer, by its total, begin, end and bytes.
abbrev pub vector : ℕ → ℕ → ℕ → List ℕ → Buffer
vector total begin end bytes = record { kind = Vector; bytes = bytes; total = total; begin = begin; end = end }

-- One read, from its submission to the buffer that is handed back, once.
abbrev pub OneRead : Type 0
OneRead =
    replies (empty 1) (
    Give Stream ∷
    Submit (Recv 0 (vector 4 0 4 [])) None false ∷
    Poll 0 7 ∷
    Feed 0 (97 ∷ 98 ∷ []) ∷
    Turn ∷
    Exec 0 (Count 2) ∷
    Poll 0 7 ∷
    Turn ∷
    Poll 0 7 ∷
    Poll 0 7 ∷ [])
    ≡ (
    Handle 0 ∷
    Submitted 0 ∷
    Pending ∷
    Fed ∷
    Turned [] [] [] ∷
    ExecutedOp 0 ∷
    Pending ∷
    Turned (0 ∷ []) [] (7 ∷ []) ∷
    Handed (Outcome.Count 2) (One (vector 4 0 4 (97 ∷ 98 ∷ []))) ∷
    Refused NoOp ∷ [])

-- Events that name what isn't there.
abbrev pub RefusedInOrder : Type 0
RefusedInOrder =
    replies (empty 4) (
    Submit (Recv 9 (vector 1 0 1 [])) None false ∷
    Exec 0 (Count 0) ∷
    NewHandle 3 ∷
    Poll 0 1 ∷ [])
    ≡ (
    Refused NoHandle ∷
    Refused NotFlying ∷
    Refused NoCanceller ∷
    Refused NoOp ∷ [])

-- A cancel that is taken late marks nothing: neither its own operation, which is done, nor the next one.
abbrev pub LateCancel : Type 0
LateCancel =
    replies (empty 8) (
    Give Stream ∷
    Feed 0 (97 ∷ []) ∷
    Submit (Recv 0 (vector 1 0 1 [])) None false ∷
    Turn ∷
    Exec 0 (Count 1) ∷
    Turn ∷
    Cancel 0 ∷
    Poll 0 1 ∷
    Submit (Recv 0 (vector 1 0 1 [])) None false ∷
    Turn ∷
    Exec 0 (Fail CANCELED) ∷
    Feed 0 (98 ∷ []) ∷
    Exec 0 (Count 1) ∷
    Turn ∷
    Poll 1 2 ∷ [])
    ≡ (
    Handle 0 ∷
    Fed ∷
    Submitted 0 ∷
    Turned [] [] [] ∷
    ExecutedOp 0 ∷
    Turned (0 ∷ []) [] [] ∷
    Asked ∷
    Handed (Outcome.Count 1) (One (vector 1 0 1 (97 ∷ []))) ∷
    Submitted 1 ∷
    Turned [] [] [] ∷
    Refused BadOutcome ∷
    Fed ∷
    ExecutedOp 1 ∷
    Turned (1 ∷ []) [] [] ∷
    Handed (Outcome.Count 1) (One (vector 1 0 1 (98 ∷ []))) ∷ [])

-- A drop over a full queue: the request is taken, then its cancel, and the turn that reaps it names it.
abbrev pub FullQueue : Type 0
FullQueue =
    replies (empty 1) (
    Give Stream ∷
    Submit (Recv 0 (vector 1 0 1 [])) None false ∷
    Submit (Recv 0 (vector 1 0 1 [])) None false ∷
    Drop 1 ∷
    Turn ∷
    Exec 1 (Fail CANCELED) ∷
    Turn ∷
    Poll 1 7 ∷ [])
    ≡ (
    Handle 0 ∷
    Submitted 0 ∷
    Submitted 1 ∷
    Dropped ∷
    Turned [] [] [] ∷
    ExecutedOp 1 ∷
    Turned (1 ∷ []) [] [] ∷
    Refused NoOp ∷ [])

-- A handle that its user gives up under a read: its close is queued at the poll that returns the read, and not before.
abbrev pub CloseUnderRead : Type 0
CloseUnderRead =
    replies (empty 4) (
    Give Stream ∷
    Submit (Recv 0 (vector 1 0 1 [])) None false ∷
    Turn ∷
    Close 0 ∷
    Exec 0 (Fail 104) ∷
    Turn ∷
    Poll 0 5 ∷
    Look 0 ∷
    Turn ∷
    Exec 0 (Fail CANCELED) ∷
    Exec 0 (Count 0) ∷
    Turn ∷ [])
    ≡ (
    Handle 0 ∷
    Submitted 0 ∷
    Turned [] [] [] ∷
    Released ∷
    ExecutedOp 0 ∷
    Turned (0 ∷ []) [] [] ∷
    Handed (Outcome.Fail 104) (One (vector 1 0 1 [])) ∷
    Refused NoHandle ∷
    Turned [] [] [] ∷
    Refused BadOutcome ∷
    ExecutedClose 0 ∷
    Turned [] (0 ∷ []) [] ∷ [])
