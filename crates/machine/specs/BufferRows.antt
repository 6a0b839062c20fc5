-- Worked runs of the machine on bytes: what a read leaves in each kind of buffer, and what a send leaves on its handle.
use Rattle.std.specs.Prelude.{ℕ, ◌≡◌, List, [], ◌∷◌, None, false}
use Rattle.rent_buf.specs.Rent.{Rented}
use Rattle.rent_buf.specs.declared.kind.Kind.{Kind}
use Rattle.rent_buf.specs.declared.kind.Kind.TheVariants.{Vector, Grown, Fixed}
use Rattle.rent_buf.specs.declared.held.Held.{Held}
use Rattle.rent_buf.specs.declared.held.Held.TheVariants.{One}
use Rattle.machine.specs.declared.world.HandleKind.TheVariants.{Stream}
use Rattle.machine.specs.declared.request.Request.TheVariants.{Recv, ReadVec, Send, WriteVec}
use Rattle.machine.specs.declared.request.Told.TheVariants.{Count}
use Rattle.machine.specs.declared.request.Outcome.{Outcome}
use Rattle.machine.specs.declared.ledger.Event.TheVariants.{Give, Feed, Look, Submit, Poll, Turn, Exec}
use Rattle.machine.specs.declared.ledger.Refusal.TheVariants.{BadOutcome}
use Rattle.machine.specs.declared.ledger.Reply.TheVariants.{Handle, Fed, Output, Submitted, Handed, Turned, ExecutedOp, Refused}
use Rattle.machine.specs.Ledger.{empty}
use Rattle.machine.specs.Run.{replies}
use Rattle.machine.specs.Rows.{vector}

-- A part, by its room and bytes.
abbrev part : ℕ → List ℕ → Rented
part room bytes = record { bytes = bytes; total = room }

-- A read of two bytes into a buffer of a kind that holds four, and the bytes that it then has.
abbrev pub ShortReadInto : Kind → List ℕ → Type 0
ShortReadInto kind bytes =
    replies (empty 4) (
    Give Stream ∷
    Feed 0 (97 ∷ 98 ∷ []) ∷
    Submit (Recv 0 (record (vector 4 0 4 (48 ∷ 49 ∷ 50 ∷ 51 ∷ [])) { kind = kind })) None false ∷
    Turn ∷
    Exec 0 (Count 2) ∷
    Turn ∷
    Poll 0 1 ∷ [])
    ≡ (
    Handle 0 ∷
    Fed ∷
    Submitted 0 ∷
    Turned [] [] [] ∷
    ExecutedOp 0 ∷
    Turned (0 ∷ []) [] [] ∷
    Handed (Outcome.Count 2) (One (record (vector 4 0 4 bytes) { kind = kind })) ∷ [])

-- A short read into a vector cuts what stood there.
abbrev pub ShortRead : Type 0
ShortRead = ShortReadInto Vector (97 ∷ 98 ∷ [])

-- A short read into a grown vector keeps the longer tail.
abbrev pub GrownRead : Type 0
GrownRead = ShortReadInto Grown (97 ∷ 98 ∷ 50 ∷ 51 ∷ [])

-- A short read into bytes of a fixed number keeps the longer tail.
abbrev pub FixedRead : Type 0
FixedRead = ShortReadInto Fixed (97 ∷ 98 ∷ 50 ∷ 51 ∷ [])

-- A read into a range keeps what stands before it.
abbrev pub RangeRead : Type 0
RangeRead =
    replies (empty 4) (
    Give Stream ∷
    Feed 0 (97 ∷ 98 ∷ 99 ∷ 100 ∷ 101 ∷ []) ∷
    Submit (Recv 0 (vector 10 1 8 (48 ∷ 49 ∷ 50 ∷ 51 ∷ []))) None false ∷
    Turn ∷
    Exec 0 (Count 5) ∷
    Turn ∷
    Poll 0 1 ∷ [])
    ≡ (
    Handle 0 ∷
    Fed ∷
    Submitted 0 ∷
    Turned [] [] [] ∷
    ExecutedOp 0 ∷
    Turned (0 ∷ []) [] [] ∷
    Handed (Outcome.Count 5) (One (vector 10 1 8 (48 ∷ 97 ∷ 98 ∷ 99 ∷ 100 ∷ 101 ∷ []))) ∷ [])

-- A read into parts fills each in order, and leaves those that nothing comes to.
abbrev pub PartsRead : Type 0
PartsRead =
    replies (empty 4) (
    Give Stream ∷
    Feed 0 (97 ∷ 98 ∷ 99 ∷ 100 ∷ []) ∷
    Submit (ReadVec 0 (part 2 [] ∷ part 3 [] ∷ part 4 (122 ∷ []) ∷ [])) None false ∷
    Turn ∷
    Exec 0 (Count 4) ∷
    Turn ∷
    Poll 0 1 ∷ [])
    ≡ (
    Handle 0 ∷
    Fed ∷
    Submitted 0 ∷
    Turned [] [] [] ∷
    ExecutedOp 0 ∷
    Turned (0 ∷ []) [] [] ∷
    Handed (Outcome.Count 4) (Held.Parts (part 2 (97 ∷ 98 ∷ []) ∷ part 3 (99 ∷ 100 ∷ []) ∷ part 4 (122 ∷ []) ∷ [])) ∷ [])

-- A send of five bytes: six are refused; the first of three are sent, and the buffer comes back as it was.
abbrev pub ShortSend : Type 0
ShortSend =
    replies (empty 4) (
    Give Stream ∷
    Submit (Send 0 (vector 8 0 5 (104 ∷ 101 ∷ 108 ∷ 108 ∷ 111 ∷ []))) None false ∷
    Turn ∷
    Exec 0 (Count 6) ∷
    Exec 0 (Count 3) ∷
    Turn ∷
    Poll 0 1 ∷
    Look 0 ∷ [])
    ≡ (
    Handle 0 ∷
    Submitted 0 ∷
    Turned [] [] [] ∷
    Refused BadOutcome ∷
    ExecutedOp 0 ∷
    Turned (0 ∷ []) [] [] ∷
    Handed (Outcome.Count 3) (One (vector 8 0 5 (104 ∷ 101 ∷ 108 ∷ 108 ∷ 111 ∷ []))) ∷
    Output (104 ∷ 101 ∷ 108 ∷ []) ∷ [])

-- A send of parts joins their bytes in order.
abbrev pub PartsSend : Type 0
PartsSend =
    replies (empty 4) (
    Give Stream ∷
    Submit (WriteVec 0 (part 3 (97 ∷ 98 ∷ []) ∷ part 0 [] ∷ part 2 (99 ∷ []) ∷ [])) None false ∷
    Turn ∷
    Exec 0 (Count 3) ∷
    Turn ∷
    Poll 0 1 ∷
    Look 0 ∷ [])
    ≡ (
    Handle 0 ∷
    Submitted 0 ∷
    Turned [] [] [] ∷
    ExecutedOp 0 ∷
    Turned (0 ∷ []) [] [] ∷
    Handed (Outcome.Count 3) (Held.Parts (part 3 (97 ∷ 98 ∷ []) ∷ part 0 [] ∷ part 2 (99 ∷ []) ∷ [])) ∷
    Output (97 ∷ 98 ∷ 99 ∷ []) ∷ [])
