-- A list of messages is sent.
use Rattle.std.proofs.Common.{◌≡◌, ◌∙◌, ℕ, ◌<◌, ◌≤◌, List, [], ◌∷◌, ◌++◌, Bool, length, drop, sym, ap, subst, arith, append_assoc}
use Rattle.std.specs.Prelude.{IsTrue, Result, Ok, Err, slice_index_or}
use Rattle.rent_io.specs.ItemSink.{ItemSink, IsDone}
use Rattle.rent_io.specs.Writer.{Writer}
use Rattle.rent_io.specs.declared.sink.SinkDone.TheVariants.{Ready as DoneReady}
use Rattle.stream_util.specs.BufWriter.{Pushes}
use Rattle.frame_io.specs.declared.fault.FrameFault.{FrameFault}
use Rattle.frame_io.specs.declared.message.Message.{Message}
use Rattle.frame_io.specs.FrameWriter.{Drives, Ends, IsRefusal, IsStuck}
use Rattle.frame_io.specs.Piece.{pieces_of}
use Rattle.frame_io.specs.Written.{pieces_of_all}

-- A list is its first message and the others.
pub first_is : (items rest : List Message) (message : Message) → 0 < length items → message ≡ slice_index_or items 0 message
    → rest ≡ drop 1 items → items ≡ message ∷ rest
first_is [] rest message some is others = absurd (omega arith)
first_is (first ∷ items) rest message some is others = ap (λ m. m ∷ items) (sym is) ∙ ap (λ l. message ∷ l) (sym others)

-- A message that leaves the list is buffered.
pub one_more_sent : (held now : List ℕ) (message : Message) (items rest : List Message) → items ≡ message ∷ rest
    → now ≡ held ++ pieces_of message.channel message.bytes → now ++ pieces_of_all rest ≡ held ++ pieces_of_all items
one_more_sent held now message items rest is sent =
    ap (λ l. l ++ pieces_of_all rest) sent ∙ append_assoc held (pieces_of message.channel message.bytes) (pieces_of_all rest)
    ∙ ap (λ l. held ++ pieces_of_all l) (sym is)

-- A message that is refused stays the first of the list.
pub stuck_first : (items rest : List Message) (message : Message) (fault : FrameFault) → items ≡ message ∷ rest
    → IsRefusal (length message.bytes) fault → IsStuck items fault
stuck_first items rest message fault is refused = subst (λ l. IsStuck l fault) (sym is) refused

-- What was delivered, what is buffered and what follows stay the same, joined, when the buffer is written.
pub pushed_run : (tells : Bool) (before now : Writer) (held later rest : List ℕ) → Pushes tells before now held later → IsTrue tells
    → now.delivered ++ (later ++ rest) ≡ before.delivered ++ (held ++ rest)
pushed_run tells before now held later rest pushes told =
    ap (λ d. d ++ (later ++ rest)) (pushes.delivered told) ∙ append_assoc before.delivered pushes.sent (later ++ rest)
    ∙ ap (λ l. before.delivered ++ l) (sym (append_assoc pushes.sent later rest) ∙ ap (λ l. l ++ rest) (sym pushes.cut))

-- A flush that is done, or fails, ends the sending of a list of which no message is left.
pub drive_ends : (outcome : Result (Unit {0}) FrameFault) (before mid now : ItemSink) (held : List ℕ) (messages : List Message)
    → messages ≡ [] → before.counts.faults ≤ mid.counts.faults → mid.flushes ≡ before.flushes
    → IsDone mid now (DoneReady outcome) → Ends held (DoneReady outcome) → Drives before now held messages (DoneReady outcome)
drive_ends (Ok done) before mid now held messages none later same done_so ends = (none, ends, omega (arith, done_so, same))
drive_ends (Err fault) before mid now held messages none later same done_so ends =
    (subst (λ l. IsStuck l fault) (sym none) ends, omega (arith, done_so.1, later))
