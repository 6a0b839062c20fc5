-- What a stream of pieces is read as: its messages by channel, how it ends, and how many bytes the whole pieces before that take.
use Rattle.std.specs.Prelude.{ℕ, zero, suc, ◌+◌, Bool, true, false, not, ◌&&◌, nat_eq, nat_lt, nat_le, if◌then◌else◌, Option, None, Some}
use Rattle.std.specs.Prelude.{List, [], ◌∷◌, ◌++◌, length, take, drop}
use Rattle.frame_io.specs.declared.fault.BadFrame.{BadFrame}
use Rattle.frame_io.specs.declared.fault.BadFrame.TheVariants.{Channels, Long, Cut}
use Rattle.frame_io.specs.declared.fault.Ending.{Ending}
use Rattle.frame_io.specs.declared.fault.Ending.TheVariants.{End, Fault}
use Rattle.frame_io.specs.declared.header.Begun.{Begun}
use Rattle.frame_io.specs.declared.header.Head.{Head}
use Rattle.frame_io.specs.declared.header.Header.{Header}
use Rattle.frame_io.specs.declared.header.Header.TheVariants.{Whole, Cut as HeaderCut, Bad}
use Rattle.frame_io.specs.declared.limits.Limits.{Limits}
use Rattle.frame_io.specs.declared.message.Message.{Message}
use Rattle.frame_io.specs.Piece.{header_at}

-- What is read: the messages in order, how it ends, and the number of bytes of the whole pieces before the end.
pub record Outcome : Type 0 where
  pub messages : List Message
  pub ending : Ending
  pub offset : ℕ

-- It ends here.
abbrev pub stops : Ending → ℕ → Outcome
stops ending offset = record { messages = []; ending = ending; offset = offset }

-- A message comes first.
abbrev pub gives : Message → Outcome → Outcome
gives message outcome = record outcome { messages = message ∷ outcome.messages }

-- Messages that were given before what is read.
abbrev pub behind : List Message → Outcome → Outcome
behind messages outcome = record outcome { messages = messages ++ outcome.messages }

-- Open channels are messages that are begun. The bytes of one, or none where it isn't open.
abbrev pub bytes_of : ℕ → List Message → List ℕ
bytes_of channel [] = []
bytes_of channel (message ∷ channels) = if nat_eq message.channel channel then message.bytes else bytes_of channel channels

-- Whether a channel is open.
abbrev pub is_open : ℕ → List Message → Bool
is_open channel [] = false
is_open channel (message ∷ channels) = if nat_eq message.channel channel then true else is_open channel channels

-- The channels without this one.
abbrev pub without : ℕ → List Message → List Message
without channel [] = []
without channel (message ∷ channels) = if nat_eq message.channel channel then channels else message ∷ without channel channels

-- Whether a piece would open one channel too many: it isn't the last one of its message, and its channel isn't open.
abbrev pub is_one_more : Limits → List Message → Head → Bool
is_one_more limits channels head = not head.last && not (is_open head.channel channels) && nat_le limits.channels (length channels)

-- Why a piece is refused, before its bytes: it would open one channel too many, or its channel's bytes would be too many.
abbrev pub refusal : Limits → List Message → Head → Option BadFrame
refusal limits channels head = if is_one_more limits channels head then Some Channels
    else if nat_lt limits.bytes (length (bytes_of head.channel channels) + head.size) then Some Long else None

-- What is read behind a whole piece, by what is read from its end on: the last piece of a message gives it, and another leaves its channel
-- open.
abbrev pub ended : (List Message → List ℕ → Outcome) → List Message → Begun → List ℕ → List ℕ → Outcome
ended next channels piece bytes rest = if piece.last then gives (record { channel = piece.channel; bytes = bytes }) (next channels rest)
    else next (channels ++ record { channel = piece.channel; bytes = bytes } ∷ []) rest

-- What is read inside a piece, by the channel's bytes so far, and those that follow.
abbrev pub inside : (List Message → ℕ → List ℕ → Outcome) → List Message → ℕ → Begun → List ℕ → List ℕ → Outcome
inside next channels offset piece bytes rest = if nat_lt (length rest) piece.lacks then stops (Fault Cut) offset
    else ended (λ o r. next o (offset + piece.size) r) channels piece (bytes ++ take piece.lacks rest) (drop piece.lacks rest)

-- A piece that is begun with a header of so many bytes.
abbrev pub begun : Head → ℕ → Begun
begun head count = record { channel = head.channel; last = head.last; lacks = head.size; size = count + head.size }

-- How it ends where no whole header follows: with an end of the stream between messages, or too early.
abbrev pub ending_of : List Message → List ℕ → Ending
ending_of [] [] = End
ending_of [] (byte ∷ rest) = Fault Cut
ending_of (message ∷ channels) rest = Fault Cut

-- What is read behind a header, unless the piece is refused.
abbrev pub taken : (List Message → ℕ → List ℕ → Outcome) → List Message → ℕ → Head → ℕ → List ℕ → Option BadFrame → Outcome
taken next channels offset head count rest (Some fault) = stops (Fault fault) offset
taken next channels offset head count rest None =
    inside next (without head.channel channels) offset (begun head count) (bytes_of head.channel channels) rest

-- What is read from a piece on, by what stands there.
abbrev pub reads_at : (List Message → ℕ → List ℕ → Outcome) → Limits → List Message → ℕ → List ℕ → Header → Outcome
reads_at next limits channels offset bytes (Whole head count) =
    taken next channels offset head count (drop count bytes) (refusal limits channels head)
reads_at next limits channels offset bytes HeaderCut = stops (ending_of channels bytes) offset
reads_at next limits channels offset bytes (Bad fault) = stops (Fault fault) offset

-- What is read of so many pieces at most.
abbrev pub reads : ℕ → Limits → List Message → ℕ → List ℕ → Outcome
reads zero limits channels offset bytes = stops End offset
reads (suc most) limits channels offset bytes = reads_at (λ o n b. reads most limits o n b) limits channels offset bytes (header_at bytes)

-- What is read from an offset on, with these channels open. There are no more pieces than bytes.
unfoldable pub read_from : Limits → List Message → ℕ → List ℕ → Outcome
read_from limits channels offset bytes = reads (suc (length bytes)) limits channels offset bytes

-- What a stream of pieces is read as.
abbrev pub read_frames : Limits → List ℕ → Outcome
read_frames limits bytes = read_from limits [] 0 bytes
