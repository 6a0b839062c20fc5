-- What a reader keeps between its polls, and what is still to be read by it. Each clause of a reader cites it.
use Rattle.std.specs.Prelude.{ℕ, ◌≡◌, ◌+◌, ◌<◌, ◌≤◌, false, Option, None, Some, IfSome, List, [], ◌∷◌, ◌++◌, length}
use Rattle.frame_io.specs.declared.fault.Ending.{Ending}
use Rattle.frame_io.specs.declared.fault.Ending.TheVariants.{End, Fault}
use Rattle.frame_io.specs.declared.fault.BadFrame.{BadFrame}
use Rattle.frame_io.specs.declared.fault.BadFrame.TheVariants.{Number, Large, Flag, Channels, Long, Cut}
use Rattle.frame_io.specs.declared.fault.FrameFault.{FrameFault}
use Rattle.frame_io.specs.declared.fault.FrameFault.TheVariants.{Number as AtNumber, Large as AtLarge, Flag as AtFlag}
use Rattle.frame_io.specs.declared.fault.FrameFault.TheVariants.{Channels as AtChannels, Long as AtLong, Cut as AtCut, Io, OutOfMemory}
use Rattle.frame_io.specs.declared.header.Begun.{Begun}
use Rattle.frame_io.specs.declared.header.Header.TheVariants.{Cut as HeaderCut}
use Rattle.frame_io.specs.declared.limits.Limits.{Limits}
use Rattle.frame_io.specs.declared.message.Message.{Message}
use Rattle.frame_io.specs.declared.message.MessagePoll.{MessagePoll}
use Rattle.frame_io.specs.declared.message.MessagePoll.TheVariants.{Message as Given, End as AtEnd, Pending, Again, Fault as AtFault}
use Rattle.frame_io.specs.Piece.{header_at}
use Rattle.frame_io.specs.Frames.{Outcome, stops, gives, inside, read_from}

-- What is kept: the limits, the open channels, the bytes of a header that is begun, the piece that is begun with its channel's bytes so
-- far, how the reading ended, and the number of bytes of the whole pieces.
pub record Decoding : Type 0 where
  pub limits : Limits
  pub channels : List Message
  pub head : List ℕ
  pub piece : Option Begun
  pub bytes : List ℕ
  pub stop : Option Ending
  pub offset : ℕ

-- Nothing was read.
abbrev pub fresh : Limits → Decoding
fresh limits = record { limits = limits; channels = []; head = []; piece = None; bytes = []; stop = None; offset = 0 }

-- What is still to be read, by the bytes that are left: inside a piece, or from a header on.
abbrev pub rest_in : Decoding → Option Begun → List ℕ → Outcome
rest_in d (Some piece) left = inside (λ o n b. read_from d.limits o n b) d.channels d.offset piece d.bytes left
rest_in d None left = read_from d.limits d.channels d.offset (d.head ++ left)

-- The same, unless the reading ended.
abbrev pub rest_at : Decoding → Option Ending → List ℕ → Outcome
rest_at d (Some ending) left = stops ending d.offset
rest_at d None left = rest_in d d.piece left

abbrev pub rest_of : Decoding → List ℕ → Outcome
rest_of d left = rest_at d d.stop left

-- Each of the channels has so many bytes at most.
abbrev pub AreShort : ℕ → List Message → Type 0
AreShort most [] = Unit {0}
AreShort most (message ∷ channels) = (length message.bytes ≤ most) × AreShort most channels

-- What is kept is within the limits: no more channels, and no more bytes of each, with those of a begun piece that are to come.
pub record IsBounded (limits : Limits) (channels : List Message) (piece : Option Begun) (bytes : List ℕ) : Type 0 where
  pub few : length channels ≤ limits.channels
  pub short : AreShort limits.bytes channels
  pub within : length bytes ≤ limits.bytes
  pub begun : IfSome piece (λ p. (length bytes + p.lacks ≤ limits.bytes) × (p.last ≡ false → length channels < limits.channels))

-- What is kept of a header is less than a whole one, and nothing inside a piece, which has 65547 bytes at most; and it is bounded.
pub record IsDecoding (limits : Limits) (channels : List Message) (head : List ℕ) (piece : Option Begun) (bytes : List ℕ) : Type 0 where
  pub part : header_at head ≡ HeaderCut
  pub none : IfSome piece (λ p. (head ≡ []) × (p.size ≤ 65547))
  pub bound : IsBounded limits channels piece bytes

-- What was to be read is this end alone, and still is.
pub record Stops (ending : Ending) (was now : Outcome) : Type 0 where
  pub nothing : was.messages ≡ []
  pub ends : was.ending ≡ ending
  pub same : now ≡ was

-- A poll that answers a fault: the stream's own and a lack of memory change nothing of what is to be read, and each other is its end.
abbrev pub Faults : Outcome → Outcome → FrameFault → Type 0
Faults was now AtNumber = Stops (Fault Number) was now
Faults was now AtLarge = Stops (Fault Large) was now
Faults was now AtFlag = Stops (Fault Flag) was now
Faults was now AtChannels = Stops (Fault Channels) was now
Faults was now AtLong = Stops (Fault Long) was now
Faults was now AtCut = Stops (Fault Cut) was now
Faults was now (Io fault) = now ≡ was
Faults was now OutOfMemory = now ≡ was

-- A poll: a message that it gives is the next one of what was to be read, an end is its end, and else it stays the same.
abbrev pub Polled : Outcome → Outcome → MessagePoll → Type 0
Polled was now (Given message) = was ≡ gives message now
Polled was now AtEnd = Stops End was now
Polled was now Pending = now ≡ was
Polled was now Again = now ≡ was
Polled was now (AtFault fault) = Faults was now fault

-- A poll that answers an end, or a fault of a piece, has stopped the reader there: so its offset is that of the end.
abbrev pub IsStopAt : Option Ending → FrameFault → Type 0
IsStopAt stop AtNumber = stop ≡ Some (Fault Number)
IsStopAt stop AtLarge = stop ≡ Some (Fault Large)
IsStopAt stop AtFlag = stop ≡ Some (Fault Flag)
IsStopAt stop AtChannels = stop ≡ Some (Fault Channels)
IsStopAt stop AtLong = stop ≡ Some (Fault Long)
IsStopAt stop AtCut = stop ≡ Some (Fault Cut)
IsStopAt stop (Io fault) = Unit {0}
IsStopAt stop OutOfMemory = Unit {0}

abbrev pub IsStop : Option Ending → MessagePoll → Type 0
IsStop stop (Given message) = Unit {0}
IsStop stop AtEnd = stop ≡ Some End
IsStop stop Pending = Unit {0}
IsStop stop Again = Unit {0}
IsStop stop (AtFault fault) = IsStopAt stop fault

-- The answer that an end gives.
abbrev pub fault_of : BadFrame → FrameFault
fault_of Number = AtNumber
fault_of Large = AtLarge
fault_of Flag = AtFlag
fault_of Channels = AtChannels
fault_of Long = AtLong
fault_of Cut = AtCut

abbrev pub answer_of : Ending → MessagePoll
answer_of End = AtEnd
answer_of (Fault fault) = AtFault (fault_of fault)

-- A fault that isn't the stream's own.
abbrev pub IsOwnFault : FrameFault → Type 0
IsOwnFault AtNumber = Unit {0}
IsOwnFault AtLarge = Unit {0}
IsOwnFault AtFlag = Unit {0}
IsOwnFault AtChannels = Unit {0}
IsOwnFault AtLong = Unit {0}
IsOwnFault AtCut = Unit {0}
IsOwnFault (Io fault) = ⊥
IsOwnFault OutOfMemory = Unit {0}

-- An answer that a reader gives by itself: it is no pause and no fault of the stream, and another poll may be made at once only if this
-- is so.
abbrev pub IsOwn : MessagePoll → Type 0 → Type 0
IsOwn (Given message) P = Unit {0}
IsOwn AtEnd P = Unit {0}
IsOwn Pending P = ⊥
IsOwn Again P = P
IsOwn (AtFault fault) P = IsOwnFault fault
