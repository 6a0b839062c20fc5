-- Pieces of several channels that take turns: each channel's messages are those of its own pieces.
use Rattle.std.specs.Prelude.{ℕ, ◌≡◌, ◌<◌, ◌≤◌, Bool, nat_eq, if◌then◌else◌, List, [], ◌∷◌, ◌++◌, length}
use Rattle.frame_io.specs.declared.fault.BadFrame.TheVariants.{Number, Large, Flag, Channels, Long, Cut}
use Rattle.frame_io.specs.declared.fault.Ending.{Ending}
use Rattle.frame_io.specs.declared.fault.Ending.TheVariants.{End, Fault}
use Rattle.frame_io.specs.declared.limits.Limits.{Limits}
use Rattle.frame_io.specs.declared.message.Message.{Message}
use Rattle.frame_io.specs.Frames.{read_frames}
use Rattle.frame_io.specs.Piece.{piece}

-- A part of a message on a channel, and whether it is the last one.
pub record Part : Type 0 where
  pub channel : ℕ
  pub bytes : List ℕ
  pub last : Bool

-- The pieces of parts, one behind the other.
abbrev pub pieces_of_parts : List Part → List ℕ
pieces_of_parts [] = []
pieces_of_parts (part ∷ parts) = piece part.channel part.bytes part.last ++ pieces_of_parts parts

-- Parts that pieces hold: of a channel below 2 ^ 32, and with at most 65536 bytes.
abbrev pub ArePieces : List Part → Type 0
ArePieces [] = Unit {0}
ArePieces (part ∷ parts) = (part.channel < 4294967296) × (length part.bytes ≤ 65536) × ArePieces parts

-- The parts of one channel, in order.
abbrev pub parts_of : ℕ → List Part → List Part
parts_of channel [] = []
parts_of channel (part ∷ parts) = if nat_eq part.channel channel then part ∷ parts_of channel parts else parts_of channel parts

-- The messages that the parts of one channel make, behind bytes of one that is begun.
abbrev pub made_of : List ℕ → List Part → List (List ℕ)
made_of bytes [] = []
made_of bytes (part ∷ parts) = if part.last then (bytes ++ part.bytes) ∷ made_of [] parts else made_of (bytes ++ part.bytes) parts

-- The bytes of the messages on one channel, in order.
abbrev pub messages_on : ℕ → List Message → List (List ℕ)
messages_on channel [] = []
messages_on channel (message ∷ messages) =
    if nat_eq message.channel channel then message.bytes ∷ messages_on channel messages else messages_on channel messages

-- A reading that ended where the stream did: no piece was refused.
abbrev pub IsReadWhole : Ending → Type 0
IsReadWhole End = Unit {0}
IsReadWhole (Fault Number) = ⊥
IsReadWhole (Fault Large) = ⊥
IsReadWhole (Fault Flag) = ⊥
IsReadWhole (Fault Channels) = ⊥
IsReadWhole (Fault Long) = ⊥
IsReadWhole (Fault Cut) = Unit {0}

-- However the pieces of channels take turns, the messages of each channel are those that its own parts make, in order, unless a piece is
-- refused, as one channel or one byte too many.
abbrev pub TurnsAreRead : Type 0
TurnsAreRead = (limits : Limits) (parts : List Part) (channel : ℕ) → ArePieces parts
    → IsReadWhole (read_frames limits (pieces_of_parts parts)).ending
    → messages_on channel (read_frames limits (pieces_of_parts parts)).messages ≡ made_of [] (parts_of channel parts)
