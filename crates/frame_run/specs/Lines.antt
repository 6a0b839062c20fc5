-- The lines that a stream of pieces is written as.
use Rattle.std.specs.Prelude.{ℕ, List, [], ◌∷◌, ◌++◌, codes, decimal}
use Rattle.event_text.specs.TextWords.{bytes_word}
use Rattle.frame_io.specs.declared.fault.BadFrame.{BadFrame}
use Rattle.frame_io.specs.declared.fault.BadFrame.TheVariants.{Number, Large, Flag, Channels, Long, Cut}
use Rattle.frame_io.specs.declared.fault.Ending.{Ending}
use Rattle.frame_io.specs.declared.fault.Ending.TheVariants.{End, Fault}
use Rattle.frame_io.specs.declared.message.Message.{Message}
use Rattle.frame_io.specs.Frames.{Outcome}

-- The line of a message: its channel and its bytes, in hexadecimal digits.
abbrev pub message_line : Message → List ℕ
message_line message = codes "message " ++ (decimal message.channel ++ (codes " " ++ (bytes_word message.bytes ++ 10 ∷ [])))

-- The lines of messages.
abbrev pub message_lines : List Message → List ℕ
message_lines [] = []
message_lines (message ∷ messages) = message_line message ++ message_lines messages

-- The name of what is wrong with a piece.
abbrev pub fault_name : BadFrame → List ℕ
fault_name Number = codes "Number"
fault_name Large = codes "Large"
fault_name Flag = codes "Flag"
fault_name Channels = codes "Channels"
fault_name Long = codes "Long"
fault_name Cut = codes "Cut"

-- The line of a wrong piece: where it starts, and what is wrong with it.
abbrev pub bad_line : ℕ → BadFrame → List ℕ
bad_line offset fault = codes "bad " ++ (decimal offset ++ (codes " " ++ (fault_name fault ++ 10 ∷ [])))

-- What stands behind the messages' lines: nothing at an end between messages.
abbrev pub ending_line : ℕ → Ending → List ℕ
ending_line offset End = []
ending_line offset (Fault fault) = bad_line offset fault

-- The lines of all that is read.
abbrev pub outcome_lines : Outcome → List ℕ
outcome_lines outcome = message_lines outcome.messages ++ ending_line outcome.offset outcome.ending
