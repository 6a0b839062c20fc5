-- The message that a line writes: `C HEX`, a channel and its bytes.
use Rattle.std.specs.Prelude.{ℕ, ◌+◌, ◌==◌, nat_le, if◌then◌else◌, Option, None, Some, List, [], ◌∷◌, length, take, drop}
use Rattle.std.specs.List.{position}
use Rattle.event_text.specs.TextReads.{bytes_of, number_below}
use Rattle.frame_io.specs.declared.limits.TheConstants.{MOST_IN_MESSAGE}
use Rattle.frame_io.specs.declared.message.Message.{Message}

-- The message of a channel and bytes that two words write, if both do and the bytes are no more than a message has.
abbrev pub message_with : Option ℕ → Option (List ℕ) → Option Message
message_with None bytes = None
message_with (Some channel) None = None
message_with (Some channel) (Some bytes) =
    if nat_le (length bytes) MOST_IN_MESSAGE then Some (record { channel = channel; bytes = bytes }) else None

-- The message that a line writes, by the place of its first space: a channel before it, in decimal digits, and bytes behind it, in
-- lower-case hexadecimal digits, or `-` for none.
abbrev pub message_at : List ℕ → Option ℕ → Option Message
message_at line None = None
message_at line (Some at) = message_with (number_below 4294967296 (take at line)) (bytes_of (drop (at + 1) line))

-- The message that a line writes.
unfoldable pub message_of : List ℕ → Option Message
message_of line = message_at line (position (λ byte. byte == 32) line)

-- A message in front of others; without it there are none.
abbrev pub followed : Option Message → List Message → List Message
followed None messages = []
followed (Some message) messages = message ∷ messages

-- The messages that lines write, up to the first line that writes none.
abbrev pub messages_of : List (List ℕ) → List Message
messages_of [] = []
messages_of (line ∷ lines) = followed (message_of line) (messages_of lines)
