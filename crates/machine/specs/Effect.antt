-- What moves when a call is executed.
use Rattle.std.specs.Prelude.{ℕ, ◌+◌, ◌-◌, List, [], ◌∷◌, ◌++◌, length, take, drop, replicate, Option, Some, None, slice_get}
use Rattle.machine.specs.declared.world.HandleKind.{HandleKind}
use Rattle.machine.specs.declared.world.HandleKind.TheVariants.{Stream, File, Pipe}
use Rattle.machine.specs.declared.world.HandleState.{HandleState}
use Rattle.machine.specs.declared.request.Call.{Call}
use Rattle.machine.specs.declared.request.Call.TheVariants.{In, Out, MessageIn, MessageOut, ReadAt, WriteAt, ToPipe, FromPipe, Accept}
use Rattle.machine.specs.declared.request.Call.TheVariants.{Open, Connect, Fsync, PollAdd, Path}
use Rattle.machine.specs.declared.request.Told.{Told}
use Rattle.machine.specs.declared.request.Told.TheVariants.{Count, Fail}
use Rattle.machine.specs.declared.request.Outcome.{Outcome}
use Rattle.machine.specs.Lists.{amended}
use Rattle.machine.specs.World.{fresh, input_at, messages_at, with_input, with_output}

-- What an executed call leaves: the handles, the bytes that came, and the outcome.
pub record Effect : Type 0 where
  pub world : List HandleState
  pub got : List ℕ
  pub outcome : Outcome

-- The first k bytes leave the input.
abbrev pub without_front : ℕ → HandleState → HandleState
without_front k handle = record handle { input = drop k handle.input }

-- The first message leaves, whatever was read of it.
abbrev pub without_message : HandleState → HandleState
without_message handle = record handle { messages_in = drop 1 handle.messages_in }

-- Bytes that are sent to a handle of a kind: they join a pipe's input, and another kind's output.
abbrev pub sent_to_kind : HandleKind → List ℕ → HandleState → HandleState
sent_to_kind Pipe bytes handle = with_input bytes handle
sent_to_kind _ bytes handle = with_output bytes handle

-- Bytes that are sent to a handle.
abbrev pub with_sent : List ℕ → HandleState → HandleState
with_sent bytes handle = sent_to_kind handle.kind bytes handle

-- A message joins those that were sent: its address, where it has one, and its bytes.
abbrev pub with_sent_message : Option ℕ → List ℕ → HandleState → HandleState
with_sent_message addr bytes handle = record handle { messages_out = handle.messages_out ++ (addr, bytes) ∷ [] }

-- A file's bytes with some that were written: they are there from a position on, and a gap before them is zeros. No bytes change nothing.
abbrev pub overwritten : List ℕ → ℕ → List ℕ → List ℕ
overwritten bytes pos [] = bytes
overwritten bytes pos (byte ∷ written) =
    take pos (bytes ++ replicate (pos - length bytes) 0) ++ (byte ∷ written) ++ drop (pos + length (byte ∷ written)) bytes

-- Bytes are written to a file from a position on.
abbrev pub with_written : ℕ → List ℕ → HandleState → HandleState
with_written pos written handle = record handle { input = overwritten handle.input pos written }

-- These handles are left, no bytes come, and the outcome is a count.
abbrev pub nothing_got : List HandleState → ℕ → Effect
nothing_got world k = record { world = world; got = []; outcome = Outcome.Count k }

-- These handles are left, and the first k bytes of a message come, with its address; nothing comes where there is no message.
abbrev pub message_effect : List HandleState → ℕ → Option (ℕ × List ℕ) → Effect
message_effect world k None = nothing_got world k
message_effect world k (Some message) = record { world = world; got = take k message.1; outcome = Outcome.From k message.0 }

-- A new handle of a kind is left behind the others, and the outcome names it.
abbrev pub making : List HandleState → HandleKind → Effect
making world kind = record { world = world ++ fresh kind ∷ []; got = []; outcome = Outcome.Made (length world) }

-- The handle that an outcome names as made; None where it made none.
abbrev pub made_by : Outcome → Option ℕ
made_by (Outcome.Made h) = Some h
made_by _ = None

-- What a count leaves, by the row of the call; `sent` are the bytes to send.
abbrev pub count_effect : List HandleState → Call → List ℕ → ℕ → Effect
count_effect world (In h want) sent k =
    record { world = amended world h (without_front k); got = take k (input_at world h); outcome = Outcome.Count k }
count_effect world (Out h offered) sent k = nothing_got (amended world h (with_sent (take k sent))) k
count_effect world (MessageIn h want) sent k = message_effect (amended world h without_message) k (slice_get (messages_at world h) 0)
count_effect world (MessageOut h addr offered) sent k = nothing_got (amended world h (with_sent_message addr (take k sent))) k
count_effect world (ReadAt h pos want) sent k =
    record { world = world; got = take k (drop pos (input_at world h)); outcome = Outcome.Count k }
count_effect world (WriteAt h pos offered) sent k = nothing_got (amended world h (with_written pos (take k sent))) k
count_effect world (ToPipe h pipe want) sent k =
    nothing_got (amended (amended world h (without_front k)) pipe (with_sent (take k (input_at world h)))) k
count_effect world (FromPipe pipe h want) sent k =
    nothing_got (amended (amended world pipe (without_front k)) h (with_sent (take k (input_at world pipe)))) k
count_effect world (Accept h) sent k = making world Stream
count_effect world Open sent k = making world File
count_effect world (Connect h) sent k = nothing_got world k
count_effect world (Fsync h) sent k = nothing_got world k
count_effect world (PollAdd h read) sent k = nothing_got world k
count_effect world Path sent k = nothing_got world k

-- Nothing moves.
abbrev pub unmoved : List HandleState → Outcome → Effect
unmoved world outcome = record { world = world; got = []; outcome = outcome }

-- What an executed close leaves: nothing moves.
abbrev pub close_effect : List HandleState → Told → Effect
close_effect world (Count k) = unmoved world (Outcome.Count k)
close_effect world (Fail e) = unmoved world (Outcome.Fail e)

-- What an executed call leaves: an error moves nothing.
abbrev pub effect : List HandleState → Call → List ℕ → Told → Effect
effect world call sent (Count k) = count_effect world call sent k
effect world call sent (Fail e) = unmoved world (Outcome.Fail e)
