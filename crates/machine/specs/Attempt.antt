-- What a call on handles in memory makes at once, without waiting. Cited by `World::attempt` and `World::call`, and by the definitions of
-- the readiness driver. A further call is a further case of `awaited`, `fits` and `greatest`, of `receiver` where bytes go to a handle, and
-- of no other definition.
use Rattle.std.specs.Prelude.{ℕ, ◌-◌, Bool, true, false, not, ◌&&◌, ◌||◌, ◌==◌, nat_le, List, [], ◌∷◌, length, drop, min}
use Rattle.std.specs.Prelude.{Option, Some, None, slice_get}
use Rattle.machine.specs.declared.world.call.TheConstants.{INVALID, BROKEN_PIPE, FILE_TOO_BIG}
use Rattle.machine.specs.declared.world.TheConstants.{MOST_FILE}
use Rattle.machine.specs.declared.request.Call.{Call}
use Rattle.machine.specs.declared.request.Call.TheVariants.{In, Out, MessageIn, MessageOut, ReadAt, WriteAt, ToPipe, FromPipe, Accept}
use Rattle.machine.specs.declared.request.Call.TheVariants.{Open, Connect, Fsync, PollAdd, Path}
use Rattle.machine.specs.declared.request.Told.{Told}
use Rattle.machine.specs.declared.request.Told.TheVariants.{Count, Fail}
use Rattle.machine.specs.declared.world.HandleKind.{HandleKind}
use Rattle.machine.specs.declared.world.HandleKind.TheVariants.{Datagram, Listener}
use Rattle.machine.specs.declared.world.HandleState.{HandleState}
use Rattle.machine.specs.Lists.{is_empty, passes}
use Rattle.machine.specs.World.{gives_bytes, is_datagram, is_file, is_pipe, is_listener, connects, input_at, messages_at}

-- The handle of a number is there, and its kind passes a test.
abbrev pub kind_at : (HandleKind → Bool) → List HandleState → ℕ → Bool
kind_at test world h = passes (λ handle. test handle.kind) (slice_get world h)

-- The handle of a number is there, and is a file.
abbrev pub is_file_at : List HandleState → ℕ → Bool
is_file_at world h = kind_at is_file world h

-- A handle of a kind is readable: a listener always is; a datagram is where a message waits on it; another one is where a byte waits on
-- it, or its end is marked.
abbrev pub readable_by_kind : HandleKind → HandleState → Bool
readable_by_kind Datagram handle = not (is_empty handle.messages_in)
readable_by_kind Listener handle = true
readable_by_kind _ handle = not (is_empty handle.input) || handle.ended

-- A handle is readable.
abbrev pub is_readable : HandleState → Bool
is_readable handle = readable_by_kind handle.kind handle

-- The handle of a number is there, and is readable.
abbrev pub is_readable_at : List HandleState → ℕ → Bool
is_readable_at world h = passes is_readable (slice_get world h)

-- The handle that a call reads on, if it reads on one.
abbrev pub awaited : Call → Option ℕ
awaited (In h want) = Some h
awaited (MessageIn h want) = Some h
awaited (ReadAt h pos want) = Some h
awaited (ToPipe h pipe want) = Some h
awaited (Accept h) = Some h
awaited (PollAdd h true) = Some h
awaited _ = None

-- A read of a handle waits for nothing: it is a file, or is readable.
abbrev pub reads_at_once : HandleState → Bool
reads_at_once handle = is_file handle.kind || is_readable handle

-- A call waits: the handle that it reads on is no file, and isn't readable.
abbrev pub is_early : List HandleState → Option ℕ → Bool
is_early world None = false
is_early world (Some h) = not (passes reads_at_once (slice_get world h))

-- The handles of a call are there, of kinds that it may have, and not the same one twice.
abbrev pub fits : List HandleState → Call → Bool
fits world (In h want) = kind_at gives_bytes world h
fits world (Out h offered) = kind_at gives_bytes world h
fits world (MessageIn h want) = kind_at is_datagram world h
fits world (MessageOut h addr offered) = kind_at is_datagram world h
fits world (ReadAt h pos want) = kind_at is_file world h
fits world (WriteAt h pos offered) = kind_at is_file world h
fits world (ToPipe h pipe want) = not (h == pipe) && kind_at gives_bytes world h && kind_at is_pipe world pipe
fits world (FromPipe pipe h want) = not (pipe == h) && kind_at is_pipe world pipe && kind_at gives_bytes world h
fits world (Accept h) = kind_at is_listener world h
fits world Open = true
fits world (Connect h) = kind_at connects world h
fits world (Fsync h) = kind_at is_file world h
fits world (PollAdd h read) = kind_at (λ kind. true) world h
fits world Path = true

-- The handle that takes the bytes of a call, if one may be a pipe.
abbrev pub receiver : Call → Option ℕ
receiver (Out h offered) = Some h
receiver (ToPipe h pipe want) = Some pipe
receiver (FromPipe pipe h want) = Some h
receiver _ = None

-- A handle is a pipe whose end is marked.
abbrev pub is_shut : HandleState → Bool
is_shut handle = is_pipe handle.kind && handle.ended

-- The handle that takes the bytes of a call is a pipe whose end is marked.
abbrev pub is_broken : List HandleState → Option ℕ → Bool
is_broken world None = false
is_broken world (Some h) = passes is_shut (slice_get world h)

-- A pipe has no bytes, and more may come.
abbrev pub is_drained : HandleState → Bool
is_drained handle = is_empty handle.input && not handle.ended

-- A splice of some bytes from a pipe that has none, while more may come.
abbrev pub is_dry : List HandleState → Call → Bool
is_dry world (FromPipe pipe h want) = passes is_drained (slice_get world pipe) && not (want == 0)
is_dry world _ = false

-- A write of some bytes at `MOST_FILE` or behind it.
abbrev pub is_too_far : Call → Bool
is_too_far (WriteAt h pos offered) = not (offered == 0) && nat_le MOST_FILE pos
is_too_far _ = false

-- The length of the first message; 0 where there is none.
abbrev pub first_length : List (ℕ × List ℕ) → ℕ
first_length [] = 0
first_length (message ∷ messages) = length message.1

-- The greatest count that a call may have.
abbrev pub greatest : List HandleState → Call → ℕ
greatest world (In h want) = min want (length (input_at world h))
greatest world (Out h offered) = offered
greatest world (MessageIn h want) = min want (first_length (messages_at world h))
greatest world (MessageOut h addr offered) = offered
greatest world (ReadAt h pos want) = min want (length (drop pos (input_at world h)))
greatest world (WriteAt h pos offered) = min offered (MOST_FILE - pos)
greatest world (ToPipe h pipe want) = min want (length (input_at world h))
greatest world (FromPipe pipe h want) = min want (length (input_at world pipe))
greatest world _ = 0

-- This answer where a test passes, else the next one.
abbrev pub answer_if : Bool → Option Told → Option Told → Option Told
answer_if true answer next = answer
answer_if false answer next = next

-- What is reported of a call that is made at once, by the first of these tests that passes; None where it would block.
abbrev pub attempt : List HandleState → Call → Option Told
attempt world call =
    answer_if (is_early world (awaited call)) None (
    answer_if (not (fits world call)) (Some (Fail INVALID)) (
    answer_if (is_broken world (receiver call)) (Some (Fail BROKEN_PIPE)) (
    answer_if (is_dry world call) None (
    answer_if (is_too_far call) (Some (Fail FILE_TOO_BIG)) (
    Some (Count (greatest world call)))))))
