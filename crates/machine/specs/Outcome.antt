-- Which outcomes a call may have.
use Rattle.std.specs.Prelude.{ℕ, Bool, false, not, ◌+◌, ◌&&◌, ◌||◌, ◌==◌, nat_le, min, if◌then◌else◌, List, length, drop, slice_get}
use Rattle.std.specs.Prelude.{Option}
use Rattle.machine.specs.declared.request.TheConstants.{CANCELED, LAST_ERROR}
use Rattle.machine.specs.declared.world.TheConstants.{MOST_FILE}
use Rattle.machine.specs.declared.world.HandleState.{HandleState}
use Rattle.machine.specs.declared.request.Call.{Call}
use Rattle.machine.specs.declared.request.Call.TheVariants.{In, Out, MessageIn, MessageOut, ReadAt, WriteAt, ToPipe, FromPipe, Accept}
use Rattle.machine.specs.declared.request.Call.TheVariants.{Open, Connect, Fsync, PollAdd, Path}
use Rattle.machine.specs.declared.request.Told.{Told}
use Rattle.machine.specs.declared.request.Told.TheVariants.{Count, Fail}
use Rattle.machine.specs.Lists.{passes}
use Rattle.machine.specs.World.{gives_bytes, takes_bytes, is_datagram, is_file, is_pipe, is_listener, connects}

-- No more bytes come: the input is empty, and its end is marked.
abbrev pub is_spent : HandleState → Bool
is_spent handle = handle.ended && length handle.input == 0

-- Bytes in: at most the want and the input; 0 only where the want is 0, or the input is empty and ended.
abbrev pub may_read : ℕ → ℕ → HandleState → Bool
may_read want k handle = nat_le k want && nat_le k (length handle.input) && (nat_le 1 k || want == 0 || is_spent handle)

-- Bytes out: at most all that are offered; 0 only where there are none.
abbrev pub may_send : ℕ → ℕ → Bool
may_send offered k = nat_le k offered && (nat_le 1 k || offered == 0)

-- Bytes that are there, of a file or a pipe: at most the want and the bytes; 0 only where either is 0.
abbrev pub may_take : ℕ → ℕ → List ℕ → Bool
may_take want k bytes = nat_le k want && nat_le k (length bytes) && (nat_le 1 k || want == 0 || length bytes == 0)

-- A message in: there is one, and the count is the lesser of the want and its bytes.
abbrev pub may_receive : ℕ → ℕ → Option (ℕ × List ℕ) → Bool
may_receive want k first = passes (λ message. k == min want (length message.1)) first

-- A write to a file: as bytes out, and some bytes end at `MOST_FILE` at most.
abbrev pub may_write : ℕ → ℕ → ℕ → Bool
may_write pos offered k = may_send offered k && (k == 0 || nat_le (pos + k) MOST_FILE)

-- A count of a splice: the handle that gives, by a test of what it has, another one that takes, and the two aren't the same.
abbrev pub may_splice : List HandleState → ℕ → (HandleState → Bool) → ℕ → (HandleState → Bool) → Bool
may_splice world from gives to takes = not (from == to) && passes gives (slice_get world from) && passes takes (slice_get world to)

-- The counts of each call: on a handle that isn't in the world, and on one of another kind, there is none.
abbrev pub may_count : List HandleState → Call → ℕ → Bool
may_count world (In h want) k = passes (λ handle. gives_bytes handle.kind && may_read want k handle) (slice_get world h)
may_count world (Out h offered) k = passes (λ handle. takes_bytes handle && may_send offered k) (slice_get world h)
may_count world (MessageIn h want) k =
    passes (λ handle. is_datagram handle.kind && may_receive want k (slice_get handle.messages_in 0)) (slice_get world h)
may_count world (MessageOut h addr offered) k = passes (λ handle. is_datagram handle.kind && k == offered) (slice_get world h)
may_count world (ReadAt h pos want) k =
    passes (λ handle. is_file handle.kind && may_take want k (drop pos handle.input)) (slice_get world h)
may_count world (WriteAt h pos offered) k = passes (λ handle. is_file handle.kind && may_write pos offered k) (slice_get world h)
may_count world (ToPipe h pipe want) k =
    may_splice world h (λ handle. gives_bytes handle.kind && may_read want k handle) pipe
    (λ handle. is_pipe handle.kind && not handle.ended)
may_count world (FromPipe pipe h want) k =
    may_splice world pipe (λ handle. is_pipe handle.kind && may_take want k handle.input) h takes_bytes
may_count world (Accept h) k = passes (λ handle. is_listener handle.kind && k == 0) (slice_get world h)
may_count world Open k = k == 0
may_count world (Connect h) k = passes (λ handle. connects handle.kind && k == 0) (slice_get world h)
may_count world (Fsync h) k = passes (λ handle. is_file handle.kind && k == 0) (slice_get world h)
may_count world (PollAdd h read) k = passes (λ handle. k == 0) (slice_get world h)
may_count world Path k = k == 0

-- The error of a cancel may come exactly when the cancel was taken; every other one from 1 to the greatest always may.
abbrev pub may_fail : Bool → ℕ → Bool
may_fail canceled e = if e == CANCELED then canceled else nat_le 1 e && nat_le e LAST_ERROR

-- A close may end with the count 0, and with each error of what was never canceled.
abbrev pub may_close : Told → Bool
may_close (Count k) = k == 0
may_close (Fail e) = may_fail false e

-- A reported outcome is allowed to a call whose cancel was taken, or wasn't.
abbrev pub is_allowed : List HandleState → Bool → Call → Told → Bool
is_allowed world canceled call (Count k) = may_count world call k
is_allowed world canceled call (Fail e) = may_fail canceled e
