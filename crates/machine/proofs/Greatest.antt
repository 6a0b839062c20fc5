-- No count that a call may have is greater than its greatest.
use Rattle.std.proofs.Common.{◌≡◌, ℕ, ◌-◌, ◌≤◌, Bool, true, not, ◌&&◌, List, [], ◌∷◌, length, drop, Option, None, Some, min, arith}
use Rattle.std.proofs.Common.{unwrap_or, option_map}
use Rattle.std.specs.Prelude.{slice_get, ◌==◌}
use Rattle.std.proofs.lemmas.Bool.{eqb-true, false≢true}
use Rattle.std.proofs.lemmas.Bool.Decides.{leb_tells, eqb_tells}
use Rattle.machine.specs.declared.world.TheConstants.{MOST_FILE}
use Rattle.machine.specs.declared.world.HandleState.{HandleState}
use Rattle.machine.specs.declared.request.Call.{Call}
use Rattle.machine.specs.declared.request.Call.TheVariants.{In, Out, MessageIn, MessageOut, ReadAt, WriteAt, ToPipe, FromPipe, Accept}
use Rattle.machine.specs.declared.request.Call.TheVariants.{Open, Connect, Fsync, PollAdd, Path}
use Rattle.machine.specs.Lists.{passes}
use Rattle.machine.specs.World.{gives_bytes, takes_bytes, is_datagram, is_file, is_pipe, is_listener, connects}
use Rattle.machine.specs.Outcome.{may_count, may_read, may_send, may_take, may_receive, may_write}
use Rattle.machine.specs.Attempt.{first_length, greatest}
use Rattle.machine.proofs.Numbers.{and-left, and-right}

-- A test that passes of what was looked up bounds a number.
bound-there : (test : HandleState → Bool) (x : Option HandleState) (k : ℕ) (bound : Option HandleState → ℕ) →
    ((t : HandleState) → test t ≡ true → k ≤ bound (Some t)) → passes test x ≡ true → k ≤ bound x
bound-there test None k bound step h = absurd (false≢true h)
bound-there test (Some t) k bound step h = step t h

-- The bytes that wait on a handle that was looked up.
abbrev bytes_of : Option HandleState → List ℕ
bytes_of x = unwrap_or (option_map (λ handle. handle.input) x) []

-- The messages that wait on a handle that was looked up.
abbrev inbox_of : Option HandleState → List (ℕ × List ℕ)
inbox_of x = unwrap_or (option_map (λ handle. handle.messages_in) x) []

-- A read takes at most the want and the bytes.
most-read : (want k : ℕ) (t : HandleState) → (gives_bytes t.kind && may_read want k t) ≡ true → k ≤ min want (length t.input)
most-read want k t h = grind (arith, leb_tells)

-- At most all bytes are sent.
most-sent : (offered k : ℕ) (taking : Bool) → (taking && may_send offered k) ≡ true → k ≤ offered
most-sent offered k taking h = grind (arith, leb_tells)

-- A message gives at most the want and its bytes.
most-received : (want k : ℕ) (messages : List (ℕ × List ℕ)) → may_receive want k (slice_get messages 0) ≡ true →
    k ≤ min want (first_length messages)
most-received want k [] h = absurd (false≢true h)
most-received want k (message ∷ messages) h = omega (arith, eqb-true _ _ h)

-- A message is sent whole.
most-whole : (offered k : ℕ) (test : Bool) → (test && k == offered) ≡ true → k ≤ offered
most-whole offered k test h = omega (arith, eqb-true _ _ (and-right test (k == offered) h))

-- At most the want is taken of what is there, and no more than is there.
most-taken : (want k : ℕ) (test : Bool) (bytes : List ℕ) → (test && may_take want k bytes) ≡ true → k ≤ min want (length bytes)
most-taken want k test bytes h = grind (arith, leb_tells)

-- At most as many bytes are written as end at the greatest end.
most-written : (pos offered k : ℕ) (test : Bool) → (test && may_write pos offered k) ≡ true → k ≤ min offered (MOST_FILE - pos)
most-written pos offered k test h = grind (arith, leb_tells, eqb_tells)

-- No count that a call may have is greater than its greatest.
pub greatest_count : (world : List HandleState) (call : Call) (k : ℕ) → may_count world call k ≡ true → k ≤ greatest world call
greatest_count world (In h want) k p =
    bound-there (λ t. gives_bytes t.kind && may_read want k t) (slice_get world h) k (λ x. min want (length (bytes_of x)))
    (most-read want k) p
greatest_count world (Out h offered) k p =
    bound-there (λ t. takes_bytes t && may_send offered k) (slice_get world h) k (λ x. offered) (λ t. most-sent offered k (takes_bytes t)) p
greatest_count world (MessageIn h want) k p =
    bound-there (λ t. is_datagram t.kind && may_receive want k (slice_get t.messages_in 0)) (slice_get world h) k
    (λ x. min want (first_length (inbox_of x)))
    (λ t q. most-received want k t.messages_in (and-right (is_datagram t.kind) (may_receive want k (slice_get t.messages_in 0)) q)) p
greatest_count world (MessageOut h addr offered) k p =
    bound-there (λ t. is_datagram t.kind && k == offered) (slice_get world h) k (λ x. offered)
    (λ t. most-whole offered k (is_datagram t.kind)) p
greatest_count world (ReadAt h pos want) k p =
    bound-there (λ t. is_file t.kind && may_take want k (drop pos t.input)) (slice_get world h) k
    (λ x. min want (length (drop pos (bytes_of x)))) (λ t. most-taken want k (is_file t.kind) (drop pos t.input)) p
greatest_count world (WriteAt h pos offered) k p =
    bound-there (λ t. is_file t.kind && may_write pos offered k) (slice_get world h) k (λ x. min offered (MOST_FILE - pos))
    (λ t. most-written pos offered k (is_file t.kind)) p
greatest_count world (ToPipe h pipe want) k p =
    bound-there (λ t. gives_bytes t.kind && may_read want k t) (slice_get world h) k (λ x. min want (length (bytes_of x)))
    (most-read want k)
    (and-right (not (h == pipe)) _
    (and-left (not (h == pipe) && passes (λ t. gives_bytes t.kind && may_read want k t) (slice_get world h)) _ p))
greatest_count world (FromPipe pipe h want) k p =
    bound-there (λ t. is_pipe t.kind && may_take want k t.input) (slice_get world pipe) k (λ x. min want (length (bytes_of x)))
    (λ t. most-taken want k (is_pipe t.kind) t.input)
    (and-right (not (pipe == h)) _
    (and-left (not (pipe == h) && passes (λ t. is_pipe t.kind && may_take want k t.input) (slice_get world pipe)) _ p))
greatest_count world (Accept h) k p =
    bound-there (λ t. is_listener t.kind && k == 0) (slice_get world h) k (λ x. 0) (λ t. most-whole 0 k (is_listener t.kind)) p
greatest_count world Open k p = omega (arith, eqb-true k 0 p)
greatest_count world (Connect h) k p =
    bound-there (λ t. connects t.kind && k == 0) (slice_get world h) k (λ x. 0) (λ t. most-whole 0 k (connects t.kind)) p
greatest_count world (Fsync h) k p =
    bound-there (λ t. is_file t.kind && k == 0) (slice_get world h) k (λ x. 0) (λ t. most-whole 0 k (is_file t.kind)) p
greatest_count world (PollAdd h read) k p =
    bound-there (λ t. k == 0) (slice_get world h) k (λ x. 0) (λ t q. omega (arith, eqb-true k 0 q)) p
greatest_count world Path k p = omega (arith, eqb-true k 0 p)
