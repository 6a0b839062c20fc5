-- What is reported of a call that is made at once is allowed to it, and no greater count is.
use Rattle.std.proofs.Common.{◌≡◌, ℕ, ◌+◌, ◌-◌, Bool, true, false, not, ◌&&◌, ◌||◌, List, [], ◌∷◌, length, drop, Option, None, Some}
use Rattle.std.proofs.Common.{refl, sym, ◌∙◌, ap, min, arith, unwrap_or, option_map}
use Rattle.std.specs.Prelude.{slice_get, ◌==◌, nat_le, IfSome}
use Rattle.std.proofs.lemmas.Bool.{false≢true, not-false}
use Rattle.std.proofs.lemmas.Bool.Decides.{leb_tells, eqb_tells}
use Rattle.machine.specs.declared.world.call.TheConstants.{INVALID, BROKEN_PIPE, FILE_TOO_BIG}
use Rattle.machine.specs.declared.world.TheConstants.{MOST_FILE}
use Rattle.machine.specs.declared.world.HandleState.{HandleState}
use Rattle.machine.specs.declared.world.HandleKind.{HandleKind}
use Rattle.machine.specs.declared.world.HandleKind.TheVariants.{Stream, Datagram, File, Pipe, Listener}
use Rattle.machine.specs.declared.request.Call.{Call}
use Rattle.machine.specs.declared.request.Call.TheVariants.{In, Out, MessageIn, MessageOut, ReadAt, WriteAt, ToPipe, FromPipe, Accept}
use Rattle.machine.specs.declared.request.Call.TheVariants.{Open, Connect, Fsync, PollAdd, Path}
use Rattle.machine.specs.declared.request.Told.{Told}
use Rattle.machine.specs.declared.request.Told.TheVariants.{Count, Fail}
use Rattle.machine.specs.Lists.{passes, is_empty}
use Rattle.machine.specs.World.{gives_bytes, takes_bytes, takes_if, is_datagram, is_file, is_pipe, is_listener, connects}
use Rattle.machine.specs.Outcome.{is_allowed, may_count, may_read, may_send, may_take, may_receive, may_write}
use Rattle.machine.specs.Attempt.{readable_by_kind, reads_at_once, is_early, awaited, fits, receiver, is_shut, is_broken}
use Rattle.machine.specs.Attempt.{is_dry, is_too_far, first_length, greatest, answer_if, attempt}
use Rattle.machine.proofs.Numbers.{equal-self, and-left, and-right}

-- The bytes that wait on a handle that was looked up.
abbrev bytes_of : Option HandleState → List ℕ
bytes_of x = unwrap_or (option_map (λ handle. handle.input) x) []

-- The messages that wait on a handle that was looked up.
abbrev inbox_of : Option HandleState → List (ℕ × List ℕ)
inbox_of x = unwrap_or (option_map (λ handle. handle.messages_in) x) []

-- Two tests that pass pass together.
and-both : (a b : Bool) → a ≡ true → b ≡ true → (a && b) ≡ true
and-both a b p q = ap (λ x. x && b) p ∙ q

-- Of three tests the two last ones are exchanged for ones that they imply.
and-three : (a b c d e : Bool) → (a && b && c) ≡ true → (b ≡ true → d ≡ true) → (c ≡ true → e ≡ true) → (a && d && e) ≡ true
and-three a b c d e h second third =
    let ab = and-left (a && b) c h in
    and-both (a && d) e (and-both a d (and-left a b ab) (second (and-right a b ab))) (third (and-right (a && b) c h))

-- The lesser of the want and the bytes is read, where a byte waits or the end is marked.
reads : (want : ℕ) (input : List ℕ) (ended : Bool) → (not (is_empty input) || ended) ≡ true →
    (nat_le (min want (length input)) want && nat_le (min want (length input)) (length input)
    && (nat_le 1 (min want (length input)) || want == 0 || (ended && length input == 0))) ≡ true
reads want [] true h = grind (arith, leb_tells, eqb_tells)
reads want [] false h = cc
reads want (byte ∷ bytes) ended h = grind (arith, leb_tells, eqb_tells)

-- The greatest count of a read of a handle that gives bytes is allowed.
reads-kind : (kind : HandleKind) (t : HandleState) (want : ℕ) → gives_bytes kind ≡ true → (is_file kind || readable_by_kind kind t) ≡ true →
    (gives_bytes kind && may_read want (min want (length t.input)) t) ≡ true
reads-kind Stream t want gives once = reads want t.input t.ended once
reads-kind Pipe t want gives once = reads want t.input t.ended once
reads-kind Datagram t want gives once = cc
reads-kind File t want gives once = cc
reads-kind Listener t want gives once = cc

-- The same of a handle that was looked up.
reads-there : (want : ℕ) (x : Option HandleState) → passes (λ handle. gives_bytes handle.kind) x ≡ true → passes reads_at_once x ≡ true →
    passes (λ handle. gives_bytes handle.kind && may_read want (min want (length (bytes_of x))) handle) x ≡ true
reads-there want None gives once = gives
reads-there want (Some t) gives once = reads-kind t.kind t want gives once

-- The greatest count of a message is allowed.
receives-kind : (kind : HandleKind) (t : HandleState) (want : ℕ) (messages : List (ℕ × List ℕ)) → t.messages_in ≡ messages →
    is_datagram kind ≡ true → (is_file kind || readable_by_kind kind t) ≡ true →
    (is_datagram kind && may_receive want (min want (first_length messages)) (slice_get messages 0)) ≡ true
receives-kind Datagram t want [] is datagram once = absurd (false≢true (ap (λ m. not (is_empty m)) (sym is) ∙ once))
receives-kind Datagram t want (message ∷ messages) is datagram once = equal-self (min want (length message.1))
receives-kind Stream t want messages is datagram once = cc
receives-kind File t want messages is datagram once = cc
receives-kind Pipe t want messages is datagram once = cc
receives-kind Listener t want messages is datagram once = cc

-- The same of a handle that was looked up.
receives-there : (want : ℕ) (x : Option HandleState) → passes (λ handle. is_datagram handle.kind) x ≡ true → passes reads_at_once x ≡ true →
    passes (λ handle. is_datagram handle.kind && may_receive want (min want (first_length (inbox_of x))) (slice_get handle.messages_in 0)) x
    ≡ true
receives-there want None datagram once = datagram
receives-there want (Some t) datagram once = receives-kind t.kind t want t.messages_in refl datagram once

-- The lesser of the want and the bytes that are there may be taken.
takes : (want : ℕ) (bytes : List ℕ) → may_take want (min want (length bytes)) bytes ≡ true
takes want bytes = grind (arith, leb_tells, eqb_tells)

-- The greatest count of a read of a file is allowed.
reads-file : (want pos : ℕ) (x : Option HandleState) → passes (λ handle. is_file handle.kind) x ≡ true →
    passes (λ handle. is_file handle.kind && may_take want (min want (length (drop pos (bytes_of x)))) (drop pos handle.input)) x ≡ true
reads-file want pos None file = file
reads-file want pos (Some t) file =
    and-both (is_file t.kind) (may_take want (min want (length (drop pos t.input))) (drop pos t.input)) file (takes want (drop pos t.input))

-- The greatest count of a splice from a pipe is allowed.
drains-there : (want : ℕ) (x : Option HandleState) → passes (λ handle. is_pipe handle.kind) x ≡ true →
    passes (λ handle. is_pipe handle.kind && may_take want (min want (length (bytes_of x))) handle.input) x ≡ true
drains-there want None pipe = pipe
drains-there want (Some t) pipe =
    and-both (is_pipe t.kind) (may_take want (min want (length t.input)) t.input) pipe (takes want t.input)

-- All bytes may be sent.
sends-all : (offered : ℕ) → may_send offered offered ≡ true
sends-all offered = grind (arith, leb_tells, eqb_tells)

-- A handle that gives bytes takes some, unless it is a pipe whose end is marked.
takes-kind : (kind : HandleKind) (ended : Bool) → gives_bytes kind ≡ true → (is_pipe kind && ended) ≡ false → takes_if kind ended ≡ true
takes-kind Stream ended gives whole = refl
takes-kind Pipe true gives whole = cc
takes-kind Pipe false gives whole = refl
takes-kind Datagram ended gives whole = cc
takes-kind File ended gives whole = cc
takes-kind Listener ended gives whole = cc

-- The same of a handle that was looked up.
takes-there : (x : Option HandleState) → passes (λ handle. gives_bytes handle.kind) x ≡ true → passes is_shut x ≡ false →
    passes takes_bytes x ≡ true
takes-there None gives whole = gives
takes-there (Some t) gives whole = takes-kind t.kind t.ended gives whole

-- All bytes may be sent to a handle that takes some.
sends-there : (offered : ℕ) (x : Option HandleState) → passes takes_bytes x ≡ true →
    passes (λ handle. takes_bytes handle && may_send offered offered) x ≡ true
sends-there offered None taking = taking
sends-there offered (Some t) taking = and-both (takes_bytes t) (may_send offered offered) taking (sends-all offered)

-- A pipe whose end isn't marked is open.
open-of : (pipe ended : Bool) → pipe ≡ true → (pipe && ended) ≡ false → (pipe && not ended) ≡ true
open-of true true is whole = sym whole
open-of true false is whole = refl
open-of false ended is whole = is

-- The same of a handle that was looked up.
open-there : (x : Option HandleState) → passes (λ handle. is_pipe handle.kind) x ≡ true → passes is_shut x ≡ false →
    passes (λ handle. is_pipe handle.kind && not handle.ended) x ≡ true
open-there None is whole = is
open-there (Some t) is whole = open-of (is_pipe t.kind) t.ended is whole

-- As many bytes as end at the greatest end may be written.
writes-some : (pos offered end : ℕ) → (not (offered == 0) && nat_le end pos) ≡ false →
    (nat_le (min offered (end - pos)) offered && (nat_le 1 (min offered (end - pos)) || offered == 0)
    && (min offered (end - pos) == 0 || nat_le (pos + min offered (end - pos)) end)) ≡ true
writes-some pos offered end near = grind (arith, leb_tells, eqb_tells)

-- A test that passes of a handle that was looked up passes with one that always does.
passes-with : (test more : HandleState → Bool) (x : Option HandleState) → ((t : HandleState) → more t ≡ true) → passes test x ≡ true →
    passes (λ handle. test handle && more handle) x ≡ true
passes-with test more None always there = there
passes-with test more (Some t) always there = and-both (test t) (more t) there (always t)

-- The tests before the greatest count all failed.
record Passed (world : List HandleState) (call : Call) : Type 0 where
  ready : is_early world (awaited call) ≡ false
  fitting : fits world call ≡ true
  whole : is_broken world (receiver call) ≡ false
  near : is_too_far call ≡ false

-- The greatest count is allowed, where the tests before it failed.
greatest-allowed : (world : List HandleState) (call : Call) → Passed world call → may_count world call (greatest world call) ≡ true
greatest-allowed world (In h want) p = reads-there want (slice_get world h) p.fitting (not-false _ p.ready)
greatest-allowed world (Out h offered) p =
    sends-there offered (slice_get world h) (takes-there (slice_get world h) p.fitting p.whole)
greatest-allowed world (MessageIn h want) p = receives-there want (slice_get world h) p.fitting (not-false _ p.ready)
greatest-allowed world (MessageOut h addr offered) p =
    passes-with (λ handle. is_datagram handle.kind) (λ handle. offered == offered) (slice_get world h) (λ t. equal-self offered) p.fitting
greatest-allowed world (ReadAt h pos want) p = reads-file want pos (slice_get world h) p.fitting
greatest-allowed world (WriteAt h pos offered) p =
    passes-with (λ handle. is_file handle.kind) (λ handle. may_write pos offered (min offered (MOST_FILE - pos))) (slice_get world h)
    (λ t. writes-some pos offered MOST_FILE p.near) p.fitting
greatest-allowed world (ToPipe h pipe want) p =
    and-three (not (h == pipe)) (passes (λ handle. gives_bytes handle.kind) (slice_get world h))
    (passes (λ handle. is_pipe handle.kind) (slice_get world pipe)) _ _ p.fitting
    (λ gives. reads-there want (slice_get world h) gives (not-false _ p.ready)) (λ is. open-there (slice_get world pipe) is p.whole)
greatest-allowed world (FromPipe pipe h want) p =
    and-three (not (pipe == h)) (passes (λ handle. is_pipe handle.kind) (slice_get world pipe))
    (passes (λ handle. gives_bytes handle.kind) (slice_get world h)) _ _ p.fitting
    (λ is. drains-there want (slice_get world pipe) is) (λ gives. takes-there (slice_get world h) gives p.whole)
greatest-allowed world (Accept h) p =
    passes-with (λ handle. is_listener handle.kind) (λ handle. true) (slice_get world h) (λ t. refl) p.fitting
greatest-allowed world Open p = refl
greatest-allowed world (Connect h) p =
    passes-with (λ handle. connects handle.kind) (λ handle. true) (slice_get world h) (λ t. refl) p.fitting
greatest-allowed world (Fsync h) p =
    passes-with (λ handle. is_file handle.kind) (λ handle. true) (slice_get world h) (λ t. refl) p.fitting
greatest-allowed world (PollAdd h read) p = p.fitting
greatest-allowed world Path p = refl

-- What is reported is allowed to a call, whether its cancel was taken or not.
abbrev pub Allows : List HandleState → Call → Told → Type 0
Allows world call told = (canceled : Bool) → is_allowed world canceled call told ≡ true

-- By the results of the tests.
tested : (world : List HandleState) (call : Call) (early fit broken dry far : Bool) → is_early world (awaited call) ≡ early →
    fits world call ≡ fit → is_broken world (receiver call) ≡ broken → is_too_far call ≡ far →
    IfSome (answer_if early None (answer_if (not fit) (Some (Fail INVALID)) (answer_if broken (Some (Fail BROKEN_PIPE))
    (answer_if dry None (answer_if far (Some (Fail FILE_TOO_BIG)) (Some (Count (greatest world call)))))))) (Allows world call)
tested world call true fit broken dry far a b c d = tt
tested world call false false broken dry far a b c d = λ canceled. refl
tested world call false true true dry far a b c d = λ canceled. refl
tested world call false true false true far a b c d = tt
tested world call false true false false true a b c d = λ canceled. refl
tested world call false true false false false a b c d =
    λ canceled. greatest-allowed world call (record { ready = a; fitting = b; whole = c; near = d })

-- What is reported of a call that is made at once is allowed to it.
pub attempt_allows : (world : List HandleState) (call : Call) → IfSome (attempt world call) (Allows world call)
attempt_allows world call = tested world call _ _ _ (is_dry world call) _ refl refl refl refl

-- The same, where what is reported is known.
pub attempt_allowed : (world : List HandleState) (call : Call) (told : Told) → attempt world call ≡ Some told → Allows world call told
attempt_allowed world call told made = at (attempt world call) made (attempt_allows world call)
  where
    at : (x : Option Told) → x ≡ Some told → IfSome x (Allows world call) → Allows world call told
    at None is allowed = (let f : ⊥ = cc in absurd f)
    at (Some other) is allowed =
        (let same : other ≡ told = cc in λ canceled. ap (is_allowed world canceled call) (sym same) ∙ allowed canceled)
