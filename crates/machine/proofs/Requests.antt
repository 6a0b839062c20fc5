-- Requests: one is its shape and what it holds, and no proof above this file goes by cases on them.
use Rattle.std.proofs.Common.{◌≡◌, ℕ, ◌≤◌, Bool, true, false, List, Option, Some, None, refl, sym, ◌∙◌, ap, arith, length, take, drop}
use Rattle.std.proofs.Common.{◌+◌}
use Rattle.std.specs.Prelude.{slice_get, nat_le, ◌&&◌, ◌||◌, ◌==◌}
use Rattle.std.proofs.lemmas.Bool.Decides.{nat_tests}
use Rattle.std.proofs.lemmas.List.{length-take, take-take}
use Rattle.std.proofs.lemmas.Option.{same_Some}
use Rattle.rent_buf.specs.Buffer.{Buffer}
use Rattle.rent_buf.specs.Parts.{Parts}
use Rattle.rent_buf.specs.Held.{HeldBuf}
use Rattle.rent_buf.specs.declared.held.Held.{Held}
use Rattle.rent_buf.specs.declared.held.Held.TheVariants.{One, Parts as InParts, Nothing as NoBuffer}
use Rattle.machine.specs.declared.request.TheConstants.{MOST_ASKED}
use Rattle.machine.specs.declared.request.Request.{Request}
use Rattle.machine.specs.declared.request.Request.TheVariants.{Recv, ReadVec, Send, WriteVec, RecvMsg, SendMsg, Read, Write}
use Rattle.machine.specs.declared.request.Request.TheVariants.{SpliceTo, SpliceFrom, Accept, Open, Connect, Fsync, PollAdd, MkDir, Rename}
use Rattle.machine.specs.declared.request.Request.TheVariants.{Unlink}
use Rattle.machine.specs.declared.request.Told.{Told}
use Rattle.machine.specs.declared.request.Told.TheVariants.{Count, Fail}
use Rattle.machine.specs.declared.world.TheConstants.{MOST_FILE}
use Rattle.machine.specs.declared.world.HandleState.{HandleState}
use Rattle.machine.specs.Lists.{amended, passes}
use Rattle.machine.specs.World.{input_at, messages_at, is_datagram, is_file}
use Rattle.machine.specs.Effect.{Effect, effect, message_effect, made_by, without_message, nothing_got, with_sent, with_sent_message}
use Rattle.machine.specs.Effect.{with_written}
use Rattle.machine.specs.Payloads.{comes}
use Rattle.machine.specs.Outcome.{is_allowed, is_spent, may_read, may_send, may_take, may_receive, may_write}
use Rattle.machine.specs.Request.{named, makes, map_request, held_of, shape_of, call_of, room_of, shown_by, sent_of, held_after, held}
use Rattle.machine.specs.Request.{held_room}
use Rattle.machine.specs.Request.{held_want, held_shown, held_sent, IsHolding}
use Rattle.machine.proofs.Numbers.{and-left, and-right, at_most-left}

-- The request of a shape that holds this, where the shape holds such a thing.
abbrev rebuilt : {B V : Type 0} → Request Unit Unit → Held B V → Option (Request B V)
rebuilt (Recv fd none) (One buf) = Some (Recv fd buf)
rebuilt (ReadVec fd none) (InParts parts) = Some (ReadVec fd parts)
rebuilt (Send fd none) (One buf) = Some (Send fd buf)
rebuilt (WriteVec fd none) (InParts parts) = Some (WriteVec fd parts)
rebuilt (RecvMsg fd none) (One buf) = Some (RecvMsg fd buf)
rebuilt (SendMsg fd addr none) (One buf) = Some (SendMsg fd addr buf)
rebuilt (Read fd pos none) (One buf) = Some (Read fd pos buf)
rebuilt (Write fd pos none) (One buf) = Some (Write fd pos buf)
rebuilt (SpliceTo fd pipe len) NoBuffer = Some (SpliceTo fd pipe len)
rebuilt (SpliceFrom pipe fd len) NoBuffer = Some (SpliceFrom pipe fd len)
rebuilt (Accept fd) NoBuffer = Some (Accept fd)
rebuilt (Open path flags mode) NoBuffer = Some (Open path flags mode)
rebuilt (Connect fd addr) NoBuffer = Some (Connect fd addr)
rebuilt (Fsync fd data_only) NoBuffer = Some (Fsync fd data_only)
rebuilt (PollAdd fd read) NoBuffer = Some (PollAdd fd read)
rebuilt (MkDir path mode) NoBuffer = Some (MkDir path mode)
rebuilt (Rename from to) NoBuffer = Some (Rename from to)
rebuilt (Unlink path remove_dir) NoBuffer = Some (Unlink path remove_dir)
rebuilt _ _ = None

-- A request is rebuilt of its shape and of what it holds.
rebuilt-own : {B V : Type 0} (r : Request B V) → rebuilt (shape_of r) (held_of r) ≡ Some r
rebuilt-own (Recv fd buf) = refl
rebuilt-own (ReadVec fd parts) = refl
rebuilt-own (Send fd buf) = refl
rebuilt-own (WriteVec fd parts) = refl
rebuilt-own (RecvMsg fd buf) = refl
rebuilt-own (SendMsg fd addr buf) = refl
rebuilt-own (Read fd pos buf) = refl
rebuilt-own (Write fd pos buf) = refl
rebuilt-own (SpliceTo fd pipe len) = refl
rebuilt-own (SpliceFrom pipe fd len) = refl
rebuilt-own (Accept fd) = refl
rebuilt-own (Open path flags mode) = refl
rebuilt-own (Connect fd addr) = refl
rebuilt-own (Fsync fd data_only) = refl
rebuilt-own (PollAdd fd read) = refl
rebuilt-own (MkDir path mode) = refl
rebuilt-own (Rename from to) = refl
rebuilt-own (Unlink path remove_dir) = refl

-- Requests of one shape that hold the same are equal.
pub request-is : {B V : Type 0} (r s : Request B V) → shape_of r ≡ shape_of s → held_of r ≡ held_of s → r ≡ s
request-is r s shape holds =
    same_Some r s (sym (rebuilt-own r) ∙ ap (λ x. rebuilt x (held_of r)) shape ∙ ap (rebuilt (shape_of s)) holds ∙ rebuilt-own s)

-- A request has its own shape, and holds what it holds.
pub holding-own : (r : Request Buffer Parts) → IsHolding r (held_of r) r
holding-own r = record { shape = refl; holds = refl }

-- A request that holds what it held is the same.
pub holding-same : (r s : Request Buffer Parts) → IsHolding r (held_of r) s → s ≡ r
holding-same r s now = request-is s r now.shape now.holds

-- At most what is wanted is read.
most-read : (x : Option HandleState) (want k : ℕ) (gives : HandleState → Bool) →
    passes (λ handle. gives handle && may_read want k handle) x ≡ true → k ≤ want
most-read None want k gives h = cc
most-read (Some handle) want k gives h =
    at_most-left k want (nat_le k (length handle.input))
    (and-left (nat_le k want && nat_le k (length handle.input)) (nat_le 1 k || want == 0 || is_spent handle)
    (and-right (gives handle) (may_read want k handle) h))

-- At most what is wanted of a file is read.
most-taken : (x : Option HandleState) (want k pos : ℕ) →
    passes (λ handle. is_file handle.kind && may_take want k (drop pos handle.input)) x ≡ true → k ≤ want
most-taken None want k pos h = cc
most-taken (Some handle) want k pos h =
    let there = length (drop pos handle.input) in
    at_most-left k want (nat_le k there)
    (and-left (nat_le k want && nat_le k there) (nat_le 1 k || want == 0 || there == 0)
    (and-right (is_file handle.kind) (may_take want k (drop pos handle.input)) h))

-- At most what is wanted of a message is received.
most-of_message : (first : Option (ℕ × List ℕ)) (want k : ℕ) → may_receive want k first ≡ true → k ≤ want
most-of_message None want k h = cc
most-of_message (Some message) want k h = grind (arith, nat_tests)

-- The same on a handle that was looked up.
most-received : (x : Option HandleState) (want k : ℕ) →
    passes (λ handle. is_datagram handle.kind && may_receive want k (slice_get handle.messages_in 0)) x ≡ true → k ≤ want
most-received None want k h = cc
most-received (Some handle) want k h =
    most-of_message (slice_get handle.messages_in 0) want k
    (and-right (is_datagram handle.kind) (may_receive want k (slice_get handle.messages_in 0)) h)

-- At most what is offered is sent.
most-sent : (x : Option HandleState) (offered k : ℕ) (takes : HandleState → Bool) →
    passes (λ handle. takes handle && may_send offered k) x ≡ true → k ≤ offered
most-sent None offered k takes h = cc
most-sent (Some handle) offered k takes h =
    at_most-left k offered (nat_le 1 k || offered == 0) (and-right (takes handle) (may_send offered k) h)

-- A message is sent whole.
most-sent_message : (x : Option HandleState) (offered k : ℕ) →
    passes (λ handle. is_datagram handle.kind && k == offered) x ≡ true → k ≤ offered
most-sent_message None offered k h = cc
most-sent_message (Some handle) offered k h = (let e = and-right (is_datagram handle.kind) (k == offered) h in grind (arith, nat_tests))

-- At most what is offered is written.
most-written : (x : Option HandleState) (offered k pos : ℕ) → passes (λ handle. is_file handle.kind && may_write pos offered k) x ≡ true →
    k ≤ offered
most-written None offered k pos h = cc
most-written (Some handle) offered k pos h =
    at_most-left k offered (nat_le 1 k || offered == 0)
    (and-left (may_send offered k) (k == 0 || nat_le (pos + k) MOST_FILE)
    (and-right (is_file handle.kind) (may_write pos offered k) h))

-- So many bytes as are wanted fit.
read-fits : (bytes : List ℕ) (k : ℕ) (x : HeldBuf) → k ≤ held_want x → length (take k bytes) ≤ held_room x
read-fits bytes k x most = omega (arith, most, length-take k bytes)

-- So many bytes of a message as are wanted fit.
message-fits : (world : List HandleState) (k : ℕ) (first : Option (ℕ × List ℕ)) (x : HeldBuf) → k ≤ held_want x →
    length (message_effect world k first).got ≤ held_room x
message-fits world k None x most = omega arith
message-fits world k (Some message) x most = read-fits message.1 k x most

-- What comes to a request fits what it holds.
pub got-fits : (world : List HandleState) (canceled : Bool) (r : Request Buffer Parts) (told : Told) (sent : List ℕ) →
    is_allowed world canceled (call_of r) told ≡ true → length (effect world (call_of r) sent told).got ≤ room_of r
got-fits world canceled r (Fail e) sent h = omega arith
got-fits world canceled (Recv fd buf) (Count k) sent h =
    read-fits (input_at world fd) k (One buf) (most-read (slice_get world fd) (held_want (One buf)) k _ h)
got-fits world canceled (ReadVec fd parts) (Count k) sent h =
    read-fits (input_at world fd) k (InParts parts) (most-read (slice_get world fd) (held_want (InParts parts)) k _ h)
got-fits world canceled (RecvMsg fd buf) (Count k) sent h =
    message-fits _ k (slice_get (messages_at world fd) 0) (One buf) (most-received (slice_get world fd) (held_want (One buf)) k h)
got-fits world canceled (Read fd pos buf) (Count k) sent h =
    read-fits (drop pos (input_at world fd)) k (One buf) (most-taken (slice_get world fd) (held_want (One buf)) k pos h)
got-fits world canceled (Send fd buf) (Count k) sent h = omega arith
got-fits world canceled (WriteVec fd parts) (Count k) sent h = omega arith
got-fits world canceled (SendMsg fd addr buf) (Count k) sent h = omega arith
got-fits world canceled (Write fd pos buf) (Count k) sent h = omega arith
got-fits world canceled (SpliceTo fd pipe len) (Count k) sent h = omega arith
got-fits world canceled (SpliceFrom pipe fd len) (Count k) sent h = omega arith
got-fits world canceled (Accept fd) (Count k) sent h = omega arith
got-fits world canceled (Open path flags mode) (Count k) sent h = omega arith
got-fits world canceled (Connect fd addr) (Count k) sent h = omega arith
got-fits world canceled (Fsync fd data_only) (Count k) sent h = omega arith
got-fits world canceled (PollAdd fd read) (Count k) sent h = omega arith
got-fits world canceled (MkDir path mode) (Count k) sent h = omega arith
got-fits world canceled (Rename from to) (Count k) sent h = omega arith
got-fits world canceled (Unlink path remove_dir) (Count k) sent h = omega arith

-- The first bytes of a prefix are the first of the whole.
take-front : (k most : ℕ) (xs : List ℕ) → k ≤ length (take most xs) → take k xs ≡ take k (take most xs)
take-front k most xs h = (let l = length-take most xs in sym (take-take k most xs (omega (arith, l, h))))

-- No more is sent than is offered, so it is the same whether the bytes shown or those cut to the most that is asked for are sent.
sent-shown : (leaves : List ℕ → Effect) (k : ℕ) (x : HeldBuf) → k ≤ length (held_sent x) →
    leaves (take k (held_shown x)) ≡ leaves (take k (held_sent x))
sent-shown leaves k x most = ap leaves (take-front k MOST_ASKED (held_shown x) most)

-- A request sends the first of the bytes that it shows.
pub effect-shown : (world : List HandleState) (canceled : Bool) (r : Request Buffer Parts) (told : Told) →
    is_allowed world canceled (call_of r) told ≡ true →
    effect world (call_of r) (shown_by r) told ≡ effect world (call_of r) (sent_of r) told
effect-shown world canceled r (Fail e) h = refl
effect-shown world canceled (Send fd buf) (Count k) h =
    sent-shown (λ bytes. nothing_got (amended world fd (with_sent bytes)) k) k (One buf)
    (most-sent (slice_get world fd) (length (held_sent (One buf))) k _ h)
effect-shown world canceled (WriteVec fd parts) (Count k) h =
    sent-shown (λ bytes. nothing_got (amended world fd (with_sent bytes)) k) k (InParts parts)
    (most-sent (slice_get world fd) (length (held_sent (InParts parts))) k _ h)
effect-shown world canceled (SendMsg fd addr buf) (Count k) h =
    sent-shown (λ bytes. nothing_got (amended world fd (with_sent_message addr bytes)) k) k (One buf)
    (most-sent_message (slice_get world fd) (length (held_sent (One buf))) k h)
effect-shown world canceled (Write fd pos buf) (Count k) h =
    sent-shown (λ bytes. nothing_got (amended world fd (with_written pos bytes)) k) k (One buf)
    (most-written (slice_get world fd) (length (held_sent (One buf))) k pos h)
effect-shown world canceled (Recv fd buf) (Count k) h = refl
effect-shown world canceled (ReadVec fd parts) (Count k) h = refl
effect-shown world canceled (RecvMsg fd buf) (Count k) h = refl
effect-shown world canceled (Read fd pos buf) (Count k) h = refl
effect-shown world canceled (SpliceTo fd pipe len) (Count k) h = refl
effect-shown world canceled (SpliceFrom pipe fd len) (Count k) h = refl
effect-shown world canceled (Accept fd) (Count k) h = refl
effect-shown world canceled (Open path flags mode) (Count k) h = refl
effect-shown world canceled (Connect fd addr) (Count k) h = refl
effect-shown world canceled (Fsync fd data_only) (Count k) h = refl
effect-shown world canceled (PollAdd fd read) (Count k) h = refl
effect-shown world canceled (MkDir path mode) (Count k) h = refl
effect-shown world canceled (Rename from to) (Count k) h = refl
effect-shown world canceled (Unlink path remove_dir) (Count k) h = refl

-- A request to which bytes come holds them afterwards.
pub held-comes : (r : Request Buffer Parts) (told : Told) (got : List ℕ) → comes (call_of r) told ≡ true →
    held r told got ≡ held_after r got
held-comes r (Count k) got c = refl
held-comes r (Fail e) got c = cc

-- A request to which no bytes come holds what it held.
pub held-stays : (r : Request Buffer Parts) (told : Told) (got : List ℕ) → comes (call_of r) told ≡ false → held r told got ≡ held_of r
held-stays r (Fail e) got c = refl
held-stays (Recv fd buf) (Count k) got c = cc
held-stays (ReadVec fd parts) (Count k) got c = cc
held-stays (Send fd buf) (Count k) got c = refl
held-stays (WriteVec fd parts) (Count k) got c = refl
held-stays (RecvMsg fd buf) (Count k) got c = cc
held-stays (SendMsg fd addr buf) (Count k) got c = refl
held-stays (Read fd pos buf) (Count k) got c = cc
held-stays (Write fd pos buf) (Count k) got c = refl
held-stays (SpliceTo fd pipe len) (Count k) got c = refl
held-stays (SpliceFrom pipe fd len) (Count k) got c = refl
held-stays (Accept fd) (Count k) got c = refl
held-stays (Open path flags mode) (Count k) got c = refl
held-stays (Connect fd addr) (Count k) got c = refl
held-stays (Fsync fd data_only) (Count k) got c = refl
held-stays (PollAdd fd read) (Count k) got c = refl
held-stays (MkDir path mode) (Count k) got c = refl
held-stays (Rename from to) (Count k) got c = refl
held-stays (Unlink path remove_dir) (Count k) got c = refl

-- A request with what it holds seen by other values names what it named.
pub named-mapped : {B C V W : Type 0} (f : B → C) (g : V → W) (r : Request B V) → named (map_request f g r) ≡ named r
named-mapped f g (Recv fd buf) = refl
named-mapped f g (ReadVec fd parts) = refl
named-mapped f g (Send fd buf) = refl
named-mapped f g (WriteVec fd parts) = refl
named-mapped f g (RecvMsg fd buf) = refl
named-mapped f g (SendMsg fd addr buf) = refl
named-mapped f g (Read fd pos buf) = refl
named-mapped f g (Write fd pos buf) = refl
named-mapped f g (SpliceTo fd pipe len) = refl
named-mapped f g (SpliceFrom pipe fd len) = refl
named-mapped f g (Accept fd) = refl
named-mapped f g (Open path flags mode) = refl
named-mapped f g (Connect fd addr) = refl
named-mapped f g (Fsync fd data_only) = refl
named-mapped f g (PollAdd fd read) = refl
named-mapped f g (MkDir path mode) = refl
named-mapped f g (Rename from to) = refl
named-mapped f g (Unlink path remove_dir) = refl

-- A request that holds something else names what it named.
pub named-holding : (r : Request Buffer Parts) (held : HeldBuf) (now : Request Buffer Parts) → IsHolding r held now → named now ≡ named r
named-holding r held now is = sym (named-mapped _ _ now) ∙ ap named is.shape ∙ named-mapped _ _ r

-- A request with what it holds seen by other values makes handles where it did.
pub makes-mapped : {B C V W : Type 0} (f : B → C) (g : V → W) (r : Request B V) → makes (map_request f g r) ≡ makes r
makes-mapped f g (Recv fd buf) = refl
makes-mapped f g (ReadVec fd parts) = refl
makes-mapped f g (Send fd buf) = refl
makes-mapped f g (WriteVec fd parts) = refl
makes-mapped f g (RecvMsg fd buf) = refl
makes-mapped f g (SendMsg fd addr buf) = refl
makes-mapped f g (Read fd pos buf) = refl
makes-mapped f g (Write fd pos buf) = refl
makes-mapped f g (SpliceTo fd pipe len) = refl
makes-mapped f g (SpliceFrom pipe fd len) = refl
makes-mapped f g (Accept fd) = refl
makes-mapped f g (Open path flags mode) = refl
makes-mapped f g (Connect fd addr) = refl
makes-mapped f g (Fsync fd data_only) = refl
makes-mapped f g (PollAdd fd read) = refl
makes-mapped f g (MkDir path mode) = refl
makes-mapped f g (Rename from to) = refl
makes-mapped f g (Unlink path remove_dir) = refl

-- A request that holds something else makes handles where it did.
pub makes-holding : (r : Request Buffer Parts) (held : HeldBuf) (now : Request Buffer Parts) → IsHolding r held now → makes now ≡ makes r
makes-holding r held now is = sym (makes-mapped _ _ now) ∙ ap makes is.shape ∙ makes-mapped _ _ r

-- A message that comes, or doesn't, makes no handle.
message-makes-none : (now : List HandleState) (k h : ℕ) (first : Option (ℕ × List ℕ)) →
    made_by (message_effect now k first).outcome ≡ Some h → ⊥
message-makes-none now k h None made = cc
message-makes-none now k h (Some message) made = cc

-- A request that made a handle makes handles.
pub made-makes : (world : List HandleState) (request : Request Buffer Parts) (told : Told) (h : ℕ) →
    made_by (effect world (call_of request) (sent_of request) told).outcome ≡ Some h → makes request ≡ true
made-makes world request (Fail e) h made = (let f : ⊥ = cc in absurd f)
made-makes world (Recv fd buf) (Count k) h made = (let f : ⊥ = cc in absurd f)
made-makes world (ReadVec fd parts) (Count k) h made = (let f : ⊥ = cc in absurd f)
made-makes world (Send fd buf) (Count k) h made = (let f : ⊥ = cc in absurd f)
made-makes world (WriteVec fd parts) (Count k) h made = (let f : ⊥ = cc in absurd f)
made-makes world (RecvMsg fd buf) (Count k) h made =
    absurd (message-makes-none (amended world fd without_message) k h (slice_get (messages_at world fd) 0) made)
made-makes world (SendMsg fd addr buf) (Count k) h made = (let f : ⊥ = cc in absurd f)
made-makes world (Read fd pos buf) (Count k) h made = (let f : ⊥ = cc in absurd f)
made-makes world (Write fd pos buf) (Count k) h made = (let f : ⊥ = cc in absurd f)
made-makes world (SpliceTo fd pipe len) (Count k) h made = (let f : ⊥ = cc in absurd f)
made-makes world (SpliceFrom pipe fd len) (Count k) h made = (let f : ⊥ = cc in absurd f)
made-makes world (Accept fd) (Count k) h made = refl
made-makes world (Open path flags mode) (Count k) h made = refl
made-makes world (Connect fd addr) (Count k) h made = (let f : ⊥ = cc in absurd f)
made-makes world (Fsync fd data_only) (Count k) h made = (let f : ⊥ = cc in absurd f)
made-makes world (PollAdd fd read) (Count k) h made = (let f : ⊥ = cc in absurd f)
made-makes world (MkDir path mode) (Count k) h made = (let f : ⊥ = cc in absurd f)
made-makes world (Rename from to) (Count k) h made = (let f : ⊥ = cc in absurd f)
made-makes world (Unlink path remove_dir) (Count k) h made = (let f : ⊥ = cc in absurd f)
