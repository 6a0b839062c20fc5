-- What a call of a job's operation moved, by how it ended.
use Rattle.std.proofs.Common.{ℕ, zero, suc, ◌≡◌, ◌∙◌, ◌≤◌, ◌<◌, ◌⊎◌, ap, sym, refl, subst, arith, Bool, true, false, true≢false}
use Rattle.std.proofs.Common.{inl, inr, List, [], ◌++◌, length, take, drop, Option, Some, None, ◌&&◌}
use Rattle.std.specs.Prelude.{option_map, unwrap_or, nat_le, slice_get, ◌||◌, ◌==◌, not}
use Rattle.std.proofs.lemmas.Bool.Decides.{nat_tests}
use Rattle.std.proofs.lemmas.List.{append-nil, length-take, take-append-drop}
use Rattle.rent_buf.specs.Buffer.{Buffer, stored}
use Rattle.rent_buf.specs.Held.{HeldBuf}
use Rattle.rent_buf.specs.Parts.{Parts}
use Rattle.rent_buf.specs.Rent.{Rented, buffer_of_rent}
use Rattle.rent_buf.specs.declared.held.Held.TheVariants.{One, Parts as InParts, Nothing}
use Rattle.machine.specs.declared.request.Call.TheVariants.{In, Out}
use Rattle.machine.specs.declared.request.Outcome.TheVariants.{Count}
use Rattle.machine.specs.declared.request.Request.{Request}
use Rattle.machine.specs.declared.request.Request.TheVariants.{Recv, ReadVec, Send, WriteVec, RecvMsg, SendMsg, Read, Write}
use Rattle.machine.specs.declared.request.Request.TheVariants.{SpliceTo, SpliceFrom, Accept, Open, Connect, Fsync, PollAdd, MkDir, Rename}
use Rattle.machine.specs.declared.request.Request.TheVariants.{Unlink}
use Rattle.machine.specs.declared.request.Told.{Told}
use Rattle.machine.specs.declared.request.Told.TheVariants as told
use Rattle.machine.specs.declared.world.HandleKind.{HandleKind}
use Rattle.machine.specs.declared.world.HandleKind.TheVariants.{Stream, Datagram, File, Pipe, Listener}
use Rattle.machine.specs.declared.world.HandleState.{HandleState}
use Rattle.machine.specs.Attempt.{answer_if, attempt, is_file_at, is_readable, reads_at_once}
use Rattle.machine.specs.Effect.{sent_to_kind, with_sent, without_front}
use Rattle.machine.specs.Lists.{amended, passes}
use Rattle.machine.specs.Outcome.{is_spent, may_count, may_read, may_send}
use Rattle.machine.specs.Request.{call_of, held, held_of, held_want, plain_request, sent_of}
use Rattle.machine.specs.World.{gives_bytes, input_at, is_file, is_pipe, takes_bytes, takes_if}
use Rattle.machine.specs.WorldCall.{call_effect}
use Rattle.machine.proofs.Amended.{get-amended}
use Rattle.ready_driver.specs.Io.{IsMoved, MayEnd}
use Rattle.pipe_job.specs.Causes.{HasEnded}
use Rattle.pipe_job.specs.Course.{Coursed, IsNext}
use Rattle.pipe_job.specs.Moves.{is_pipe_at, joining}
use Rattle.pipe_job.specs.declared.course.TheConstants.{MOST_MOVED}

-- A job's next request is a receive from its pipe, or a send to it.
pub next_is : (course : Coursed) (request : Request Rented Parts) → IsNext course (plain_request buffer_of_rent request)
    → ((buf : Rented) × (request ≡ Recv course.pipe buf) × (course.sent ≡ length course.bytes)
    × (1 ≤ held_want (One (buffer_of_rent buf))))
    ⊎ ((buf : Rented) × (request ≡ Send course.pipe buf) × (course.sent < length course.bytes)
    × (sent_of (Send course.pipe (buffer_of_rent buf)) ≡ take MOST_MOVED (drop course.sent course.bytes)))
next_is course (Recv fd buf) next = inl (buf, ap (λ h. Recv h buf) next.0, next.1, next.2)
next_is course (Send fd buf) next = inr (buf, ap (λ h. Send h buf) next.0, next.1, next.2)
next_is course (ReadVec fd parts) next = absurd next
next_is course (WriteVec fd parts) next = absurd next
next_is course (RecvMsg fd buf) next = absurd next
next_is course (SendMsg fd addr buf) next = absurd next
next_is course (Read fd pos buf) next = absurd next
next_is course (Write fd pos buf) next = absurd next
next_is course (SpliceTo fd to len) next = absurd next
next_is course (SpliceFrom from fd len) next = absurd next
next_is course (Accept fd) next = absurd next
next_is course (Open path flags mode) next = absurd next
next_is course (Connect fd addr) next = absurd next
next_is course (Fsync fd data_only) next = absurd next
next_is course (PollAdd fd read) next = absurd next
next_is course (MkDir path mode) next = absurd next
next_is course (Rename from to) next = absurd next
next_is course (Unlink path remove_dir) next = absurd next

-- A handle is there, and gives bytes and takes them.
pub record Flows (world : List HandleState) (h : ℕ) : Type 0 where
  pub handle : HandleState
  pub there : slice_get world h ≡ Some handle
  pub gives : gives_bytes handle.kind ≡ true

-- So it is no file.
no_file : (kind : HandleKind) → gives_bytes kind ≡ true → is_file kind ≡ false
no_file Stream gives = refl
no_file Datagram gives = absurd (true≢false (sym gives))
no_file File gives = absurd (true≢false (sym gives))
no_file Pipe gives = refl
no_file Listener gives = absurd (true≢false (sym gives))

-- The handle of a number is none then.
pub flows_unfiled : (world : List HandleState) (h : ℕ) → Flows world h → is_file_at world h ≡ false
flows_unfiled world h flows = ap (passes (λ handle. is_file handle.kind)) flows.there ∙ no_file flows.handle.kind flows.gives

-- What takes bytes gives them too.
takes_gives : (kind : HandleKind) (ended : Bool) → takes_if kind ended ≡ true → gives_bytes kind ≡ true
takes_gives Stream ended takes = refl
takes_gives Pipe ended takes = refl
takes_gives Datagram ended takes = absurd (true≢false (sym takes))
takes_gives File ended takes = absurd (true≢false (sym takes))
takes_gives Listener ended takes = absurd (true≢false (sym takes))

-- Both of two tests pass.
both : (a b : Bool) → a && b ≡ true → (a ≡ true) × (b ≡ true)
both true b is = (refl, is)
both false b is = absurd (true≢false (sym is))

-- A send counted on a handle that takes bytes: so it is there.
pub record MaySend (world : List HandleState) (h offered k : ℕ) : Type 0 where
  pub flows : Flows world h
  pub may : may_send offered k ≡ true

-- So it is of each send that may be counted.
may_out : (world : List HandleState) (h offered k : ℕ) → may_count world (Out h offered) k ≡ true → MaySend world h offered k
may_out world h offered k may = by (slice_get world h) refl may
  where
    by : (found : Option HandleState) → slice_get world h ≡ found
        → passes (λ handle. takes_bytes handle && may_send offered k) found ≡ true → MaySend world h offered k
    by None is may = absurd (true≢false (sym may))
    by (Some handle) is may =
        let parts = both (takes_bytes handle) (may_send offered k) may in record {
          flows = record { handle = handle; there = is; gives = takes_gives handle.kind handle.ended parts.0 };
          may = parts.1;
        }

-- A receive counted on one that gives them.
pub record MayReceive (world : List HandleState) (h want k : ℕ) : Type 0 where
  pub flows : Flows world h
  pub may : may_read want k flows.handle ≡ true

-- So it is of each receive that may be counted.
may_in : (world : List HandleState) (h want k : ℕ) → may_count world (In h want) k ≡ true → MayReceive world h want k
may_in world h want k may = by (slice_get world h) refl may
  where
    by : (found : Option HandleState) → slice_get world h ≡ found
        → passes (λ handle. gives_bytes handle.kind && may_read want k handle) found ≡ true → MayReceive world h want k
    by None is may = absurd (true≢false (sym may))
    by (Some handle) is may =
        let parts = both (gives_bytes handle.kind) (may_read want k handle) may in record {
          flows = record { handle = handle; there = is; gives = parts.0 };
          may = parts.1;
        }

-- What a counted send moved: as many of its bytes as it counts.
pub record SendMoves (old new : List HandleState) (h : ℕ) (buf : Buffer) (k : ℕ) : Type 0 where
  pub world : new ≡ amended old h (with_sent (take k (sent_of (Send h buf))))
  pub may : MaySend old h (length (sent_of (Send h buf))) k

-- So it is of each send that moved what the machine moves.
pub send_moves : (old new : List HandleState) (h : ℕ) (buf : Buffer) (now : Request Buffer Parts) (k : ℕ)
    → IsMoved old (Send h buf) new now (Count k) → SendMoves old new h buf k
send_moves old new h buf now k moved = by moved.told refl
  where
    by : (t : Told) → moved.told ≡ t → SendMoves old new h buf k
    by (told.Fail e) t = absurd (let no = moved.outcome_is ∙ ap (λ x. (call_effect old (Send h buf) x).outcome) t in cc)
    by (told.Count j) t =
        let same : Count k ≡ Count j = moved.outcome_is ∙ ap (λ x. (call_effect old (Send h buf) x).outcome) t in
        let count : j ≡ k = cc in
        let may : MayEnd old (Send h buf) (told.Count j) = subst (MayEnd old (Send h buf)) t moved.may in record {
          world = moved.world ∙ ap (λ x. (call_effect old (Send h buf) x).world) t
              ∙ ap (λ n. amended old h (with_sent (take n (sent_of (Send h buf))))) count;
          may = may_out old h (length (sent_of (Send h buf))) k
              (subst (λ n. may_count old (Out h (length (sent_of (Send h buf)))) n ≡ true) count may);
        }

-- What a counted receive did: as many bytes as it counts left the input's front, and the buffer has them.
pub record ReceiveMoves (old new : List HandleState) (h : ℕ) (buf : Buffer) (now : Request Buffer Parts) (k : ℕ) : Type 0 where
  pub world : new ≡ amended old h (without_front k)
  pub may : MayReceive old h (held_want (One buf)) k
  pub holds : held_of now ≡ One (stored buf (take k (input_at old h)))

-- So it is of each receive that did.
pub receive_moves : (old new : List HandleState) (h : ℕ) (buf : Buffer) (now : Request Buffer Parts) (k : ℕ)
    → IsMoved old (Recv h buf) new now (Count k) → ReceiveMoves old new h buf now k
receive_moves old new h buf now k moved = by moved.told refl
  where
    by : (t : Told) → moved.told ≡ t → ReceiveMoves old new h buf now k
    by (told.Fail e) t = absurd (let no = moved.outcome_is ∙ ap (λ x. (call_effect old (Recv h buf) x).outcome) t in cc)
    by (told.Count j) t =
        let same : Count k ≡ Count j = moved.outcome_is ∙ ap (λ x. (call_effect old (Recv h buf) x).outcome) t in
        let count : j ≡ k = cc in
        let may : MayEnd old (Recv h buf) (told.Count j) = subst (MayEnd old (Recv h buf)) t moved.may in record {
          world = moved.world ∙ ap (λ x. (call_effect old (Recv h buf) x).world) t ∙ ap (λ n. amended old h (without_front n)) count;
          may = may_in old h (held_want (One buf)) k (subst (λ n. may_count old (In h (held_want (One buf))) n ≡ true) count may);
          holds = moved.holds.holds ∙ ap (λ x. held (Recv h buf) x (call_effect old (Recv h buf) x).got) t
              ∙ ap (λ n. One (stored buf (take n (input_at old h)))) count;
        }

-- The bytes of a buffer that is held.
abbrev held_bytes : HeldBuf → List ℕ
held_bytes (One buf) = buf.bytes
held_bytes (InParts parts) = []
held_bytes Nothing = []

-- So a receive's buffer has just what left the input.
pub receive_got : (old new : List HandleState) (h g : ℕ) (buf after : Rented) (k : ℕ)
    → ReceiveMoves old new h (buffer_of_rent buf) (Recv g (buffer_of_rent after)) k → after.bytes ≡ take k (input_at old h)
receive_got old new h g buf after k moves = ap held_bytes moves.holds

-- The bytes that wait on a handle once some were sent to it.
joined : (bytes : List ℕ) (kind : HandleKind) (handle : HandleState)
    → (sent_to_kind kind bytes handle).input ≡ handle.input ++ joining (is_pipe kind) bytes
joined bytes Stream handle = sym (append-nil handle.input)
joined bytes Datagram handle = sym (append-nil handle.input)
joined bytes File handle = sym (append-nil handle.input)
joined bytes Pipe handle = refl
joined bytes Listener handle = sym (append-nil handle.input)

-- Its kind stays.
sent_kind : (bytes : List ℕ) (kind : HandleKind) (handle : HandleState) → (sent_to_kind kind bytes handle).kind ≡ handle.kind
sent_kind bytes Stream handle = refl
sent_kind bytes Datagram handle = refl
sent_kind bytes File handle = refl
sent_kind bytes Pipe handle = refl
sent_kind bytes Listener handle = refl

-- So it is in a world.
pub sent_input : (bytes : List ℕ) (world : List HandleState) (h : ℕ)
    → input_at world h ++ joining (is_pipe_at world h) bytes ≡ input_at (amended world h (with_sent bytes)) h
sent_input bytes world h = by (slice_get world h) refl
    ∙ sym (ap (λ found. unwrap_or (option_map (λ handle. handle.input) found) []) (get-amended (with_sent bytes) world h))
  where
    by : (found : Option HandleState) → slice_get world h ≡ found
        → input_at world h ++ joining (is_pipe_at world h) bytes
        ≡ unwrap_or (option_map (λ handle. handle.input) (option_map (with_sent bytes) (slice_get world h))) []
    by None is = subst (λ f. unwrap_or (option_map (λ handle. handle.input) f) [] ++ joining (passes
        (λ handle. is_pipe handle.kind) f) bytes
        ≡ unwrap_or (option_map (λ handle. handle.input) (option_map (with_sent bytes) f)) []) (sym is) refl
    by (Some handle) is =
        subst (λ f. unwrap_or (option_map (λ handle. handle.input) f) [] ++ joining (passes (λ handle. is_pipe handle.kind) f) bytes
        ≡ unwrap_or (option_map (λ handle. handle.input) (option_map (with_sent bytes) f)) []) (sym is)
        (sym (joined bytes handle.kind handle))

-- A handle stays of its kind through a change of it that keeps that.
pub kind_kept : (change : HandleState → HandleState) (world : List HandleState) (h : ℕ)
    → ((handle : HandleState) → (change handle).kind ≡ handle.kind) → is_pipe_at (amended world h change) h ≡ is_pipe_at world h
kind_kept change world h keeps = ap (passes (λ handle. is_pipe handle.kind)) (get-amended change world h) ∙ by (slice_get world h)
  where
    by : (found : Option HandleState) → passes (λ handle. is_pipe handle.kind) (option_map change found)
        ≡ passes (λ handle. is_pipe handle.kind) found
    by None = refl
    by (Some handle) = ap is_pipe (keeps handle)

-- Bytes that are sent to it keep it.
pub kind_sent : (bytes : List ℕ) (world : List HandleState) (h : ℕ)
    → is_pipe_at (amended world h (with_sent bytes)) h ≡ is_pipe_at world h
kind_sent bytes world h = kind_kept (with_sent bytes) world h (λ handle. sent_kind bytes handle.kind handle)

-- So do bytes that leave its input.
pub kind_taken : (k : ℕ) (world : List HandleState) (h : ℕ) → is_pipe_at (amended world h (without_front k)) h ≡ is_pipe_at world h
kind_taken k world h = kind_kept (without_front k) world h (λ handle. refl)

-- Once the first bytes of its input left, a handle has the rest.
input_rest : (k : ℕ) (found : Option HandleState)
    → unwrap_or (option_map (λ handle. handle.input) (option_map (without_front k) found)) []
    ≡ drop k (unwrap_or (option_map (λ handle. handle.input) found) [])
input_rest zero None = refl
input_rest (suc k) None = refl
input_rest k (Some handle) = refl

-- So what waited is what left, and then what waits.
pub taken_input : (k : ℕ) (world : List HandleState) (h : ℕ)
    → input_at world h ≡ take k (input_at world h) ++ input_at (amended world h (without_front k)) h
taken_input k world h = sym (take-append-drop k (input_at world h))
    ∙ ap (λ rest. take k (input_at world h) ++ rest) (sym (input_rest k (slice_get world h))
    ∙ sym (ap (λ found. unwrap_or (option_map (λ handle. handle.input) found) []) (get-amended (without_front k) world h)))

-- A handle that may give none of some wanted bytes is spent, and is so still once none left its input.
spent_of : (handle : HandleState) (want k : ℕ) → may_read want k handle ≡ true → 1 ≤ want → take k handle.input ≡ []
    → is_spent (without_front k handle) ≡ true
spent_of handle want k may some none =
    let first = both (nat_le k want && nat_le k (length handle.input)) (nat_le 1 k || want == 0 || is_spent handle) may in
    let second = both (nat_le k want) (nat_le k (length handle.input)) first.0 in
    let size = length-take k handle.input in
    let empty : length (take k handle.input) ≡ 0 = ap length none in
    let fits : k ≤ length handle.input = (let test = second.1 in search (arith, nat_tests)) in
    let nought : k ≡ 0 = omega (arith, size, empty, fits) in
    let spent : is_spent handle ≡ true = (let test = first.1 in search (arith, nat_tests)) in
    subst (λ n. is_spent (without_front n handle) ≡ true) (sym nought) spent

-- So it is of the handle of a number.
pub ended_still : (world : List HandleState) (h want k : ℕ) → MayReceive world h want k → 1 ≤ want → take k (input_at world h) ≡ []
    → HasEnded (amended world h (without_front k)) h
ended_still world h want k may some none =
    ap (passes is_spent) (get-amended (without_front k) world h ∙ ap (option_map (without_front k)) may.flows.there)
    ∙ spent_of may.flows.handle want k may.may some
    (ap (λ found. take k (unwrap_or (option_map (λ handle. handle.input) found) [])) (sym may.flows.there) ∙ none)

-- A send of some bytes counts some.
pub send_counts : (offered k : ℕ) → 1 ≤ offered → may_send offered k ≡ true → k ≡ 0 → ⊥
send_counts offered k some may none = search (arith, nat_tests)

-- A call whose handles don't fit it, and that doesn't wait, doesn't block.
unfit_ends : (early fits : Bool) (why : Told) (rest : Option Told) → early ≡ false → fits ≡ false
    → answer_if early None (answer_if (not fits) (Some why) rest) ≡ None → ⊥
unfit_ends true fits why rest at_once unfit none = true≢false at_once
unfit_ends false true why rest at_once unfit none = true≢false unfit
unfit_ends false false why rest at_once unfit none = cc

-- A file gives no bytes in order.
file_kind : (kind : HandleKind) → is_file kind ≡ true → gives_bytes kind ≡ false
file_kind File one = refl
file_kind Stream one = absurd (true≢false (sym one))
file_kind Datagram one = absurd (true≢false (sym one))
file_kind Pipe one = absurd (true≢false (sym one))
file_kind Listener one = absurd (true≢false (sym one))

-- So no file gives bytes,
file_gives : (found : Option HandleState) → passes (λ handle. is_file handle.kind) found ≡ true
    → passes (λ handle. gives_bytes handle.kind) found ≡ false
file_gives None one = refl
file_gives (Some handle) one = file_kind handle.kind one

-- and each is read at once.
file_reads : (found : Option HandleState) → passes (λ handle. is_file handle.kind) found ≡ true → not (passes reads_at_once found) ≡ false
file_reads None one = absurd (true≢false (sym one))
file_reads (Some handle) one = ap (λ b. not (b || is_readable handle)) one

-- So a receive from a file doesn't block,
pub file_receives : (world : List HandleState) (h : ℕ) (buf : Rented) → is_file_at world h ≡ true
    → attempt world (call_of (Recv h (buffer_of_rent buf))) ≡ None → ⊥
file_receives world h buf one none =
    unfit_ends (not (passes reads_at_once (slice_get world h))) (passes (λ handle. gives_bytes handle.kind) (slice_get world h)) _ _
    (file_reads (slice_get world h) one) (file_gives (slice_get world h) one) none

-- nor does a send to it.
pub file_sends : (world : List HandleState) (h : ℕ) (buf : Rented) → is_file_at world h ≡ true
    → attempt world (call_of (Send h (buffer_of_rent buf))) ≡ None → ⊥
file_sends world h buf one none =
    unfit_ends false (passes (λ handle. gives_bytes handle.kind) (slice_get world h)) _ _ refl (file_gives (slice_get world h) one) none
