-- A call that handles in memory made, as an object whose calls don't wait shows it.
use Rattle.std.proofs.Common.{◌≡◌, ℕ, ◌+◌, ◌<◌, ◌≤◌, Bool, true, false, List, [], ◌∷◌, length, take, drop, min, Option, Some, None}
use Rattle.std.proofs.Common.{slice_get, refl, sym, ◌∙◌, ap, subst, arith}
use Rattle.std.specs.Prelude.{option_to_list, IfSome, OnOk, Result, Ok, Err, is_err}
use Rattle.std.proofs.lemmas.List.{length-append, length-take-le}
use Rattle.rent_buf.specs.Buffer.{Buffer}
use Rattle.rent_buf.specs.Parts.{Parts}
use Rattle.rent_buf.specs.Counts.{Rose}
use Rattle.machine.specs.declared.request.Request.{Request}
use Rattle.machine.specs.declared.request.Request.TheVariants.{Recv, ReadVec, Send, WriteVec, RecvMsg, SendMsg, Read, Write}
use Rattle.machine.specs.declared.request.Request.TheVariants.{SpliceTo, SpliceFrom, Accept, Open, Connect, Fsync, PollAdd, MkDir, Rename}
use Rattle.machine.specs.declared.request.Request.TheVariants.{Unlink}
use Rattle.machine.specs.declared.request.Told.{Told}
use Rattle.machine.specs.declared.request.Told.TheVariants.{Count, Fail}
use Rattle.machine.specs.declared.request.Outcome.{Outcome}
use Rattle.machine.specs.declared.request.Outcome.TheVariants.{Count as Counted, From, Made, Fail as Failed}
use Rattle.machine.specs.declared.world.HandleState.{HandleState}
use Rattle.machine.specs.Request.{named, call_of, makes, held_of, held_want, held_after, held, sent_of, IsHolding}
use Rattle.machine.specs.Outcome.{may_count}
use Rattle.machine.specs.declared.world.WorldError.{WorldError}
use Rattle.machine.specs.declared.world.WorldError.TheVariants.{BadHandleEvent, OutOfMemory}
use Rattle.machine.specs.World.{input_at, messages_at, with_end, Arrives, WorldEnds}
use Rattle.machine.specs.Effect.{count_effect, message_effect, made_by}
use Rattle.machine.specs.Attempt.{attempt, greatest, first_length}
use Rattle.machine.specs.WorldCall.{IsCalled, call_effect}
use Rattle.machine.proofs.Requests.{holding-same, made-makes}
use Rattle.machine.proofs.Amended.{length-amended}
use Rattle.machine.proofs.Turning.{grows-effect}
use Rattle.machine.proofs.Attempting.{attempt_allowed}
use Rattle.machine.proofs.Greatest.{greatest_count}
use Rattle.ready_driver.specs.Io.{FailRose, made_after, IsFilled, EndsFor, MayEnd, IsMoved, IsMade, KeepsShown, AreDue, CallsFor}
use Rattle.driver_core.specs.declared.operations.calls.CallAnswer.TheVariants.{WouldBlock}
use Rattle.ready_driver.specs.MemIo.{Memory, memory_view}
use Rattle.ready_driver.specs.Reports.{with_made_key}

-- Bytes that were read fill a request.
filled : (request now : Request Buffer Parts) (input : List ℕ) (k : ℕ) → k ≤ min (held_want (held_of request)) (length input) →
    IsHolding request (held_after request (take k input)) now → IsFilled request now k
filled request now input k most holds = record {
  bytes = take k input;
  count = length-take-le k input (omega (arith, most));
  wanted = omega (arith, most);
  holds = holds;
}

-- The first message fills a request; where there is none, no byte does.
received : (world : List HandleState) (fd : ℕ) (buf : Buffer) (now : Request Buffer Parts) (k : ℕ) (messages : List (ℕ × List ℕ)) →
    k ≤ min (held_want (held_of (RecvMsg fd buf))) (first_length messages) →
    IsHolding (RecvMsg fd buf) (held_after (RecvMsg fd buf) (message_effect world k (slice_get messages 0)).got) now →
    EndsFor (RecvMsg fd buf) now (message_effect world k (slice_get messages 0)).outcome
received world fd buf now k [] most holds =
    record { bytes = []; count = omega (arith, most); wanted = omega (arith, most); holds = holds }
received world fd buf now k (message ∷ messages) most holds = filled (RecvMsg fd buf) now message.1 k most holds

-- What became of a request with the greatest count of its call.
counted : (world : List HandleState) (request now : Request Buffer Parts) (k : ℕ) → k ≤ greatest world (call_of request) →
    IsHolding request (held_after request (count_effect world (call_of request) (sent_of request) k).got) now →
    EndsFor request now (count_effect world (call_of request) (sent_of request) k).outcome
counted world (Recv fd buf) now k most holds = filled (Recv fd buf) now (input_at world fd) k most holds
counted world (ReadVec fd parts) now k most holds = filled (ReadVec fd parts) now (input_at world fd) k most holds
counted world (RecvMsg fd buf) now k most holds = received _ fd buf now k (messages_at world fd) most holds
counted world (Read fd pos buf) now k most holds = filled (Read fd pos buf) now (drop pos (input_at world fd)) k most holds
counted world (Send fd buf) now k most holds = (most, holding-same (Send fd buf) now holds)
counted world (WriteVec fd parts) now k most holds = (most, holding-same (WriteVec fd parts) now holds)
counted world (SendMsg fd addr buf) now k most holds = (most, holding-same (SendMsg fd addr buf) now holds)
counted world (Write fd pos buf) now k most holds = (omega (arith, most), holding-same (Write fd pos buf) now holds)
counted world (SpliceTo fd pipe len) now k most holds = (omega (arith, most), holding-same (SpliceTo fd pipe len) now holds)
counted world (SpliceFrom pipe fd len) now k most holds = (omega (arith, most), holding-same (SpliceFrom pipe fd len) now holds)
counted world (Accept fd) now k most holds = (refl, holding-same (Accept fd) now holds)
counted world (Open path flags mode) now k most holds = (refl, holding-same (Open path flags mode) now holds)
counted world (Connect fd addr) now k most holds = (most, holding-same (Connect fd addr) now holds)
counted world (Fsync fd data_only) now k most holds = (most, holding-same (Fsync fd data_only) now holds)
counted world (PollAdd fd read) now k most holds = (most, holding-same (PollAdd fd read) now holds)
counted world (MkDir path mode) now k most holds = (most, holding-same (MkDir path mode) now holds)
counted world (Rename from to) now k most holds = (most, holding-same (Rename from to) now holds)
counted world (Unlink path remove_dir) now k most holds = (most, holding-same (Unlink path remove_dir) now holds)

-- A call that was made.
module _ (old : List HandleState) (request : Request Buffer Parts) (new : List HandleState) (now : Request Buffer Parts) (outcome : Outcome)
    (called : IsCalled old request new now outcome) where
  -- By what it reports: what became of the request, and that the machine allows it.
  by-told : (told : Told) → attempt old (call_of request) ≡ Some told →
      IsHolding request (held request told (call_effect old request told).got) now →
      EndsFor request now (call_effect old request told).outcome × MayEnd old request told
  by-told (Count k) made holds =
      let may : may_count old (call_of request) k ≡ true = attempt_allowed old (call_of request) (Count k) made false in
      (counted old request now k (greatest_count old (call_of request) k may) holds, may)
  by-told (Fail e) made holds = (holding-same request now holds, tt)

  -- What became of the request.
  pub called-ends : EndsFor request now outcome
  called-ends = subst (EndsFor request now) (sym called.outcome_is) (by-told called.told called.made called.holds).0

  -- It moved what the machine moves.
  pub called-moved : IsMoved old request new now outcome
  called-moved = record {
    told = called.told;
    may = (by-told called.told called.made called.holds).1;
    outcome_is = called.outcome_is;
    world = called.world;
    holds = called.holds;
  }

  -- Only a request that makes handles made one.
  pub called-makes : (h : ℕ) → made_by outcome ≡ Some h → makes request ≡ true
  called-makes h made = made-makes old request called.told h (ap made_by (sym called.outcome_is) ∙ made)

  -- As many keys as handles stay, with one for what was made.
  pub called-keys : (keys : List (Option ℕ)) → length keys ≡ length old → length (with_made_key (made_by outcome) keys) ≡ length new
  called-keys keys same =
      by (made_by outcome) (made_by (call_effect old request called.told).outcome) (ap made_by called.outcome_is)
      (grows-effect old (call_of request) (sent_of request) called.told).count
    where
      by : (made done : Option ℕ) → made ≡ done → length (call_effect old request called.told).world ≡ length old + length
          (option_to_list done) →
          length (with_made_key made keys) ≡ length new
      by None other is count =
          let n = ap (λ m. length (option_to_list m)) is in
          let w = ap length called.world in
          omega (arith, same, count, n, w)
      by (Some h) other is count =
          let n = ap (λ m. length (option_to_list m)) is in
          let w = ap length called.world in
          let l = length-append keys (None ∷ []) in
          omega (arith, same, count, n, w, l)

  -- It has one handle more where one was made, and else as many.
  pub called-made : length new ≡ made_after outcome (length old)
  called-made =
      by outcome (ap length called.world ∙ (grows-effect old (call_of request) (sent_of request) called.told).count
      ∙ ap (λ o. length old + length (option_to_list (made_by o))) (sym called.outcome_is))
    where
      by : (outcome : Outcome) → length new ≡ length old + length (option_to_list (made_by outcome)) →
          length new ≡ made_after outcome (length old)
      by (Counted k) count = omega (arith, count)
      by (From k addr) count = omega (arith, count)
      by (Made h) count = omega (arith, count)
      by (Failed e) count = omega (arith, count)

-- A world in memory made a call.
pub memory-called : (old new : Memory) (request now : Request Buffer Parts) (outcome : Outcome) →
    IsCalled old.world request new.world now outcome → new.keys ≡ with_made_key (made_by outcome) old.keys → new.blocks ≡ old.blocks →
    new.closes ≡ old.closes → old.fails ≤ new.fails → FailRose outcome old.fails new.fails →
    KeepsShown (memory_view old) (memory_view new) → IsMade true true (memory_view old) request (memory_view new) now outcome
memory-called old new request now outcome called keys blocks closes later fails shown = record {
  later = record { faults = omega arith; blocks = omega (arith, blocks); fails = later };
  fails = fails;
  made = called-made old.world request new.world now outcome called;
  closes = closes;
  ends = called-ends old.world request new.world now outcome called;
  moved = λ told. called-moved old.world request new.world now outcome called;
  called = λ told. (called, keys);
  shown = λ told. shown;
}

-- A world in memory would have blocked.
pub memory-blocked : (old new : Memory) (request now : Request Buffer Parts) →
    (attempt old.world (call_of request) ≡ None) × (new.world ≡ old.world) × (now ≡ request) → new.keys ≡ old.keys →
    new.fails ≡ old.fails → new.closes ≡ old.closes → old.blocks ≤ new.blocks → Rose old.blocks new.blocks →
    KeepsShown (memory_view old) (memory_view new) →
    AreDue (memory_view new) (named request) → CallsFor true true (memory_view old) request (memory_view new) now WouldBlock
memory-blocked old new request now calls keys fails closes later rose shown due = (
  record {
    later = record { faults = omega arith; blocks = later; fails = omega (arith, fails) };
    same = calls.2;
    made = ap length calls.1;
    closes = closes;
    world = λ told. calls.1;
    keys = λ told. keys;
    shown = λ told. shown;
  },
  rose,
  λ told. (calls.0, due),
)

-- As many keys fit where one fits that may join them.
pub made-fits : (made : Option ℕ) (keys : List (Option ℕ)) (most : ℕ) → length keys ≤ most →
    ((h : ℕ) → made ≡ Some h → length keys < most) → length (with_made_key made keys) ≤ most
made-fits None keys most fits one = fits
made-fits (Some h) keys most fits one =
    let more = one h refl in
    let l = length-append keys (None ∷ []) in
    omega (arith, more, l)

-- What is so of each value that is there is so of one that may be.
pub if-some : {P : Type 0} (x : Option ℕ) → ((h : ℕ) → x ≡ Some h → P) → IfSome x (λ h. P)
if-some None each = tt
if-some (Some h) each = each h refl

-- What is so of an answer that is no error.
pub on-ok : {A F P : Type 0} (r : Result A F) → is_err r ≡ false → OnOk r P → P
on-ok (Ok x) no_error p = p
on-ok (Err e) no_error p = (let f : ⊥ = cc in absurd f)

-- What arrives on a handle leaves how many there are.
pub length-arrives : (refuses : HandleState → Bool) (change : HandleState → HandleState) (old : List HandleState) (h : ℕ)
    (new : List HandleState) (result : Result Unit WorldError) → Arrives refuses change old h new result → length new ≡ length old
length-arrives refuses change old h new (Ok done) is = ap length is.1 ∙ length-amended change old h
length-arrives refuses change old h new (Err BadHandleEvent) is = ap length is.1
length-arrives refuses change old h new (Err OutOfMemory) is = ap length is.1

-- So does its end.
pub length-ends : (old : List HandleState) (h : ℕ) (new : List HandleState) (result : Result Unit WorldError) → WorldEnds old h new result →
    length new ≡ length old
length-ends old h new (Ok done) is = ap length is.1 ∙ length-amended with_end old h
length-ends old h new (Err BadHandleEvent) is = ap length is.1
length-ends old h new (Err OutOfMemory) is = absurd is
